-- The lines of a certificate (RFC 6487).
use Rattle.std.specs.Prelude.{ℕ, List, [], ◌++◌, Bool, true, false, Option, Some, None, codes, map}
use Rattle.std.specs.List.{flat_map}
use Rattle.rpki_certs.specs.Cert.{Certificate, Tbs}
use Rattle.rpki_extensions.specs.declared.access.SubjectAccess.{SubjectAccess}
use Rattle.rpki_extensions.specs.declared.claims.Claims.{Claims}
use Rattle.rpki_extensions.specs.declared.keys.KeyFacts.{KeyFacts}
use Rattle.rpki_extensions.specs.declared.locations.Locations.{Locations}
use Rattle.rpki_resources.specs.Ip.{ip_block}
use Rattle.rpki_resources.specs.Text.{block_text}
use Rattle.rpki_resources.specs.declared.block.Block.{Block}
use Rattle.rpki_resources.specs.declared.family.AddressFamily.TheVariants.{Ipv4, Ipv6}
use Rattle.rpki_resources.specs.declared.ip.IpBlock.{IpBlock}
use Rattle.rpki_resources.specs.declared.resources.Claim.{Claim}
use Rattle.rpki_resources.specs.declared.resources.Claim.TheVariants.{Missing, Inherit, Explicit}
use Rattle.rpki_show.specs.Texts.Blocks.{as_lines}
use Rattle.rpki_show.specs.Texts.Named.{serial_line, moment_line, key_line, uri_line}

-- the line of the identifier of the issuer's key, where there is one
unfoldable pub authority_line : Option (List ℕ) → List ℕ
authority_line (Some id) = key_line (codes "authority-key-id") id
authority_line None = []

-- the line of what its subject is: a CA, where the basic constraints say so (RFC 6487, section
-- 4.8.1), or an end entity
unfoldable pub subject_line : Option Bool → List ℕ
subject_line (Some true) = codes "ca\n"
subject_line (Some false) = codes "ee\n"
subject_line None = codes "ee\n"

-- the identifier of its key, that of its issuer's, and what its subject is
abbrev pub key_text : KeyFacts → List ℕ
key_text k = key_line (codes "key-id") k.subject_key
    ++ (authority_line k.authority_key ++ subject_line k.basic_ca)

-- what is to be had from the subject, each under the name of its access method
abbrev pub access_text : SubjectAccess → List ℕ
access_text a = uri_line (codes "ca-repository") a.ca_repository
    ++ (uri_line (codes "rpki-manifest") a.rpki_manifest
    ++ (uri_line (codes "rpki-notify") a.rpki_notify
    ++ uri_line (codes "signed-object") a.signed_object))

-- where something lies, the certificate of the issuer and its revocation list at the end
abbrev pub locations_text : Locations → List ℕ
locations_text l = access_text l.subject
    ++ (uri_line (codes "ca-issuers") l.ca_issuer ++ uri_line (codes "crl") l.crl)

-- the line of a block of IPv4 addresses
abbrev pub ipv4_line : IpBlock → List ℕ
ipv4_line b = codes "ipv4 " ++ (block_text Ipv4 b ++ codes "\n")

-- the line of a block of IPv6 addresses
abbrev pub ipv6_line : IpBlock → List ℕ
ipv6_line b = codes "ipv6 " ++ (block_text Ipv6 b ++ codes "\n")

-- a line for each block of IPv4 addresses
abbrev pub ipv4_lines : List (Block ℕ) → List ℕ
ipv4_lines set = flat_map ipv4_line (map ip_block set)

-- a line for each block of IPv6 addresses
abbrev pub ipv6_lines : List (Block ℕ) → List ℕ
ipv6_lines set = flat_map ipv6_line (map ip_block set)

-- the lines of a claim: none where the family is missing, one of what is inherited, and else one
-- for each block
unfoldable pub claim_lines : List ℕ → (List (Block ℕ) → List ℕ) → Claim (List (Block ℕ)) → List ℕ
claim_lines inherited lines Missing = []
claim_lines inherited lines Inherit = inherited
claim_lines inherited lines (Explicit set) = lines set

-- the AS numbers, the IPv4 and the IPv6 addresses that are claimed
abbrev pub claims_text : Claims → List ℕ
claims_text c = claim_lines (codes "as inherit\n") as_lines c.as_numbers
    ++ (claim_lines (codes "ipv4 inherit\n") ipv4_lines c.addresses.v4
    ++ claim_lines (codes "ipv6 inherit\n") ipv6_lines c.addresses.v6)

-- the serial number and the validity
abbrev pub issued_text : Tbs → List ℕ
issued_text t = serial_line (codes "serial") t.serial_number
    ++ (moment_line (codes "valid-from") t.validity.not_before
    ++ moment_line (codes "valid-until") t.validity.not_after)

-- the serial number and the validity, and what the extensions say of keys, of places and of numbers
abbrev pub facts_text : Certificate → List ℕ
facts_text c = issued_text c.tbs
    ++ (key_text c.tbs.extensions.key ++ (locations_text c.tbs.extensions.locations
    ++ claims_text c.tbs.extensions.claims))

-- the name of the kind, and what the certificate says
abbrev pub certificate_text : Certificate → List ℕ
certificate_text c = codes "certificate\n" ++ facts_text c
