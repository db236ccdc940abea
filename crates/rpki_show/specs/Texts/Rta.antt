-- The lines of an attestation (draft-michaelson-rpki-rta).
use Rattle.std.specs.Prelude.{ℕ, List, ◌++◌, codes, length, decimal}
use Rattle.std.specs.List.{flat_map}
use Rattle.rpki_der.specs.Text.Hex.{hex, upper_hex}
use Rattle.rpki_tagged.specs.Attestation.{Attestation}
use Rattle.rpki_multi.specs.Attestation.{Whole}
use Rattle.rpki_multi.specs.Multi.{MultiSigned}
use Rattle.rpki_show.specs.DatedRta.{DatedWhole}
use Rattle.rpki_show.specs.Texts.Blocks.{as_lines, v4_lines, v6_lines}
use Rattle.rpki_show.specs.Texts.Certificate.{certificate_text}
use Rattle.rpki_show.specs.Texts.Crl.{crl_text}

-- the line of a key that is to sign: its identifier, in upper hexadecimal
abbrev pub subject_line : List ℕ → List ℕ
subject_line id = codes "key " ++ (upper_hex id ++ codes "\n")

-- the line of the digest of the document, in lower hexadecimal
abbrev pub digest_line : List ℕ → List ℕ
digest_line digest = codes "digest " ++ (hex digest ++ codes "\n")

-- the name of the kind, a line for each key that is to sign, one for each block of AS numbers, of
-- IPv4 and of IPv6 addresses, and the digest
abbrev pub attestation_text : Attestation → List ℕ
attestation_text a = codes "rta\n" ++ (flat_map subject_line a.subject_keys
    ++ (as_lines a.as_resources ++ (v4_lines a.v4_resources ++ (v6_lines a.v6_resources
    ++ digest_line a.message_digest))))

-- the line of how many certificates are carried
abbrev pub certificates_line : ℕ → List ℕ
certificates_line n = codes "certificates " ++ (decimal n ++ codes "\n")

-- the line of how many revocation lists are carried
abbrev pub crls_line : ℕ → List ℕ
crls_line n = codes "crls " ++ (decimal n ++ codes "\n")

-- the line of how many have signed
abbrev pub signers_line : ℕ → List ℕ
signers_line n = codes "signers " ++ (decimal n ++ codes "\n")

-- how many certificates and revocation lists are carried, and how many have signed
abbrev pub carried_text : MultiSigned → List ℕ
carried_text m = certificates_line (length m.certs)
    ++ (crls_line (length m.crls) ++ signers_line (length m.signers))

-- the lines of the content, and those of what is carried with it
abbrev pub rta_text : Whole → List ℕ
rta_text r = attestation_text r.content ++ carried_text r.signed

-- the text of an attestation, then the lines of each certificate that is carried, and those of each
-- revocation list
abbrev pub whole_rta_text : DatedWhole → List ℕ
whole_rta_text r = rta_text r.rta
    ++ (flat_map certificate_text r.rta.signed.certs ++ flat_map crl_text r.lists)
