-- Route Origin Authorizations as signed objects. The sections are those of RFC 9582, where no other
-- RFC is named.
use Rattle.std.specs.Prelude.{◌≡◌, ℕ, List, [], ◌∷◌, ◌++◌, All, true}
use Rattle.rpki_resources.specs.declared.block.Block.{Block}
use Rattle.rpki_resources.specs.declared.family.AddressFamily.{AddressFamily}
use Rattle.rpki_resources.specs.declared.family.AddressFamily.TheVariants.{Ipv4, Ipv6}
use Rattle.rpki_resources.specs.Blocks.{Covers, Holds}
use Rattle.rpki_resources.specs.Prefix.{Network, last_of}
use Rattle.rpki_faults.specs.Checks.{Check, ◌unless◌, ◌as_faults_of◌}
use Rattle.rpki_faults.specs.declared.validation.ValidationError.TheVariants.{Verification}
use Rattle.rpki_faults.specs.declared.verification.VerificationError.{VerificationError}
use Rattle.rpki_faults.specs.declared.verification.VerificationError.TheVariants as faults
use Rattle.rpki_certs.specs.Validate.{Sets}
use Rattle.rpki_routes.specs.Roa.{Address, Roa, of_family, max_len_prefix}
use Rattle.rpki_sigobj.specs.Signed.Kind.{ObjectKind}

-- id-ct-routeOriginAuthz, 1.2.840.113549.1.9.16.1.24 (3)
abbrev pub route_origin_authz : List ℕ
route_origin_authz =
    0x2A ∷ 0x86 ∷ 0x48 ∷ 0x86 ∷ 0xF7 ∷ 0x0D ∷ 0x01 ∷ 0x09 ∷ 0x10 ∷ 0x01 ∷ 0x18 ∷ []

-- the addresses that begin with the bits of a prefix
abbrev pub range_of : Network → Block ℕ
range_of p = record { min = p.addr; max = last_of p.addr p.len }

-- The set has each address of the prefix (5).
abbrev pub HasPrefix : List (Block ℕ) → Address → Type 0
HasPrefix set a = Covers (λ n. n) set (range_of a.prefix ∷ [])

-- the error for an uncovered prefix
abbrev pub uncovered : AddressFamily → Address → VerificationError
uncovered family a =
    faults.UncoveredPrefix (record { prefix = max_len_prefix (of_family family a) })

-- The certificate has every prefix of the family (5). The prefixes are checked in the order of the
-- ROA, which may be any.
abbrev pub prefix_checks : AddressFamily → List (Block ℕ) → List Address
    → List (Check VerificationError)
prefix_checks family set [] = []
prefix_checks family set (a ∷ others) =
    (uncovered family a unless HasPrefix set a) ∷ prefix_checks family set others

-- The set is empty.
abbrev pub HasNone : List (Block ℕ) → Type 0
HasNone set = (n : ℕ) → Holds (λ n. n) set n → ⊥

-- The prefixes of one family: if there are any, the certificate has an address of the family; then
-- each prefix is checked (5).
abbrev pub family_checks : AddressFamily → List (Block ℕ) → List Address
    → List (Check VerificationError)
family_checks family set list =
    (faults.NoPrefixCovered family unless (HasNone set → list ≡ []))
    ∷ prefix_checks family set list

-- The checks of a ROA against its validated certificate: the IPv4 prefixes, then the IPv6 ones.
abbrev pub roa_held : Roa → Sets → List (Check VerificationError)
roa_held r sets = family_checks Ipv4 sets.v4 r.v4 ++ family_checks Ipv6 sets.v6 r.v6

-- The certificate has all addresses of every prefix (5).
pub record RoaCovered (r : Roa) (sets : Sets) : Type 0 where
  pub v4 : All (HasPrefix sets.v4) r.v4
  pub v6 : All (HasPrefix sets.v6) r.v6

-- A ROA as a kind of signed object; it must be published, and its prefixes are checked against its
-- validated certificate (5). Section 5 forbids the certificate to inherit addresses or to name AS
-- numbers; accepting both is this project's own rule.
abbrev pub roa_kind : ObjectKind Roa
roa_kind = record {
  type = route_origin_authz;
  is_published = true;
  claimed = λ r x. [];
  held = λ r sets. Verification as_faults_of roa_held r sets;
  covers = λ r x sets. RoaCovered r sets;
}
