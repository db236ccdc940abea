-- Revocation lists of an issuer.
use Rattle.std.specs.Prelude.{◌≡◌, ℕ, ◌≤◌, List, [], ◌∷◌, Bool, true, false, Result, Ok, Err}
use Rattle.rpki_der.specs.declared.error.DecodeError.TheVariants as decoding
use Rattle.rpki_der.specs.declared.mode.Mode.TheVariants.{Der}
use Rattle.rpki_der.specs.Grammar.{HasNoFront}
use Rattle.rpki_der.specs.Read.Reads.{Refuses}
use Rattle.rpki_basics.specs.Moment.{Moment, stamp}
use Rattle.rpki_faults.specs.Checks as checks
use Rattle.rpki_faults.specs.Checks.{AllHold, IsFirstFault, ◌unless◌}
use Rattle.rpki_certs.specs.Issuer.{BeginsWithCert}
use Rattle.rpki_certs.specs.Validate.{Validated}
use Rattle.rpki_crls.specs.Crl.{CrlForm, IsSignedBy, KeptCrl, RevocationList}
use Rattle.rpki_rsa.specs.Signature.{is_rsa_signature}
use Rattle.rpki_validation.specs.Revoked.{IsAt, IsList, IsListOf}
use Rattle.rpki_validation.specs.declared.grounds.Grounds.{Grounds}
use Rattle.rpki_validation.specs.declared.revocation_list.ListCheck.{ListCheck}
use Rattle.rpki_validation.specs.declared.revocation_list.ListCheck.TheVariants as lists
use Rattle.rpki_validation.specs.declared.revocation_list.ListFault.{ListFault}
use Rattle.rpki_validation.specs.declared.revocation_list.ListFault.TheVariants.{Check, Decode}

-- What is checked of a revocation list, in this order: it states the identifier of the issuer's key,
-- this key signed it, and it is current (RFC 6487, section 5; RFC 5280, section 6.3.3).
abbrev pub list_checks : Validated → Moment → RevocationList → List (checks.Check ListCheck)
list_checks issuer now list =
    (lists.OtherKey unless (list.tbs.extensions.authority_key
    ≡ issuer.cert.certificate.tbs.extensions.key.subject_key))
    ∷ (lists.BadSignature unless IsSignedBy is_rsa_signature issuer.cert.certificate.tbs.key list)
    ∷ (lists.NotYet list.tbs.this_update unless (stamp list.tbs.this_update ≤ stamp now))
    ∷ (lists.Stale list.tbs.next_update unless (stamp now ≤ stamp list.tbs.next_update))
    ∷ []

-- whether a fault is want of memory
abbrev pub is_memory_of_list : ListFault → Bool
is_memory_of_list (Decode decoding.Memory) = true
is_memory_of_list (Decode decoding.Malformed) = false
is_memory_of_list (Decode (decoding.Content fault)) = false
is_memory_of_list (Check fault) = false

-- What is answered of octets that may begin with the current list of the issuer of these grounds:
-- it, where each check holds; and else that they begin with none, unless memory ran out, or the
-- first check that fails.
abbrev pub IsListFound : Grounds → List ℕ → Result KeptCrl ListFault → Type 0
IsListFound g octets (Ok k) =
    IsList octets k.list × AllHold (list_checks g.issuer g.moment k.list)
IsListFound g octets (Err (Decode fault)) = Refuses fault (HasNoFront (CrlForm Der) octets)
IsListFound g octets (Err (Check fault)) = (list : RevocationList)
    × IsList octets list × IsFirstFault (list_checks g.issuer g.moment list) fault

-- The octets begin with the certificate of a CA for which the list counts.
abbrev pub CountsUnder : List ℕ → RevocationList → Type 0
CountsUnder octets list = BeginsWithCert octets (λ c. IsListOf c list)

-- The octets of one of these begin with such a certificate.
pub record CountsAmong (chain : List (List ℕ)) (list : RevocationList) : Type 0 where
  pub place : ℕ
  pub octets : List ℕ
  pub placed : IsAt chain place octets
  pub counts : CountsUnder octets list
