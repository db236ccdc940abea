-- What certification paths see of what an attestation carries (draft-michaelson-rpki-rta).
use Rattle.std.specs.Prelude.{◌==◌, ◌++◌, ℕ, List, Bool, true, false, Option, None, Some, ◌&&◌}
use Rattle.std.specs.Str.{bytes_eq}
use Rattle.std.specs.List.{list_any}
use Rattle.rpki_resources.specs.declared.resources.Claim.{Claim}
use Rattle.rpki_basics.specs.Moment.{Moment}
use Rattle.rpki_faults.specs.Checks.{Check, AllHold, ◌as_faults_of◌}
use Rattle.rpki_faults.specs.declared.family.Family.{Family}
use Rattle.rpki_faults.specs.declared.family.Family.TheVariants.{As, V4, V6}
use Rattle.rpki_faults.specs.declared.inspection.InspectionError.{InspectionError}
use Rattle.rpki_faults.specs.declared.validation.ValidationError.{ValidationError}
use Rattle.rpki_faults.specs.declared.validation.ValidationError.TheVariants.{Inspection}
use Rattle.rpki_faults.specs.declared.validation.ValidationError.TheVariants.{Verification}
use Rattle.rpki_extensions.specs.declared.claims.Claims.{Claims}
use Rattle.rpki_attributes.specs.Attrs.Made.{message_of}
use Rattle.rpki_certs.specs.Cert.{Certificate, Tbs}
use Rattle.rpki_certs.specs.Inspect.{ta_checks, ca_checks, detached_ee_checks}
use Rattle.rpki_certs.specs.Validate.{Sets}
use Rattle.rpki_certs.specs.Verify.{Verdict, IsInTime, validity_checks}
use Rattle.rpki_crls.specs.Crl.{RevocationList}
use Rattle.rpki_sigobj.specs.SignerInfo.{SignerInfo}
use Rattle.rpki_paths.specs.Cert.{Cert, Numbers}
use Rattle.rpki_paths.specs.Pairing.{Crl, Signer}

-- whether there is something
abbrev pub is_there : {T : Type 0} → Option T → Bool
is_there None = false
is_there (Some x) = true

-- whether the identifier of the issuer's key is missing, or this one
abbrev pub is_own : Option (List ℕ) → List ℕ → Bool
is_own None id = true
is_own (Some other) id = bytes_eq other id

-- whether the certificate is self-signed by its form (RFC 6487, section 4.8.3)
abbrev pub is_self_signed : Tbs → Bool
is_self_signed t = is_own t.extensions.key.authority_key t.extensions.key.subject_key

-- Whether the certificate is that of a CA: basic constraints are there (RFC 6487, section 4.8.1).
abbrev pub is_of_ca : Tbs → Bool
is_of_ca t = is_there t.extensions.key.basic_ca

-- what is inspected, by whether basic constraints are there, and whether it is self-signed
abbrev pub kind_checks : Bool → Bool → Tbs → List (Check InspectionError)
kind_checks false own t = detached_ee_checks t
kind_checks true true t = ta_checks t
kind_checks true false t = ca_checks t

-- What is inspected of a carried certificate, and then the moment: one without basic constraints as
-- that of an end entity that signed an object which need not be published, any other as that of a
-- trust anchor, where it is self-signed by its form, and else as that of a CA.
abbrev pub carried_checks : Tbs → Moment → List (Check ValidationError)
carried_checks t now =
    (Inspection as_faults_of kind_checks (is_of_ca t) (is_self_signed t) t)
    ++ (Verification as_faults_of validity_checks t.validity now)

-- The certificate fits the profile of its kind, and the moment lies in its validity.
abbrev pub IsValid : Tbs → Moment → Type 0
IsValid t now = AllHold (kind_checks (is_of_ca t) (is_self_signed t) t) × IsInTime t.validity now

-- what is claimed of a family
abbrev pub claims_of : Claims → Family → Claim Numbers
claims_of x As = x.as_numbers
claims_of x V4 = x.addresses.v4
claims_of x V6 = x.addresses.v6

-- the set of a family
abbrev pub set_of : Sets → Family → Numbers
set_of s As = s.as_numbers
set_of s V4 = s.v4
set_of s V6 = s.v6

-- whether a revocation list has this serial number
abbrev pub lists : RevocationList → ℕ → Bool
lists l n = list_any (λ x. n == x) l.tbs.revoked

-- whether a revocation list is there and lists a serial number
abbrev pub listed_in : Option RevocationList → ℕ → Bool
listed_in None n = false
listed_in (Some l) n = lists l n

-- What paths see of a certificate that is valid, with the revocation list that is paired with it.
-- That it is valid is taken as given here, and is said beside what rests on it (`IsValid`). A valid
-- one passes the inspection of a trust anchor where it is that of a CA and self-signed by its form.
abbrev pub seen_cert : Verdict → Certificate → Option RevocationList → Cert
seen_cert verdict c list = record {
  place = 0;
  ski = c.tbs.extensions.key.subject_key;
  aki = c.tbs.extensions.key.authority_key;
  key = c.tbs.key;
  serial = c.tbs.serial_number;
  overclaim = c.tbs.extensions.claims.policy;
  claim = claims_of c.tbs.extensions.claims;
  verifies = λ key. verdict key c.signed c.signature;
  is_valid = true;
  is_anchor = is_of_ca c.tbs && is_self_signed c.tbs;
  revokes = listed_in list;
}

-- what paths see of a carried certificate, before it has a revocation list
abbrev pub seen_alone : Verdict → Certificate → Cert
seen_alone verdict c = seen_cert verdict c None

-- what pairings see of a revocation list
abbrev pub seen_crl : Verdict → RevocationList → Crl
seen_crl verdict l = record {
  aki = l.tbs.extensions.authority_key;
  serials = lists l;
  verifies = λ key. verdict key l.signed l.signature;
}

-- what pairings see of a signer of a content with this digest
abbrev pub seen_signer : Verdict → List ℕ → SignerInfo → Signer
seen_signer verdict digest s = record {
  sid = s.sid;
  digest_holds = bytes_eq s.attributes.message_digest digest;
  verifies = λ key. verdict key (message_of s.attributes) s.signature;
}
