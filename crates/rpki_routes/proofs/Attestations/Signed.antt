-- ASPAs that are built and signed.
use Rattle.std.proofs.Common.{◌≡◌, ℕ, List, [], ◌∷◌, inl, inr, refl, ap, subst, sym, ◌∙◌}
use Rattle.rpki_basics.specs.Moment.{Moment}
use Rattle.rpki_basics.specs.declared.build.BuildError.{BuildError}
use Rattle.rpki_basics.specs.declared.limits.ProviderLimit.{ProviderLimit}
use Rattle.rpki_basics.specs.declared.signing.SigningError.{SigningError}
use Rattle.rpki_der.specs.declared.mode.Mode.{Mode}
use Rattle.rpki_faults.specs.Checks.{AllHold, ◌as_faults_of◌}
use Rattle.rpki_faults.specs.declared.overclaim.Overclaim.TheVariants.{Refuse}
use Rattle.rpki_faults.specs.declared.validation.ValidationError.TheVariants.{Verification}
use Rattle.rpki_faults.specs.Validated.{IsValidated}
use Rattle.rpki_faults.proofs.Order.{hold-join, hold-shown}
use Rattle.rpki_resources.specs.declared.block.Block.{Block}
use Rattle.rpki_resources.specs.declared.resources.Claim.TheVariants.{Explicit}
use Rattle.rpki_resources.specs.As.Form.{only}
use Rattle.rpki_resources.specs.Blocks.{Covers}
use Rattle.rpki_extensions.specs.declared.claims.Claims.{Claims}
use Rattle.rpki_certs.specs.Cert.{Certificate}
use Rattle.rpki_certs.specs.Inspect.{NamesNothing}
use Rattle.rpki_certs.specs.Validate.{AreValidated, IsResourceCert, IsValidatedUnder, Validated}
use Rattle.rpki_certs.specs.Verify.{Verdict}
use Rattle.rpki_lists.specs.Built.{IsNotBuilt}
use Rattle.rpki_sigobj.specs.Object.{SignedData}
use Rattle.rpki_sigobj.specs.Signed.Good.{IsGood}
use Rattle.rpki_sigobj.specs.Signed.{Whole, cert_in}
use Rattle.rpki_sigobj.specs.Validate.{object_validation}
use Rattle.rpki_sigobj.specs.Verify.{Digester}
use Rattle.rpki_signing.specs.Built.{Settings, IsBuilt, IsFit, NamesInDer, claims_of}
use Rattle.rpki_signing.specs.Built.{IsNotBuilt as IsUnsigned}
use Rattle.rpki_signing.specs.Content.{Passes, signing_error}
use Rattle.rpki_signing.proofs.Contents.{content-unsigned, object-unsigned}
use Rattle.rpki_signing.proofs.Valid.{built-valid}
use Rattle.rpki_routes.specs.Aspa.{Aspa, IsAttestation}
use Rattle.rpki_routes.specs.Aspa.Built.{aspa_checks}
use Rattle.rpki_routes.specs.Aspa.Checks.{AspaCovered, address_checks, aspa_claimed, aspa_kind}
use Rattle.rpki_routes.specs.Aspa.Checks.{ct_aspa, number_checks}
use Rattle.rpki_routes.specs.Aspa.Signed.{IsBuiltAspa, IsNotBuiltAspa, claiming}
use Rattle.rpki_routes.specs.Aspa.Written.{aspa_octets}
use Rattle.rpki_routes.proofs.Claimed.{are-validated}
use Rattle.rpki_routes.proofs.Attestations.Built.{passes}
use Rattle.rpki_routes.proofs.Attestations.Meaning.{aspa-means, claimed-number}

-- the object of an ASPA that was built, of a content that says it
pub aspa-built : (limit : ProviderLimit) (a content : Aspa) (handed told : Settings)
    (issuer : List ℕ) (digest : Digester) (s : SignedData) → content ≡ a → IsAttestation limit a
    → told ≡ claiming content handed
    → IsBuilt told issuer ct_aspa (aspa_octets content) (digest (aspa_octets content)) s
    → IsBuiltAspa limit a handed issuer (digest (aspa_octets a)) s
aspa-built limit a content handed told issuer digest s same is claims built = record {
  said = is;
  built =
      subst (λ (x : Aspa). IsBuilt (claiming x handed) issuer ct_aspa (aspa_octets x)
      (digest (aspa_octets x)) s) same
      (subst (λ (b : Settings). IsBuilt b issuer ct_aspa (aspa_octets content)
      (digest (aspa_octets content)) s) claims built);
}

-- why the content of an ASPA is not built is why the ASPA is not signed
pub aspa-unmade : (E : Type 0) (may : List ℕ → List ℕ → List ℕ → Type 0)
    (once : List ℕ → Type 0) (limit : ProviderLimit) (a : Aspa) (handed : Settings)
    (issuer digest : List ℕ) (e : BuildError) (f : SigningError E) → f ≡ signing_error {E = E} e
    → IsNotBuilt (aspa_checks limit a) ⊥ e → IsNotBuiltAspa may once limit a handed issuer digest f
aspa-unmade E may once limit a handed issuer digest e f is h =
    subst (λ (x : SigningError E). IsNotBuiltAspa may once limit a handed issuer digest x) (sym is)
    (content-unsigned E (aspa_checks limit a) ⊥
    (IsUnsigned may once (claiming a handed) issuer ct_aspa (aspa_octets a) digest) e h)

-- why the object of an ASPA is not built is why the ASPA is not signed
pub aspa-unsigned : (E : Type 0) (may : List ℕ → List ℕ → List ℕ → Type 0)
    (once : List ℕ → Type 0) (limit : ProviderLimit) (a content : Aspa) (handed told : Settings)
    (issuer : List ℕ) (digest : Digester) (e : SigningError E) → content ≡ a → IsAttestation limit a
    → told ≡ claiming content handed
    → IsUnsigned may once told issuer ct_aspa (aspa_octets content) (digest (aspa_octets content)) e
    → IsNotBuiltAspa may once limit a handed issuer (digest (aspa_octets a)) e
aspa-unsigned E may once limit a content handed told issuer digest e same is claims h =
    let d : List ℕ = digest (aspa_octets a) in
    object-unsigned E may once (claiming a handed) issuer ct_aspa (aspa_octets a) d
    (aspa_checks limit a) ⊥
    (IsUnsigned may once (claiming a handed) issuer ct_aspa (aspa_octets a) d) e (passes limit a is)
    (λ (u : IsUnsigned may once (claiming a handed) issuer ct_aspa (aspa_octets a) d e). u)
    (subst (λ (x : Aspa). IsUnsigned may once (claiming x handed) issuer ct_aspa (aspa_octets x)
    (digest (aspa_octets x)) e) same
    (subst (λ (b : Settings). IsUnsigned may once b issuer ct_aspa (aspa_octets content)
    (digest (aspa_octets content)) e) claims h))

-- what the builder was told, it says of its names as it was handed in
pub claiming-names : (content : Aspa) (handed told : Settings) → told ≡ claiming content handed
    → NamesInDer told → NamesInDer handed
claiming-names content handed told claims names = subst NamesInDer claims names

-- the validated set of one number has it
validated-number : (n : ℕ) (issuer set : List (Block ℕ))
    → IsValidated (λ (m : ℕ). m) Refuse (Explicit (only n ∷ [])) issuer set
    → Covers (λ (m : ℕ). m) set (only n ∷ [])
validated-number n issuer set (inl v) = absurd (let e = v.0 in cc)
validated-number n issuer set (inr v) =
    subst (λ (s : List (Block ℕ)). Covers (λ (m : ℕ). m) s (only n ∷ []))
    (sym (v.2 ∙ v.1)) (λ (k : ℕ) h. h)

module _ (digest : Digester) (verdict : Verdict) (mode : Mode) (limit : ProviderLimit)
    (handed : Settings) (key : List ℕ) (o : Whole Aspa) (issuer : Validated) (now : Moment)
    (built : IsBuiltAspa limit o.content handed key (digest (aspa_octets o.content))
    o.object.signed)
    (fit : ¬ NamesNothing (claims_of (claiming o.content handed))
    → IsFit verdict (claiming o.content handed) key o.object.signed issuer now)
    (is : IsResourceCert issuer) where
  -- what the certificate claims
  abbrev Claimed : Claims
  Claimed = o.object.signed.cert.tbs.extensions.claims

  abbrev Told : Claims
  Told = claims_of (claiming o.content handed)

  claimed : Claimed ≡ Told
  claimed = ap (λ (c : Certificate). c.tbs.extensions.claims) built.built.cert

  named : ¬ NamesNothing Told
  named = λ (n : NamesNothing Told). let e = n.0 in cc

  valid : AllHold (object_validation digest verdict o.object.signed issuer now)
  valid = built-valid digest verdict (claiming o.content handed) key ct_aspa
      (aspa_octets o.content) o.object.signed issuer now built.built (fit named) is

  customer : AllHold (aspa_claimed o.content Claimed)
  customer =
      subst (λ (c : Claims). AllHold (aspa_claimed o.content c)) (sym claimed)
      (hold-join (number_checks o.content.customer Told.as_numbers) (address_checks Told)
      (claimed-number o.content.customer, ((refl, refl), tt)))

  module _ (v : Validated) (certificate : IsValidatedUnder (cert_in mode o) issuer v) where
    sets : AreValidated Claimed issuer.sets v.sets
    sets = are-validated mode o issuer v certificate

    covered : AspaCovered o.content Claimed v.sets
    covered =
        let s = subst (λ (c : Claims). AreValidated c issuer.sets v.sets) claimed sets in record {
          customer = ap (λ (c : Claims). c.as_numbers) claimed;
          v4 = ap (λ (c : Claims). c.addresses.v4) claimed;
          v6 = ap (λ (c : Claims). c.addresses.v6) claimed;
          held = validated-number o.content.customer issuer.sets.as_numbers v.sets.as_numbers
              s.as_numbers;
        }

    held : AllHold (aspa_kind.held o.content v.sets)
    held = (((aspa-means o.content).checks Claimed issuer.sets v.sets sets).1 covered).1

    pub aspa-good : IsGood aspa_kind mode digest verdict issuer now o v
    aspa-good = record { valid = valid; certificate = certificate; covered = covered }

  pub aspa-passes-all : Passes aspa_kind mode digest verdict issuer now o
  aspa-passes-all = record {
    before = hold-join (Verification as_faults_of aspa_claimed o.content Claimed)
        (object_validation digest verdict o.object.signed issuer now)
        (hold-shown Verification (aspa_claimed o.content Claimed) customer, valid);
    held = held;
  }
