-- What a file tells by its kind, and what is spent on that.
use Rattle.std.proofs.Common.{◌≡◌, ◌⊎◌, inl, inr, ℕ, ◌+◌, ◌*◌, List, [], ◌∷◌, ◌++◌, length, map}
use Rattle.std.proofs.Common.{Result, Ok, Err, IfOk, MatchResult, refl, sym, subst, ap, ◌∙◌}
use Rattle.std.proofs.Common.{append_assoc, arith}
use Rattle.std.proofs.lemmas.List.{append-nil}
use Rattle.rpki_der.specs.declared.mode.Mode.TheVariants.{Der}
use Rattle.rpki_crls.specs.Crl.{RevocationList}
use Rattle.rpki_basics.specs.Moment.{Moment, Period}
use Rattle.rpki_certs.specs.Cert.{KeptCertificate}
use Rattle.rpki_certs.specs.Validate.{Validated, IsResourceCert}
use Rattle.rpki_certs.specs.declared.issuer.IssuerError.{IssuerError}
use Rattle.rpki_routes.specs.Aspa.{Aspa}
use Rattle.rpki_routes.specs.Aspa.Form.{AspaForm}
use Rattle.rpki_routes.specs.Aspa.Checks.{aspa_kind}
use Rattle.rpki_routes.specs.Roa.{Roa, addresses}
use Rattle.rpki_routes.specs.Roa.Form.{RoaForm}
use Rattle.rpki_routes.specs.Roa.Checks.{roa_kind}
use Rattle.rpki_signed.specs.Exact.{IsExact}
use Rattle.rpki_relying_party.specs.Costs.{payload_cost, waiting_cost, HeldCosts}
use Rattle.rpki_relying_party.specs.Judged.{IsJudged}
use Rattle.rpki_relying_party.specs.Memory.{IsIssuerMemory, plain_issuer}
use Rattle.rpki_relying_party.specs.Outcome.{IsOutcome, AppendsBoth, Puts}
use Rattle.rpki_relying_party.specs.Setting.{Setting}
use Rattle.rpki_relying_party.specs.Tells.{NamesPrefixesAlone, HasEntity, WhyNoRoa, WhyNoAspa}
use Rattle.rpki_relying_party.specs.Tells.{CaTells, KindTells, earlier, refusal}
use Rattle.rpki_relying_party.specs.Tells.{origins_said, providers_said}
use Rattle.rpki_relying_party.specs.Tells.{HasRoa, child_of}
use Rattle.rpki_relying_party.specs.Under.{SaysOf, IsCaUnder}
use Rattle.rpki_relying_party.specs.declared.cause.Cause.{Cause}
use Rattle.rpki_relying_party.specs.declared.cause.Cause.TheVariants as causes
use Rattle.rpki_relying_party.specs.declared.cause.Stop.{Stop}
use Rattle.rpki_relying_party.specs.declared.cause.Stop.TheVariants.{Room, Memory, Refused}
use Rattle.rpki_relying_party.specs.declared.files.Findings.{Findings}
use Rattle.rpki_relying_party.specs.declared.kind.ListedKind.{ListedKind}
use Rattle.rpki_relying_party.specs.declared.kind.ListedKind.TheVariants as kinds
use Rattle.rpki_relying_party.specs.declared.found.Finding.{Finding}
use Rattle.rpki_relying_party.specs.declared.place.Place.{Place}
use Rattle.rpki_relying_party.proofs.Certificates.{has-ca, has-no-ca, plain-ca}
use Rattle.rpki_relying_party.proofs.Objects.{has-content}
use Rattle.rpki_relying_party.proofs.OneTelling.{roa-not-refused, aspa-not-refused}
use Rattle.rpki_relying_party.proofs.Outcomes.{none-spent, outcome-as, outcome-of-memory}
use Rattle.rpki_relying_party.proofs.Putting.{first-put, second-put}

-- ---- payloads that are put one by one

module _ {A : Type 0} (said-of : A → Finding) (all : List Finding) (count : ℕ)
    (old : List Finding) (room : ℕ) where
  -- What was put, and what is left to be put, is all, and what is left in the room is for that.
  abbrev pub IsPaid : List A → List Finding → ℕ → Type 0
  IsPaid rest now left = (now ++ map said-of rest ≡ old ++ all)
      × (left + payload_cost * count ≡ room + payload_cost * length rest)

  pub none-paid : (rest : List A) → map said-of rest ≡ all → length rest ≡ count
      → IsPaid rest old room
  none-paid rest e f = (ap (λ (l : List Finding). old ++ l) e, omega (arith, f))

  -- one more is put
  module _ (x : A) (rest more : List A) (said : Finding) (now now2 : List Finding)
      (left left2 : ℕ) (next : more ≡ x ∷ rest) (paid : IsPaid more now left) where
    h : IsPaid (x ∷ rest) now left
    h = subst (λ (l : List A). IsPaid l now left) next paid

    pub one-paid : said ≡ said-of x → Puts payload_cost (said ∷ []) now now2 left left2 (Ok tt)
        → IsPaid rest now2 left2
    one-paid e p = (
      ap (λ (l : List Finding). l ++ map said-of rest)
          (p.1.0 ∙ ap (λ (y : Finding). now ++ y ∷ []) e)
          ∙ append_assoc now (said-of x ∷ []) (map said-of rest) ∙ h.0,
      omega (arith, h.1, p.1.1, p.2),
    )

    pub not-paid : (stop : Stop) → Puts payload_cost (said ∷ []) now now2 left left2 (Err stop)
        → Puts (payload_cost * count) all old now2 room left2 (Err stop)
    not-paid Room p = (payload_cost * count, refl, omega (arith, h.1, p.1, p.2))
    not-paid Memory p = tt
    not-paid (Refused cause) p = absurd (p.1)

  pub all-paid : (rest : List A) (now : List Finding) (left : ℕ) → rest ≡ []
      → IsPaid rest now left → Puts (payload_cost * count) all old now room left (Ok tt)
  all-paid rest now left e paid =
      let h = subst (λ (l : List A). IsPaid l now left) e paid in
      (payload_cost * count, (sym (append-nil now) ∙ h.0, refl), omega (arith, h.1))

-- ---- what a file tells

pub each-ok : {T E X : Type 0} (r : Result T E) → X → IfOk r (λ _. X)
each-ok (Ok d) x = x
each-ok (Err e) x = tt

-- until when a certificate holds, and what is above it
pub ends-with : (until u a : Moment) (v : Period) (k cert : KeptCertificate)
    → u ≡ earlier until a → a ≡ v.not_after → v ≡ k.certificate.tbs.validity → k ≡ cert
    → u ≡ earlier until cert.certificate.tbs.validity.not_after
ends-with until u a v k cert e f g h =
    e ∙ ap (λ (t : Moment). earlier until t) (f ∙ (ap (λ (w : Period). w.not_after) g
    ∙ ap (λ (l : KeptCertificate). l.certificate.tbs.validity.not_after) h))

module _ (s : Setting) (ca : Validated) (list : RevocationList) (until : Moment)
    (under uri octets : List ℕ) where
  -- what a kind tells, at this cost
  abbrev Tells : ListedKind → List Finding → List Place → ℕ → Type 0
  Tells kind said children cost = KindTells s ca list until under uri octets kind said children
      × HeldCosts s ca list kind octets cost

  module _ (cert : Validated) (roa : Roa) (h : IsExact roa_kind RoaForm Der s.digest s.verdict ca
      s.now (SaysOf list) octets (Ok (cert, roa))) where
    -- a ROA says its origins
    pub roa-told : NamesPrefixesAlone cert.cert.certificate.tbs.extensions.claims
        → Tells kinds.Roa
        (origins_said (earlier until cert.cert.certificate.tbs.validity.not_after) uri roa) []
        (payload_cost * length (addresses roa))
    roa-told alone =
        let good : HasRoa s ca list octets cert.cert.certificate roa =
        (has-content s roa_kind RoaForm ca list octets (cert, roa) h, alone) in (
          (inl (cert.cert.certificate, roa, good, refl), refl),
          inl ((cert.cert.certificate, roa), good, refl),
        )

    -- or is refused for its certificate
    pub roa-broad : (¬ NamesPrefixesAlone cert.cert.certificate.tbs.extensions.claims)
        → WhyNoRoa s ca list octets causes.RoaCertificate
    roa-broad broad = (
      cert.cert.certificate,
      roa,
      has-content s roa_kind RoaForm ca list octets (cert, roa) h,
      broad,
    )

  pub roa-refused : (cause : Cause) → WhyNoRoa s ca list octets cause
      → Tells kinds.Roa (refusal uri cause under ∷ []) [] 0
  roa-refused cause why = (
    (inr (cause, why, refl), refl),
    inr (λ o h. roa-not-refused s ca list octets (o.0) (o.1) h cause why, refl),
  )

  -- an ASPA says its providers
  pub aspa-told : (cert : Validated) (aspa : Aspa) → IsExact aspa_kind (AspaForm s.providers) Der
      s.digest s.verdict ca s.now (SaysOf list) octets (Ok (cert, aspa))
      → Tells kinds.Aspa
      (providers_said (earlier until cert.cert.certificate.tbs.validity.not_after) uri aspa) []
      (payload_cost * length aspa.providers)
  aspa-told cert aspa h =
      let good = has-content s aspa_kind (AspaForm s.providers) ca list octets (cert, aspa) h in (
        (inl (cert.cert.certificate, aspa, good, refl), refl),
        inl ((cert.cert.certificate, aspa), good, refl),
      )

  -- or is refused
  pub aspa-refused : (cause : Cause) → WhyNoAspa s ca list octets cause
      → Tells kinds.Aspa (refusal uri cause under ∷ []) [] 0
  aspa-refused cause why = (
    (inr (cause, why, refl), refl),
    inr (λ o h. aspa-not-refused s ca list octets (o.0) (o.1) h cause why, refl),
  )

  -- a child
  pub child-told : (v : Validated) → IsCaUnder s.verdict s.now ca list octets (Ok v)
      → IsResourceCert v → Tells kinds.Ca [] (child_of until under v ∷ []) (waiting_cost octets v)
  child-told v h r =
      let good = has-ca s ca list octets v h r in (inl (v, good, refl, refl), inl (v, good, refl))

  -- nothing is spent where there is none
  none-cost : (error : IssuerError) → IsCaUnder s.verdict s.now ca list octets (Err error)
      → (¬ IsIssuerMemory error) → HeldCosts s ca list kinds.Ca octets 0
  none-cost error h m = inr (λ v w. has-no-ca s ca list octets error h m v w, refl)

  -- no child: an end entity, or a refusal
  none-told : (error : IssuerError) → IsCaUnder s.verdict s.now ca list octets (Err error)
      → (¬ IsIssuerMemory error) → (old new : List Finding) (children : List Place)
      → (HasEntity octets × (new ≡ old))
      ⊎ ((¬ HasEntity octets)
      × (new ≡ old ++ refusal uri (causes.Certificate (plain_issuer error)) under ∷ []))
      → AppendsBoth (CaTells s ca list until under uri octets) old new children children
  none-told error h m old new children (inl e) =
      first-put (CaTells s ca list until under uri octets) old new [] children
      (inr (inl (has-no-ca s ca list octets error h m, e.0, refl, refl)))
      (e.1 ∙ sym (append-nil old))
  none-told error h m old new children (inr e) =
      let p = plain-ca s ca list octets error h m in
      let cause = causes.Certificate (plain_issuer error) in
      first-put (CaTells s ca list until under uri octets) old new (refusal uri cause under ∷ [])
      children (inr (inr (cause, (p.0, p.1, p.2, e.0), refl, refl))) (e.1)

  -- ---- what comes of that

  -- what comes of a file by its kind, under another name of it
  pub judged-as : (kind kind2 : ListedKind) → kind ≡ kind2 → (told told2 : Findings)
      (room left : ℕ) (r : Result (Unit {0}) Stop)
      → IsJudged s ca list until under uri octets kind told told2 room left r
      → IsJudged s ca list until under uri octets kind2 told told2 room left r
  judged-as kind kind2 e told told2 room left r h = subst (λ (k : ListedKind).
      IsJudged s ca list until under uri octets k told told2 room left r) e h

  module _ (kind : ListedKind) where
    abbrev Appends : List Finding → List Finding → List Place → List Place → Type 0
    Appends said said2 children children2 =
        AppendsBoth (KindTells s ca list until under uri octets kind) said said2 children children2

    -- what comes of it
    abbrev Judged : List Finding → List Finding → List Place → List Place → ℕ → ℕ
        → Result (Unit {0}) Stop → Type 0
    Judged said said2 children children2 room left r = IsOutcome (HeldCosts s ca list kind octets)
        (λ _ n. Appends said said2 children children2 × HeldCosts s ca list kind octets n)
        (λ cause n. ⊥) room left r

    module _ (said said2 : List Finding) (children children2 : List Place) (room : ℕ)
        (r : Result (Unit {0}) Stop) where
      -- it is put at a cost
      put-judged : (P : Type 0) (cost left : ℕ) → HeldCosts s ca list kind octets cost
          → (P → Appends said said2 children children2)
          → IsOutcome (λ n. n ≡ cost) (λ _ n. P × (n ≡ cost)) (λ cause n. ⊥) room left r
          → Judged said said2 children children2 room left r
      put-judged P cost left held appends h =
          outcome-as {A = λ n. n ≡ cost} (HeldCosts s ca list kind octets) (λ n e. costs n e)
          {V = λ cause n. ⊥} {W = λ cause n. ⊥} (λ cause n w. w) room left
          {Y = λ _ n. P × (n ≡ cost)}
          {Z = λ _ n. Appends said said2 children children2 × HeldCosts s ca list kind octets n}
          (λ _ n p. (appends (p.0), costs n (p.1))) r h
        where
          costs : (n : ℕ) → n ≡ cost → HeldCosts s ca list kind octets n
          costs n e =
              subst (λ (k : ℕ). HeldCosts s ca list kind octets k) (sym e) held

      -- or for nothing, unless memory ran out
      free-judged : (M P : Type 0)
          → ((¬ M) → P → Appends said said2 children children2 × HeldCosts s ca list kind octets 0)
          → IfOk r (λ _. ¬ M) → MatchResult r (λ _. P) (λ stop. stop ≡ Memory)
          → Judged said said2 children children2 room room r
      free-judged M P told = of r
        where
          of : (r : Result (Unit {0}) Stop) → IfOk r (λ _. ¬ M)
              → MatchResult r (λ _. P) (λ stop. stop ≡ Memory)
              → Judged said said2 children children2 room room r
          of (Ok d) m p = none-spent (λ n. Appends said said2 children children2
              × HeldCosts s ca list kind octets n) room (told m p)
          of (Err stop) m e = outcome-of-memory (HeldCosts s ca list kind octets)
              (λ (_ : Unit {0}) n. Appends said said2 children children2
              × HeldCosts s ca list kind octets n) (λ cause n. ⊥) room room stop e

    module _ (said said2 : List Finding) (children : List Place) (room : ℕ)
        (r : Result (Unit {0}) Stop) where
      -- payloads are put
      pub payloads-judged : (cost left : ℕ) (put : List Finding) → Tells kind put [] cost
          → Puts cost put said said2 room left r
          → Judged said said2 children children room left r
      payloads-judged cost left put told h =
          put-judged said said2 children children room r (said2 ≡ said ++ put) cost left (told.1)
          (λ e. first-put (KindTells s ca list until under uri octets kind) said said2 put children
          (told.0) e) h

      -- a refusal is
      pub refused-judged : (M : Type 0) (cause : Cause)
          → ((¬ M) → Tells kind (refusal uri cause under ∷ []) [] 0) → IfOk r (λ _. ¬ M)
          → MatchResult r (λ _. said2 ≡ said ++ refusal uri cause under ∷ [])
          (λ stop. stop ≡ Memory) → Judged said said2 children children room room r
      refused-judged M cause told m h =
          free-judged said said2 children children room r M
          (said2 ≡ said ++ refusal uri cause under ∷ []) (λ n e. (
            first-put (KindTells s ca list until under uri octets kind) said said2
                (refusal uri cause under ∷ []) children ((told n).0) e,
            (told n).1,
          )) m h

  -- a child is put
  pub child-judged : (v : Validated) → IsCaUnder s.verdict s.now ca list octets (Ok v)
      → IsResourceCert v → (cost : ℕ) → cost ≡ waiting_cost octets v → (said : List Finding)
      (children children2 : List Place) (room left : ℕ) (r : Result (Unit {0}) Stop)
      → Puts cost (child_of until under v ∷ []) children children2 room left r
      → Judged kinds.Ca said said children children2 room left r
  child-judged v h i cost e said children children2 room left r p =
      let told = child-told v h i in
      put-judged kinds.Ca said said children children2 room r
      (children2 ≡ children ++ child_of until under v ∷ []) cost left
      (subst (λ (n : ℕ). HeldCosts s ca list kinds.Ca octets n) (sym e) (told.1))
      (λ f. second-put (CaTells s ca list until under uri octets) said children children2
      (child_of until under v) (told.0) f) p

  -- or there is none
  pub none-judged : (error : IssuerError) → IsCaUnder s.verdict s.now ca list octets (Err error)
      → (said said2 : List Finding) (children : List Place) (room : ℕ)
      (r : Result (Unit {0}) Stop) → IfOk r (λ _. ¬ IsIssuerMemory error)
      → MatchResult r (λ _. (HasEntity octets × (said2 ≡ said)) ⊎ ((¬ HasEntity octets)
      × (said2 ≡ said ++ refusal uri (causes.Certificate (plain_issuer error)) under ∷ [])))
      (λ stop. stop ≡ Memory) → Judged kinds.Ca said said2 children children room room r
  none-judged error h said said2 children room r m p =
      free-judged kinds.Ca said said2 children children room r (IsIssuerMemory error)
      ((HasEntity octets × (said2 ≡ said)) ⊎ ((¬ HasEntity octets)
      × (said2 ≡ said ++ refusal uri (causes.Certificate (plain_issuer error)) under ∷ [])))
      (λ n q. (
        none-told error h n said said2 children q,
        none-cost error h n,
      )) m p
