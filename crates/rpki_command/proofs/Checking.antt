-- What a check answers, where nobody asks whether a certificate was revoked.
use Rattle.std.proofs.Common.{◌≡◌, ◌≤◌, ℕ, List, [], ◌∷◌, Result, Ok, Err, inl, inr}
use Rattle.std.proofs.Common.{subst, sym, arith, length, get_or, take, drop, ◌-◌}
use Rattle.std.proofs.lemmas.List.{take_rest}
use Rattle.std.specs.Prelude.{◌⊎◌}
use Rattle.rpki_der.specs.declared.mode.Mode.{Mode}
use Rattle.rpki_basics.specs.Moment.{Moment}
use Rattle.rpki_faults.specs.Checks.{Check}
use Rattle.rpki_faults.specs.declared.validation.ValidationError.{ValidationError}
use Rattle.rpki_faults.specs.declared.validation.ValidationError.TheVariants.{Memory}
use Rattle.rpki_certs.specs.Cert.{KeptCertificate}
use Rattle.rpki_certs.specs.Validate.{Sets, Validated}
use Rattle.rpki_certs.specs.Verify.{Verdict}
use Rattle.rpki_signed.specs.Check.{Checks}
use Rattle.rpki_signed.specs.Exact.{IsExact}
use Rattle.rpki_signed.specs.declared.check.CheckError.{CheckError}
use Rattle.rpki_signed.specs.declared.check.CheckError.TheVariants.{Decode, Validation}
use Rattle.rpki_sigobj.specs.Verify.{Digester}
use Rattle.rpki_sigobj.specs.Signed.Good.{IsNotGood}
use Rattle.rpki_sigobj.specs.Signed.Kind.{ObjectKind}
use Rattle.rpki_sigobj.specs.Signed.Process.{AnswersAsked}
use Rattle.rpki_sigobj.specs.Signed.{Whole, cert_in}

asked-more : {X : Type 0} (before : List (Check ValidationError)) (IsValid : Validated → Type 0)
    (Says More : Result (Unit {0}) ValidationError → Type 0)
    (held : Sets → List (Check ValidationError)) (content : X)
    (result : Result (Validated × X) ValidationError)
    → ((said : Result (Unit {0}) ValidationError) → Says said → More said)
    → AnswersAsked before IsValid Says held content result
    → AnswersAsked before IsValid More held content result
asked-more before IsValid Says More held content result more (inl e) = inl e
asked-more before IsValid Says More held content result more (inr a) = inr (record {
  valid = a.valid;
  said = a.said;
  asked = λ all. let p = a.asked all in (p.0, more a.said p.1);
  first = a.first;
})

module _ {X : Type 0} (kind : ObjectKind X) (form : List ℕ → X → Type 0) (mode : Mode)
    (digest : Digester)
    (verdict : Verdict) (issuer : Validated) (now : Moment)
    (Says More : KeptCertificate → Result (Unit {0}) ValidationError → Type 0)
    (more : (k : KeptCertificate) (said : Result (Unit {0}) ValidationError)
    → Says k said → More k said)
    (octets : List ℕ) where
  -- what is known of what was said may be weakened
  pub first-more : (result : Result (Validated × X) CheckError)
      → Checks kind form mode digest verdict issuer now Says octets result
      → Checks kind form mode digest verdict issuer now More octets result
  first-more (Ok a) h = record {
    object = h.object;
    rest = h.rest;
    front = h.front;
    holds = asked-more _ _ _ _ _ _ _ (more _) h.holds;
  }
  first-more (Err (Decode e)) h = h
  first-more (Err (Validation fault)) h = record {
    object = h.object;
    rest = h.rest;
    front = h.front;
    holds = asked-more _ _ _ _ _ _ _ (more _) h.holds;
  }

  no-more : (o : Whole X) (fault : ValidationError)
      → (fault ≡ Memory)
      ⊎ IsNotGood kind mode digest verdict issuer now (Says (cert_in mode o)) o fault
      → (fault ≡ Memory)
      ⊎ IsNotGood kind mode digest verdict issuer now (More (cert_in mode o)) o fault
  no-more o fault (inl e) = inl e
  no-more o fault (inr n) = inr (λ v good. more _ _ (n v good))

  pub exact-more : (result : Result (Validated × X) CheckError)
      → IsExact kind form mode digest verdict issuer now Says octets result
      → IsExact kind form mode digest verdict issuer now More octets result
  exact-more (Ok a) h = record {
    object = h.object;
    rest = h.rest;
    front = h.front;
    holds = let p = h.holds in (more _ _ p.0, p.1, p.2);
  }
  exact-more (Err (Decode e)) h = h
  exact-more (Err (Validation fault)) h = record {
    object = h.object;
    rest = h.rest;
    front = h.front;
    holds = no-more h.object fault h.holds;
  }

-- ---- files

two : {T : Type 0} (xs : List T) (a b : T) → 2 ≤ length xs → a ≡ get_or xs 0 a
    → b ≡ get_or xs 1 b → xs ≡ a ∷ b ∷ drop 2 xs
two [] a b l e f = absurd (omega arith)
two (x ∷ []) a b l e f = absurd (omega arith)
two (x ∷ y ∷ rest) a b l e f = let p : a ≡ x = e in let q : b ≡ y = f in rw (p, q)

-- what holds of the octets of the first two files and of the others holds of those of all
pub of-two : (P : List (List ℕ) → Type 0) (files : List (List ℕ)) (object verdicts : List ℕ)
    → 2 ≤ length files → object ≡ get_or files 0 object → verdicts ≡ get_or files 1 verdicts
    → P (object ∷ verdicts ∷ take (length files - 2) (drop 2 files)) → P files
of-two P files object verdicts l i j h =
    subst P (sym (two files object verdicts l i j))
    (subst (λ (tail : List (List ℕ)). P (object ∷ verdicts ∷ tail)) (take_rest files 2) h)

three : {T : Type 0} (xs : List T) (a b c : T) → 3 ≤ length xs → a ≡ get_or xs 0 a
    → b ≡ get_or xs 1 b → c ≡ get_or xs 2 c → xs ≡ a ∷ b ∷ c ∷ drop 3 xs
three [] a b c l e f g = absurd (omega arith)
three (x ∷ []) a b c l e f g = absurd (omega arith)
three (x ∷ y ∷ []) a b c l e f g = absurd (omega arith)
three (x ∷ y ∷ z ∷ rest) a b c l e f g =
    let p : a ≡ x = e in
    let q : b ≡ y = f in
    let r : c ≡ z = g in rw (p, q, r)

-- the same of the first three files
pub of-three : (P : List (List ℕ) → Type 0) (files : List (List ℕ))
    (object verdicts anchor : List ℕ) → 3 ≤ length files → object ≡ get_or files 0 object
    → verdicts ≡ get_or files 1 verdicts → anchor ≡ get_or files 2 anchor
    → P (object ∷ verdicts ∷ anchor ∷ take (length files - 3) (drop 3 files)) → P files
of-three P files object verdicts anchor l i j k h =
    subst P (sym (three files object verdicts anchor l i j k))
    (subst (λ (tail : List (List ℕ)). P (object ∷ verdicts ∷ anchor ∷ tail))
    (take_rest files 3) h)
