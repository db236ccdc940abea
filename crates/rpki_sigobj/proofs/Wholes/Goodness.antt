-- What the answer of a check means, by the law of its kind.
use Rattle.std.proofs.Common.{◌≡◌, inr, List, ◌++◌, Result, Ok, Err, refl, sym, subst}
use Rattle.rpki_der.specs.declared.mode.Mode.{Mode}
use Rattle.rpki_basics.specs.Moment.{Moment}
use Rattle.rpki_faults.specs.Checks.{Check, AllHold, IsFirstFault}
use Rattle.rpki_faults.specs.declared.validation.ValidationError.{ValidationError}
use Rattle.rpki_faults.proofs.Order.{first-fails, first-one, first-join, hold-split, hold-join}
use Rattle.rpki_extensions.specs.declared.claims.Claims.{Claims}
use Rattle.rpki_certs.specs.Validate.{Validated, AreValidated, IsValidatedUnder}
use Rattle.rpki_certs.specs.Verify.{Verdict}
use Rattle.rpki_sigobj.specs.Verify.{Digester}
use Rattle.rpki_sigobj.specs.Signed.Good.{IsGood, IsNotGood, Means}
use Rattle.rpki_sigobj.specs.Signed.Kind.{ObjectKind}
use Rattle.rpki_sigobj.specs.Signed.Process.{IsProcessed}
use Rattle.rpki_sigobj.specs.Signed.Process.{validation, before_revocation, said_checks}
use Rattle.rpki_sigobj.specs.Signed.{Whole, cert_in}

are-validated : {X : Type 0} (mode : Mode) (o : Whole X) (issuer v : Validated)
    → IsValidatedUnder (cert_in mode o) issuer v
    → AreValidated o.object.signed.cert.tbs.extensions.claims issuer.sets v.sets
unfolding IsValidatedUnder
are-validated mode o issuer v h = h.1

module _ {X : Type 0} (kind : ObjectKind X) (mode : Mode) (digest : Digester) (verdict : Verdict)
    (issuer : Validated) (now : Moment) (o : Whole X) (means : Means kind o.content)
    (Says : Result (Unit {0}) ValidationError → Type 0) where
  abbrev claims : Claims
  claims = o.object.signed.cert.tbs.extensions.claims

  abbrev Claimed : List (Check ValidationError)
  Claimed = kind.claimed o.content claims

  abbrev Valid : List (Check ValidationError)
  Valid = validation kind.is_published digest verdict o.object.signed issuer now

  abbrev Asked : Result (Validated × X) ValidationError → Type 0
  Asked = IsProcessed (before_revocation kind digest verdict o issuer now)
      (IsValidatedUnder (cert_in mode o) issuer) Says (kind.held o.content) o.content

  -- all checks, where this was said of the certificate and these are its sets
  abbrev WithSaid : Validated → Result (Unit {0}) ValidationError → List (Check ValidationError)
  WithSaid v said = before_revocation kind digest verdict o issuer now
      ++ (said_checks said ++ kind.held o.content v.sets)

  -- a yes
  pub good : (a : Validated × X) → Asked (Ok a)
      → Says (Ok tt) × IsGood kind mode digest verdict issuer now o a.0
      × (a.1 ≡ o.content)
  good a h = of h.said refl
    where
      of : (said : Result (Unit {0}) ValidationError) → h.said ≡ said
          → Says (Ok tt) × IsGood kind mode digest verdict issuer now o a.0
          × (a.1 ≡ o.content)
      of (Err fault) e = absurd
          (hold-split (before_revocation kind digest verdict o issuer now)
          (said_checks (Err fault) ++ kind.held o.content h.valid.sets) (rw e at h.first.0)).1.0
      of (Ok done) e =
          let s = hold-split (before_revocation kind digest verdict o issuer now)
          (said_checks (Ok done) ++ kind.held o.content h.valid.sets) (rw e at h.first.0) in
          let front = hold-split Claimed Valid s.0 in
          let asked = h.asked s.0 in
          let sets = are-validated mode o issuer h.valid asked.0 in (
            subst Says e asked.1,
            record {
              valid = front.1;
              certificate =
                  subst (IsValidatedUnder (cert_in mode o) issuer) (sym h.first.1.0) asked.0;
              covered = subst (λ (v : Validated). kind.covers o.content claims v.sets)
                  (sym h.first.1.0)
                  ((means.checks claims issuer.sets h.valid.sets sets).0 (front.0, s.1));
            },
            h.first.1.1,
          )

  -- a no
  pub not-good : (fault : ValidationError) → Asked (Err fault)
      → IsNotGood kind mode digest verdict issuer now Says o fault
  not-good fault h v g = of h.said refl
    where
      sets : AreValidated claims issuer.sets v.sets
      sets = are-validated mode o issuer v g.certificate

      before : AllHold (before_revocation kind digest verdict o issuer now)
      before = hold-join Claimed Valid
          (((means.checks claims issuer.sets v.sets sets).1 g.covered).0, g.valid)

      mine : AreValidated claims issuer.sets h.valid.sets
      mine = are-validated mode o issuer h.valid (h.asked before).0

      held : AllHold (kind.held o.content h.valid.sets)
      held = ((means.checks claims issuer.sets h.valid.sets mine).1
          (means.same claims issuer.sets v.sets h.valid.sets sets mine g.covered)).1

      -- what was said is what is answered
      told : (why : ValidationError) → h.said ≡ Err why → fault ≡ why
      told why e = first-one (WithSaid h.valid (Err why)) fault why
          (subst (λ (s : Result (Unit {0}) ValidationError).
          IsFirstFault (WithSaid h.valid s) fault) e h.first)
          (first-join (before_revocation kind digest verdict o issuer now)
          (said_checks (Err why) ++ kind.held o.content h.valid.sets) why
          (inr (before, inr ((λ none. none), refl))))

      of : (said : Result (Unit {0}) ValidationError) → h.said ≡ said
          → Says (Err fault)
      of (Err why) e = subst (λ (f : ValidationError). Says (Err f)) (sym (told why e))
          (subst Says e (h.asked before).1)
      of (Ok done) e = absurd (first-fails (before_revocation kind digest verdict o issuer now
          ++ (said_checks h.said ++ kind.held o.content h.valid.sets)) fault h.first
          (hold-join (before_revocation kind digest verdict o issuer now)
          (said_checks h.said ++ kind.held o.content h.valid.sets) (
            before,
            hold-join (said_checks h.said) (kind.held o.content h.valid.sets) (
              subst (λ (s : Result (Unit {0}) ValidationError). AllHold (said_checks s)) (sym e)
                  tt,
              held,
            ),
          )))
