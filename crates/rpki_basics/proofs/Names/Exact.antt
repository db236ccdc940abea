-- Names are read exactly.
use Rattle.rpki_der.specs.Tags.{SEQUENCE}
use Rattle.std.proofs.Common.{◌≡◌, ℕ, List, [], ◌++◌, Some, refl, sym, ap, subst}
use Rattle.std.proofs.Common.{◌∙◌}
use Rattle.std.proofs.lemmas.List.{append-nil}
use Rattle.rpki_der.specs.declared.mode.Mode.{Mode}
use Rattle.rpki_der.specs.Read.Parse.{in_value, skip_all_at, taken, there, all_of, skip_at}
use Rattle.rpki_der.specs.Read.Exact.{IsExact, IsReading, anything}
use Rattle.rpki_der.specs.Grammar.{Skipped, ListOf, IsBytes}
use Rattle.rpki_der.proofs.Reading.Lengths.{bind_some, some_is}
use Rattle.rpki_der.proofs.Reading.Exact.{the_end, exact-in}
use Rattle.rpki_der.proofs.Reading.Skips.{skip-all-sound, skip-all-complete}
use Rattle.rpki_der.proofs.Reading.Unique.{before, reading, within-ber, items-as, skipped-ber}
use Rattle.rpki_der.specs.declared.mode.Mode.TheVariants.{Der, Ber}
use Rattle.rpki_der.specs.Form.Law.{nothing, is, IsPart}
use Rattle.rpki_der.proofs.Form.Fields.{starts-value}
use Rattle.rpki_der.proofs.Form.Words.{part}
use Rattle.std.specs.Prelude.{Result, Ok, IfOk}
use Rattle.rpki_der.specs.declared.error.DecodeError.{DecodeError}
use Rattle.rpki_der.specs.Captured.{Kept}
use Rattle.rpki_der.specs.Read.State.{State}
use Rattle.rpki_der.specs.Read.Reads.{Reads}
use Rattle.rpki_der.proofs.Reading.Calls.{reads-ok}
use Rattle.rpki_basics.specs.Name.{IsName, NameForm, name_at}

-- what is skipped up to the end
exact-skip_all : (mode : Mode)
    → IsExact the_end (skip_all_at mode) (λ o _. ListOf (Skipped mode 32) o)
exact-skip_all mode = record {
  sound = λ b x r bytes e.
      let t = bind_some (there (all_of (skip_at 32) mode b)) (λ u. Some (u, [])) (x, r) e in
      let q : (let u : Unit {0} × List ℕ = (t.0, []) in u) ≡ (x, r) = some_is _ _ t.2 in
      let nothing : [] ≡ r = ap (λ (u : Unit {0} × List ℕ). u.1) q in (
        b,
        sym (append-nil b)
            ∙ ap (λ (z : List ℕ). b ++ z) nothing,
        skip-all-sound mode b bytes
            (subst (λ (z : List ℕ). skip_all_at mode b ≡ Some (tt, z)) (sym nothing) e),
      );
  complete = λ o x r er h. rw er (rw (append-nil o) (skip-all-complete mode o h));
}

pub exact-name : (mode : Mode) → IsExact anything (name_at mode) (NameForm mode)
exact-name mode =
    let e = exact-in SEQUENCE skip_all_at mode (λ o _. ListOf (Skipped mode 32) o)
    (exact-skip_all mode) in
    record {
      sound = λ b k r bytes h.
          let v = bind_some (in_value SEQUENCE skip_all_at mode b) _ (k, r) h in
          let q : (let t : List ℕ × List ℕ = (taken b v.0.1, v.0.1) in
          t) ≡ (k, r) = some_is _ _ v.2 in
          let f = e.sound b v.0.0 v.0.1 bytes v.1 in
          let all : taken b v.0.1 ≡ f.0 = ap (λ (t : List ℕ). taken t v.0.1) f.1
          ∙ before f.0 v.0.1 in (
            f.0,
            f.1 ∙ ap (λ (t : List ℕ × List ℕ). f.0 ++ t.1) q,
            (sym (ap (λ (t : List ℕ × List ℕ). t.0) q) ∙ all, f.2),
          );
      complete = λ o k r _ h. rw (e.complete o tt r tt h.1)
          (ap (λ (t : List ℕ). (let s = Some (t, r) in s)) (before o r ∙ sym h.0));
    }

name-ber : (o kept : List ℕ) → NameForm Der o kept → NameForm Ber o kept
name-ber o kept h = (
  h.0,
  within-ber SEQUENCE (ListOf (Skipped Der 32)) (ListOf (Skipped Ber 32))
      (λ c l. (
        l.0,
        items-as (λ d (_ : Unit {0}). Skipped Der 32 d) (λ d _. Skipped Ber 32 d)
            (λ d _ s. skipped-ber 32 d s) c l.0 l.1,
      )) o h.1,
)

pub name-reading : IsReading name_at NameForm
name-reading = reading name_at NameForm exact-name name-ber
    (λ mode o kept h. (SEQUENCE, h.1.0, h.1.1))

pub name-part : IsPart (is SEQUENCE) nothing name_at NameForm
name-part =
    part (is SEQUENCE) name-reading
    (λ mode o kept h. starts-value mode SEQUENCE o h.1.0 h.1.1)

-- what was read is a name
pub is-name : (mode : Mode) (b kept rest : List ℕ) → IsBytes b → name_at mode b ≡ Some (kept, rest)
    → IsName mode kept
is-name mode b kept rest bytes e =
    let f = (exact-name mode).sound b kept rest bytes e in
    subst (IsName mode) (sym f.2.0) f.2.1

-- what is a name in DER is read in both modes
pub name-read : (mode : Mode) (octets rest : List ℕ) → IsName Der octets
    → name_at mode (octets ++ rest) ≡ Some (octets, rest)
name-read Der octets rest h = (exact-name Der).complete octets octets rest tt (refl, h)
name-read Ber octets rest h =
    (exact-name Ber).complete octets octets rest tt (name-ber octets octets (refl, h))

-- what was captured is a name
pub name-of : (old : State) (result : Result Kept DecodeError) (n : Kept) (new : State)
    → IsBytes old.rest → Reads (λ n. n.octets) name_at old result new
    → IfOk result (λ n. n.mode ≡ old.mode) → result ≡ Ok n → IsName n.mode n.octets
name-of old result n new bytes reads mode is =
    let r = reads-ok (λ (k : Kept). k.octets) name_at old n new (rw is at reads) in
    let m : n.mode ≡ old.mode = rw is at mode in
    subst (λ m. IsName m n.octets) (sym m)
    (is-name old.mode old.rest n.octets new.rest bytes r.found)
