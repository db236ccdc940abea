-- A list is taken from a reader.
use Rattle.std.proofs.Common.{◌≡◌, ℕ, Bool, true, false, cond, List, Option, Some, None, Result}
use Rattle.std.proofs.Common.{Ok, Err, refl, ◌∙◌}
use Rattle.std.specs.Prelude.{unwrap_or}
use Rattle.rpki_der.specs.Tags.{SEQUENCE}
use Rattle.rpki_der.specs.declared.mode.Mode.{Mode}
use Rattle.rpki_der.specs.declared.mode.Mode.TheVariants.{Der}
use Rattle.rpki_der.specs.declared.error.DecodeError.{DecodeError}
use Rattle.rpki_der.specs.declared.error.DecodeError.TheVariants.{Malformed, Content}
use Rattle.rpki_der.specs.declared.error.ContentFault.{ContentFault}
use Rattle.rpki_der.specs.Read.State.{State, failing}
use Rattle.rpki_der.specs.Read.Parse.{Parser, ◌>>=◌, primitive, value_at, all_of, tested}
use Rattle.rpki_der.specs.Read.Reads.{Reads, IsAgain}
use Rattle.rpki_der.proofs.Reading.Calls.{reads-ok, err-as}
use Rattle.rpki_lists.specs.Entries.{entries_of, list_at}
use Rattle.rpki_lists.specs.Rules.{admits, CountsBy, lets_all}
use Rattle.rpki_lists.proofs.Counting.{free-admits}

module _ {X : Type 0} (p : Parser X) (test : List X → Bool) (mode : Mode) (b : List ℕ) where
  no-value : value_at SEQUENCE mode b ≡ None → tested test (list_at p) mode b ≡ None
  unfolding tested
  no-value e = rw e refl

  contents : (o : Option (List ℕ × List ℕ)) (c r : List ℕ)
      → ◌>>=◌ {B = List ℕ × List ℕ} o (λ v. Some (v.0, v.1)) ≡ Some (c, r) → o ≡ Some (c, r)
  contents None c r e = absurd cc
  contents (Some v) c r e = e

  nothing : (o : Option (List ℕ × List ℕ))
      → ◌>>=◌ {B = List ℕ × List ℕ} o (λ v. Some (v.0, v.1)) ≡ None → o ≡ None
  nothing None e = refl
  nothing (Some v) e = absurd cc

  admitted : (c r : List ℕ) (xs : List X) → value_at SEQUENCE mode b ≡ Some (c, r)
      → all_of p Der c ≡ Some xs → test xs ≡ true
      → tested test (list_at p) mode b ≡ Some (xs, r)
  unfolding tested
  admitted c r xs e a t = rw e (rw a (rw t refl))

  refused : (c r : List ℕ) (o : Option (List X)) → value_at SEQUENCE mode b ≡ Some (c, r)
      → all_of p Der c ≡ o → ((xs : List X) → o ≡ Some xs → test xs ≡ false)
      → tested test (list_at p) mode b ≡ None
  unfolding tested
  refused c r None e a h = rw e (rw a refl)
  refused c r (Some xs) e a h = rw e (rw a (rw (h xs refl) refl))

module _ {X : Type 0} (p : Parser X) (test : List X → Bool) (old : State) where
  -- the value could not be taken
  pub take-err : {T : Type 0} (view : T → List X) (e : DecodeError) (new : State)
      → Reads {T = List ℕ} (λ c. c) (primitive SEQUENCE Some) old (Err e) new
      → Reads {T = T} view (tested test (list_at p)) old (Err e) new
  take-err view e new h = (
    h.0,
    err-as (λ (c : List ℕ). c) view old.failed e new
        (primitive SEQUENCE Some old.mode old.rest)
        (tested test (list_at p) old.mode old.rest)
        (λ none. no-value p test old.mode old.rest
        (nothing p test old.mode old.rest (value_at SEQUENCE old.mode old.rest) none)) h.1,
  )

  -- its contents are entries that pass
  pub take-ok : (E : Type 0) (c : List ℕ) (n : ℕ) (l : List X) (new : State)
      → Reads (λ (d : List ℕ). d) (primitive SEQUENCE Some) old (Ok c) new
      → CountsBy {E = E} test (all_of p Der c) (Ok n) → l ≡ entries_of p c
      → Reads (λ (l : List X). l) (tested test (list_at p)) old (Ok l) new
  take-ok E c n l new h k same =
      let r = reads-ok (λ (d : List ℕ). d) (primitive SEQUENCE Some) old c new h in
      let there = contents p test old.mode old.rest (value_at SEQUENCE old.mode old.rest) c new.rest
      r.found in
      let all : entries_of p c ≡ k.0 = rw k.1 refl in
      let found = admitted p test old.mode old.rest c new.rest k.0 there k.1 k.2 in
      (r.mode, rw r.before (found ∙ rw (same ∙ all) refl, r.after))

  -- its contents are no entries, or do not pass
  none-taken : (E : Type 0) (c : List ℕ) (e : E) (mid : State)
      → Reads (λ (d : List ℕ). d) (primitive SEQUENCE Some) old (Ok c) mid
      → CountsBy {E = E} test (all_of p Der c) (Err e)
      → tested test (list_at p) old.mode old.rest ≡ None
  none-taken E c e mid h k =
      let r = reads-ok (λ (d : List ℕ). d) (primitive SEQUENCE Some) old c mid h in
      let there = contents p test old.mode old.rest (value_at SEQUENCE old.mode old.rest) c mid.rest
      r.found in
      refused p test old.mode old.rest c mid.rest (all_of p Der c) there refl k

  pub take-malformed : {T : Type 0} (E : Type 0) (view : T → List X) (c : List ℕ) (e : E)
      (mid : State)
      (d : DecodeError) → Reads (λ (d : List ℕ). d) (primitive SEQUENCE Some) old (Ok c) mid
      → CountsBy {E = E} test (all_of p Der c) (Err e) → IsAgain (unwrap_or mid.failed Malformed) d
      → Reads {T = T} view (tested test (list_at p)) old (Err d) (failing mid d)
  take-malformed E view c e mid d h k again =
      let r = reads-ok (λ (d : List ℕ). d) (primitive SEQUENCE Some) old c mid h in
      let none = none-taken E c e mid h k in
      let is : d ≡ Malformed = rw r.after at again in
      (r.mode, rw (r.before, is) none)

  pub take-refused : {T : Type 0} (E : Type 0) (view : T → List X) (c : List ℕ) (e : E)
      (mid : State)
      (fault : ContentFault) (d : DecodeError)
      → Reads (λ (d : List ℕ). d) (primitive SEQUENCE Some) old (Ok c) mid
      → CountsBy {E = E} test (all_of p Der c) (Err e)
      → (mid.failed ≡ None → d ≡ Content fault)
      → Reads {T = T} view (tested test (list_at p)) old (Err d) (failing mid d)
  take-refused E view c e mid fault d h k again =
      let r = reads-ok (λ (d : List ℕ). d) (primitive SEQUENCE Some) old c mid h in
      let none = none-taken E c e mid h k in
      (r.mode, rw (r.before, again r.after) none)

-- a rule that admits all
free-tested : {S X : Type 0} (p : Parser X) (s : S) (mode : Mode) (b : List ℕ)
    → tested (admits lets_all s) (list_at p) mode b ≡ list_at p mode b
unfolding tested
free-tested {S} {X} p s mode b = of (list_at p mode b)
  where
    of : (o : Option (List X × List ℕ))
        → ◌>>=◌ {B = List X × List ℕ} o
        (λ x. cond (admits {S = S} {X = X} lets_all s x.0) (Some x) None) ≡ o
    of None = refl
    of (Some x) = rw (free-admits s x.0) refl

pub take-free : {S T X : Type 0} (p : Parser X) (s : S) (view : T → List X) (old : State)
    (result : Result T DecodeError) (new : State)
    → Reads view (tested (admits lets_all s) (list_at p)) old result new
    → Reads view (list_at p) old result new
take-free p s view old result new h =
    let same = free-tested p s old.mode old.rest in
    rw same at h
