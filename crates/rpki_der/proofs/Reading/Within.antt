-- Loops that read as many as there are, where each call tells that it took an octet.
use Rattle.std.proofs.Common.{◌≡◌, ℕ, zero, suc, ◌<◌, List, [], ◌∷◌, ◌++◌, length, Option, Some}
use Rattle.std.proofs.Common.{None, Ok, Err, Result, refl, sym, ap, ◌∙◌, arith}
use Rattle.std.specs.Prelude.{MatchOption}
use Rattle.std.proofs.lemmas.List.{append-nil}
use Rattle.rpki_der.specs.declared.mode.Mode.{Mode}
use Rattle.rpki_der.specs.declared.error.DecodeError.{DecodeError}
use Rattle.rpki_der.specs.declared.error.DecodeError.TheVariants.{Malformed}
use Rattle.rpki_der.specs.Read.State.{State, fresh}
use Rattle.rpki_der.specs.Read.Parse.{Parser, with_front, up_to, many, primitive, value_at}
use Rattle.rpki_der.specs.Read.Reads.{Reads, Opened, Opens, FailsAgain, Left, closed}
use Rattle.rpki_der.proofs.Reading.Many.{with_front-twice, primitive-shorter, value-shorter}
use Rattle.rpki_der.proofs.Reading.Calls.{reads-ok, err-as}

-- what a loop has read, where p reads each, and more steps are left than octets
pub record ReadWithin {X : Type 0} (p : Parser (Option X)) (front : List X)
    (begun now : State) : Type 0 where
  pub mode : now.mode ≡ begun.mode
  pub failed : now.failed ≡ begun.failed
  pub steps : ℕ
  pub enough : length now.rest < steps
  pub read : with_front front (up_to steps p begun.mode now.rest) ≡ many p begun.mode begun.rest

no-front : {X : Type 0} (o : Option (List X × List ℕ)) → with_front [] o ≡ o
no-front None = refl
no-front (Some (xs, rest)) = refl

-- The loop begins.
pub within-start : {X : Type 0} (p : Parser (Option X)) (begun : State)
    → ReadWithin p [] begun begun
unfolding many
within-start p begun = record {
  mode = refl;
  failed = refl;
  steps = suc (length begun.rest);
  enough = omega arith;
  read = no-front (many p begun.mode begun.rest);
}

step-more : {X : Type 0} (p : Parser (Option X)) (mode : Mode) (front : List X) (n : ℕ)
    (b : List ℕ) (x : X) (r : List ℕ) (all : Option (List X × List ℕ))
    → length r < length b → length b < n → p mode b ≡ Some (Some x, r)
    → with_front front (up_to n p mode b) ≡ all
    → (k : ℕ) × (length r < k) × (with_front (front ++ x ∷ []) (up_to k p mode r) ≡ all)
unfolding up_to
step-more p mode front zero b x r all lt room e inv = absurd (omega (arith, room))
step-more p mode front (suc k) b x r all lt room e inv =
    let inner : with_front front (with_front (x ∷ []) (up_to k p mode r)) ≡ all = rw e at inv in
    (k, omega (arith, lt, room), sym (with_front-twice front (x ∷ []) (up_to k p mode r)) ∙ inner)

step-end : {X : Type 0} (p : Parser (Option X)) (mode : Mode) (front : List X) (n : ℕ)
    (b r : List ℕ) (all : Option (List X × List ℕ))
    → length b < n → p mode b ≡ Some (None, r)
    → with_front front (up_to n p mode b) ≡ all → all ≡ Some (front, r)
unfolding up_to
step-end p mode front zero b r all room e inv = absurd (omega (arith, room))
step-end {X} p mode front (suc k) b r all room e inv =
    let inner : with_front front (Some ([], r)) ≡ all = rw e at inv in
    sym inner ∙ ap (λ (ys : List X). Some (ys, r)) (append-nil front)

step-err : {X : Type 0} (p : Parser (Option X)) (mode : Mode) (front : List X) (n : ℕ)
    (b : List ℕ) (all : Option (List X × List ℕ)) → length b < n → p mode b ≡ None
    → with_front front (up_to n p mode b) ≡ all → all ≡ None
unfolding up_to
step-err p mode front zero b all room e inv = absurd (omega (arith, room))
step-err p mode front (suc k) b all room e inv =
    let inner : with_front front None ≡ all = rw e at inv in sym inner

-- An iteration took one more.
pub within-more : {X T : Type 0} (p : Parser (Option X)) (view : T → Option X) (front : List X)
    (begun now : State) (t : T) (x : X) (new : State)
    → ReadWithin p front begun now → Reads view p now (Ok t) new → view t ≡ Some x
    → length new.rest < length now.rest → ReadWithin p (front ++ x ∷ []) begun new
within-more p view front begun now t x new s h is lt =
    let r = reads-ok view p now t new h in
    let e : p begun.mode now.rest ≡ Some (Some x, new.rest) = rw (← s.mode, ← is) r.found in
    let more = step-more p begun.mode front s.steps now.rest x new.rest
    (many p begun.mode begun.rest) lt s.enough e s.read in
    record {
      mode = r.mode ∙ s.mode;
      failed = r.after ∙ sym r.before ∙ s.failed;
      steps = more.0;
      enough = more.1;
      read = more.2;
    }

-- There was none.
pub within-end : {X T U : Type 0} (p : Parser (Option X)) (view : T → Option X)
    (shown : U → List X) (begun now : State) (t : T) (u : U) (new : State)
    → ReadWithin p (shown u) begun now → Reads view p now (Ok t) new → view t ≡ None
    → Reads shown (many p) begun (Ok u) new
within-end p view shown begun now t u new s h is =
    let r = reads-ok view p now t new h in
    let e : p begun.mode now.rest ≡ Some (None, new.rest) = rw (← s.mode, ← is) r.found in
    let all : many p begun.mode begun.rest ≡ Some (shown u, new.rest) =
    step-end p begun.mode (shown u) s.steps now.rest new.rest (many p begun.mode begun.rest)
    s.enough e s.read in
    let fresh : begun.failed ≡ None = sym s.failed ∙ r.before in
    (r.mode ∙ s.mode, rw fresh (all, r.after))

-- It could not be read.
pub within-err : {X T U : Type 0} (p : Parser (Option X)) (view : T → Option X)
    (shown : U → List X) (front : List X) (begun now : State) (e : DecodeError) (new : State)
    → ReadWithin p front begun now → Reads {T = T} view p now (Err e) new
    → Reads {T = U} shown (many p) begun (Err e) new
within-err {X} {T} {U} p view shown front begun now e new s h =
    let none : p begun.mode now.rest ≡ None → many p begun.mode begun.rest ≡ None =
    λ q. step-err p begun.mode front s.steps now.rest (many p begun.mode begun.rest) s.enough q
    s.read in (
      h.0 ∙ s.mode,
      err-as view shown begun.failed e new (p begun.mode now.rest)
          (many p begun.mode begun.rest) none (rw (← s.failed, ← s.mode) h.1),
    )

-- ---- what was taken has an octet at least

-- a reader that has failed answers no value
not-failed : {A T : Type 0} (f : Option DecodeError) (t : T) (new : State)
    → MatchOption f A (λ e. FailsAgain e (Ok t) new) → A
not-failed None t new h = h
not-failed (Some e) t new h = absurd h

-- A value was opened.
pub opened-shorter : {T : Type 0} (tag : ℕ) (view : T → List ℕ) (old : State) (t : T) (new : State)
    → Opened tag view old (Ok t) new → length new.rest < length old.rest
opened-shorter tag view old t new h =
    value-shorter tag old.mode old.rest (view t) new.rest (not-failed old.failed t new h.1).0

is-left : {T : Type 0} (r : Result T DecodeError) (rest : List ℕ) (t : T) (new : State)
    → Left r rest (Ok t) new → rest ≡ new.rest
is-left (Ok s) rest t new h = sym h.1
is-left (Err e) rest t new h = absurd h

is-front : {T : Type 0} (step : State → Result T DecodeError → State → Type 0) (mode : Mode)
    (v : Option (List ℕ × List ℕ)) (t : T) (new : State)
    → MatchOption v
    (((let r : Result T DecodeError = Ok t in r) ≡ Err Malformed) × (new.failed ≡ Some Malformed))
    (λ v. (r : Result T DecodeError) × (after : State) × step (fresh mode v.0) r after
    × Left (closed r after) v.1 (Ok t) new)
    → (contents : List ℕ) × (v ≡ Some (contents, new.rest))
is-front {T} step mode None t new h = absurd (let no = h.0 in cc)
is-front step mode (Some (c, rest)) t new h =
    (c, rw (is-left (closed h.0 h.1) rest t new h.3) refl)

-- A value was opened, and its contents were read.
pub opens-shorter : {T : Type 0} (tag : ℕ) (step : State → Result T DecodeError → State → Type 0)
    (old : State) (t : T) (new : State)
    → Opens tag step old (Ok t) new → length new.rest < length old.rest
opens-shorter tag step old t new h =
    let f = is-front step old.mode (value_at tag old.mode old.rest) t new
    (not-failed old.failed t new h.1) in
    value-shorter tag old.mode old.rest f.0 new.rest f.1

-- A value was read.
pub read-shorter : {T X : Type 0} (tag : ℕ) (f : List ℕ → Option X) (view : T → X) (old : State)
    (t : T) (new : State)
    → Reads view (primitive tag f) old (Ok t) new → length new.rest < length old.rest
read-shorter tag f view old t new h =
    let r = reads-ok view (primitive tag f) old t new h in
    primitive-shorter tag f old.mode old.rest (view t) new.rest r.found
