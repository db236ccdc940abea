-- What follows from what a call of a reader answers.
use Rattle.std.proofs.Common.{◌≡◌, ℕ, ◌<◌, List, length, Option, Some, None, Result, Ok, Err, refl}
use Rattle.std.proofs.Common.{sym, ◌∙◌}
use Rattle.std.specs.Prelude.{MatchOption, IfOk}
use Rattle.rpki_der.specs.declared.mode.Mode.{Mode}
use Rattle.rpki_der.specs.declared.error.DecodeError.{DecodeError}
use Rattle.rpki_der.specs.declared.error.DecodeError.TheVariants.{Malformed, Content, Memory}
use Rattle.rpki_der.specs.Read.State.{State}
use Rattle.rpki_der.specs.Read.Parse.{Parser}
use Rattle.rpki_der.specs.Read.Reads.{Reads, RepeatsError, Answers, Refuses, OkOrMemory}
use Rattle.rpki_der.specs.Grammar.{Front, IsBytes}
use Rattle.rpki_der.specs.Read.Exact.{IsExact, anything}
use Rattle.rpki_der.proofs.Reading.Many.{Shortens}

-- a value that was read
pub record WasRead {T X : Type 0} (view : T → X) (p : Parser X) (old : State) (t : T)
    (new : State) : Type 0 where
  pub before : old.failed ≡ None
  pub found : p old.mode old.rest ≡ Some (view t, new.rest)
  pub after : new.failed ≡ None
  pub mode : new.mode ≡ old.mode

not_failed : {T X : Type 0} (view : T → X) (found : Option (X × List ℕ)) (f : Option DecodeError)
    (t : T) (new : State)
    → MatchOption f (Answers view found (Ok t) new) (λ e. RepeatsError {T = T} e (Ok t))
    → (f ≡ None) × (found ≡ Some (view t, new.rest)) × (new.failed ≡ None)
not_failed view found None t new h = (refl, h.0, h.1)
not_failed view found (Some e) t new h = absurd h

pub reads-ok : {T X : Type 0} (view : T → X) (p : Parser X) (old : State) (t : T) (new : State)
    → Reads view p old (Ok t) new → WasRead view p old t new
reads-ok view p old t new h =
    let n = not_failed view (p old.mode old.rest) old.failed t new h.1 in
    record { before = n.0; found = n.1; after = n.2; mode = h.0 }

pub reads-err : {T X : Type 0} (view : T → X) (p : Parser X) (old : State) (e : DecodeError)
    (new : State) → Reads {T = T} view p old (Err e) new → old.failed ≡ None
    → Refuses e (p old.mode old.rest ≡ None)
reads-err view p old e new h n = rw n at h.1

pub fails-as : {Y Z : Type 0} (e : DecodeError) (y : Option Y) (z : Option Z)
    → (y ≡ None → z ≡ None) → Refuses e (y ≡ None) → Refuses e (z ≡ None)
fails-as Memory y z h f = tt
fails-as Malformed y z h f = h f
fails-as (Content c) y z h f = h f

pub err-as : {T U X Y : Type 0} (view : T → X) (shown : U → Y) (f : Option DecodeError)
    (e : DecodeError) (new : State) (y : Option (X × List ℕ)) (z : Option (Y × List ℕ))
    → (y ≡ None → z ≡ None)
    → MatchOption f (Answers view y (Err e) new) (λ d. RepeatsError {T = T} d (Err e))
    → MatchOption f (Answers shown z (Err e) new) (λ d. RepeatsError {T = U} d (Err e))
err-as view shown None e new y z h a = fails-as e y z h a
err-as view shown (Some d) e new y z h a = a

-- one that was read took an octet at least
pub reads_shorter : {X T : Type 0} (p : Parser (Option X)) → ((mode : Mode) → Shortens (p mode))
    → (view : T → Option X) (old : State) (t : T) (x : X) (new : State)
    → Reads view p old (Ok t) new → view t ≡ Some x → length new.rest < length old.rest
reads_shorter p short view old t x new h is =
    let r = reads-ok view p old t new h in
    (short old.mode).at old.rest x new.rest (r.found ∙ rw is refl)

-- what an exact reader has read stands at the front
pub reads_found : {T X : Type 0} (view : T → X) (p : Parser X) (G : Mode → List ℕ → X → Type 0)
    → ((mode : Mode) → IsExact anything (p mode) (G mode))
    → (old : State) (result : Result T DecodeError) (new : State)
    → Reads view p old result new
    → IfOk result (λ t. IsBytes old.rest → Front (G old.mode) old.rest (view t) new.rest)
reads_found view p G e old (Ok t) new h = λ bytes. let r = reads-ok view p old t new h in
    (e old.mode).sound old.rest (view t) new.rest bytes r.found
reads_found view p G e old (Err d) new h = tt

only_at : {T X : Type 0} (view : T → X) (x : X) (rest : List ℕ) (result : Result T DecodeError)
    (new : State) → Answers view (Some (x, rest)) result new
    → OkOrMemory result (λ t. (view t ≡ x) × (new.rest ≡ rest))
only_at {T} {X} view x rest (Ok t) new h =
    let q : (let s : X × List ℕ = (x, rest) in s) ≡ (view t, new.rest) = cc in
    (sym (λ i. (q i).0), sym (λ i. (q i).1))
only_at view x rest (Err Memory) new h = refl
only_at view x rest (Err Malformed) new h = absurd cc
only_at view x rest (Err (Content c)) new h = absurd cc

-- what stands at the front is read, unless memory runs out
pub reads_only : {T X : Type 0} (view : T → X) (p : Parser X) (G : Mode → List ℕ → X → Type 0)
    → ((mode : Mode) → IsExact anything (p mode) (G mode))
    → (old : State) (result : Result T DecodeError) (new : State)
    → Reads view p old result new → old.failed ≡ None → (x : X) (rest : List ℕ)
    → Front (G old.mode) old.rest x rest → OkOrMemory result (λ t. (view t ≡ x) × (new.rest ≡ rest))
reads_only {T} view p G e old result new h none x rest f =
    let found : p old.mode old.rest ≡ Some (x, rest) =
    rw f.1 ((e old.mode).complete f.0 x rest tt f.2) in
    let answer : Answers view (p old.mode old.rest) result new = rw none at h.1 in
    only_at view x rest result new (rw found at answer)
