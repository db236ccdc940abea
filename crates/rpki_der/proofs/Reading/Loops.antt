-- Loops that read as many as there are.
use Rattle.std.proofs.Common.{◌≡◌, List, [], ◌∷◌, ◌++◌, Option, Some, None, Ok, Err, sym, ◌∙◌}
use Rattle.rpki_der.specs.declared.mode.Mode.{Mode}
use Rattle.rpki_der.specs.declared.error.DecodeError.{DecodeError}
use Rattle.rpki_der.specs.Read.State.{State}
use Rattle.rpki_der.specs.Read.Parse.{Parser, many}
use Rattle.rpki_der.specs.Read.Reads.{Reads, ReadSoFar}
use Rattle.rpki_der.proofs.Reading.Many.{Shortens, goes_on, ends, fails}
use Rattle.rpki_der.proofs.Reading.Calls.{reads-ok, err-as}

-- An iteration took one more.
pub so_far-more : {X T : Type 0} (p : Parser (Option X)) → ((mode : Mode) → Shortens (p mode))
    → (view : T → Option X) (front : List X) (begun now : State) (t : T) (x : X) (new : State)
    → ReadSoFar p front begun now → Reads view p now (Ok t) new → view t ≡ Some x
    → ReadSoFar p (front ++ x ∷ []) begun new
so_far-more p short view front begun now t x new s h is =
    let r = reads-ok view p now t new h in
    let e : p begun.mode now.rest ≡ Some (Some x, new.rest) = rw (← s.mode, ← is) r.found in
    record {
      mode = r.mode ∙ s.mode;
      failed = r.after ∙ sym r.before ∙ s.failed;
      read = goes_on p begun.mode (short begun.mode) front now.rest x new.rest
          (many p begun.mode begun.rest) e s.read;
    }

-- There was none.
pub so_far-end : {X T U : Type 0} (p : Parser (Option X)) (view : T → Option X) (shown : U → List X)
    (begun now : State) (t : T) (u : U) (new : State)
    → ReadSoFar p (shown u) begun now → Reads view p now (Ok t) new → view t ≡ None
    → Reads shown (many p) begun (Ok u) new
so_far-end p view shown begun now t u new s h is =
    let r = reads-ok view p now t new h in
    let e : p begun.mode now.rest ≡ Some (None, new.rest) = rw (← s.mode, ← is) r.found in
    let all : many p begun.mode begun.rest ≡ Some (shown u, new.rest) =
    ends p begun.mode (shown u) now.rest new.rest (many p begun.mode begun.rest) e s.read in
    let fresh : begun.failed ≡ None = sym s.failed ∙ r.before in
    (r.mode ∙ s.mode, rw fresh (all, r.after))

-- It could not be read.
pub so_far-err : {X T U : Type 0} (p : Parser (Option X)) (view : T → Option X) (shown : U → List X)
    (front : List X) (begun now : State) (e : DecodeError) (new : State)
    → ReadSoFar p front begun now → Reads {T = T} view p now (Err e) new
    → Reads {T = U} shown (many p) begun (Err e) new
so_far-err {X} {T} {U} p view shown front begun now e new s h =
    let none : p begun.mode now.rest ≡ None
    → many p begun.mode begun.rest ≡ None =
    λ q. fails p begun.mode front now.rest (many p begun.mode begun.rest) q s.read in (
      h.0 ∙ s.mode,
      err-as view shown begun.failed e new (p begun.mode now.rest)
          (many p begun.mode begun.rest) none (rw (← s.failed, ← s.mode) h.1),
    )
