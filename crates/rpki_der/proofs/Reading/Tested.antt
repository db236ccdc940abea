-- Reading what passes a test.
use Rattle.std.proofs.Common.{◌≡◌, ℕ, Bool, true, false, cond, List, [], ◌∷◌, ◌++◌, Option, Some}
use Rattle.std.proofs.Common.{None, Ok, Err, refl, sym, ap, subst, ◌∙◌}
use Rattle.rpki_der.specs.declared.error.ContentFault.{ContentFault}
use Rattle.rpki_der.specs.declared.error.DecodeError.{DecodeError}
use Rattle.rpki_der.specs.declared.error.DecodeError.TheVariants.{Content}
use Rattle.rpki_der.specs.declared.mode.Mode.{Mode}
use Rattle.rpki_der.specs.Read.State.{State}
use Rattle.rpki_der.specs.Read.Parse.{Parser, tested, many, with_front}
use Rattle.rpki_der.specs.Read.Reads.{Reads, ReadSoFar}
use Rattle.rpki_der.specs.Read.Exact.{IsExact}
use Rattle.rpki_der.proofs.Reading.Calls.{reads-ok, err-as}
use Rattle.rpki_der.proofs.Reading.Lengths.{some_is}
use Rattle.rpki_der.proofs.Reading.Loops.{so_far-more}
use Rattle.rpki_der.proofs.Reading.Many.{Shortens}

tested-none : {X : Type 0} (test : X → Bool) (p : Parser X) (mode : Mode) (b : List ℕ)
    → p mode b ≡ None → tested test p mode b ≡ None
unfolding tested
tested-none test p mode b e = rw e refl

tested-fails : {X : Type 0} (test : X → Bool) (p : Parser X) (mode : Mode) (b : List ℕ) (x : X)
    (r : List ℕ) → p mode b ≡ Some (x, r) → test x ≡ false → tested test p mode b ≡ None
unfolding tested
tested-fails test p mode b x r e f = rw e (rw f refl)

tested-passes : {X : Type 0} (test : X → Bool) (p : Parser X) (mode : Mode) (b : List ℕ) (x : X)
    (r : List ℕ) → p mode b ≡ Some (x, r) → test x ≡ true → tested test p mode b ≡ Some (x, r)
unfolding tested
tested-passes test p mode b x r e f = rw e (rw f refl)

passed : {A : Type 0} (b : Bool) (x : Option A) (y : A) → cond b x None ≡ Some y
    → (b ≡ true) × (x ≡ Some y)
passed true x y e = (refl, e)
passed false x y e = absurd cc

tested-some : {X : Type 0} (test : X → Bool) (p : Parser X) (mode : Mode) (b : List ℕ)
    (f : Option (X × List ℕ)) (x : X) (r : List ℕ) → p mode b ≡ f
    → tested test p mode b ≡ Some (x, r) → (f ≡ Some (x, r)) × (test x ≡ true)
unfolding tested
tested-some test p mode b None x r q h = absurd (let no : tested test p mode b ≡ None = rw q refl in
    let e = sym no ∙ h in cc)
tested-some {X} test p mode b (Some y) x r q h =
    let found : cond (test y.0) (Some y) None ≡ Some (x, r) = rw q at h in
    let g = passed (test y.0) (Some y) (x, r) found in
    let same : y ≡ (x, r) = some_is _ _ g.1 in (
      ap (λ (z : X × List ℕ). (let o : Option (X × List ℕ) = Some z in o)) same,
      subst (λ (z : X × List ℕ). test z.0 ≡ true) same g.0,
    )

-- what is read and passes is read exactly
pub exact-tested : {X : Type 0} (ends : List ℕ → Type 0) (test : X → Bool) (p : Parser X)
    (mode : Mode) (G : List ℕ → X → Type 0) → IsExact ends (p mode) G
    → IsExact ends (tested test p mode) (λ o x. G o x × (test x ≡ true))
exact-tested ends test p mode G e = record {
  sound = λ b x r bytes h.
      let s = tested-some test p mode b (p mode b) x r refl h in
      let f = e.sound b x r bytes s.0 in
      (f.0, f.1, (f.2, s.1));
  complete = λ o x r er h. tested-passes test p mode (o ++ r) x r (e.complete o x r er h.0) h.1;
}

-- ---- the answers of a reader

refused-all : {X : Type 0} (test : List X → Bool) (p : Parser (List X)) (mode : Mode) (b : List ℕ)
    (front : List X) (m : Option (List X × List ℕ))
    → with_front front m ≡ p mode b → ((more : List X) → test (front ++ more) ≡ false)
    → tested test p mode b ≡ None
refused-all test p mode b front None e f = tested-none test p mode b (sym e)
refused-all test p mode b front (Some (more, rest)) e f =
    tested-fails test p mode b (front ++ more) rest (sym e) (f more)

-- one more was read, and however the list goes on it fails the test
pub tested-next : {X T U : Type 0} (p : Parser (Option X)) → ((mode : Mode) → Shortens (p mode))
    → (view : T → Option X) (front : List X) (begun now : State) (t : T) (x : X) (new : State)
    → ReadSoFar p front begun now → Reads view p now (Ok t) new → view t ≡ Some x
    → (test : List X → Bool) (shown : U → List X) (fault : ContentFault)
    → ((more : List X) → test ((front ++ x ∷ []) ++ more) ≡ false)
    → Reads {T = U} shown (tested test (many p)) begun (Err (Content fault)) new
tested-next p short view front begun now t x new s h is test shown fault f =
    let r = reads-ok view p now t new h in
    let more = so_far-more p short view front begun now t x new s h is in
    let fresh : begun.failed ≡ None = sym more.failed ∙ r.after in
    let none = refused-all test (many p) begun.mode begun.rest (front ++ x ∷ [])
    (many p begun.mode new.rest) more.read f in
    (more.mode, rw fresh none)

-- all are read, and they pass
pub tested-ok : {X T U : Type 0} (view : T → X) (q : Parser X) (test : X → Bool) (old : State)
    (t : T) (new : State) (shown : U → X) (u : U)
    → Reads view q old (Ok t) new → shown u ≡ view t → test (view t) ≡ true
    → Reads shown (tested test q) old (Ok u) new
tested-ok view q test old t new shown u h same pass =
    let r = reads-ok view q old t new h in
    let found = tested-passes test q old.mode old.rest (view t) new.rest r.found pass in
    (r.mode, rw r.before (rw same found, r.after))

-- all are read, and they fail
pub tested-refused : {X T U : Type 0} (view : T → X) (q : Parser X) (test : X → Bool) (old : State)
    (t : T) (new : State) (shown : U → X) (fault : ContentFault)
    → Reads view q old (Ok t) new → test (view t) ≡ false
    → Reads {T = U} shown (tested test q) old (Err (Content fault)) new
tested-refused view q test old t new shown fault h fails =
    let r = reads-ok view q old t new h in
    let none = tested-fails test q old.mode old.rest (view t) new.rest r.found fails in
    (r.mode, rw r.before none)

-- they are not read
pub tested-err : {X T U : Type 0} (view : T → X) (q : Parser X) (test : X → Bool) (old : State)
    (e : DecodeError) (new : State) (shown : U → X)
    → Reads {T = T} view q old (Err e) new → Reads {T = U} shown (tested test q) old (Err e) new
tested-err view q test old e new shown h = (
  h.0,
  err-as view shown old.failed e new (q old.mode old.rest) (tested test q old.mode old.rest)
      (λ n. tested-none test q old.mode old.rest n) h.1,
)
