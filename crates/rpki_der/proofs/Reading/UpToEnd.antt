-- Loops that read up to the end.
use Rattle.std.proofs.Common.{◌≡◌, ℕ, ◌<◌, ◌≤◌, Bool, true, false, List, [], ◌∷◌, ◌++◌, length}
use Rattle.std.proofs.Common.{Option, Some, None, Ok, Err, refl, sym, ap, subst, ◌∙◌, arith}
use Rattle.std.proofs.lemmas.List.{append-nil}
use Rattle.rpki_der.specs.declared.mode.Mode.{Mode}
use Rattle.rpki_der.specs.declared.error.DecodeError.{DecodeError}
use Rattle.rpki_der.specs.Read.State.{State}
use Rattle.rpki_der.specs.Read.Parse.{Parser, ◌>>=◌, with_front, all_of, all_at, at_end, primitive}
use Rattle.rpki_der.specs.Read.Parse.{in_value}
use Rattle.rpki_der.specs.Read.Reads.{Reads, ReadUpTo}
use Rattle.rpki_der.specs.Grammar.{Items}
use Rattle.rpki_der.specs.Read.Exact.{IsExact, anything}
use Rattle.rpki_der.proofs.Reading.Lengths.{bind_some, some_is}
use Rattle.rpki_der.proofs.Reading.Many.{with_front-twice, primitive-shorter, in_value-shorter}
use Rattle.rpki_der.proofs.Reading.Skips.{Takes, all-more, all-none, all-end, exact-all}
use Rattle.rpki_der.proofs.Reading.Exact.{the_end}
use Rattle.rpki_der.proofs.Reading.Calls.{reads-ok, err-as}

-- ---- what is read up to the end

one-front : {X : Type 0} (x : X) (o : Option (List X))
    → ((o >>= λ xs. Some (x ∷ xs)) >>= λ xs. (let r : Option (List X × List ℕ) = Some (xs, []) in
    r))
    ≡ with_front (x ∷ []) (o >>= λ xs. Some (xs, []))
one-front x None = refl
one-front x (Some xs) = refl

module _ {X : Type 0} (p : Parser X) (mode : Mode) (takes : Takes (p mode)) where
  all_at-more : (b : List ℕ) (x : X) (r : List ℕ) → p mode b ≡ Some (x, r)
      → all_at p mode b ≡ with_front (x ∷ []) (all_at p mode r)
  all_at-more [] x r e = absurd (let lt = takes.at [] x r e in omega (arith, lt))
  all_at-more (a ∷ b) x r e = rw (all-more p mode takes a b x r e) (one-front x (all_of p mode r))

  all_at-none : (b : List ℕ) → 1 ≤ length b → p mode b ≡ None → all_at p mode b ≡ None
  all_at-none [] h e = absurd (omega (arith, h))
  all_at-none (a ∷ b) h e = rw (all-none p mode takes a b e) refl

  all_at-end : all_at p mode [] ≡ Some ([], [])
  all_at-end = rw (all-end p mode takes) refl

  -- it is read exactly
  pub exact-all_at : (G : List ℕ → X → Type 0) → IsExact anything (p mode) G
      → IsExact the_end (all_at p mode) (Items G)
  exact-all_at G e =
      let all = exact-all p mode takes G e in
      record {
        sound = λ b xs r bytes h.
            let o = bind_some (all_of p mode b) _ (xs, r) h in
            let q : (let t : List X × List ℕ = (o.0, []) in t) ≡ (xs, r) = some_is _ _ o.2 in (
              b,
              sym (append-nil b) ∙ ap (λ (t : List X × List ℕ). b ++ t.1) q,
              all.sound b xs bytes (o.1
                  ∙ ap (λ (t : List X × List ℕ). (let s : Option (List X) = Some t.0 in s)) q),
            );
        complete = λ b xs r er h. rw (er, append-nil b, all.complete b xs h) refl;
      }

-- ---- loops

abbrev Ended : Bool → List ℕ → Type 0
Ended true rest = rest ≡ []
Ended false rest = 1 ≤ length rest

end-is : (mode : Mode) (b : List ℕ) (e : Bool) (r : List ℕ) → at_end mode b ≡ Some (e, r)
    → (b ≡ r) × Ended e r
unfolding at_end
end-is mode [] true r h = let q : (let t : Bool × List ℕ = (true, []) in
    t) ≡ (true, r) = some_is _ _ h in
    (ap (λ (t : Bool × List ℕ). t.1) q, sym (ap (λ (t : Bool × List ℕ). t.1) q))
end-is mode [] false r h =
    absurd (let q : (let t : Bool × List ℕ = (true, []) in t) ≡ (false, r) = some_is _ _ h in
    let no : true ≡ false = ap (λ (t : Bool × List ℕ). t.0) q in cc)
end-is mode (a ∷ b) true r h =
    absurd (let q : (let t : Bool × List ℕ = (false, a ∷ b) in t) ≡ (true, r) = some_is _ _ h in
    let no : false ≡ true = ap (λ (t : Bool × List ℕ). t.0) q in cc)
end-is mode (a ∷ b) false r h =
    let q : (let t : Bool × List ℕ = (false, a ∷ b) in t) ≡ (false, r) = some_is _ _ h in
    let same : a ∷ b ≡ r = ap (λ (t : Bool × List ℕ). t.1) q in
    (same, rw (← same) (omega arith))

end-some : (mode : Mode) (b : List ℕ) → at_end mode b ≡ None → ⊥
unfolding at_end
end-some mode [] h = cc
end-some mode (a ∷ b) h = cc

-- what the reader has before the call, and after it
at_end-is : (now : State) (b : Bool) (new : State) → Reads (λ b. b) at_end now (Ok b) new
    → (now.rest ≡ new.rest) × Ended b new.rest × (new.failed ≡ now.failed) × (new.mode ≡ now.mode)
    × (now.failed ≡ None)
at_end-is now b new h =
    let r = reads-ok (λ b. b) at_end now b new h in
    let e = end-is now.mode now.rest b new.rest r.found in
    (e.0, e.1, r.after ∙ sym r.before, r.mode, r.before)

-- The end has not come.
up_to-on : {X : Type 0} (p : Parser X) (front : List X) (begun now : State) (b : Bool) (mid : State)
    → ReadUpTo p front begun now → Reads (λ b. b) at_end now (Ok b) mid
    → ReadUpTo p front begun mid
up_to-on p front begun now b mid s h =
    let e = at_end-is now b mid h in
    record { mode = e.3 ∙ s.mode; failed = e.2 ∙ s.failed; read = rw (← e.0) s.read }

-- An iteration read one more.
pub up_to-more : {X T : Type 0} (p : Parser X) → ((mode : Mode) → Takes (p mode)) → (view : T → X)
    (front : List X) (begun now : State) (b : Bool) (mid : State) (t : T) (new : State)
    → ReadUpTo p front begun now → Reads (λ b. b) at_end now (Ok b) mid
    → Reads view p mid (Ok t) new → ReadUpTo p (front ++ view t ∷ []) begun new
up_to-more p takes view front begun now b mid t new so_far ended h =
    let s = up_to-on p front begun now b mid so_far ended in
    let r = reads-ok view p mid t new h in
    let e : p begun.mode mid.rest ≡ Some (view t, new.rest) = rw (← s.mode) r.found in
    record {
      mode = r.mode ∙ s.mode;
      failed = r.after ∙ sym r.before ∙ s.failed;
      read = sym (with_front-twice front (view t ∷ []) (all_at p begun.mode new.rest))
          ∙ ap (with_front front)
          (sym (all_at-more p begun.mode (takes begun.mode) mid.rest (view t) new.rest e))
          ∙ s.read;
    }

-- It left fewer octets.
pub up_to-smaller : {X T : Type 0} (p : Parser X) → ((mode : Mode) → Takes (p mode))
    → (view : T → X) (now : State) (b : Bool) (mid : State) (t : T) (new : State)
    → Reads (λ b. b) at_end now (Ok b) mid → Reads view p mid (Ok t) new
    → length new.rest < length now.rest
up_to-smaller p takes view now b mid t new ended h =
    let r = reads-ok view p mid t new h in
    rw ((at_end-is now b mid ended).0) ((takes mid.mode).at mid.rest (view t) new.rest r.found)

-- The end has come.
pub up_to-end : {X U : Type 0} (p : Parser X) → ((mode : Mode) → Takes (p mode))
    → (shown : U → List X) (begun now : State) (u : U) (b : Bool) (new : State)
    → ReadUpTo p (shown u) begun now → Reads (λ b. b) at_end now (Ok b) new → b ≡ true
    → Reads shown (all_at p) begun (Ok u) new
up_to-end {X} p takes shown begun now u b new s h is =
    let e = at_end-is now b new h in
    let none : new.rest ≡ [] = subst (λ (b : Bool). Ended b new.rest) is e.1 in
    let end : now.rest ≡ [] = e.0 ∙ none in
    let last : with_front (shown u) (all_at p begun.mode now.rest) ≡ Some (shown u, new.rest) =
    rw (end, none, all_at-end p begun.mode (takes begun.mode))
    (ap (λ (xs : List X). (let o : Option (List X × List ℕ) = Some (xs, []) in o))
    (append-nil (shown u))) in
    let all : all_at p begun.mode begun.rest ≡ Some (shown u, new.rest) = sym s.read ∙ last in
    let fresh : begun.failed ≡ None = sym s.failed ∙ e.4 in
    (e.3 ∙ s.mode, rw fresh (all, e.2 ∙ e.4))

-- One more could not be read.
pub up_to-err : {X T U : Type 0} (p : Parser X) → ((mode : Mode) → Takes (p mode)) → (view : T → X)
    (shown : U → List X) (front : List X) (begun now : State) (b : Bool) (mid : State)
    (e : DecodeError) (new : State) → ReadUpTo p front begun now
    → Reads (λ b. b) at_end now (Ok b) mid → b ≡ false → Reads {T = T} view p mid (Err e) new
    → Reads {T = U} shown (all_at p) begun (Err e) new
up_to-err {X} {T} {U} p takes view shown front begun now b mid e new so_far ended is h =
    let s = up_to-on p front begun now b mid so_far ended in
    let some : 1 ≤ length mid.rest =
    subst (λ (b : Bool). Ended b mid.rest) is (at_end-is now b mid ended).1 in
    let none : p begun.mode mid.rest ≡ None → all_at p begun.mode begun.rest ≡ None =
    λ q. sym s.read ∙ rw (all_at-none p begun.mode (takes begun.mode) mid.rest some q) refl in (
      h.0 ∙ s.mode,
      err-as view shown begun.failed e new (p begun.mode mid.rest) (all_at p begun.mode begun.rest)
          none (rw (← s.failed, ← s.mode) h.1),
    )

-- The reader had failed.
pub up_to-failed : {X U : Type 0} (p : Parser X) (shown : U → List X) (front : List X)
    (begun now : State) (e : DecodeError) (new : State) → ReadUpTo p front begun now
    → Reads {T = Bool} (λ b. b) at_end now (Err e) new
    → Reads {T = U} shown (all_at p) begun (Err e) new
up_to-failed {X} {U} p shown front begun now e new s h = (
  h.0 ∙ s.mode,
  err-as (λ b. b) shown begun.failed e new (at_end begun.mode now.rest)
      (all_at p begun.mode begun.rest) (λ q. absurd (end-some begun.mode now.rest q))
      (rw (← s.failed, ← s.mode) h.1),
)

-- A primitive value takes an octet at least, and so does one that is opened.
pub takes-primitive : {X : Type 0} (tag : ℕ) (f : List ℕ → Option X) (mode : Mode)
    → Takes (primitive tag f mode)
takes-primitive tag f mode = record { at = λ b x r e. primitive-shorter tag f mode b x r e }

pub takes-in : {X : Type 0} (tag : ℕ) (p : Parser X) (mode : Mode) → Takes (in_value tag p mode)
takes-in tag p mode = record { at = λ b x r e. in_value-shorter tag p mode b x r e }
