-- What is put at the ends of two lists.
use Rattle.std.proofs.Common.{◌≡◌, List, [], ◌∷◌, ◌++◌, sym}
use Rattle.std.proofs.lemmas.List.{append-nil}
use Rattle.rpki_relying_party.specs.Outcome.{AppendsBoth}

module _ {X Y : Type 0} (P : List X → List Y → Type 0) where
  -- nothing is put
  pub nothing-put : (xs : List X) (ys : List Y) → P [] [] → AppendsBoth P xs xs ys ys
  nothing-put xs ys h = record {
    put = [];
    put2 = [];
    holds = h;
    appends = sym (append-nil xs);
    appends2 = sym (append-nil ys);
  }

  -- something is put at the end of the first
  pub first-put : (old new put : List X) (ys : List Y) → P put [] → new ≡ old ++ put
      → AppendsBoth P old new ys ys
  first-put old new put ys h e = record {
    put = put;
    put2 = [];
    holds = h;
    appends = e;
    appends2 = sym (append-nil ys);
  }

  -- one thing is put at the end of the second
  pub second-put : (xs : List X) (old new : List Y) (y : Y) → P [] (y ∷ [])
      → new ≡ old ++ y ∷ [] → AppendsBoth P xs xs old new
  second-put xs old new y h e = record {
    put = [];
    put2 = y ∷ [];
    holds = h;
    appends = sym (append-nil xs);
    appends2 = e;
  }

-- what is put where P holds is put where Q does
pub put-as : {X Y : Type 0} (P Q : List X → List Y → Type 0) (old new : List X)
    (old2 new2 : List Y) → ((put : List X) (put2 : List Y) → P put put2 → Q put put2)
    → AppendsBoth P old new old2 new2 → AppendsBoth Q old new old2 new2
put-as P Q old new old2 new2 also h = record {
  put = h.put;
  put2 = h.put2;
  holds = also h.put h.put2 h.holds;
  appends = h.appends;
  appends2 = h.appends2;
}
