-- Anchors that are made of the same files: a yes to an attestation and a no exclude each other.
use Rattle.std.proofs.Common.{◌≡◌, ℕ, List, [], ◌∷◌, ◌++◌, Bool, true, false, Ok, Err}
use Rattle.std.proofs.Common.{refl, inl, inr, sym, map, subst}
use Rattle.std.specs.List.{AllZip}
use Rattle.sha2.specs.Sha256.{sha256}
use Rattle.rpki_basics.specs.Moment.{Moment}
use Rattle.rpki_certs.specs.Verify.{Verdict}
use Rattle.rpki_multi.specs.Attestation as attested
use Rattle.rpki_rta.specs.Granted.{IsDistinct, IsGrantedRta}
use Rattle.rpki_cli.specs.Answer.{Run, out_of_memory}
use Rattle.rpki_command.specs.Anchors.{Given, given_in, IsLocated, IsChained, MakeEach, Makes}
use Rattle.rpki_command.specs.Anchors.{MakesOf, IsFirstUnmade}
use Rattle.rpki_command.specs.Rta.{supply_of, anchor_refusal}
use Rattle.rpki_command.specs.Yes.{BeginsWithNoGranted, IsRightNoRta, IsRightRta}
use Rattle.rpki_command.specs.declared.anchors.Anchor.{Anchor}
use Rattle.rpki_command.specs.declared.anchors.Anchor.TheVariants.{Tal, Ca}
use Rattle.rpki_command.specs.declared.anchors.AnchorError.{AnchorError}
use Rattle.rpki_command.specs.declared.anchors.AnchorError.TheVariants.{NoLocator, NoIssuer, Memory}
use Rattle.rpki_command.proofs.Same.{makes-same, makes-spent}
use Rattle.rpki_command.proofs.Supplying.{IsLikeSupply, issuer-like, granted-like}

-- a locator names one key
located-like : (octets : List ℕ) (a b : Anchor) → IsLocated octets (Ok a) → IsLocated octets (Ok b)
    → IsLikeSupply (supply_of a) (supply_of b)
located-like octets (Tal x) (Tal y) h g = sym (h.only y.uris y.key g.form).1
located-like octets (Tal x) (Ca y) h g = absurd g
located-like octets (Ca x) b h g = absurd h

module _ (verdict : Verdict) (now : Moment) where
  chained-like : (first : List ℕ) (others : List (List ℕ)) (a b : Anchor)
      → IsChained verdict now first others (Ok a) → IsChained verdict now first others (Ok b)
      → IsLikeSupply (supply_of a) (supply_of b)
  chained-like first others (Tal x) b h g = absurd h
  chained-like first others (Ca x) (Tal y) h g = absurd g
  chained-like first others (Ca x) (Ca y) h g =
      issuer-like x y (makes-same verdict now first others x y h g)

  made-like : (locates : Bool) (files : List (List ℕ)) (a b : Anchor)
      → MakesOf verdict now locates files (Ok a) → MakesOf verdict now locates files (Ok b)
      → IsLikeSupply (supply_of a) (supply_of b)
  made-like true [] a b h g = absurd h
  made-like true (octets ∷ []) a b h g = located-like octets a b h g
  made-like true (octets ∷ other ∷ more) a b h g = absurd h
  made-like false [] a b h g = absurd h
  made-like false (first ∷ others) a b h g = chained-like first others a b h g

  -- the anchors that files make supply the same, however often they are read
  each-like : (given : List Given) (xs ys : List Anchor) → MakeEach verdict now given xs
      → MakeEach verdict now given ys → AllZip IsLikeSupply (map supply_of xs) (map supply_of ys)
  each-like [] [] [] h g = tt
  each-like [] [] (y ∷ ys) h g = absurd g
  each-like [] (x ∷ xs) ys h g = absurd h
  each-like (f ∷ given) [] ys h g = absurd h
  each-like (f ∷ given) (x ∷ xs) [] h g = absurd g
  each-like (f ∷ given) (x ∷ xs) (y ∷ ys) h g =
      (made-like f.locates f.files x y h.0 g.0, each-like given xs ys h.1 g.1)

  located-spent : (octets : List ℕ) (a : Anchor) (fault : AnchorError) → IsLocated octets (Ok a)
      → IsLocated octets (Err fault) → anchor_refusal fault ≡ out_of_memory
  located-spent octets (Tal x) NoLocator h g = absurd (g x.uris x.key h.form)
  located-spent octets (Tal x) (NoIssuer fault) h g = absurd g
  located-spent octets (Tal x) Memory h g = refl
  located-spent octets (Ca x) fault h g = absurd h

  chained-spent : (first : List ℕ) (others : List (List ℕ)) (a : Anchor) (fault : AnchorError)
      → IsChained verdict now first others (Ok a) → IsChained verdict now first others (Err fault)
      → anchor_refusal fault ≡ out_of_memory
  chained-spent first others (Tal x) fault h g = absurd h
  chained-spent first others (Ca x) NoLocator h g = absurd g
  chained-spent first others (Ca x) (NoIssuer fault) h g =
      makes-spent verdict now first others x fault h g
  chained-spent first others (Ca x) Memory h g = refl

  -- files that make an anchor make it, unless memory runs out
  made-spent : (locates : Bool) (files : List (List ℕ)) (a : Anchor) (fault : AnchorError)
      → MakesOf verdict now locates files (Ok a) → MakesOf verdict now locates files (Err fault)
      → anchor_refusal fault ≡ out_of_memory
  made-spent true [] a fault h g = absurd h
  made-spent true (octets ∷ []) a fault h g = located-spent octets a fault h g
  made-spent true (octets ∷ other ∷ more) a fault h g = absurd h
  made-spent false [] a fault h g = absurd h
  made-spent false (first ∷ others) a fault h g = chained-spent first others a fault h g

  -- one of those that are made
  made-there : (before : List Given) (first : Given) (after : List Given) (xs : List Anchor)
      → MakeEach verdict now (before ++ first ∷ after) xs
      → (a : Anchor) × Makes verdict now first (Ok a)
  made-there [] first after [] h = absurd h
  made-there [] first after (x ∷ xs) h = (x, h.0)
  made-there (f ∷ before) first after [] h = absurd h
  made-there (f ∷ before) first after (x ∷ xs) h = made-there before first after xs h.1

  all-made : (given : List Given) (xs : List Anchor) (fault : AnchorError)
      → MakeEach verdict now given xs → IsFirstUnmade verdict now given fault
      → anchor_refusal fault ≡ out_of_memory
  all-made given xs fault h g =
      let there = made-there g.before g.first g.after xs
      (subst (λ (x : List Given). MakeEach verdict now x xs) g.cut h) in
      made-spent g.first.locates g.first.files there.0 fault there.1 g.unmade

-- a yes to an attestation and a no exclude each other, if what it carries has distinct identifiers
pub granted-or-not : (verdict : Verdict) (now : Moment) (words : List (List ℕ)) (object : List ℕ)
    (files : List (List ℕ)) (run : Run) (right : IsRightRta verdict now words object files run)
    → IsDistinct sha256 verdict right.rta → IsRightNoRta verdict now words object files → ⊥
granted-or-not verdict now words object files run right distinct (inl lacking) =
    lacking.has_memory (all-made verdict now (given_in words files) right.anchors lacking.fault
    right.made lacking.first)
granted-or-not verdict now words object files run right distinct (inr other) = of other.no
  where
    here : IsGrantedRta sha256 verdict now right.rta (map supply_of other.anchors)
    here = granted-like verdict now right.rta (map supply_of right.anchors)
        (map supply_of other.anchors) (each-like verdict now (given_in words files) right.anchors
        other.anchors right.made other.made) right.granted

    of : BeginsWithNoGranted verdict now (map supply_of other.anchors) object → ⊥
    of (inl empty) = empty right.rta right.rest right.front.found
    of (inr begun) =
        let same : begun.object ≡ right.rta =
        (right.front.only begun.object begun.rest begun.front.found).0 in
        subst (λ (r : attested.Whole). IsDistinct sha256 verdict r
        → ¬ (IsGrantedRta sha256 verdict now r (map supply_of other.anchors))) same begun.holds
        distinct here
