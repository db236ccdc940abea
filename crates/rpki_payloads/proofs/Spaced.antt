-- Texts of JSON that have a value a line.
use Rattle.std.proofs.Common.{◌≡◌, ℕ, Bool, true, false, List, [], ◌∷◌, ◌++◌, map, fold}
use Rattle.std.proofs.Common.{inr, refl, sym, ap, subst, ◌∙◌, append_assoc, codes}
use Rattle.std.specs.List.{flat_map}
use Rattle.std.proofs.lemmas.List.Sums.{fold-append}
use Rattle.json.specs.Json as json
use Rattle.json.specs.Print.{ends, print_from, separator, token_text}
use Rattle.json.specs.Spaced.{AreGaps, IsGap, print_spaced}
use Rattle.json.specs.Token.{Token, end_array}
use Rattle.json.specs.Tree.{items_tokens, json_tokens, members_tokens}
use Rattle.serde_json.specs.Data.{Data, Members, object}
use Rattle.serde_json.specs.View.{items_of}
use Rattle.serde_json.specs.Written.{comma_if, compact_text, items_outline}
use Rattle.serde_json.specs.Written.{outline}
use Rattle.serde_json.proofs.Texts.{print-outline}
use Rattle.rpki_payloads.specs.Formats.Json.{item_text, items_text}

-- tokens with gaps before them
abbrev pub Spaced : Type 0
Spaced = List (List ℕ × Token)

abbrev pub line_feed : List ℕ
line_feed = 10 ∷ []

-- tokens without gaps
abbrev plain : List Token → Spaced
plain ts = map (λ (t : Token). ([], t)) ts

-- tokens with a line feed before the first
abbrev on-a-line : List Token → Spaced
on-a-line [] = []
on-a-line (t ∷ ts) = (line_feed, t) ∷ plain ts

-- a value on a line, and values on a line each
abbrev pub lined : Data → Spaced
lined d = on-a-line (json_tokens (outline d))

abbrev pub lines : {X : Type 0} → (X → Data) → List X → Spaced
lines value xs = flat_map (λ x. lined (value x)) xs

abbrev pub tokens-of : Spaced → List Token
tokens-of ps = map (λ (p : List ℕ × Token). p.1) ps

-- ---- whether a value ends last

abbrev last : Bool → List Token → Bool
last c ts = fold (λ _ (t : Token). ends t) c ts

mutual
  last-value : (j : json.Json) (c : Bool) → last c (json_tokens j) ≡ true
  last-value json.null c = refl
  last-value (json.boolean b) c = refl
  last-value (json.number s) c = refl
  last-value (json.string s) c = refl
  last-value (json.array js) c = last-items js false
  last-value (json.object ms) c = last-members ms false

  last-items : (js : json.Items) (c : Bool) → last c (items_tokens js) ≡ true
  last-items json.no_items c = refl
  last-items (json.item j js) c =
      fold-append (λ _ (t : Token). ends t) c (json_tokens j) (items_tokens js)
      ∙ last-items js (last c (json_tokens j))

  last-members : (ms : json.Members) (c : Bool) → last c (members_tokens ms) ≡ true
  last-members json.no_members c = refl
  last-members (json.member k j ms) c =
      fold-append (λ _ (t : Token). ends t) false (json_tokens j) (members_tokens ms)
      ∙ last-members ms (last false (json_tokens j))

-- ---- what is printed

spaced-plain : (c : Bool) (ts : List Token) (ps : Spaced)
    → print_spaced c (plain ts ++ ps) ≡ print_from c ts ++ print_spaced (last c ts) ps
unfolding print_spaced print_from
spaced-plain c [] ps = refl
spaced-plain c (t ∷ ts) ps =
    let rest = print_spaced (last (ends t) ts) ps in
    ap (λ z. separator c t ++ (token_text t ++ z)) (spaced-plain (ends t) ts ps)
    ∙ sym (append_assoc (separator c t) (token_text t ++ print_from (ends t) ts) rest
    ∙ ap (λ z. separator c t ++ z) (append_assoc (token_text t) (print_from (ends t) ts) rest))

-- a value without gaps
spaced-value : (d : Data) (ps : Spaced) → print_spaced false (plain (json_tokens (outline d)) ++ ps)
    ≡ compact_text d ++ print_spaced true ps
spaced-value d ps =
    spaced-plain false (json_tokens (outline d)) ps
    ∙ ap (λ z. z ++ print_spaced (last false (json_tokens (outline d))) ps) (print-outline d)
    ∙ ap (λ (b : Bool). compact_text d ++ print_spaced b ps) (last-value (outline d) false)

-- the value is an object
abbrev pub IsObject : Data → Type 0
IsObject d = (ms : Members) × (d ≡ object ms)

object-printed : (c : Bool) (ms : Members) (ps : Spaced) → print_spaced c (lined (object ms) ++ ps)
    ≡ comma_if c ++ (item_text (object ms) ++ print_spaced true ps)
unfolding print_spaced
object-printed true ms ps = ap (λ z. 44 ∷ 10 ∷ z) (spaced-value (object ms) ps)
object-printed false ms ps = ap (λ z. 10 ∷ z) (spaced-value (object ms) ps)

-- an object on a line
pub lined-printed : (c : Bool) (d : Data) → IsObject d → (ps : Spaced)
    → print_spaced c (lined d ++ ps) ≡ comma_if c ++ (item_text d ++ print_spaced true ps)
lined-printed c d h ps =
    subst (λ (x : Data). print_spaced c (lined x ++ ps)
    ≡ comma_if c ++ (item_text x ++ print_spaced true ps)) (sym h.1) (object-printed c h.0 ps)

module _ {X : Type 0} (value : X → Data) (objects : (x : X) → IsObject (value x)) where
  further : (xs : List X) (ps : Spaced) → print_spaced true (lines value xs ++ ps)
      ≡ flat_map (λ x. codes "," ++ item_text (value x)) xs ++ print_spaced true ps
  further [] ps = refl
  further (x ∷ xs) ps =
      let item = item_text (value x) in
      let more = flat_map (λ x. codes "," ++ item_text (value x)) xs in
      ap (print_spaced true) (append_assoc (lined (value x)) (lines value xs) ps)
      ∙ lined-printed true (value x) (objects x) (lines value xs ++ ps)
      ∙ ap (λ z. codes "," ++ (item ++ z)) (further xs ps)
      ∙ sym (append_assoc (codes ",") (item ++ more) (print_spaced true ps)
      ∙ ap (λ z. codes "," ++ z) (append_assoc item more (print_spaced true ps)))

  -- the items of a list, and its end
  pub list-printed : (xs : List X) (ps : Spaced)
      → print_spaced false (lines value xs ++ (line_feed, end_array) ∷ ps)
      ≡ items_text (λ x. item_text (value x)) xs ++ (codes "\n]" ++ print_spaced true ps)
  unfolding print_spaced
  list-printed [] ps = refl
  list-printed (x ∷ xs) ps =
      let item = item_text (value x) in
      let more = flat_map (λ x. codes "," ++ item_text (value x)) xs in
      let end = codes "\n]" ++ print_spaced true ps in
      ap (print_spaced false)
      (append_assoc (lined (value x)) (lines value xs) ((line_feed, end_array) ∷ ps))
      ∙ lined-printed false (value x) (objects x) (lines value xs ++ (line_feed, end_array) ∷ ps)
      ∙ ap (λ z. item ++ z) (further xs ((line_feed, end_array) ∷ ps))
      ∙ sym (append_assoc item more end)

-- ---- which tokens there are

tokens-plain : (ts : List Token) (ps : Spaced) → tokens-of (plain ts ++ ps) ≡ ts ++ tokens-of ps
tokens-plain [] ps = refl
tokens-plain (t ∷ ts) ps = ap (λ z. t ∷ z) (tokens-plain ts ps)

tokens-on-a-line : (ts : List Token) (ps : Spaced)
    → tokens-of (on-a-line ts ++ ps) ≡ ts ++ tokens-of ps
tokens-on-a-line [] ps = refl
tokens-on-a-line (t ∷ ts) ps = ap (λ z. t ∷ z) (tokens-plain ts ps)

pub lined-tokens : (d : Data) (ps : Spaced)
    → tokens-of (lined d ++ ps) ≡ json_tokens (outline d) ++ tokens-of ps
lined-tokens d ps = tokens-on-a-line (json_tokens (outline d)) ps

pub list-tokens : {X : Type 0} (value : X → Data) (xs : List X) (ps : Spaced)
    → tokens-of (lines value xs ++ (line_feed, end_array) ∷ ps)
    ≡ items_tokens (items_outline (items_of (map value xs))) ++ tokens-of ps
list-tokens value [] ps = refl
list-tokens value (x ∷ xs) ps =
    let first = json_tokens (outline (value x)) in
    let more = items_tokens (items_outline (items_of (map value xs))) in
    ap tokens-of (append_assoc (lined (value x)) (lines value xs) ((line_feed, end_array) ∷ ps))
    ∙ lined-tokens (value x) (lines value xs ++ (line_feed, end_array) ∷ ps)
    ∙ ap (λ z. first ++ z) (list-tokens value xs ps)
    ∙ sym (append_assoc first more (tokens-of ps))

-- ---- gaps are line feeds, or nothing

pub gap : IsGap line_feed
gap = (inr refl, tt)

gaps-plain : (ts : List Token) (ps : Spaced) → AreGaps ps → AreGaps (plain ts ++ ps)
gaps-plain [] ps h = h
gaps-plain (t ∷ ts) ps h = (tt, gaps-plain ts ps h)

gaps-on-a-line : (ts : List Token) (ps : Spaced) → AreGaps ps → AreGaps (on-a-line ts ++ ps)
gaps-on-a-line [] ps h = h
gaps-on-a-line (t ∷ ts) ps h = (gap, gaps-plain ts ps h)

pub gaps-lined : (d : Data) (ps : Spaced) → AreGaps ps → AreGaps (lined d ++ ps)
gaps-lined d ps h = gaps-on-a-line (json_tokens (outline d)) ps h

pub gaps-lines : {X : Type 0} (value : X → Data) (xs : List X) (ps : Spaced) → AreGaps ps
    → AreGaps (lines value xs ++ ps)
gaps-lines value [] ps h = h
gaps-lines value (x ∷ xs) ps h =
    subst AreGaps (sym (append_assoc (lined (value x)) (lines value xs) ps))
    (gaps-lined (value x) (lines value xs ++ ps) (gaps-lines value xs ps h))
