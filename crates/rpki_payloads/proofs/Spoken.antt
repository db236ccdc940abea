-- The texts of JSON are the values of their rows.
use Rattle.std.proofs.Common.{false, true}
use Rattle.std.proofs.Common.{◌≡◌, ◌≤◌, ℕ, List, [], ◌∷◌, ◌++◌, map, Option}
use Rattle.std.proofs.Common.{Some, None, arith, refl, sym, ap, ◌∙◌, append_assoc, append-nil}
use Rattle.std.proofs.Common.{codes}
use Rattle.std.specs.Prelude.{option_and_then}
use Rattle.json.specs.Json as json
use Rattle.json.specs.Lex.{tokens}
use Rattle.json.specs.Print.{ArePrintable, escape_byte}
use Rattle.json.specs.Spaced.{AreGaps, print_spaced}
use Rattle.json.specs.Token.{Token, begin_array, begin_object, end_array, end_object, key}
use Rattle.json.specs.Tree.{HasNumbers, ItemsHaveNumbers, MembersHaveNumbers, items_tokens}
use Rattle.json.specs.Tree.{json_tokens, members_tokens}
use Rattle.json.specs.Tree as tree
use Rattle.json.proofs.Printed.Decimals.{IsNumber-decimal}
use Rattle.json.proofs.Printed.Tokens.{tokens-print_spaced}
use Rattle.json.proofs.Printed.Trees.{ArePrintable-json_tokens, value-json_tokens}
use Rattle.serde_json.specs.Data.{Data, null, boolean, number, unsigned, negative, float, string}
use Rattle.serde_json.specs.Data.{array, object, Items, no_items, item, Members, member, no_members}
use Rattle.serde_json.specs.View.{items_of}
use Rattle.serde_json.specs.Written.{items_outline, members_outline, outline}
use Rattle.rpki_basics.specs.Moment.{Moment}
use Rattle.rpki_payloads.specs.Formats.Fields.{end_seconds}
use Rattle.rpki_payloads.specs.Formats.Groups.{expires_of}
use Rattle.rpki_payloads.specs.Formats.Json.{HasSmall, IsTextOf, ItemsHaveSmall, MembersHaveSmall}
use Rattle.rpki_payloads.specs.Formats.Json.{as_data, aspa_data, aspa_item, aspas_part, client_data}
use Rattle.rpki_payloads.specs.Formats.Json.{client_text, count_data, item_text, items_text}
use Rattle.rpki_payloads.specs.Formats.Json.{json_data, json_text, list_data, maybe, metadata_data}
use Rattle.rpki_payloads.specs.Formats.Json.{metadata_part, provider_data, refused_item, refused_part}
use Rattle.rpki_payloads.specs.Formats.Json.{refused_row_data, refused_rows, roa_data, roa_item}
use Rattle.rpki_payloads.specs.Formats.Json.{RefusedRow, roas_part}
use Rattle.rpki_payloads.specs.Formats.Row.{OriginRow, ProviderRow}
use Rattle.rpki_payloads.specs.Found.{FoundUnder}
use Rattle.rpki_payloads.specs.declared.formats.members.AsForm.{AsForm}
use Rattle.rpki_payloads.specs.declared.formats.members.AsForm.TheVariants as forms
use Rattle.rpki_payloads.proofs.Spaced.{IsObject, Spaced, gap, gaps-lined, gaps-lines, line_feed}
use Rattle.rpki_payloads.proofs.Spaced.{lined, lined-printed, lined-tokens, lines, list-printed}
use Rattle.rpki_payloads.proofs.Spaced.{list-tokens, tokens-of}

-- ---- numbers below 2^64 are numbers of JSON

mutual
  numbers : (d : Data) → HasSmall d → HasNumbers (outline d)
  numbers null h = tt
  numbers (boolean b) h = tt
  numbers (number (unsigned n)) h = IsNumber-decimal n h
  numbers (number (negative z)) h = absurd h
  numbers (number (float x)) h = absurd h
  numbers (string s) h = tt
  numbers (array ds) h = items-numbers ds h
  numbers (object ms) h = members-numbers ms h

  items-numbers : (ds : Items) → ItemsHaveSmall ds → ItemsHaveNumbers (items_outline ds)
  items-numbers no_items h = tt
  items-numbers (item d ds) h = (numbers d h.0, items-numbers ds h.1)

  members-numbers : (ms : Members) → MembersHaveSmall ms → MembersHaveNumbers (members_outline ms)
  members-numbers no_members h = tt
  members-numbers (member k d ms) h = (numbers d h.0, members-numbers ms h.1)

-- ---- how deep values nest

abbrev deep : Data → ℕ
deep d = tree.depth (outline d)

as-deep : (form : AsForm) (n : ℕ) → deep (as_data form n) ≤ 0
as-deep forms.Text n = omega arith
as-deep forms.Number n = omega arith

maybe-deep : (o : Option ℕ) → deep (maybe o) ≤ 0
maybe-deep None = omega arith
maybe-deep (Some n) = omega arith

items-deep : {X : Type 0} (value : X → Data) (n : ℕ) → ((x : X) → deep (value x) ≤ n)
    → (xs : List X) → tree.items_depth (items_outline (items_of (map value xs))) ≤ n
items-deep value n h [] = omega arith
items-deep value n h (x ∷ xs) = omega (arith, h x, items-deep value n h xs)

roa-deep : (form : AsForm) (r : OriginRow) → deep (roa_data form r) ≤ 1
roa-deep form r = omega (arith, as-deep form r.origin.asn, maybe-deep (end_seconds r.until))

aspa-deep : (form : AsForm) (g : List ProviderRow) → deep (aspa_data form g) ≤ 2
aspa-deep forms.Text g =
    omega (
      arith,
      maybe-deep (expires_of g),
      items-deep (provider_data forms.Text) 0
          (λ r. as-deep forms.Text r.provider.provider) g,
    )
aspa-deep forms.Number g =
    omega (
      arith,
      maybe-deep (expires_of g),
      items-deep (provider_data forms.Number) 0
          (λ r. as-deep forms.Number r.provider.provider) g,
    )

refused-deep : (r : RefusedRow) → deep (refused_row_data r) ≤ 1
refused-deep r = omega arith

metadata-deep : (moment : Moment) (found : List FoundUnder)
    → deep (metadata_data moment found) ≤ 3
metadata-deep moment found =
    omega (arith, items-deep count_data 1 (λ f. omega arith) found)

-- ---- a text is the value of its tokens

says : (ps : Spaced) (d : Data) (octets : List ℕ) → AreGaps ps
    → tokens-of ps ≡ json_tokens (outline d) → HasSmall d → deep d ≤ 128
    → octets ≡ print_spaced false ps ++ codes "\n" → IsTextOf octets d
says ps d octets gaps same small shallow is = record {
  text = print_spaced false ps;
  ends = is;
  reads = ap (option_and_then (λ p. json.if_last p.0 p.1))
      (ap (json.value json.max_depth)
      (tokens-print_spaced ps gaps
      (rw same (ArePrintable-json_tokens (outline d) (numbers d small)))
      ∙ same ∙ sym (append-nil (json_tokens (outline d))))
      ∙ value-json_tokens (outline d) json.max_depth [] shallow);
}

-- ---- the parts

-- a text before others, which are told in other words
told : (a b c d : List ℕ) → c ≡ b ++ d → a ++ c ≡ (a ++ b) ++ d
told a b c d e = ap (λ z. a ++ z) e ∙ sym (append_assoc a b d)

tail : (items end rest : List ℕ) → items ++ (end ++ rest) ≡ (items ++ end) ++ rest
tail items end rest = sym (append_assoc items end rest)

module _ {X : Type 0} (value : X → Data) (objects : (x : X) → IsObject (value x)) (xs : List X)
    (ps : Spaced) where
  abbrev items : List ℕ
  items = items_text (λ x. item_text (value x)) xs

  abbrev listed : Spaced
  listed = ([], begin_array) ∷ (lines value xs ++ (line_feed, end_array) ∷ ps)

  -- the items, and what begins their list
  begun : (begin : List ℕ)
      → begin ++ print_spaced false (lines value xs ++ (line_feed, end_array) ∷ ps)
      ≡ (begin ++ (items ++ codes "\n]")) ++ print_spaced true ps
  begun begin =
      told begin (items ++ codes "\n]") _ (print_spaced true ps)
      (list-printed value objects xs ps ∙ tail items (codes "\n]") (print_spaced true ps))

  first-list : print_spaced false (([], begin_object) ∷ ([], key (codes "aspas")) ∷ listed)
      ≡ (codes "{\"aspas\":[" ++ (items ++ codes "\n]")) ++ print_spaced true ps
  unfolding print_spaced escape_byte
  first-list = begun (codes "{\"aspas\":[")

  refused-list : print_spaced true ((line_feed, key (codes "refused")) ∷ listed)
      ≡ (codes ",\n\"refused\":[" ++ (items ++ codes "\n]")) ++ print_spaced true ps
  unfolding print_spaced escape_byte
  refused-list = begun (codes ",\n\"refused\":[")

  roas-list : print_spaced true ((line_feed, key (codes "roas")) ∷ listed)
      ≡ (codes ",\n\"roas\":[" ++ (items ++ codes "\n]")) ++ print_spaced true ps
  unfolding print_spaced escape_byte
  roas-list = begun (codes ",\n\"roas\":[")

  gaps-listed : AreGaps ps → AreGaps listed
  gaps-listed h = (tt, gaps-lines value xs ((line_feed, end_array) ∷ ps) (gap, h))

  tokens-listed : (ts : List Token) → tokens-of ps ≡ ts
      → tokens-of listed ≡ json_tokens (outline (list_data value xs)) ++ ts
  tokens-listed ts h =
      ap (λ z. begin_array ∷ z) (list-tokens value xs ps
      ∙ ap (λ z. items_tokens (items_outline (items_of (map value xs))) ++ z) h)

metadata-printed : (d : Data) → IsObject d → (ps : Spaced)
    → print_spaced true ((line_feed, key (codes "metadata")) ∷ (lined d ++ ps))
    ≡ (codes ",\n\"metadata\":" ++ item_text d) ++ print_spaced true ps
unfolding print_spaced escape_byte
metadata-printed d h ps =
    told (codes ",\n\"metadata\":") (item_text d) _ (print_spaced true ps)
    (lined-printed false d h ps)

-- ---- the texts

aspas-are : (form : AsForm) (g : List ProviderRow) → IsObject (aspa_data form g)
aspas-are forms.Text g = (_, refl)
aspas-are forms.Number g = (_, refl)

roas-are : (form : AsForm) (r : OriginRow) → IsObject (roa_data form r)
roas-are form r = (_, refl)

refused-are : (r : RefusedRow) → IsObject (refused_row_data r)
refused-are r = (_, refl)

-- the end of the object
ended : (list : List ℕ) → list ++ codes "}\n" ≡ (list ++ codes "}") ++ codes "\n"
ended list = sym (append_assoc list (codes "}") (codes "\n"))

-- the end after other parts
after-one : (a b c : List ℕ) (d : List ℕ) → b ≡ c ++ d → a ++ b ≡ (a ++ c) ++ d
after-one a b c d e = ap (λ z. a ++ z) e ∙ sym (append_assoc a c d)

module _ (form : AsForm) (origins : List OriginRow) where
  abbrev roas-end : Spaced
  roas-end = ([], end_object) ∷ []

  abbrev roas-spaced : Spaced
  roas-spaced =
      (line_feed, key (codes "roas")) ∷ listed (roa_data form) (roas-are form) origins roas-end

  roas-printed : roas_part form origins ≡ print_spaced true roas-spaced ++ codes "\n"
  unfolding roas_part print_spaced
  roas-printed =
      ended (codes ",\n\"roas\":[" ++ (items_text (roa_item form) origins ++ codes "\n]"))
      ∙ ap (λ z. z ++ codes "\n")
      (sym (roas-list (roa_data form) (roas-are form) origins roas-end))

  abbrev roas-tokens : List Token
  roas-tokens = members_tokens (members_outline (member (codes "roas")
      (list_data (roa_data form) origins) no_members))

  roas-are-tokens : tokens-of roas-spaced ≡ roas-tokens
  roas-are-tokens = ap (λ z. key (codes "roas") ∷ z)
      (tokens-listed (roa_data form) (roas-are form) origins roas-end (end_object ∷ []) refl)

  gaps-roas : AreGaps roas-spaced
  gaps-roas = (gap, gaps-listed (roa_data form) (roas-are form) origins roas-end (tt, tt))

-- the metadata, and what follows them
module _ (moment : Moment) (found : List FoundUnder) (ps : Spaced) (text : List ℕ)
    (ts : List Token) (is : text ≡ print_spaced true ps ++ codes "\n")
    (same : tokens-of ps ≡ ts) (gaps : AreGaps ps) where
  abbrev metadata-spaced : Spaced
  metadata-spaced =
      (line_feed, key (codes "metadata")) ∷ (lined (metadata_data moment found) ++ ps)

  with-metadata : metadata_part moment found ++ text
      ≡ print_spaced true metadata-spaced ++ codes "\n"
  unfolding metadata_part
  with-metadata =
      after-one (codes ",\n\"metadata\":" ++ item_text (metadata_data moment found)) text
      (print_spaced true ps) (codes "\n") is
      ∙ ap (λ z. z ++ codes "\n")
      (sym (metadata-printed (metadata_data moment found) (_, refl) ps))

  metadata-tokens : tokens-of metadata-spaced
      ≡ key (codes "metadata") ∷ (json_tokens (outline (metadata_data moment found)) ++ ts)
  metadata-tokens = ap (λ z. key (codes "metadata") ∷ z)
      (lined-tokens (metadata_data moment found) ps
      ∙ ap (λ z. json_tokens (outline (metadata_data moment found)) ++ z) same)

  gaps-metadata : AreGaps metadata-spaced
  gaps-metadata = (gap, gaps-lined (metadata_data moment found) ps gaps)

-- the refusals, and what follows them
module _ (found : List FoundUnder) (ps : Spaced) (text : List ℕ) (ts : List Token)
    (is : text ≡ print_spaced true ps ++ codes "\n") (same : tokens-of ps ≡ ts)
    (gaps : AreGaps ps) where
  abbrev refused-spaced : Spaced
  refused-spaced = (line_feed, key (codes "refused"))
      ∷ listed refused_row_data refused-are (refused_rows found) ps

  with-refused : refused_part found ++ text ≡ print_spaced true refused-spaced ++ codes "\n"
  unfolding refused_part refused_item
  with-refused =
      after-one (codes ",\n\"refused\":["
      ++ (items_text (λ r. item_text (refused_row_data r)) (refused_rows found) ++ codes "\n]"))
      text (print_spaced true ps) (codes "\n") is
      ∙ ap (λ z. z ++ codes "\n")
      (sym (refused-list refused_row_data refused-are (refused_rows found) ps))

  refused-tokens : tokens-of refused-spaced
      ≡ key (codes "refused")
      ∷ (json_tokens (outline (list_data refused_row_data (refused_rows found))) ++ ts)
  refused-tokens = ap (λ z. key (codes "refused") ∷ z)
      (tokens-listed refused_row_data refused-are (refused_rows found) ps ts same)

  gaps-refused : AreGaps refused-spaced
  gaps-refused = (gap, gaps-listed refused_row_data refused-are (refused_rows found) ps gaps)

-- the whole, with what follows the customers
module _ (form : AsForm) (groups : List (List ProviderRow)) (ps : Spaced) (text : List ℕ)
    (is : text ≡ print_spaced true ps ++ codes "\n") (gaps : AreGaps ps) where
  abbrev whole : Spaced
  whole = ([], begin_object) ∷ ([], key (codes "aspas"))
      ∷ listed (aspa_data form) (aspas-are form) groups ps

  with-aspas : aspas_part form groups ++ text ≡ print_spaced false whole ++ codes "\n"
  unfolding aspas_part
  with-aspas =
      after-one (codes "{\"aspas\":[" ++ (items_text (aspa_item form) groups ++ codes "\n]")) text
      (print_spaced true ps) (codes "\n") is
      ∙ ap (λ z. z ++ codes "\n")
      (sym (first-list (aspa_data form) (aspas-are form) groups ps))

  gaps-whole : AreGaps whole
  gaps-whole = (tt, (tt, gaps-listed (aspa_data form) (aspas-are form) groups ps gaps))

pub json-says : (moment : Moment) (found : List FoundUnder) (origins : List OriginRow)
    (groups : List (List ProviderRow)) → HasSmall (json_data moment found origins groups)
    → IsTextOf (json_text moment found origins groups) (json_data moment found origins groups)
json-says moment found origins groups small =
    let roas = roas-spaced forms.Text origins in
    let roas-is = roas-printed forms.Text origins in
    let roas-same = roas-are-tokens forms.Text origins in
    let roas-gaps = gaps-roas forms.Text origins in
    let refused = refused-spaced found roas _ _ roas-is roas-same roas-gaps in
    let refused-is = with-refused found roas _ _ roas-is roas-same roas-gaps in
    let refused-same = refused-tokens found roas _ _ roas-is roas-same roas-gaps in
    let refused-gaps = gaps-refused found roas _ _ roas-is roas-same roas-gaps in
    let ps = metadata-spaced moment found refused _ _ refused-is refused-same refused-gaps in
    let is = with-metadata moment found refused _ _ refused-is refused-same refused-gaps in
    let same = metadata-tokens moment found refused _ _ refused-is refused-same refused-gaps in
    let gaps = gaps-metadata moment found refused _ _ refused-is refused-same refused-gaps in
    says (whole forms.Text groups ps _ is gaps) (json_data moment found origins groups) _
    (gaps-whole forms.Text groups ps _ is gaps)
    (ap (λ z. begin_object ∷ key (codes "aspas") ∷ z)
    (tokens-listed (aspa_data forms.Text) (aspas-are forms.Text) groups ps _ same)) small
    (omega (
      arith,
      metadata-deep moment found,
      items-deep (aspa_data forms.Text) 2
          (aspa-deep forms.Text) groups,
      items-deep (roa_data forms.Text) 1 (roa-deep forms.Text) origins,
      items-deep refused_row_data 1 refused-deep (refused_rows found),
    ))
    (with-aspas forms.Text groups ps _ is gaps)

pub client-says : (moment : Moment) (found : List FoundUnder) (origins : List OriginRow)
    (groups : List (List ProviderRow)) → HasSmall (client_data moment found origins groups)
    → IsTextOf (client_text moment found origins groups) (client_data moment found origins groups)
client-says moment found origins groups small =
    let roas = roas-spaced forms.Number origins in
    let roas-is = roas-printed forms.Number origins in
    let roas-same = roas-are-tokens forms.Number origins in
    let roas-gaps = gaps-roas forms.Number origins in
    let ps = metadata-spaced moment found roas _ _ roas-is roas-same roas-gaps in
    let is = with-metadata moment found roas _ _ roas-is roas-same roas-gaps in
    let same = metadata-tokens moment found roas _ _ roas-is roas-same roas-gaps in
    let gaps = gaps-metadata moment found roas _ _ roas-is roas-same roas-gaps in
    says (whole forms.Number groups ps _ is gaps) (client_data moment found origins groups) _
    (gaps-whole forms.Number groups ps _ is gaps)
    (ap (λ z. begin_object ∷ key (codes "aspas") ∷ z)
    (tokens-listed (aspa_data forms.Number) (aspas-are forms.Number) groups ps _ same)) small
    (omega (
      arith,
      metadata-deep moment found,
      items-deep (aspa_data forms.Number) 2
          (aspa-deep forms.Number) groups,
      items-deep (roa_data forms.Number) 1 (roa-deep forms.Number) origins,
    ))
    (with-aspas forms.Number groups ps _ is gaps)
