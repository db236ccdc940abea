-- Payloads as JSON (RFC 8259): the values, and the texts in which each stands on a line.
use Rattle.std.specs.Prelude.{◌≡◌, ◌<◌, ◌^◌, ⊤, ℕ, List, ◌++◌, Option, None, Some, map}
use Rattle.std.specs.Prelude.{codes}
use Rattle.std.specs.BTreeMap.{values, btree_map_len}
use Rattle.std.specs.List.{flat_map}
use Rattle.json.specs.Json.{document}
use Rattle.rpki_basics.specs.Moment.{Moment}
use Rattle.rpki_basics.specs.Time.Form.{iso_text}
use Rattle.rpki_relying_party.specs.Texts.{cause_text}
use Rattle.rpki_relying_party.specs.declared.found.Refusal.{Refusal}
use Rattle.rpki_resources.specs.As.{asn_text}
use Rattle.serde_json.specs.Data.{Data, null, boolean, number, unsigned, negative, float, string}
use Rattle.serde_json.specs.Data.{array, object, Items, no_items, item, Members, member, no_members}
use Rattle.serde_json.specs.View.{items_of}
use Rattle.serde_json.specs.Written.{compact_text, outline}
use Rattle.rpki_payloads.specs.Formats.Fields.{end_seconds}
use Rattle.rpki_payloads.specs.Formats.Groups.{customer_of, expires_of, name_of}
use Rattle.rpki_payloads.specs.Formats.Row.{OriginRow, ProviderRow}
use Rattle.rpki_payloads.specs.Found.{FoundUnder}
use Rattle.rpki_payloads.specs.Printed.{separated}
use Rattle.rpki_payloads.specs.Seconds.{seconds_since}
use Rattle.rpki_payloads.specs.Texts.Origin.{prefix_of}
use Rattle.rpki_payloads.specs.declared.formats.members.AsForm.{AsForm}
use Rattle.rpki_payloads.specs.declared.formats.members.AsForm.TheVariants as forms

-- ---- values

-- a number
abbrev pub count : ℕ → Data
count n = number (unsigned n)

-- a number, or null
abbrev pub maybe : Option ℕ → Data
maybe None = null
maybe (Some n) = count n

-- an AS number: `"AS64496"` or `64496`
abbrev pub as_data : AsForm → ℕ → Data
as_data forms.Text n = string (asn_text n)
as_data forms.Number n = count n

-- an origin
abbrev pub roa_data : AsForm → OriginRow → Data
roa_data form r = object (
    member (codes "asn") (as_data form r.origin.asn) (
    member (codes "expires") (maybe (end_seconds r.until)) (
    member (codes "maxLength") (count r.origin.max_len) (
    member (codes "prefix") (string (prefix_of r.origin)) (
    member (codes "ta") (string r.name) no_members)))))

-- a provider
abbrev pub provider_data : AsForm → ProviderRow → Data
provider_data form r = as_data form r.provider.provider

-- the providers of a customer
abbrev pub providers_data : AsForm → List ProviderRow → Data
providers_data form g = array (items_of (map (provider_data form) g))

-- a customer with its providers
abbrev pub aspa_data : AsForm → List ProviderRow → Data
aspa_data forms.Text g = object (
    member (codes "customer") (string (asn_text (customer_of g))) (
    member (codes "expires") (maybe (expires_of g)) (
    member (codes "providers") (providers_data forms.Text g) (
    member (codes "ta") (string (name_of g)) no_members))))
aspa_data forms.Number g = object (
    member (codes "customer_asid") (count (customer_of g)) (
    member (codes "expires") (maybe (expires_of g)) (
    member (codes "providers") (providers_data forms.Number g) no_members)))

-- a refusal, and the name of the locator that it is below
pub record RefusedRow : Type 0 where
  pub name : List ℕ
  pub refusal : Refusal

-- a refusal: the file or point, why, the CA that it is below, and the name of the locator
abbrev pub refused_data : List ℕ → Refusal → Data
refused_data name r = object (
    member (codes "ca") (string r.under) (
    member (codes "reason") (string (cause_text r.cause)) (
    member (codes "ta") (string name) (
    member (codes "uri") (string r.uri) no_members))))

-- how much was found under a name
abbrev pub count_data : FoundUnder → Data
count_data f = object (
    member (codes "name") (string f.name) (
    member (codes "origins") (count (btree_map_len f.found.payloads.origins)) (
    member (codes "providers") (count (btree_map_len f.found.payloads.providers)) (
    member (codes "refused") (count (btree_map_len f.found.refusals.by_line)) no_members))))

-- when payloads were found, and how many under each name
abbrev pub metadata_data : Moment → List FoundUnder → Data
metadata_data moment found = object (
    member (codes "buildtime") (string (iso_text moment)) (
    member (codes "generated") (count (seconds_since moment)) (
    member (codes "generatedTime") (string (iso_text moment)) (
    member (codes "locators") (array (items_of (map count_data found))) no_members))))

-- the row of a refusal
abbrev pub refused_row : List ℕ → Refusal → RefusedRow
refused_row name r = record { name = name; refusal = r }

-- what was refused under a name, in the order of what the lines say
abbrev pub refused_under : FoundUnder → List RefusedRow
refused_under f = map (refused_row f.name) (values f.found.refusals.by_line)

-- what was refused, name by name
abbrev pub refused_rows : List FoundUnder → List RefusedRow
refused_rows found = flat_map refused_under found

-- the value of a row of a refusal
abbrev pub refused_row_data : RefusedRow → Data
refused_row_data r = refused_data r.name r.refusal

-- a list of values, one for each item
abbrev pub list_data : {X : Type 0} → (X → Data) → List X → Data
list_data value xs = array (items_of (map value xs))

-- the JSON of Routinator, with what is refused
abbrev pub json_data : Moment → List FoundUnder → List OriginRow → List (List ProviderRow) → Data
json_data moment found origins groups = object (
    member (codes "aspas") (list_data (aspa_data forms.Text) groups) (
    member (codes "metadata") (metadata_data moment found) (
    member (codes "refused") (list_data refused_row_data (refused_rows found)) (
    member (codes "roas") (list_data (roa_data forms.Text) origins) no_members))))

-- the JSON of `rpki-client -j`
abbrev pub client_data : Moment → List FoundUnder → List OriginRow → List (List ProviderRow)
    → Data
client_data moment found origins groups = object (
    member (codes "aspas") (list_data (aspa_data forms.Number) groups) (
    member (codes "metadata") (metadata_data moment found) (
    member (codes "roas") (list_data (roa_data forms.Number) origins) no_members)))

abbrev mutual
  -- each number of a value is a whole one below 2^64
  pub HasSmall : Data → Type 0
  HasSmall null = ⊤
  HasSmall (boolean b) = ⊤
  HasSmall (number (unsigned n)) = n < 2 ^ 64
  HasSmall (number (negative z)) = ⊥
  HasSmall (number (float x)) = ⊥
  HasSmall (string s) = ⊤
  HasSmall (array ds) = ItemsHaveSmall ds
  HasSmall (object ms) = MembersHaveSmall ms

  pub ItemsHaveSmall : Items → Type 0
  ItemsHaveSmall no_items = ⊤
  ItemsHaveSmall (item d ds) = HasSmall d × ItemsHaveSmall ds

  pub MembersHaveSmall : Members → Type 0
  MembersHaveSmall no_members = ⊤
  MembersHaveSmall (member k d ms) = HasSmall d × MembersHaveSmall ms

-- The octets are a text of JSON (RFC 8259) that is this value, and a line feed.
pub record IsTextOf (octets : List ℕ) (d : Data) : Type 0 where
  pub text : List ℕ
  pub ends : octets ≡ text ++ codes "\n"
  pub reads : document text ≡ Some (outline d)

-- ---- texts

-- a value on a line of its own
abbrev pub item_text : Data → List ℕ
item_text d = codes "\n" ++ compact_text d

-- the line of an origin
abbrev pub roa_item : AsForm → OriginRow → List ℕ
roa_item form r = item_text (roa_data form r)

-- the line of a customer with its providers
abbrev pub aspa_item : AsForm → List ProviderRow → List ℕ
aspa_item form g = item_text (aspa_data form g)

-- the line of a refusal
unfoldable pub refused_item : RefusedRow → List ℕ
refused_item r = item_text (refused_row_data r)

-- the texts of items, with a comma between each two
abbrev pub items_text : {X : Type 0} → (X → List ℕ) → List X → List ℕ
items_text line xs = separated (codes ",") line xs

-- a list: what begins it, its items with commas between them, and its end
abbrev pub list_text : {X : Type 0} → List ℕ → (X → List ℕ) → List X → List ℕ
list_text begin line xs = begin ++ (items_text line xs ++ codes "\n]")

-- the beginning, and the customers with their providers
unfoldable pub aspas_part : AsForm → List (List ProviderRow) → List ℕ
aspas_part form groups = list_text (codes "{\"aspas\":[") (aspa_item form) groups

-- when payloads were found, and how many
unfoldable pub metadata_part : Moment → List FoundUnder → List ℕ
metadata_part moment found = codes ",\n\"metadata\":" ++ item_text (metadata_data moment found)

-- what was refused, as a list
unfoldable pub refused_part : List FoundUnder → List ℕ
refused_part found = list_text (codes ",\n\"refused\":[") refused_item (refused_rows found)

-- the origins, and the end
unfoldable pub roas_part : AsForm → List OriginRow → List ℕ
roas_part form rows =
    list_text (codes ",\n\"roas\":[") (roa_item form) rows ++ codes "}\n"

-- the JSON of Routinator, with what is refused
abbrev pub json_text : Moment → List FoundUnder → List OriginRow → List (List ProviderRow) → List ℕ
json_text moment found origins groups =
    aspas_part forms.Text groups ++ (metadata_part moment found ++ (refused_part found
    ++ roas_part forms.Text origins))

-- the JSON of `rpki-client -j`
abbrev pub client_text : Moment → List FoundUnder → List OriginRow → List (List ProviderRow)
    → List ℕ
client_text moment found origins groups =
    aspas_part forms.Number groups ++ (metadata_part moment found ++ roas_part forms.Number origins)
