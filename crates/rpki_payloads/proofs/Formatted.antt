-- What formats print of each row.
use Rattle.std.proofs.Common.{◌≡◌, ℕ, Bool, true, false, not, cond, List, [], ◌∷◌, ◌++◌, codes}
use Rattle.std.proofs.Common.{refl, sym, ap, ◌∙◌, append_assoc, append-nil, filter}
use Rattle.std.specs.List.{flat_map}
use Rattle.csv.specs.Writing.{row_text, default_writer}
use Rattle.rpki_payloads.specs.Formats.{PrintsCustomers, PrintsOrigins, PrintsProviders}
use Rattle.rpki_payloads.specs.Formats.Bird.{is_v4, is_v6, route, route_v6}
use Rattle.rpki_payloads.specs.Formats.Bird.{table_v4, table_v6}
use Rattle.rpki_payloads.specs.Formats.Groups.{groups}
use Rattle.rpki_payloads.specs.Formats.Json.{aspa_item, aspas_part, items_text, metadata_part}
use Rattle.rpki_payloads.specs.Formats.Json.{refused_part, roa_item, roas_part}
use Rattle.rpki_payloads.specs.Formats.Lines.{aspa_line, long_origin, long_provider, origin_line}
use Rattle.rpki_payloads.specs.Formats.Openbgpd.{aspa_set, aspa_set_line, roa_line, roa_set}
use Rattle.rpki_payloads.specs.Formats.Openbgpd.{some_aspas}
use Rattle.rpki_payloads.specs.Formats.Row.{OriginRow, ProviderRow}
use Rattle.rpki_payloads.specs.Formats.Table.{header, record_text}
use Rattle.rpki_payloads.specs.Printed.{PrintsEach, separated}
use Rattle.rpki_payloads.specs.declared.formats.PayloadFormat.TheVariants as formats
use Rattle.rpki_payloads.specs.declared.formats.members.AsForm.{AsForm}
use Rattle.rpki_payloads.specs.declared.formats.members.AsForm.TheVariants as forms

-- with no separator, the texts stand side by side
side-by-side : {X : Type 0} (line : X → List ℕ) (xs : List X)
    → flat_map line xs ≡ separated [] line xs
side-by-side line [] = refl
side-by-side line (x ∷ xs) = refl

-- the texts of rows between two others
between : {R X : Type 0} (items : R → List X) (line : X → List ℕ) (print : R → List ℕ)
    (begin end : List ℕ) → ((r : R) → print r ≡ begin ++ (flat_map line (items r) ++ end))
    → PrintsEach items [] line print
between items line print begin end told = record {
  begin = begin;
  end = end;
  is = λ r. told r ∙ ap (λ z. begin ++ (z ++ end)) (side-by-side line (items r));
}

-- the texts of rows before another one, and after one
before : {R X : Type 0} (items : R → List X) (line : X → List ℕ) (end : List ℕ)
    → PrintsEach items [] line (λ r. flat_map line (items r) ++ end)
before items line end = between items line (λ r. flat_map line (items r) ++ end) [] end (λ r. refl)

after : {R X : Type 0} (items : R → List X) (line : X → List ℕ) (begin : List ℕ)
    → PrintsEach items [] line (λ r. begin ++ flat_map line (items r))
after items line begin =
    between items line (λ r. begin ++ flat_map line (items r)) begin []
    (λ r. ap (λ z. begin ++ z) (sym (append-nil (flat_map line (items r)))))

-- ---- lines, and CSV

pub lines-each : PrintsOrigins formats.Lines [] origin_line
    × PrintsCustomers formats.Lines [] aspa_line
lines-each = (
  λ moment found providers.
      before (λ (rows : List OriginRow). rows) origin_line (flat_map aspa_line (groups providers)),
  λ moment found origins. after groups aspa_line (flat_map origin_line origins),
)

pub long-each : PrintsOrigins formats.Long [] long_origin
    × PrintsProviders formats.Long [] long_provider
long-each = (
  λ moment found providers.
      before (λ (rows : List OriginRow). rows) long_origin (flat_map long_provider providers),
  λ moment found origins.
      after (λ (rows : List ProviderRow). rows) long_provider (flat_map long_origin origins),
)

pub csv-each : PrintsOrigins formats.Csv [] record_text
csv-each = λ moment found providers.
    after (λ (rows : List OriginRow). rows) record_text (row_text default_writer header)

-- ---- JSON

-- a list at the end, and a list at the beginning
list-last : (a b c items d : List ℕ)
    → a ++ ((b ++ (items ++ c)) ++ d) ≡ (a ++ b) ++ (items ++ (c ++ d))
list-last a b c items d =
    ap (λ z. a ++ z) (append_assoc b (items ++ c) d ∙ ap (λ z. b ++ z) (append_assoc items c d))
    ∙ sym (append_assoc a b (items ++ (c ++ d)))

list-first : (b items c d : List ℕ) → (b ++ (items ++ c)) ++ d ≡ b ++ (items ++ (c ++ d))
list-first b items c d = append_assoc b (items ++ c) d ∙ ap (λ z. b ++ z) (append_assoc items c d)

origins-each : (form : AsForm) (front : List ℕ)
    → PrintsEach (λ (rows : List OriginRow). rows) (codes ",") (roa_item form)
    (λ rows. front ++ roas_part form rows)
unfolding roas_part
origins-each form front = record {
  begin = front ++ codes ",\n\"roas\":[";
  end = codes "\n]" ++ codes "}\n";
  is = λ rows. list-last front (codes ",\n\"roas\":[") (codes "\n]")
      (items_text (roa_item form) rows) (codes "}\n");
}

customers-each : (form : AsForm) (back : List ℕ)
    → PrintsEach groups (codes ",") (aspa_item form)
    (λ rows. aspas_part form (groups rows) ++ back)
unfolding aspas_part
customers-each form back = record {
  begin = codes "{\"aspas\":[";
  end = codes "\n]" ++ back;
  is = λ rows. list-first (codes "{\"aspas\":[") (items_text (aspa_item form) (groups rows))
      (codes "\n]") back;
}

-- the same in other words
told-so : {R X : Type 0} (items : R → List X) (separator : List ℕ) (line : X → List ℕ)
    (print told : R → List ℕ) → PrintsEach items separator line print
    → ((r : R) → told r ≡ print r) → PrintsEach items separator line told
told-so items separator line print told p same = record {
  begin = p.begin;
  end = p.end;
  is = λ r. same r ∙ p.is r;
}

pub json-each : PrintsOrigins formats.Json (codes ",") (roa_item forms.Text)
    × PrintsCustomers formats.Json (codes ",") (aspa_item forms.Text)
json-each = (
  λ moment found providers.
      let customers = aspas_part forms.Text (groups providers) in
      let metadata = metadata_part moment found in
      let refused = refused_part found in
      told-so (λ (rows : List OriginRow). rows) (codes ",") (roa_item forms.Text)
      (λ rows. (customers ++ (metadata ++ refused)) ++ roas_part forms.Text rows)
      (λ rows. customers ++ (metadata ++ (refused ++ roas_part forms.Text rows)))
      (origins-each forms.Text (customers ++ (metadata ++ refused)))
      (λ rows. ap (λ z. customers ++ z)
      (sym (append_assoc metadata refused (roas_part forms.Text rows)))
      ∙ sym (append_assoc customers (metadata ++ refused) (roas_part forms.Text rows))),
  λ moment found origins. customers-each forms.Text
      (metadata_part moment found ++ (refused_part found ++ roas_part forms.Text origins)),
)

pub client-each : PrintsOrigins formats.RpkiClient (codes ",") (roa_item forms.Number)
    × PrintsCustomers formats.RpkiClient (codes ",") (aspa_item forms.Number)
client-each = (
  λ moment found providers.
      let customers = aspas_part forms.Number (groups providers) in
      let metadata = metadata_part moment found in
      told-so (λ (rows : List OriginRow). rows) (codes ",") (roa_item forms.Number)
      (λ rows. (customers ++ metadata) ++ roas_part forms.Number rows)
      (λ rows. customers ++ (metadata ++ roas_part forms.Number rows))
      (origins-each forms.Number (customers ++ metadata))
      (λ rows. sym (append_assoc customers metadata (roas_part forms.Number rows))),
  λ moment found origins. customers-each forms.Number
      (metadata_part moment found ++ roas_part forms.Number origins),
)

-- ---- BIRD

-- what is printed of those that pass, and nothing of the others
passing : (p : OriginRow → Bool) (rows : List OriginRow)
    → flat_map (λ r. cond (p r) (route r) []) rows ≡ flat_map route (filter p rows)
passing p [] = refl
passing p (r ∷ rows) = by (passing p rows) (p r)
  where
    by : flat_map (λ r. cond (p r) (route r) []) rows ≡ flat_map route (filter p rows)
        → (b : Bool) → cond b (route r) [] ++ flat_map (λ r. cond (p r) (route r) []) rows
        ≡ flat_map route (cond b (r ∷ filter p rows) (filter p rows))
    by rest true = ap (λ z. route r ++ z) rest
    by rest false = rest

others : (rows : List OriginRow) → flat_map route_v6 rows ≡ flat_map route (filter is_v6 rows)
others [] = refl
others (r ∷ rows) = by (others rows) (is_v4 r)
  where
    by : flat_map route_v6 rows ≡ flat_map route (filter is_v6 rows)
        → (b : Bool) → cond b [] (route r) ++ flat_map route_v6 rows
        ≡ flat_map route (cond (not b) (r ∷ filter is_v6 rows) (filter is_v6 rows))
    by rest true = rest
    by rest false = ap (λ z. route r ++ z) rest

pub bird-each : PrintsEach (filter is_v4) [] route table_v4
    × PrintsEach (filter is_v6) [] route table_v6
unfolding table_v4 table_v6
bird-each = (
  between (filter is_v4) route table_v4
      (codes "roa4 table ROAS4;\n\nprotocol static origins4 {\n\troa4 { table ROAS4; };\n")
      (codes "}\n")
      (λ rows. ap (λ z.
      codes "roa4 table ROAS4;\n\nprotocol static origins4 {\n\troa4 { table ROAS4; };\n"
      ++ (z ++ codes "}\n")) (passing is_v4 rows)),
  between (filter is_v6) route table_v6
      (codes "\nroa6 table ROAS6;\n\nprotocol static origins6 {\n\troa6 { table ROAS6; };\n")
      (codes "}\n")
      (λ rows. ap (λ z.
      codes "\nroa6 table ROAS6;\n\nprotocol static origins6 {\n\troa6 { table ROAS6; };\n"
      ++ (z ++ codes "}\n")) (others rows)),
)

-- ---- OpenBGPD

openbgpd-origins : (back : List ℕ)
    → PrintsEach (λ (rows : List OriginRow). rows) [] roa_line (λ rows. roa_set rows ++ back)
unfolding roa_set
openbgpd-origins back =
    between (λ (rows : List OriginRow). rows) roa_line (λ rows. roa_set rows ++ back)
    (codes "roa-set {\n") (codes "}\n" ++ back)
    (λ rows. list-first (codes "roa-set {\n") (flat_map roa_line rows) (codes "}\n") back)

pub openbgpd-each : PrintsOrigins formats.Openbgpd [] roa_line
    × PrintsEach (λ (gs : List (List ProviderRow)). gs) [] aspa_set_line some_aspas
unfolding some_aspas
openbgpd-each = (
  λ moment found providers. openbgpd-origins (aspa_set (groups providers)),
  between (λ (gs : List (List ProviderRow)). gs) aspa_set_line some_aspas
      (codes "aspa-set {\n") (codes "}\n") (λ gs. refl),
)
