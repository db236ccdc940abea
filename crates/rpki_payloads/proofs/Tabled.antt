-- The table of origins reads back.
use Rattle.std.proofs.Common.{◌≡◌, ◌≤◌, ◌+◌, ℕ, zero, suc, List, [], ◌∷◌, ◌++◌, map, length}
use Rattle.std.proofs.Common.{arith, refl, ap, ◌∙◌, if◌then◌else◌}
use Rattle.std.proofs.lemmas.List.{length-append}
use Rattle.std.specs.List.{flat_map}
use Rattle.csv.specs.Machine.{next_record}
use Rattle.csv.specs.Reading.{default_config, records, records_from}
use Rattle.csv.specs.Writing.{default_writer, is_blank, read_back, row_body, row_text}
use Rattle.csv.specs.declared.parser.State.TheVariants as st
use Rattle.csv.proofs.RoundTrip.{read-write}
use Rattle.rpki_payloads.specs.Formats.Row.{OriginRow}
use Rattle.rpki_payloads.specs.Formats.Table.{header, origin_fields, record_text, table_text}

abbrev Fields : Type 0
Fields = List (List ℕ)

abbrev all-text : List Fields → List ℕ
all-text rows = flat_map (row_text default_writer) rows

-- nothing is read where nothing stands
none-read : (n : ℕ) → records_from default_config n st.StartRecord [] ≡ []
unfolding records_from next_record
none-read zero = refl
none-read (suc n) = refl

one-read : (n : ℕ) (row : Fields) (rest : List ℕ)
    → records_from default_config (suc n) st.StartRecord (row_text default_writer row ++ rest)
    ≡ read_back row ∷ records_from default_config n st.StartRecord rest
unfolding records_from
one-read n row rest = rw (read-write row rest) refl

all-read : (rows : List Fields) (n : ℕ) → length rows ≤ n
    → records_from default_config n st.StartRecord (all-text rows) ≡ map read_back rows
all-read [] n h = none-read n
all-read (row ∷ rows) zero h = absurd (omega (arith, h))
all-read (row ∷ rows) (suc n) h =
    one-read n row (all-text rows)
    ∙ ap (λ t. read_back row ∷ t) (all-read rows n (omega (arith, h)))

-- each record has an octet
some-octet : (row : Fields) → 1 ≤ length (row_text default_writer row)
some-octet row =
    let blank : List ℕ = if is_blank default_writer row then 34 ∷ 34 ∷ [] else [] in
    omega (
      arith,
      length-append (row_body default_writer row) (blank ++ 10 ∷ []),
      length-append blank (10 ∷ []),
    )

enough : (rows : List Fields) → length rows ≤ length (all-text rows)
enough [] = omega arith
enough (row ∷ rows) =
    omega (
      arith,
      length-append (row_text default_writer row) (all-text rows),
      some-octet row,
      enough rows,
    )

-- the rows of the table, each with the header before
rows-text : (origins : List OriginRow) → flat_map record_text origins
    ≡ all-text (map origin_fields origins)
rows-text [] = refl
rows-text (r ∷ rs) = ap (λ z. record_text r ++ z) (rows-text rs)

same-fields : (origins : List OriginRow)
    → map read_back (map origin_fields origins) ≡ map origin_fields origins
same-fields [] = refl
same-fields (r ∷ rs) = ap (λ z. origin_fields r ∷ z) (same-fields rs)

pub table-reads : (origins : List OriginRow)
    → records default_config (table_text origins) ≡ header ∷ map origin_fields origins
table-reads origins =
    let rows = header ∷ map origin_fields origins in
    let text : table_text origins ≡ all-text rows =
    ap (λ z. row_text default_writer header ++ z) (rows-text origins) in
    ap (records default_config) text
    ∙ all-read rows (length (all-text rows) + 1) (omega (arith, enough rows))
    ∙ ap (λ z. header ∷ z) (same-fields origins)
