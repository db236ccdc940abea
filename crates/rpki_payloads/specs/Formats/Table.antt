-- Origins as comma-separated values (RFC 4180), in the columns of rpki-client. A record ends in LF
-- alone, as its do, where RFC 4180 has CR and LF.
use Rattle.std.specs.Prelude.{◌≡◌, ℕ, List, [], ◌∷◌, ◌++◌, false, Option, None, Some}
use Rattle.std.specs.Prelude.{codes, decimal, Vec}
use Rattle.std.specs.Io.KnownBytes.{Appends}
use Rattle.std.specs.List.{flat_map}
use Rattle.std.specs.declared.alloc.Global.{Global}
use Rattle.csv.specs.Writing.{text_written, row_text, default_writer, fields_written, has_written}
use Rattle.csv.specs.Writing.{writer_setup}
use Rattle.csv.specs.declared.writer.Writer.{Writer}
use Rattle.rpki_resources.specs.As.{asn_text}
use Rattle.rpki_payloads.specs.Formats.Fields.{end_seconds}
use Rattle.rpki_payloads.specs.Formats.Row.{OriginRow}
use Rattle.rpki_payloads.specs.Texts.Origin.{prefix_of}

-- a number, or nothing
abbrev pub maybe_decimal : Option ℕ → List ℕ
maybe_decimal None = []
maybe_decimal (Some n) = decimal n

-- the names of the columns
abbrev pub header : List (List ℕ)
header = codes "ASN" ∷ codes "IP Prefix" ∷ codes "Max Length" ∷ codes "Trust Anchor"
    ∷ codes "Expires" ∷ []

-- the fields of an origin: it expires when it no longer holds, in seconds after 1970 began
abbrev pub origin_fields : OriginRow → List (List ℕ)
origin_fields r = asn_text r.origin.asn ∷ prefix_of r.origin ∷ decimal r.origin.max_len ∷ r.name
    ∷ maybe_decimal (end_seconds r.until) ∷ []

-- the record of an origin
abbrev pub record_text : OriginRow → List ℕ
record_text r = row_text default_writer (origin_fields r)

-- the header, and a record for each origin
abbrev pub table_text : List OriginRow → List ℕ
table_text rows = row_text default_writer header ++ flat_map record_text rows

-- a writer to memory
abbrev pub Memory : Type 0
Memory = Writer (Vec ℕ Global)

-- what was written to memory
abbrev pub octets_written : Memory → Option (List ℕ)
octets_written w = text_written (λ (v : Vec ℕ Global). Some v.items) w

-- a writer with the crate's defaults, between two records
pub record IsReady (w : Memory) : Type 0 where
  pub fields : fields_written w ≡ 0
  pub wrote : has_written w ≡ false
  pub setup : writer_setup w ≡ default_writer

-- a record was written, after which the writer is ready again
abbrev pub KeepsReady : Memory → Memory → List (List ℕ) → Type 0
KeepsReady old new fields = IsReady old
    → IsReady new × Appends (octets_written old) (octets_written new)
    (row_text default_writer fields)
