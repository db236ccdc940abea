-- What contents say, in rows.
use Rattle.std.specs.Prelude.{◌≡◌, ◌⊎◌, ℕ, List, [], ◌∷◌, map, unwrap_or, Result, Ok, Err}
use Rattle.std.specs.Int.{w128, to_be_bytes}
use Rattle.rpki_resources.specs.declared.family.AddressFamily.{AddressFamily}
use Rattle.rpki_resources.specs.declared.family.AddressFamily.TheVariants.{Ipv4, Ipv6}
use Rattle.rpki_routes.specs.Aspa.{Aspa}
use Rattle.rpki_routes.specs.Roa.{FamilyAddress, Roa, addresses}
use Rattle.rpki_sigobj.specs.Signed.Kind.{ObjectKind}
use Rattle.rpki_check.specs.Numbers.{no_memory, refusal_number}
use Rattle.rpki_check.specs.Object.{IsFound}
use Rattle.rpki_check.specs.Room.{IsInRoom}
use Rattle.rpki_check.specs.declared.question.Question.{Question}
use Rattle.rpki_check.specs.declared.refusal.Refusal.{Refusal}
use Rattle.rpki_check.specs.declared.rows.Payload.{Payload}

-- the number of a family
abbrev pub family_number : AddressFamily → ℕ
family_number Ipv4 = 4
family_number Ipv6 = 6

-- the row of an address of a ROA of this AS
abbrev pub payload_of : ℕ → FamilyAddress → Payload
payload_of asn a = record {
  address = to_be_bytes w128 a.address.prefix.addr;
  asn = asn;
  family = family_number a.family;
  prefix_length = a.address.prefix.len;
  max_length = unwrap_or a.address.max_length a.address.prefix.len;
  zero = 0;
}

-- the rows of a ROA, those of IPv4 first
abbrev pub payloads : Roa → List Payload
payloads r = map (payload_of r.as_id) (addresses r)

-- the rows of an ASPA: the customer, and then its providers
abbrev pub numbers : Aspa → List ℕ
numbers a = a.customer ∷ a.providers

-- What a call leaves where this is found: its status, with the rows of the content, or with none
-- where there is none; or that memory ran out.
abbrev pub IsPut : {X R : Type 0} → (X → List R) → Result X Refusal → List R → List R → ℕ → ℕ
    → Type 0
IsPut rows (Ok x) old new count status =
    ((status ≡ no_memory) × IsInRoom [] old new count)
    ⊎ ((status ≡ 0) × IsInRoom (rows x) old new count)
IsPut rows (Err refusal) old new count status =
    (status ≡ refusal_number refusal) × IsInRoom [] old new count

-- What a call leaves that asks for the rows of the object at the front of octets.
abbrev pub IsRowsCall : {X R : Type 0} → ObjectKind X → (List ℕ → X → Type 0) → (X → List R)
    → Question → List ℕ → List R → List R → ℕ → ℕ → Type 0
IsRowsCall {X} kind form rows q octets old new count status =
    (found : Result X Refusal) × IsFound kind form q octets found
    × IsPut rows found old new count status
