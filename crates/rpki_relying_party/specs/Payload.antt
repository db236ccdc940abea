-- Payloads, in the shape and the order in which routers compare them.
use Rattle.std.specs.Prelude.{◌≡◌, ℕ, Bool, true, false, Option, None, Some, unwrap_or, nat_lt}
use Rattle.std.specs.Prelude.{if◌then◌else◌}
use Rattle.std.specs.BTreeMap.{BTreeMap, get}
use Rattle.std.specs.Ordering.{is_eq}
use Rattle.std.specs.declared.cmp.Ordering.{Ordering}
use Rattle.rpki_basics.specs.Moment.{Moment, stamp}
use Rattle.rpki_resources.specs.declared.family.AddressFamily.{AddressFamily}
use Rattle.rpki_resources.specs.declared.family.AddressFamily.TheVariants.{Ipv4, Ipv6}
use Rattle.rpki_routes.specs.declared.roa.address.RouteOrigin.{RouteOrigin}
use Rattle.rpki_relying_party.specs.Orders.{origin_order, provider_order}
use Rattle.rpki_relying_party.specs.declared.payload.Held.{Held}
use Rattle.rpki_relying_party.specs.declared.payload.Origin.{Origin}
use Rattle.rpki_relying_party.specs.declared.payload.Payload.{Payload}
use Rattle.rpki_relying_party.specs.declared.payload.Payload.TheVariants as payloads
use Rattle.rpki_relying_party.specs.declared.payloads.Payloads.{Payloads}

-- The number of the family in the registry of address families (RFC 3779, section 2.2.3.3).
abbrev pub family_number : AddressFamily → ℕ
family_number Ipv4 = 1
family_number Ipv6 = 2

-- The origin, with the length of its prefix as the maximum length, where none is set (RFC 9582,
-- section 4.3.2.2).
abbrev pub origin_key : RouteOrigin → Origin
origin_key o = record {
  family = family_number o.prefix.family;
  addr = o.prefix.prefix.addr;
  len = o.prefix.prefix.len;
  max_len = unwrap_or o.prefix.max_len o.prefix.prefix.len;
  asn = o.asn;
}

-- what is held for a payload
abbrev pub held_in : Payloads → Payload → Option Held
held_in p (payloads.Origin x) = get origin_order p.origins x
held_in p (payloads.Provider x) = get provider_order p.providers x

-- whether what is held, if anything is, ends before a moment
abbrev pub ends_before : Option Held → Moment → Bool
ends_before None until = true
ends_before (Some held) until = nat_lt (stamp held.until) (stamp until)

-- Of two, the one that holds longer, and the first where they end together.
abbrev pub longer : Option Held → Held → Held
longer old held = if ends_before old held.until then held else unwrap_or old held

-- At this key the one is kept that holds longer, and nothing else has changed.
pub record KeepsLonger {K : Type 0} (cmp : K → K → Ordering) (key : K) (held : Held)
    (old new : BTreeMap K Held) : Type 0 where
  pub here : get cmp new key ≡ Some (longer (get cmp old key) held)
  pub others : (k : K) → is_eq (cmp key k) ≡ false → get cmp new k ≡ get cmp old k

-- For this payload the one is kept that holds longer, and for each other payload nothing has
-- changed.
pub record Keeps (x : Payload) (held : Held) (old new : Payloads) : Type 0 where
  pub here : held_in new x ≡ Some (longer (held_in old x) held)
  pub others : (y : Payload) → ¬ (y ≡ x) → held_in new y ≡ held_in old y
