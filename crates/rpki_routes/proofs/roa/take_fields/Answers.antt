use Rattle.std.proofs.Common.{List, All, sym, subst, arith}
use Rattle.rpki_der.specs.Grammar.{IsBytes}
use Rattle.rpki_der.proofs.Reading.Exact.{IsBytes-left}
use Rattle.rpki_resources.specs.declared.by_family.ByFamily.{ByFamily}
use Rattle.rpki_resources.specs.declared.family.AddressFamily.TheVariants.{Ipv4, Ipv6}
use Rattle.rpki_routes.specs.Roa.{Address, IsAddress}
use Rattle.rpki_routes.proofs.Fronts.{front}
use Rattle.rpki_routes.proofs.Origins.Exact.{blocks-part}
use Rattle.rpki_routes.proofs.Origins.Facts.{families-facts}
use Rattle.rpki_routes.proofs.roa.take_fields.Goals as goal

pub invariant_of-result : goal.invariant_of-result
invariant_of-result c =
    let values : ByFamily (List Address) = c.in_ok-v4.field-0 in
    let f = front blocks-part (λ (v : ByFamily (List Address)). v) c.take_u32.new.self values
    c.take_families.new.cons c.holds_octets.ensures c.in_ok-v4.ensures.reads in
    let octets : IsBytes f.0 =
    IsBytes-left f.0 c.take_families.new.cons.rest (subst IsBytes f.1 c.holds_octets.ensures) in
    let facts = families-facts c.take_u32.new.self.mode f.0 values octets f.2 in
    record {
      number = rw c.from_u32.ensures (omega arith);
      v4 = subst (All (IsAddress Ipv4)) (sym c.or_none.ensures) facts.0;
      v6 = subst (All (IsAddress Ipv6)) (sym c.or_none-2.ensures) facts.1;
    }
