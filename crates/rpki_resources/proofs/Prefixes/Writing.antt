-- What is written of a prefix is in its form.
use Rattle.std.proofs.Common.{◌≡◌, ℕ, ◌-◌, ◌%◌, ◌^◌, ◌<◌, ◌≤◌, List, ◌++◌, Some, sym, arith}
use Rattle.rpki_der.specs.declared.mode.Mode.{Mode}
use Rattle.rpki_der.specs.declared.mode.Mode.TheVariants.{Der, Ber}
use Rattle.rpki_der.specs.Tags.{BIT_STRING}
use Rattle.rpki_der.specs.Read.Exact.{IsReading}
use Rattle.rpki_resources.specs.declared.family.AddressFamily.{AddressFamily}
use Rattle.rpki_resources.specs.Family.{max_bits}
use Rattle.rpki_resources.specs.Prefix.{Network}
use Rattle.rpki_resources.specs.Ip.Form.{PrefixForm}
use Rattle.rpki_resources.specs.Ip.Read.{prefix_at}
use Rattle.rpki_resources.specs.Ip.Written.{end_octets}
use Rattle.rpki_resources.proofs.Addresses.Exact.{prefix-part}
use Rattle.rpki_resources.proofs.Addresses.FirstBits.{end_bits, end-count, lowest-end}
use Rattle.rpki_resources.proofs.Addresses.Within.{max-most}
use Rattle.rpki_resources.proofs.Addresses.Writing.{address-written}
use Rattle.rpki_der.proofs.Reading.Unique.{part-reading}

pub prefix-reading : (family : AddressFamily)
    → IsReading (prefix_at (max_bits family)) (PrefixForm family)
prefix-reading family =
    part-reading (prefix-part family) (λ mode o p h. (BIT_STRING, h.1.0.0, h.1.0.1))

-- ---- what is written

-- a prefix of the family: no bit after its length is set, and it has no more bits than an address
-- of the family
pub prefix-written : (family : AddressFamily) (p : Network) → p.len ≤ max_bits family
    → p.addr < 2 ^ 128
    → p.addr % 2 ^ (128 - p.len) ≡ 0 → PrefixForm family Der (end_octets p.addr p.len) p
prefix-written family p l below aligned =
    let most = max-most family in
    let low = lowest-end p.addr p.len (omega arith) below aligned in
    let count = end-count p.addr p.len (omega arith) in (
      end_bits p.addr p.len,
      address-written (max_bits family) p.addr p.len most l,
      (λ i. record { addr = sym low i; len = sym count i }),
    )

prefix-in : (family : AddressFamily) (mode : Mode) (o : List ℕ) (p : Network)
    → PrefixForm family Der o p
    → PrefixForm family mode o p
prefix-in family Der o p h = h
prefix-in family Ber o p h = (prefix-reading family).relaxed o p h

pub prefix-read : (family : AddressFamily) (mode : Mode) (p : Network) (rest : List ℕ)
    → p.len ≤ max_bits family → p.addr < 2 ^ 128 → p.addr % 2 ^ (128 - p.len) ≡ 0
    → prefix_at (max_bits family) mode (end_octets p.addr p.len ++ rest) ≡ Some (p, rest)
prefix-read family mode p rest l below aligned =
    ((prefix-reading family).exact mode).complete (end_octets p.addr p.len) p rest tt
    (prefix-in family mode (end_octets p.addr p.len) p (prefix-written family p l below aligned))
