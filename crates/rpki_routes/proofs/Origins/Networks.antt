-- A prefix is what its bits say.
use Rattle.std.proofs.Common.{◌≡◌, ℕ, List, Option, Some, None, subst}
use Rattle.std.specs.Prelude.{MatchOption}
use Rattle.rpki_der.specs.declared.mode.Mode.TheVariants.{Der}
use Rattle.rpki_der.specs.Bits.{IsBits}
use Rattle.rpki_der.specs.Tags.{BIT_STRING}
use Rattle.rpki_der.specs.Read.Parse.{bits_at, bits_of, value_at}
use Rattle.rpki_der.proofs.Reading.Contents.{bits-sound}
use Rattle.rpki_der.proofs.Reading.Lengths.{bind_some, some_is}
use Rattle.rpki_lists.specs.Slice.{FindsFront}
use Rattle.rpki_resources.specs.declared.family.AddressFamily.TheVariants.{Ipv6}
use Rattle.rpki_resources.specs.Ip.Form.{IsNetworkOf}
use Rattle.rpki_resources.specs.Ip.Read.{prefix_at}
use Rattle.rpki_resources.specs.Prefix.{Network}
use Rattle.rpki_resources.proofs.Prefixes.Bits.{network-read, network-refused}

-- what is read are bits
valid : (b : List ℕ) (bits : List ℕ × ℕ) (r : List ℕ) → bits_at Der b ≡ Some (bits, r)
    → IsBits bits.0 bits.1
valid b bits r h =
    let v = bind_some (value_at BIT_STRING Der b) _ (bits, r) h in
    let w = bind_some (bits_of v.0.0) _ (bits, r) v.2 in
    let q : (let t : (List ℕ × ℕ) × List ℕ = (w.0, v.0.1) in t) ≡ (bits, r) = some_is _ _ w.2 in
    subst (λ (t : (List ℕ × ℕ) × List ℕ). IsBits t.0.0 t.0.1) q (bits-sound v.0.0 w.0 w.1).1

pub network-found : (b r : List ℕ) (bits : List ℕ × ℕ) → bits_at Der b ≡ Some (bits, r)
    → (p : Option Network)
    → MatchOption p ((p : Network) → IsNetworkOf Ipv6 bits p → ⊥) (IsNetworkOf Ipv6 bits)
    → FindsFront (λ (p : Network). p) (prefix_at 128) b p r
network-found b r bits e None h = network-refused Ipv6 Der b r bits e (valid b bits r e) h
network-found b r bits e (Some p) h = network-read Ipv6 Der b r bits e p h
