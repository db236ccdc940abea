-- An address that is known to be in front is read without a test.
use Rattle.std.proofs.Common.{◌≡◌, ℕ, List, Option, Some, refl}
use Rattle.rpki_der.specs.Tags.{SEQUENCE, INTEGER}
use Rattle.rpki_der.specs.declared.mode.Mode.TheVariants.{Der}
use Rattle.rpki_der.specs.Read.Parse.{value_at, bits_at, u8_at, optional, tested}
use Rattle.rpki_lists.specs.Slice.{IsFound}
use Rattle.rpki_lists.proofs.Known.{there, front-within, read-within}
use Rattle.rpki_resources.specs.Ip.Read.{ip_address_at, prefix_at}
use Rattle.rpki_resources.specs.Prefix.{Network}
use Rattle.rpki_routes.specs.Roa.Read.{address_fields_at, address_at}

pub bits-in-front : (b : List ℕ) → IsFound (prefix_at 128) b → IsFound bits_at b
unfolding ip_address_at tested
bits-in-front b h = there (bits_at Der b) _ (there (ip_address_at 128 Der b) _ h)

module _ (b : List ℕ) (h : IsFound address_at b) (c r : List ℕ)
    (e : value_at SEQUENCE Der b ≡ Some (c, r)) where
  fields : IsFound address_fields_at c
  fields = front-within SEQUENCE address_fields_at b h c r e

  pub prefix-in-front : IsFound (prefix_at 128) c
  unfolding address_fields_at
  prefix-in-front = there (prefix_at 128 Der c) _ fields

  pub max-in-front : (p : Network) (a : List ℕ) → prefix_at 128 Der c ≡ Some (p, a)
      → IsFound (optional INTEGER u8_at) a
  unfolding address_fields_at
  max-in-front p a f = there (optional INTEGER u8_at Der a) _ (rw f at fields)

  pub address-known : (p : Network) (max : Option ℕ) (a end : List ℕ)
      → prefix_at 128 Der c ≡ Some (p, a) → optional INTEGER u8_at Der a ≡ Some (max, end)
      → address_at Der b ≡ Some (record { prefix = p; max_length = max }, r)
  unfolding address_fields_at
  address-known p max a end f g =
      read-within SEQUENCE address_fields_at b h c r (record { prefix = p; max_length = max }) end e
      (rw f (rw g refl))
