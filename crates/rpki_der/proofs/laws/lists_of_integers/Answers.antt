use Rattle.std.proofs.Common.{◌^◌}
use Rattle.rpki_der.specs.Tags.{INTEGER, SEQUENCE}
use Rattle.rpki_der.specs.declared.mode.Mode.TheVariants.{Der, Ber}
use Rattle.rpki_der.specs.Read.Parse.{in_value, many, optional, u32_at}
use Rattle.rpki_der.specs.Grammar.{Within, Items, IntegerBelow}
use Rattle.rpki_der.proofs.Reading.Integers.{exact-list}
use Rattle.rpki_der.proofs.Reading.Unique.{reading, within-ber, items-as, within-one}
use Rattle.rpki_der.proofs.laws.lists_of_integers.Goals as goal

pub returns : goal.returns
returns c =
    reading (in_value SEQUENCE (many (optional INTEGER u32_at)))
    (λ mode octets ns. Within mode SEQUENCE
    (λ c. Items (IntegerBelow (2 ^ 32) mode) c ns) octets) exact-list
    (λ o ns. within-ber SEQUENCE (λ c. Items (IntegerBelow (2 ^ 32) Der) c ns)
    (λ c. Items (IntegerBelow (2 ^ 32) Ber) c ns)
    (λ c. items-as (IntegerBelow (2 ^ 32) Der) (IntegerBelow (2 ^ 32) Ber)
    (λ d n. within-ber INTEGER _ _ (λ e k. k) d) c ns) o)
    (within-one SEQUENCE (λ mode c ns. Items (IntegerBelow (2 ^ 32) mode) c ns))
