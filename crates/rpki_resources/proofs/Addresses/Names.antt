-- how blocks of addresses are named, and what addresses a name speaks of
use Rattle.std.proofs.Common.{◌≡◌, ℕ, List, [], ◌∷◌, Option, None, Some, map, refl}
use Rattle.rpki_resources.specs.declared.block.Block.{Block}
use Rattle.rpki_resources.specs.Prefix.{prefix_len}
use Rattle.rpki_resources.specs.Ip.{named_by, ip_block, ip_range}
use Rattle.rpki_resources.proofs.Prefixes.Lengths.{prefix_len-tells, last_of-prefix}

ip_range-by : (o : Option ℕ) (b : Block ℕ) → prefix_len b.min b.max ≡ o
    → ip_range (named_by o b) ≡ b
ip_range-by None b e = refl
ip_range-by (Some len) b e = let s =
    last_of-prefix b.min b.max len (prefix_len-tells b.min b.max len e) in
    λ i. record { min = b.min; max = s i }

pub ip_range-ip_block : (b : Block ℕ) → ip_range (ip_block b) ≡ b
ip_range-ip_block b = ip_range-by (prefix_len b.min b.max) b refl

pub ip-ranges : (bs : List (Block ℕ)) → map ip_range (map ip_block bs) ≡ bs
ip-ranges [] = refl
ip-ranges (b ∷ bs) = let first = ip_range-ip_block b in let others = ip-ranges bs in
    λ i. first i ∷ others i
