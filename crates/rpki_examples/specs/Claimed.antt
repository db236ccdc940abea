-- What certificates of examples claim.
use Rattle.std.specs.Prelude.{ℕ, ◌*◌, ◌-◌, ◌^◌}
use Rattle.rpki_resources.specs.declared.block.Block.{Block}

-- the addresses of IPv4 that begin with the octet 10 (RFC 1918, section 3), each in the upper 32 of
-- 128 bits
abbrev pub private_addresses : Block ℕ
private_addresses = record { min = 10 * 2 ^ 120; max = 11 * 2 ^ 120 - 1 }
