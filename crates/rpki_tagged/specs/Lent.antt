-- A builder of a content that lends one of its fields: at the end of the loan the builder has what
-- is behind the reference in the place of this field, and is else as it was.
use Rattle.std.specs.Prelude.{ℕ, List, Vec}
use Rattle.std.specs.Borrow.{Lends, MutBor, Fml, RattleType}
use Rattle.std.specs.declared.alloc.Global.{Global}
use Rattle.std.specs.contracts.alloc.Global as global
use Rattle.std.specs.contracts.vec.Vec as vec
use Rattle.std.specs.contracts.impls.GlobalAllocator.TheImpl as memory
use Rattle.rpki_basics.specs.contracts.identifier.KeyIdentifier as identifier
use Rattle.rpki_resources.specs.contracts.addr.Addr as addr
use Rattle.rpki_resources.specs.contracts.addr.AddrNumber.TheImpl as addr_number
use Rattle.rpki_resources.specs.contracts.addr.AddrPartialEq.TheImpl as addr_equal
use Rattle.rpki_resources.specs.contracts.asn.Asn as asn
use Rattle.rpki_resources.specs.contracts.asn.AsnNumber.TheImpl as asn_number
use Rattle.rpki_resources.specs.contracts.asn.AsnPartialEq.TheImpl as asn_equal
use Rattle.rpki_resources.specs.contracts.blocks.BlocksBuilder as blocks
use Rattle.rpki_tagged.specs.Attestation.{Attestation}
use Rattle.rpki_lists.specs.Named.{Set}
use Rattle.rpki_tagged.specs.contracts.attestation.builder.AttestationBuilder.{the_row}

-- what is lent, as the logic holds it: vectors of identifiers, and builders of sets
abbrev keys_row : RattleType
keys_row = vec.the_row identifier.the_row global.the_row memory.ghosts

-- builders of sets of AS numbers, as the logic holds them
abbrev numbers_row : RattleType
numbers_row = blocks.the_row asn.the_row asn_number.ghosts asn_equal.ghosts

-- builders of sets of addresses, as the logic holds them
abbrev addresses_row : RattleType
addresses_row = blocks.the_row addr.the_row addr_number.ghosts addr_equal.ghosts

-- the keys are lent
abbrev pub LendsKeys : MutBor Attestation → MutBor (Vec (List ℕ) Global) → Fml
LendsKeys builder lent =
    Lends the_row keys_row builder lent (λ keys. record builder.now { subject_keys = keys.items })

-- the AS numbers are lent
abbrev pub LendsNumbers : MutBor Attestation → MutBor Set → Fml
LendsNumbers builder lent =
    Lends the_row numbers_row builder lent (λ set. record builder.now { as_resources = set })

-- the addresses of IPv4 are lent
abbrev pub LendsV4 : MutBor Attestation → MutBor Set → Fml
LendsV4 builder lent =
    Lends the_row addresses_row builder lent (λ set. record builder.now { v4_resources = set })

-- the addresses of IPv6 are lent
abbrev pub LendsV6 : MutBor Attestation → MutBor Set → Fml
LendsV6 builder lent =
    Lends the_row addresses_row builder lent (λ set. record builder.now { v6_resources = set })
