use Rattle.std.proofs.Common.{All, rules}
use Rattle.rpki_resources.specs.Blocks.{IsBlock}
use Rattle.rpki_resources.specs.Ip.{ip_range}
use Rattle.rpki_resources.proofs.AsNumbers.Names.{All-map}
use Rattle.rpki_resources.proofs.ip.BlocksBuilder+Addr.extend.Goals as goal

pub append-requires : goal.append-requires
append-requires g c =
    let each : All (λ b. IsBlock (λ n. n) (ip_range b)) c.loop-block.yielded =
    search (rules, c.requires.ordered) in
    rw c.loop-block.invariant (All-map ip_range (IsBlock (λ n. n)) c.loop-block.yielded each)
