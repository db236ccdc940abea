use Rattle.std.proofs.Common.{◌≡◌, ◌<◌, ◌++◌, ◌∷◌, [], ℕ, List, arith, length, rules, subst}
use Rattle.rpki_payloads.specs.Slurm.Said.{IsExceptionsText}
use Rattle.rpki_program.proofs.Running.{zip-next}
use Rattle.rpki_program.proofs.verify.payloads.exceptions_of.Goals as goal

pub loop-i-preserved : goal.loop-i-preserved
loop-i-preserved g c =
    let l = c.loop-i in
    let one = c.in-Ok-read_exceptions.one in
    let items : c.push.new.self.items ≡ l.exceptions.items ++ one ∷ [] = search rules in
    let below : l.i < length c.in-Ok.files.items =
    omega (arith, c.loop-i-test.true, c.len-i-end.ensures, c.in-Ok.files.ok.0) in
    rw items (zip-next IsExceptionsText c.in-Ok.files.items l.exceptions.items l.i
    c.index.result.now one below c.index.ensures l.invariant
    (subst (λ (octets : List ℕ). IsExceptionsText octets one) c.deref.ensures
    c.in-Ok-read_exceptions.ensures))
