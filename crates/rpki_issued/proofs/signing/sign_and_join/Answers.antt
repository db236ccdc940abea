use Rattle.std.proofs.Common.{List, ℕ}
use Rattle.rpki_issued.proofs.Joined.{not-joined}
use Rattle.rpki_issued.proofs.signing.sign_and_join.Goals as goal

pub returns-clause-refused : goal.returns-clause-refused
returns-clause-refused g c =
    rw c.signing_error_of.ensures
    (not-joined _
    (λ (s : List ℕ). g.S.Signer.may_sign c.args.signer.now
    (g.S.Signer.key_of c.args.signer.now c.args.key.now) c.args.octets.now s)
    c.args.octets.now c.in_ok-signature.signature c.in_ok-signature.ensures.signed c.in-Err.fault
    c.in-Err.ensures)
