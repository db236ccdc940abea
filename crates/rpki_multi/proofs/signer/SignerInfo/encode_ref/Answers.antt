use Rattle.std.proofs.Common.{subst}
use Rattle.rpki_multi.specs.Signer.{IsAttested}
use Rattle.rpki_multi.proofs.Signers.{signer-written, signer-read}
use Rattle.rpki_multi.proofs.signer.SignerInfo.encode_ref.Goals as goal

pub returns-clause-written : goal.returns-clause-written
returns-clause-written c = λ der short.
    signer-written c.args.self.now (subst IsAttested c.self.view_is c.self.invariant) der short

pub returns-clause-read : goal.returns-clause-read
returns-clause-read c = λ der short.
    signer-read c.args.self.now (subst IsAttested c.self.view_is c.self.invariant) der short
