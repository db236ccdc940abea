use Rattle.std.proofs.Common.{subst}
use Rattle.rpki_multi.specs.Multi.{AreKept}
use Rattle.rpki_multi.proofs.Multis.Written.{multi-written, multi-read}
use Rattle.rpki_multi.proofs.multi.MultiSignedObject.encode_ref.Goals as goal

pub returns-clause-written : goal.returns-clause-written
returns-clause-written c = λ der short.
    multi-written c.args.self.now (subst AreKept c.self.view_is c.self.invariant) der short

pub returns-clause-read : goal.returns-clause-read
returns-clause-read c = λ der short.
    multi-read c.args.self.now (subst AreKept c.self.view_is c.self.invariant) der short
