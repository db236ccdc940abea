use Rattle.std.proofs.Common.{subst}
use Rattle.rpki_attributes.specs.Attrs.{AreKept}
use Rattle.rpki_attributes.proofs.Lists.Written.{kept-written}
use Rattle.rpki_attributes.proofs.attrs.SignedAttrs.encode_ref.Goals as goal

pub returns-clause-written : goal.returns-clause-written
returns-clause-written c = λ der.
    kept-written c.args.self.now (subst AreKept c.self.view_is c.self.invariant) der
