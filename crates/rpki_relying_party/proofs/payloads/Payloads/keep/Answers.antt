-- Nothing else has changed.
use Rattle.std.proofs.Common.{refl}
use Rattle.rpki_relying_party.proofs.Kept.{onward, keeps-origin, keeps-provider}
use Rattle.rpki_relying_party.proofs.payloads.Payloads.keep.Goals as goal

pub returns-in-Origin : goal.returns-in-Origin
returns-in-Origin c = rw c.in-Origin.is (onward c.keep_longer.result
    (λ k. keeps-origin c.in-Origin.origin c.args.held c.args.self.now _ k refl)
    c.keep_longer.ensures.keeps)

pub returns-in-Provider : goal.returns-in-Provider
returns-in-Provider c = rw c.in-Provider.is (onward c.keep_longer-in-Provider.result
    (λ k. keeps-provider c.in-Provider.provider c.args.held c.args.self.now _ k refl)
    c.keep_longer-in-Provider.ensures.keeps)
