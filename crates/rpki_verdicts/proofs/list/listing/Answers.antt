use Rattle.std.proofs.Common.{ℕ, List, Ok, subst, string_bytes}
use Rattle.rpki_sigobj.specs.Object.{mode_of}
use Rattle.rpki_verdicts.specs.Lists.{PushesCerts}
use Rattle.rpki_verdicts.proofs.Pushing.{listing-made, object-refused}
use Rattle.rpki_verdicts.proofs.list.listing.Goals as goal

pub returns-in-Err-pushed : goal.returns-in-Err-pushed
returns-in-Err-pushed g c =
    let pushed = subst (λ (old : List ℕ). PushesCerts (g.C.Crypto.is_signed c.args.crypto.now)
    c.args.anchor.now c.args.chain.now old (Ok c.in-Ok.issuer)
    (string_bytes c.push_certs.new.text)) c.new-text.ensures.bytes c.in-Ok.ensures in
    object-refused (mode_of c.args.strict) (g.C.Crypto.is_signed c.args.crypto.now)
    c.args.object.now c.args.anchor.now c.args.chain.now c.in-Ok.issuer
    (string_bytes c.push_certs.new.text) pushed c.in-Err-pushed.error
    (string_bytes c.push_object-pushed.new.text) c.in-Err-pushed.ensures

pub returns-in-Ok-pushed : goal.returns-in-Ok-pushed
returns-in-Ok-pushed g c =
    let pushed = subst (λ (old : List ℕ). PushesCerts (g.C.Crypto.is_signed c.args.crypto.now)
    c.args.anchor.now c.args.chain.now old (Ok c.in-Ok.issuer)
    (string_bytes c.push_certs.new.text)) c.new-text.ensures.bytes c.in-Ok.ensures in
    listing-made (mode_of c.args.strict) (g.C.Crypto.is_signed c.args.crypto.now)
    c.args.object.now c.args.anchor.now c.args.chain.now c.in-Ok.issuer
    (string_bytes c.push_certs.new.text) pushed (string_bytes c.push_object-pushed.new.text)
    c.in-Ok-pushed.ensures
