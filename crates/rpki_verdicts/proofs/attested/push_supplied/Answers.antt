use Rattle.std.proofs.Common.{ℕ, ◌-◌, List, Ok, subst, sym, string_bytes, take, drop, length}
use Rattle.rpki_verdicts.specs.Attested.{PushesSupplied}
use Rattle.rpki_verdicts.proofs.Carrying.{chain-supplies, first-cut}
use Rattle.rpki_verdicts.proofs.attested.push_supplied.Goals as goal

pub returns-in-Ok-push : goal.returns-in-Ok-push
returns-in-Ok-push g c =
    let verdict = g.C.Crypto.is_signed c.args.crypto.now in
    let files = c.args.chain.now in
    let others = take (length files - 1) (drop 1 files) in
    subst (λ (fs : List (List ℕ)). PushesSupplied verdict fs (string_bytes c.args.text.now)
    c.args.supplied.now.items (Ok tt) (string_bytes c.push_certs.new.text) c.push.new.self.items)
    (sym (first-cut files c.anchor-item.result c.in-len1-up.len_at_least c.anchor-item.is))
    (chain-supplies verdict c.anchor-item.result others (string_bytes c.args.text.now)
    (string_bytes c.push_certs.new.text) c.in-Ok.last c.args.supplied.now.items
    c.push.new.self.items c.in-Ok.ensures c.in-Ok-push.ensures.items)
