use Rattle.std.proofs.Common.{◌≡◌, ◌∙◌, string_bytes}
use Rattle.std.proofs.lemmas.Map.Text.{btree_map_updates_text}
use Rattle.std.proofs.lemmas.Result.{IfOk-at_ok}
use Rattle.rpki_relying_party.proofs.Leaving.{one-more}
use Rattle.rpki_relying_party.proofs.locator.count_one.Goals as goal

pub returns : goal.returns
returns c =
    let key = IfOk-at_ok (λ s. string_bytes s ≡ c.as_str.result.now) c.in_ok-key.was
    c.from_str.ensures.ok ∙ c.as_str.ensures in
    let sets = btree_map_updates_text (string_bytes c.in_ok-key.key) c.args.counts.now
    c.insert.new.self _ c.in_ok-insert.ensures.updates in
    one-more c.args.counts.now c.insert.new.self c.args.uri.now
    (rw (key, c.count_for-next.ensures) at sets)
