use Rattle.std.proofs.Common.{◌≡◌, List, ap, rules}
use Rattle.std.proofs.lemmas.Result.{on_ok_weaker}
use Rattle.std.proofs.lemmas.Fn.{always_returns_same}
use Rattle.rpki_tal.specs.declared.uri.TalUri.{TalUri}
use Rattle.rpki_tal.specs.Tal.{Locator}
use Rattle.rpki_tal.specs.Uri.{https_first}
use Rattle.rpki_tal.proofs.Order.{is_later, sorted-first}
use Rattle.rpki_tal.proofs.tal.Tal.prefer_https.Goals as goal

pub returns-clause-ordered : goal.returns-clause-ordered
returns-clause-ordered c =
    on_ok_weaker c.sort_by_key.result (λ sorted.
    let first : c.sort_by_key.new.self.items ≡ https_first c.self.inside.uris.items =
    sorted-first c.self.inside.uris.items c.sort_by_key.new.self.items
    (sorted is_later (always_returns_same _ _ _ (λ a r q k. search rules)))
    (c.sort_by_key.ensures.stable is_later
    (always_returns_same _ _ _ (λ a r q k. search rules))) in
    rw (← c.self.view_is) (ap (λ (uris : List TalUri).
    let tal : Locator = record {
      name = c.self.inside.info.value;
      uris = uris;
      key = c.self.inside.key_info;
    } in tal) first)) c.sort_by_key.ensures.sorted
