use Rattle.std.proofs.Common.{[]}
use Rattle.std.specs.List.{flat_map}
use Rattle.rpki_payloads.specs.Formats.Rows.{kept_origins, added_origins}
use Rattle.rpki_payloads.proofs.Rowed.{one-more}
use Rattle.rpki_payloads.proofs.formats.rows.said_origins.Goals as goal

pub loop-one-preserved : goal.loop-one-preserved
loop-one-preserved c =
    one-more (kept_origins c.args.exceptions.now) c.args.found.now c.loop-one.one-index
    c.one-item.result [] _ _ c.loop-one-test.true c.one-item.is c.loop-one.invariant
    c.in_ok-push_kept_origins.ensures

pub loop-file-preserved : goal.loop-file-preserved
loop-file-preserved c =
    one-more added_origins c.args.exceptions.now c.loop-file.file-index c.file-item.result
    (flat_map (kept_origins c.args.exceptions.now) c.args.found.now) _ _ c.loop-file-test.true
    c.file-item.is c.loop-file.invariant c.in_ok-push_added_origins.ensures
