use Rattle.std.proofs.Common.{codes}
use Rattle.serde_json.specs.Data.{boolean, string}
use Rattle.serde_json.specs.View.{members_view}
use Rattle.rpki_program.proofs.Lined.{file-is-not-valid, found-still, put-found}
use Rattle.rpki_program.proofs.verify.check.json_line.put_verdict.Goals as goal

pub returns-clause-file : goal.returns-clause-file
returns-clause-file c =
    found-still (codes "file") (codes "valid") _ (string c.args.name.now)
    (members_view c.put_named.new.members.entries) _ file-is-not-valid c.in_ok-put_named.ensures
    c.in_ok-put.ensures.ok

pub returns-clause-valid : goal.returns-clause-valid
returns-clause-valid c =
    put-found (codes "valid") _ (boolean c.args.valid)
    (members_view c.put_named.new.members.entries) _ c.from.ensures c.in_ok-put.ensures.ok
