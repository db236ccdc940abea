use Rattle.std.proofs.Common.{◌≡◌, drop}
use Rattle.std.specs.List.{list_all}
use Rattle.rpki_extensions.specs.Extension.{may_stand}
use Rattle.rpki_extensions.proofs.extension.may_stand.Given as goal

abbrev pub invariant-loop-extension : goal.invariant-loop-extension
invariant-loop-extension g l =
    list_all (may_stand g.P.Profile.known) (drop l.extension-index l.list)
    ≡ list_all (may_stand g.P.Profile.known) l.list
