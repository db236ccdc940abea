use Rattle.std.proofs.Common.{◌≡◌, drop}
use Rattle.rpki_der.specs.Form.Keyed.{first_said}
use Rattle.rpki_extensions.specs.Access.{located}
use Rattle.rpki_extensions.proofs.access.first_location.Given as goal

abbrev pub invariant-loop-access : goal.invariant-loop-access
invariant-loop-access g l =
    first_said (located g.U.NamedUri.of l.method) (drop l.access-index l.list)
    ≡ first_said (located g.U.NamedUri.of l.method) l.list
