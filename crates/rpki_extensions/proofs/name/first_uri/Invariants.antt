use Rattle.std.proofs.Common.{◌≡◌, drop}
use Rattle.rpki_der.specs.Form.Keyed.{first_said}
use Rattle.rpki_extensions.specs.Names.{named}
use Rattle.rpki_extensions.proofs.name.first_uri.Given as goal

abbrev pub invariant-loop-name : goal.invariant-loop-name
invariant-loop-name g l =
    first_said (named g.U.NamedUri.of) (drop l.name-index l.names)
    ≡ first_said (named g.U.NamedUri.of) l.names
