use Rattle.std.proofs.Common.{◌≡◌, drop}
use Rattle.rpki_der.specs.Form.Keyed.{has_key}
use Rattle.rpki_extensions.specs.Extension.{oid_of}
use Rattle.rpki_extensions.proofs.extension.has_oid.Given as goal

abbrev pub invariant-loop-extension : goal.invariant-loop-extension
invariant-loop-extension l =
    has_key oid_of l.oid (drop l.extension-index l.list) ≡ has_key oid_of l.oid l.list
