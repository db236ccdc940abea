use Rattle.std.proofs.Common.{◌≡◌, drop}
use Rattle.rpki_der.specs.Form.Keyed.{with_key}
use Rattle.rpki_extensions.specs.Extension.{oid_of}
use Rattle.rpki_extensions.proofs.extension.with_oid.Given as goal

abbrev pub invariant-loop-extension : goal.invariant-loop-extension
invariant-loop-extension l =
    with_key oid_of l.oid (drop l.extension-index l.list) ≡ with_key oid_of l.oid l.list
