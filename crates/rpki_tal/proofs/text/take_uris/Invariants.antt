use Rattle.std.proofs.Common.{length}
use Rattle.rpki_der.specs.Grammar.{Items, Front}
use Rattle.rpki_tal.specs.Form.{IsUriLine}
use Rattle.rpki_tal.proofs.text.take_uris.Given as goal

-- the lines of the URIs stand before what is left
abbrev pub invariant-lines : goal.invariant-lines
invariant-lines l = Front (Items IsUriLine) l.fn.list l.uris.items l.rest

abbrev pub decreases-lines : goal.decreases-lines
decreases-lines l = length l.rest
