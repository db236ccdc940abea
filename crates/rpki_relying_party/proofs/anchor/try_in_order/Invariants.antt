-- The URIs that are still to be tried.
use Rattle.std.specs.Slice.Iter.{iter_rest}
use Rattle.rpki_relying_party.specs.Passes.{setting}
use Rattle.rpki_relying_party.proofs.Anchoring.{IsSearched}
use Rattle.rpki_relying_party.proofs.anchor.try_in_order.Given as goal

-- no candidate of those before them is good
abbrev pub invariant-loop-uri : goal.invariant-loop-uri
invariant-loop-uri g l =
    IsSearched (setting g.R.Repository.finds g.C.Crypto.digest_of g.C.Crypto.is_signed l.pass)
    l.tal.key l.tal.uris (iter_rest l.uri-iterator) l.fault
