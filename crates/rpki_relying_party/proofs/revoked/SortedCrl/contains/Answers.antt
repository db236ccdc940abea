use Rattle.std.proofs.Common.{◌↔◌, ℕ, Bool, List, Contains, length, sym, subst, IsTrue}
use Rattle.std.specs.List.Sorted.{IsSearchInRange, IsBinarySearchResult}
use Rattle.std.specs.Ordering.{nat_cmp}
use Rattle.rpki_relying_party.proofs.Halves.{found-by-halves}
use Rattle.rpki_relying_party.proofs.revoked.SortedCrl.contains.Goals as goal

pub returns : goal.returns
returns c =
    rw (← c.self.view_is)
    (subst (λ (b : Bool). IsTrue b ↔ Contains c.self.inside.crl.list.tbs.revoked c.args.serial)
    (sym c.is_ok.ensures.value)
    (found-by-halves c.self.inside.crl.list.tbs.revoked c.self.inside.serials.items c.self.invariant.0
    c.self.invariant.1 c.args.serial c.binary_search.result
    (subst (λ (l : List ℕ). IsSearchInRange c.binary_search.result (length l)) c.deref.ensures.value
    c.binary_search.ensures.bound)
    (subst (λ (l : List ℕ). IsBinarySearchResult (λ y. nat_cmp y c.args.serial) l
    c.binary_search.result) c.deref.ensures.value c.binary_search.ensures.position)))
