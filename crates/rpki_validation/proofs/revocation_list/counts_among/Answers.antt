use Rattle.std.proofs.Common.{All, ℕ, List, refl, subst, sym}
use Rattle.std.proofs.lemmas.List.{take_all}
use Rattle.std.proofs.lemmas.List.Elements.{All-more}
use Rattle.rpki_validation.specs.RevocationList.{CountsUnder}
use Rattle.rpki_validation.proofs.Steps.{false-only, not-true}
use Rattle.rpki_validation.proofs.revocation_list.counts_among.Goals as goal

pub loop-octets-preserved : goal.loop-octets-preserved
loop-octets-preserved c =
    let l = c.loop-octets in
    let P : List ℕ → Type 0 = λ o. ¬ CountsUnder o c.args.list.now.list in
    All-more P c.args.chain.now l.octets-index c.octets-item.result c.loop-octets-test.true
    l.invariant
    (subst P c.octets-item.is (not-true _ c.if-branch.false c.in_ok-counts_under.ensures))

pub returns-then-branch : goal.returns-then-branch
returns-then-branch c = (
  λ t. record {
    place = c.loop-octets.octets-index;
    octets = c.octets-item.result;
    placed = record { there = c.loop-octets-test.true; is = sym c.octets-item.is };
    counts = c.in_ok-counts_under.ensures.0 c.if-branch.true;
  },
  λ w. refl,
)

pub returns : goal.returns
returns c =
    let l = c.loop-octets in
    let P : List ℕ → Type 0 = λ o. ¬ CountsUnder o c.args.list.now.list in
    let none : All P c.args.chain.now =
    subst (λ (os : List (List ℕ)). All P os)
    (take_all l.octets-index c.args.chain.now c.loop-octets-test.false) l.invariant in
    false-only (λ w. none w.place w.octets w.placed.there
    (subst (λ (o : List ℕ). CountsUnder o c.args.list.now.list) (sym w.placed.is) w.counts))
