-- The search ends at the first that verifies, or has asked all that are named.
use Rattle.std.proofs.Common.{◌≡◌, ◌<◌, [], length, sym, ap, ◌∙◌, subst, arith}
use Rattle.std.proofs.Common.{eqb-true}
use Rattle.std.specs.Prelude.{◌==◌}
use Rattle.std.proofs.lemmas.Bool.{true≢false}
use Rattle.rpki_paths.specs.Walk.{placed}
use Rattle.rpki_paths.proofs.Walking.{scan-of, searching-none, IsCertScan}
use Rattle.rpki_paths.proofs.Walking.{get-placed, length-placed, first-in-range, searching-at}
use Rattle.rpki_paths.proofs.Walking.{searching-next}
use Rattle.rpki_paths.proofs.Walking.{searching-found, searching-done, none-named, empty-from}
use Rattle.rpki_paths.proofs.Walking.{issuer-same}
use Rattle.rpki_paths.proofs.walker.find_issuer.Goals as goal

pub loop-first-init : goal.loop-first-init
loop-first-init g c =
    searching-none _ _ _ c.args.named.now _
    (scan-of g.C.Certificate.cert c.args.cas.now _ c.args.named.now c.requires)

pub bounds-cas-i : goal.bounds-cas-i
bounds-cas-i g c =
    let w = searching-at _ _ _ _ _ _ _ _ c.loop-first.invariant c.in-Some.ensures.cases.0 in
    omega (
      arith,
      first-in-range _ _ _ _ _ _ w.rest,
      length-placed g.C.Certificate.cert 1 c.args.cas.now,
    )

pub offset_bounds-cas-i : goal.offset_bounds-cas-i
offset_bounds-cas-i g c =
    let w = searching-at _ _ _ _ _ _ _ _ c.loop-first.invariant c.in-Some.ensures.cases.0 in
    omega (
      arith,
      first-in-range _ _ _ _ _ _ w.rest,
      length-placed g.C.Certificate.cert 1 c.args.cas.now,
    )

pub returns-then-is_signed_by-clause-says : goal.returns-then-is_signed_by-clause-says
returns-then-is_signed_by-clause-says g c =
    let w = searching-at _ _ _ _ _ _ _ _ c.loop-first.invariant c.in-Some.ensures.cases.0 in
    let lt : c.in-Some.first.now < length c.args.cas.now =
    omega (
      arith,
      first-in-range _ _ _ _ _ _ w.rest,
      length-placed g.C.Certificate.cert 1 c.args.cas.now,
    ) in
    let at_i = get-placed g.C.Certificate.cert 1 c.args.cas.now c.in-Some.first.now
    c.index-cas-i.result lt c.index-cas-i.is in
    searching-found _ _ _ _ _ _ c.in-Some.first.now _ _ w at_i
    (sym c.is_signed_by.ensures.says ∙ c.if-is_signed_by.true)

pub returns-then-is_signed_by-clause-in_range : goal.returns-then-is_signed_by-clause-in_range
returns-then-is_signed_by-clause-in_range g c =
    let w = searching-at _ _ _ _ _ _ _ _ c.loop-first.invariant c.in-Some.ensures.cases.0 in
    λ i e. omega (
      arith,
      issuer-same c.in-Some.first.now i e,
      first-in-range _ _ _ _ _ _ w.rest,
      length-placed g.C.Certificate.cert 1 c.args.cas.now,
    )

pub loop-first-preserved : goal.loop-first-preserved
loop-first-preserved g c =
    let w = searching-at _ _ _ _ _ _ _ _ c.loop-first.invariant c.in-Some.ensures.cases.0 in
    let lt : c.in-Some.first.now < length c.args.cas.now =
    omega (
      arith,
      first-in-range _ _ _ _ _ _ w.rest,
      length-placed g.C.Certificate.cert 1 c.args.cas.now,
    ) in
    let at_i = get-placed g.C.Certificate.cert 1 c.args.cas.now c.in-Some.first.now
    c.index-cas-i.result lt c.index-cas-i.is in
    searching-next _ _ _ _ _ _ c.in-Some.first.now _ _ _ w at_i
    (sym c.is_signed_by.ensures.says ∙ c.if-is_signed_by.false) c.is_signed_by.ensures.counts

pub returns-then-is_empty-clause-says : goal.returns-then-is_empty-clause-says
returns-then-is_empty-clause-says g c =
    let cas = placed g.C.Certificate.cert 1 c.args.cas.now in
    let aki = (g.C.Certificate.cert c.args.cert.now).aki in
    let none : c.args.named.now ≡ [] =
    empty-from c.args.named.now (eqb-true _ _ (sym c.is_empty.ensures ∙ c.if-is_empty.true)) in
    none-named cas aki (subst (λ l. IsCertScan cas aki 0 (length cas) l) none
    (scan-of g.C.Certificate.cert c.args.cas.now aki c.args.named.now c.requires))

pub returns-else-is_empty-clause-says : goal.returns-else-is_empty-clause-says
returns-else-is_empty-clause-says g c =
    let w = searching-at _ _ _ _ _ _ _ _ c.loop-first.invariant
    (empty-from _ c.in_default.ensures.cases) in
    searching-done _ _ _ _ _ _ w
    (scan-of g.C.Certificate.cert c.args.cas.now _ c.args.named.now c.requires)
    (λ e. true≢false (sym (c.is_empty.ensures ∙ ap (λ l. length l == 0) e) ∙ c.if-is_empty.false))
