-- The issuer of a head, or the first reason for which there is none.
use Rattle.std.proofs.Common.{◌≡◌, ◌≢◌, refl, sym, ◌∙◌, subst, arith, map}
use Rattle.std.specs.Prelude.{IsTrue, IsFalse, slice_index}
use Rattle.std.proofs.lemmas.Bool.{true≢false}
use Rattle.rpki_paths.specs.Sets.{CoversNearest}
use Rattle.rpki_paths.specs.Walk.{resources_in, CoversIn, InEach, FailsFirst}
use Rattle.rpki_paths.proofs.Walking.{index-named, named-once, next-found, scan-of}
use Rattle.rpki_paths.proofs.walker.issuer_of.Goals as goal

pub find_issuer-requires : goal.find_issuer-requires
find_issuer-requires g c =
    index-named (map (λ x. (g.C.Certificate.cert x).ski) c.args.cas.now)
    c.args.index.now c.authority.result _ c.named.result.now c.requires.index c.named.ensures
    c.authority.ensures

pub returns-in-Invalid-clause-refused : goal.returns-in-Invalid-clause-refused
returns-in-Invalid-clause-refused g c = (
  λ s. true≢false (sym (c.is_self_signed.ensures.1 s) ∙ c.if-is_self_signed.false),
  c.in-Invalid.ensures.says,
)

pub returns-then-visited-i-clause-refused : goal.returns-then-visited-i-clause-refused
returns-then-visited-i-clause-refused g c =
    let visited = c.args.visited.now in
    next-found g.C.Certificate.cert c.args.cas.now (λ d i. slice_index visited i ≡ c.args.turn)
    (g.C.Certificate.cert c.args.head.now) c.in-Issuer.i c.index-cas-i.result
    (λ s. true≢false (sym (c.is_self_signed.ensures.1 s) ∙ c.if-is_self_signed.false))
    (c.in-Issuer.ensures.in_range c.in-Issuer.i refl) c.index-cas-i.is c.in-Issuer.ensures.says
    c.if-visited-i.true

pub returns-then-revokes-clause-refused : goal.returns-then-revokes-clause-refused
returns-then-revokes-clause-refused g c =
    let visited = c.args.visited.now in
    let head = g.C.Certificate.cert c.args.head.now in
    next-found g.C.Certificate.cert c.args.cas.now
    (λ d i. (slice_index visited i ≢ c.args.turn) × IsTrue (d.revokes head.serial))
    head c.in-Issuer.i c.index-cas-i.result
    (λ s. true≢false (sym (c.is_self_signed.ensures.1 s) ∙ c.if-is_self_signed.false))
    (c.in-Issuer.ensures.in_range c.in-Issuer.i refl) c.index-cas-i.is c.in-Issuer.ensures.says
    (c.if-visited-i.false, sym c.revokes.ensures ∙ c.if-revokes.true)

pub returns-in-Some-clause-refused : goal.returns-in-Some-clause-refused
returns-in-Some-clause-refused g c =
    let visited = c.args.visited.now in
    let head = g.C.Certificate.cert c.args.head.now in
    let sets = c.args.sets.now in
    next-found g.C.Certificate.cert c.args.cas.now
    (λ d i. (slice_index visited i ≢ c.args.turn) × IsFalse (d.revokes head.serial)
    × FailsFirst (λ f. CoversIn sets head d f) c.in-Some.family)
    head c.in-Issuer.i c.index-cas-i.result
    (λ s. true≢false (sym (c.is_self_signed.ensures.1 s) ∙ c.if-is_self_signed.false))
    (c.in-Issuer.ensures.in_range c.in-Issuer.i refl) c.index-cas-i.is c.in-Issuer.ensures.says (
      c.if-visited-i.false,
      sym c.revokes.ensures ∙ c.if-revokes.false,
      subst (λ m. FailsFirst (λ f. CoversNearest (λ n. n) m (resources_in sets f)
          ((g.C.Certificate.cert c.index-cas-i.result).claim f)) c.in-Some.family)
          c.overclaim.ensures c.in-Some.ensures.some,
    )

pub returns-in-None-clause-next : goal.returns-in-None-clause-next
returns-in-None-clause-next g c =
    let visited = c.args.visited.now in
    let head = g.C.Certificate.cert c.args.head.now in
    let sets = c.args.sets.now in
    next-found g.C.Certificate.cert c.args.cas.now
    (λ d i. (i ≡ c.in-Issuer.i) × (slice_index visited c.in-Issuer.i ≢ c.args.turn)
    × IsFalse (d.revokes head.serial) × InEach (λ f. CoversIn sets head d f))
    head c.in-Issuer.i c.index-cas-i.result
    (λ s. true≢false (sym (c.is_self_signed.ensures.1 s) ∙ c.if-is_self_signed.false))
    (c.in-Issuer.ensures.in_range c.in-Issuer.i refl) c.index-cas-i.is c.in-Issuer.ensures.says (
      refl,
      c.if-visited-i.false,
      sym c.revokes.ensures ∙ c.if-revokes.false,
      subst (λ m. InEach (λ f. CoversNearest (λ n. n) m (resources_in sets f)
          ((g.C.Certificate.cert c.index-cas-i.result).claim f)))
          c.overclaim.ensures c.in-None.ensures.none,
    )

pub returns-in-None-clause-cost : goal.returns-in-None-clause-cost
returns-in-None-clause-cost g c =
    let cert = g.C.Certificate.cert in
    let named = scan-of cert c.args.cas.now _ _ (index-named
    (map (λ x. (cert x).ski) c.args.cas.now)
    c.args.index.now c.authority.result _ c.named.result.now c.requires.index
    c.named.ensures c.authority.ensures) in
    λ dist. omega (arith, c.in-Issuer.ensures.cost, named-once _ _ _ _ _ dist named)
