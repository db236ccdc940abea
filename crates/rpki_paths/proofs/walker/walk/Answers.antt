-- One issuer more, and each reason to stop.
use Rattle.std.proofs.Common.{refl, sym, ◌∙◌, subst, arith, inl, inr, length, ℕ, List}
use Rattle.std.proofs.Common.{length-set}
use Rattle.std.proofs.lemmas.Option.{slice_get_read}
use Rattle.rpki_paths.specs.Sets.{IsWithClaim}
use Rattle.rpki_paths.specs.declared.path_resources.PathResources.{PathResources}
use Rattle.rpki_paths.specs.declared.walker.PathFault.{PathFault}
use Rattle.rpki_paths.specs.declared.walker.PathFault.TheVariants.{NoValidIssuer, Returns, Revoked}
use Rattle.rpki_paths.specs.declared.walker.PathFault.TheVariants.{NotCovered, Memory}
use Rattle.rpki_paths.specs.Cert.{Cert, at_place}
use Rattle.rpki_paths.specs.Walk.{placed, resources_in, InEach, EndsWith}
use Rattle.rpki_paths.proofs.Walking.{walking-none, apart-placed, keeps-none, keeps-more}
use Rattle.rpki_paths.proofs.Walking.{ends, goes-on, few-steps}
use Rattle.rpki_paths.proofs.Walking.{get-in, get-placed, length-placed}
use Rattle.rpki_paths.proofs.walker.walk.Goals as goal

pub loop-step-init : goal.loop-step-init
loop-step-init g c =
    let cert = g.C.Certificate.cert in (
      c.requires.as_many,
      walking-none (placed cert 1 c.args.cas.now)
          (at_place 0 (cert c.args.ee.now))
          c.none.result c.in_ok-sets.sets c.args.visited.now c.args.turn
          (apart-placed cert (cert c.args.ee.now) c.args.cas.now) c.none.ensures
          (subst (λ m. InEach (λ f. IsWithClaim (λ n. n) m (resources_in c.none.result f)
          ((cert c.args.ee.now).claim f) (resources_in c.in_ok-sets.sets f)))
          c.overclaim.ensures c.in_ok-sets.ensures)
          (c.requires.as_many ∙ sym (length-placed cert 1 c.args.cas.now)) c.requires.fresh,
      keeps-none c.args.turn c.args.visited.now,
      λ dist. omega arith,
      inl refl,
    )

-- the place of a head is no reason to stop
at-any-place : (fault : PathFault) (cas : List Cert) (c : Cert) (n : ℕ) (sets : PathResources)
    (visited : List ℕ) (turn : ℕ) → EndsWith fault cas c sets visited turn
    → EndsWith fault cas (at_place n c) sets visited turn
at-any-place NoValidIssuer cas c n sets visited turn h = h
at-any-place Returns cas c n sets visited turn h = h
at-any-place Revoked cas c n sets visited turn h = h
at-any-place (NotCovered family) cas c n sets visited turn h = h
at-any-place Memory cas c n sets visited turn h = h

pub returns-in-Err-clause-refused : goal.returns-in-Err-clause-refused
returns-in-Err-clause-refused g c =
    ends _ _ _ _ _ _ _ c.loop-step.invariant.1 c.in-Err.fault
    (at-any-place c.in-Err.fault (placed g.C.Certificate.cert 1 c.args.cas.now)
    (g.C.Certificate.cert c.loop-step.head) c.loop-step.place c.loop-step.sets
    c.loop-step.visited c.args.turn c.in-Err.ensures.refused)

pub loop-step-preserved : goal.loop-step-preserved
loop-step-preserved g c =
    let cert = g.C.Certificate.cert in
    let i = c.in-Ok-Some.i in
    let next = rw c.in-Ok-Some.field-0-is at c.in-Ok-Some.ensures.next in
    let lt = rw c.in-Ok-Some.field-0-is at c.in-Ok-Some.ensures.in_range in
    let at_i = get-placed cert 1 c.args.cas.now i c.index-cas-i.result lt c.index-cas-i.is in (
      length-set c.loop-step.visited i c.args.turn ∙ c.loop-step.invariant.0,
      goes-on _ _ _ _ _ _ _ c.loop-step.invariant.1 c.in_ok-sets-in-Ok-Some.sets _ i at_i next
          (apart-placed cert (cert c.args.ee.now) c.args.cas.now)
          (omega (arith, c.loop-step.invariant.0, lt))
          (subst (λ m. InEach (λ f. IsWithClaim (λ n. n) m (resources_in c.loop-step.sets f)
          ((cert c.index-cas-i.result).claim f) (resources_in c.in_ok-sets-in-Ok-Some.sets f)))
          c.overclaim-in-Ok-Some.ensures c.in_ok-sets-in-Ok-Some.ensures),
      keeps-more c.args.turn i c.args.visited.now c.loop-step.visited
          (omega (arith, c.loop-step.invariant.0, lt)) c.loop-step.invariant.2,
      λ dist. omega (arith, c.loop-step.invariant.3 dist, c.in-Ok-Some.ensures.cost dist),
      inr (get-in c.args.cas.now i c.index-cas-i.result
          (slice_get_read c.args.cas.now (length c.args.cas.now) i c.index-cas-i.result
          refl lt c.index-cas-i.is)),
    )

pub returns-clause-refused : goal.returns-clause-refused
returns-clause-refused g c =
    absurd (omega (
      arith,
      few-steps _ _ _ _ _ _ _ c.loop-step.invariant.1,
      length-placed g.C.Certificate.cert 1 c.args.cas.now,
      c.loop-step.invariant.0,
    ))
