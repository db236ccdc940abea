-- A run under a locator is a walk from its trust anchor on.
use Rattle.std.proofs.Common.{◌≡◌, ℕ, subst, sym, ◌∙◌}
use Rattle.rpki_certs.specs.Validate.{Validated}
use Rattle.rpki_tal.specs.Tal.{Locator}
use Rattle.rpki_relying_party.specs.Anchors.{IsAnchorOf, WhyNoAnchor}
use Rattle.rpki_relying_party.specs.Reading.{IsPointReading}
use Rattle.rpki_relying_party.specs.Runs.{IsFaultOf, WhyNoRun, start_place}
use Rattle.rpki_relying_party.specs.Setting.{Setting}
use Rattle.rpki_relying_party.specs.declared.anchor.AnchorFault.{AnchorFault}
use Rattle.rpki_relying_party.specs.declared.found.Refusal.{Refusal}
use Rattle.rpki_relying_party.specs.declared.locator.RunFault.{RunFault}
use Rattle.rpki_relying_party.specs.declared.locator.RunFault.TheVariants as faults
use Rattle.rpki_relying_party.specs.declared.place.Place.{Place}
use Rattle.rpki_relying_party.specs.declared.point.PointReading.{PointReading}
use Rattle.rpki_relying_party.specs.declared.point.PointReading.TheVariants as readings

module _ (s : Setting) (tal : Locator) (limit : ℕ) where
  -- why there is no trust anchor is why there is no run
  pub fault-of : (fault : AnchorFault) → WhyNoAnchor s tal fault → (run : RunFault)
      → IsFaultOf fault run → WhyNoRun s tal limit run
  fault-of fault why (faults.Anchor same) f = (
    subst (λ (a : AnchorFault). WhyNoAnchor s tal a) (sym (f.0)) why,
    λ e. f.1 (sym (f.0) ∙ e),
  )
  fault-of fault why (faults.Point cause) f = absurd f
  fault-of fault why faults.Limit f = absurd f
  fault-of fault why faults.Memory f = tt

  module _ (ca : Validated) (anchor : IsAnchorOf s tal ca) (start : Place)
      (is : start ≡ start_place ca) (reading : PointReading)
      (h : IsPointReading s start limit reading) where
    reads : (r : PointReading) → reading ≡ r → IsPointReading s (start_place ca) limit r
    reads r e = subst (λ (p : Place). IsPointReading s p limit r) is
        (subst (λ (x : PointReading). IsPointReading s start limit x) e h)

    -- so is why its point is refused
    pub point-of : (r : Refusal) (cost : ℕ) → reading ≡ readings.Refused r cost
        → (run : RunFault) → run ≡ faults.Point r.cause → WhyNoRun s tal limit run
    point-of r cost e run f =
        let h = reads (readings.Refused r cost) e in
        let w = h.0 in
        subst (λ (x : RunFault). WhyNoRun s tal limit x) (sym f)
        (ca, w.0, w.1, anchor, w.2, w.3, w.4, (cost, h.1, h.3))

    -- and that it is too much work
    pub limit-of : reading ≡ readings.Cut → WhyNoRun s tal limit faults.Limit
    limit-of e = (ca, anchor, reads readings.Cut e)
