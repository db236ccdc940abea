use Rattle.std.proofs.Common.{◌≡◌, ◌∙◌, ap, sym, None, Some, false, not, refl}
use Rattle.std.specs.BTreeMap.{get}
use Rattle.rpki_relying_party.specs.Orders.{origin_order}
use Rattle.rpki_relying_party.specs.declared.payload.Origin.{Origin}
use Rattle.rpki_payloads.specs.Formats.Joined.{outlasts}
use Rattle.rpki_payloads.specs.Formats.Row.{OriginRow, origin_payload, origin_until}
use Rattle.rpki_payloads.proofs.Joined.{longer-is, put-longer}
use Rattle.rpki_payloads.proofs.Once.{origin-exact, origin-total}
use Rattle.rpki_payloads.proofs.formats.joined.keep_origin.Goals as goal
use Rattle.rpki_payloads.proofs.formats.joined.keep_origin.Goals.{in-None, in-Some}

pub returns : goal.returns
returns c =
    let r = c.args.row in
    let old = c.args.joined.now in
    let new = c.insert.new.self in
    let put = c.in_ok-insert.ensures.updates in
    let payload : c.row.inside.origin ≡ r.origin = ap origin_payload c.row.view_is in
    let there = ap (λ (k : Origin). get origin_order old k) payload in
    elim c.match-get.branch [
      | in-None w ↦ put-longer origin-total origin-exact origin_payload origin_until r old new _ r
          None put (rw w.row-inside-is payload) refl (sym there ∙ sym w.in-None.ensures.value) refl
      | in-Some w ↦
          let q = w.in-Some.kept.now in
          let ends : outlasts r.until q.until ≡ w.outlasts.result =
          ap (λ (x : OriginRow). outlasts x.until q.until) (sym c.row.view_is)
          ∙ ap (λ (y : OriginRow). outlasts c.row.inside.until y.until) (sym w.kept.view_is)
          ∙ sym w.outlasts.ensures in
          let longer : not (outlasts r.until q.until) ≡ false =
          ap not ends ∙ sym w.is_kept-is ∙ c.if-is_kept.false in
          put-longer origin-total origin-exact origin_payload origin_until r old new _ r
          (Some q) put (rw w.row-inside-is payload) refl (sym there ∙ sym w.in-Some.ensures.value)
          (longer-is origin-total origin-exact origin_payload origin_until q r longer)
    ]
