use Rattle.std.proofs.Common.{inl, inr, subst}
use Rattle.rpki_relying_party.specs.Passes.{setting}
use Rattle.rpki_relying_party.specs.Reading.{IsPointReading}
use Rattle.rpki_relying_party.specs.Steps.{read_as}
use Rattle.rpki_relying_party.specs.declared.point.PointReading.{PointReading}
use Rattle.rpki_relying_party.proofs.Pointing.{reads-told}
use Rattle.rpki_relying_party.proofs.Running.{fault-of, point-of, limit-of}
use Rattle.rpki_relying_party.proofs.locator.run_under.Goals as goal

pub returns-in-Err-clause-refused : goal.returns-in-Err-clause-refused
returns-in-Err-clause-refused g c =
    let s = setting g.R.Repository.finds g.C.Crypto.digest_of g.C.Crypto.is_signed
    c.args.pass.now in
    fault-of s c.args.tal.now c.args.limit c.in-Err.fault c.in-Err.ensures c.of_anchor.result
    c.of_anchor.ensures

pub returns-in-Ok-Cut-clause-refused : goal.returns-in-Ok-Cut-clause-refused
returns-in-Ok-Cut-clause-refused g c =
    let s = setting g.R.Repository.finds g.C.Crypto.digest_of g.C.Crypto.is_signed
    c.args.pass.now in
    limit-of s c.args.tal.now c.args.limit c.in-Ok.ca c.in-Ok.ensures c.start_place-start.result
    c.start_place-start.ensures c.in-Ok-Cut.field-0 c.in-Ok-Cut.ensures c.in-Ok-Cut.field-0-is

pub returns-in-Ok-Refused-clause-refused : goal.returns-in-Ok-Refused-clause-refused
returns-in-Ok-Refused-clause-refused g c =
    let s = setting g.R.Repository.finds g.C.Crypto.digest_of g.C.Crypto.is_signed
    c.args.pass.now in
    point-of s c.args.tal.now c.args.limit c.in-Ok.ca c.in-Ok.ensures c.start_place-start.result
    c.start_place-start.ensures c.in-Ok-Refused.field-0 c.in-Ok-Refused.ensures
    c.in-Ok-Refused.refusal c.in-Ok-Refused.field-0-1 c.in-Ok-Refused.field-0-is
    c.of_point.result c.of_point.ensures

pub walk_from-requires : goal.walk_from-requires
walk_from-requires g c =
    let s = setting g.R.Repository.finds g.C.Crypto.digest_of g.C.Crypto.is_signed
    c.args.pass.now in
    reads-told s c.start_place-start.result c.args.limit c.in-Ok-Told.told
    (subst (λ (r : PointReading). IsPointReading s c.start_place-start.result c.args.limit r)
    c.in-Ok-Told.field-0-is c.in-Ok-Told.ensures)

pub returns-in-Ok-walk_from-clause-reads : goal.returns-in-Ok-walk_from-clause-reads
returns-in-Ok-walk_from-clause-reads g c =
    let s = setting g.R.Repository.finds g.C.Crypto.digest_of g.C.Crypto.is_signed
    c.args.pass.now in
    let told = subst (λ (r : PointReading).
    IsPointReading s c.start_place-start.result c.args.limit r) c.in-Ok-Told.field-0-is
    c.in-Ok-Told.ensures in (
      read_as c.start_place-start.result c.in-Ok-Told.told,
      (c.in-Ok.ca, c.in-Ok.ensures, c.start_place-start.ensures),
      told.0,
      c.in-Ok-walk_from.ensures.reads,
    )

pub returns-in-Ok-walk_from-clause-sound : goal.returns-in-Ok-walk_from-clause-sound
returns-in-Ok-walk_from-clause-sound g c = λ x l. elim (c.in-Ok-walk_from.ensures.sound x l) [
  | inl old ↦ inl old
  | inr said ↦
      inr (
        c.start_place-start.result,
        (c.in-Ok.ca, c.in-Ok.ensures, c.start_place-start.ensures),
        said,
      )
]

pub returns-in-Ok-walk_from-clause-complete : goal.returns-in-Ok-walk_from-clause-complete
returns-in-Ok-walk_from-clause-complete g c = λ one. (
  c.start_place-start.result,
  (c.in-Ok.ca, c.in-Ok.ensures, c.start_place-start.ensures),
  c.in-Ok-walk_from.ensures.complete one,
)
