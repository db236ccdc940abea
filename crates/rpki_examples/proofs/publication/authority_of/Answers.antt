use Rattle.std.proofs.Common.{List, ℕ, inl}
use Rattle.std.specs.Int.{w64, to_be_bytes}
use Rattle.rpki_issued.specs.Tbs.{IsNotSigned}
use Rattle.rpki_examples.specs.Publication.{AnchorFits, IsUnsignedAuthority, may_sign}
use Rattle.rpki_examples.proofs.Publications.{anchor-fit, fits-or-error, of-part}
use Rattle.rpki_examples.proofs.publication.authority_of.Goals as goal

pub returns-in-Err-clause-refused : goal.returns-in-Err-clause-refused
returns-in-Err-clause-refused c =
    let key : List ℕ = to_be_bytes w64 c.args.key in
    let told = c.args.told in
    let Fits = AnchorFits key told c.args.now in
    of-part (IsNotSigned (may_sign key) told) (IsUnsignedAuthority key told c.args.revoked) Fits
    Fits (λ e h. inl h) (λ fits. fits) c.in-Err.error
    (fits-or-error (IsNotSigned (may_sign key) told) _ Fits c.in-Err.error
    (λ fits. c.in-Err.ensures.passes
    (anchor-fit key told c.args.now c.stand_ins_agree.ensures fits))
    c.in-Err.ensures.refused)

pub returns-in-Ok-list-clause-signed : goal.returns-in-Ok-list-clause-signed
returns-in-Ok-list-clause-signed c = c.in-Ok-list.ensures.signed _ c.stand_ins_agree.ensures
