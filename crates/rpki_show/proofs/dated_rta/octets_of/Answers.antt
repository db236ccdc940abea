use Rattle.std.proofs.Common.{◌∙◌, subst, sym}
use Rattle.rpki_crls.specs.Crl.{CrlForm}
use Rattle.rpki_der.specs.declared.mode.Mode.{Mode}
use Rattle.rpki_show.proofs.dated_rta.octets_of.Goals as goal

pub returns-in_ok-from_vec-in-Ok-clause-form : goal.returns-in_ok-from_vec-in-Ok-clause-form
returns-in_ok-from_vec-in-Ok-clause-form c =
    let list = c.args.crl.now.list in
    subst (λ (mode : Mode). CrlForm mode list.octets list)
    (sym c.encode_ref.ensures.mode ∙ c.in-Ok.ensures.1) c.encode_ref.ensures.written
