use Rattle.std.proofs.Common.{ap, sym, subst, ◌++◌, ◌∙◌}
use Rattle.rpki_der.specs.declared.mode.Mode.TheVariants.{Der}
use Rattle.rpki_der.specs.Text.Hex.{upper_hex}
use Rattle.rpki_basics.specs.Name.{IsName}
use Rattle.rpki_basics.proofs.Names.Written.{head, key-name-is, key-name-skipped}
use Rattle.rpki_basics.proofs.name.key_name.Goals as goal

pub returns-clause-octets : goal.returns-clause-octets
returns-clause-octets c =
    c.in_ok-from_vec.ensures.ok ∙ c.in_ok-push_hex.ensures
    ∙ ap (λ t. t ++ upper_hex c.as_slice.result.now)
    (c.in_ok-extend_from_slice.ensures.items ∙ ap (λ t. t ++ head) c.in_ok-octets.ensures.items)
    ∙ ap (λ t. head ++ upper_hex t) c.as_slice.ensures.octets
    ∙ key-name-is c.args.identifier c.as_slice.ensures.len

pub returns-clause-name : goal.returns-clause-name
returns-clause-name c =
    subst (IsName Der)
    (sym (c.in_ok-from_vec.ensures.ok ∙ c.in_ok-push_hex.ensures
    ∙ ap (λ t. t ++ upper_hex c.as_slice.result.now)
    (c.in_ok-extend_from_slice.ensures.items ∙ ap (λ t. t ++ head) c.in_ok-octets.ensures.items)
    ∙ ap (λ t. head ++ upper_hex t) c.as_slice.ensures.octets
    ∙ key-name-is c.args.identifier c.as_slice.ensures.len))
    (key-name-skipped c.args.identifier c.as_slice.ensures.len)
