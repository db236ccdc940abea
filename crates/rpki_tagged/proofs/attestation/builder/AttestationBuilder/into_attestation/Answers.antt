use Rattle.std.proofs.Common.{sym, subst}
use Rattle.rpki_basics.specs.declared.build.BuildError.{BuildError}
use Rattle.rpki_der.specs.declared.mode.Mode.TheVariants.{Der}
use Rattle.rpki_lists.specs.Built.{IsNotBuilt}
use Rattle.rpki_tagged.specs.Attestation.{AttestationForm, attestation_octets}
use Rattle.rpki_tagged.specs.Built.{IsTooLong, attestation_checks}
use Rattle.rpki_tagged.proofs.Attestations.Built.{if-same, short-refused, nothing-refused}
use Rattle.rpki_tagged.proofs.attestation.builder.AttestationBuilder.into_attestation.Goals as goal

pub returns-then-has_numbers-clause-written : goal.returns-then-has_numbers-clause-written
returns-then-has_numbers-clause-written c =
    if-same (λ a. AttestationForm Der (attestation_octets a) a) c.short.result
    c.in_ok-attestation.attestation c.short.ensures.same c.short.ensures.written

pub returns-then-has_numbers-clause-refused : goal.returns-then-has_numbers-clause-refused
returns-then-has_numbers-clause-refused c =
    short-refused c.args.self c.in_ok-attestation.attestation c.short.result
    c.in_ok-attestation.ensures (c.has_numbers.ensures.some c.if-has_numbers.true)
    c.short.ensures.refused

pub returns-else-has_numbers-clause-refused : goal.returns-else-has_numbers-clause-refused
returns-else-has_numbers-clause-refused c =
    subst
    (λ (e : BuildError). IsNotBuilt (attestation_checks c.args.self) (IsTooLong c.args.self) e)
    (sym c.from.ensures)
    (nothing-refused c.args.self c.in_ok-attestation.attestation c.in_ok-attestation.ensures
    (c.has_numbers.ensures.none c.if-has_numbers.false))
