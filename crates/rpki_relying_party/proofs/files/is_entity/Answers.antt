use Rattle.std.proofs.Common.{sym, subst, true≢false}
use Rattle.rpki_der.specs.declared.mode.Mode.TheVariants.{Der}
use Rattle.rpki_der.specs.declared.error.DecodeError.{DecodeError}
use Rattle.rpki_der.specs.Grammar.{HasNoFront}
use Rattle.rpki_der.specs.Read.Reads.{Refuses}
use Rattle.rpki_certs.specs.Cert.{CertForm}
use Rattle.rpki_relying_party.specs.Tells.{IsEntity}
use Rattle.rpki_relying_party.proofs.files.is_entity.Goals as goal

pub returns-in-Err-Malformed : goal.returns-in-Err-Malformed
returns-in-Err-Malformed c = (
  λ t. absurd (true≢false (sym t)),
  λ w. absurd (subst (λ (e : DecodeError). Refuses e (HasNoFront (CertForm Der) c.args.octets))
      c.in-Err-Malformed.field-0-is c.in-Err-Malformed.ensures.decodes w.cert w.rest
      w.front.found),
)

pub returns-in-Err-Content : goal.returns-in-Err-Content
returns-in-Err-Content c = (
  λ t. absurd (true≢false (sym t)),
  λ w. absurd (subst (λ (e : DecodeError). Refuses e (HasNoFront (CertForm Der) c.args.octets))
      c.in-Err-Content.field-0-is c.in-Err-Content.ensures.decodes w.cert w.rest w.front.found),
)

pub returns-in-Ok : goal.returns-in-Ok
returns-in-Ok c =
    let front = c.in-Ok.ensures.decodes in (
      λ t. record {
        cert = c.in-Ok.cert.certificate;
        rest = front.0;
        front = front.1;
        holds = c.is_for_entity-is_entity.ensures.0 t;
      },
      λ w. c.is_for_entity-is_entity.ensures.1
          (subst IsEntity (front.1.only w.cert w.rest w.front.found).0 w.holds),
    )
