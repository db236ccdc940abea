use Rattle.std.proofs.Common.{◌<◌, ◌^◌, length, subst}
use Rattle.rpki_der.specs.declared.mode.Mode.TheVariants.{Der}
use Rattle.rpki_basics.proofs.Algorithms.Written.{digest-written}
use Rattle.rpki_tagged.specs.Attestation.{Attestation, AttestationForm, attestation_contents}
use Rattle.rpki_tagged.specs.Attestation.{attestation_octets}
use Rattle.rpki_tagged.proofs.Attestations.Exact.{attestation-part}
use Rattle.rpki_tagged.proofs.Attestations.Written.{attestation-written}
use Rattle.rpki_tagged.proofs.attestation.ResourceTaggedAttestation.encode_ref.Goals as goal

pub returns-clause-written : goal.returns-clause-written
returns-clause-written c =
    let a : Attestation = record {
      subject_keys = c.self.inside.subject_keys.items;
      as_resources = c.self.inside.as_resources;
      v4_resources = c.self.inside.v4_resources;
      v6_resources = c.self.inside.v6_resources;
      message_digest = c.self.inside.message_digest;
    } in
    subst (λ (a : Attestation). length (attestation_contents a) < 2 ^ 32
    → AttestationForm Der (attestation_octets a) a) c.self.view_is
    (attestation-written a (record {
      numbers = c.encode_ref.ensures.written;
      v4 = c.encode_ref-2.ensures.written c.self.invariant.0;
      v6 = c.encode_ref-3.ensures.written c.encode_ref-3.ensures.addresses;
    }) c.self.invariant.1 digest-written)

pub returns-clause-read : goal.returns-clause-read
returns-clause-read c = λ short rest.
    (attestation-part.exact Der).complete (attestation_octets c.args.self.now) c.args.self.now rest
    tt (returns-clause-written c short)
