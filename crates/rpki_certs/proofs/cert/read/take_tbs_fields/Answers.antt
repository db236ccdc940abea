use Rattle.std.proofs.Common.{ℕ, List}
use Rattle.rpki_der.specs.Captured.{Kept}
use Rattle.rpki_der.specs.Form.Parts.{context_at}
use Rattle.rpki_der.specs.Read.Parse.{primitive, this, u160_at}
use Rattle.rpki_der.specs.Tags.{INTEGER}
use Rattle.rpki_basics.specs.declared.algorithm.RpkiSignatureAlgorithm.{RpkiSignatureAlgorithm}
use Rattle.rpki_basics.specs.Algorithm.{cert_algorithm_at}
use Rattle.rpki_basics.specs.Key.{key_at}
use Rattle.rpki_basics.specs.Name.{name_at}
use Rattle.rpki_basics.specs.Moment.{Period}
use Rattle.rpki_extensions.specs.declared.extensions.Extensions.{Extensions}
use Rattle.rpki_extensions.specs.Extensions.{extensions_at}
use Rattle.rpki_certs.specs.Cert.{KeptTbs, NameModes, v3, validity_at, tbs_fields_at}
use Rattle.rpki_certs.proofs.Steps.{first, next, ends, tbs-found}
use Rattle.rpki_certs.proofs.cert.read.take_tbs_fields.Goals as goal

pub returns-in-Ok-take_extensions-clause-reads : goal.returns-in-Ok-take_extensions-clause-reads
returns-in-Ok-take_extensions-clause-reads c =
    let version = first (λ (u : Unit {0}). u) (context_at 0 (primitive INTEGER (this v3)))
    c.args.cons.now c.in_ok-skip_version.field-0
    c.skip_version.new.cons c.in_ok-skip_version.ensures in
    let serial = next (λ (n : ℕ). n) u160_at c.args.cons.now c.skip_version.new.cons
    c.in_ok-serial_number.serial_number c.take_from.new.cons version.0
    c.in_ok-serial_number.ensures.reads in
    let algorithm = next (λ (_ : RpkiSignatureAlgorithm). tt) cert_algorithm_at c.args.cons.now
    c.take_from.new.cons c.in_ok-take_cert_from.field-0 c.take_cert_from.new.cons serial.0
    c.in_ok-take_cert_from.ensures.reads in
    let issuer = next (λ (n : Kept). n.octets) name_at c.args.cons.now c.take_cert_from.new.cons
    c.in_ok-issuer.issuer c.take_from-2.new.cons algorithm.0 c.in_ok-issuer.ensures.reads in
    let validity = next (λ (v : Period). v) validity_at c.args.cons.now c.take_from-2.new.cons
    c.in_ok-validity.validity c.take_validity.new.cons issuer.0 c.in_ok-validity.ensures in
    let subject = next (λ (n : Kept). n.octets) name_at c.args.cons.now c.take_validity.new.cons
    c.in_ok-subject.subject c.take_from-3.new.cons validity.0 c.in_ok-subject.ensures.reads in
    let key = next (λ (k : List ℕ). k) key_at c.args.cons.now c.take_from-3.new.cons
    c.in-Ok.key c.take_from-4.new.cons subject.0 c.in-Ok.ensures.reads in
    let extensions = next (λ (x : Extensions). x) (context_at 3 extensions_at) c.args.cons.now
    c.take_from-4.new.cons c.in-Ok-take_extensions.extensions c.take_extensions.new.cons key.0
    c.in-Ok-take_extensions.ensures in
    let names : NameModes = record {
      issuer = c.in_ok-issuer.issuer.mode;
      subject = c.in_ok-subject.subject.mode;
    } in
    ends (λ (t : KeptTbs). t.tbs) tbs_fields_at c.args.cons.now (record { tbs = _; names = names })
    c.take_extensions.new.cons extensions.0
    (tbs-found _ _ _ _ _ _ _ _ _ _ _ _ _ _ _ _ _ version.1 serial.1 algorithm.1 issuer.1 validity.1
    subject.1 key.1 extensions.1)
