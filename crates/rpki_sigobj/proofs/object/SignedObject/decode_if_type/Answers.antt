use Rattle.std.proofs.Common.{◌≡◌, true, false, sym, ◌∙◌}
use Rattle.std.specs.Prelude.{bytes_eq}
use Rattle.std.proofs.lemmas.Slice.Eq.{bytes_eq-Decides}
use Rattle.rpki_sigobj.specs.Object.{SignedObject, SignedForm, mode_of}
use Rattle.rpki_sigobj.proofs.Objects.Types.{narrow-found, narrow-refuses, other-refused}
use Rattle.rpki_sigobj.proofs.object.SignedObject.decode_if_type.Goals as goal

pub returns-in-Err-clause-decodes : goal.returns-in-Err-clause-decodes
returns-in-Err-clause-decodes c =
    narrow-refuses (SignedForm (mode_of c.args.strict))
    (λ (s : SignedObject). s.signed.content_type ≡ c.args.content_type.now) c.args.source
    c.in-Err.e c.in-Err.ensures.decodes

pub returns-then-eq-clause-decodes : goal.returns-then-eq-clause-decodes
returns-then-eq-clause-decodes c =
    let type = c.args.content_type.now in
    let object = c.in-Ok.object.object in
    let found = c.in-Ok.ensures.decodes in
    let same : true ≡ bytes_eq object.signed.content_type type =
    rw (c.as_slice.ensures.octets, c.as_slice-in-Ok.ensures.octets, c.content_type.ensures)
    at c.if-eq.ensures in (
      found.0,
      narrow-found (SignedForm (mode_of c.args.strict))
          (λ (s : SignedObject). s.signed.content_type ≡ type) c.args.source object found.0
          ((bytes_eq-Decides object.signed.content_type type).0 (sym same)) found.1,
    )

pub returns-else-eq-clause-decodes : goal.returns-else-eq-clause-decodes
returns-else-eq-clause-decodes c =
    let type = c.args.content_type.now in
    let object = c.in-Ok.object.object in
    let found = c.in-Ok.ensures.decodes in
    let other : false ≡ bytes_eq object.signed.content_type type =
    rw (c.as_slice.ensures.octets, c.as_slice-in-Ok.ensures.octets, c.content_type.ensures)
    at c.if-eq.ensures in
    rw c.refusal.ensures (other-refused (SignedForm (mode_of c.args.strict))
    (λ (s : SignedObject). s.signed.content_type ≡ type) c.args.source object found.0
    (λ is. absurd (let never : false ≡ true =
    other ∙ (bytes_eq-Decides object.signed.content_type type).1 is in cc)) found.1)
