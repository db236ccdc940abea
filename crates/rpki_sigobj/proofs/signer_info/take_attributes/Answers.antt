use Rattle.std.proofs.Common.{◌≡◌, Bool, false, sym}
use Rattle.std.specs.Prelude.{bytes_eq}
use Rattle.rpki_der.specs.declared.error.ContentFault.TheVariants.{Text}
use Rattle.rpki_der.proofs.Reading.Calls.{reads-ok}
use Rattle.rpki_der.proofs.Reading.Tested.{tested-refused}
use Rattle.rpki_attributes.specs.declared.attribute.OtherTypes.TheVariants.{Refuse}
use Rattle.rpki_attributes.specs.Attrs.{KeptAttributes, SignedAttributes}
use Rattle.rpki_attributes.specs.Attrs.Read.{attrs_at}
use Rattle.rpki_sigobj.proofs.signer_info.take_attributes.Goals as goal

pub returns-else-eq-clause-reads : goal.returns-else-eq-clause-reads
returns-else-eq-clause-reads c =
    let type = c.args.content_type.now in
    let test : SignedAttributes → Bool = λ x. bytes_eq x.content_type type in
    let view : KeptAttributes → SignedAttributes = λ k. k.attributes in
    let a = c.in_ok-attributes in
    let r = reads-ok view (attrs_at Refuse) c.args.cons.now a.attributes c.take_from.new.cons
    a.ensures.reads in
    let other : false ≡ bytes_eq a.attributes.attributes.content_type type =
    rw (c.as_slice.ensures.octets, c.as_slice-2.ensures.octets, c.content_type.ensures)
    at c.if-eq.ensures in
    let e = c.refuse_for.ensures.text r.after in
    rw (e, c.refuse_for.ensures.stays)
    (tested-refused view (attrs_at Refuse) test c.args.cons.now a.attributes c.take_from.new.cons
    view (Text _) a.ensures.reads (sym other))
