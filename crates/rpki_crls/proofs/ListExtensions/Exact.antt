-- The extensions of a revocation list are read exactly, in any order.
use Rattle.std.proofs.Common.{◌≡◌, List, Some, refl, subst}
use Rattle.std.specs.Prelude.{All}
use Rattle.rpki_der.specs.Form.Keyed.{must}
use Rattle.rpki_der.specs.Form.Law.{nothing, is, IsPart}
use Rattle.rpki_der.specs.Read.Parse.{u160_at}
use Rattle.rpki_der.specs.Tags.{SEQUENCE}
use Rattle.rpki_der.proofs.Form.Kinds.{u160-part}
use Rattle.rpki_der.proofs.Form.Words.{IsUnderstood, understand, in-tag, part-as}
use Rattle.rpki_der.proofs.Reading.Lengths.{bind_some, some_is}
use Rattle.rpki_extensions.specs.declared.extension.Extension.{Extension}
use Rattle.rpki_extensions.specs.Extension.{MayStand, stated}
use Rattle.rpki_extensions.specs.Extensions.{authority_key_identifier}
use Rattle.rpki_extensions.specs.KeyIdentifiers.{authority_key_at}
use Rattle.rpki_extensions.proofs.CertExtensions.Exact.{HasBytes, values-bytes, standing-part}
use Rattle.rpki_extensions.proofs.CertExtensions.Exact.{must-read, must-say}
use Rattle.rpki_extensions.proofs.Values.{authority-key-part}
use Rattle.rpki_crls.specs.declared.extensions.CrlExtensions.{CrlExtensions}
use Rattle.rpki_crls.specs.Extensions.{crl_number, crl_extensions, AreCrlExtensions}
use Rattle.rpki_crls.specs.Extensions.{CrlExtensionsForm, crl_extensions_of, crl_extensions_at}

sound : (list : List Extension) → All HasBytes list → MayStand crl_extensions list
    → (x : CrlExtensions) → crl_extensions_of list ≡ Some x → AreCrlExtensions list x
unfolding crl_extensions_of
sound list bytes stand x h =
    let a = bind_some (must (stated authority_key_identifier authority_key_at list)) _ x h in
    let b = bind_some (must (stated crl_number u160_at list)) _ x a.2 in
    let same : (let q : CrlExtensions = record { authority_key = a.0; number = b.0 } in q) ≡ x =
    some_is _ _ b.2 in
    subst (AreCrlExtensions list) same (record {
      stand = stand;
      authority_key =
          must-read authority-key-part authority_key_identifier list bytes a.0 a.1;
      number = must-read u160-part crl_number list bytes b.0 b.1;
    })

complete : (list : List Extension) (x : CrlExtensions) → AreCrlExtensions list x
    → crl_extensions_of list ≡ Some x
unfolding crl_extensions_of
complete list x h =
    let once = h.stand.distinct in
    let a : must (stated authority_key_identifier authority_key_at list) ≡ Some x.authority_key =
    must-say authority-key-part authority_key_identifier list once x.authority_key
    h.authority_key in
    let b : must (stated crl_number u160_at list) ≡ Some x.number =
    must-say u160-part crl_number list once x.number h.number in
    rw a (rw b refl)

understood : IsUnderstood (λ _. crl_extensions_of)
    (λ list. All HasBytes list × MayStand crl_extensions list) (λ _. AreCrlExtensions)
understood = record {
  sound = λ _ list x known h. sound list known.0 known.1 x h;
  complete = λ _ list x h. complete list x h;
  relaxed = λ list x h. h;
}

pub crl-extensions-part : IsPart (is SEQUENCE) nothing crl_extensions_at CrlExtensionsForm
crl-extensions-part = part-as
    (in-tag SEQUENCE (understand (standing-part crl_extensions)
    (λ mode o list bytes g. (values-bytes mode o list bytes g.0, g.1)) understood))
    (λ mode o x h. (h.2.0, (h.0, h.1, h.2.1.0), h.2.2))
    (λ mode o x h. (h.1.0, h.1.1, (h.0, (h.1.2, h.2.stand), h.2)))
