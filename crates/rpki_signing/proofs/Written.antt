-- What is made and signed is a signed object.
use Rattle.std.proofs.Common.{◌≡◌, ℕ, ◌<◌, ◌^◌, List, [], ◌++◌, length, refl, sym, ap, subst, inl}
use Rattle.std.proofs.Common.{arith}
use Rattle.std.proofs.lemmas.List.{append-nil}
use Rattle.rpki_der.specs.declared.mode.Mode.TheVariants.{Der}
use Rattle.rpki_der.specs.Tags.{OBJECT_IDENTIFIER, OCTET_STRING, SEQUENCE, SET, context}
use Rattle.rpki_der.specs.Tags.{context_primitive}
use Rattle.rpki_der.specs.Write.Encode.{Fits}
use Rattle.rpki_der.specs.Write.Parts.{contents_small, length_parts}
use Rattle.rpki_der.specs.Write.Written.{value_octets, number_octets, length_value_octets_le}
use Rattle.rpki_der.proofs.Reading.Scan.{tag-sound}
use Rattle.rpki_der.proofs.Writing.Lengths.{value-written}
use Rattle.rpki_der.proofs.Writing.Values.{number-written}
use Rattle.rpki_basics.specs.Algorithm.{digest_algorithm_octets, cms_algorithm_octets}
use Rattle.rpki_basics.proofs.Algorithms.Written.{digest-written, rsa-written}
use Rattle.rpki_attributes.specs.Attrs.Made.{attrs_octets}
use Rattle.rpki_sigobj.specs.Object.{SignedData, ContentForm, SignedDataForm, SignedForm}
use Rattle.rpki_sigobj.specs.Object.{SignedObject, id_signed_data}
use Rattle.rpki_sigobj.specs.SignerInfo.{SignerInfoForm, cms_version}
use Rattle.rpki_issued.proofs.Parts.{Short, short-value, octets-written, oid-written}
use Rattle.rpki_signing.specs.Written.{IsDataToWrite, signed_tail, signer_contents, signer_octets}
use Rattle.rpki_signing.specs.Written.{content_contents, content_octets, data_tail, data_contents}
use Rattle.rpki_signing.specs.Written.{data_octets, signer_of, data_of, object_contents}
use Rattle.rpki_signing.specs.Written.{object_octets, made_object}

signer-written : (s : SignedData) → IsDataToWrite s → Short (signer_of s)
    → SignerInfoForm s.content_type Der (signer_of s) s.signer
unfolding signer_octets signed_tail
signer-written s h short =
    let c0 : List ℕ = number_octets cms_version in
    let c1 : List ℕ = value_octets (context_primitive 0) s.signer.sid in
    let c2 : List ℕ = digest_algorithm_octets in
    let c3 : List ℕ = attrs_octets s.signer.attributes in
    let c4 : List ℕ = cms_algorithm_octets in
    let c5 : List ℕ = value_octets OCTET_STRING s.signer.signature in
    let r4 : List ℕ = c4 ++ c5 in
    let r3 : List ℕ = c3 ++ r4 in
    let r2 : List ℕ = c2 ++ r3 in
    let r1 : List ℕ = c1 ++ r2 in
    let all : List ℕ =
    signer_contents s.signer.sid s.signer.attributes.contents s.signer.signature in
    let s0 = length_parts c0 r1 (contents_small SEQUENCE all short) in
    let s1 = length_parts c1 r2 s0.1 in
    let s2 = length_parts c2 r3 s1.1 in
    let s3 = length_parts c3 r4 s2.1 in
    let s4 = length_parts c4 c5 s3.1 in (
      all,
      short-value SEQUENCE all refl short,
      (
        c0,
        r1,
        refl,
        number-written cms_version (omega arith),
        (
          c1,
          r2,
          refl,
          (short-value (context_primitive 0) s.signer.sid refl s1.0, h.sid),
          (
            c2,
            r3,
            refl,
            digest-written,
            (
              c3,
              r4,
              refl,
              (h.attributes, h.type),
              (
                c4,
                c5,
                refl,
                inl rsa-written,
                (
                  c5,
                  [],
                  sym (append-nil c5),
                  octets-written s.signer.signature s4.1,
                  refl,
                ),
              ),
            ),
          ),
        ),
      ),
    )

content-written : (s : SignedData) → IsDataToWrite s
    → Short (content_octets s.content_type s.content)
    → ContentForm Der (content_octets s.content_type s.content) (s.content_type, s.content)
unfolding content_octets
content-written s h short =
    let a : List ℕ = value_octets OBJECT_IDENTIFIER s.content_type in
    let o : List ℕ = value_octets OCTET_STRING s.content in
    let b : List ℕ = value_octets (context 0) o in
    let each = length_parts a b
    (contents_small SEQUENCE (content_contents s.content_type s.content) short) in (
      content_contents s.content_type s.content,
      short-value SEQUENCE (content_contents s.content_type s.content) refl short,
      (
        a,
        b,
        refl,
        oid-written s.content_type h.content_type each.0,
        (
          b,
          [],
          sym (append-nil b),
          (
            o,
            short-value (context 0) o refl each.1,
            octets-written s.content (contents_small (context 0) o each.1),
          ),
          refl,
        ),
      ),
    )

data-written : (s : SignedData) → IsDataToWrite s → Short (data_of s)
    → SignedDataForm Der (data_of s) s
unfolding data_octets data_tail
data-written s h short =
    let c0 : List ℕ = number_octets cms_version in
    let c1 : List ℕ = value_octets SET digest_algorithm_octets in
    let c2 : List ℕ = content_octets s.content_type s.content in
    let c3 : List ℕ = value_octets (context 0) s.cert.octets in
    let i : List ℕ = signer_of s in
    let c4 : List ℕ = value_octets SET i in
    let r3 : List ℕ = c3 ++ c4 in
    let r2 : List ℕ = c2 ++ r3 in
    let r1 : List ℕ = c1 ++ r2 in
    let all : List ℕ = data_contents c2 (data_tail s.cert.octets i) in
    let s0 = length_parts c0 r1 (contents_small SEQUENCE all short) in
    let s1 = length_parts c1 r2 s0.1 in
    let s2 = length_parts c2 r3 s1.1 in
    let s3 = length_parts c3 c4 s2.1 in (
      all,
      short-value SEQUENCE all refl short,
      (
        c0,
        r1,
        refl,
        number-written cms_version (omega arith),
        (
          c1,
          r2,
          refl,
          (
            digest_algorithm_octets,
            short-value SET digest_algorithm_octets refl s1.0,
            digest-written,
          ),
          (
            c2,
            r3,
            refl,
            content-written s h s2.0,
            (
              c3,
              c4,
              refl,
              (s.cert.octets, short-value (context 0) s.cert.octets refl s3.0, h.cert),
              (
                c4,
                [],
                sym (append-nil c4),
                (
                  i,
                  short-value SET i refl s3.1,
                  signer-written s h (contents_small SET i s3.1),
                ),
                refl,
              ),
            ),
          ),
        ),
      ),
    )

pub object-written : (s : SignedData) → IsDataToWrite s → Short (object_contents s)
    → SignedForm Der (object_octets s) (made_object s)
object-written s h short =
    let a : List ℕ = value_octets OBJECT_IDENTIFIER id_signed_data in
    let d : List ℕ = data_of s in
    let b : List ℕ = value_octets (context 0) d in
    let each = length_parts a b short in (
      refl,
      (
        object_contents s,
        value-written SEQUENCE (object_contents s) (tag-sound SEQUENCE refl) short,
        (
          a,
          b,
          refl,
          oid-written id_signed_data (omega arith, omega arith) each.0,
          (
            b,
            [],
            sym (append-nil b),
            (
              d,
              short-value (context 0) d refl each.1,
              data-written s h (contents_small (context 0) d each.1),
            ),
            refl,
          ),
        ),
      ),
    )

-- what does not fit has long contents
pub long-contents : (c : List ℕ) → ¬ Fits (length c < 2 ^ 32) (value_octets SEQUENCE c)
    → ¬ (length c < 2 ^ 32)
long-contents c h = λ k. h (k, omega (arith, k, length_value_octets_le SEQUENCE c))

-- ---- octets that were written

module _ (s : SignedData) (o : List ℕ) (can : IsDataToWrite s) (e : o ≡ object_octets s)
    (short : Short (object_contents s)) where
  made : SignedForm Der o (made_object s)
  made = subst (λ (x : List ℕ). SignedForm Der x (made_object s)) (sym e)
      (object-written s can short)

  -- they are an object
  pub some-object : (x : SignedObject) × SignedForm Der o x
  some-object = (made_object s, made)

  -- the only object that they are is the one that is made
  pub only-object : (k : SignedObject) → ((x : SignedObject) → SignedForm Der o x → k ≡ x)
      → k ≡ made_object s
  only-object k only = only (made_object s) made

  -- the only object that they are says what is signed
  pub only-signed : (k : SignedObject) → ((x : SignedObject) → SignedForm Der o x → k ≡ x)
      → k.signed ≡ s
  only-signed k only = ap (λ (x : SignedObject). x.signed) (only (made_object s) made)
