-- What the signers of attestations say.
use Rattle.std.proofs.Common.{◌≡◌, ℕ, ◌<◌, ◌^◌, List, [], ◌∷◌, ◌++◌, length, Option, Some, Result}
use Rattle.std.proofs.Common.{Ok, refl, sym, subst, inl, arith}
use Rattle.std.specs.Prelude.{option_map}
use Rattle.std.proofs.lemmas.List.{append-nil}
use Rattle.rpki_der.specs.declared.mode.Mode.{Mode}
use Rattle.rpki_der.specs.declared.mode.Mode.TheVariants.{Der, Ber}
use Rattle.rpki_der.specs.declared.error.DecodeError.{DecodeError}
use Rattle.rpki_der.specs.Grammar.{IsBytes, Integer, OctetString}
use Rattle.rpki_der.specs.Form.Parts.{Parts}
use Rattle.rpki_der.specs.Numbers.{MAX_DEPTH}
use Rattle.rpki_der.specs.Read.Parse.{optional}
use Rattle.rpki_der.specs.Read.Reads.{Reads}
use Rattle.rpki_der.specs.Read.State.{State}
use Rattle.rpki_der.specs.Tags.{OCTET_STRING, SEQUENCE, context_primitive}
use Rattle.rpki_der.specs.Write.Parts.{contents_small, length_parts}
use Rattle.rpki_der.specs.Write.Written.{value_octets, number_octets}
use Rattle.rpki_der.proofs.Reading.Calls.{reads-ok}
use Rattle.rpki_der.proofs.Reading.Many.{optional-some}
use Rattle.rpki_der.proofs.Reading.Scan.{tag-sound}
use Rattle.rpki_der.proofs.Writing.Leaves.{within-written, value-in}
use Rattle.rpki_der.proofs.Writing.Values.{number-written, octets-written}
use Rattle.rpki_basics.specs.Algorithm.{DigestAlgorithmForm, CmsAlgorithmForm}
use Rattle.rpki_basics.specs.Algorithm.{digest_algorithm_octets, cms_algorithm_octets}
use Rattle.rpki_basics.proofs.Algorithms.Written.{digest-written, rsa-written}
use Rattle.rpki_attributes.specs.declared.attribute.OtherTypes.TheVariants.{Refuse}
use Rattle.rpki_attributes.specs.Attrs.{AttributesForm}
use Rattle.rpki_attributes.specs.Attrs.Made.{attrs_octets}
use Rattle.rpki_attributes.proofs.Lists.Written.{attrs-written}
use Rattle.rpki_extensions.specs.KeyIdentifiers.{KeyIdForm}
use Rattle.rpki_sigobj.specs.SignerInfo.{SignerInfo, KeptSigner, SignerInfoForm, TypedAttrsForm}
use Rattle.rpki_sigobj.specs.SignerInfo.{cms_version, signer_info_at}
use Rattle.rpki_sigobj.proofs.Objects.Exact.{signer-info-part}
use Rattle.rpki_multi.specs.Signer.{id_rta, IsAttested}
use Rattle.rpki_multi.specs.Written.{signer_contents, signer_octets}

-- what is in the form holds of all that a signer says
pub signer-attested : (mode : Mode) (octets : List ℕ) (s : SignerInfo)
    → SignerInfoForm id_rta mode octets s → IsAttested (record { signer = s; mode = mode })
signer-attested mode octets s h =
    let version = h.2 in
    let sid = version.4 in
    let digest = sid.4 in
    let attributes = digest.4 in
    record {
      sid = sid.3.1;
      type = attributes.3.1;
      most = attributes.3.0.1;
      form = attributes.3.0.2;
    }

-- so it does of what was read
pub read-attested : (old : State) (k : KeptSigner) (new : State) → IsBytes old.rest
    → (let r : Result (Option KeptSigner) DecodeError = Ok (Some k) in
    Reads (option_map (λ (s : KeptSigner). s.signer)) (optional SEQUENCE (signer_info_at id_rta))
    old r new)
    → k.mode ≡ old.mode → IsAttested k
read-attested old k new bytes reads mode =
    let r = reads-ok (option_map (λ (s : KeptSigner). s.signer))
    (optional SEQUENCE (signer_info_at id_rta)) old (Some k) new reads in
    let found = optional-some SEQUENCE (signer_info_at id_rta) old.mode old.rest k.signer new.rest
    r.found in
    let f = ((signer-info-part id_rta).exact old.mode).sound old.rest k.signer new.rest bytes
    found in
    subst (λ (m : Mode). IsAttested (record { signer = k.signer; mode = m })) (sym mode)
    (signer-attested old.mode f.0 k.signer f.2)

-- ---- what is written

module _ (k : KeptSigner) (kept : IsAttested k) (der : k.mode ≡ Der)
    (short : length (signer_contents k.signer) < 2 ^ 32) where
  attributes-written : TypedAttrsForm id_rta Der (attrs_octets k.signer.attributes)
      k.signer.attributes
  attributes-written = (
    attrs-written Refuse k.signer.attributes kept.most
        (subst (λ (m : Mode).
        AttributesForm Refuse m k.signer.attributes.contents k.signer.attributes) der kept.form),
    kept.type,
  )

  pub signer-written : SignerInfoForm id_rta Der (signer_octets k.signer) k.signer
  unfolding signer_octets
  signer-written =
      let s : SignerInfo = k.signer in
      let c0 : List ℕ = number_octets cms_version in
      let c1 : List ℕ = value_octets (context_primitive 0) s.sid in
      let c2 : List ℕ = digest_algorithm_octets in
      let c3 : List ℕ = attrs_octets s.attributes in
      let c4 : List ℕ = cms_algorithm_octets in
      let c5 : List ℕ = value_octets OCTET_STRING s.signature in
      let r4 : List ℕ = c4 ++ c5 in
      let r3 : List ℕ = c3 ++ r4 in
      let r2 : List ℕ = c2 ++ r3 in
      let r1 : List ℕ = c1 ++ r2 in
      let s0 = length_parts c0 r1 short in
      let s1 = length_parts c1 r2 s0.1 in
      let s2 = length_parts c2 r3 s1.1 in
      let s3 = length_parts c3 r4 s2.1 in
      let s4 = length_parts c4 c5 s3.1 in
      within-written SEQUENCE
      (Parts ((λ o. Integer Der o cms_version)
      ∷ (λ o. KeyIdForm Der o s.sid)
      ∷ (λ o. DigestAlgorithmForm Der o tt)
      ∷ (λ o. TypedAttrsForm id_rta Der o s.attributes)
      ∷ (λ o. CmsAlgorithmForm Der o tt)
      ∷ (λ o. OctetString Der MAX_DEPTH o s.signature)
      ∷ []))
      (signer_contents s) (tag-sound SEQUENCE refl) short (
        c0,
        r1,
        refl,
        number-written cms_version (omega arith),
        (
          c1,
          r2,
          refl,
          (
            value-in Der (context_primitive 0) s.sid (tag-sound (context_primitive 0) refl)
                (contents_small (context_primitive 0) s.sid s1.0),
            kept.sid,
          ),
          (
            c2,
            r3,
            refl,
            digest-written,
            (
              c3,
              r4,
              refl,
              attributes-written,
              (
                c4,
                c5,
                refl,
                inl rsa-written,
                (
                  c5,
                  [],
                  sym (append-nil c5),
                  octets-written MAX_DEPTH s.signature (omega arith)
                      (contents_small OCTET_STRING s.signature s4.1),
                  refl,
                ),
              ),
            ),
          ),
        ),
      )

  -- what is written is read again, in both modes and whatever follows
  pub signer-read : (mode : Mode) (rest : List ℕ)
      → signer_info_at id_rta mode (signer_octets k.signer ++ rest) ≡ Some (k.signer, rest)
  signer-read mode rest =
      ((signer-info-part id_rta).exact mode).complete (signer_octets k.signer) k.signer rest tt
      (in-mode mode)
    where
      in-mode : (mode : Mode) → SignerInfoForm id_rta mode (signer_octets k.signer) k.signer
      in-mode Der = signer-written
      in-mode Ber = (signer-info-part id_rta).relaxed (signer_octets k.signer) k.signer
          signer-written
