-- What is written of a multi-signed object is in its form.
use Rattle.std.proofs.Common.{◌≡◌, ℕ, ◌<◌, ◌^◌, List, [], ◌∷◌, ◌++◌, length, map, All, None, Some}
use Rattle.std.proofs.Common.{refl, sym, subst, arith}
use Rattle.std.specs.List.{flat_map}
use Rattle.std.proofs.lemmas.List.{append-nil}
use Rattle.std.proofs.lemmas.List.Elements.{All-head, All-tail}
use Rattle.rpki_der.specs.declared.mode.Mode.{Mode}
use Rattle.rpki_der.specs.declared.mode.Mode.TheVariants.{Der, Ber}
use Rattle.rpki_der.specs.Form.Parts.{Parts, Explicit, SetOf, ImplicitOf}
use Rattle.rpki_der.specs.Grammar.{Items, Integer, ObjectIdentifier, OctetString}
use Rattle.rpki_der.specs.Numbers.{MAX_DEPTH}
use Rattle.rpki_der.specs.Tags.{OBJECT_IDENTIFIER, OCTET_STRING, SEQUENCE, SET, context}
use Rattle.rpki_der.specs.Write.Parts.{contents_small, length_parts}
use Rattle.rpki_der.specs.Write.Written.{value_octets, number_octets}
use Rattle.rpki_der.proofs.Reading.Scan.{tag-sound}
use Rattle.rpki_der.proofs.Writing.Leaves.{within-written}
use Rattle.rpki_der.proofs.Writing.Lengths.{value-written}
use Rattle.rpki_der.proofs.Writing.Values.{number-written, octets-written}
use Rattle.rpki_basics.specs.Algorithm.{DigestAlgorithmForm, digest_algorithm_octets}
use Rattle.rpki_basics.proofs.Algorithms.Written.{digest-written}
use Rattle.rpki_certs.specs.Cert.{KeptCertificate, CertForm, IsKept as IsKeptCert}
use Rattle.rpki_crls.specs.Crl.{KeptCrl, CrlForm, IsKept as IsKeptCrl}
use Rattle.rpki_sigobj.specs.Object.{id_signed_data, SetOfOne, ContentForm}
use Rattle.rpki_sigobj.specs.SignerInfo.{KeptSigner, SignerInfoForm, cms_version}
use Rattle.rpki_multi.specs.Signer.{id_rta, IsAttested}
use Rattle.rpki_multi.specs.Multi.{KeptMulti, MultiForm, MultiDataForm, CrlsForm, AreIn, AreKept}
use Rattle.rpki_multi.specs.Multi.{multi_of, multi_at}
use Rattle.rpki_multi.specs.Written.{signer_contents, signer_octets, content_contents}
use Rattle.rpki_multi.specs.Written.{content_octets, certs_contents, crls_contents, crls_octets}
use Rattle.rpki_multi.specs.Written.{signers_contents, carried_octets, data_contents, data_octets}
use Rattle.rpki_multi.specs.Written.{multi_contents, multi_octets}
use Rattle.rpki_multi.proofs.Signers.{signer-written}
use Rattle.rpki_multi.proofs.Multis.Exact.{multi-part}

-- Items that are written one after the other, of which the form sees a part, are a list of these
-- parts: G holds of what is written of each of which P and Q hold and whose octets are few.
items-viewed : {A X : Type 0} (G : List ℕ → X → Type 0) (f : A → List ℕ) (view : A → X)
    (P Q : A → Type 0) → ((a : A) → P a → Q a → length (f a) < 2 ^ 32 → G (f a) (view a))
    → (xs : List A) → All P xs → All Q xs → length (flat_map f xs) < 2 ^ 32
    → Items G (flat_map f xs) (map view xs)
items-viewed G f view P Q each [] p q short = refl
items-viewed G f view P Q each (a ∷ xs) p q short =
    let parts = length_parts (f a) (flat_map f xs) short in (
      f a,
      flat_map f xs,
      refl,
      each a (All-head P a xs p) (All-head Q a xs q) parts.0,
      items-viewed G f view P Q each xs (All-tail P a xs p) (All-tail Q a xs q) parts.1,
    )

content-written : (content : List ℕ) → length (content_contents content) < 2 ^ 32
    → ContentForm Der (content_octets content) (id_rta, content)
unfolding content_octets
content-written content short =
    let a : List ℕ = value_octets OBJECT_IDENTIFIER id_rta in
    let o : List ℕ = value_octets OCTET_STRING content in
    let b : List ℕ = value_octets (context 0) o in
    let inner = contents_small (context 0) o (length_parts a b short).1 in
    within-written SEQUENCE
    (Parts ((λ o. ObjectIdentifier Der o id_rta)
    ∷ (λ o. Explicit 0 Der (λ e. OctetString Der MAX_DEPTH e content) o)
    ∷ []))
    (content_contents content) (tag-sound SEQUENCE refl) short (
      a,
      b,
      refl,
      (
        id_rta,
        value-written OBJECT_IDENTIFIER id_rta (tag-sound OBJECT_IDENTIFIER refl) (omega arith),
        (refl, (omega arith, omega arith)),
      ),
      (
        b,
        [],
        sym (append-nil b),
        within-written (context 0) (λ e. OctetString Der MAX_DEPTH e content) o
            (tag-sound (context 0) refl) inner
            (octets-written MAX_DEPTH content (omega arith)
            (contents_small OCTET_STRING content inner)),
        refl,
      ),
    )

content-is : (content : List ℕ) → length (content_octets content) < 2 ^ 32
    → ContentForm Der (content_octets content) (id_rta, content)
unfolding content_octets
content-is content few =
    content-written content (contents_small SEQUENCE (content_contents content) few)

-- ---- the lists

certs-written : (certs : List KeptCertificate) → All IsKeptCert certs
    → All (λ c. c.mode ≡ Der) certs
    → length (certs_contents certs) < 2 ^ 32
    → ImplicitOf 0 Der (CertForm Der) (value_octets (context 0) (certs_contents certs))
    (map (λ c. c.certificate) certs)
certs-written certs kept der short =
    within-written (context 0)
    (λ c. Items (CertForm Der) c (map (λ (c : KeptCertificate). c.certificate) certs))
    (certs_contents certs) (tag-sound (context 0) refl) short
    (items-viewed (CertForm Der) (λ (c : KeptCertificate). c.certificate.octets)
    (λ c. c.certificate) IsKeptCert (λ c. c.mode ≡ Der)
    (λ c k d few. subst (λ (m : Mode). CertForm m c.certificate.octets c.certificate) d k)
    certs kept der short)

crls-items : (crls : List KeptCrl) → All IsKeptCrl crls → All (λ l. l.mode ≡ Der) crls
    → length (crls_contents crls) < 2 ^ 32
    → Items (CrlForm Der) (crls_contents crls) (map (λ l. l.list) crls)
crls-items crls kept der short =
    items-viewed (CrlForm Der) (λ (l : KeptCrl). l.list.octets) (λ l. l.list) IsKeptCrl
    (λ l. l.mode ≡ Der)
    (λ l k d few. subst (λ (m : Mode). CrlForm m l.list.octets l.list) d k) crls kept der short

crls-written : (crls : List KeptCrl) → All IsKeptCrl crls → All (λ l. l.mode ≡ Der) crls
    → length (crls_octets crls) < 2 ^ 32
    → CrlsForm Der (crls_octets crls) (map (λ l. l.list) crls)
crls-written [] kept der short = (None, refl, refl)
crls-written (l ∷ crls) kept der short =
    let few = contents_small (context 1) (crls_contents (l ∷ crls)) short in (
      Some (map (λ (k : KeptCrl). k.list) (l ∷ crls)),
      within-written (context 1)
          (λ c. Items (CrlForm Der) c (map (λ (k : KeptCrl). k.list) (l ∷ crls)))
          (crls_contents (l ∷ crls)) (tag-sound (context 1) refl) few
          (crls-items (l ∷ crls) kept der few),
      refl,
    )

one-signer : (s : KeptSigner) → IsAttested s → s.mode ≡ Der
    → length (signer_octets s.signer) < 2 ^ 32
    → SignerInfoForm id_rta Der (signer_octets s.signer) s.signer
unfolding signer_octets
one-signer s kept der short =
    signer-written s kept der (contents_small SEQUENCE (signer_contents s.signer) short)

signers-written : (signers : List KeptSigner) → All IsAttested signers
    → All (λ s. s.mode ≡ Der) signers → length (signers_contents signers) < 2 ^ 32
    → SetOf Der (SignerInfoForm id_rta Der) (value_octets SET (signers_contents signers))
    (map (λ s. s.signer) signers)
signers-written signers kept der short =
    within-written SET
    (λ c. Items (SignerInfoForm id_rta Der) c (map (λ (s : KeptSigner). s.signer) signers))
    (signers_contents signers) (tag-sound SET refl) short
    (items-viewed (SignerInfoForm id_rta Der) (λ (s : KeptSigner). signer_octets s.signer)
    (λ s. s.signer) IsAttested (λ s. s.mode ≡ Der) one-signer signers kept der short)

-- ---- the whole

module _ (k : KeptMulti) (kept : AreKept k) (der : AreIn Der k) where
  data-written : length (data_contents k) < 2 ^ 32
      → MultiDataForm Der (data_octets k) (multi_of k)
  unfolding data_octets carried_octets
  data-written short =
      let c0 : List ℕ = number_octets cms_version in
      let c1 : List ℕ = value_octets SET digest_algorithm_octets in
      let c2 : List ℕ = content_octets k.content in
      let c3 : List ℕ = value_octets (context 0) (certs_contents k.certs) in
      let c4 : List ℕ = crls_octets k.crls in
      let c5 : List ℕ = value_octets SET (signers_contents k.signers) in
      let r4 : List ℕ = c4 ++ c5 in
      let r3 : List ℕ = c3 ++ r4 in
      let r2 : List ℕ = c2 ++ r3 in
      let r1 : List ℕ = c1 ++ r2 in
      let s0 = length_parts c0 r1 short in
      let s1 = length_parts c1 r2 s0.1 in
      let s2 = length_parts c2 r3 s1.1 in
      let s3 = length_parts c3 r4 s2.1 in
      let s4 = length_parts c4 c5 s3.1 in
      within-written SEQUENCE
      (Parts ((λ o. Integer Der o cms_version)
      ∷ SetOfOne Der (λ a. DigestAlgorithmForm Der a tt)
      ∷ (λ o. ContentForm Der o (id_rta, k.content))
      ∷ (λ o. ImplicitOf 0 Der (CertForm Der) o (multi_of k).certs)
      ∷ (λ o. CrlsForm Der o (multi_of k).crls)
      ∷ (λ o. SetOf Der (SignerInfoForm id_rta Der) o (multi_of k).signers)
      ∷ []))
      (data_contents k) (tag-sound SEQUENCE refl) short (
        c0,
        r1,
        refl,
        number-written cms_version (omega arith),
        (
          c1,
          r2,
          refl,
          within-written SET (λ a. DigestAlgorithmForm Der a tt) digest_algorithm_octets
              (tag-sound SET refl) (contents_small SET digest_algorithm_octets s1.0)
              digest-written,
          (
            c2,
            r3,
            refl,
            content-is k.content s2.0,
            (
              c3,
              r4,
              refl,
              certs-written k.certs kept.certs der.1.0
                  (contents_small (context 0) (certs_contents k.certs) s3.0),
              (
                c4,
                c5,
                refl,
                crls-written k.crls kept.crls der.1.1.0 s4.0,
                (
                  c5,
                  [],
                  sym (append-nil c5),
                  signers-written k.signers kept.signers der.1.1.1
                      (contents_small SET (signers_contents k.signers) s4.1),
                  refl,
                ),
              ),
            ),
          ),
        ),
      )

  data-is : length (data_octets k) < 2 ^ 32 → MultiDataForm Der (data_octets k) (multi_of k)
  unfolding data_octets
  data-is few = data-written (contents_small SEQUENCE (data_contents k) few)

  pub multi-written : length (multi_contents k) < 2 ^ 32
      → MultiForm Der (multi_octets k) (multi_of k)
  multi-written short =
      let a : List ℕ = value_octets OBJECT_IDENTIFIER id_signed_data in
      let b : List ℕ = value_octets (context 0) (data_octets k) in
      let inner = contents_small (context 0) (data_octets k) (length_parts a b short).1 in
      within-written SEQUENCE
      (Parts ((λ o. ObjectIdentifier Der o id_signed_data)
      ∷ (λ o. Explicit 0 Der (λ d. MultiDataForm Der d (multi_of k)) o)
      ∷ []))
      (multi_contents k) (tag-sound SEQUENCE refl) short (
        a,
        b,
        refl,
        (
          id_signed_data,
          value-written OBJECT_IDENTIFIER id_signed_data (tag-sound OBJECT_IDENTIFIER refl)
              (omega arith),
          (refl, (omega arith, omega arith)),
        ),
        (
          b,
          [],
          sym (append-nil b),
          within-written (context 0) (λ d. MultiDataForm Der d (multi_of k)) (data_octets k)
              (tag-sound (context 0) refl) inner (data-is inner),
          refl,
        ),
      )

  -- what is written is read again, in both modes and whatever follows
  pub multi-read : length (multi_contents k) < 2 ^ 32 → (mode : Mode) (rest : List ℕ)
      → multi_at mode (multi_octets k ++ rest) ≡ Some (multi_of k, rest)
  multi-read short mode rest =
      (multi-part.exact mode).complete (multi_octets k) (multi_of k) rest tt (in-mode mode)
    where
      in-mode : (mode : Mode) → MultiForm mode (multi_octets k) (multi_of k)
      in-mode Der = multi-written short
      in-mode Ber = multi-part.relaxed (multi_octets k) (multi_of k) (multi-written short)
