-- Attestations that are built.
use Rattle.std.proofs.Common.{◌≡◌, ℕ, ◌<◌, ◌^◌, List, [], ◌∷◌, length, map, All, Ok, Err, Result}
use Rattle.std.proofs.Common.{refl, sym, ap, arith, ◌∙◌}
use Rattle.std.proofs.lemmas.List.{append-nil}
use Rattle.std.proofs.lemmas.List.Elements.{All-head, All-tail}
use Rattle.rpki_der.specs.declared.encode.EncodeError.{EncodeError}
use Rattle.rpki_der.specs.declared.encode.EncodeError.TheVariants.{NotDer, TooLong, Io, Memory}
use Rattle.rpki_der.specs.declared.error.DecodeError.{DecodeError}
use Rattle.rpki_der.specs.declared.mode.Mode.{Mode}
use Rattle.rpki_der.specs.declared.mode.Mode.TheVariants.{Der}
use Rattle.rpki_der.specs.Form.Decodes.{Decodes}
use Rattle.rpki_der.specs.Form.Made.{Begins}
use Rattle.rpki_der.specs.Tags.{SEQUENCE}
use Rattle.rpki_der.specs.Write.Encode.{IsBytesOf, IsLenOf}
use Rattle.rpki_der.proofs.Form.ReadBack.{only-front, refuses-memory}
use Rattle.rpki_der.specs.Write.Written.{length_value_octets_le}
use Rattle.rpki_attributes.specs.Attrs.Made.{AreMade}
use Rattle.rpki_basics.specs.Moment.{Moment}
use Rattle.rpki_certs.specs.Cert.{KeptCertificate}
use Rattle.rpki_crls.specs.Crl.{KeptCrl}
use Rattle.rpki_extensions.specs.KeyIdentifiers.{id_length}
use Rattle.rpki_sigobj.specs.SignerInfo.{KeptSigner}
use Rattle.rpki_tagged.specs.Attestation.{Attestation, AttestationForm}
use Rattle.rpki_tagged.specs.Attestation.{attestation_contents, attestation_octets}
use Rattle.rpki_multi.specs.Attestation.{KeptWhole, Whole, RtaForm, whole_of}
use Rattle.rpki_multi.specs.Built.{IsNotBegun, IsReadAs}
use Rattle.rpki_multi.specs.Multi.{KeptMulti, AreIn, CarriedIn}
use Rattle.rpki_multi.specs.Signer.{id_rta, IsAttested}
use Rattle.rpki_multi.specs.Written.{multi_contents, multi_octets}

-- a content that is not written is not begun
pub not-begun : (a : Attestation) (e : EncodeError)
    → IsBytesOf (Unit {0}) (length (attestation_contents a) < 2 ^ 32) (attestation_octets a) (Err e)
    → IsNotBegun a e
not-begun a NotDer h = h tt
not-begun a TooLong h = λ few.
    h (few, omega (arith, few, length_value_octets_le SEQUENCE (attestation_contents a)))
not-begun a Io h = h
not-begun a Memory h = tt

-- what is written of a content begins with it
pub begins-with : (a : Attestation) (octets : List ℕ) → octets ≡ attestation_octets a
    → AttestationForm Der (attestation_octets a) a → Begins (AttestationForm Der) octets a
begins-with a octets e form =
    ([], (attestation_octets a, e ∙ sym (append-nil (attestation_octets a)), form))

-- an object in DER whose length is not found is too long
pub not-short : (m : KeptMulti) (e : EncodeError) → AreIn Der m
    → IsLenOf (AreIn Der m) (length (multi_contents m) < 2 ^ 32) (multi_octets m) (Err e)
    → CarriedIn Der m × ¬ (length (multi_contents m) < 2 ^ 32)
not-short m NotDer der h = absurd (h der)
not-short m TooLong der h = (
  der.1,
  λ few. h (few, omega (arith, few, length_value_octets_le SEQUENCE (multi_contents m))),
)
not-short m Io der h = absurd h
not-short m Memory der h = absurd h

-- what is made of a type, a digest and a time is what a signer of an attestation says
pub made-attested : (digest : List ℕ) (time : Moment) (s : KeptSigner)
    → length s.signer.sid ≡ id_length → AreMade id_rta digest time s.signer.attributes
    → s.mode ≡ Der → IsAttested s
made-attested digest time s sid made der = record {
  sid = sid;
  type = made.content_type;
  most = made.form.1;
  form = rw der made.form.2;
}

-- ---- what is read again

-- lists are the same where their parts are, and all have one mode
same-list : {A X : Type 0} (view : A → X) (own : A → Mode) (of : X → Mode → A)
    → ((a : A) → of (view a) (own a) ≡ a) → (mode : Mode) (xs ys : List A)
    → All (λ a. own a ≡ mode) xs → All (λ a. own a ≡ mode) ys → map view xs ≡ map view ys
    → xs ≡ ys
same-list view own of back mode [] [] p q e = refl
same-list view own of back mode [] (y ∷ ys) p q e = absurd (cc e)
same-list view own of back mode (x ∷ xs) [] p q e = absurd (cc e)
same-list view own of back mode (x ∷ xs) (y ∷ ys) p q e =
    let head : view x ≡ view y = cc e in
    let tail : map view xs ≡ map view ys = cc e in
    let modes = All-head (λ a. own a ≡ mode) x xs p ∙ sym (All-head (λ a. own a ≡ mode) y ys q) in
    let one : x ≡ y = sym (back x) ∙ ap (λ v. of v (own x)) head ∙ ap (λ m. of (view y) m) modes
    ∙ back y in
    ap (λ z. z ∷ xs) one ∙ ap (λ l. y ∷ l) (same-list view own of back mode xs ys
    (All-tail (λ a. own a ≡ mode) x xs p) (All-tail (λ a. own a ≡ mode) y ys q) tail)

-- so are attestations in DER
same-kept : (k r : KeptWhole) → AreIn Der k.signed → AreIn Der r.signed
    → whole_of r ≡ whole_of k → r ≡ k
same-kept k r p q e =
    let mode = q.0 ∙ sym p.0 in
    let certs = same-list (λ (c : KeptCertificate). c.certificate) (λ c. c.mode)
    (λ c m. record { certificate = c; mode = m }) (λ c. refl) Der r.signed.certs k.signed.certs
    q.1.0 p.1.0 (ap (λ (w : Whole). w.signed.certs) e) in
    let crls = same-list (λ (l : KeptCrl). l.list) (λ l. l.mode)
    (λ l m. record { list = l; mode = m }) (λ l. refl) Der r.signed.crls k.signed.crls
    q.1.1.0 p.1.1.0 (ap (λ (w : Whole). w.signed.crls) e) in
    let signers = same-list (λ (s : KeptSigner). s.signer) (λ s. s.mode)
    (λ s m. record { signer = s; mode = m }) (λ s. refl) Der r.signed.signers k.signed.signers
    q.1.1.1 p.1.1.1 (ap (λ (w : Whole). w.signed.signers) e) in
    λ i. record {
      signed = record {
        mode = mode i;
        content = (e i).signed.content;
        certs = certs i;
        crls = crls i;
        signers = signers i;
      };
      content = (e i).content;
    }

pub read-as : (k : KeptWhole) (result : Result KeptWhole DecodeError) → AreIn Der k.signed
    → RtaForm Der (multi_octets k.signed) (whole_of k)
    → Decodes (RtaForm Der) whole_of (multi_octets k.signed) result → IsReadAs k result
read-as k (Ok r) der form h = λ same.
    same-kept k r der same (only-front (RtaForm Der) (multi_octets k.signed) (whole_of r)
    (whole_of k) h.0 h.1 form)
read-as k (Err e) der form h =
    refuses-memory (RtaForm Der) (multi_octets k.signed) (whole_of k) e h form
