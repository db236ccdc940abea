-- What holds of the parts of objects that were read.
use Rattle.std.proofs.Common.{◌≡◌, ℕ, List, [], ◌∷◌, map, All, Option, None, Some, Result, Ok}
use Rattle.std.proofs.Common.{sym, subst}
use Rattle.std.specs.Prelude.{unwrap_or}
use Rattle.std.proofs.lemmas.List.Elements.{All-nil, All-cons, All-head, All-tail}
use Rattle.rpki_der.specs.declared.mode.Mode.{Mode}
use Rattle.rpki_der.specs.declared.error.DecodeError.{DecodeError}
use Rattle.rpki_der.specs.Grammar.{IsBytes, Optional}
use Rattle.rpki_der.specs.Form.Parts.{ImplicitOf}
use Rattle.rpki_der.specs.Read.Reads.{Reads}
use Rattle.rpki_der.specs.Read.State.{State}
use Rattle.rpki_der.proofs.Form.Words.{items-all}
use Rattle.rpki_der.proofs.Reading.Calls.{reads-ok}
use Rattle.rpki_certs.specs.Cert.{Certificate, KeptCertificate, CertForm}
use Rattle.rpki_crls.specs.Crl.{RevocationList, KeptCrl, CrlForm}
use Rattle.rpki_sigobj.specs.SignerInfo.{SignerInfo, KeptSigner, SignerInfoForm}
use Rattle.rpki_multi.specs.Signer.{id_rta, IsAttested}
use Rattle.rpki_multi.specs.Multi.{KeptMulti, MultiForm, CrlsForm, AreIn, AreKept, multi_of}
use Rattle.rpki_multi.specs.Multi.{multi_at}
use Rattle.rpki_multi.proofs.Multis.Exact.{multi-part}
use Rattle.rpki_multi.proofs.Signers.{signer-attested}

-- what holds of each item in a mode holds of it in its own mode, where that is the same
each-in-its-mode : {A X : Type 0} (view : A → X) (own : A → Mode) (P : Mode → X → Type 0)
    (mode : Mode) (xs : List A) → All (λ a. own a ≡ mode) xs → All (P mode) (map view xs)
    → All (λ a. P (own a) (view a)) xs
each-in-its-mode view own P mode [] same all = All-nil (λ a. P (own a) (view a))
each-in-its-mode view own P mode (a ∷ xs) same all =
    All-cons (λ x. P (own x) (view x)) a xs
    (subst (λ (m : Mode). P m (view a)) (sym (All-head (λ x. own x ≡ mode) a xs same))
    (All-head (P mode) (view a) (map view xs) all))
    (each-in-its-mode view own P mode xs (All-tail (λ x. own x ≡ mode) a xs same)
    (All-tail (P mode) (view a) (map view xs) all))

-- the octets that are kept are those of the certificate
abbrev KeepsCert : Mode → Certificate → Type 0
KeepsCert mode c = CertForm mode c.octets c

-- the octets that are kept are those of the revocation list
abbrev KeepsCrl : Mode → RevocationList → Type 0
KeepsCrl mode l = CrlForm mode l.octets l

abbrev IsAttestedIn : Mode → SignerInfo → Type 0
IsAttestedIn mode s = IsAttested (record { signer = s; mode = mode })

module _ (mode : Mode) where
  cert-keeps : (o : List ℕ) (c : Certificate) → CertForm mode o c → KeepsCert mode c
  cert-keeps o c h = subst (λ (d : List ℕ). CertForm mode d c) (sym h.0) h

  crl-keeps : (o : List ℕ) (l : RevocationList) → CrlForm mode o l → KeepsCrl mode l
  crl-keeps o l h = subst (λ (d : List ℕ). CrlForm mode d l) (sym h.0) h

  crls-keep : (o : List ℕ) (crls : List RevocationList) → CrlsForm mode o crls
      → All (KeepsCrl mode) crls
  crls-keep o crls h =
      subst (λ (ls : List RevocationList). All (KeepsCrl mode) ls) (sym h.2) (of h.0 h.1)
    where
      of : (written : Option (List RevocationList))
          → Optional (ImplicitOf 1 mode (CrlForm mode)) o written
          → All (KeepsCrl mode) (unwrap_or written [])
      of None h = All-nil (KeepsCrl mode)
      of (Some xs) h = items-all (CrlForm mode) (KeepsCrl mode) crl-keeps h.0 xs h.2

  -- where all parts were read in the mode of the form, they are kept
  pub form-kept : (o : List ℕ) (k : KeptMulti) → MultiForm mode o (multi_of k) → AreIn mode k
      → AreKept k
  form-kept o k h same =
      let type = h.2 in
      let explicit = type.4 in
      let signed = explicit.3 in
      let version = signed.2.2 in
      let digest = version.4 in
      let content = digest.4 in
      let certs = content.4 in
      let crls = certs.4 in
      let signers = crls.4 in
      record {
        certs = each-in-its-mode (λ (c : KeptCertificate). c.certificate) (λ c. c.mode) KeepsCert
            mode k.certs same.1.0 (items-all (CertForm mode) (KeepsCert mode) cert-keeps
            certs.3.0 (map (λ (c : KeptCertificate). c.certificate) k.certs) certs.3.2);
        crls = each-in-its-mode (λ (l : KeptCrl). l.list) (λ l. l.mode) KeepsCrl mode k.crls
            same.1.1.0 (crls-keep crls.0 (map (λ (l : KeptCrl). l.list) k.crls) crls.3);
        signers = each-in-its-mode (λ (s : KeptSigner). s.signer) (λ s. s.mode) IsAttestedIn mode
            k.signers same.1.1.1 (items-all (SignerInfoForm id_rta mode) (IsAttestedIn mode)
            (signer-attested mode) signers.3.0
            (map (λ (s : KeptSigner). s.signer) k.signers) signers.3.2);
      }

-- so they are where they were read
pub read-kept : (old : State) (k : KeptMulti) (new : State) → IsBytes old.rest
    → (let r : Result KeptMulti DecodeError = Ok k in Reads multi_of multi_at old r new)
    → AreIn old.mode k → AreKept k
read-kept old k new bytes reads same =
    let r = reads-ok multi_of multi_at old k new reads in
    let f = (multi-part.exact old.mode).sound old.rest (multi_of k) new.rest bytes r.found in
    form-kept old.mode f.0 k f.2 same
