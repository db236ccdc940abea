-- What signing a certificate answers.
use Rattle.std.proofs.Common.{◌≡◌, ℕ, ◌<◌, ◌^◌, List, length, Err}
use Rattle.std.proofs.Common.{inl, inr, sym, ap, subst, ◌∙◌}
use Rattle.rpki_der.specs.declared.mode.Mode.TheVariants.{Der}
use Rattle.rpki_der.specs.declared.encode.EncodeError.{EncodeError}
use Rattle.rpki_der.specs.declared.encode.EncodeError.TheVariants.{NotDer, TooLong, Io, Memory}
use Rattle.rpki_der.specs.Tags.{SEQUENCE}
use Rattle.rpki_der.specs.Write.Encode.{IsBytesOf}
use Rattle.rpki_der.specs.Write.Written.{value_octets}
use Rattle.rpki_basics.specs.declared.signing.SigningError.{SigningError}
use Rattle.rpki_basics.specs.declared.signing.SigningError.TheVariants as error
use Rattle.rpki_certs.specs.Cert.{Tbs, Certificate, CertForm}
use Rattle.rpki_issued.specs.Signing.{signed_contents, IsJoined, IsNotJoined, encode_fault}
use Rattle.rpki_issued.specs.Written.{tbs_contents, tbs_octets, cert_contents}
use Rattle.rpki_issued.specs.Written.{IsTbsToWrite, made_certificate}
use Rattle.rpki_issued.specs.Tbs.{Unsigned, tbs_of, NamesInDer, IsNotSigned}
use Rattle.rpki_issued.proofs.Joined.{whole}
use Rattle.rpki_issued.proofs.Parts.{Short}
use Rattle.rpki_issued.proofs.Written.{cert-written}

-- ---- refusals

pub not-made : {E : Type 0} (may : List ℕ → List ℕ → Type 0) (u : Unsigned) (e : SigningError E)
    → IsNotJoined (may (tbs_octets (tbs_of u))) (tbs_octets (tbs_of u)) e → IsNotSigned may u e
not-made may u error.KeyNotFound h = h
not-made may u error.IncompatibleKey h = h
not-made may u (error.Signer e) h = h
not-made may u error.AttrsTooLong h = h
not-made may u error.TooLong h = inr h
not-made may u (error.Content f) h = h
not-made may u error.NotDer h = absurd h
not-made may u error.Memory h = h

-- why it is not signed, of the octets that are signed
pub not-made-of : {E : Type 0} (may : List ℕ → List ℕ → Type 0) (u : Unsigned) (o : List ℕ)
    (e : SigningError E) → o ≡ tbs_octets (tbs_of u) → IsNotJoined (may o) o e → IsNotSigned may u e
not-made-of may u o e same h =
    not-made may u e (subst (λ (x : List ℕ). IsNotJoined (may x) x e) same h)

pub not-written : (E : Type 0) (may : List ℕ → List ℕ → Type 0) (u : Unsigned) (e : EncodeError)
    → IsBytesOf (NamesInDer u) (length (tbs_contents (tbs_of u)) < 2 ^ 32) (tbs_octets (tbs_of u))
    (Err e) → IsNotSigned {E = E} may u (encode_fault {E = E} e)
not-written E may u NotDer h = h
not-written E may u TooLong h = inl (λ k. h (k, whole (tbs_contents (tbs_of u)) k))
not-written E may u Io h = absurd h
not-written E may u Memory h = tt

-- ---- the certificate

pub cert-of : (t : Tbs) (o v : List ℕ) (may : List ℕ → Type 0) → IsTbsToWrite t
    → o ≡ tbs_octets t → (c : IsJoined may o v) → CertForm Der v (made_certificate t c.0)
cert-of t o v may h e c =
    let s : List ℕ = c.0 in
    let same : signed_contents o s ≡ cert_contents t s =
    ap (λ (x : List ℕ). signed_contents x s) e in
    let short : Short (cert_contents t s) = subst Short same c.3 in
    subst (λ (x : List ℕ). CertForm Der x (made_certificate t s))
    (sym (c.2 ∙ ap (value_octets SEQUENCE) same)) (cert-written t s h short)

pub made-of : (t : Tbs) (s : List ℕ) (c : Certificate) → c ≡ made_certificate t s
    → c ≡ made_certificate t c.signature
made-of t s c e =
    e ∙ ap (made_certificate t) (sym (ap (λ (k : Certificate). k.signature) e))

-- what is read back has the form
pub form-of : (t : Tbs) (o v : List ℕ) (may : List ℕ → Type 0) → IsTbsToWrite t
    → o ≡ tbs_octets t → IsJoined may o v → (x : Certificate) × CertForm Der v x
form-of t o v may h e c = (made_certificate t c.0, cert-of t o v may h e c)

-- the only certificate of the form is the one that is made
pub made-by : (t : Tbs) (o v : List ℕ) (may : List ℕ → Type 0) → IsTbsToWrite t
    → o ≡ tbs_octets t → IsJoined may o v → (k : Certificate)
    → ((x : Certificate) → CertForm Der v x → k ≡ x) → k ≡ made_certificate t k.signature
made-by t o v may h e c k only =
    made-of t c.0 k (only (made_certificate t c.0) (cert-of t o v may h e c))

-- its signature is one that may be answered
pub signed-by : (t : Tbs) (o v : List ℕ) (may : List ℕ → List ℕ → Type 0) → IsTbsToWrite t
    → o ≡ tbs_octets t → IsJoined (may o) o v → (k : Certificate)
    → ((x : Certificate) → CertForm Der v x → k ≡ x) → may (tbs_octets t) k.signature
signed-by t o v may h e c k only =
    subst (may (tbs_octets t))
    (sym (ap (λ (x : Certificate). x.signature)
    (only (made_certificate t c.0) (cert-of t o v (may o) h e c))))
    (subst (λ (x : List ℕ). may x c.0) e c.1)
