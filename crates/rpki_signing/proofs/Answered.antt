-- What building a signed object answers.
use Rattle.std.proofs.Common.{◌≡◌, ℕ, List, Option, None, Some, Result, Ok, Err}
use Rattle.std.proofs.Common.{inl, inr, refl, sym, ap, subst, ◌∙◌}
use Rattle.std.specs.Prelude.{IfOk, IfErr, IfSome}
use Rattle.sha1.specs.Sha1.{sha1}
use Rattle.rpki_der.specs.declared.mode.Mode.TheVariants.{Der}
use Rattle.rpki_der.specs.Captured.{Kept}
use Rattle.rpki_basics.specs.declared.signing.SigningError.{SigningError}
use Rattle.rpki_basics.specs.declared.signing.SigningError.TheVariants as error
use Rattle.rpki_attributes.specs.Attrs.{SignedAttributes}
use Rattle.rpki_attributes.specs.Attrs.Made.{AreMade, attributes_of, message_of}
use Rattle.rpki_attributes.specs.Signing.{AreNotSigned}
use Rattle.rpki_certs.specs.Cert.{Tbs, Certificate}
use Rattle.rpki_sigobj.specs.Object.{SignedData, SignedObject, KeptObject}
use Rattle.rpki_basics.specs.Signing.{CountsError}
use Rattle.rpki_issued.specs.Tbs.{tbs_of, IsNotSigned}
use Rattle.rpki_issued.specs.Written.{made_certificate, tbs_octets}
use Rattle.rpki_signing.specs.Written.{IsNotWritten, made_object}
use Rattle.rpki_signing.specs.Built.{Settings, issuer_of, unsigned_of, IsBuilt, IsNotBuilt}
use Rattle.rpki_signing.specs.Built.{AreSignatures, HasSigned}

-- ---- what is signed

-- what is made of the certificate of a key, and of attributes that this key signed, is built
pub built-of : (b : Settings) (issuer type content digest key sid : List ℕ)
    (x : SignedAttributes) (signature : List ℕ) (c : Certificate) → sid ≡ sha1 key
    → c ≡ made_certificate (tbs_of (unsigned_of b issuer key)) c.signature
    → AreMade type digest b.signing_time x
    → IsBuilt b issuer type content digest (record {
      content_type = type;
      content = content;
      cert = c;
      signer = record { sid = sid; attributes = x; signature = signature };
    })
built-of b issuer type content digest key sid x signature c id made attributes =
    let t : c.tbs ≡ tbs_of (unsigned_of b issuer key) = ap (λ (k : Certificate). k.tbs) made in
    let k : c.tbs.key ≡ key = ap (λ (t : Tbs). t.key) t in record {
      content_type = refl;
      content_octets = refl;
      cert =
          subst (λ (y : List ℕ). c ≡ made_certificate (tbs_of (unsigned_of b issuer y)) c.signature)
          (sym k) made;
      sid = id ∙ ap sha1 (sym k);
      attributes = attributes;
    }

-- its key is the one that was certified
pub key-of : (b : Settings) (issuer key : List ℕ) (c : Certificate)
    → c ≡ made_certificate (tbs_of (unsigned_of b issuer key)) c.signature → c.tbs.key ≡ key
key-of b issuer key c made = ap (λ (k : Certificate). k.tbs.key) made

-- what is signed of a certificate is what was to be signed
pub signed-of : (may : List ℕ → List ℕ → Type 0) (t : Tbs) (c : Certificate)
    → c ≡ made_certificate t c.signature → may (tbs_octets t) c.signature → may c.signed c.signature
signed-of may t c made h =
    subst (λ (m : List ℕ). may m c.signature) (sym (ap (λ (k : Certificate). k.signed) made)) h

-- the signer may answer both signatures of what is made of the certificate of a key
pub signatures-of : (may : List ℕ → List ℕ → List ℕ → Type 0) (b : Settings)
    (issuer named type content key sid : List ℕ) (x : SignedAttributes) (signature : List ℕ)
    (c : Certificate) → c ≡ made_certificate (tbs_of (unsigned_of b issuer key)) c.signature
    → issuer ≡ named → may key (message_of x) signature
    → may named (tbs_octets (tbs_of (unsigned_of b issuer key))) c.signature
    → AreSignatures may issuer (record {
      content_type = type;
      content = content;
      cert = c;
      signer = record { sid = sid; attributes = x; signature = signature };
    })
signatures-of may b issuer named type content key sid x signature c made same once signed = (
  subst (λ (k : List ℕ). may k (message_of x) signature) (sym (key-of b issuer key c made))
      once,
  subst (λ (i : List ℕ). may i c.signed c.signature) (sym same)
      (signed-of (may named) (tbs_of (unsigned_of b issuer key)) c made signed),
)

-- what is written of an object is what is written of what it says
pub written-as : {E : Type 0} (r : Result KeptObject E) (s : SignedData)
    → IfOk r (λ o. o.object ≡ made_object s)
    → IfOk r (λ o. o.object ≡ made_object o.object.signed)
written-as (Ok o) s h = h ∙ ap made_object (sym (ap (λ (x : SignedObject). x.signed) h))
written-as (Err e) s h = tt

-- ---- refusals

-- the name of the issuer is in DER where one that was set is
issuer-der : (o : Option Kept) (key : List ℕ) → IfSome o (λ name. name.mode ≡ Der)
    → (issuer_of o key).mode ≡ Der
issuer-der None key h = refl
issuer-der (Some name) key h = h

module _ (may : List ℕ → List ℕ → List ℕ → Type 0) (once : List ℕ → Type 0) (b : Settings)
    (issuer type content digest : List ℕ) where
  -- where attributes are not signed, the object is not built
  pub unsigned-unbuilt : {E : Type 0} (e : SigningError E)
      → AreNotSigned (attributes_of type digest b.signing_time) e
      → IsNotBuilt may once b issuer type content digest e
  unsigned-unbuilt error.KeyNotFound h = tt
  unsigned-unbuilt error.IncompatibleKey h = tt
  unsigned-unbuilt (error.Signer e) h = tt
  unsigned-unbuilt error.AttrsTooLong h = h
  unsigned-unbuilt error.TooLong h = absurd h
  unsigned-unbuilt (error.Content fault) h = absurd h
  unsigned-unbuilt error.NotDer h = absurd h
  unsigned-unbuilt error.Memory h = tt

  -- nor where the certificate is not signed
  pub uncertified-unbuilt : {E : Type 0} (key : List ℕ) (e : SigningError E)
      → HasSigned may once type digest b.signing_time key
      → IsNotSigned (may issuer) (unsigned_of b issuer key) e
      → IsNotBuilt may once b issuer type content digest e
  uncertified-unbuilt key error.KeyNotFound signed h = tt
  uncertified-unbuilt key error.IncompatibleKey signed h = tt
  uncertified-unbuilt key (error.Signer e) signed h = tt
  uncertified-unbuilt key error.AttrsTooLong signed h = absurd h
  uncertified-unbuilt key error.TooLong signed h = inl (key, signed, h)
  uncertified-unbuilt key (error.Content fault) signed h = absurd h
  uncertified-unbuilt key error.NotDer signed h = λ n. h (issuer-der b.issuer issuer n.0, n.1)
  uncertified-unbuilt key error.Memory signed h = tt

  -- nor where it is not written
  pub unwritten-unbuilt : {E : Type 0} (s : SignedData) (e : SigningError E)
      → IsBuilt b issuer type content digest s → once s.cert.tbs.key → AreSignatures may issuer s
      → IsNotWritten s e → IsNotBuilt may once b issuer type content digest e
  unwritten-unbuilt s error.KeyNotFound built key signed h = absurd h
  unwritten-unbuilt s error.IncompatibleKey built key signed h = absurd h
  unwritten-unbuilt s (error.Signer e) built key signed h = absurd h
  unwritten-unbuilt s error.AttrsTooLong built key signed h = absurd h
  unwritten-unbuilt s error.TooLong built key signed h = inr (s, built, key, signed, h)
  unwritten-unbuilt s (error.Content fault) built key signed h = absurd h
  unwritten-unbuilt s error.NotDer built key signed h = absurd h
  unwritten-unbuilt s error.Memory built key signed h = tt

  -- nor by another signer that may answer as much, and makes the same keys to sign once
  pub unbuilt-as : (may' : List ℕ → List ℕ → List ℕ → Type 0) (once' : List ℕ → Type 0)
      → ((k m s : List ℕ) → may k m s → may' k m s) → ((k : List ℕ) → once k → once' k)
      → {E : Type 0} (e : SigningError E) → IsNotBuilt may once b issuer type content digest e
      → IsNotBuilt may' once' b issuer type content digest e
  unbuilt-as may' once' to same error.KeyNotFound h = tt
  unbuilt-as may' once' to same error.IncompatibleKey h = tt
  unbuilt-as may' once' to same (error.Signer e) h = tt
  unbuilt-as may' once' to same error.AttrsTooLong h = h
  unbuilt-as may' once' to same error.TooLong (inl (key, (x, y, made, is, by), inl h)) =
      inl (key, (x, y, made, same key is, to key (message_of x) y by), inl h)
  unbuilt-as may' once' to same error.TooLong (inl (key, (x, y, made, is, by), inr (s, m, h))) =
      inl (
        key,
        (x, y, made, same key is, to key (message_of x) y by),
        inr (s, to issuer _ s m, h),
      )
  unbuilt-as may' once' to same error.TooLong (inr (s, built, is, (by, m), h)) =
      inr (s, built, same _ is, (to _ _ _ by, to issuer _ _ m), h)
  unbuilt-as may' once' to same (error.Content fault) h = h
  unbuilt-as may' once' to same error.NotDer h = h
  unbuilt-as may' once' to same error.Memory h = tt

-- ---- counts

-- the same fault, of another call
pub counts-of : (T U : Type 0) {E : Type 0} (old new : ℕ) (e : SigningError E)
    → CountsError {T = T} old new (Err e) → CountsError {T = U} old new (Err e)
counts-of T U old new error.KeyNotFound h = h
counts-of T U old new error.IncompatibleKey h = h
counts-of T U old new (error.Signer e) h = h
counts-of T U old new error.AttrsTooLong h = h
counts-of T U old new error.TooLong h = h
counts-of T U old new (error.Content fault) h = h
counts-of T U old new error.NotDer h = h
counts-of T U old new error.Memory h = h

-- an object that is not written counts no failure
pub counts-unwritten : (E : Type 0) (old new : ℕ) (s : SignedData)
    (r : Result KeptObject (SigningError E)) → new ≡ old → IfErr r (IsNotWritten s)
    → CountsError old new r
counts-unwritten E old new s (Ok o) h k = h
counts-unwritten E old new s (Err error.KeyNotFound) h k = absurd k
counts-unwritten E old new s (Err error.IncompatibleKey) h k = absurd k
counts-unwritten E old new s (Err (error.Signer e)) h k = absurd k
counts-unwritten E old new s (Err error.AttrsTooLong) h k = h
counts-unwritten E old new s (Err error.TooLong) h k = h
counts-unwritten E old new s (Err (error.Content fault)) h k = h
counts-unwritten E old new s (Err error.NotDer) h k = h
counts-unwritten E old new s (Err error.Memory) h k = h

-- ---- signatures

-- the signature of the attributes is that of the key in the certificate
pub signed-by : {E : Type 0} (may : List ℕ → List ℕ → List ℕ → Type 0) (key : List ℕ)
    (x : SignedAttributes) (signature : List ℕ) (r : Result KeptObject E)
    → IfOk r (λ o. o.object.signed.cert.tbs.key ≡ key)
    → IfOk r (λ o. o.object.signed.signer.attributes ≡ x)
    → IfOk r (λ o. o.object.signed.signer.signature ≡ signature)
    → may key (message_of x) signature
    → IfOk r (λ o. may o.object.signed.cert.tbs.key (message_of o.object.signed.signer.attributes)
    o.object.signed.signer.signature)
signed-by may key x signature (Ok o) k a s h = rw (k, a, s) h
signed-by may key x signature (Err e) k a s h = tt
