-- What signing a revocation list answers.
use Rattle.std.proofs.Common.{◌≡◌, ℕ, ◌<◌, ◌^◌, List, length, Result, Err}
use Rattle.std.specs.Prelude.{IfOk, IfErr}
use Rattle.std.proofs.Common.{inl, inr, sym, ap, subst, ◌∙◌}
use Rattle.std.proofs.lemmas.Result.{IfOk-weaker, IfErr-weaker}
use Rattle.rpki_der.specs.declared.mode.Mode.TheVariants.{Der}
use Rattle.rpki_der.specs.declared.encode.EncodeError.{EncodeError}
use Rattle.rpki_der.specs.declared.encode.EncodeError.TheVariants.{NotDer, TooLong, Io, Memory}
use Rattle.rpki_der.specs.Tags.{SEQUENCE}
use Rattle.rpki_der.specs.Write.Encode.{IsBytesOf}
use Rattle.rpki_der.specs.Write.Written.{value_octets}
use Rattle.rpki_basics.specs.Name.{IsName}
use Rattle.rpki_basics.specs.declared.signing.SigningError.{SigningError}
use Rattle.rpki_basics.specs.declared.signing.SigningError.TheVariants as error
use Rattle.rpki_crls.specs.Crl.{RevocationList, KeptCrl, CrlForm}
use Rattle.rpki_issued.specs.Signing.{signed_contents, IsJoined, IsNotJoined, encode_fault}
use Rattle.rpki_issued.proofs.Joined.{whole}
use Rattle.rpki_issued.proofs.Parts.{Short}
use Rattle.rpki_issued_crls.specs.Lists.{UnsignedList, IsToWrite, IsNotIssued, tbs_contents}
use Rattle.rpki_issued_crls.specs.Lists.{tbs_octets, crl_contents, made_list, name_of}
use Rattle.rpki_issued_crls.proofs.Written.{list-written}

module _ (u : UnsignedList) (issuer : List ℕ) where
  -- ---- refusals

  not-issued : {E : Type 0} (may : List ℕ → List ℕ → Type 0) (e : SigningError E)
      → IsNotJoined (may (tbs_octets u issuer)) (tbs_octets u issuer) e
      → IsNotIssued may u issuer e
  not-issued may error.KeyNotFound h = h
  not-issued may error.IncompatibleKey h = h
  not-issued may (error.Signer e) h = h
  not-issued may error.AttrsTooLong h = h
  not-issued may error.TooLong h = inr h
  not-issued may (error.Content f) h = h
  not-issued may error.NotDer h = h
  not-issued may error.Memory h = h

  -- why it is not signed, of the octets that are signed
  pub not-issued-of : {E : Type 0} (may : List ℕ → List ℕ → Type 0) (o : List ℕ)
      (e : SigningError E) → o ≡ tbs_octets u issuer → IsNotJoined (may o) o e
      → IsNotIssued may u issuer e
  not-issued-of may o e same h =
      not-issued may e (subst (λ (x : List ℕ). IsNotJoined (may x) x e) same h)

  pub not-written : (E : Type 0) (may : List ℕ → List ℕ → Type 0) (e : EncodeError)
      → IsBytesOf (Unit {0}) (length (tbs_contents u issuer) < 2 ^ 32) (tbs_octets u issuer) (Err e)
      → IsNotIssued {E = E} may u issuer (encode_fault {E = E} e)
  not-written E may NotDer h = absurd (h tt)
  not-written E may TooLong h = inl (λ k. h (k, whole (tbs_contents u issuer) k))
  not-written E may Io h = absurd h
  not-written E may Memory h = tt

  -- ---- the list

  module _ (h : IsToWrite u) (name : IsName Der issuer) (o v : List ℕ)
      (same : o ≡ tbs_octets u issuer) where
    list-of : (may : List ℕ → Type 0) → (c : IsJoined may o v)
        → CrlForm Der v (made_list u issuer c.0)
    list-of may c =
        let s : List ℕ = c.0 in
        let both : signed_contents o s ≡ crl_contents u issuer s =
        ap (λ (x : List ℕ). signed_contents x s) same in
        let short : Short (crl_contents u issuer s) = subst Short both c.3 in
        subst (λ (x : List ℕ). CrlForm Der x (made_list u issuer s))
        (sym (c.2 ∙ ap (value_octets SEQUENCE) both)) (list-written u issuer s h name short)

    -- what is read back has the form
    pub form-of : (may : List ℕ → Type 0) → IsJoined may o v
        → (x : RevocationList) × CrlForm Der v x
    form-of may c = (made_list u issuer c.0, list-of may c)

    -- the only list of the form is the one that is made
    pub made-by : (may : List ℕ → Type 0) → IsJoined may o v → (k : RevocationList)
        → ((x : RevocationList) → CrlForm Der v x → k ≡ x) → k ≡ made_list u issuer k.signature
    made-by may c k only =
        let e : k ≡ made_list u issuer c.0 = only (made_list u issuer c.0) (list-of may c) in
        e ∙ ap (made_list u issuer) (sym (ap (λ (x : RevocationList). x.signature) e))

    -- its signature is one that may be answered
    pub signed-by : (may : List ℕ → List ℕ → Type 0) → IsJoined (may o) o v
        → (k : RevocationList) → ((x : RevocationList) → CrlForm Der v x → k ≡ x)
        → may (tbs_octets u issuer) k.signature
    signed-by may c k only =
        subst (may (tbs_octets u issuer))
        (sym (ap (λ (x : RevocationList). x.signature)
        (only (made_list u issuer c.0) (list-of (may o) c))))
        (subst (λ (x : List ℕ). may x c.0) same c.1)

-- where more may be answered, it is not issued either
not-issued-as : {E : Type 0} (u : UnsignedList) (issuer : List ℕ)
    (may may' : List ℕ → List ℕ → Type 0) → ((m s : List ℕ) → may m s → may' m s)
    → (e : SigningError E) → IsNotIssued may u issuer e → IsNotIssued may' u issuer e
not-issued-as u issuer may may' to error.KeyNotFound h = h
not-issued-as u issuer may may' to error.IncompatibleKey h = h
not-issued-as u issuer may may' to (error.Signer e) h = h
not-issued-as u issuer may may' to error.AttrsTooLong h = h
not-issued-as u issuer may may' to error.TooLong (inl h) = inl h
not-issued-as u issuer may may' to error.TooLong (inr (s, m, h)) =
    inr (s, to (tbs_octets u issuer) s m, h)
not-issued-as u issuer may may' to (error.Content f) h = h
not-issued-as u issuer may may' to error.NotDer h = h
not-issued-as u issuer may may' to error.Memory h = h

-- ---- under the key that the signer has said

-- What a signer answers that has told its key before: info is what it told, key the key that it has
-- now, and old the one that it had. What it may answer now, it might before.
module _ {E : Type 0} (u : UnsignedList) (may may' : List ℕ → List ℕ → List ℕ → Type 0)
    (key old info : List ℕ) (r : Result KeptCrl (SigningError E)) (told : info ≡ old) where
  pub made-under : IfOk r (λ c. c.list ≡ made_list u (name_of info) c.list.signature)
      → IfOk r (λ c. c.list ≡ made_list u (name_of old) c.list.signature)
  made-under h =
      subst (λ (i : List ℕ). IfOk r (λ (c : KeptCrl).
      c.list ≡ made_list u (name_of i) c.list.signature)) told h

  module _ (to : (k m s : List ℕ) → may k m s → may' k m s) (same : key ≡ old) where
    pub signed-under : IfOk r (λ c. may key (tbs_octets u (name_of info)) c.list.signature)
        → IfOk r (λ c. may' old (tbs_octets u (name_of old)) c.list.signature)
    signed-under h =
        subst (λ (i : List ℕ). IfOk r (λ (c : KeptCrl).
        may' old (tbs_octets u (name_of i)) c.list.signature)) told
        (IfOk-weaker r (λ (c : KeptCrl). may key (tbs_octets u (name_of info)) c.list.signature)
        (λ (c : KeptCrl). may' old (tbs_octets u (name_of info)) c.list.signature)
        (λ c b. subst (λ (k : List ℕ). may' k (tbs_octets u (name_of info)) c.list.signature) same
        (to key (tbs_octets u (name_of info)) c.list.signature b)) h)

    pub refused-under : IfErr r (IsNotIssued (may key) u (name_of info))
        → IfErr r (IsNotIssued (may' old) u (name_of old))
    refused-under h =
        subst (λ (i : List ℕ). IfErr r (IsNotIssued (may' old) u (name_of i))) told
        (IfErr-weaker r (IsNotIssued (may key) u (name_of info))
        (IsNotIssued (may' old) u (name_of info))
        (λ e b. not-issued-as u (name_of info) (may key) (may' old)
        (λ m s a. subst (λ (k : List ℕ). may' k m s) same (to key m s a)) e b) h)
