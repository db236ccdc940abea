-- What finding the length of extensions one after another, and writing what is signed, answers.
use Rattle.std.proofs.Common.{◌≡◌, ℕ, ◌<◌, ◌^◌, List, [], ◌∷◌, ◌++◌, length, Result, Ok, Err}
use Rattle.std.proofs.Common.{sym, ap, subst, ◌∙◌, Vec, Global}
use Rattle.rpki_der.specs.declared.encode.EncodeError.{EncodeError}
use Rattle.rpki_der.specs.declared.encode.EncodeError.TheVariants.{NotDer, TooLong, Io, Memory}
use Rattle.rpki_der.specs.Tags.{SEQUENCE}
use Rattle.rpki_der.specs.Write.Encode.{IsLenOf, IsBytesOf}
use Rattle.rpki_der.specs.Write.Written.{value_octets}
use Rattle.rpki_issued.specs.Extensions.{OptionalExtension, octets_of, IsShortOptional}
use Rattle.rpki_issued.specs.Extensions.{AreShortOptionals, row}
use Rattle.std.proofs.lemmas.List.{append_assoc}
use Rattle.rpki_basics.specs.Algorithm.{cert_algorithm_octets}
use Rattle.rpki_basics.specs.Serial.{serial_octets}
use Rattle.rpki_issued.specs.Written.{version_octets, key_fields_octets, subject_fields_octets}
use Rattle.rpki_issued.specs.Written.{validity_field_octets, issuer_fields_octets, tbs_contents}
use Rattle.rpki_issued.specs.Tbs.{Unsigned, subject_octets, tbs_of}

-- the same answer, of what can be written alike
pub len-as : (d s t : Type 0) (o : List ℕ) (r : Result ℕ EncodeError) → d → (s → t) → (t → s)
    → IsLenOf d s o r → IsLenOf (Unit {0}) t o r
len-as d s t o (Ok n) der to from h = (h.0, tt, to h.2)
len-as d s t o (Err NotDer) der to from h = absurd (h der)
len-as d s t o (Err TooLong) der to from h = λ k. h (from k.0, k.1)
len-as d s t o (Err Io) der to from h = h
len-as d s t o (Err Memory) der to from h = h

-- five extensions
pub len-five : (a b c d e : OptionalExtension) (r : Result ℕ EncodeError)
    → IsLenOf (Unit {0} × (Unit {0} × (Unit {0} × (Unit {0} × Unit {0}))))
    (IsShortOptional a × (IsShortOptional b × (IsShortOptional c
    × (IsShortOptional d × IsShortOptional e))))
    (octets_of a ++ (octets_of b ++ (octets_of c ++ (octets_of d ++ octets_of e)))) r
    → IsLenOf (Unit {0}) (AreShortOptionals (a ∷ b ∷ c ∷ d ∷ e ∷ []))
    (row (a ∷ b ∷ c ∷ d ∷ e ∷ [])) r
len-five a b c d e r h =
    len-as _ _ (AreShortOptionals (a ∷ b ∷ c ∷ d ∷ e ∷ [])) (row (a ∷ b ∷ c ∷ d ∷ e ∷ [])) r
    (tt, (tt, (tt, (tt, tt)))) (λ k. k) (λ k. k) h

-- the same octets, of what can be written alike
pub bytes-as : (d d' : Type 0) (c c' : List ℕ) (r : Result (Vec ℕ Global) EncodeError) → (d → d')
    → (d' → d) → c ≡ c'
    → IsBytesOf d (length c < 2 ^ 32) (value_octets SEQUENCE c) r
    → IsBytesOf d' (length c' < 2 ^ 32) (value_octets SEQUENCE c') r
bytes-as d d' c c' (Ok v) to from e h = (
  h.0 ∙ ap (value_octets SEQUENCE) e,
  to h.1,
  (
    subst (λ (x : List ℕ). length x < 2 ^ 32) e h.2.0,
    subst (λ (x : List ℕ). length (value_octets SEQUENCE x) < 2 ^ 64) e h.2.1,
  ),
)
bytes-as d d' c c' (Err NotDer) to from e h = λ k. h (from k)
bytes-as d d' c c' (Err TooLong) to from e h = λ k. h (
  subst (λ (x : List ℕ). length x < 2 ^ 32) (sym e) k.0,
  subst (λ (x : List ℕ). length (value_octets SEQUENCE x) < 2 ^ 64) (sym e) k.1,
)
bytes-as d d' c c' (Err Io) to from e h = h
bytes-as d d' c c' (Err Memory) to from e h = tt

-- the fields up to the issuer, and those from the validity on, are what is signed
pub fields-join : (u : Unsigned) (subject : List ℕ) → subject ≡ subject_octets u.subject u.key
    → issuer_fields_octets u.serial_number u.issuer.octets
    ++ subject_fields_octets u.validity subject u.key u.extensions
    ≡ tbs_contents (tbs_of u)
unfolding issuer_fields_octets subject_fields_octets validity_field_octets key_fields_octets
fields-join u subject e =
    let v : List ℕ = version_octets in
    let s : List ℕ = serial_octets u.serial_number in
    let a : List ℕ = cert_algorithm_octets in
    let i : List ℕ = u.issuer.octets in
    let t : List ℕ = subject_fields_octets u.validity subject u.key u.extensions in
    append_assoc v (s ++ (a ++ i)) t
    ∙ ap (λ (x : List ℕ). v ++ x) (append_assoc s (a ++ i) t)
    ∙ ap (λ (x : List ℕ). v ++ (s ++ x)) (append_assoc a i t)
    ∙ ap (λ (x : List ℕ). v ++ (s ++ (a ++ (i
    ++ subject_fields_octets u.validity x u.key u.extensions)))) e
