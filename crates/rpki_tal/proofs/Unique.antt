-- A text has one reading as a locator, and none where it has a fault.
use Rattle.std.proofs.Common.{◌≡◌, ◌≢◌, ℕ, List, [], ◌∷◌, Result, Ok, inl, inr}
use Rattle.std.proofs.Common.{refl, sym, ap, subst, ◌∙◌}
use Rattle.base64.specs.declared.decode.DecodeError.{DecodeError as Undecoded}
use Rattle.base64.specs.Engines.{standard}
use Rattle.base64.specs.GeneralPurpose.{encode_of, decode_of}
use Rattle.base64.proofs.EngineFacts.{decode_of-encode_of}
use Rattle.rpki_der.specs.declared.mode.Mode.TheVariants.{Der}
use Rattle.rpki_der.specs.declared.error.DecodeError.TheVariants.{Malformed, Content}
use Rattle.rpki_der.specs.declared.error.DecodeError.TheVariants.{Memory as OutOfMemory}
use Rattle.rpki_der.specs.Grammar.{Items, Front, HasNoFront}
use Rattle.rpki_der.proofs.Form.Words.{part-unique}
use Rattle.rpki_basics.specs.Key.{KeyForm}
use Rattle.rpki_basics.proofs.Keys.Parts.{key-part}
use Rattle.rpki_tal.specs.declared.error.ReadError.{ReadError}
use Rattle.rpki_tal.specs.declared.error.ReadError.TheVariants.{Io, UnexpectedEof, BadUri}
use Rattle.rpki_tal.specs.declared.error.ReadError.TheVariants.{BadKeyInfoEncoding, BadKeyInfo}
use Rattle.rpki_tal.specs.declared.error.ReadError.TheVariants.{Memory}
use Rattle.rpki_tal.specs.declared.uri.TalUri.{TalUri}
use Rattle.rpki_tal.specs.Lines.{IsLine, IsComment}
use Rattle.rpki_tal.specs.Form.{IsUriLine, HasComments, HasUris, HasList, HasKey, IsBase64}
use Rattle.rpki_tal.specs.Form.{TalForm, IsOnlyTal, IsNoTal}
use Rattle.rpki_tal.specs.Faults.{EndsInComment, EndsInLine, IsKeyFault, IsUrisFault}
use Rattle.rpki_tal.specs.Faults.{IsListFault, IsFault, HasOtherOctets}
use Rattle.rpki_tal.proofs.LineFacts.{comment-kind, line-kind, lines-stop, first-line, no-open}
use Rattle.rpki_tal.proofs.LineFacts.{no-comment, sign-one}
use Rattle.rpki_tal.proofs.UriFacts.{uri-line-kind, empty-line, bad-line}

-- ---- comments

pub comments-same : (text a b : List ℕ) → HasComments text a → HasComments text b → a ≡ b
comments-same text a b h k =
    (lines-stop IsComment comment-kind text h.0 k.0 a b h.1 k.1 (no-comment a h.2)
    (no-comment b k.2)).1

pub open-comment : (text list : List ℕ) → EndsInComment text → HasComments text list → ⊥
open-comment text list h k =
    let same = lines-stop IsComment comment-kind text h.0 k.0 (35 ∷ h.1) list h.2 k.1
    (no-open IsComment comment-kind (35 ∷ h.1) (sign-one h.1 h.3)) (no-comment list k.2) in
    k.2 h.1 (sym same.1)

-- ---- the list

pub uris-stop : (list : List ℕ) (u v : List TalUri) (a b : List ℕ)
    → Front (Items IsUriLine) list u a → Front (Items IsUriLine) list v b
    → HasNoFront IsUriLine a → HasNoFront IsUriLine b
    → (u ≡ v) × (a ≡ b)
uris-stop list u v a b f g n m = lines-stop IsUriLine uri-line-kind list u v a b f g n m

pub uris-same : (list : List ℕ) (u v : List TalUri) (r s : List ℕ) → HasUris list u r
    → HasUris list v s → (u ≡ v) × (r ≡ s)
uris-same list u v r s h k =
    let same = uris-stop list u v h.0 k.0 h.1 k.1 (empty-line h.0 r h.2) (empty-line k.0 s k.2) in
    let line = first-line IsLine line-kind h.2.0 k.2.0 r s [] [] h.2.2 k.2.2
    (sym h.2.1 ∙ same.1 ∙ k.2.1) in
    (same.0, line.2)

open-line : (list : List ℕ) (uris : List TalUri) (rest : List ℕ) → EndsInLine list
    → HasUris list uris rest → ⊥
open-line list uris rest h k =
    let open-end = no-open IsUriLine uri-line-kind h.1 h.3 in
    let same = uris-stop list h.0 uris h.1 k.0 h.2 k.1 open-end (empty-line k.0 rest k.2) in
    no-open IsLine line-kind h.1 h.3 [] rest
    (subst (λ (t : List ℕ). Front IsLine t [] rest) (sym same.1) k.2)

bad-list : (list : List ℕ) (uris : List TalUri) (rest : List ℕ)
    (h : (found : List TalUri) × (end : List ℕ) × (line : List ℕ) × (more : List ℕ)
    × Front (Items IsUriLine) list found end × Front IsLine end line more × (line ≢ [])
    × HasNoFront IsUriLine end)
    → HasUris list uris rest → ⊥
bad-list list uris rest h k =
    let same = uris-stop list h.0 uris h.1 k.0 h.4 k.1 h.7 (empty-line k.0 rest k.2) in
    let line = first-line IsLine line-kind h.5.0 k.2.0 h.3 rest h.2 [] h.5.2 k.2.2
    (sym h.5.1 ∙ same.1 ∙ k.2.1) in
    h.6 line.1

pub uris-fault : (list : List ℕ) (e : ReadError) (uris : List TalUri) (rest : List ℕ)
    → IsUrisFault list e → HasUris list uris rest → ⊥
uris-fault list UnexpectedEof uris rest h k = open-line list uris rest h k
uris-fault list (BadUri cause) uris rest h k =
    bad-list list uris rest
    (h.0, h.1, h.2, h.3, h.4, h.5, h.6, bad-line h.1 h.2 h.3 cause h.5 h.7) k
uris-fault list Io uris rest h k = absurd h
uris-fault list BadKeyInfoEncoding uris rest h k = absurd h
uris-fault list (BadKeyInfo cause) uris rest h k = absurd h
uris-fault list Memory uris rest h k = absurd h

-- ---- the key

-- the octets of a text in base64
octets-same : (text a b : List ℕ) → IsBase64 text a → IsBase64 text b → a ≡ b
octets-same text a b h k =
    let x : decode_of standard (encode_of standard a) ≡ Ok a =
    decode_of-encode_of standard a refl h.0 in
    let y : decode_of standard (encode_of standard b) ≡ Ok b =
    decode_of-encode_of standard b refl k.0 in
    let same : encode_of standard a ≡ encode_of standard b = sym h.1 ∙ k.1 in
    let ok : (let r : Result (List ℕ) Undecoded = Ok a in r) ≡ Ok b =
    sym x ∙ ap (λ (t : List ℕ). decode_of standard t) same ∙ y in
    cc ok

pub key-unique : (octets k l r s : List ℕ) → Front (KeyForm Der) octets k r
    → Front (KeyForm Der) octets l s → k ≡ l
key-unique octets k l r s f g =
    (part-unique key-part Der f.0 g.0 k l r s f.2 g.2 (sym f.1 ∙ g.1)).1

keys-same : (text k l : List ℕ) → HasKey text k → HasKey text l → k ≡ l
keys-same text k l h i =
    let same : h.0 ≡ i.0 = octets-same text h.0 i.0 h.2 i.2 in
    key-unique i.0 k l h.1 i.1
    (subst (λ (t : List ℕ). Front (KeyForm Der) t k h.1) same h.3) i.3

other-octets : (text key : List ℕ) → HasOtherOctets text → HasKey text key → ⊥
other-octets text key h k =
    let same : h.0 ≡ k.0 = octets-same text h.0 k.0 h.1 k.2 in
    h.2 key k.1 (subst (λ (t : List ℕ). Front (KeyForm Der) t key k.1) (sym same) k.3)

key-fault : (text : List ℕ) (e : ReadError) (key : List ℕ) → IsKeyFault text e → HasKey text key
    → ⊥
key-fault text (BadKeyInfo Malformed) key h k = other-octets text key h k
key-fault text (BadKeyInfo (Content fault)) key h k = other-octets text key h k
key-fault text (BadKeyInfo OutOfMemory) key h k = absurd h
key-fault text BadKeyInfoEncoding key h k = h k.0 k.2
key-fault text UnexpectedEof key h k = absurd h
key-fault text (BadUri cause) key h k = absurd h
key-fault text Io key h k = absurd h
key-fault text Memory key h k = absurd h

-- ---- the whole text

pub list-same : (list : List ℕ) (u v : List TalUri) (k l : List ℕ) → HasList list u k
    → HasList list v l → (v ≡ u) × (l ≡ k)
list-same list u v k l h i =
    let same = uris-same list u v h.0 i.0 h.1 i.1 in (
      sym same.0,
      sym (keys-same i.0 k l
          (subst (λ (t : List ℕ). HasKey t k) same.1 h.2) i.2),
    )

pub text-same : (text : List ℕ) (u v : List TalUri) (k l : List ℕ) → TalForm text u k
    → TalForm text v l → (v ≡ u) × (l ≡ k)
text-same text u v k l h i =
    let same : h.0 ≡ i.0 = comments-same text h.0 i.0 h.1 i.1 in
    list-same i.0 u v k l (subst (λ (t : List ℕ). HasList t u k) same h.2) i.2

list-fault : (list : List ℕ) (e : ReadError) (uris : List TalUri) (key : List ℕ)
    → IsListFault list e → HasList list uris key → ⊥
list-fault list e uris key (inl h) k = uris-fault list e uris k.0 h k.1
list-fault list e uris key (inr h) k =
    let same = uris-same list h.0 uris h.1 k.0 h.2 k.1 in
    key-fault k.0 e key (subst (λ (t : List ℕ). IsKeyFault t e) same.1 h.3) k.2

pub no-tal : (text : List ℕ) (e : ReadError) → IsFault text e → IsNoTal text
no-tal text e (inl h) uris key k = open-comment text k.0 h.0 k.1
no-tal text e (inr h) uris key k =
    let same : k.0 ≡ h.0 = comments-same text k.0 h.0 k.1 h.1 in
    list-fault h.0 e uris key h.2 (subst (λ (t : List ℕ). HasList t uris key) same k.2)

pub only-tal : (text list : List ℕ) (uris : List TalUri) (key : List ℕ) → HasComments text list
    → HasList list uris key → IsOnlyTal text uris key
only-tal text list uris key c l = record {
  form = (list, c, l);
  only = λ others other k. text-same text uris others key other (list, c, l) k;
}
