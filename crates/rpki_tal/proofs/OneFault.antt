-- A text has one fault at most.
use Rattle.std.proofs.Common.{◌≡◌, ℕ, List, codes, Err, inl, inr, refl}
use Rattle.std.proofs.Common.{sym, ap, subst, ◌∙◌}
use Rattle.rpki_der.specs.declared.error.DecodeError.TheVariants.{Malformed, Content}
use Rattle.rpki_der.specs.declared.error.DecodeError.TheVariants.{Memory as OutOfMemory}
use Rattle.rpki_der.specs.Grammar.{Front}
use Rattle.rpki_basics.specs.declared.uri.Error.{Error}
use Rattle.rpki_basics.specs.declared.uri.Error.TheVariants.{InvalidCharacters, BadScheme}
use Rattle.rpki_basics.specs.declared.uri.Error.TheVariants.{BadUri as NoUri, Memory as NoMemory}
use Rattle.rpki_basics.specs.Uri.{IsUriOf, AreHttpsSegments}
use Rattle.rpki_tal.specs.declared.error.ReadError.{ReadError}
use Rattle.rpki_tal.specs.declared.error.ReadError.TheVariants.{Io, UnexpectedEof, BadUri}
use Rattle.rpki_tal.specs.declared.error.ReadError.TheVariants.{BadKeyInfoEncoding, BadKeyInfo}
use Rattle.rpki_tal.specs.declared.error.ReadError.TheVariants.{Memory}
use Rattle.rpki_tal.specs.Lines.{IsLine}
use Rattle.rpki_tal.specs.Uri.{IsNoTalUri}
use Rattle.rpki_tal.specs.Form.{IsUriLine}
use Rattle.rpki_tal.specs.Faults.{EndsInLine, HasBadLine, IsKeyFault, IsUrisFault}
use Rattle.rpki_tal.specs.Faults.{IsListFault, IsFault, IsSameFault}
use Rattle.rpki_tal.proofs.LineFacts.{line-kind, first-line, no-open}
use Rattle.rpki_tal.proofs.UriFacts.{uri-line-kind, bad-line}
use Rattle.rpki_tal.proofs.Unique.{comments-same, open-comment, uris-stop, uris-same, uris-fault}

-- a text is no URI of a scheme for one cause
cause-of : (scheme : List ℕ) (P : List (List ℕ) → Type 0) (text : List ℕ) (c d : Error)
    → IsUriOf scheme P text (Err c) → IsUriOf scheme P text (Err d) → c ≡ d
cause-of scheme P text InvalidCharacters InvalidCharacters h k = refl
cause-of scheme P text InvalidCharacters BadScheme h k = absurd (h k.0)
cause-of scheme P text InvalidCharacters NoUri h k = absurd (h k.0)
cause-of scheme P text BadScheme InvalidCharacters h k = absurd (k h.0)
cause-of scheme P text BadScheme BadScheme h k = refl
cause-of scheme P text BadScheme NoUri h k = absurd (h.1 k.1)
cause-of scheme P text NoUri InvalidCharacters h k = absurd (k h.0)
cause-of scheme P text NoUri BadScheme h k = absurd (k.1 h.1)
cause-of scheme P text NoUri NoUri h k = refl
cause-of scheme P text NoMemory d h k = absurd h
cause-of scheme P text c NoMemory h k = absurd k

bad-bad : (list : List ℕ) (c d : Error) → HasBadLine list c → HasBadLine list d → c ≡ d
bad-bad list c d h k =
    let same = uris-stop list h.0 k.0 h.1 k.1 h.4 k.4 (bad-line h.1 h.2 h.3 c h.5 h.7)
    (bad-line k.1 k.2 k.3 d k.5 k.7) in
    let line = first-line IsLine line-kind h.5.0 k.5.0 h.3 k.3 h.2 k.2 h.5.2 k.5.2
    (sym h.5.1 ∙ same.1 ∙ k.5.1) in
    cause-of (codes "https") AreHttpsSegments k.2 c d
    (subst (λ (t : List ℕ). IsNoTalUri t c) line.1 h.7).1 k.7.1

open-bad : (list : List ℕ) (c : Error) → EndsInLine list → HasBadLine list c → ⊥
open-bad list c h k =
    let same = uris-stop list h.0 k.0 h.1 k.1 h.2 k.4 (no-open IsUriLine uri-line-kind h.1 h.3)
    (bad-line k.1 k.2 k.3 c k.5 k.7) in
    no-open IsLine line-kind h.1 h.3 k.2 k.3
    (subst (λ (t : List ℕ). Front IsLine t k.2 k.3) (sym same.1) k.5)

uris-one : (list : List ℕ) (e f : ReadError) → IsUrisFault list e → IsUrisFault list f
    → IsSameFault e f
uris-one list UnexpectedEof UnexpectedEof h k = refl
uris-one list UnexpectedEof (BadUri d) h k = absurd (open-bad list d h k)
uris-one list (BadUri c) UnexpectedEof h k = absurd (open-bad list c k h)
uris-one list (BadUri c) (BadUri d) h k = ap (λ (x : Error). BadUri x) (bad-bad list c d h k)
uris-one list Io f h k = absurd h
uris-one list BadKeyInfoEncoding f h k = absurd h
uris-one list (BadKeyInfo cause) f h k = absurd h
uris-one list Memory f h k = absurd h
uris-one list e Io h k = absurd k
uris-one list e BadKeyInfoEncoding h k = absurd k
uris-one list e (BadKeyInfo cause) h k = absurd k
uris-one list e Memory h k = absurd k

key-one : (text : List ℕ) (e f : ReadError) → IsKeyFault text e → IsKeyFault text f
    → IsSameFault e f
key-one text BadKeyInfoEncoding BadKeyInfoEncoding h k = refl
key-one text BadKeyInfoEncoding (BadKeyInfo Malformed) h k = absurd (h k.0 k.1)
key-one text BadKeyInfoEncoding (BadKeyInfo (Content d)) h k = absurd (h k.0 k.1)
key-one text (BadKeyInfo Malformed) BadKeyInfoEncoding h k = absurd (k h.0 h.1)
key-one text (BadKeyInfo (Content c)) BadKeyInfoEncoding h k = absurd (k h.0 h.1)
key-one text (BadKeyInfo c) (BadKeyInfo d) h k = tt
key-one text (BadKeyInfo OutOfMemory) f h k = absurd h
key-one text Io f h k = absurd h
key-one text UnexpectedEof f h k = absurd h
key-one text (BadUri c) f h k = absurd h
key-one text Memory f h k = absurd h
key-one text e (BadKeyInfo OutOfMemory) h k = absurd k
key-one text e Io h k = absurd k
key-one text e UnexpectedEof h k = absurd k
key-one text e (BadUri d) h k = absurd k
key-one text e Memory h k = absurd k

list-one : (list : List ℕ) (e f : ReadError) → IsListFault list e → IsListFault list f
    → IsSameFault e f
list-one list e f (inl h) (inl k) = uris-one list e f h k
list-one list e f (inl h) (inr k) = absurd (uris-fault list e k.0 k.1 h k.2)
list-one list e f (inr h) (inl k) = absurd (uris-fault list f h.0 h.1 k h.2)
list-one list e f (inr h) (inr k) =
    let same = uris-same list h.0 k.0 h.1 k.1 h.2 k.2 in
    key-one k.1 e f (subst (λ (t : List ℕ). IsKeyFault t e) same.1 h.3) k.3

same-fault : (e : ReadError) → IsSameFault e e
same-fault Io = refl
same-fault UnexpectedEof = refl
same-fault (BadUri cause) = refl
same-fault BadKeyInfoEncoding = refl
same-fault (BadKeyInfo cause) = tt
same-fault Memory = refl

pub one-fault : (text : List ℕ) (e f : ReadError) → IsFault text e → IsFault text f
    → IsSameFault e f
one-fault text e f (inl h) (inl k) =
    subst (λ (x : ReadError). IsSameFault e x) (h.1 ∙ sym k.1) (same-fault e)
one-fault text e f (inl h) (inr k) = absurd (open-comment text k.0 h.0 k.1)
one-fault text e f (inr h) (inl k) = absurd (open-comment text h.0 k.0 h.1)
one-fault text e f (inr h) (inr k) =
    let same : h.0 ≡ k.0 = comments-same text h.0 k.0 h.1 k.1 in
    list-one k.0 e f (subst (λ (t : List ℕ). IsListFault t e) same h.2) k.2
