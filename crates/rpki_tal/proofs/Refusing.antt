-- What refusals tell.
use Rattle.std.proofs.Common.{◌≡◌, ◌≢◌, ℕ, List, [], Option, Err, inl, inr, refl, subst}
use Rattle.std.proofs.Common.{sym}
use Rattle.std.specs.Io.KnownBytes.{Consumes, IsAtEnd}
use Rattle.rpki_der.specs.declared.mode.Mode.TheVariants.{Der}
use Rattle.rpki_der.specs.declared.error.DecodeError.{DecodeError}
use Rattle.rpki_der.specs.declared.error.DecodeError.TheVariants.{Malformed, Content}
use Rattle.rpki_der.specs.declared.error.DecodeError.TheVariants.{Memory as OutOfMemory}
use Rattle.rpki_der.specs.Grammar.{Items, Front}
use Rattle.rpki_der.specs.Form.Decodes.{Decodes}
use Rattle.rpki_basics.specs.Key.{KeyForm}
use Rattle.rpki_basics.specs.declared.uri.Error.{Error}
use Rattle.rpki_basics.specs.declared.uri.Error.TheVariants.{InvalidCharacters, BadScheme}
use Rattle.rpki_basics.specs.declared.uri.Error.TheVariants.{BadUri as NoUri, Memory as NoMemory}
use Rattle.rpki_tal.specs.declared.error.ReadError.{ReadError}
use Rattle.rpki_tal.specs.declared.error.ReadError.TheVariants.{Io, UnexpectedEof, BadUri}
use Rattle.rpki_tal.specs.declared.error.ReadError.TheVariants.{BadKeyInfoEncoding, BadKeyInfo}
use Rattle.rpki_tal.specs.declared.error.ReadError.TheVariants.{Memory}
use Rattle.rpki_tal.specs.declared.uri.TalUri.{TalUri}
use Rattle.rpki_tal.specs.Lines.{IsLine}
use Rattle.rpki_tal.specs.Uri.{IsTalUriOf}
use Rattle.rpki_tal.specs.Form.{IsUriLine, IsBase64, IsNoTal}
use Rattle.rpki_tal.specs.Faults.{Refuses, IsUrisFault, IsKeyFault, IsFault, uri_fault, key_fault}
use Rattle.rpki_tal.specs.Read.{ReadsTal, failed_calls}

pub refuses-more : (e : ReadError) {P Q : Type 0} → (P → Q) → Refuses e P → Refuses e Q
refuses-more Io f h = f h
refuses-more UnexpectedEof f h = f h
refuses-more (BadUri cause) f h = f h
refuses-more BadKeyInfoEncoding f h = f h
refuses-more (BadKeyInfo cause) f h = f h
refuses-more Memory f h = tt

-- a line that is no URI
pub uri-refused : (list : List ℕ) (uris : List TalUri) (rest line more : List ℕ) (e : Error)
    → Front (Items IsUriLine) list uris rest → Front IsLine rest line more → line ≢ []
    → IsTalUriOf line (Err e) → Refuses (uri_fault e) (IsUrisFault list (uri_fault e))
uri-refused list uris rest line more InvalidCharacters f g some h =
    (uris, rest, line, more, f, g, some, h)
uri-refused list uris rest line more BadScheme f g some h =
    (uris, rest, line, more, f, g, some, h)
uri-refused list uris rest line more NoUri f g some h = (uris, rest, line, more, f, g, some, h)
uri-refused list uris rest line more NoMemory f g some h = tt

-- octets that do not begin with a key
pub key-refused : (text octets source : List ℕ) (e : DecodeError) → IsBase64 text octets
    → source ≡ octets → Decodes {T = List ℕ} (KeyForm Der) (λ key. key) source (Err e)
    → Refuses (key_fault e) (IsKeyFault text (key_fault e))
key-refused text octets source Malformed b s h =
    (source, subst (λ (o : List ℕ). IsBase64 text o) (sym s) b, h)
key-refused text octets source (Content fault) b s h =
    (source, subst (λ (o : List ℕ). IsBase64 text o) (sym s) b, h)
key-refused text octets source OutOfMemory b s h = tt

-- a text that is refused
pub text-refused : (old new : Option (List ℕ)) (text given : List ℕ) (e : ReadError)
    → Consumes old new given → IsAtEnd new → text ≡ given
    → Refuses e (IsFault text e × IsNoTal text) → ReadsTal old new (Err e)
text-refused old new text given Io c end s h = tt
text-refused old new text given Memory c end s h = tt
text-refused old new text given UnexpectedEof c end s h = (
  text,
  record { given = subst (λ (t : List ℕ). Consumes old new t) (sym s) c; ended = end },
  h.0,
  h.1,
)
text-refused old new text given (BadUri cause) c end s h = (
  text,
  record { given = subst (λ (t : List ℕ). Consumes old new t) (sym s) c; ended = end },
  h.0,
  h.1,
)
text-refused old new text given BadKeyInfoEncoding c end s h = (
  text,
  record { given = subst (λ (t : List ℕ). Consumes old new t) (sym s) c; ended = end },
  h.0,
  h.1,
)
text-refused old new text given (BadKeyInfo cause) c end s h = (
  text,
  record { given = subst (λ (t : List ℕ). Consumes old new t) (sym s) c; ended = end },
  h.0,
  h.1,
)

no-io : (text : List ℕ) → IsFault text Io → ⊥
no-io text (inl h) = absurd (let e : Io ≡ UnexpectedEof = h.1 in cc e)
no-io text (inr (list, c, inl f)) = absurd f
no-io text (inr (list, c, inr f)) = absurd f.3

-- no call has failed where a text is refused
pub none-failed : (text : List ℕ) (e : ReadError) → Refuses e (IsFault text e × IsNoTal text)
    → failed_calls (Err e) ≡ 0
none-failed text Io h = absurd (no-io text h.0)
none-failed text UnexpectedEof h = refl
none-failed text (BadUri cause) h = refl
none-failed text BadKeyInfoEncoding h = refl
none-failed text (BadKeyInfo cause) h = refl
none-failed text Memory h = refl
