-- What is said of octets that were read as a trust anchor locator.
use Rattle.std.proofs.Common.{◌≡◌, ◌+◌, ℕ, List, ◌++◌, Option, Some, None, Result, Ok, Err, refl}
use Rattle.std.proofs.Common.{sym, ap, subst, ◌∙◌, inl, inr, arith}
use Rattle.std.proofs.lemmas.List.{append-nil}
use Rattle.rpki_tal.specs.declared.error.ReadError.{ReadError}
use Rattle.rpki_tal.specs.declared.uri.TalUri.{TalUri}
use Rattle.rpki_tal.specs.declared.error.ReadError.TheVariants as error
use Rattle.rpki_tal.specs.Form.{IsNoTal, IsOnlyTal, TalForm}
use Rattle.rpki_tal.specs.Read.{HasGiven, GivesNoTal, ReadsTal, failed_calls}
use Rattle.rpki_tal.specs.Tal.{Locator}
use Rattle.rpki_cli.specs.Answer.{Output, malformed}
use Rattle.rpki_cli.specs.Shown.{IsLinesOf, IsShown}
use Rattle.rpki_cli.specs.declared.causes.Causes.TheVariants.{Omitted}
use Rattle.rpki_show.specs.Locator.{IsLocatorOf, tal_refusal}

-- all that was given are the octets
all-given : (octets text : List ℕ) (new : Option (List ℕ)) → HasGiven (Some octets) new text
    → text ≡ octets
all-given octets text None h = absurd h.given
all-given octets text (Some rest) h =
    sym (h.given ∙ (ap (λ (r : List ℕ). text ++ r) h.ended ∙ append-nil text))

module _ (octets : List ℕ) (new : Option (List ℕ)) where
  none-given : (e : ReadError) → GivesNoTal (Some octets) new e → IsNoTal octets
  none-given e none = subst IsNoTal (all-given octets none.0 new none.1) none.3

  -- no call of the source fails, so it is not for that that there is none
  pub locator-read : (r : Result Locator ReadError) → 0 ≡ 0 + failed_calls r
      → ReadsTal (Some octets) new r → IsLocatorOf octets r
  locator-read (Ok tal) kept h =
      subst (λ (t : List ℕ). IsOnlyTal t tal.uris tal.key) (all-given octets h.0 new h.1) h.2
  locator-read (Err error.Memory) kept h = tt
  locator-read (Err error.Io) kept h = absurd (omega (arith, kept))
  locator-read (Err error.UnexpectedEof) kept h = none-given error.UnexpectedEof h
  locator-read (Err (error.BadUri cause)) kept h = none-given (error.BadUri cause) h
  locator-read (Err error.BadKeyInfoEncoding) kept h = none-given error.BadKeyInfoEncoding h
  locator-read (Err (error.BadKeyInfo cause)) kept h = none-given (error.BadKeyInfo cause) h

module _ (octets : List ℕ) (s : Output) (text : List TalUri → List ℕ → List ℕ) where
  -- these are the lines of the locator that the octets are
  abbrev AreLines : List ℕ → List ℕ → Type 0
  AreLines os lines =
      (uris : List TalUri) × (key : List ℕ) × TalForm os uris key × (lines ≡ text uris key)

  no-tal : s ≡ malformed → IsNoTal octets → IsShown Omitted AreLines octets s
  no-tal is none = record { said = inr (inl (is, λ lines h. none h.0 h.1 h.2)) }

  pub shown-no-tal : (e : ReadError) → s ≡ tal_refusal e → IsLocatorOf octets (Err e)
      → IsShown Omitted AreLines octets s
  shown-no-tal error.Memory is h = record { said = inl is }
  shown-no-tal error.Io is h = no-tal is h
  shown-no-tal error.UnexpectedEof is h = no-tal is h
  shown-no-tal (error.BadUri cause) is h = no-tal is h
  shown-no-tal error.BadKeyInfoEncoding is h = no-tal is h
  shown-no-tal (error.BadKeyInfo cause) is h = no-tal is h

  pub shown-tal : (tal : Locator) → IsLocatorOf octets (Ok tal)
      → IsLinesOf (text tal.uris tal.key) s → IsShown Omitted AreLines octets s
  shown-tal tal only (inl e) = record { said = inl e }
  shown-tal tal only (inr e) = record {
    said = inr (inr (
      text tal.uris tal.key,
      record {
        these = (tal.uris, tal.key, only.form, refl);
        only = λ others t.
            let same = only.only t.0 t.1 t.2 in
            t.3 ∙ (ap (λ (uris : List TalUri). text uris t.1) same.0
            ∙ ap (λ (key : List ℕ). text tal.uris key) same.1);
      },
      e,
    ));
  }
