-- What is answered of a locator that was cut off.
use Rattle.std.proofs.Common.{◌≡◌, ◌∙◌, ◌++◌, ℕ, List, Option, None, Some, Result, Ok, Err}
use Rattle.std.proofs.Common.{refl, sym, subst, inl, inr}
use Rattle.std.proofs.lemmas.List.{append-nil}
use Rattle.rpki_tal.specs.declared.error.ReadError.{ReadError}
use Rattle.rpki_tal.specs.declared.error.ReadError.TheVariants.{Io, Memory, UnexpectedEof, BadUri}
use Rattle.rpki_tal.specs.declared.error.ReadError.TheVariants.{BadKeyInfoEncoding, BadKeyInfo}
use Rattle.rpki_tal.specs.Faults.{EndsInLine, IsFault, IsSameFault}
use Rattle.rpki_tal.specs.Form.{HasComments, IsNoTal, TalForm}
use Rattle.rpki_tal.specs.Read.{HasGiven, GivesNoTal, ReadsTal}
use Rattle.rpki_tal.specs.Tal.{Locator}
use Rattle.rpki_examples.specs.Locators.{IsCutOff}

-- a source that has ended has given all that it had left
given-all : (new : Option (List ℕ)) (all text : List ℕ) → HasGiven (Some all) new text
    → text ≡ all
given-all None all text h = absurd h.given
given-all (Some rest) all text h =
    sym (subst (λ (r : List ℕ). all ≡ text ++ r) h.ended h.given ∙ append-nil text)

-- a fault that is the same as an early end is one
same-end : (e : ReadError) → IsSameFault e UnexpectedEof → e ≡ UnexpectedEof
same-end Io h = h
same-end UnexpectedEof h = h
same-end (BadUri cause) h = h
same-end BadKeyInfoEncoding h = h
same-end (BadKeyInfo cause) h = h
same-end Memory h = h

module _ (none : (text : List ℕ) (e : ReadError) → IsFault text e → IsNoTal text)
    (one : (text : List ℕ) (e other : ReadError) → IsFault text e → IsFault text other
    → IsSameFault e other) (text list : List ℕ) (new : Option (List ℕ))
    (comments : HasComments text list) (ends : EndsInLine list) where
  cut : IsFault text UnexpectedEof
  cut = inr (list, comments, inl ends)

  -- any fault of the text is that of an early end
  ends-early : (e : ReadError) → GivesNoTal (Some text) new e → e ≡ UnexpectedEof
  ends-early e h =
      same-end e (one text e UnexpectedEof
      (subst (λ (t : List ℕ). IsFault t e) (given-all new text h.0 h.1) h.2) cut)

  pub cut-off : (result : Result Locator ReadError) → ReadsTal (Some text) new result
      → IsCutOff result
  cut-off (Ok tal) h =
      none text UnexpectedEof cut tal.uris tal.key
      (subst (λ (t : List ℕ). TalForm t tal.uris tal.key) (given-all new text h.0 h.1) h.2.form)
  cut-off (Err Io) h = tt
  cut-off (Err Memory) h = tt
  cut-off (Err UnexpectedEof) h = refl
  cut-off (Err (BadUri cause)) h = ends-early (BadUri cause) h
  cut-off (Err BadKeyInfoEncoding) h = ends-early BadKeyInfoEncoding h
  cut-off (Err (BadKeyInfo cause)) h = ends-early (BadKeyInfo cause) h
