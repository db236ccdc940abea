-- A text that is refused is no URI.
use Rattle.std.proofs.Common.{ℕ, List}
use Rattle.std.specs.Prelude.{Err}
use Rattle.rpki_basics.specs.declared.uri.Error.{Error}
use Rattle.rpki_basics.specs.declared.uri.Error.TheVariants.{InvalidCharacters, BadScheme, BadUri}
use Rattle.rpki_basics.specs.declared.uri.Error.TheVariants.{Memory}
use Rattle.rpki_basics.specs.Uri.{IsUri, IsUriOf}

pub no-uri : (scheme : List ℕ) (P : List (List ℕ) → Type 0) (text : List ℕ) (e : Error)
    → IsUriOf scheme P text (Err e) → ¬ IsUri scheme P text
no-uri scheme P text InvalidCharacters h u = h u.0
no-uri scheme P text BadScheme h u = h.1 (u.1.0, u.1.1)
no-uri scheme P text BadUri h u = h.2 u
no-uri scheme P text Memory h u = absurd h
