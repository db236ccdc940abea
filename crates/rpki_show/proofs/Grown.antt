-- Texts that grow twice.
use Rattle.std.proofs.Common.{◌≡◌, ◌++◌, ◌∙◌, ℕ, List, ap, Global, append_assoc, Result, Ok}
use Rattle.std.proofs.Common.{Err, String, string_bytes}
use Rattle.std.specs.declared.alloc.AllocError.{AllocError}
use Rattle.rpki_show.specs.Grows.{Grows}

-- a text that grew by two texts, of which the second is told in other words
pub grown : (r : Result (Unit {0}) AllocError) (old mid new : String Global) (a b c : List ℕ)
    → string_bytes mid ≡ string_bytes old ++ a → Grows r mid new b → b ≡ c
    → Grows r old new (a ++ c)
grown (Ok t) old mid new a b c m h e =
    h ∙ ap (λ (x : List ℕ). x ++ b) m ∙ append_assoc (string_bytes old) a b
    ∙ ap (λ (x : List ℕ). string_bytes old ++ (a ++ x)) e
grown (Err f) old mid new a b c m h e = tt
