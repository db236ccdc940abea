-- Values of JSON that have no float, and texts that grow.
use Rattle.std.proofs.Common.{◌≡◌, ℕ, Bool, false, ◌||◌, List, [], ◌∷◌, Option, Some, None}
use Rattle.std.proofs.Common.{map, refl, ap, ◌∙◌, ◌++◌, Result, String, Global, string_bytes}
use Rattle.std.specs.declared.alloc.AllocError.{AllocError}
use Rattle.rpki_basics.specs.Moment.{Moment}
use Rattle.rpki_payloads.specs.Formats.Fields.{end_seconds}
use Rattle.rpki_payloads.specs.Formats.Groups.{expires_of}
use Rattle.rpki_payloads.specs.Formats.Json.{as_data, maybe, roa_data, aspa_data, provider_data}
use Rattle.rpki_payloads.specs.Formats.Json.{count_data, metadata_data}
use Rattle.rpki_payloads.specs.Formats.Row.{OriginRow, ProviderRow}
use Rattle.rpki_payloads.specs.Found.{FoundUnder}
use Rattle.rpki_payloads.specs.declared.formats.members.AsForm.{AsForm}
use Rattle.rpki_payloads.specs.declared.formats.members.AsForm.TheVariants.{Text, Number}
use Rattle.rpki_show.proofs.Grown.{grown}
use Rattle.rpki_show.specs.Grows.{Grows}
use Rattle.serde_json.specs.View.{items_of}
use Rattle.serde_json.specs.Written.{has_float, items_have_float}

both : (a b : Bool) → a ≡ false → b ≡ false → (a || b) ≡ false
both a b p q = ap (λ x. x || b) p ∙ q

as_plain : (form : AsForm) (n : ℕ) → has_float (as_data form n) ≡ false
as_plain Text n = refl
as_plain Number n = refl

maybe_plain : (o : Option ℕ) → has_float (maybe o) ≡ false
maybe_plain None = refl
maybe_plain (Some n) = refl

pub roa_plain : (form : AsForm) (r : OriginRow) → has_float (roa_data form r) ≡ false
roa_plain form r =
    both _ _ (as_plain form r.origin.asn) (both _ _ (maybe_plain (end_seconds r.until)) refl)

providers_plain : (form : AsForm) (g : List ProviderRow)
    → items_have_float (items_of (map (provider_data form) g)) ≡ false
providers_plain form [] = refl
providers_plain form (r ∷ rs) =
    both _ _ (as_plain form r.provider.provider) (providers_plain form rs)

pub aspa_plain : (form : AsForm) (g : List ProviderRow) → has_float (aspa_data form g) ≡ false
aspa_plain Text g =
    both _ _ (maybe_plain (expires_of g)) (both _ _ (providers_plain Text g) refl)
aspa_plain Number g =
    both _ _ (maybe_plain (expires_of g)) (both _ _ (providers_plain Number g) refl)

counts_plain : (found : List FoundUnder)
    → items_have_float (items_of (map count_data found)) ≡ false
counts_plain [] = refl
counts_plain (f ∷ fs) = counts_plain fs

pub metadata_plain : (moment : Moment) (found : List FoundUnder)
    → has_float (metadata_data moment found) ≡ false
metadata_plain moment found = both _ _ (counts_plain found) refl

-- ---- texts that grow

-- a text that grew by three texts
pub thrice : (r : Result (Unit {0}) AllocError) (old one two new : String Global) (a b c : List ℕ)
    → string_bytes one ≡ string_bytes old ++ a → string_bytes two ≡ string_bytes one ++ b
    → Grows r two new c → Grows r old new (a ++ (b ++ c))
thrice r old one two new a b c p q h =
    grown r old one new a (b ++ c) (b ++ c) p (grown r one two new b c c q h refl) refl
