-- What was captured is kept.
use Rattle.std.proofs.Common.{◌≡◌, ℕ, List, Option, Some, Ok, refl, sym, subst}
use Rattle.rpki_der.specs.declared.mode.Mode.{Mode}
use Rattle.rpki_der.specs.Captured.{Kept}
use Rattle.rpki_der.specs.Form.Made.{with_octets}
use Rattle.rpki_der.specs.Form.Parts.{sequence_at}
use Rattle.rpki_der.specs.Grammar.{IsBytes}
use Rattle.rpki_der.specs.Read.Parse.{Parser, optional}
use Rattle.rpki_der.specs.Read.Reads.{Reads}
use Rattle.rpki_der.specs.Read.State.{State}
use Rattle.rpki_der.specs.Tags.{SEQUENCE}
use Rattle.rpki_der.proofs.Form.Words.{keep, option}
use Rattle.rpki_der.proofs.Reading.Calls.{reads-ok}
use Rattle.std.specs.Prelude.{option_map}
use Rattle.rpki_crls.specs.Crl.{Contents, KeptContents, IsKept, contents_at, list_of}
use Rattle.rpki_crls.proofs.Crls.Exact.{ContentsForm, contents-part}

-- what stands in a list, and its octets
abbrev seen : KeptContents × Kept → Contents × List ℕ
seen k = (k.0.contents, k.1.octets)

abbrev kept_at : Parser (Contents × List ℕ)
kept_at = with_octets (sequence_at contents_at)

-- what was read is kept
pub kept : (old : State) (x : KeptContents) (k : Kept) (new : State) → IsBytes old.rest
    → Reads seen kept_at old (Ok (x, k)) new → k.mode ≡ old.mode
    → IsKept (record { list = list_of (x.contents, k.octets); mode = k.mode })
kept old x k new bytes h m =
    let r = reads-ok seen kept_at old (x, k) new h in
    let f = ((keep contents-part).exact old.mode).sound old.rest (x.contents, k.octets) new.rest
    bytes r.found in
    let here : IsKept (record { list = list_of (x.contents, k.octets); mode = old.mode }) =
    (refl, subst (λ (t : List ℕ). ContentsForm old.mode t x.contents) (sym f.2.1) f.2.0) in
    subst (λ (t : Mode). IsKept (record { list = list_of (x.contents, k.octets); mode = t }))
    (sym m) here

-- what may be there, and its octets
abbrev seen_option : Option KeptContents × Kept → Option Contents × List ℕ
seen_option k = (option_map (λ (c : KeptContents). c.contents) k.0, k.1.octets)

abbrev option_at : Parser (Option Contents × List ℕ)
option_at = with_octets (optional SEQUENCE (sequence_at contents_at))

-- what was read where a list may be there is kept
pub kept-there : (old : State) (x : KeptContents) (k : Kept) (new : State) → IsBytes old.rest
    → Reads seen_option option_at old (Ok (Some x, k)) new → k.mode ≡ old.mode
    → IsKept (record { list = list_of (x.contents, k.octets); mode = k.mode })
kept-there old x k new bytes h m =
    let r = reads-ok seen_option option_at old (Some x, k) new h in
    let f = ((keep (option SEQUENCE contents-part)).exact old.mode).sound old.rest
    (Some x.contents, k.octets) new.rest bytes r.found in
    let here : IsKept (record { list = list_of (x.contents, k.octets); mode = old.mode }) =
    (refl, subst (λ (t : List ℕ). ContentsForm old.mode t x.contents) (sym f.2.1) f.2.0) in
    subst (λ (t : Mode). IsKept (record { list = list_of (x.contents, k.octets); mode = t }))
    (sym m) here
