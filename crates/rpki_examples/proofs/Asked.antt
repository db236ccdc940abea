-- What a list of good signatures says of one.
use Rattle.std.proofs.Common.{◌≡◌, ◌↔◌, ℕ, Bool, true, List, sym, ap, subst, ◌∙◌}
use Rattle.std.specs.Prelude.{Contains}
use Rattle.rpki_certs.specs.Verify.{Verdict}
use Rattle.rpki_verdicts.specs.Listed.{is_listed}
use Rattle.rpki_verdicts.specs.Verdicts.{AreVerdicts}
use Rattle.rpki_verdicts.proofs.Cut.{only-lines}
use Rattle.rpki_verdicts.proofs.Listed.{listed-decided}
use Rattle.rpki_verdicts.specs.Listing.{is_listable, good_lines, listing, IsAmongGood}
use Rattle.rpki_verdicts.specs.Questions.{Question}
use Rattle.rpki_examples.specs.Questions.{IsListedGood}

module _ (verdict : Verdict) (questions : List Question) where
  abbrev good : List (List ℕ)
  good = good_lines verdict questions

  -- the list can be read, and what is read are its lines
  pub good-lines : (text : List ℕ) → text ≡ listing verdict questions
      → AreVerdicts (listing verdict questions) good → AreVerdicts text good
  good-lines text e h = subst (λ (t : List ℕ). AreVerdicts t good) (sym e) h

  pub good-read : (text : List ℕ) (lines : List (List ℕ)) → text ≡ listing verdict questions
      → AreVerdicts (listing verdict questions) good → AreVerdicts text lines → lines ≡ good
  good-read text lines e h read =
      sym (only-lines text lines read).1 ∙ (only-lines text good (good-lines text e h)).1

  module _ (key message signature : List ℕ) (all : (q : Question) → Contains questions q
      → is_listable verdict q ≡ true → is_listed good q.key q.message q.signature ≡ true)
      (only : is_listed good key message signature ≡ true
      → IsAmongGood verdict questions key message signature) where
    is-good : is_listed good key message signature ≡ true
        → IsListedGood verdict questions key message signature
    is-good e = record {
      short = ((listed-decided good key message signature).0 e).short;
      among = only e;
    }

    is-listed : IsListedGood verdict questions key message signature
        → is_listed good key message signature ≡ true
    is-listed i =
        let q = i.among.question in
        let there = (listed-decided good q.key q.message q.signature).0
        (all q i.among.asked i.among.good) in
        (listed-decided good key message signature).1 (record {
          short = i.short;
          is_yes = subst (λ (line : List ℕ). Contains good line) i.among.same there.is_yes;
        })

    -- the list says yes to what is listed, and to nothing else
    pub good-answered : (lines : List (List ℕ)) (said : Bool) → lines ≡ good
        → said ≡ is_listed lines key message signature
        → (said ≡ true) ↔ IsListedGood verdict questions key message signature
    good-answered lines said same e =
        subst (λ (b : Bool). (b ≡ true) ↔ IsListedGood verdict questions key message signature)
        (sym (e ∙ ap (λ (l : List (List ℕ)). is_listed l key message signature) same))
        (is-good, is-listed)
