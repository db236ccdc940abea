-- Lists of good signatures as lists of verdicts.
use Rattle.std.proofs.Common.{◌≡◌, ℕ, zero, suc, ◌/◌, ◌%◌, ◌<◌, ◌^◌, Bool, true, false, ◌&&◌}
use Rattle.std.proofs.Common.{cond, List, []}
use Rattle.std.proofs.Common.{◌∷◌, ◌++◌, length, refl, sym, ap, subst, ◌∙◌, arith, inl, inr}
use Rattle.std.specs.Prelude.{◌*◌, slice_index, slice_index_or, nat_lt, Contains}
use Rattle.std.specs.Int.{w32, to_be_bytes}
use Rattle.std.proofs.lemmas.Bool.{and_parts, cases_lt}
use Rattle.std.proofs.lemmas.Bool.Decides.{Decides-ltb}
use Rattle.std.proofs.lemmas.List.Elements.{All-cons, All-nil}
use Rattle.sha2.specs.Sha256.{sha256, digest_bytes, final_hash, initial_hash_256}
use Rattle.sha2.proofs.Facts256.{length-sha256}
use Rattle.hex.specs.Hex.{encode_lower, encode_with, lower_digits}
use Rattle.hex.proofs.HexLemmas.{length-encode_with}
use Rattle.rpki_der.specs.Grammar.{IsBytes}
use Rattle.rpki_der.proofs.Reading.Unique.{bytes-both}
use Rattle.rpki_basics.specs.Key.{key_contents, key_octets}
use Rattle.rpki_certs.specs.Verify.{Verdict}
use Rattle.rpki_verdicts.specs.Listed.{is_listed}
use Rattle.rpki_verdicts.specs.Verdicts.{is_lower_hex, AreDigits, IsDigestText, IsLine, AreVerdicts}
use Rattle.rpki_verdicts.specs.Verdicts.{digest_text, line_of}
use Rattle.rpki_verdicts.proofs.Listed.{listed-decided}
use Rattle.rpki_verdicts.specs.Listing.{is_listable, question_line, good_lines, listing}
use Rattle.rpki_verdicts.specs.Listing.{IsAmongGood}
use Rattle.rpki_verdicts.specs.Questions.{Question}

-- ---- digests as texts

bytes-word : (x : ℕ) → IsBytes (to_be_bytes w32 x)
bytes-word x = (omega arith, (omega arith, (omega arith, (omega arith, tt))))

bytes-digest : (h : List ℕ) (n : ℕ) → IsBytes (digest_bytes h n)
unfolding digest_bytes
bytes-digest h zero = tt
bytes-digest h (suc n) =
    bytes-both (digest_bytes h n) (to_be_bytes w32 (slice_index h n)) (bytes-digest h n)
    (bytes-word (slice_index h n))

bytes-sha256 : (m : List ℕ) → IsBytes (sha256 m)
unfolding sha256
bytes-sha256 m = bytes-digest (final_hash initial_hash_256 m) 8

-- whether the first digits are lower ones
abbrev are_lower : ℕ → Bool
are_lower zero = true
are_lower (suc n) = is_lower_hex (slice_index lower_digits n) && are_lower n

lower-at : (n k : ℕ) → are_lower n ≡ true → k < n → is_lower_hex (slice_index lower_digits k) ≡ true
lower-at zero k h l = absurd (omega (arith, l))
lower-at (suc n) k h l =
    let parts = and_parts (is_lower_hex (slice_index lower_digits n)) (are_lower n) h in
    elim (cases_lt k n) [
      | inl below ↦ lower-at n k parts.1 below
      | inr top ↦
          let e : k ≡ n = omega (arith, l, top) in
          rw e parts.0
    ]

digits-lower : (octets : List ℕ) → IsBytes octets → AreDigits (encode_lower octets)
unfolding encode_with
digits-lower [] h = All-nil (λ c. is_lower_hex c ≡ true)
digits-lower (octet ∷ octets) h =
    let below : octet < 256 = h.0 in
    All-cons (λ c. is_lower_hex c ≡ true) (slice_index lower_digits (octet / 16))
    (slice_index lower_digits (octet % 16) ∷ encode_lower octets)
    (lower-at 16 (octet / 16) refl (omega (arith, below)))
    (All-cons (λ c. is_lower_hex c ≡ true) (slice_index lower_digits (octet % 16))
    (encode_lower octets) (lower-at 16 (octet % 16) refl (omega arith)) (digits-lower octets h.1))

is-digest : (octets : List ℕ) → IsDigestText (digest_text octets)
is-digest octets = record {
  long = length-encode_with lower_digits (sha256 octets)
      ∙ ap (λ (n : ℕ). 2 * n) (length-sha256 octets);
  digits = digits-lower (sha256 octets) (bytes-sha256 octets);
}

is-line : (q : Question) → IsLine (question_line q)
is-line q = record {
  key = digest_text (key_octets q.key);
  message = digest_text q.message;
  signature = digest_text q.signature;
  whole = refl;
  is_key = is-digest (key_octets q.key);
  is_message = is-digest q.message;
  is_signature = is-digest q.signature;
}

-- ---- lists

module _ (verdict : Verdict) where
  abbrev Lines : List Question → Type 0
  Lines questions = AreVerdicts (listing verdict questions) (good_lines verdict questions)

  next-lines : (q : Question) (questions : List Question) (good : Bool) → Lines questions
      → AreVerdicts (cond good (question_line q) [] ++ listing verdict questions)
      (cond good (question_line q ∷ good_lines verdict questions) (good_lines verdict questions))
  next-lines q questions true h = record {
    whole = ap (λ (t : List ℕ). question_line q ++ t) h.whole;
    each = All-cons IsLine (question_line q) (good_lines verdict questions) (is-line q) h.each;
  }
  next-lines q questions false h = h

  pub all-lines : (questions : List Question) → Lines questions
  all-lines [] = record { whole = refl; each = All-nil IsLine }
  all-lines (q ∷ questions) = next-lines q questions (is_listable verdict q) (all-lines questions)

  -- a line is that of a question whose answer is yes
  pub record IsGoodLine (questions : List Question) (line : List ℕ) : Type 0 where
    pub question : Question
    pub asked : Contains questions question
    pub good : is_listable verdict question ≡ true
    pub same : question_line question ≡ line

  later : (q : Question) (questions : List Question) (line : List ℕ)
      → IsGoodLine questions line → IsGoodLine (q ∷ questions) line
  later q questions line h = record {
    question = h.question;
    asked = (suc h.asked.0, omega (arith, h.asked.1), h.asked.2);
    good = h.good;
    same = h.same;
  }

  found-in : (q : Question) (questions : List Question) (line : List ℕ) (good : Bool) (k : ℕ)
      → is_listable verdict q ≡ good
      → k < length (cond good (question_line q ∷ good_lines verdict questions)
      (good_lines verdict questions))
      → slice_index_or (cond good (question_line q ∷ good_lines verdict questions)
      (good_lines verdict questions)) k line ≡ line
      → (Contains (good_lines verdict questions) line → IsGoodLine questions line)
      → IsGoodLine (q ∷ questions) line
  found-in q questions line true zero e l s others = record {
    question = q;
    asked = (zero, omega arith, refl);
    good = e;
    same = s;
  }
  found-in q questions line true (suc k) e l s others =
      later q questions line (others (k, omega (arith, l), s))
  found-in q questions line false k e l s others = later q questions line (others (k, l, s))

  found : (questions : List Question) (line : List ℕ)
      → Contains (good_lines verdict questions) line → IsGoodLine questions line
  found [] line h = absurd (omega (arith, h.1))
  found (q ∷ questions) line h =
      found-in q questions line (is_listable verdict q) h.0 refl h.1 h.2 (found questions line)

  pub only-good : (questions : List Question) (key message signature : List ℕ)
      → is_listed (good_lines verdict questions) key message signature ≡ true
      → IsAmongGood verdict questions key message signature
  only-good questions key message signature e =
      let listed = (listed-decided (good_lines verdict questions) key message signature).0 e in
      let h = found questions
      (line_of (digest_text (key_octets key)) (digest_text message) (digest_text signature))
      listed.is_yes in
      record { question = h.question; asked = h.asked; good = h.good; same = h.same }

  here : (p q : Question) (questions : List Question) (good : Bool) → good ≡ true → p ≡ q
      → Contains (cond good (question_line p ∷ good_lines verdict questions)
      (good_lines verdict questions)) (question_line q)
  here p q questions true e s = (zero, omega arith, ap question_line s)
  here p q questions false e s = absurd cc

  after : (p : Question) (questions : List Question) (line : List ℕ) (good : Bool)
      → Contains (good_lines verdict questions) line
      → Contains (cond good (question_line p ∷ good_lines verdict questions)
      (good_lines verdict questions)) line
  after p questions line true h = (suc h.0, omega (arith, h.1), h.2)
  after p questions line false h = h

  member : (questions : List Question) (q : Question) (k : ℕ) → k < length questions
      → slice_index_or questions k q ≡ q → is_listable verdict q ≡ true
      → Contains (good_lines verdict questions) (question_line q)
  member [] q k l s g = absurd (omega (arith, l))
  member (p ∷ questions) q zero l s g =
      here p q questions (is_listable verdict p)
      (subst (λ (x : Question). is_listable verdict x ≡ true) (sym s) g) s
  member (p ∷ questions) q (suc k) l s g =
      after p questions (question_line q) (is_listable verdict p)
      (member questions q k (omega (arith, l)) s g)

  pub each-good : (questions : List Question) (q : Question) → Contains questions q
      → is_listable verdict q ≡ true
      → is_listed (good_lines verdict questions) q.key q.message q.signature ≡ true
  each-good questions q h g =
      let parts = and_parts (verdict q.key q.message q.signature)
      (nat_lt (length (key_contents q.key)) (2 ^ 32)) g in
      (listed-decided (good_lines verdict questions) q.key q.message q.signature).1 (record {
        short = (Decides-ltb (length (key_contents q.key)) (2 ^ 32)).0 parts.1;
        is_yes = member questions q h.0 h.1 h.2 g;
      })
