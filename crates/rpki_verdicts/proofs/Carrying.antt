-- A text that grows by the lines of items, one after the other.
use Rattle.std.proofs.Common.{◌≡◌, ◌<◌, ◌≤◌, ◌+◌, ◌-◌, ℕ, List, [], ◌∷◌, ◌++◌, map, take, get_or}
use Rattle.std.proofs.Common.{length, refl, sym, ap, subst, ◌∙◌, append_assoc, arith, zero, suc}
use Rattle.std.proofs.Common.{drop, Bor, Vec, Global, Ok}
use Rattle.std.proofs.lemmas.Grind.{flat_map-append}
use Rattle.std.proofs.lemmas.List.{append-nil, map-append, take_more, take_all, take_rest}
use Rattle.std.specs.List.{flat_map}
use Rattle.rpki_der.specs.declared.error.DecodeError.{DecodeError}
use Rattle.rpki_der.specs.declared.error.DecodeError.TheVariants.{Malformed, Content, Memory}
use Rattle.rpki_der.specs.Read.Reads.{Refuses}
use Rattle.rpki_certs.specs.Cert.{Certificate, KeptCertificate}
use Rattle.rpki_certs.specs.Verify.{Verdict}
use Rattle.rpki_verdicts.specs.Attested.{AreChains, AreNotAllChains, IsRtaListingOf, PushesChains}
use Rattle.rpki_verdicts.specs.Attested.{PushesRta, PushesSupplied, certificates, object_questions}
use Rattle.rpki_verdicts.specs.Attested.{octets_of_chains, supplied_by, supplied_questions}
use Rattle.rpki_verdicts.specs.Listing.{good_line, listing}
use Rattle.rpki_verdicts.specs.Lists.{AreCerts, AreNotAllCerts, PushesCerts, chain_lines}
use Rattle.rpki_verdicts.specs.Questions.{Question}

-- The text has the lines of the items up to a place, after what it had.
abbrev pub IsGrownTo : {Y X : Type 0} → Verdict → (X → List Question) → (Y → X) → List Y → ℕ
    → List ℕ → List ℕ → Type 0
IsGrownTo verdict f v items place old text =
    text ≡ old ++ listing verdict (flat_map f (map v (take place items)))

lines-more : {X : Type 0} (verdict : Verdict) (f : X → List Question) (xs : List X) (x : X)
    → listing verdict (flat_map f (xs ++ x ∷ []))
    ≡ listing verdict (flat_map f xs) ++ listing verdict (f x)
lines-more verdict f xs x =
    ap (listing verdict) (flat_map-append f xs (x ∷ [])
    ∙ ap (λ (qs : List Question). flat_map f xs ++ qs) (append-nil (f x)))
    ∙ flat_map-append (good_line verdict) (flat_map f xs) (f x)

-- one item more
pub one-grown : {Y X : Type 0} (verdict : Verdict) (f : X → List Question) (v : Y → X)
    (items : List Y) (place : ℕ) (y : Y) (old text new : List ℕ) → place < length items
    → y ≡ get_or items place y → IsGrownTo verdict f v items place old text
    → new ≡ text ++ listing verdict (f (v y))
    → IsGrownTo verdict f v items (place + 1) old new
one-grown {Y} {X} verdict f v items place y old text new there is grown added =
    let xs = map v (take place items) in
    added
    ∙ ap (λ (t : List ℕ). t ++ listing verdict (f (v y))) grown
    ∙ append_assoc old (listing verdict (flat_map f xs)) (listing verdict (f (v y)))
    ∙ ap (λ (t : List ℕ). old ++ t)
    (sym (lines-more verdict f xs (v y)))
    ∙ ap (λ (ys : List X). old ++ listing verdict (flat_map f ys))
    (sym (map-append v (take place items) (y ∷ [])))
    ∙ ap (λ (ys : List Y). old ++ listing verdict (flat_map f (map v ys)))
    (ap (λ (z : Y). take place items ++ z ∷ []) is
    ∙ sym (take_more items place y there))

-- ---- chains

are-more : (files : List (List (List ℕ))) (certs : List (List Certificate)) (file : List (List ℕ))
    (cert : List Certificate) → AreChains files certs → AreCerts file cert
    → AreChains (files ++ file ∷ []) (certs ++ cert ∷ [])
are-more [] [] file cert are one = (one, tt)
are-more [] (c ∷ certs) file cert are one = absurd are
are-more (f ∷ files) [] file cert are one = absurd are
are-more (f ∷ files) (c ∷ certs) file cert are one =
    (are.0, are-more files certs file cert are.1 one)

-- The text has the lines of the chains up to a place, after what it had, and these are supplied.
pub record ArePushedTo (verdict : Verdict) (chains : List (Bor (List (List ℕ)))) (place : ℕ)
    (old text : List ℕ) (supplied : List KeptCertificate) : Type 0 where
  pub certs : List (List Certificate)
  pub are : AreChains (octets_of_chains (take place chains)) certs
  pub has : certificates supplied ≡ flat_map supplied_by certs
  pub grown : text ≡ old ++ listing verdict (flat_map supplied_questions certs)

pub none-pushed : (verdict : Verdict) (chains : List (Bor (List (List ℕ)))) (old : List ℕ)
    → ArePushedTo verdict chains 0 old old []
none-pushed verdict chains old = record {
  certs = [];
  are = tt;
  has = refl;
  grown = sym (append-nil old);
}

module _ (verdict : Verdict) (chains : List (Bor (List (List ℕ)))) (place : ℕ)
    (old text : List ℕ) (supplied : List KeptCertificate)
    (is : ArePushedTo verdict chains place old text supplied) (chain : Bor (List (List ℕ)))
    (there : place < length chains) (at : chain ≡ get_or chains place chain) where
  pub chain-pushed : (new : List ℕ) (has : List KeptCertificate)
      → PushesSupplied verdict chain.now text supplied (Ok tt) new has
      → ArePushedTo verdict chains (place + 1) old new has
  chain-pushed new has h = record {
    certs = is.certs ++ h.0 ∷ [];
    are = subst (λ (cs : List (Bor (List (List ℕ)))). AreChains (octets_of_chains cs)
        (is.certs ++ h.0 ∷ []))
        (ap (λ (z : Bor (List (List ℕ))). take place chains ++ z ∷ []) at
        ∙ sym (take_more chains place chain there))
        (subst (λ (fs : List (List (List ℕ))). AreChains fs (is.certs ++ h.0 ∷ []))
        (sym (map-append (λ (c : Bor (List (List ℕ))). c.now) (take place chains)
        (chain ∷ [])))
        (are-more (octets_of_chains (take place chains)) is.certs chain.now h.0 is.are
        h.1));
    has = h.2
        ∙ ap (λ (cs : List Certificate). cs ++ supplied_by h.0) is.has
        ∙ sym (flat_map-append supplied_by is.certs (h.0 ∷ [])
        ∙ ap (λ (cs : List Certificate). flat_map supplied_by is.certs ++ cs)
        (append-nil (supplied_by h.0)));
    grown = h.3
        ∙ ap (λ (t : List ℕ). t ++ listing verdict (supplied_questions h.0)) is.grown
        ∙ append_assoc old (listing verdict (flat_map supplied_questions is.certs))
        (listing verdict (supplied_questions h.0))
        ∙ ap (λ (t : List ℕ). old ++ t)
        (sym (lines-more verdict supplied_questions is.certs h.0));
  }

  not-all : (all : List (Bor (List (List ℕ)))) (n : ℕ) → n < length all
      → chain ≡ get_or all n chain → AreNotAllCerts chain.now
      → AreNotAllChains (octets_of_chains all)
  not-all [] n l e none certs are = absurd (omega (arith, l))
  not-all (x ∷ all) n l e none [] are = absurd are
  not-all (x ∷ all) zero l e none (c ∷ certs) are =
      none c (subst (λ (z : Bor (List (List ℕ))). AreCerts z.now c) (sym e) are.0)
  not-all (x ∷ all) (suc n) l e none (c ∷ certs) are =
      not-all all n (omega (arith, l)) e none certs are.1

  pub chain-refused : (e : DecodeError) → Refuses e (AreNotAllCerts chain.now)
      → Refuses e (AreNotAllChains (octets_of_chains chains))
  chain-refused Memory none = tt
  chain-refused Malformed none = not-all chains place there at none
  chain-refused (Content fault) none = not-all chains place there at none

pub all-pushed : (verdict : Verdict) (chains : List (Bor (List (List ℕ)))) (place : ℕ)
    (old text : List ℕ) (supplied : Vec KeptCertificate Global)
    → ArePushedTo verdict chains place old text supplied.items → (place < length chains → ⊥)
    → PushesChains verdict (octets_of_chains chains) old (Ok supplied) text
all-pushed verdict chains place old text supplied is l = (
  is.certs,
  subst (λ (cs : List (Bor (List (List ℕ)))). AreChains (octets_of_chains cs) is.certs)
      (take_all place chains (omega (arith, l))) is.are,
  is.has,
  is.grown,
)

-- what a chain of some certificates adds
pub chain-supplies : (verdict : Verdict) (anchor : List ℕ) (others : List (List ℕ))
    (old new : List ℕ) (last : KeptCertificate) (had has : List KeptCertificate)
    → PushesCerts verdict anchor others old (Ok last) new → has ≡ had ++ last ∷ []
    → PushesSupplied verdict (anchor ∷ others) old had (Ok tt) new has
chain-supplies verdict anchor others old new last had has h e = (
  h.0 ∷ h.1,
  h.2,
  ap certificates e
      ∙ map-append (λ (c : KeptCertificate). c.certificate) had (last ∷ [])
      ∙ ap (λ (c : Certificate). certificates had ++ c ∷ []) (sym h.4),
  sym (append-nil new)
      ∙ sym (h.3 [])
      ∙ ap (λ (cs : List Certificate). old ++ chain_lines verdict h.0.tbs.key (h.0 ∷ cs))
      (append-nil h.1),
)

-- ---- the whole

-- what is said of the chains and then of the attestation
pub rta-listed : (verdict : Verdict) (object : List ℕ) (chains : List (List (List ℕ)))
    (supplied : Vec KeptCertificate Global) (text new : List ℕ)
    → PushesChains verdict chains [] (Ok supplied) text
    → PushesRta verdict (certificates supplied.items) object text (Ok tt) new
    → IsRtaListingOf verdict object chains new
rta-listed verdict object chains supplied text new h k = record {
  supplied = h.0;
  rta = k.0;
  certs = h.1;
  front = k.1;
  whole = k.2
      ∙ ap (λ (t : List ℕ). t ++ listing verdict
      (object_questions (certificates supplied.items) k.0.signed)) h.3
      ∙ sym (flat_map-append (good_line verdict) (flat_map supplied_questions h.0)
      (object_questions (certificates supplied.items) k.0.signed))
      ∙ ap (λ (cs : List Certificate). listing verdict
      (flat_map supplied_questions h.0 ++ object_questions cs k.0.signed)) h.2;
}

-- ---- by their places

-- the files are the first and those after it
pub first-cut : (files : List (List ℕ)) (a : List ℕ) → 1 ≤ length files
    → a ≡ get_or files 0 a
    → files ≡ a ∷ take (length files - 1) (drop 1 files)
first-cut [] a l e = absurd (omega (arith, l))
first-cut (x ∷ rest) a l e =
    ap (λ (z : List ℕ). z ∷ drop 1 (x ∷ rest)) (sym e)
    ∙ ap (λ (fs : List (List ℕ)). a ∷ fs) (sym (take_rest (x ∷ rest) 1))
