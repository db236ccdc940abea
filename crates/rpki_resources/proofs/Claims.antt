-- Claims are read exactly.
use Rattle.std.proofs.Common.{◌≡◌, ℕ, List, ◌++◌, Option, None, Some, Bool, true, false}
use Rattle.std.proofs.Common.{inl, inr, refl}
use Rattle.std.specs.Prelude.{if◌then◌else◌}
use Rattle.std.proofs.lemmas.List.{append-nil}
use Rattle.rpki_der.specs.declared.mode.Mode.{Mode}
use Rattle.rpki_der.specs.Tags.{SEQUENCE, NULL}
use Rattle.rpki_der.specs.Read.Parse.{Parser, ◌>>=◌, primitive, null_of, is_next}
use Rattle.rpki_der.specs.Grammar.{Null}
use Rattle.rpki_der.specs.Read.Exact.{IsReading}
use Rattle.rpki_der.proofs.Reading.Unique.{IsOneValue}
use Rattle.rpki_der.specs.Form.Law.{TagSet, nothing, is, or, has, IsPart, AreParts}
use Rattle.rpki_der.specs.Form.Made.{made}
use Rattle.rpki_der.specs.Tags.{context}
use Rattle.rpki_der.proofs.Form.Fields.{field, done, within}
use Rattle.rpki_der.proofs.Form.Words.{part-as, make, choice, in-tag}
use Rattle.rpki_der.proofs.Form.Kinds.{null-part}
use Rattle.rpki_resources.specs.declared.family.AddressFamily.{AddressFamily}
use Rattle.rpki_resources.specs.declared.resources.Claim.{Claim}
use Rattle.rpki_resources.specs.declared.resources.Claim.TheVariants.{Inherit, Explicit}
use Rattle.rpki_resources.specs.Claim.Form.{ClaimForm, AsClaimForm, IpClaimForm, AsIdentifiersForm}
use Rattle.rpki_resources.specs.Claim.Read.{claim_at, as_claim_at, ip_claim_at, as_identifiers_at}
use Rattle.rpki_resources.specs.Claim.Read.{numbers_at, no_domains_at}
use Rattle.rpki_resources.proofs.AsNumbers.Exact.{as-part}
use Rattle.rpki_resources.proofs.Addresses.Exact.{ip-part}
use Rattle.rpki_der.proofs.Reading.Unique.{part-reading}

-- NULL
inherit-part : {X : Type 0}
    → IsPart (is NULL) nothing (made {Y = Claim X} (λ _. Inherit) (primitive NULL null_of))
    (λ mode o claim. Null mode o × (claim ≡ Inherit))
inherit-part = part-as (make (λ _. Inherit) null-part)
    (λ mode o claim h. (h.1, h.2)) (λ mode o claim h. (tt, h.0, h.1))

-- NULL, or the numbers
claim-part : {X : Type 0} {p : Parser X} {G : Mode → List ℕ → X → Type 0}
    → IsPart (is SEQUENCE) nothing p G
    → IsPart (or (is NULL) (is SEQUENCE)) nothing (claim_at p) (λ mode. ClaimForm (G mode) mode)
claim-part part = choice NULL inherit-part (make Explicit part) refl

-- a claim of AS numbers
pub as-claim-part : IsPart (or (is NULL) (is SEQUENCE)) nothing as_claim_at AsClaimForm
unfolding as_claim_at
as-claim-part = claim-part as-part

-- a claim of addresses of a family
pub ip-claim-part : (family : AddressFamily)
    → IsPart (or (is NULL) (is SEQUENCE)) nothing (ip_claim_at family) (IpClaimForm family)
unfolding ip_claim_at
ip-claim-part family = claim-part (ip-part family)

-- nothing, where no value with this tag is next
abbrev unless : ℕ → Parser (Unit {0})
unless tag mode bytes = if is_next tag bytes then None else Some (tt, bytes)

-- where there was none, the octets were read as they are
unrefused : {Y : Type 0} (refused : Bool) (b : List ℕ) (f : List ℕ → Option (Y × List ℕ))
    (found : Option (Unit {0} × List ℕ)) (y : Y × List ℕ)
    → found ≡ (if refused then None else Some (tt, b)) → (found >>= λ u. f u.1) ≡ Some y
    → f b ≡ Some y
unrefused true b f found y is h = absurd (let no = rw is at h in cc)
unrefused false b f found y is h = rw is at h

-- Parts that do not begin with this tag are read as before where a value with it is refused first.
unless-next : {Y : Type 0} {first : TagSet} {q : Parser Y} {parts : Mode → Y
    → List (List ℕ → Type 0)} {Known : Y → Type 0} (tag : ℕ)
    → AreParts first q parts Known → has first tag ≡ false
    → AreParts first (λ mode b. unless tag mode b >>= λ u. q mode u.1) parts Known
unless-next {Y} {first} {q} {parts} {Known} tag all out = record {
  exact = λ mode. record {
    sound = λ b y r bytes h. (all.exact mode).sound b y r bytes
        (unrefused (is_next tag b) b (q mode) (unless tag mode b) (y, r) refl h);
    complete = λ o y r er h.
        let none : is_next tag (o ++ r) ≡ false =
        rw (er, append-nil o) (all.starts mode o y h.1 h.0 tag out) in
        rw none ((all.exact mode).complete o y r er h);
  };
  starts = all.starts;
  relaxed = all.relaxed;
}

-- the claim under [0] in a SEQUENCE
pub as-identifiers-part : IsPart (is SEQUENCE) nothing as_identifiers_at AsIdentifiersForm
unfolding numbers_at no_domains_at
as-identifiers-part = within SEQUENCE (
    unless-next (context 1) (field (λ claim. claim) (in-tag (context 0) as-claim-part) (λ claim.
    unless-next (context 1) (done claim (tt, refl) (λ c k. k.1)) refl) refl) refl)

-- each is one value

one-as : IsOneValue AsClaimForm
one-as mode o claim (inl h) = (NULL, h.0.0, h.0.1)
one-as mode o claim (inr h) = (SEQUENCE, h.1.1.0, h.1.1.1)

one-ip : (family : AddressFamily) → IsOneValue (IpClaimForm family)
one-ip family mode o claim (inl h) = (NULL, h.0.0, h.0.1)
one-ip family mode o claim (inr h) = (SEQUENCE, h.1.1.0, h.1.1.1)

pub as-claims : IsReading as_claim_at AsClaimForm
as-claims = part-reading as-claim-part one-as

pub ip-claims : (family : AddressFamily) → IsReading (ip_claim_at family) (IpClaimForm family)
ip-claims family = part-reading (ip-claim-part family) (one-ip family)

pub identifiers : IsReading as_identifiers_at AsIdentifiersForm
identifiers = part-reading as-identifiers-part (λ mode o claim h. (SEQUENCE, h.0, h.1))
