-- What is granted under supplies is granted under others with the same numbers.
use Rattle.std.proofs.Common.{◌≡◌, ◌∙◌, ℕ, List, [], ◌∷◌, Bool, Option, Some, refl, ap, sym, subst}
use Rattle.std.proofs.Common.{inl, inr, ◌&&◌, ◌||◌, IsTrue}
use Rattle.std.specs.List.{AllZip}
use Rattle.sha2.specs.Sha256.{sha256}
use Rattle.rpki_basics.specs.Moment.{Moment}
use Rattle.rpki_resources.specs.declared.resources.Claim.TheVariants.{Explicit}
use Rattle.rpki_resources.specs.Blocks.{SameSet}
use Rattle.rpki_faults.specs.declared.family.Family.{Family}
use Rattle.rpki_faults.specs.declared.family.Family.TheVariants.{As, V4, V6}
use Rattle.rpki_faults.specs.declared.overclaim.Overclaim.{Overclaim}
use Rattle.rpki_faults.specs.declared.overclaim.Overclaim.TheVariants.{Refuse, Trim}
use Rattle.rpki_certs.specs.Cert.{KeptCertificate}
use Rattle.rpki_certs.specs.Validate.{Sets, Validated}
use Rattle.rpki_certs.specs.Verify.{Verdict}
use Rattle.rpki_multi.specs.Attestation as attested
use Rattle.rpki_paths.specs.Anchor.{Supply, Fits, Takes, IsAnchored, path_set}
use Rattle.rpki_paths.specs.Cert.{Cert, Numbers}
use Rattle.rpki_paths.specs.Grant.{AreAnchored, IsEarned, union_of}
use Rattle.rpki_paths.specs.Path.{explicit_sets}
use Rattle.rpki_paths.specs.Sets.{IsCovered, meet}
use Rattle.rpki_rta.specs.Carried.{set_of}
use Rattle.rpki_rta.specs.Granted.{IsGrantedRta}
use Rattle.rpki_command.specs.Rta.{supply_of}
use Rattle.rpki_command.specs.Same.{HaveSameNumbers, IsSameIssuer}
use Rattle.rpki_command.specs.declared.anchors.Anchor.TheVariants.{Ca}

-- Both supply the same, but that the blocks of numbers may be written in other ways.
abbrev pub IsLikeSupply : Supply → Supply → Type 0
IsLikeSupply (Supply.Tal key) (Supply.Tal other) = key ≡ other
IsLikeSupply (Supply.Tal key) (Supply.Ca ski own sets) = ⊥
IsLikeSupply (Supply.Ca ski key sets) (Supply.Tal other) = ⊥
IsLikeSupply (Supply.Ca ski key sets) (Supply.Ca id own numbers) = (ski ≡ id) × (key ≡ own)
    × ((f : Family) → SameSet (λ (n : ℕ). n) (sets f) (numbers f))

like-turned : (s t : Supply) → IsLikeSupply s t → IsLikeSupply t s
like-turned (Supply.Tal key) (Supply.Tal other) h = sym h
like-turned (Supply.Tal key) (Supply.Ca ski own sets) h = absurd h
like-turned (Supply.Ca ski key sets) (Supply.Tal other) h = absurd h
like-turned (Supply.Ca ski key sets) (Supply.Ca id own numbers) h =
    (sym h.0, sym h.1, λ f n. sym (h.2 f n))

fits-like : (head : Cert) (s t : Supply) → IsLikeSupply s t → Fits head s → Fits head t
fits-like head (Supply.Tal key) (Supply.Tal other) h fits = (fits.0, fits.1 ∙ h)
fits-like head (Supply.Tal key) (Supply.Ca ski own sets) h fits = absurd h
fits-like head (Supply.Ca ski key sets) (Supply.Tal other) h fits = absurd h
fits-like head (Supply.Ca ski key sets) (Supply.Ca id own numbers) h fits = (
  fits.0,
  fits.1 ∙ ap (λ (x : List ℕ). let o : Option (List ℕ) = Some x in o) h.0,
  subst (λ (k : List ℕ). IsTrue (head.verifies k)) h.1 fits.2,
)

covered-like : (policy : Overclaim) (below : List Numbers) (a b : Numbers)
    → SameSet (λ (n : ℕ). n) a b → IsCovered (λ (n : ℕ). n) policy below (Explicit a)
    → IsCovered (λ (n : ℕ). n) policy below (Explicit b)
covered-like Refuse [] a b same h = h
covered-like Refuse (nearest ∷ below) a b same h = λ n held. subst IsTrue (same n) (h n held)
covered-like Trim below a b same h = tt

takes-like : (p : List Cert) (s t : Supply) → IsLikeSupply s t → Takes p s → Takes p t
takes-like [] s t h takes = absurd takes
takes-like (head ∷ p) (Supply.Tal key) (Supply.Tal other) h takes = takes
takes-like (head ∷ p) (Supply.Tal key) (Supply.Ca ski own sets) h takes = absurd h
takes-like (head ∷ p) (Supply.Ca ski key sets) (Supply.Tal other) h takes = absurd h
takes-like (head ∷ p) (Supply.Ca ski key sets) (Supply.Ca id own numbers) h takes = λ f.
    covered-like head.overclaim (explicit_sets (head ∷ p) f) (sets f) (numbers f) (h.2 f) (takes f)

set-like : (p : List Cert) (s t : Supply) → IsLikeSupply s t → (f : Family) (n : ℕ)
    → path_set p s f n ≡ path_set p t f n
set-like p (Supply.Tal key) (Supply.Tal other) h f n = refl
set-like p (Supply.Tal key) (Supply.Ca ski own sets) h f n = absurd h
set-like p (Supply.Ca ski key sets) (Supply.Tal other) h f n = absurd h
set-like p (Supply.Ca ski key sets) (Supply.Ca id own numbers) h f n =
    ap (λ (b : Bool). b && meet (λ (k : ℕ). k) (explicit_sets p f) n) (h.2 f n)

anchored-like : (p : List Cert) (xs ys : List Supply) → AllZip IsLikeSupply xs ys → (s : Supply)
    → IsAnchored p xs s → (t : Supply) × IsAnchored p ys t × IsLikeSupply s t
anchored-like [] xs ys like s h = absurd h
anchored-like (head ∷ p) [] ys like s h = absurd h
anchored-like (head ∷ p) (x ∷ xs) [] like s h = absurd like
anchored-like (head ∷ p) (x ∷ xs) (y ∷ ys) like s (inl h) = (
  y,
  inl (fits-like head x y like.0 h.0, takes-like (head ∷ p) x y like.0 h.1, refl),
  subst (λ (z : Supply). IsLikeSupply z y) (sym h.2) like.0,
)
anchored-like (head ∷ p) (x ∷ xs) (y ∷ ys) like s (inr h) =
    let more = anchored-like (head ∷ p) xs ys like.1 s h.1 in (
      more.0,
      inr ((λ fits. h.0 (fits-like head y x (like-turned x y like.0) fits)), more.1),
      more.2,
    )

each-anchored : (paths : List (List Cert)) (xs ys : List Supply) → AllZip IsLikeSupply xs ys
    → (anchors : List Supply) → AreAnchored paths xs anchors
    → (others : List Supply) × AreAnchored paths ys others × AllZip IsLikeSupply anchors others
each-anchored [] xs ys like [] h = ([], tt, tt)
each-anchored [] xs ys like (s ∷ anchors) h = absurd h
each-anchored (p ∷ paths) xs ys like [] h = absurd h
each-anchored (p ∷ paths) xs ys like (s ∷ anchors) h =
    let first = anchored-like p xs ys like s h.0 in
    let more = each-anchored paths xs ys like anchors h.1 in
    (first.0 ∷ more.0, (first.1, more.1), (first.2, more.2))

union-like : (paths : List (List Cert)) (xs ys : List Supply) → AllZip IsLikeSupply xs ys
    → (f : Family) (n : ℕ) → union_of paths xs f n ≡ union_of paths ys f n
union-like [] xs ys like f n = refl
union-like (p ∷ paths) [] [] like f n = refl
union-like (p ∷ paths) [] (y ∷ ys) like f n = absurd like
union-like (p ∷ paths) (x ∷ xs) [] like f n = absurd like
union-like (p ∷ paths) (x ∷ xs) (y ∷ ys) like f n =
    ap (λ (b : Bool). b || union_of paths xs f n) (set-like p x y like.0 f n)
    ∙ ap (λ (b : Bool). path_set p y f n || b) (union-like paths xs ys like.1 f n)

earned-like : (paths : List (List Cert)) (xs ys : List Supply) (sets : Family → Numbers)
    → AllZip IsLikeSupply xs ys → IsEarned paths xs sets → IsEarned paths ys sets
earned-like paths xs ys sets like h =
    let other = each-anchored paths xs ys like h.anchors h.anchored in
    record {
      anchors = other.0;
      anchored = other.1;
      equal = λ f n. h.equal f n ∙ union-like paths h.anchors other.0 other.2 f n;
    }

-- ---- the supply of an issuer

families-same : (a b : Sets) → HaveSameNumbers a b → (f : Family)
    → SameSet (λ (n : ℕ). n) (set_of a f) (set_of b f)
families-same a b h As = h.as_numbers
families-same a b h V4 = h.v4
families-same a b h V6 = h.v6

pub issuer-like : (v w : Validated) → IsSameIssuer v w
    → IsLikeSupply (supply_of (Ca v)) (supply_of (Ca w))
issuer-like v w same = (
  ap (λ (k : KeptCertificate). k.certificate.tbs.extensions.key.subject_key) same.cert,
  ap (λ (k : KeptCertificate). k.certificate.tbs.key) same.cert,
  families-same v.sets w.sets same.numbers,
)

-- an attestation that is granted under supplies is granted under others that are like them
pub granted-like : (verdict : Verdict) (now : Moment) (r : attested.Whole) (xs ys : List Supply)
    → AllZip IsLikeSupply xs ys → IsGrantedRta sha256 verdict now r xs
    → IsGrantedRta sha256 verdict now r ys
granted-like verdict now r xs ys like h = record {
  valid = h.valid;
  granted = record {
    paths = h.granted.paths;
    accepted = h.granted.accepted;
    earned = earned-like h.granted.paths xs ys _ like h.granted.earned;
  };
}
