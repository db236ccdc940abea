-- With distinct identifiers the paths, and what they are granted, do not depend on the choice.
use Rattle.std.proofs.Common.{◌≡◌, ℕ, suc, Bool, true, false, List, [], ◌∷◌, map, refl}
use Rattle.std.proofs.Common.{sym, ap}
use Rattle.std.proofs.Common.{◌∙◌, subst, inl, inr}
use Rattle.std.proofs.lemmas.Bool.{or_cases, or_left, or_right, false≢true}
use Rattle.rpki_faults.specs.declared.family.Family.{Family}
use Rattle.rpki_paths.specs.Cert.{Cert, Numbers, IsIn, NoTwice, at_place}
use Rattle.rpki_paths.specs.Path.{IsPath, IsLinkCovered, IsDistinct}
use Rattle.rpki_paths.specs.Anchor.{Supply, IsAnchored, path_set}
use Rattle.rpki_paths.specs.Pairing.{IsPairing, Crl, Carried, HasDistinctIds}
use Rattle.rpki_paths.specs.Pairing.{IsVerifiedBy, HasCrl}
use Rattle.rpki_paths.specs.Grant.{with_crls, authorities, ArePaths, AreUsed, HasPaths}
use Rattle.rpki_paths.specs.Grant.{AreAnchored, union_of, IsEarned}
use Rattle.rpki_paths.specs.Laws.{PathsAreThose, AcceptanceIsDecided, GrantIsDecided}
use Rattle.rpki_paths.specs.Laws.{UnanchoredIsRefused}
use Rattle.rpki_paths.proofs.Chains.{unique}
use Rattle.rpki_paths.proofs.Pairings.{all-partners, partners-in}
use Rattle.rpki_paths.proofs.Matches.{crls_are_unique}

pub same-skis : (k : ℕ) (cas : List Cert) (crls ys : List Crl) → IsPairing HasCrl cas crls ys
    → map (λ c. c.ski) (with_crls k cas crls) ≡ map (λ (c : Cert). c.ski) cas
same-skis k [] [] ys h = refl
same-skis k [] (l ∷ crls) ys h = absurd h
same-skis k (d ∷ cas) [] ys h = absurd h
same-skis k (d ∷ cas) (l ∷ crls) ys h =
    ap (λ m. d.ski ∷ m) (same-skis (suc k) cas crls h.1.0 h.1.2)

pub path-at : (cas ees : List Cert) (paths : List (List Cert)) → ArePaths cas ees paths → (e : Cert)
    → IsIn e ees → (p : List Cert) × IsIn p paths × IsPath cas (at_place 0 e) p × IsLinkCovered p
path-at cas [] paths h e i = absurd i
path-at cas (x ∷ ees) [] h e i = absurd h
path-at cas (x ∷ ees) (p ∷ paths) h e (inl f) =
    (p, inl refl, subst (λ z. IsPath cas (at_place 0 z) p) (sym f) h.0, h.1)
path-at cas (x ∷ ees) (p ∷ paths) h e (inr i) = let t = path-at cas ees paths h.2 e i in
    (t.0, inr t.1, t.2, t.3)

ee-at : (cas ees : List Cert) (paths : List (List Cert)) → ArePaths cas ees paths → (p : List Cert)
    → IsIn p paths → (e : Cert) × IsIn e ees × IsPath cas (at_place 0 e) p
ee-at cas [] [] h p i = absurd i
ee-at cas [] (q ∷ paths) h p i = absurd h
ee-at cas (x ∷ ees) [] h p i = absurd h
ee-at cas (x ∷ ees) (q ∷ paths) h p (inl f) =
    (x, inl refl, subst (λ z. IsPath cas (at_place 0 x) z) (sym f) h.0)
ee-at cas (x ∷ ees) (q ∷ paths) h p (inr i) = let t = ee-at cas ees paths h.2 p i in
    (t.0, inr t.1, t.2)

same-authorities : (a : Carried) (paths paths' : List (List Cert)) → HasDistinctIds a
    → (one : HasPaths a paths) (other : HasPaths a paths')
    → authorities a one.crls ≡ authorities a other.crls
same-authorities a paths paths' dist one other =
    ap (authorities a)
    (crls_are_unique a one.ees other.ees one.crls other.crls dist one.matching other.matching)

authorities-apart : (a : Carried) (paths : List (List Cert)) → HasDistinctIds a
    → (one : HasPaths a paths) → IsDistinct (authorities a one.crls)
authorities-apart a paths dist one =
    subst (λ l. NoTwice l) (sym (same-skis 1 a.cas one.crls a.crls one.matching.crl_of))
    dist.of_cas

pub paths_are_those : PathsAreThose
paths_are_those a paths paths' dist one other p i =
    let cas = authorities a other.crls in
    let mine = ee-at cas one.ees paths
    (subst (λ l. ArePaths l one.ees paths) (same-authorities a paths paths' dist one other)
    one.stand) p i in
    let theirs : IsIn mine.0 other.ees =
    all-partners IsVerifiedBy a.signers other.ees a.ees other.matching.signed mine.0
    (partners-in IsVerifiedBy a.signers one.ees a.ees one.matching.signed mine.0 mine.1) in
    let path = path-at cas other.ees paths' other.stand mine.0 theirs in
    subst (λ z. IsIn z paths')
    (unique cas (at_place 0 mine.0) path.0 p (authorities-apart a paths' dist other) path.2 mine.2)
    path.1

-- the CAs that stand on paths stand on those of every choice
used-alike : (a : Carried) (paths paths' : List (List Cert)) → HasDistinctIds a
    → (one : HasPaths a paths) (other : HasPaths a paths') → AreUsed (authorities a one.crls) paths
    → AreUsed (authorities a other.crls) paths'
used-alike a paths paths' dist one other used d i =
    let t = used d (subst (λ l. IsIn d l)
    (sym (same-authorities a paths paths' dist one other)) i) in
    (t.0, paths_are_those a paths paths' dist one other t.0 t.1, t.2)

pub acceptance_is_decided : AcceptanceIsDecided
acceptance_is_decided a paths found dist = (
  λ t. (t.1.valid, used-alike a t.0 paths dist t.1.found found t.1.used),
  λ h. (paths, record { valid = h.0; found = found; used = h.1 }),
)

pub same-anchor : (p : List Cert) (supplies : List Supply) (s t : Supply) → IsAnchored p supplies s
    → IsAnchored p supplies t → s ≡ t
same-anchor [] supplies s t h k = absurd h
same-anchor (head ∷ p) [] s t h k = absurd h
same-anchor (head ∷ p) (u ∷ supplies) s t (inl h) (inl k) = h.2 ∙ sym k.2
same-anchor (head ∷ p) (u ∷ supplies) s t (inl h) (inr k) = absurd (k.0 h.0)
same-anchor (head ∷ p) (u ∷ supplies) s t (inr h) (inl k) = absurd (h.0 k.0)
same-anchor (head ∷ p) (u ∷ supplies) s t (inr h) (inr k) =
    same-anchor (head ∷ p) supplies s t h.1 k.1

union-from : (paths : List (List Cert)) (supplies anchors : List Supply) (f : Family) (n : ℕ)
    → AreAnchored paths supplies anchors → union_of paths anchors f n ≡ true →
    (p : List Cert) × (s : Supply) × IsIn p paths × IsAnchored p supplies s
    × (path_set p s f n ≡ true)
union-from [] supplies anchors f n h e = absurd (false≢true e)
union-from (p ∷ paths) supplies [] f n h e = absurd h
union-from (p ∷ paths) supplies (s ∷ anchors) f n h e =
    elim (or_cases (path_set p s f n) (union_of paths anchors f n) e) [
      | inl g ↦ (p, s, inl refl, h.0, g)
      | inr g ↦ (let t = union-from paths supplies anchors f n h.1 g in
          (t.0, t.1, inr t.2, t.3, t.4))
    ]

from-union : (paths : List (List Cert)) (supplies anchors : List Supply) (f : Family) (n : ℕ)
    → AreAnchored paths supplies anchors →
    (p : List Cert) (s : Supply) → IsIn p paths → IsAnchored p supplies s → path_set p s f n ≡ true
    → union_of paths anchors f n ≡ true
from-union [] supplies anchors f n h p s i k e = absurd i
from-union (q ∷ paths) supplies [] f n h p s i k e = absurd h
from-union (q ∷ paths) supplies (t ∷ anchors) f n h p s (inl g) k e =
    let same : s ≡ t = same-anchor q supplies s t (subst (λ z. IsAnchored z supplies s) g k) h.0 in
    or_left (path_set q t f n) (union_of paths anchors f n)
    (subst (λ z. path_set q z f n ≡ true) same (subst (λ z. path_set z s f n ≡ true) g e))
from-union (q ∷ paths) supplies (t ∷ anchors) f n h p s (inr i) k e =
    or_right (path_set q t f n) (union_of paths anchors f n)
    (from-union paths supplies anchors f n h.1 p s i k e)

same-bool : (a b : Bool) → (a ≡ true → b ≡ true) → (b ≡ true → a ≡ true) → a ≡ b
same-bool true b h k = sym (h refl)
same-bool false true h k = k refl
same-bool false false h k = refl

-- each of these paths has an anchor
anchor-at : (paths : List (List Cert)) (supplies anchors : List Supply)
    → AreAnchored paths supplies anchors → (p : List Cert) → IsIn p paths
    → (s : Supply) × IsAnchored p supplies s
anchor-at [] supplies anchors h p i = absurd i
anchor-at (q ∷ paths) supplies [] h p i = absurd h
anchor-at (q ∷ paths) supplies (s ∷ anchors) h p (inl e) =
    (s, subst (λ z. IsAnchored z supplies s) (sym e) h.0)
anchor-at (q ∷ paths) supplies (s ∷ anchors) h p (inr i) = anchor-at paths supplies anchors h.1 p i

all-anchored : (paths : List (List Cert)) (supplies : List Supply)
    → ((p : List Cert) → IsIn p paths → (s : Supply) × IsAnchored p supplies s)
    → (anchors : List Supply) × AreAnchored paths supplies anchors
all-anchored [] supplies h = ([], tt)
all-anchored (p ∷ paths) supplies h =
    let mine = h p (inl refl) in
    let rest = all-anchored paths supplies (λ q i. h q (inr i)) in
    (mine.0 ∷ rest.0, (mine.1, rest.1))

-- the same paths, in another order or more than once, stand for the same numbers
earned-alike : (paths paths' : List (List Cert)) (supplies : List Supply)
    (attested : Family → Numbers)
    → ((p : List Cert) → IsIn p paths → IsIn p paths')
    → ((p : List Cert) → IsIn p paths' → IsIn p paths)
    → IsEarned paths supplies attested → IsEarned paths' supplies attested
earned-alike paths paths' supplies attested to from e =
    let all = all-anchored paths' supplies
    (λ p i. anchor-at paths supplies e.anchors e.anchored p (from p i)) in
    record {
      anchors = all.0;
      anchored = all.1;
      equal = λ f n. e.equal f n
          ∙ same-bool (union_of paths e.anchors f n) (union_of paths' all.0 f n)
          (λ h. (let u = union-from paths supplies e.anchors f n e.anchored h in
          from-union paths' supplies all.0 f n all.1 u.0 u.1 (to u.0 u.2) u.3 u.4))
          (λ h. (let u = union-from paths' supplies all.0 f n all.1 h in
          from-union paths supplies e.anchors f n e.anchored u.0 u.1 (from u.0 u.2) u.3 u.4));
    }

pub grant_is_decided : GrantIsDecided
grant_is_decided a paths supplies attested dist acc = (
  λ g. earned-alike g.paths paths supplies attested
      (paths_are_those a g.paths paths dist g.accepted.found acc.found)
      (paths_are_those a paths g.paths dist acc.found g.accepted.found) g.earned,
  λ e. record { paths = paths; accepted = acc; earned = e },
)

pub unanchored_is_refused : UnanchoredIsRefused
unanchored_is_refused a paths p supplies attested dist found i none g =
    let t = anchor-at g.paths supplies g.earned.anchors g.earned.anchored p
    (paths_are_those a paths g.paths dist found g.accepted.found p i) in
    none t.0 t.1
