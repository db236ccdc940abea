-- A chain of issuers is the only one, and no longer than there are carried CAs.
use Rattle.std.proofs.Common.{◌≡◌, ℕ, suc, ◌+◌, ◌≤◌, List, [], ◌∷◌, ◌++◌, length, map, Some}
use Rattle.std.proofs.Common.{refl, sym, ap, ◌∙◌, subst, inl, inr, ◌⊎◌}
use Rattle.std.proofs.Common.{arith}
use Rattle.std.proofs.lemmas.Option.{same_Some}
use Rattle.rpki_paths.specs.Cert.{Cert, IsIn, NoTwice}
use Rattle.rpki_paths.specs.Path.{IsIssuedBy, IsOff, IsChain, HasNoIssuer, EndsAtTop, IsPath}
use Rattle.rpki_paths.specs.Path.{IsDistinct}

-- ---- the issuer is the only one

pub in-map : (cas : List Cert) (d : Cert) (k : List ℕ) → IsIn d cas → k ≡ d.ski
    → IsIn k (map (λ c. c.ski) cas)
in-map [] d k i e = absurd i
in-map (c ∷ cas) d k i e =
    elim i [ inl f ↦ inl (e ∙ ap (λ (x : Cert). x.ski) f) | inr j ↦ inr (in-map cas d k j e) ]

pub same-by-ski : (cas : List Cert) (d d' : Cert) → NoTwice (map (λ c. c.ski) cas) → IsIn d cas
    → IsIn d' cas → d.ski ≡ d'.ski → d ≡ d'
same-by-ski [] d d' nt i i' e = absurd i
same-by-ski (c ∷ cas) d d' nt (inl f) (inl f') e = f ∙ sym f'
same-by-ski (c ∷ cas) d d' nt (inl f) (inr j') e =
    absurd (nt.0 (in-map cas d' (c.ski) j' (ap (λ (x : Cert). x.ski) (sym f) ∙ e)))
same-by-ski (c ∷ cas) d d' nt (inr j) (inl f') e =
    absurd (nt.0 (in-map cas d (c.ski) j (ap (λ (x : Cert). x.ski) (sym f') ∙ sym e)))
same-by-ski (c ∷ cas) d d' nt (inr j) (inr j') e = same-by-ski cas d d' nt.1 j j' e

pub same-issuer : (cas : List Cert) (c d d' : Cert) → IsDistinct cas → IsIn d cas → IsIn d' cas
    → c.aki ≡ Some (d.ski) → c.aki ≡ Some (d'.ski) → d ≡ d'
same-issuer cas c d d' dist i i' e e' = same-by-ski cas d d' dist i i' (same_Some _ _ (sym e ∙ e'))

top-has-none : (cas : List Cert) (c d : Cert) → HasNoIssuer cas c → IsIssuedBy cas c d → ⊥
top-has-none cas c d top is = is.not_self_signed (top d is.carried is.names_issuer)

-- ---- what stands above a certificate of a chain

-- a chain ends with its end-entity certificate
chain-end : (cas : List Cert) (ee : Cert) (q : List Cert) → IsChain cas ee q
    → (r : List Cert) × (q ≡ r ++ ee ∷ [])
chain-end cas ee [] h = absurd h
chain-end cas ee (c ∷ []) h = ([], ap (λ x. x ∷ []) h)
chain-end cas ee (d ∷ (c ∷ q)) h = let t = chain-end cas ee (c ∷ q) h.2 in
    (d ∷ t.0, ap (λ x. d ∷ x) t.1)

-- nothing, or its issuer
above : (cas : List Cert) (ee : Cert) (r : List Cert) (c : Cert) (p : List Cert)
    → IsChain cas ee (r ++ c ∷ p)
    → (r ≡ []) ⊎ ((d : Cert) × (r' : List Cert) × IsIssuedBy cas c d × IsOff d (c ∷ p)
    × (r ++ c ∷ p ≡ r' ++ d ∷ (c ∷ p)))
above cas ee [] c p h = inl refl
above cas ee (x ∷ []) c p h = inr (x, [], h.0, h.1, refl)
above cas ee (x ∷ (y ∷ r)) c p h =
    elim (above cas ee (y ∷ r) c p h.2) [
      | inl e ↦ inl (absurd cc)
      | inr t ↦ inr (t.0, x ∷ t.1, t.2, t.3, ap (λ z. x ∷ z) t.4)
    ]

-- Each complete path goes through each chain of issuers: the next certificate is determined, up to
-- the top.
pub path-extends : (cas : List Cert) (ee : Cert) (p q : List Cert) → IsDistinct cas
    → IsChain cas ee p → IsPath cas ee q → (r : List Cert) × (q ≡ r ++ p)
path-extends cas ee [] q dist h path = absurd h
path-extends cas ee (c ∷ []) q dist h path =
    let t = chain-end cas ee q path.chain in (t.0, t.1 ∙ ap (λ x. t.0 ++ x ∷ []) (sym h))
path-extends cas ee (d ∷ (c ∷ p)) q dist h path =
    let t = path-extends cas ee (c ∷ p) q dist h.2 path in
    elim (above cas ee t.0 c p (subst (λ x. IsChain cas ee x) t.1 path.chain)) [
      | inl e ↦ absurd (top-has-none cas c d
          (subst (λ x. EndsAtTop cas x) (t.1 ∙ ap (λ x. x ++ c ∷ p) e) path.top) h.0)
      | inr u ↦ (
        u.1,
        t.1 ∙ u.4
            ∙ ap (λ x. u.1 ++ x ∷ (c ∷ p))
            (same-issuer cas c u.0 d dist u.2.carried h.0.carried
            u.2.names_issuer h.0.names_issuer),
      )
    ]

-- what a complete path has above a chain: nothing, or the issuer of its head
pub path-above : (cas : List Cert) (ee c : Cert) (p q : List Cert) → IsDistinct cas
    → IsChain cas ee (c ∷ p) → IsPath cas ee q
    → ((q ≡ c ∷ p) × HasNoIssuer cas c)
    ⊎ ((d : Cert) × (r : List Cert) × IsIssuedBy cas c d × IsOff d (c ∷ p) × (q ≡ r ++ d ∷ (c ∷ p)))
path-above cas ee c p q dist h path =
    let t = path-extends cas ee (c ∷ p) q dist h path in
    elim (above cas ee t.0 c p (subst (λ x. IsChain cas ee x) t.1 path.chain)) [
      | inl e ↦ (let same : q ≡ c ∷ p = t.1 ∙ ap (λ x. x ++ c ∷ p) e in
          inl (same, subst (λ x. EndsAtTop cas x) same path.top))
      | inr u ↦ inr (u.0, u.1, u.2, u.3, t.1 ∙ u.4)
    ]

pub unique : (cas : List Cert) (ee : Cert) (p q : List Cert) → IsDistinct cas → IsPath cas ee p
    → IsPath cas ee q → p ≡ q
unique cas ee [] q dist hp hq = absurd hp.chain
unique cas ee (c ∷ p) q dist hp hq =
    elim (path-above cas ee c p q dist hp.chain hq) [
      | inl e ↦ sym e.0
      | inr u ↦ absurd (top-has-none cas c u.0 hp.top u.2)
    ]

-- ---- the length of a chain

issuers : List Cert → List Cert
issuers [] = []
issuers (c ∷ []) = []
issuers (d ∷ (c ∷ p)) = d ∷ issuers (c ∷ p)

length-issuers : (p : List Cert) → length p ≤ 1 + length (issuers p)
unfolding issuers
length-issuers [] = omega arith
length-issuers (c ∷ []) = omega arith
length-issuers (d ∷ (c ∷ p)) = omega (arith, length-issuers (c ∷ p))

off-not-in : (d : Cert) (p : List Cert) → IsOff d p → IsIn d (issuers p) → ⊥
unfolding issuers
off-not-in d [] o i = i
off-not-in d (c ∷ []) o i = i
off-not-in d (b ∷ (c ∷ p)) o (inl e) = o.0 (ap (λ (x : Cert). x.place) e)
off-not-in d (b ∷ (c ∷ p)) o (inr j) = off-not-in d (c ∷ p) o.1 j

issuers-no-twice : (cas : List Cert) (ee : Cert) (p : List Cert) → IsChain cas ee p
    → NoTwice (issuers p)
unfolding issuers
issuers-no-twice cas ee [] h = tt
issuers-no-twice cas ee (c ∷ []) h = tt
issuers-no-twice cas ee (d ∷ (c ∷ p)) h =
    (off-not-in d (c ∷ p) h.1, issuers-no-twice cas ee (c ∷ p) h.2)

issuers-carried : (cas : List Cert) (ee : Cert) (p : List Cert) (x : Cert) → IsChain cas ee p
    → IsIn x (issuers p) → IsIn x cas
unfolding issuers
issuers-carried cas ee [] x h i = absurd i
issuers-carried cas ee (c ∷ []) x h i = absurd i
issuers-carried cas ee (d ∷ (c ∷ p)) x h (inl e) = subst (λ y. IsIn y cas) (sym e) h.0.carried
issuers-carried cas ee (d ∷ (c ∷ p)) x h (inr j) = issuers-carried cas ee (c ∷ p) x h.2 j

-- a list without one element
without : {A : Type 0} (x : A) (ys : List A) → IsIn x ys
    → (zs : List A) × (length ys ≡ suc (length zs))
    × ((z : A) → IsIn z ys → (z ≡ x → ⊥) → IsIn z zs)
without x [] i = absurd i
without x (y ∷ ys) (inl e) =
    (ys, refl, λ z j ne. elim j [ inl f ↦ absurd (ne (f ∙ sym e)) | inr k ↦ k ])
without x (y ∷ ys) (inr i) =
    let t = without x ys i in
    (y ∷ t.0, ap suc t.1, λ z j ne. elim j [ inl f ↦ inl f | inr k ↦ inr (t.2 z k ne) ])

pub length-no-twice : {A : Type 0} (xs ys : List A) → NoTwice xs → ((x : A) → IsIn x xs → IsIn x ys)
    → length xs ≤ length ys
length-no-twice [] ys nt sub = omega arith
length-no-twice {A} (x ∷ xs) ys nt sub =
    let t = without x ys (sub x (inl refl)) in
    let rest : (z : A) → IsIn z xs
    → IsIn z t.0 = λ z i. t.2 z (sub z (inr i)) (λ e. nt.0 (subst (λ y. IsIn y xs) e i)) in
    omega (arith, length-no-twice xs t.0 nt.1 rest, t.1)

pub short : (cas : List Cert) (ee : Cert) (p : List Cert) → IsChain cas ee p
    → length p ≤ 1 + length cas
short cas ee p h =
    omega (
      arith,
      length-issuers p,
      length-no-twice (issuers p) cas (issuers-no-twice cas ee p h)
          (λ x i. issuers-carried cas ee p x h i),
    )
