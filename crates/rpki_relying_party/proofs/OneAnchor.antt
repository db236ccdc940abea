-- Where a copy finds one thing for each URI, a locator has one trust anchor at most.
use Rattle.std.proofs.Common.{◌≡◌, inl, inr, ℕ, List, ◌∷◌, ◌++◌, Ok, sym, subst, ap, ◌∙◌}
use Rattle.std.proofs.Common.{All, Contains, arith, length}
use Rattle.std.proofs.lemmas.List.Elements.{All-contains, Contains-append_right}
use Rattle.rpki_certs.specs.Cert.{Certificate, KeptCertificate}
use Rattle.rpki_certs.specs.Issuer.{BeginsWithCert, in_der}
use Rattle.rpki_certs.specs.Validate.{Validated, IsAnchorOf as HasClaimed}
use Rattle.rpki_tal.specs.Tal.{Locator}
use Rattle.rpki_tal.specs.Uri.{https_first}
use Rattle.rpki_relying_party.specs.Anchors.{FindsFor, LacksFor, Lacks, IsGoodFor, HasAnchor}
use Rattle.rpki_relying_party.specs.Anchors.{IsFirst, IsAnchorOf, candidates}
use Rattle.rpki_relying_party.specs.Runs.{IsStartOf, start_place}
use Rattle.rpki_relying_party.specs.Same.{FindsOne}
use Rattle.rpki_relying_party.specs.Setting.{Setting}
use Rattle.rpki_relying_party.specs.declared.copy.NoFile.{NoFile}
use Rattle.rpki_relying_party.specs.declared.place.Place.{Place}
use Rattle.rpki_relying_party.proofs.Lists.{contains-first}
use Rattle.rpki_relying_party.proofs.OneChild.{one-named, same-sets, same-validated}
use Rattle.rpki_relying_party.proofs.OnePoint.{found-one, found-none}
use Rattle.rpki_relying_party.proofs.Splits.{cuts}

-- a certificate claims one set of each family
one-claimed : (k : KeptCertificate) (v w : Validated) → HasClaimed k v → HasClaimed k w → v ≡ w
unfolding HasClaimed
one-claimed k v w h g =
    let claims = k.certificate.tbs.extensions.claims in
    same-validated v w (h.0 ∙ sym (g.0)) (same-sets v.sets w.sets
    (one-named claims.as_numbers v.sets.as_numbers w.sets.as_numbers h.1.as_numbers g.1.as_numbers)
    (one-named claims.addresses.v4 v.sets.v4 w.sets.v4 h.1.v4 g.1.v4)
    (one-named claims.addresses.v6 v.sets.v6 w.sets.v6 h.1.v6 g.1.v6))

module _ (s : Setting) (one : FindsOne s) where
  -- no file is found where one is
  lacks : (text octets : List ℕ) (why : NoFile) → FindsFor s.finds text (Ok octets)
      → LacksFor s.finds why text → ⊥
  lacks text octets why h (inl none) = found-none s one text octets why (h.0) none
  lacks text octets why h (inr huge) = omega (
    arith,
    h.1,
    huge.1.2,
    ap (λ (o : List ℕ). length o)
        (found-one s one text octets (huge.1.0) (h.0) (huge.1.1)),
  )

  module _ (key : List ℕ) where
    -- a good certificate is found, or none is
    good-lacks : (v : Validated) (text : List ℕ) → HasAnchor s key v text
        → Lacks s.finds (IsGoodFor s key) text → ⊥
    good-lacks v text h (inl none) = lacks text (h.0) (none.0) (h.1) (none.1)
    good-lacks v text h (inr other) = other.2 (subst (λ (o : List ℕ).
        BeginsWithCert o (IsGoodFor s key))
        (found-one s one text (h.0) (other.0) (h.1.0) (other.1.0)) (record {
          cert = h.2.cert;
          rest = h.2.rest;
          front = h.2.front;
          holds = h.2.holds.0;
        }))

    -- one text has one
    one-here : (v w : Validated) (text : List ℕ) → HasAnchor s key v text
        → HasAnchor s key w text → v ≡ w
    one-here v w text h g =
        let octets = found-one s one text (g.0) (h.0) (g.1.0) (h.1.0) in
        let b = subst (λ (o : List ℕ). BeginsWithCert o (λ c. HasClaimed (in_der c) w)) octets
        (record {
          cert = g.2.cert;
          rest = g.2.rest;
          front = g.2.front;
          holds = g.2.holds.1;
        }) in
        let same = (h.2.front.only b.cert b.rest b.front.found).0 in
        one-claimed (in_der h.2.cert) v w (h.2.holds.1)
        (subst (λ (c : Certificate). HasClaimed (in_der c) w) same b.holds)

    module _ (texts : List (List ℕ)) (v : Validated) where
      -- the first with a good one is not before another such first
      not-before : (h : IsFirst (HasAnchor s key v) (Lacks s.finds (IsGoodFor s key)) texts)
          (all more : List (List ℕ)) → all ≡ h.before ++ h.text ∷ more
          → All (Lacks s.finds (IsGoodFor s key)) all → ⊥
      not-before h all more e lacks = good-lacks v h.text h.here
          (All-contains (Lacks s.finds (IsGoodFor s key)) all h.text lacks
          (subst (λ (l : List (List ℕ)). Contains l h.text) (sym e)
          (Contains-append_right h.before (h.text ∷ more) h.text (contains-first h.text more))))

    one-first : (texts : List (List ℕ)) (v w : Validated)
        → IsFirst (HasAnchor s key v) (Lacks s.finds (IsGoodFor s key)) texts
        → IsFirst (HasAnchor s key w) (Lacks s.finds (IsGoodFor s key)) texts → v ≡ w
    one-first texts v w h g =
        elim (cuts h.before h.after g.before g.after h.text g.text (sym h.order ∙ g.order)) [
          | inl same ↦ one-here v w g.text
              (subst (λ (t : List ℕ). HasAnchor s key v t) (same.1) h.here) g.here
          | inr apart ↦ elim apart [
            | inl later ↦ absurd (not-before texts v h g.before (later.0) (later.1) g.others)
            | inr sooner ↦ absurd (not-before texts w g h.before (sooner.0) (sooner.1) h.others)
          ]
        ]

  module _ (tal : Locator) where
    one-anchor : (v w : Validated) → IsAnchorOf s tal v → IsAnchorOf s tal w → v ≡ w
    one-anchor v w h g =
        one-first tal.key (candidates (https_first tal.uris)) v w (h.1) (g.1)

    pub one-start : (p q : Place) → IsStartOf s tal p → IsStartOf s tal q → p ≡ q
    one-start p q h g = h.2 ∙ ap (λ (v : Validated). start_place v)
        (one-anchor (h.0) (g.0) (h.1) (g.1)) ∙ sym (g.2)
