-- A CA tells one thing, where a copy finds one thing for each URI: only until when that holds, and
-- below which CA a refused point stands, depends on how it was reached.
use Rattle.std.proofs.Common.{◌≡◌, ◌⊎◌, inl, inr, ℕ, List, [], ◌∷◌, ◌++◌, All, Option, Some, Err}
use Rattle.std.proofs.Common.{map, refl, sym, subst, ap, ◌∙◌, unwrap_or}
use Rattle.std.specs.List.{AllZip}
use Rattle.std.proofs.lemmas.List.Elements.{All-nil, All-cons}
use Rattle.rpki_der.specs.declared.mode.Mode.TheVariants.{Der}
use Rattle.rpki_basics.specs.Moment.{Moment}
use Rattle.rpki_crls.specs.Crl.{RevocationList}
use Rattle.rpki_certs.specs.Cert.{Certificate}
use Rattle.rpki_certs.specs.Validate.{Validated}
use Rattle.rpki_certs.specs.declared.issuer.IssuerError.{IssuerError}
use Rattle.rpki_files.specs.Manifest.Uris.{UriAndHash, uris_of}
use Rattle.rpki_routes.specs.Aspa.{Aspa}
use Rattle.rpki_routes.specs.Aspa.Form.{AspaForm}
use Rattle.rpki_routes.specs.Aspa.Checks.{aspa_kind}
use Rattle.rpki_routes.specs.Roa.{Roa, addresses, origin_of}
use Rattle.rpki_routes.specs.Roa.Form.{RoaForm}
use Rattle.rpki_routes.specs.Roa.Checks.{roa_kind}
use Rattle.rpki_signed.specs.Check.{Checks}
use Rattle.rpki_signed.specs.declared.check.CheckError.{CheckError}
use Rattle.rpki_relying_party.specs.Found.{SaysLike}
use Rattle.rpki_relying_party.specs.Kind.{kind_of}
use Rattle.rpki_relying_party.specs.Memory.{IsCheckMemory, IsIssuerMemory}
use Rattle.rpki_relying_party.specs.Memory.{plain_check, plain_issuer}
use Rattle.rpki_relying_party.specs.Paths.{TellsOne}
use Rattle.rpki_relying_party.specs.Place.{AreAlike, key_of, part_of, set_part, uri_part}
use Rattle.rpki_relying_party.specs.Point.{Point}
use Rattle.rpki_relying_party.specs.Same.{FindsOne}
use Rattle.rpki_relying_party.specs.Setting.{Setting}
use Rattle.rpki_relying_party.specs.Tells.{HasContent, HasRoa, HasAspa, HasCa, HasEntity}
use Rattle.rpki_relying_party.specs.Tells.{NamesPrefixesAlone, WhyNoRoa, WhyNoAspa, WhyNoCa}
use Rattle.rpki_relying_party.specs.Tells.{refusal, origin_said, origins_said, provider_said}
use Rattle.rpki_relying_party.specs.Tells.{providers_said, child_of, earlier, until_of}
use Rattle.rpki_relying_party.specs.Tells.{RoaTells, AspaTells, CaTells, KindTells, FileTells}
use Rattle.rpki_relying_party.specs.Tells.{FilesTell, PointTells, NoPointTells, PlaceTells}
use Rattle.rpki_relying_party.specs.Under.{SaysOf, IsCaUnder}
use Rattle.rpki_relying_party.specs.declared.cause.Cause.{Cause}
use Rattle.rpki_relying_party.specs.declared.cause.Cause.TheVariants as causes
use Rattle.rpki_relying_party.specs.declared.found.Finding.{Finding}
use Rattle.rpki_relying_party.specs.declared.kind.ListedKind.{ListedKind}
use Rattle.rpki_relying_party.specs.declared.kind.ListedKind.TheVariants as kinds
use Rattle.rpki_relying_party.specs.declared.place.Place.{Place}
use Rattle.rpki_relying_party.proofs.Certificates.{has-no-ca}
use Rattle.rpki_relying_party.proofs.Keyed.{same-key}
use Rattle.rpki_relying_party.proofs.Meanings.{aspa-sound, roa-sound}
use Rattle.rpki_relying_party.proofs.OneChild.{one-ca, one-refusal}
use Rattle.rpki_relying_party.proofs.OneObject.{one-content, content-stays, one-error}
use Rattle.rpki_relying_party.proofs.OneObject.{list-says-one}
use Rattle.rpki_relying_party.proofs.OnePoint.{has-one, IsThere, one-folder, one-uri, names-one}
use Rattle.rpki_relying_party.proofs.OnePoint.{one-point, one-cause, point-stays}
use Rattle.rpki_relying_party.proofs.Sameness.{alike-tells}
use Rattle.rpki_relying_party.proofs.Splits.{zip-append, zip-map, zip-same, zip-weaker}

-- Findings and children of two tellings that are alike.
abbrev pub TellAlike : List Finding → List Finding → List Place → List Place → Type 0
TellAlike said said2 children children2 =
    AllZip SaysLike said said2 × AllZip AreAlike children children2

alike-nothing : (said said2 : List Finding) → said ≡ [] → said2 ≡ [] → AllZip SaysLike said said2
alike-nothing said said2 p q = zip-same SaysLike said [] said2 [] p q tt

no-children : (a b : List Place) → a ≡ [] → b ≡ [] → AllZip AreAlike a b
no-children a b p q = zip-same AreAlike a [] b [] p q tt

-- one URI that is refused twice
alike-refused : (uri under under2 : List ℕ) (a b : Cause) (said said2 : List Finding)
    → said ≡ refusal uri a under ∷ [] → said2 ≡ refusal uri b under2 ∷ [] → a ≡ b
    → AllZip SaysLike said said2
alike-refused uri under under2 a b said said2 p q e = zip-same SaysLike said
    (refusal uri a under ∷ []) said2 (refusal uri b under2 ∷ []) p q ((refl, e), tt)

-- places of one CA
pub one-place : (v w : Validated) (until until2 : Moment) (above above2 : Option (List ℕ)) → v ≡ w
    → AreAlike (record { ca = v; until = until; listed_by = above })
    (record { ca = w; until = until2; listed_by = above2 })
one-place v w until until2 above above2 e = record {
  key = ap (λ (x : Validated). x.cert.certificate.tbs.key) e;
  identifier = ap (λ (x : Validated). x.cert.certificate.tbs.extensions.key.subject_key) e;
  folder = ap (λ (x : Validated).
      x.cert.certificate.tbs.extensions.locations.subject.ca_repository) e;
  manifest = ap (λ (x : Validated).
      x.cert.certificate.tbs.extensions.locations.subject.rpki_manifest) e;
  as_numbers = ap (λ (x : Validated). x.sets.as_numbers) e;
  v4 = ap (λ (x : Validated). x.sets.v4) e;
  v6 = ap (λ (x : Validated). x.sets.v6) e;
}

module _ (s : Setting) (ca : Validated) (list : RevocationList) (octets : List ℕ) where
  -- ---- why a file is refused

  abbrev IsRefusedRoa : CheckError → Type 0
  IsRefusedRoa error = Checks roa_kind RoaForm Der s.digest s.verdict ca s.now (SaysOf list) octets
      (Err error) × (¬ IsCheckMemory error) × (plain_check error ≡ error)

  abbrev IsBadRoa : Type 0
  IsBadRoa = (cert : Certificate) × (roa : Roa)
      × HasContent s roa_kind RoaForm ca list octets cert roa
      × (¬ NamesPrefixesAlone cert.tbs.extensions.claims)

  abbrev IsRoaBy : Cause → Type 0
  IsRoaBy cause = ((error : CheckError) × (cause ≡ causes.Object error) × IsRefusedRoa error)
      ⊎ ((cause ≡ causes.RoaCertificate) × IsBadRoa)

  roa-by : (cause : Cause) → WhyNoRoa s ca list octets cause → IsRoaBy cause
  roa-by (causes.Object error) h = inl (error, refl, h)
  roa-by causes.RoaCertificate h = inr (refl, h)
  roa-by cause h = absurd h

  one-roa : (cert cert2 : Certificate) (roa roa2 : Roa)
      → HasContent s roa_kind RoaForm ca list octets cert roa
      → HasContent s roa_kind RoaForm ca list octets cert2 roa2
      → (cert ≡ cert2) × (roa ≡ roa2)
  one-roa cert cert2 roa roa2 h g =
      one-content s roa_kind RoaForm ca list octets cert cert2 roa roa2 h g

  roa-stays : (cert : Certificate) (roa : Roa)
      → HasContent s roa_kind RoaForm ca list octets cert roa → (error : CheckError)
      → IsRefusedRoa error → ⊥
  roa-stays cert roa h error r =
      content-stays s roa_kind RoaForm ca list octets roa-sound cert roa h error (r.0) (r.1)

  -- what is good is not refused
  pub roa-not-refused : (cert : Certificate) (roa : Roa) → HasRoa s ca list octets cert roa
      → (cause : Cause) → WhyNoRoa s ca list octets cause → ⊥
  roa-not-refused cert roa h (causes.Object error) r = roa-stays cert roa (h.0) error r
  roa-not-refused cert roa h causes.RoaCertificate r = r.3
      (subst (λ (c : Certificate). NamesPrefixesAlone c.tbs.extensions.claims)
      (one-roa cert (r.0) roa (r.1) (h.0) (r.2)).0 (h.1))
  roa-not-refused cert roa h cause r = r

  one-why-roa : (a b : Cause) → IsRoaBy a → IsRoaBy b → a ≡ b
  one-why-roa a b (inl h) (inl g) = h.1
      ∙ ap (λ (e : CheckError). causes.Object e) (one-error s roa_kind RoaForm ca octets roa-sound
      (SaysOf list) (list-says-one list) (h.0) (g.0) (h.2.0) (g.2.0) (h.2.1) (g.2.1) (h.2.2)
      (g.2.2))
      ∙ sym (g.1)
  one-why-roa a b (inl h) (inr g) =
      absurd (roa-stays (g.1.0) (g.1.1) (g.1.2) (h.0) (h.2))
  one-why-roa a b (inr h) (inl g) =
      absurd (roa-stays (h.1.0) (h.1.1) (h.1.2) (g.0) (g.2))
  one-why-roa a b (inr h) (inr g) = h.0 ∙ sym (g.0)

  abbrev IsAspaBy : Cause → Type 0
  IsAspaBy cause = (error : CheckError) × (cause ≡ causes.Object error)
      × Checks aspa_kind (AspaForm s.providers) Der s.digest s.verdict ca s.now (SaysOf list)
      octets (Err error) × (¬ IsCheckMemory error) × (plain_check error ≡ error)

  aspa-by : (cause : Cause) → WhyNoAspa s ca list octets cause → IsAspaBy cause
  aspa-by (causes.Object error) h = (error, refl, h.0, h.1, h.2)
  aspa-by cause h = absurd h

  pub aspa-not-refused : (cert : Certificate) (aspa : Aspa) → HasAspa s ca list octets cert aspa
      → (cause : Cause) → WhyNoAspa s ca list octets cause → ⊥
  aspa-not-refused cert aspa h (causes.Object error) r = content-stays s aspa_kind
      (AspaForm s.providers) ca list octets aspa-sound cert aspa h error (r.0) (r.1)
  aspa-not-refused cert aspa h cause r = r

  one-why-aspa : (a b : Cause) → IsAspaBy a → IsAspaBy b → a ≡ b
  one-why-aspa a b h g = h.1
      ∙ ap (λ (e : CheckError). causes.Object e) (one-error s aspa_kind (AspaForm s.providers) ca
      octets aspa-sound (SaysOf list) (list-says-one list) (h.0) (g.0) (h.2) (g.2) (h.3) (g.3)
      (h.4) (g.4))
      ∙ sym (g.1)

  abbrev IsCaBy : Cause → Type 0
  IsCaBy cause = (error : IssuerError) × (cause ≡ causes.Certificate error)
      × IsCaUnder s.verdict s.now ca list octets (Err error) × (¬ IsIssuerMemory error)
      × (plain_issuer error ≡ error) × (¬ HasEntity octets)

  ca-by : (cause : Cause) → WhyNoCa s ca list octets cause → IsCaBy cause
  ca-by (causes.Certificate error) h = (error, refl, h.0, h.1, h.2, h.3)
  ca-by cause h = absurd h

  pub ca-not-refused : (v : Validated) → HasCa s ca list octets v → (cause : Cause)
      → WhyNoCa s ca list octets cause → ⊥
  ca-not-refused v h (causes.Certificate error) r =
      has-no-ca s ca list octets error (r.0) (r.1) v h
  ca-not-refused v h cause r = r

  one-why-ca : (a b : Cause) → IsCaBy a → IsCaBy b → a ≡ b
  one-why-ca a b h g = h.1
      ∙ ap (λ (e : IssuerError). causes.Certificate e)
      (one-refusal s ca list octets (h.0) (g.0) (h.2) (g.2) (h.3) (g.3) (h.4) (g.4))
      ∙ sym (g.1)

  -- ---- what a file tells

  module _ (until until2 : Moment) (under uri : List ℕ) (said said2 : List Finding) where
    same-origins : (t t2 : Moment) (roa roa2 : Roa) → roa ≡ roa2
        → AllZip SaysLike (origins_said t uri roa) (origins_said t2 uri roa2)
    same-origins t t2 roa roa2 e =
        subst (λ (r : Roa). AllZip SaysLike (origins_said t uri roa) (origins_said t2 uri r)) e
        (zip-map SaysLike (origin_said t uri) (origin_said t2 uri) (λ a. (refl, refl))
        (map (origin_of roa.as_id) (addresses roa)))

    same-providers : (t t2 : Moment) (aspa aspa2 : Aspa) → aspa ≡ aspa2
        → AllZip SaysLike (providers_said t uri aspa) (providers_said t2 uri aspa2)
    same-providers t t2 aspa aspa2 e =
        subst (λ (a : Aspa). AllZip SaysLike (providers_said t uri aspa) (providers_said t2 uri a))
        e (zip-map SaysLike (provider_said t uri aspa.customer)
        (provider_said t2 uri aspa.customer) (λ a. (refl, refl)) aspa.providers)

    roa-tells : RoaTells s ca list until under uri octets said
        → RoaTells s ca list until2 under uri octets said2 → AllZip SaysLike said said2
    roa-tells (inl h) (inl g) =
        let t = earlier until h.0.tbs.validity.not_after in
        let t2 = earlier until2 g.0.tbs.validity.not_after in
        zip-same SaysLike said (origins_said t uri (h.1)) said2 (origins_said t2 uri (g.1)) (h.3)
        (g.3) (same-origins t t2 (h.1) (g.1)
        (one-roa (h.0) (g.0) (h.1) (g.1) (h.2.0) (g.2.0)).1)
    roa-tells (inl h) (inr g) = absurd (roa-not-refused (h.0) (h.1) (h.2) (g.0) (g.1))
    roa-tells (inr h) (inl g) = absurd (roa-not-refused (g.0) (g.1) (g.2) (h.0) (h.1))
    roa-tells (inr h) (inr g) = alike-refused uri under under (h.0) (g.0) said said2 (h.2) (g.2)
        (one-why-roa (h.0) (g.0) (roa-by (h.0) (h.1)) (roa-by (g.0) (g.1)))

    aspa-tells : AspaTells s ca list until under uri octets said
        → AspaTells s ca list until2 under uri octets said2 → AllZip SaysLike said said2
    aspa-tells (inl h) (inl g) =
        let t = earlier until h.0.tbs.validity.not_after in
        let t2 = earlier until2 g.0.tbs.validity.not_after in
        zip-same SaysLike said (providers_said t uri (h.1)) said2 (providers_said t2 uri (g.1))
        (h.3) (g.3) (same-providers t t2 (h.1) (g.1)
        (one-content s aspa_kind (AspaForm s.providers) ca list octets (h.0) (g.0) (h.1) (g.1)
        (h.2) (g.2)).1)
    aspa-tells (inl h) (inr g) = absurd (aspa-not-refused (h.0) (h.1) (h.2) (g.0) (g.1))
    aspa-tells (inr h) (inl g) = absurd (aspa-not-refused (g.0) (g.1) (g.2) (h.0) (h.1))
    aspa-tells (inr h) (inr g) = alike-refused uri under under (h.0) (g.0) said said2 (h.2) (g.2)
        (one-why-aspa (h.0) (g.0) (aspa-by (h.0) (h.1)) (aspa-by (g.0) (g.1)))

    module _ (children children2 : List Place) where
      ca-tells : CaTells s ca list until under uri octets said children
          → CaTells s ca list until2 under uri octets said2 children2
          → TellAlike said said2 children children2
      ca-tells (inl h) (inl g) = (
        alike-nothing said said2 (h.2) (g.2),
        zip-same AreAlike children (child_of until under (h.0) ∷ []) children2
            (child_of until2 under (g.0) ∷ []) (h.3) (g.3) (
              one-place (h.0) (g.0) (earlier until h.0.cert.certificate.tbs.validity.not_after)
                  (earlier until2 g.0.cert.certificate.tbs.validity.not_after) (Some under)
                  (Some under) (one-ca s ca list octets (h.0) (g.0) (h.1) (g.1)),
              tt,
            ),
      )
      ca-tells (inl h) (inr (inl g)) = absurd (g.0 (h.0) (h.1))
      ca-tells (inl h) (inr (inr g)) = absurd (ca-not-refused (h.0) (h.1) (g.0) (g.1))
      ca-tells (inr (inl h)) (inl g) = absurd (h.0 (g.0) (g.1))
      ca-tells (inr (inl h)) (inr (inl g)) =
          (alike-nothing said said2 (h.2) (g.2), no-children children children2 (h.3) (g.3))
      ca-tells (inr (inl h)) (inr (inr g)) = absurd ((ca-by (g.0) (g.1)).5 (h.1))
      ca-tells (inr (inr h)) (inl g) = absurd (ca-not-refused (g.0) (g.1) (h.0) (h.1))
      ca-tells (inr (inr h)) (inr (inl g)) = absurd ((ca-by (h.0) (h.1)).5 (g.1))
      ca-tells (inr (inr h)) (inr (inr g)) = (
        alike-refused uri under under (h.0) (g.0) said said2 (h.2) (g.2)
            (one-why-ca (h.0) (g.0) (ca-by (h.0) (h.1)) (ca-by (g.0) (g.1))),
        no-children children children2 (h.3) (g.3),
      )

      pub kind-tells : (kind : ListedKind)
          → KindTells s ca list until under uri octets kind said children
          → KindTells s ca list until2 under uri octets kind said2 children2
          → TellAlike said said2 children children2
      kind-tells kinds.Roa h g =
          (roa-tells (h.0) (g.0), no-children children children2 (h.1) (g.1))
      kind-tells kinds.Aspa h g =
          (aspa-tells (h.0) (g.0), no-children children children2 (h.1) (g.1))
      kind-tells kinds.Ca h g = ca-tells h g
      kind-tells kinds.Other h g =
          (alike-nothing said said2 (h.0) (g.0), no-children children children2 (h.1) (g.1))

module _ (s : Setting) (one : FindsOne s) (ca : Validated) where
  -- ---- files

  module _ (list_uri : List ℕ) (list : RevocationList) (until until2 : Moment)
      (under : List ℕ) where
    file-tells : (file : UriAndHash) (said said2 : List Finding) (children children2 : List Place)
        → FileTells s ca list_uri list until under file said children
        → FileTells s ca list_uri list until2 under file said2 children2
        → TellAlike said said2 children children2
    file-tells file said said2 children children2 (inl h) (inl g) =
        (alike-nothing said said2 (h.1) (g.1), no-children children children2 (h.2) (g.2))
    file-tells file said said2 children children2 (inl h) (inr g) = absurd (g.0 (h.0))
    file-tells file said said2 children children2 (inr h) (inl g) = absurd (h.0 (g.0))
    file-tells file said said2 children children2 (inr h) (inr g) =
        kind-tells s ca list (h.1.0) until until2 under (file.0) said said2 children children2
        (kind_of (file.0)) (h.1.2)
        (subst (λ (o : List ℕ). KindTells s ca list until2 under (file.0) o (kind_of (file.0))
        said2 children2) (has-one s one file (g.1.0) (h.1.0) (g.1.1) (h.1.1)) (g.1.2))

    files-tell : (files : List UriAndHash) (said said2 : List Finding)
        (children children2 : List Place)
        → FilesTell s ca list_uri list until under files said children
        → FilesTell s ca list_uri list until2 under files said2 children2
        → TellAlike said said2 children children2
    files-tell [] said said2 children children2 h g =
        (alike-nothing said said2 (h.0) (g.0), no-children children children2 (h.1) (g.1))
    files-tell (file ∷ files) said said2 children children2 h g =
        let first = file-tells file h.0.said g.0.said h.0.children g.0.children (h.2) (g.2) in
        let others = files-tell files h.1.said g.1.said h.1.children g.1.children (h.3) (g.3) in (
          zip-same SaysLike said (h.0.said ++ h.1.said) said2 (g.0.said ++ g.1.said) (h.4) (g.4)
              (zip-append SaysLike h.0.said g.0.said h.1.said g.1.said (first.0) (others.0)),
          zip-same AreAlike children (h.0.children ++ h.1.children) children2
              (g.0.children ++ g.1.children) (h.5) (g.5)
              (zip-append AreAlike h.0.children g.0.children h.1.children g.1.children (first.1)
              (others.1)),
        )

    is-there : (file : UriAndHash) (said : List Finding) (children : List Place)
        → FileTells s ca list_uri list until under file said children
        → IsThere s one list_uri file
    is-there file said children (inl h) = inl (h.0)
    is-there file said children (inr h) = inr (h.1.0, h.1.1)

    -- each file that tells something is there
    are-there : (files : List UriAndHash) (said : List Finding) (children : List Place)
        → FilesTell s ca list_uri list until under files said children
        → All (IsThere s one list_uri) files
    are-there [] said children h = All-nil (IsThere s one list_uri)
    are-there (file ∷ files) said children h = All-cons (IsThere s one list_uri) file files
        (is-there file h.0.said h.0.children (h.2))
        (are-there files h.1.said h.1.children (h.3))

  -- ---- the point

  module _ (until until2 : Moment) (above above2 : Option (List ℕ)) where
    abbrev place : Place
    place = record { ca = ca; until = until; listed_by = above }

    abbrev place2 : Place
    place2 = record { ca = ca; until = until2; listed_by = above2 }

    module _ (said said2 : List Finding) (children children2 : List Place) where
      module _ (folder uri : List ℕ) where
        point-tells : PointTells s place folder uri said children
            → PointTells s place2 folder uri said2 children2
            → TellAlike said said2 children children2
        point-tells h g =
            let same : g.0 ≡ h.0 = one-point s one ca folder uri (g.0) (h.0) (g.1) (h.1) in
            files-tell h.0.list_uri h.0.list (until_of until (h.0)) (until_of until2 (h.0)) uri
            (uris_of folder h.0.manifest.files) said said2 children children2 (h.2)
            (subst (λ (p : Point). FilesTell s ca p.list_uri p.list (until_of until2 p) uri
            (uris_of folder p.manifest.files) said2 children2) same (g.2))

        refused-tells : NoPointTells s place folder uri said
            → NoPointTells s place2 folder uri said2 → AllZip SaysLike said said2
        refused-tells h g = alike-refused uri (unwrap_or above uri) (unwrap_or above2 uri) (h.0)
            (g.0) said said2 (h.2) (g.2) (one-cause s one ca folder uri (h.0) (g.0) (h.1) (g.1))

      point-not-refused : (t : Moment) (up up2 : Option (List ℕ)) (folder uri : List ℕ)
          (x y : List Finding) (ds : List Place)
          → PointTells s (record { ca = ca; until = t; listed_by = up }) folder uri x ds
          → (t2 : Moment)
          → NoPointTells s (record { ca = ca; until = t2; listed_by = up2 }) folder uri y → ⊥
      point-not-refused t up up2 folder uri x y ds h t2 g = point-stays s one ca folder uri (h.0)
          (h.1) (are-there h.0.list_uri h.0.list (until_of t (h.0)) (until_of t (h.0)) uri
          (uris_of folder h.0.manifest.files) x ds (h.2)) (g.0) (g.1)

      named-tells : (folder uri : List ℕ)
          → PointTells s place folder uri said children
          ⊎ (NoPointTells s place folder uri said × (children ≡ []))
          → PointTells s place2 folder uri said2 children2
          ⊎ (NoPointTells s place2 folder uri said2 × (children2 ≡ []))
          → TellAlike said said2 children children2
      named-tells folder uri (inl h) (inl g) = point-tells folder uri h g
      named-tells folder uri (inl h) (inr g) = absurd (point-not-refused until above above2 folder
          uri said said2 children h until2 (g.0))
      named-tells folder uri (inr h) (inl g) = absurd (point-not-refused until2 above2 above folder
          uri said2 said children2 g until (h.0))
      named-tells folder uri (inr h) (inr g) = (
        refused-tells folder uri (h.0) (g.0),
        no-children children children2 (h.1) (g.1),
      )

      pub place-tells : PlaceTells s place said children → PlaceTells s place2 said2 children2
          → TellAlike said said2 children children2
      place-tells (inl h) (inl g) =
          (alike-nothing said said2 (h.1) (g.1), no-children children children2 (h.2) (g.2))
      place-tells (inl h) (inr g) =
          absurd (names-one s one ca (g.0) (g.1) (g.2) (g.3) (h.0))
      place-tells (inr h) (inl g) =
          absurd (names-one s one ca (h.0) (h.1) (h.2) (h.3) (g.0))
      place-tells (inr h) (inr g) = named-tells (h.0) (h.1) (h.4)
          (subst (λ (f : List ℕ). PointTells s place2 f (h.1) said2 children2
          ⊎ (NoPointTells s place2 f (h.1) said2 × (children2 ≡ [])))
          (one-folder s one ca (g.0) (h.0) (g.2) (h.2))
          (subst (λ (u : List ℕ). PointTells s place2 (g.0) u said2 children2
          ⊎ (NoPointTells s place2 (g.0) u said2 × (children2 ≡ [])))
          (one-uri s one ca (g.1) (h.1) (g.3) (h.3)) (g.4)))

-- alike places tell one thing
pub places-tell : (s : Setting) → FindsOne s → (p q : Place) (said said2 : List Finding)
    (children children2 : List Place) → AreAlike p q → PlaceTells s p said children
    → PlaceTells s q said2 children2 → TellAlike said said2 children children2
places-tell s one p q said said2 children children2 e h g =
    place-tells s one q.ca p.until q.until p.listed_by q.listed_by said said2 children children2
    (alike-tells s p q e said children h) g

-- places that are alike have one key
alike-key : (p q : Place) → AreAlike p q → key_of p ≡ key_of q
alike-key p q e = λ i.
    (part_of (e.key i) ++ (part_of (e.identifier i)
    ++ (uri_part (e.folder i) ++ uri_part (e.manifest i))))
    ++ (set_part (λ (n : ℕ). n) (e.as_numbers i) ++ (set_part (λ (n : ℕ). n) (e.v4 i)
    ++ set_part (λ (n : ℕ). n) (e.v6 i)))

-- and those with one key tell one thing
pub tells-one : (s : Setting) → FindsOne s → TellsOne (PlaceTells s) key_of SaysLike
tells-one s one p q said said2 children children2 e h g =
    let both = places-tell s one p q said said2 children children2 (same-key p q e) h g in
    (both.0, zip-weaker AreAlike (λ c d. key_of c ≡ key_of d) alike-key children children2 (both.1))
