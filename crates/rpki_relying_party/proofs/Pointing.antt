-- The publication point of a place is read step by step.
use Rattle.std.proofs.Common.{◌≡◌, ◌<◌, ◌≤◌, ◌-◌, inl, inr, ℕ, List, [], ◌∷◌, ◌++◌}
use Rattle.std.proofs.Common.{Result, Ok, Err, unwrap_or, refl, sym, subst, ap, ◌∙◌, arith}
use Rattle.std.specs.Prelude.{IfOk}
use Rattle.std.specs.declared.alloc.AllocError.{AllocError}
use Rattle.rpki_basics.specs.Moment.{Moment}
use Rattle.rpki_crls.specs.Crl.{RevocationList}
use Rattle.rpki_certs.specs.Cert.{Certificate}
use Rattle.rpki_certs.specs.Validate.{Validated}
use Rattle.rpki_files.specs.Manifest.{Manifest}
use Rattle.rpki_files.specs.Manifest.Uris.{UriAndHash, uris_of}
use Rattle.rpki_relying_party.specs.Costs.{ReadCosts, ListCosts, ListStarts, FilesCost}
use Rattle.rpki_relying_party.specs.Costs.{ManifestStarts, RefusedCosts}
use Rattle.rpki_relying_party.specs.Costs.{FilesLost, FilesStart, ListedCosts, ListedStarts}
use Rattle.rpki_relying_party.specs.Costs.{PointCosts, PointStarts, PlaceCosts, PlaceExceeds}
use Rattle.rpki_relying_party.specs.Costs.{opening_cost}
use Rattle.rpki_relying_party.specs.Lacks.{WhyNoManifestOf, WhyNoList, WhyNoFiles, WhyNoPoint}
use Rattle.rpki_relying_party.specs.Outcome.{Spends, IsOutcome, AppendsBoth}
use Rattle.rpki_relying_party.specs.Point.{Point, IsManifestAt, IsListAt, PublishesIn}
use Rattle.rpki_relying_party.specs.Point.{NamesManifest}
use Rattle.rpki_relying_party.specs.Reading.{GoodTells, IsRefusedPlace, IsPointReading}
use Rattle.rpki_relying_party.specs.Reading.{TellsNothing}
use Rattle.rpki_relying_party.specs.Setting.{Setting}
use Rattle.rpki_relying_party.specs.Steps.{IsTelling}
use Rattle.rpki_relying_party.specs.Tells.{FilesTell, PointTells, PlaceTells, NamesNoPoint}
use Rattle.rpki_relying_party.specs.Tells.{until_of}
use Rattle.rpki_relying_party.specs.declared.cause.Cause.{Cause}
use Rattle.rpki_relying_party.specs.declared.cause.Stop.{Stop}
use Rattle.rpki_relying_party.specs.declared.found.Finding.{Finding}
use Rattle.rpki_relying_party.specs.declared.found.Finding.TheVariants as findings
use Rattle.rpki_relying_party.specs.declared.found.Refusal.{Refusal}
use Rattle.rpki_relying_party.specs.declared.place.Place.{Place}
use Rattle.rpki_relying_party.specs.declared.places.Told.{Told}
use Rattle.rpki_relying_party.specs.declared.point.PointReading.{PointReading}
use Rattle.rpki_relying_party.specs.declared.point.PointReading.TheVariants as readings
use Rattle.rpki_relying_party.proofs.Outcomes.{outcome-stops, outcome-then}
use Rattle.rpki_relying_party.proofs.Putting.{put-as}

-- what was put to nothing is all
pub put-to-none : {X Y : Type 0} (P : List X → List Y → Type 0) (old new : List X)
    (old2 new2 : List Y) → old ≡ [] → old2 ≡ [] → AppendsBoth P old new old2 new2 → P new new2
put-to-none {X} {Y} P old new old2 new2 e e2 h =
    subst (λ (l : List X). P l new2)
    (sym (h.appends ∙ ap (λ (l : List X). l ++ h.put) e))
    (subst (λ (l : List Y). P h.put l)
    (sym (h.appends2 ∙ ap (λ (l : List Y). l ++ h.put2) e2)) h.holds)

-- a read costs something
read-some : (s : Setting) (uri : List ℕ) (n : ℕ) → ReadCosts s opening_cost uri n → 0 < n
read-some s uri n (Ok octets, f, e) = omega (arith, e)
read-some s uri n (Err why, f, e) = omega (arith, e)

-- and so does a point
point-some : (s : Setting) (ca : Validated) (folder uri : List ℕ) (n : ℕ)
    → PointCosts s ca folder uri n → 0 < n
point-some s ca folder uri n (inl h) =
    omega (arith, read-some s uri (h.2.0) (h.2.1), h.2.2)
point-some s ca folder uri n (inr h) = omega (arith, read-some s uri (h.2) (h.5), h.7)

module _ (s : Setting) (place : Place) (folder uri : List ℕ) where
  module _ (signer : Certificate) (manifest : Manifest)
      (is_at : IsManifestAt s place.ca folder uri signer manifest) where
    -- there is no revocation list
    pub no-list : {T U : Type 0} (Yes : T → ℕ → Type 0) (Yes2 : U → ℕ → Type 0) (old new : ℕ)
        (stop : Stop) → IsOutcome (ListStarts s folder signer manifest) Yes
        (λ cause n. WhyNoList s place.ca folder signer manifest cause
        × ListCosts s folder signer manifest n) old new (Err stop)
        → IsOutcome (ListedStarts s place.ca folder uri signer manifest) Yes2
        (λ cause n. WhyNoPoint s place.ca folder uri cause
        × ListedCosts s place.ca folder uri signer manifest n) old new (Err stop)
    no-list Yes Yes2 old new stop h =
        outcome-stops {A = ListStarts s folder signer manifest}
        (ListedStarts s place.ca folder uri signer manifest) (λ n c. inl c)
        {V = λ cause n. WhyNoList s place.ca folder signer manifest cause
        × ListCosts s folder signer manifest n}
        {W = λ cause n. WhyNoPoint s place.ca folder uri cause
        × ListedCosts s place.ca folder uri signer manifest n}
        (λ cause n w. (inr (signer, manifest, is_at, inl (w.0)), inl ((cause, w.0), w.1)))
        old new Yes Yes2 stop h

    module _ (list_uri : List ℕ) (list : RevocationList) (until : Moment)
        (ends : until ≡ until_of place.until (record {
          signer = signer;
          manifest = manifest;
          list_uri = list_uri;
          list = list;
        })) where
      -- the files of the manifest
      abbrev files : List UriAndHash
      files = uris_of folder manifest.files

      -- there is one, and the files are read
      pub files-read : (said said2 : List Finding) (children children2 : List Place)
          (old mid new : ℕ)
          → Spends (λ n. IsListAt s place.ca folder signer manifest list_uri list
          × ListCosts s folder signer manifest n) old mid
          → (r : Result (Unit {0}) Stop)
          → IsOutcome (FilesStart s place.ca list_uri list uri files)
          (λ _ n. AppendsBoth (FilesTell s place.ca list_uri list until uri files) said said2
          children children2 × FilesCost s place.ca list_uri list uri files n)
          (λ cause n. WhyNoFiles s files list_uri cause
          × FilesLost s place.ca list_uri list uri files n) mid new r
          → IsOutcome (ListedStarts s place.ca folder uri signer manifest)
          (λ _ n. AppendsBoth (PointTells s place folder uri) said said2 children children2
          × ListedCosts s place.ca folder uri signer manifest n)
          (λ cause n. WhyNoPoint s place.ca folder uri cause
          × ListedCosts s place.ca folder uri signer manifest n) old new r
      files-read said said2 children children2 old mid new first r h =
          outcome-then {F = λ n. IsListAt s place.ca folder signer manifest list_uri list
          × ListCosts s folder signer manifest n}
          {B = FilesStart s place.ca list_uri list uri files}
          (ListedStarts s place.ca folder uri signer manifest)
          (λ a b l c. inr (list_uri, list, a, b, l.0, l.1, c, refl))
          {V = λ cause n. WhyNoFiles s files list_uri cause
          × FilesLost s place.ca list_uri list uri files n}
          (λ cause n. WhyNoPoint s place.ca folder uri cause
          × ListedCosts s place.ca folder uri signer manifest n)
          (λ cause a b l w. (
            inr (signer, manifest, is_at, inr (list_uri, list, l.0, w.0)),
            inr (list_uri, list, a, b, l.0, l.1, inr (w.1), refl),
          )) old mid new first
          {Y = λ _ n. AppendsBoth (FilesTell s place.ca list_uri list until uri files) said said2
          children children2 × FilesCost s place.ca list_uri list uri files n}
          (λ _ n. AppendsBoth (PointTells s place folder uri) said said2 children children2
          × ListedCosts s place.ca folder uri signer manifest n)
          (λ _ a b l t. (
            put-as (FilesTell s place.ca list_uri list until uri files)
                (PointTells s place folder uri) said said2 children children2
                (λ put put2 g. (
                  p,
                  record { manifest = is_at; list = l.0 },
                  subst (λ (u : Moment). FilesTell s place.ca list_uri list u uri files put put2)
                      ends g,
                )) (t.0),
            inr (list_uri, list, a, b, l.0, l.1, inl (t.1), refl),
          )) r h
        where
          p : Point
          p = record {
            signer = signer;
            manifest = manifest;
            list_uri = list_uri;
            list = list;
          }

  -- what is spent on the manifest and after it is spent on the point
  pub point-read : (signer : Certificate) (manifest : Manifest) (said said2 : List Finding)
      (children children2 : List Place) (old mid new : ℕ)
      → Spends (λ n. IsManifestAt s place.ca folder uri signer manifest
      × ReadCosts s opening_cost uri n) old mid
      → (r : Result (Unit {0}) Stop)
      → IsOutcome (ListedStarts s place.ca folder uri signer manifest)
      (λ _ n. AppendsBoth (PointTells s place folder uri) said said2 children children2
      × ListedCosts s place.ca folder uri signer manifest n)
      (λ cause n. WhyNoPoint s place.ca folder uri cause
      × ListedCosts s place.ca folder uri signer manifest n) mid new r
      → IsOutcome (PointStarts s place.ca folder uri)
      (λ _ n. AppendsBoth (PointTells s place folder uri) said said2 children children2
      × PointCosts s place.ca folder uri n)
      (λ cause n. WhyNoPoint s place.ca folder uri cause
      × PointCosts s place.ca folder uri n) old new r
  point-read signer manifest said said2 children children2 old mid new first r h =
      outcome-then
      {F = λ n. IsManifestAt s place.ca folder uri signer manifest × ReadCosts s opening_cost uri n}
      {B = ListedStarts s place.ca folder uri signer manifest} (PointStarts s place.ca folder uri)
      (λ a b m c. inr (signer, manifest, a, b, m.0, m.1, c, refl))
      {V = λ cause n. WhyNoPoint s place.ca folder uri cause
      × ListedCosts s place.ca folder uri signer manifest n}
      (λ cause n. WhyNoPoint s place.ca folder uri cause
      × PointCosts s place.ca folder uri n)
      (λ cause a b m w. (w.0, inr (signer, manifest, a, b, m.0, m.1, w.1, refl))) old mid new first
      {Y = λ _ n. AppendsBoth (PointTells s place folder uri) said said2 children children2
      × ListedCosts s place.ca folder uri signer manifest n}
      (λ _ n. AppendsBoth (PointTells s place folder uri) said said2 children children2
      × PointCosts s place.ca folder uri n)
      (λ _ a b m t. (t.0, inr (signer, manifest, a, b, m.0, m.1, t.1, refl))) r h

  -- there is no manifest
  pub no-manifest : {T U : Type 0} (Yes : T → ℕ → Type 0) (Yes2 : U → ℕ → Type 0) (old new : ℕ)
      (stop : Stop) → IsOutcome (ManifestStarts s place.ca folder uri) Yes
      (λ cause n. WhyNoManifestOf s place.ca folder uri cause × RefusedCosts s uri cause n) old
      new (Err stop)
      → IsOutcome (PointStarts s place.ca folder uri) Yes2
      (λ cause n. WhyNoPoint s place.ca folder uri cause
      × PointCosts s place.ca folder uri n) old new (Err stop)
  no-manifest Yes Yes2 old new stop h =
      outcome-stops {A = ManifestStarts s place.ca folder uri} (PointStarts s place.ca folder uri)
      (λ n c. inl c)
      {V = λ cause n. WhyNoManifestOf s place.ca folder uri cause × RefusedCosts s uri cause n}
      {W = λ cause n. WhyNoPoint s place.ca folder uri cause
      × PointCosts s place.ca folder uri n}
      (λ cause n w. (inl (w.0), inl (cause, w.0, w.1))) old new Yes Yes2 stop h

  -- ---- the place

  module _ (publishes : PublishesIn place.ca folder) (names : NamesManifest place.ca uri)
      (room left : ℕ) where
    -- what was spent is the cost of the place
    spent : {Y : Type 0} (cost : ℕ) → cost ≡ room - left
        → Spends (λ n. Y × PointCosts s place.ca folder uri n) room left
        → PlaceCosts s place cost × (0 < cost) × (cost ≤ room)
    spent cost e p =
        let f : p.0 ≡ cost = omega (arith, p.2, e) in (
          inr (
            folder,
            uri,
            publishes,
            names,
            subst (λ (n : ℕ). PointCosts s place.ca folder uri n) f (p.1.1),
          ),
          omega (arith, f, point-some s place.ca folder uri (p.0) (p.1.1)),
          omega (arith, f, p.2),
        )

    -- the point is read
    pub point-told : (said0 said : List Finding) (children0 children : List Place) → said0 ≡ []
        → children0 ≡ []
        → Spends (λ n. AppendsBoth (PointTells s place folder uri) said0 said children0 children
        × PointCosts s place.ca folder uri n) room left
        → (cost : ℕ) → cost ≡ room - left
        → GoodTells s place said children × PlaceCosts s place cost × (0 < cost) × (cost ≤ room)
    point-told said0 said children0 children e e2 p cost f =
        let c = spent cost f p in (
          inr (
            folder,
            uri,
            publishes,
            names,
            put-to-none (PointTells s place folder uri) said0 said children0 children e e2 (p.1.0),
          ),
          c.0,
          c.1,
          c.2,
        )

    -- it is refused
    pub point-refused : (cause : Cause)
        → Spends (λ n. WhyNoPoint s place.ca folder uri cause × PointCosts s place.ca folder uri n)
        room left → (cost : ℕ) → cost ≡ room - left → (r : Result PointReading AllocError)
        → IfOk r (λ x. x ≡ readings.Refused (record {
          uri = uri;
          cause = cause;
          under = unwrap_or place.listed_by uri;
        }) cost) → IfOk r (IsPointReading s place room)
    point-refused cause p cost f (Ok x) e =
        let c = spent cost f p in
        subst (λ (y : PointReading). IsPointReading s place room y) (sym e)
        ((folder, uri, publishes, names, p.1.0, refl, refl), c.0, c.1, c.2)
    point-refused cause p cost f (Err x) e = tt

    -- it is not read to its end
    pub point-cut : (n : ℕ) × PointStarts s place.ca folder uri n × (room < n)
        → PlaceExceeds s place room
    point-cut h = (h.0, inr (folder, uri, publishes, names, h.1), h.2)

module _ (s : Setting) (place : Place) (room : ℕ) where
  -- a place without a point
  pub nothing-read : NamesNoPoint place.ca → (r : PointReading) → TellsNothing room r
      → IsPointReading s place room r
  nothing-read none (readings.Told t) h = (
    inl (none, h.0, h.1),
    inl (none, h.2),
    omega (arith, h.2),
    omega (arith, h.2, h.3),
  )
  nothing-read none (readings.Refused r cost) h = absurd h
  nothing-read none readings.Cut h = (1, inl (none, refl), omega (arith, h))

  -- what a place tells that is not refused
  good-tells : (said : List Finding) (children : List Place) → GoodTells s place said children
      → PlaceTells s place said children
  good-tells said children (inl h) = inl h
  good-tells said children (inr h) = inr (h.0, h.1, h.2, h.3, inl (h.4))

  -- what one tells that is refused
  refused-tells : (r : Refusal) → IsRefusedPlace s place r → (said : List Finding)
      (children : List Place) → said ≡ findings.Refusal r ∷ [] → children ≡ []
      → PlaceTells s place said children
  refused-tells r h said children e e2 = inr (
    h.0,
    h.1,
    h.2,
    h.3,
    inr ((r.cause, h.4, e ∙ ap (λ (q : Refusal). findings.Refusal q ∷ []) same), e2),
  )
    where
      same : r ≡ record { uri = h.1; cause = r.cause; under = unwrap_or place.listed_by (h.1) }
      same = λ i. record { uri = h.5 i; cause = r.cause; under = h.6 i }

  -- what came of reading a place
  pub reads-told : (t : Told Place Finding) → IsPointReading s place room (readings.Told t)
      → IsTelling (PlaceTells s) (PlaceCosts s) place room t
  reads-told t h = (good-tells t.said.items t.children.items (h.0), h.1, h.2, h.3)

  pub reads-refused : (r : Refusal) (cost : ℕ)
      → IsPointReading s place room (readings.Refused r cost) → (t : Told Place Finding)
      → t.said.items ≡ findings.Refusal r ∷ [] → t.children.items ≡ [] → t.cost ≡ cost
      → IsTelling (PlaceTells s) (PlaceCosts s) place room t
  reads-refused r cost h t e e2 f = (
    refused-tells r (h.0) t.said.items t.children.items e e2,
    subst (λ (n : ℕ). PlaceCosts s place n) (sym f) (h.1),
    omega (arith, f, h.2),
    omega (arith, f, h.3),
  )
