-- Where a copy finds one thing for each URI, a CA has one publication point, which is there or is
-- refused for one cause.
use Rattle.std.proofs.Common.{◌≡◌, ◌⊎◌, inl, inr, ℕ, List, [], ◌∷◌, ◌++◌, All, Option, Some}
use Rattle.std.proofs.Common.{None, Result, Ok, Err, is_some, unwrap_or, true≢false, refl, sym}
use Rattle.std.proofs.Common.{subst, ap, ◌∙◌}
use Rattle.std.proofs.lemmas.List.Elements.{All-contains, Contains-append_right}
use Rattle.rpki_der.specs.declared.mode.Mode.TheVariants.{Der}
use Rattle.rpki_der.specs.Grammar.{HasNoFront}
use Rattle.rpki_basics.specs.declared.limits.ManifestRule.TheVariants.{Any}
use Rattle.rpki_crls.specs.Crl.{RevocationList, CrlForm}
use Rattle.rpki_faults.specs.Checks.{AllHold, IsFirstFault}
use Rattle.rpki_faults.proofs.Order.{first-fails, first-one}
use Rattle.rpki_certs.specs.Cert.{Certificate}
use Rattle.rpki_certs.specs.Validate.{Validated}
use Rattle.rpki_files.specs.Manifest.{Manifest, ManifestForm}
use Rattle.rpki_files.specs.Manifest.Checks.{manifest_kind}
use Rattle.rpki_files.specs.Manifest.Uris.{UriAndHash, uris_of}
use Rattle.rpki_sigobj.specs.Signed.{Whole}
use Rattle.rpki_signed.specs.declared.check.CheckError.{CheckError}
use Rattle.rpki_relying_party.specs.Lacks.{IsRefusedManifest, manifest_checks}
use Rattle.rpki_relying_party.specs.Lacks.{WhyNoManifest, WhyNoFile, IsLostFile}
use Rattle.rpki_relying_party.specs.Lacks.{list_checks, HasBadList, WhyNoList, IsFirstLost}
use Rattle.rpki_relying_party.specs.Lacks.{IsFirstRepeated, WhyNoFiles, WhyNoManifestOf, WhyNoPoint}
use Rattle.rpki_relying_party.specs.Point.{Point, IsPointIn, IsManifestIn, IsManifestAt, IsListFile}
use Rattle.rpki_relying_party.specs.Point.{IsListAt, IsListOf, Has, PublishesIn}
use Rattle.rpki_relying_party.specs.Point.{AreOnce, NamesManifest}
use Rattle.rpki_relying_party.specs.Same.{FindsOne}
use Rattle.rpki_relying_party.specs.Setting.{Setting}
use Rattle.rpki_relying_party.specs.Tells.{NamesNoPoint}
use Rattle.rpki_relying_party.specs.declared.cause.Cause.{Cause}
use Rattle.rpki_relying_party.specs.declared.cause.Cause.TheVariants as causes
use Rattle.rpki_relying_party.specs.declared.cause.FileFault.{FileFault}
use Rattle.rpki_relying_party.specs.declared.cause.FileFault.TheVariants as files
use Rattle.rpki_relying_party.specs.declared.cause.ListFault.{ListFault}
use Rattle.rpki_relying_party.specs.declared.cause.ListFault.TheVariants as lists
use Rattle.rpki_relying_party.specs.declared.cause.ManifestFault.{ManifestFault}
use Rattle.rpki_relying_party.specs.declared.cause.ManifestFault.TheVariants as manifests
use Rattle.rpki_relying_party.specs.declared.copy.NoFile.{NoFile}
use Rattle.rpki_relying_party.proofs.Lists.{contains-first}
use Rattle.rpki_relying_party.proofs.Meanings.{manifest-sound}
use Rattle.rpki_relying_party.proofs.OneObject.{yes-says-one, good-refused, one-error}
use Rattle.rpki_relying_party.proofs.Splits.{cuts, once-one, once-repeated, one-repeated}

-- two octets of one URI are the same
pub one-some : (o : Option (List ℕ)) (a b : List ℕ) → o ≡ Some a → o ≡ Some b → a ≡ b
one-some o a b e f = ap (λ (p : Option (List ℕ)). unwrap_or p []) (sym e ∙ f)

pub none-some : (o : Option (List ℕ)) (a : List ℕ) → o ≡ None → o ≡ Some a → ⊥
none-some o a e f = true≢false (ap (λ (p : Option (List ℕ)). is_some p) (sym f ∙ e))

ok-one : {T E : Type 0} (a b : T) → ◌≡◌ {A = Result T E} (Ok a) (Ok b) → a ≡ b
ok-one a b e = cc

err-one : {T E : Type 0} (a b : E) → ◌≡◌ {A = Result T E} (Err a) (Err b) → a ≡ b
err-one a b e = cc

yes-is-no : {T E : Type 0} (t : T) (e : E) → Ok t ≡ Err e → ⊥
yes-is-no t e h = absurd cc

same-point : (p q : Point) → p.signer ≡ q.signer → p.manifest ≡ q.manifest
    → p.list_uri ≡ q.list_uri → p.list ≡ q.list → p ≡ q
same-point p q e f g h =
    λ i. record { signer = e i; manifest = f i; list_uri = g i; list = h i }

module _ (s : Setting) (one : FindsOne s) where
  -- ---- what the copy finds

  pub found-one : (uri a b : List ℕ) → s.finds uri (Ok a) → s.finds uri (Ok b) → a ≡ b
  found-one uri a b h g = ok-one a b (one uri (Ok a) (Ok b) h g)

  pub found-none : (uri a : List ℕ) (why : NoFile) → s.finds uri (Ok a) → s.finds uri (Err why) → ⊥
  found-none uri a why h g = yes-is-no a why (one uri (Ok a) (Err why) h g)

  -- ---- a listed file

  pub has-one : (file : UriAndHash) (a b : List ℕ) → Has s file a → Has s file b → a ≡ b
  has-one file a b h g = found-one (file.0) a b (h.0) (g.0)

  has-fails : (file : UriAndHash) (octets : List ℕ) (fault : FileFault) → Has s file octets
      → WhyNoFile s file fault → ⊥
  has-fails file octets (files.NoFile why) h w = found-none (file.0) octets why (h.0) w
  has-fails file octets files.OtherHash h w = w.2 (subst (λ (o : List ℕ). s.digest o ≡ file.1)
      (found-one (file.0) octets (w.0) (h.0) (w.1)) (h.1))

  one-file-fault : (file : UriAndHash) (a b : FileFault) → WhyNoFile s file a → WhyNoFile s file b
      → a ≡ b
  one-file-fault file (files.NoFile x) (files.NoFile y) h g =
      ap (λ (w : NoFile). files.NoFile w) (err-one x y (one (file.0) (Err x) (Err y) h g))
  one-file-fault file (files.NoFile x) files.OtherHash h g =
      absurd (found-none (file.0) (g.0) x (g.1) h)
  one-file-fault file files.OtherHash (files.NoFile y) h g =
      absurd (found-none (file.0) (h.0) y (h.1) g)
  one-file-fault file files.OtherHash files.OtherHash h g = refl

  -- the cause for which a file is lost, by its fault
  abbrev IsLostBy : UriAndHash → Cause → Type 0
  IsLostBy file cause =
      (fault : FileFault) × (cause ≡ causes.File (file.0) fault) × WhyNoFile s file fault

  lost-by : (file : UriAndHash) (cause : Cause) → IsLostFile s file cause → IsLostBy file cause
  lost-by file (causes.File uri fault) h =
      (fault, ap (λ (u : List ℕ). causes.File u fault) (sym (h.0)), h.1)
  lost-by file cause h = absurd h

  pub lost-not-had : (file : UriAndHash) (octets : List ℕ) (cause : Cause) → Has s file octets
      → IsLostFile s file cause → ⊥
  lost-not-had file octets cause h l =
      let w = lost-by file cause l in has-fails file octets (w.0) h (w.2)

  one-lost : (file : UriAndHash) (a b : Cause) → IsLostFile s file a → IsLostFile s file b → a ≡ b
  one-lost file a b h g =
      let v = lost-by file a h in
      let w = lost-by file b g in
      v.1 ∙ ap (λ (f : FileFault). causes.File (file.0) f)
      (one-file-fault file (v.0) (w.0) (v.2) (w.2)) ∙ sym (w.1)

  -- ---- the first file that is lost

  -- the file is the revocation list, or the copy has it
  abbrev pub IsThere : List ℕ → UriAndHash → Type 0
  IsThere list_uri f = (f.0 ≡ list_uri) ⊎ ((octets : List ℕ) × Has s f octets)

  module _ (list_uri : List ℕ) where
    there-not-lost : (file : UriAndHash) (cause : Cause) → IsThere list_uri file
        → ¬ (file.0 ≡ list_uri) → IsLostFile s file cause → ⊥
    there-not-lost file cause (inl e) other lost = other e
    there-not-lost file cause (inr h) other lost = lost-not-had file (h.0) cause (h.1) lost

    -- it is not among those that are there
    pub lost-not-there : (listed : List UriAndHash) (file : UriAndHash) (cause : Cause)
        (h : IsFirstLost s listed list_uri file cause) (all more : List UriAndHash)
        → all ≡ h.before ++ file ∷ more → All (IsThere list_uri) all → ⊥
    lost-not-there listed file cause h all more e there =
        there-not-lost file cause (All-contains (IsThere list_uri) (h.before ++ file ∷ more) file
        (subst (λ (l : List UriAndHash). All (IsThere list_uri) l) e there)
        (Contains-append_right h.before (file ∷ more) file (contains-first file more)))
        h.is_other h.lost

    one-first-lost : (listed : List UriAndHash) (f g : UriAndHash) (a b : Cause)
        → IsFirstLost s listed list_uri f a → IsFirstLost s listed list_uri g b → a ≡ b
    one-first-lost listed f g a b h k =
        elim (cuts h.before h.after k.before k.after f g (sym h.order ∙ k.order)) [
          | inl same ↦ one-lost f a b h.lost
              (subst (λ (x : UriAndHash). IsLostFile s x b) (sym (same.1)) k.lost)
          | inr apart ↦ elim apart [
            | inl later ↦ absurd (lost-not-there listed f a h k.before (later.0) (later.1)
                k.others)
            | inr sooner ↦ absurd (lost-not-there listed g b k h.before (sooner.0) (sooner.1)
                h.others)
          ]
        ]

    pub one-why-files : (listed : List UriAndHash) (a b : Cause) → WhyNoFiles s listed list_uri a
        → WhyNoFiles s listed list_uri b → a ≡ b
    one-why-files listed a b h g = one-first-lost listed (h.0) (g.0) a b (h.1) (g.1)

  module _ (ca : Validated) where
    -- ---- names of places

    pub one-folder : (a b : List ℕ) → PublishesIn ca a → PublishesIn ca b → a ≡ b
    one-folder a b h g =
        one-some ca.cert.certificate.tbs.extensions.locations.subject.ca_repository a b h g

    pub one-uri : (a b : List ℕ) → NamesManifest ca a → NamesManifest ca b → a ≡ b
    one-uri a b h g =
        one-some ca.cert.certificate.tbs.extensions.locations.subject.rpki_manifest a b h g

    pub names-one : (folder uri : List ℕ) → PublishesIn ca folder → NamesManifest ca uri
        → ¬ NamesNoPoint ca
    names-one folder uri h g (inl none) = none-some
        ca.cert.certificate.tbs.extensions.locations.subject.ca_repository folder none h
    names-one folder uri h g (inr none) = none-some
        ca.cert.certificate.tbs.extensions.locations.subject.rpki_manifest uri none g

    -- ---- the manifest

    same-content : (octets : List ℕ) (signer signer2 : Certificate) (manifest manifest2 : Manifest)
        → IsManifestIn s ca octets signer manifest → IsManifestIn s ca octets signer2 manifest2
        → (signer ≡ signer2) × (manifest ≡ manifest2)
    same-content octets signer signer2 manifest manifest2 a b =
        let same : b.object ≡ a.object = (a.front.only b.object b.rest b.front.found).0 in (
          sym (a.holds.1.0) ∙ sym (ap (λ (o : Whole Manifest). o.object.signed.cert) same)
              ∙ b.holds.1.0,
          sym (a.holds.1.1) ∙ sym (ap (λ (o : Whole Manifest). o.content) same) ∙ b.holds.1.1,
        )

    good-not-refused : (octets : List ℕ) (signer : Certificate) (manifest : Manifest)
        (error : CheckError) → IsManifestIn s ca octets signer manifest
        → IsRefusedManifest s ca octets error → ⊥
    good-not-refused octets signer manifest error h r =
        let w = good-refused s manifest_kind (ManifestForm Any Der) ca octets manifest-sound
        (λ k said. said ≡ Ok tt) (λ o. (o.object.signed.cert ≡ signer) × (o.content ≡ manifest)) h
        error (r.0) (r.1) in
        yes-is-no tt (w.0) (sym (w.1))

    module _ (folder : List ℕ) where
      -- the fault of a manifest that is good
      abbrev IsOutdatedBy : Manifest → ManifestFault → Type 0
      IsOutdatedBy manifest fault = IsFirstFault (manifest_checks s.now manifest) fault
          ⊎ ((twice : List ℕ) × (fault ≡ manifests.Twice twice)
          × AllHold (manifest_checks s.now manifest)
          × IsFirstRepeated (uris_of folder manifest.files) twice)

      -- that of octets
      abbrev IsBadBy : List ℕ → ManifestFault → Type 0
      IsBadBy octets fault =
          ((error : CheckError) × (fault ≡ manifests.Refused error)
          × IsRefusedManifest s ca octets error)
          ⊎ ((signer : Certificate) × (manifest : Manifest)
          × IsManifestIn s ca octets signer manifest × IsOutdatedBy manifest fault)

      -- that of what the copy finds
      abbrev IsNoneBy : List ℕ → ManifestFault → Type 0
      IsNoneBy uri fault =
          ((why : NoFile) × (fault ≡ manifests.NoFile why) × s.finds uri (Err why))
          ⊎ ((octets : List ℕ) × s.finds uri (Ok octets) × IsBadBy octets fault)

      none-by : (uri : List ℕ) (fault : ManifestFault) → WhyNoManifest s ca folder uri fault
          → IsNoneBy uri fault
      none-by uri (manifests.NoFile why) h = inl (why, refl, h)
      none-by uri (manifests.Refused error) h = inr (h.0, h.1, inl (error, refl, h.2))
      none-by uri (manifests.NotYet time) h = inr (h.0, h.3, inr (h.1, h.2, h.4, inl (h.5)))
      none-by uri (manifests.Stale time) h = inr (h.0, h.3, inr (h.1, h.2, h.4, inl (h.5)))
      none-by uri (manifests.Twice twice) h =
          inr (h.0, h.3, inr (h.1, h.2, h.4, inr (twice, refl, (h.5, (h.6, tt)), h.7)))

      one-outdated : (manifest : Manifest) (a b : ManifestFault) → IsOutdatedBy manifest a
          → IsOutdatedBy manifest b → a ≡ b
      one-outdated manifest a b (inl h) (inl g) =
          first-one (manifest_checks s.now manifest) a b h g
      one-outdated manifest a b (inl h) (inr g) =
          absurd (first-fails (manifest_checks s.now manifest) a h (g.2))
      one-outdated manifest a b (inr h) (inl g) =
          absurd (first-fails (manifest_checks s.now manifest) b g (h.2))
      one-outdated manifest a b (inr h) (inr g) = h.1
          ∙ ap (λ (u : List ℕ). manifests.Twice u)
          (one-repeated (uris_of folder manifest.files) (h.0) (g.0) (h.3) (g.3))
          ∙ sym (g.1)

      one-bad : (octets : List ℕ) (a b : ManifestFault) → IsBadBy octets a → IsBadBy octets b
          → a ≡ b
      one-bad octets a b (inl h) (inl g) = h.1
          ∙ ap (λ (e : CheckError). manifests.Refused e) (one-error s manifest_kind
          (ManifestForm Any Der) ca octets manifest-sound (λ k said. said ≡ Ok tt) yes-says-one
          (h.0) (g.0) (h.2.0) (g.2.0) (h.2.1) (g.2.1) (h.2.2) (g.2.2))
          ∙ sym (g.1)
      one-bad octets a b (inl h) (inr g) =
          absurd (good-not-refused octets (g.0) (g.1) (h.0) (g.2) (h.2))
      one-bad octets a b (inr h) (inl g) =
          absurd (good-not-refused octets (h.0) (h.1) (g.0) (h.2) (g.2))
      one-bad octets a b (inr h) (inr g) =
          one-outdated (h.1) a b (h.3) (subst (λ (m : Manifest). IsOutdatedBy m b)
          (same-content octets (g.0) (h.0) (g.1) (h.1) (g.2) (h.2)).1 (g.3))

      one-none : (uri : List ℕ) (a b : ManifestFault) → IsNoneBy uri a → IsNoneBy uri b → a ≡ b
      one-none uri a b (inl h) (inl g) = h.1
          ∙ ap (λ (w : NoFile). manifests.NoFile w)
          (err-one (h.0) (g.0) (one uri (Err (h.0)) (Err (g.0)) (h.2) (g.2)))
          ∙ sym (g.1)
      one-none uri a b (inl h) (inr g) = absurd (found-none uri (g.0) (h.0) (g.1) (h.2))
      one-none uri a b (inr h) (inl g) = absurd (found-none uri (h.0) (g.0) (h.1) (g.2))
      one-none uri a b (inr h) (inr g) = one-bad (h.0) a b (h.2)
          (subst (λ (o : List ℕ). IsBadBy o b) (found-one uri (g.0) (h.0) (g.1) (h.1)) (g.2))

      pub one-why-manifest : (uri : List ℕ) (a b : Cause) → WhyNoManifestOf s ca folder uri a
          → WhyNoManifestOf s ca folder uri b → a ≡ b
      one-why-manifest uri (causes.Manifest a) (causes.Manifest b) h g =
          ap (λ (f : ManifestFault). causes.Manifest f)
          (one-none uri a b (none-by uri a h) (none-by uri b g))
      one-why-manifest uri (causes.Manifest a) b h g = absurd g
      one-why-manifest uri a b h g = absurd h

      module _ (uri : List ℕ) where
        pub one-manifest : (signer signer2 : Certificate) (manifest manifest2 : Manifest)
            → IsManifestAt s ca folder uri signer manifest
            → IsManifestAt s ca folder uri signer2 manifest2
            → (signer ≡ signer2) × (manifest ≡ manifest2)
        one-manifest signer signer2 manifest manifest2 a b =
            same-content a.octets signer signer2 manifest manifest2 a.good
            (subst (λ (o : List ℕ). IsManifestIn s ca o signer2 manifest2)
            (found-one uri b.octets a.octets b.found a.found) b.good)

        -- where there is one, there is no cause
        module _ (signer : Certificate) (manifest : Manifest)
            (m : IsManifestAt s ca folder uri signer manifest) where
          outdated-stays : (fault : ManifestFault) → IsOutdatedBy manifest fault → ⊥
          outdated-stays fault (inl h) = first-fails (manifest_checks s.now manifest) fault h
              (m.current.0, (m.current.1, tt))
          outdated-stays fault (inr h) = once-repeated (uris_of folder manifest.files) (h.0) (h.3)
              (uris_of folder manifest.files) h.3.after h.3.order m.once

          bad-stays : (fault : ManifestFault) → IsBadBy m.octets fault → ⊥
          bad-stays fault (inl h) =
              good-not-refused m.octets signer manifest (h.0) m.good (h.2)
          bad-stays fault (inr h) = outdated-stays fault
              (subst (λ (w : Manifest). IsOutdatedBy w fault)
              (same-content m.octets (h.0) signer (h.1) manifest (h.2) m.good).1 (h.3))

          none-stays : (fault : ManifestFault) → IsNoneBy uri fault → ⊥
          none-stays fault (inl h) = found-none uri m.octets (h.0) m.found (h.2)
          none-stays fault (inr h) = bad-stays fault (subst (λ (o : List ℕ). IsBadBy o fault)
              (found-one uri (h.0) m.octets (h.1) m.found) (h.2))

          pub manifest-stays : (cause : Cause) → WhyNoManifestOf s ca folder uri cause → ⊥
          manifest-stays (causes.Manifest fault) h = none-stays fault (none-by uri fault h)
          manifest-stays cause h = h

    -- ---- the revocation list

    one-list-in : (octets : List ℕ) (a b : RevocationList)
        → IsListOf s.verdict s.now ca octets a → IsListOf s.verdict s.now ca octets b → a ≡ b
    one-list-in octets a b h g = (g.front.only a h.rest h.front.found).0

    module _ (folder : List ℕ) (signer : Certificate) (manifest : Manifest) where
      abbrev Once : Type 0
      Once = AreOnce (uris_of folder manifest.files)

      pub one-list : (a b : List ℕ) (list list2 : RevocationList)
          → IsListAt s ca folder signer manifest a list
          → IsListAt s ca folder signer manifest b list2 → (a ≡ b) × (list ≡ list2)
      one-list a b list list2 h g =
          let same : a ≡ b =
          one-some signer.tbs.extensions.locations.crl a b h.file.named g.file.named in (
            same,
            one-list-in h.octets list list2 h.list_of
                (subst (λ (o : List ℕ). IsListOf s.verdict s.now ca o list2)
                (sym (found-one b h.octets g.octets
                (subst (λ (u : List ℕ). s.finds u (Ok h.octets)) same (h.found.0)) (g.found.0)))
                g.list_of),
          )

      pub one-list-file : Once → (f g : UriAndHash) → IsListFile folder signer manifest f
          → IsListFile folder signer manifest g → f ≡ g
      one-list-file once f g h k = once-one (uris_of folder manifest.files) once f g h.listed
          k.listed (one-some signer.tbs.extensions.locations.crl (f.0) (g.0) h.named k.named)

      -- the causes of the list: it is not listed, or its file is lost, or malformed, or bad
      abbrev IsUnlisted : Cause → Type 0
      IsUnlisted cause = (cause ≡ causes.List lists.Unlisted)
          × ((file : UriAndHash) → ¬ IsListFile folder signer manifest file)

      abbrev IsBadFile : List ℕ → Cause → Type 0
      IsBadFile octets cause =
          ((cause ≡ causes.List lists.Malformed) × HasNoFront (CrlForm Der) octets)
          ⊎ ((fault : ListFault) × (cause ≡ causes.List fault)
          × HasBadList s ca signer octets fault)

      abbrev IsListBy : Cause → Type 0
      IsListBy cause = IsUnlisted cause
          ⊎ ((file : UriAndHash) × IsListFile folder signer manifest file
          × (IsLostFile s file cause
          ⊎ ((octets : List ℕ) × Has s file octets × IsBadFile octets cause)))

      list-by : (cause : Cause) → WhyNoList s ca folder signer manifest cause → IsListBy cause
      list-by (causes.List lists.Unlisted) h = inl (refl, h)
      list-by (causes.List lists.Malformed) h =
          inr (h.0, h.2, inr (h.1, h.3, inl (refl, h.4)))
      list-by (causes.List fault) h = inr (h.0, h.2, inr (h.1, h.3, inr (fault, refl, h.4)))
      list-by (causes.File uri fault) h = inr (h.0, h.1, inl (h.2))
      list-by cause h = absurd h

      one-bad-list : (octets : List ℕ) (a b : ListFault) → HasBadList s ca signer octets a
          → HasBadList s ca signer octets b → a ≡ b
      one-bad-list octets a b h g = first-one (list_checks s.verdict s.now ca signer (h.0)) a b
          (h.3) (subst (λ (l : RevocationList).
          IsFirstFault (list_checks s.verdict s.now ca signer l) b)
          (h.2.only (g.0) (g.1) g.2.found).0 (g.3))

      one-bad-file : (octets : List ℕ) (a b : Cause) → IsBadFile octets a → IsBadFile octets b
          → a ≡ b
      one-bad-file octets a b (inl h) (inl g) = h.0 ∙ sym (g.0)
      one-bad-file octets a b (inl h) (inr g) =
          absurd (h.1 (g.2.0) (g.2.1) g.2.2.found)
      one-bad-file octets a b (inr h) (inl g) =
          absurd (g.1 (h.2.0) (h.2.1) h.2.2.found)
      one-bad-file octets a b (inr h) (inr g) = h.1
          ∙ ap (λ (f : ListFault). causes.List f) (one-bad-list octets (h.0) (g.0) (h.2) (g.2))
          ∙ sym (g.1)

      one-in-file : (file : UriAndHash) (a b : Cause)
          → IsLostFile s file a ⊎ ((octets : List ℕ) × Has s file octets × IsBadFile octets a)
          → IsLostFile s file b ⊎ ((octets : List ℕ) × Has s file octets × IsBadFile octets b)
          → a ≡ b
      one-in-file file a b (inl h) (inl g) = one-lost file a b h g
      one-in-file file a b (inl h) (inr g) = absurd (lost-not-had file (g.0) a (g.1) h)
      one-in-file file a b (inr h) (inl g) = absurd (lost-not-had file (h.0) b (h.1) g)
      one-in-file file a b (inr h) (inr g) = one-bad-file (h.0) a b (h.2)
          (subst (λ (o : List ℕ). IsBadFile o b) (has-one file (g.0) (h.0) (g.1) (h.1)) (g.2))

      one-list-by : Once → (a b : Cause) → IsListBy a → IsListBy b → a ≡ b
      one-list-by once a b (inl h) (inl g) = h.0 ∙ sym (g.0)
      one-list-by once a b (inl h) (inr g) = absurd (h.1 (g.0) (g.1))
      one-list-by once a b (inr h) (inl g) = absurd (g.1 (h.0) (h.1))
      one-list-by once a b (inr h) (inr g) = one-in-file (h.0) a b (h.2)
          (subst (λ (f : UriAndHash). IsLostFile s f b
          ⊎ ((octets : List ℕ) × Has s f octets × IsBadFile octets b))
          (one-list-file once (g.0) (h.0) (g.1) (h.1)) (g.2))

      -- where there is one, there is no cause
      bad-file-stays : (uri : List ℕ) (list : RevocationList)
          (l : IsListAt s ca folder signer manifest uri list) (cause : Cause)
          → IsBadFile l.octets cause → ⊥
      bad-file-stays uri list l cause (inl h) = h.1 list l.list_of.rest l.list_of.front.found
      bad-file-stays uri list l cause (inr h) =
          first-fails (list_checks s.verdict s.now ca signer list) (h.0)
          (subst (λ (x : RevocationList).
          IsFirstFault (list_checks s.verdict s.now ca signer x) (h.0))
          (l.list_of.front.only (h.2.0) (h.2.1) h.2.2.found).0 (h.2.3)) (
            l.list_of.key,
            (
              l.list_of.signed,
              (
                l.list_of.current.0,
                (
                  l.list_of.current.1,
                  (l.unrevoked, tt),
                ),
              ),
            ),
          )

      list-stays-by : (uri : List ℕ) (list : RevocationList) → Once
          → IsListAt s ca folder signer manifest uri list → (cause : Cause) → IsListBy cause → ⊥
      list-stays-by uri list once l cause (inl h) = h.1 (uri, l.hash) l.file
      list-stays-by uri list once l cause (inr h) =
          let same : h.0 ≡ (uri, l.hash) = one-list-file once (h.0) (uri, l.hash) (h.1) l.file in
          elim (h.2) [
            | inl lost ↦ lost-not-had (uri, l.hash) l.octets cause l.found
                (subst (λ (f : UriAndHash). IsLostFile s f cause) same lost)
            | inr bad ↦ bad-file-stays uri list l cause
                (subst (λ (o : List ℕ). IsBadFile o cause)
                (has-one (uri, l.hash) (bad.0) l.octets
                (subst (λ (f : UriAndHash). Has s f (bad.0)) same (bad.1)) l.found) (bad.2))
          ]

      pub list-stays : (uri : List ℕ) (list : RevocationList) → Once
          → IsListAt s ca folder signer manifest uri list → (cause : Cause)
          → WhyNoList s ca folder signer manifest cause → ⊥
      list-stays uri list once l cause w =
          list-stays-by uri list once l cause (list-by cause w)

    -- ---- the point

    module _ (folder uri : List ℕ) where
      pub one-point : (p q : Point) → IsPointIn s ca folder uri p → IsPointIn s ca folder uri q
          → p ≡ q
      one-point p q h g =
          let same = one-manifest folder uri p.signer q.signer p.manifest q.manifest h.manifest
          g.manifest in
          let both = one-list folder q.signer q.manifest p.list_uri q.list_uri p.list q.list
          (subst (λ (c : Certificate). IsListAt s ca folder c q.manifest p.list_uri p.list) (same.0)
          (subst (λ (m : Manifest). IsListAt s ca folder p.signer m p.list_uri p.list) (same.1)
          h.list)) g.list in
          same-point p q (same.0) (same.1) (both.0) (both.1)

      -- why the list or a file is not there, where the manifest is
      abbrev WhyNoRest : Certificate → Manifest → Cause → Type 0
      WhyNoRest signer manifest cause = WhyNoList s ca folder signer manifest cause
          ⊎ ((list_uri : List ℕ) × (list : RevocationList)
          × IsListAt s ca folder signer manifest list_uri list
          × WhyNoFiles s (uris_of folder manifest.files) list_uri cause)

      one-why-rest : (signer : Certificate) (manifest : Manifest)
          → IsManifestAt s ca folder uri signer manifest → (a b : Cause)
          → WhyNoRest signer manifest a → WhyNoRest signer manifest b → a ≡ b
      one-why-rest signer manifest m a b (inl h) (inl g) =
          one-list-by folder signer manifest m.once a b (list-by folder signer manifest a h)
          (list-by folder signer manifest b g)
      one-why-rest signer manifest m a b (inl h) (inr g) =
          absurd (list-stays folder signer manifest (g.0) (g.1) m.once (g.2) a h)
      one-why-rest signer manifest m a b (inr h) (inl g) =
          absurd (list-stays folder signer manifest (h.0) (h.1) m.once (h.2) b g)
      one-why-rest signer manifest m a b (inr h) (inr g) =
          one-why-files (h.0) (uris_of folder manifest.files) a b (h.3)
          (subst (λ (u : List ℕ). WhyNoFiles s (uris_of folder manifest.files) u b)
          (one-list folder signer manifest (g.0) (h.0) (g.1) (h.1) (g.2) (h.2)).0 (g.3))

      -- it is refused for one cause
      pub one-cause : (a b : Cause) → WhyNoPoint s ca folder uri a → WhyNoPoint s ca folder uri b
          → a ≡ b
      one-cause a b (inl h) (inl g) = one-why-manifest folder uri a b h g
      one-cause a b (inl h) (inr g) =
          absurd (manifest-stays folder uri (g.0) (g.1) (g.2) a h)
      one-cause a b (inr h) (inl g) =
          absurd (manifest-stays folder uri (h.0) (h.1) (h.2) b g)
      one-cause a b (inr h) (inr g) =
          let same = one-manifest folder uri (g.0) (h.0) (g.1) (h.1) (g.2) (h.2) in
          one-why-rest (h.0) (h.1) (h.2) a b (h.3)
          (subst (λ (c : Certificate). WhyNoRest c (h.1) b) (same.0)
          (subst (λ (m : Manifest). WhyNoRest (g.0) m b) (same.1) (g.3)))

      rest-stays : (p : Point) (h : IsPointIn s ca folder uri p)
          → All (IsThere p.list_uri) (uris_of folder p.manifest.files) → (cause : Cause)
          → WhyNoRest p.signer p.manifest cause → ⊥
      rest-stays p h there cause (inl w) = list-stays folder p.signer p.manifest p.list_uri
          p.list h.manifest.once h.list cause w
      rest-stays p h there cause (inr w) =
          let same = one-list folder p.signer p.manifest (w.0) p.list_uri (w.1) p.list (w.2) h.list
          in
          let lost = subst (λ (u : List ℕ). WhyNoFiles s (uris_of folder p.manifest.files) u cause)
          (same.0) (w.3) in
          lost-not-there p.list_uri (uris_of folder p.manifest.files) (lost.0) cause (lost.1)
          (uris_of folder p.manifest.files) lost.1.after lost.1.order there

      -- a point that is there with its files is not refused
      pub point-stays : (p : Point) → IsPointIn s ca folder uri p
          → All (IsThere p.list_uri) (uris_of folder p.manifest.files) → (cause : Cause)
          → WhyNoPoint s ca folder uri cause → ⊥
      point-stays p h there cause (inl w) =
          manifest-stays folder uri p.signer p.manifest h.manifest cause w
      point-stays p h there cause (inr w) =
          let same = one-manifest folder uri (w.0) p.signer (w.1) p.manifest (w.2) h.manifest in
          rest-stays p h there cause
          (subst (λ (c : Certificate). WhyNoRest c p.manifest cause) (same.0)
          (subst (λ (m : Manifest). WhyNoRest (w.0) m cause) (same.1) (w.3)))
