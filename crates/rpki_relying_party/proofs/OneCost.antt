-- To read a place is one number of work, and more than each number that it exceeds, where a copy
-- finds one thing for each URI.
use Rattle.std.proofs.Common.{◌≡◌, ◌⊎◌, inl, inr, ℕ, ◌+◌, ◌*◌, ◌<◌, ◌≤◌, List, [], ◌∷◌, ◌++◌}
use Rattle.std.proofs.Common.{length}
use Rattle.std.proofs.Common.{Result, Ok, Err, refl, sym, subst, ap, ◌∙◌, arith}
use Rattle.rpki_crls.specs.Crl.{RevocationList}
use Rattle.rpki_certs.specs.Cert.{Certificate}
use Rattle.rpki_certs.specs.Validate.{Validated}
use Rattle.rpki_files.specs.Manifest.{Manifest}
use Rattle.rpki_files.specs.Manifest.Uris.{UriAndHash, uris_of}
use Rattle.rpki_routes.specs.Aspa.{Aspa}
use Rattle.rpki_routes.specs.Aspa.Form.{AspaForm}
use Rattle.rpki_routes.specs.Aspa.Checks.{aspa_kind}
use Rattle.rpki_routes.specs.Roa.{Roa, addresses}
use Rattle.rpki_routes.specs.Roa.Form.{RoaForm}
use Rattle.rpki_routes.specs.Roa.Checks.{roa_kind}
use Rattle.rpki_relying_party.specs.Costs.{opening_cost, listing_cost, list_cost, named_cost}
use Rattle.rpki_relying_party.specs.Costs.{found_cost, payload_cost, waiting_cost, ReadCosts}
use Rattle.rpki_relying_party.specs.Costs.{ReadStarts, CostsOf, HeldCosts, JudgedCosts, FileCosts}
use Rattle.rpki_relying_party.specs.Costs.{FileStarts, LostCosts}
use Rattle.rpki_relying_party.specs.Costs.{FilesCost, FilesLost, FilesStart, ListCosts, ListStarts}
use Rattle.rpki_relying_party.specs.Costs.{ListedCosts, ListedStarts, NoManifestCosts}
use Rattle.rpki_relying_party.specs.Costs.{ManifestStarts, PointCosts, PointStarts, OnPlace}
use Rattle.rpki_relying_party.specs.Costs.{PlaceCosts, PlaceExceeds}
use Rattle.rpki_relying_party.specs.Kind.{kind_of}
use Rattle.rpki_relying_party.specs.Point.{AreOnce, IsListFile}
use Rattle.rpki_relying_party.specs.Same.{FindsOne}
use Rattle.rpki_relying_party.specs.Setting.{Setting}
use Rattle.rpki_relying_party.specs.Tells.{HasRoa, HasAspa, HasCa}
use Rattle.rpki_relying_party.specs.declared.cause.Cause.{Cause}
use Rattle.rpki_relying_party.specs.declared.copy.NoFile.{NoFile}
use Rattle.rpki_relying_party.specs.declared.kind.ListedKind.{ListedKind}
use Rattle.rpki_relying_party.specs.declared.kind.ListedKind.TheVariants as kinds
use Rattle.rpki_relying_party.specs.declared.place.Place.{Place}
use Rattle.rpki_relying_party.proofs.OneChild.{one-ca}
use Rattle.rpki_relying_party.proofs.OneObject.{one-content}
use Rattle.rpki_relying_party.proofs.OnePoint.{has-one, lost-not-had, one-folder, one-uri}
use Rattle.rpki_relying_party.proofs.OnePoint.{names-one, one-why-manifest, one-manifest}
use Rattle.rpki_relying_party.proofs.OnePoint.{manifest-stays, one-list}
use Rattle.rpki_relying_party.proofs.OnePoint.{one-list-file, list-stays}
use Rattle.rpki_relying_party.proofs.Splits.{cuts}

-- to look for a file is a part of what is found
looked : (price : ℕ) (found : Result (List ℕ) NoFile) → price ≤ found_cost price found
looked price (Ok octets) = omega arith
looked price (Err why) = omega arith

-- the cost of what is there at most once is one number
one-costs : {X : Type 0} (Is : X → Type 0) (cost : X → ℕ)
    → ((x y : X) → Is x → Is y → cost x ≡ cost y) → (m n : ℕ) → CostsOf Is cost m
    → CostsOf Is cost n → m ≡ n
one-costs Is cost same m n (inl h) (inl g) =
    h.2 ∙ same (h.0) (g.0) (h.1) (g.1) ∙ sym (g.2)
one-costs Is cost same m n (inl h) (inr g) = absurd (g.0 (h.0) (h.1))
one-costs Is cost same m n (inr h) (inl g) = absurd (h.0 (g.0) (g.1))
one-costs Is cost same m n (inr h) (inr g) = h.1 ∙ sym (g.1)

module _ (s : Setting) (one : FindsOne s) where
  -- ---- one read

  one-read : (price : ℕ) (uri : List ℕ) (m n : ℕ) → ReadCosts s price uri m
      → ReadCosts s price uri n → m ≡ n
  one-read price uri m n h g = h.2 ∙ ap (λ (f : Result (List ℕ) NoFile). found_cost price f)
      (one uri (h.0) (g.0) (h.1) (g.1)) ∙ sym (g.2)

  read-starts : (price : ℕ) (uri : List ℕ) (m n : ℕ) → ReadStarts s price uri m
      → ReadCosts s price uri n → m ≤ n
  read-starts price uri m n (inl e) g = omega (arith, e, g.2, looked price (g.0))
  read-starts price uri m n (inr h) g = omega (arith, one-read price uri m n h g)

  module _ (ca : Validated) where
    -- ---- a file

    module _ (list_uri : List ℕ) (list : RevocationList) (under : List ℕ) where
      module _ (octets : List ℕ) (m n : ℕ) where
        one-held : (kind : ListedKind) → HeldCosts s ca list kind octets m
            → HeldCosts s ca list kind octets n → m ≡ n
        one-held kinds.Roa h g = one-costs
            (λ (o : Certificate × Roa). HasRoa s ca list octets (o.0) (o.1))
            (λ o. payload_cost * length (addresses (o.1))) (λ x y a b.
            ap (λ (r : Roa). payload_cost * length (addresses r))
            (one-content s roa_kind RoaForm ca list octets (x.0) (y.0) (x.1) (y.1) (a.0) (b.0)).1)
            m n h g
        one-held kinds.Aspa h g = one-costs
            (λ (o : Certificate × Aspa). HasAspa s ca list octets (o.0) (o.1))
            (λ o. payload_cost * length o.1.providers) (λ x y a b.
            ap (λ (r : Aspa). payload_cost * length r.providers)
            (one-content s aspa_kind (AspaForm s.providers) ca list octets (x.0) (y.0) (x.1) (y.1)
            a b).1) m n h g
        one-held kinds.Ca h g = one-costs (HasCa s ca list octets) (waiting_cost octets)
            (λ v w a b. ap (λ (x : Validated). waiting_cost octets x)
            (one-ca s ca list octets v w a b)) m n h g
        one-held kinds.Other h g = h ∙ sym g

      module _ (file : UriAndHash) (m n : ℕ) where
        abbrev price : ℕ
        price = listing_cost ca under (file.0)

        one-judged : JudgedCosts s ca list under file m → JudgedCosts s ca list under file n
            → m ≡ n
        one-judged h g =
            let same = has-one s one file (h.0) (g.0) (h.2) (g.2) in
            let held = one-held (g.0) (h.1) (g.1) (kind_of (file.0)) (subst (λ (o : List ℕ).
            HeldCosts s ca list (kind_of (file.0)) o (h.1)) same (h.3)) (g.3) in
            omega (arith, h.4, g.4, ap (λ (o : List ℕ). length o) same, held)

        one-file : FileCosts s ca list_uri list under file m
            → FileCosts s ca list_uri list under file n → m ≡ n
        one-file (inl h) (inl g) = h.1 ∙ sym (g.1)
        one-file (inl h) (inr g) = absurd (g.0 (h.0))
        one-file (inr h) (inl g) = absurd (h.0 (g.0))
        one-file (inr h) (inr g) = one-judged (h.1) (g.1)

        file-starts : FileStarts s ca list_uri list under file m
            → FileCosts s ca list_uri list under file n → m ≤ n
        file-starts h (inl g) = absurd (h.0 (g.0))
        file-starts h (inr g) = elim (h.1) [
          | inl r ↦ omega (
            arith,
            g.1.4,
            read-starts price (file.0) m (found_cost price (Ok (g.1.0))) r
                (Ok (g.1.0), g.1.2.0, refl),
          )
          | inr j ↦ omega (arith, one-judged j (g.1))
        ]

        -- one that is lost is not there
        lost-fails : FileCosts s ca list_uri list under file m
            → LostCosts s ca list_uri under file n → ⊥
        lost-fails (inl h) l = l.0 (h.0)
        lost-fails (inr h) l =
            lost-not-had s one file (h.1.0) (l.1.0) (h.1.2) (l.1.1)

        lost-starts : FileStarts s ca list_uri list under file m
            → LostCosts s ca list_uri under file n → m ≤ n
        lost-starts h l = elim (h.1) [
          | inl r ↦ read-starts price (file.0) m n r (l.2)
          | inr j ↦ absurd (lost-not-had s one file (j.0) (l.1.0) (j.2) (l.1.1))
        ]

      -- ---- files

      one-files : (files : List UriAndHash) (m n : ℕ) → FilesCost s ca list_uri list under files m
          → FilesCost s ca list_uri list under files n → m ≡ n
      one-files [] m n h g = h ∙ sym g
      one-files (file ∷ files) m n h g = omega (
        arith,
        h.4,
        g.4,
        one-file file (h.0) (g.0) (h.2) (g.2),
        one-files files (h.1) (g.1) (h.3) (g.3),
      )

      -- what is spent on files is spent on some first ones, and on the next
      spent-cut : (before : List UriAndHash) (file : UriAndHash) (after : List UriAndHash) (n : ℕ)
          → FilesCost s ca list_uri list under (before ++ file ∷ after) n
          → (a : ℕ) × (b : ℕ) × FilesCost s ca list_uri list under before a
          × FileCosts s ca list_uri list under file b × (a + b ≤ n)
      spent-cut [] file after n h = (0, h.0, refl, h.2, omega (arith, h.4))
      spent-cut (f ∷ before) file after n h =
          let r = spent-cut before file after (h.1) (h.3) in
          (h.0 + r.0, r.1, (h.0, r.0, h.2, r.2, refl), r.3, omega (arith, h.4, r.4))

      module _ (files : List UriAndHash) (m n : ℕ) where
        -- one that is lost is not among those that are there
        lost-apart : (l : FilesLost s ca list_uri list under files m) (all more : List UriAndHash)
            → FilesCost s ca list_uri list under all n → all ≡ l.before ++ l.file ∷ more → ⊥
        lost-apart l all more h e =
            let c = spent-cut l.before l.file more n (subst (λ (fs : List UriAndHash).
            FilesCost s ca list_uri list under fs n) e h) in
            lost-fails l.file (c.1) l.next (c.3) l.spent_next

        -- some first steps are a part of all
        starts-within : (h : FilesStart s ca list_uri list under files m)
            (all more : List UriAndHash) → FilesCost s ca list_uri list under all n
            → all ≡ h.before ++ h.file ∷ more → m ≤ n
        starts-within h all more g e =
            let c = spent-cut h.before h.file more n (subst (λ (fs : List UriAndHash).
            FilesCost s ca list_uri list under fs n) e g) in
            omega (
              arith,
              h.sum,
              c.4,
              one-files h.before h.first (c.0) h.spent_first (c.2),
              file-starts h.file h.next (c.1) h.spent_next (c.3),
            )

      module _ (files : List UriAndHash) (m n : ℕ) where
        one-lost-cost : FilesLost s ca list_uri list under files m
            → FilesLost s ca list_uri list under files n → m ≡ n
        one-lost-cost h g =
            elim (cuts h.before h.after g.before g.after h.file g.file (sym h.order ∙ g.order)) [
              | inl same ↦ omega (
                arith,
                h.sum,
                g.sum,
                one-files g.before h.first g.first (subst (λ (fs : List UriAndHash).
                    FilesCost s ca list_uri list under fs h.first) (same.0) h.spent_first)
                    g.spent_first,
                one-read (listing_cost ca under (g.file.0)) (g.file.0) h.next g.next
                    (subst (λ (f : UriAndHash).
                    ReadCosts s (listing_cost ca under (f.0)) (f.0) h.next) (same.1)
                    (h.spent_next.2)) (g.spent_next.2),
              )
              | inr apart ↦ elim apart [
                | inl later ↦ absurd (lost-apart files m g.first h g.before (later.0)
                    g.spent_first (later.1))
                | inr sooner ↦ absurd (lost-apart files n h.first g h.before (sooner.0)
                    h.spent_first (sooner.1))
              ]
            ]

        lost-start : FilesStart s ca list_uri list under files m
            → FilesLost s ca list_uri list under files n → m ≤ n
        lost-start h g =
            elim (cuts h.before h.after g.before g.after h.file g.file (sym h.order ∙ g.order)) [
              | inl same ↦ omega (
                arith,
                h.sum,
                g.sum,
                one-files g.before h.first g.first (subst (λ (fs : List UriAndHash).
                    FilesCost s ca list_uri list under fs h.first) (same.0) h.spent_first)
                    g.spent_first,
                lost-starts g.file h.next g.next (subst (λ (f : UriAndHash).
                    FileStarts s ca list_uri list under f h.next) (same.1) h.spent_next)
                    g.spent_next,
              )
              | inr apart ↦ elim apart [
                | inl later ↦ omega (
                  arith,
                  g.sum,
                  starts-within files m g.first h g.before (later.0) g.spent_first
                      (later.1),
                )
                | inr sooner ↦ absurd (lost-apart files n h.first g h.before (sooner.0)
                    h.spent_first (sooner.1))
              ]
            ]

        -- on all files, or up to one that is lost
        abbrev Spent : ℕ → Type 0
        Spent k =
            FilesCost s ca list_uri list under files k ⊎ FilesLost s ca list_uri list under files k

        one-spent : Spent m → Spent n → m ≡ n
        one-spent (inl h) (inl g) = one-files files m n h g
        one-spent (inl h) (inr g) = absurd (lost-apart files n m g files g.after h g.order)
        one-spent (inr h) (inl g) = absurd (lost-apart files m n h files h.after g h.order)
        one-spent (inr h) (inr g) = one-lost-cost h g

        spent-starts : FilesStart s ca list_uri list under files m → Spent n → m ≤ n
        spent-starts h (inl g) = starts-within files m n h files h.after g h.order
        spent-starts h (inr g) = lost-start h g

    -- ---- the revocation list, and what comes after it

    module _ (folder : List ℕ) (signer : Certificate) (manifest : Manifest)
        (once : AreOnce (uris_of folder manifest.files)) (m n : ℕ) where
      same-read : (f g : UriAndHash) → IsListFile folder signer manifest f
          → IsListFile folder signer manifest g → ReadCosts s (list_cost (f.0)) (f.0) n
          → ReadCosts s (list_cost (g.0)) (g.0) n
      same-read f g h k r = subst (λ (x : UriAndHash). ReadCosts s (list_cost (x.0)) (x.0) n)
          (one-list-file s one ca folder signer manifest once f g h k) r

      one-list-cost : ListCosts s folder signer manifest m → ListCosts s folder signer manifest n
          → m ≡ n
      one-list-cost (inl h) (inl g) = h.1 ∙ sym (g.1)
      one-list-cost (inl h) (inr g) = absurd (h.0 (g.0) (g.1))
      one-list-cost (inr h) (inl g) = absurd (g.0 (h.0) (h.1))
      one-list-cost (inr h) (inr g) = one-read (list_cost (h.0.0)) (h.0.0) m n (h.2)
          (same-read (g.0) (h.0) (g.1) (h.1) (g.2))

      list-starts : ListStarts s folder signer manifest m → ListCosts s folder signer manifest n
          → m ≤ n
      list-starts h (inl g) = absurd (g.0 (h.0) (h.1))
      list-starts h (inr g) = read-starts (list_cost (h.0.0)) (h.0.0) m n (h.2)
          (same-read (g.0) (h.0) (g.1) (h.1) (g.2))

    module _ (folder under : List ℕ) (signer : Certificate) (manifest : Manifest)
        (once : AreOnce (uris_of folder manifest.files)) (m n : ℕ) where
      abbrev files : List UriAndHash
      files = uris_of folder manifest.files

      one-listed : ListedCosts s ca folder under signer manifest m
          → ListedCosts s ca folder under signer manifest n → m ≡ n
      one-listed (inl h) (inl g) = one-list-cost folder signer manifest once m n (h.1) (g.1)
      one-listed (inl h) (inr g) = absurd (list-stays s one ca folder signer manifest (g.0) (g.1)
          once (g.4) (h.0.0) (h.0.1))
      one-listed (inr h) (inl g) = absurd (list-stays s one ca folder signer manifest (h.0) (h.1)
          once (h.4) (g.0.0) (g.0.1))
      one-listed (inr h) (inr g) =
          let same = one-list s one ca folder signer manifest (g.0) (h.0) (g.1) (h.1) (g.4) (h.4)
          in
          omega (
            arith,
            h.7,
            g.7,
            one-list-cost folder signer manifest once (h.2) (g.2) (h.5) (g.5),
            one-spent (h.0) (h.1) under files (h.3) (g.3) (h.6)
                (subst (λ (u : List ℕ). FilesCost s ca u (h.1) under files (g.3)
                ⊎ FilesLost s ca u (h.1) under files (g.3)) (same.0)
                (subst (λ (l : RevocationList). FilesCost s ca (g.0) l under files (g.3)
                ⊎ FilesLost s ca (g.0) l under files (g.3)) (same.1) (g.6))),
          )

      listed-starts : ListedStarts s ca folder under signer manifest m
          → ListedCosts s ca folder under signer manifest n → m ≤ n
      listed-starts (inl h) (inl g) = list-starts folder signer manifest once m n h (g.1)
      listed-starts (inl h) (inr g) =
          omega (arith, g.7, list-starts folder signer manifest once m (g.2) h (g.5))
      listed-starts (inr h) (inl g) = absurd (list-stays s one ca folder signer manifest (h.0)
          (h.1) once (h.4) (g.0.0) (g.0.1))
      listed-starts (inr h) (inr g) =
          let same = one-list s one ca folder signer manifest (g.0) (h.0) (g.1) (h.1) (g.4) (h.4)
          in
          omega (
            arith,
            h.7,
            g.7,
            one-list-cost folder signer manifest once (h.2) (g.2) (h.5) (g.5),
            spent-starts (h.0) (h.1) under files (h.3) (g.3) (h.6)
                (subst (λ (u : List ℕ). FilesCost s ca u (h.1) under files (g.3)
                ⊎ FilesLost s ca u (h.1) under files (g.3)) (same.0)
                (subst (λ (l : RevocationList). FilesCost s ca (g.0) l under files (g.3)
                ⊎ FilesLost s ca (g.0) l under files (g.3)) (same.1) (g.6))),
          )

    -- ---- the point

    module _ (folder uri : List ℕ) (m n : ℕ) where
      one-none-cost : NoManifestCosts s ca folder uri m → NoManifestCosts s ca folder uri n
          → m ≡ n
      one-none-cost h g = omega (
        arith,
        h.2.2,
        g.2.2,
        one-read opening_cost uri (h.2.0) (g.2.0) (h.2.1) (g.2.1),
        ap (λ (c : Cause). named_cost c)
            (one-why-manifest s one ca folder uri (h.0) (g.0) (h.1) (g.1)),
      )

      manifest-starts : ManifestStarts s ca folder uri m → NoManifestCosts s ca folder uri n
          → m ≤ n
      manifest-starts (inl h) g =
          omega (arith, g.2.2, read-starts opening_cost uri m (g.2.0) h (g.2.1))
      manifest-starts (inr h) g = omega (arith, one-none-cost h g)

      one-point-cost : PointCosts s ca folder uri m → PointCosts s ca folder uri n → m ≡ n
      one-point-cost (inl h) (inl g) = one-none-cost h g
      one-point-cost (inl h) (inr g) = absurd (manifest-stays s one ca folder uri (g.0) (g.1)
          (g.4) (h.0) (h.1))
      one-point-cost (inr h) (inl g) = absurd (manifest-stays s one ca folder uri (h.0) (h.1)
          (h.4) (g.0) (g.1))
      one-point-cost (inr h) (inr g) =
          let same = one-manifest s one ca folder uri (g.0) (h.0) (g.1) (h.1) (g.4) (h.4) in
          omega (
            arith,
            h.7,
            g.7,
            one-read opening_cost uri (h.2) (g.2) (h.5) (g.5),
            one-listed folder uri (h.0) (h.1) h.4.once (h.3) (g.3) (h.6)
                (subst (λ (c : Certificate). ListedCosts s ca folder uri c (h.1) (g.3)) (same.0)
                (subst (λ (x : Manifest). ListedCosts s ca folder uri (g.0) x (g.3)) (same.1)
                (g.6))),
          )

      point-starts : PointStarts s ca folder uri m → PointCosts s ca folder uri n → m ≤ n
      point-starts (inl h) (inl g) = manifest-starts h g
      point-starts (inl h) (inr g) = elim h [
        | inl r ↦ omega (arith, g.7, read-starts opening_cost uri m (g.2) r (g.5))
        | inr none ↦ absurd (manifest-stays s one ca folder uri (g.0) (g.1) (g.4) (none.0)
            (none.1))
      ]
      point-starts (inr h) (inl g) = absurd (manifest-stays s one ca folder uri (h.0) (h.1)
          (h.4) (g.0) (g.1))
      point-starts (inr h) (inr g) =
          let same = one-manifest s one ca folder uri (g.0) (h.0) (g.1) (h.1) (g.4) (h.4) in
          omega (
            arith,
            h.7,
            g.7,
            one-read opening_cost uri (h.2) (g.2) (h.5) (g.5),
            listed-starts folder uri (h.0) (h.1) h.4.once (h.3) (g.3) (h.6)
                (subst (λ (c : Certificate). ListedCosts s ca folder uri c (h.1) (g.3)) (same.0)
                (subst (λ (x : Manifest). ListedCosts s ca folder uri (g.0) x (g.3)) (same.1)
                (g.6))),
          )

  -- ---- the place

  -- what two points of one place are related by, the place is
  on-place : (p : Place) (A B : List ℕ → List ℕ → ℕ → Type 0) (R : ℕ → ℕ → Type 0) (m n : ℕ)
      → R 1 1 → ((folder uri : List ℕ) → A folder uri m → B folder uri n → R m n)
      → OnPlace p A m → OnPlace p B n → R m n
  on-place p A B R m n r f (inl h) (inl g) =
      subst (λ (k : ℕ). R k n) (sym (h.1)) (subst (λ (k : ℕ). R 1 k) (sym (g.1)) r)
  on-place p A B R m n r f (inl h) (inr g) =
      absurd (names-one s one p.ca (g.0) (g.1) (g.2) (g.3) (h.0))
  on-place p A B R m n r f (inr h) (inl g) =
      absurd (names-one s one p.ca (h.0) (h.1) (h.2) (h.3) (g.0))
  on-place p A B R m n r f (inr h) (inr g) = f (h.0) (h.1) (h.4)
      (subst (λ (k : List ℕ). B k (h.1) n) (one-folder s one p.ca (g.0) (h.0) (g.2) (h.2))
      (subst (λ (u : List ℕ). B (g.0) u n) (one-uri s one p.ca (g.1) (h.1) (g.3) (h.3)) (g.4)))

  pub one-cost : (p : Place) (m n : ℕ) → PlaceCosts s p m → PlaceCosts s p n → m ≡ n
  one-cost p m n h g = on-place p (PointCosts s p.ca) (PointCosts s p.ca) (λ j k. j ≡ k) m n refl
      (λ folder uri. one-point-cost p.ca folder uri m n) h g

  pub exceeds-less : (p : Place) (m n : ℕ) → PlaceExceeds s p m → PlaceCosts s p n → m < n
  exceeds-less p m n h g = omega (
    arith,
    h.2,
    on-place p (PointStarts s p.ca) (PointCosts s p.ca) (λ j k. j ≤ k) (h.0) n (omega arith)
        (λ folder uri. point-starts p.ca folder uri (h.0) n) (h.1) g,
  )
