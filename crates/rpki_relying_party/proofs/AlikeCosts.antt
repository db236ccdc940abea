-- What reading a place costs depends on its CA only by what alike places have in common.
use Rattle.std.proofs.Common.{◌⊎◌, inl, inr, ℕ, ◌*◌, List, [], ◌∷◌, length, subst}
use Rattle.rpki_crls.specs.Crl.{RevocationList}
use Rattle.rpki_certs.specs.Cert.{Certificate}
use Rattle.rpki_certs.specs.Validate.{Validated}
use Rattle.rpki_files.specs.Manifest.{Manifest}
use Rattle.rpki_files.specs.Manifest.Uris.{UriAndHash, uris_of}
use Rattle.rpki_routes.specs.Aspa.{Aspa}
use Rattle.rpki_routes.specs.Aspa.Form.{AspaForm}
use Rattle.rpki_routes.specs.Aspa.Checks.{aspa_kind}
use Rattle.rpki_routes.specs.Roa.{Roa, addresses}
use Rattle.rpki_routes.specs.Roa.Form.{RoaForm}
use Rattle.rpki_routes.specs.Roa.Checks.{roa_kind}
use Rattle.rpki_relying_party.specs.Costs.{payload_cost, waiting_cost, CostsOf, HeldCosts}
use Rattle.rpki_relying_party.specs.Costs.{JudgedCosts, FileCosts, FileStarts, FilesCost, FirstCost}
use Rattle.rpki_relying_party.specs.Costs.{FilesLost, FilesStart, LostCosts, AfterList, ListedCosts}
use Rattle.rpki_relying_party.specs.Costs.{ListedStarts, NoManifestCosts, AfterManifest, PointCosts}
use Rattle.rpki_relying_party.specs.Costs.{PointStarts}
use Rattle.rpki_relying_party.specs.Costs.{OnPlace, PlaceCosts, PlaceExceeds}
use Rattle.rpki_relying_party.specs.Kind.{kind_of}
use Rattle.rpki_relying_party.specs.Place.{AreAlike}
use Rattle.rpki_relying_party.specs.Setting.{Setting}
use Rattle.rpki_relying_party.specs.Tells.{HasRoa, HasAspa, HasCa}
use Rattle.rpki_relying_party.specs.declared.kind.ListedKind.{ListedKind}
use Rattle.rpki_relying_party.specs.declared.kind.ListedKind.TheVariants as kinds
use Rattle.rpki_relying_party.specs.declared.place.Place.{Place}
use Rattle.rpki_relying_party.proofs.Sameness.{mixed, mixed-is, content-to, ca-to, ca-from}
use Rattle.rpki_relying_party.proofs.Sameness.{manifest-at-to, no-manifest-of-to, list-at-to}
use Rattle.rpki_relying_party.proofs.Sameness.{no-list-to}

costs-of-to : {X : Type 0} (A B : X → Type 0) (cost : X → ℕ) (n : ℕ) → ((x : X) → A x → B x)
    → ((x : X) → B x → A x) → CostsOf A cost n → CostsOf B cost n
costs-of-to A B cost n f g (inl h) = inl (h.0, f (h.0) (h.1), h.2)
costs-of-to A B cost n f g (inr h) = inr (λ x b. h.0 x (g x b), h.1)

-- From the first CA to the mixed one.
module _ (s : Setting) (ca by : Validated) where
  abbrev to : Validated
  to = mixed ca by

  module _ (list : RevocationList) where
    held-to : (octets : List ℕ) (kind : ListedKind) (n : ℕ) → HeldCosts s ca list kind octets n
        → HeldCosts s to list kind octets n
    held-to octets kinds.Roa n h = costs-of-to
        (λ (o : Certificate × Roa). HasRoa s ca list octets (o.0) (o.1))
        (λ (o : Certificate × Roa). HasRoa s to list octets (o.0) (o.1))
        (λ o. payload_cost * length (addresses (o.1))) n
        (λ o r. (content-to s ca by roa_kind RoaForm octets list (o.0) (o.1) (r.0), r.1))
        (λ o r. (content-to s to ca roa_kind RoaForm octets list (o.0) (o.1) (r.0), r.1)) h
    held-to octets kinds.Aspa n h = costs-of-to
        (λ (o : Certificate × Aspa). HasAspa s ca list octets (o.0) (o.1))
        (λ (o : Certificate × Aspa). HasAspa s to list octets (o.0) (o.1))
        (λ o. payload_cost * length o.1.providers) n
        (λ o. content-to s ca by aspa_kind (AspaForm s.providers) octets list (o.0) (o.1))
        (λ o. content-to s to ca aspa_kind (AspaForm s.providers) octets list (o.0) (o.1)) h
    held-to octets kinds.Ca n h = costs-of-to (HasCa s ca list octets) (HasCa s to list octets)
        (waiting_cost octets) n (ca-to s ca by list octets) (ca-from s ca by list octets) h
    held-to octets kinds.Other n h = h

    module _ (list_uri under : List ℕ) where
      judged-to : (file : UriAndHash) (n : ℕ) → JudgedCosts s ca list under file n
          → JudgedCosts s to list under file n
      judged-to file n h =
          (h.0, h.1, h.2, held-to (h.0) (kind_of (file.0)) (h.1) (h.3), h.4)

      file-to : (file : UriAndHash) (n : ℕ) → FileCosts s ca list_uri list under file n
          → FileCosts s to list_uri list under file n
      file-to file n (inl h) = inl h
      file-to file n (inr h) = inr (h.0, judged-to file n (h.1))

      starts-to : (file : UriAndHash) (n : ℕ) → FileStarts s ca list_uri list under file n
          → FileStarts s to list_uri list under file n
      starts-to file n h = (
        h.0,
        elim (h.1) [
          | inl r ↦ inl r
          | inr j ↦ inr (judged-to file n j)
        ],
      )

      files-to : (files : List UriAndHash) (n : ℕ) → FilesCost s ca list_uri list under files n
          → FilesCost s to list_uri list under files n
      files-to [] n h = h
      files-to (file ∷ files) n h =
          (h.0, h.1, file-to file (h.0) (h.2), files-to files (h.1) (h.3), h.4)

      first-to : (A B : UriAndHash → ℕ → Type 0)
          → ((file : UriAndHash) (n : ℕ) → A file n → B file n) → (files : List UriAndHash) (n : ℕ)
          → FirstCost s ca list_uri list under A files n
          → FirstCost s to list_uri list under B files n
      first-to A B f files n h = record {
        before = h.before;
        file = h.file;
        after = h.after;
        order = h.order;
        first = h.first;
        next = h.next;
        spent_first = files-to h.before h.first h.spent_first;
        spent_next = f h.file h.next h.spent_next;
        sum = h.sum;
      }

      all-to : (files : List UriAndHash) (n : ℕ)
          → FilesCost s ca list_uri list under files n ⊎ FilesLost s ca list_uri list under files n
          → FilesCost s to list_uri list under files n ⊎ FilesLost s to list_uri list under files n
      all-to files n (inl h) = inl (files-to files n h)
      all-to files n (inr h) = inr (first-to (LostCosts s ca list_uri under)
          (LostCosts s to list_uri under) (λ file n l. l) files n h)

      some-to : (files : List UriAndHash) (n : ℕ) → FilesStart s ca list_uri list under files n
          → FilesStart s to list_uri list under files n
      some-to files n h = first-to (FileStarts s ca list_uri list under)
          (FileStarts s to list_uri list under) starts-to files n h

  module _ (folder under : List ℕ) where
    module _ (signer : Certificate) (manifest : Manifest) where
      after-list-to : (A B : List ℕ → RevocationList → List UriAndHash → ℕ → Type 0)
          → ((uri : List ℕ) (list : RevocationList) (files : List UriAndHash) (n : ℕ)
          → A uri list files n → B uri list files n) → (n : ℕ)
          → AfterList s ca folder signer manifest A n → AfterList s to folder signer manifest B n
      after-list-to A B f n h = (
        h.0,
        h.1,
        h.2,
        h.3,
        list-at-to s ca by folder under signer manifest (h.0) (h.1) (h.4),
        h.5,
        f (h.0) (h.1) (uris_of folder manifest.files) (h.3) (h.6),
        h.7,
      )

      listed-to : (n : ℕ) → ListedCosts s ca folder under signer manifest n
          → ListedCosts s to folder under signer manifest n
      listed-to n (inl h) = inl (
        (
          h.0.0,
          no-list-to s ca by folder under signer manifest (h.0.0) (h.0.1),
        ),
        h.1,
      )
      listed-to n (inr h) = inr (after-list-to
          (λ uri list files m. FilesCost s ca uri list under files m
          ⊎ FilesLost s ca uri list under files m)
          (λ uri list files m. FilesCost s to uri list under files m
          ⊎ FilesLost s to uri list under files m)
          (λ uri list. all-to list uri under) n h)

      listed-starts-to : (n : ℕ) → ListedStarts s ca folder under signer manifest n
          → ListedStarts s to folder under signer manifest n
      listed-starts-to n (inl h) = inl h
      listed-starts-to n (inr h) = inr (after-list-to
          (λ uri list files m. FilesStart s ca uri list under files m)
          (λ uri list files m. FilesStart s to uri list under files m)
          (λ uri list. some-to list uri under) n h)

    after-manifest-to : (A B : Certificate → Manifest → ℕ → Type 0)
        → ((signer : Certificate) (manifest : Manifest) (n : ℕ) → A signer manifest n
        → B signer manifest n) → (n : ℕ) → AfterManifest s ca folder under A n
        → AfterManifest s to folder under B n
    after-manifest-to A B f n h = (
      h.0,
      h.1,
      h.2,
      h.3,
      manifest-at-to s ca by folder under (h.0) (h.1) (h.4),
      h.5,
      f (h.0) (h.1) (h.3) (h.6),
      h.7,
    )

    none-to : (n : ℕ) → NoManifestCosts s ca folder under n → NoManifestCosts s to folder under n
    none-to n h = (h.0, no-manifest-of-to s ca by folder under (h.0) (h.1), h.2)

    point-to : (n : ℕ) → PointCosts s ca folder under n → PointCosts s to folder under n
    point-to n (inl h) = inl (none-to n h)
    point-to n (inr h) = inr (after-manifest-to (ListedCosts s ca folder under)
        (ListedCosts s to folder under) listed-to n h)

    point-starts-to : (n : ℕ) → PointStarts s ca folder under n → PointStarts s to folder under n
    point-starts-to n (inl h) = inl (elim h [
      | inl r ↦ inl r
      | inr none ↦ inr (none-to n none)
    ])
    point-starts-to n (inr h) = inr (after-manifest-to (ListedStarts s ca folder under)
        (ListedStarts s to folder under) listed-starts-to n h)

-- ---- alike places

module _ (s : Setting) (p q : Place) (e : AreAlike p q)
    (A : Validated → List ℕ → List ℕ → ℕ → Type 0) (f : (folder uri : List ℕ) (n : ℕ) → A p.ca folder uri n
    → A (mixed p.ca q.ca) folder uri n) where
  abbrev at : Validated → Place
  at ca = record { ca = ca; until = q.until; listed_by = q.listed_by }

  on-to : (n : ℕ) → OnPlace p (A p.ca) n → OnPlace q (A q.ca) n
  on-to n h = subst (λ (ca : Validated). OnPlace (at ca) (A ca) n) (mixed-is p q e) (elim h [
    | inl none ↦ inl none
    | inr there ↦ inr (
      there.0,
      there.1,
      there.2,
      there.3,
      f (there.0) (there.1) n (there.4),
    )
  ])

module _ (s : Setting) (p q : Place) (e : AreAlike p q) where
  pub alike-costs : (n : ℕ) → PlaceCosts s p n → PlaceCosts s q n
  alike-costs = on-to s p q e (PointCosts s) (point-to s p.ca q.ca)

  pub alike-exceeds : (n : ℕ) → PlaceExceeds s p n → PlaceExceeds s q n
  alike-exceeds n h =
      (h.0, on-to s p q e (PointStarts s) (point-starts-to s p.ca q.ca) (h.0) (h.1), h.2)
