-- What places say and which children they have, by the files of their publication points.
use Rattle.std.proofs.Common.{◌≡◌, ◌⊎◌, inl, inr, ℕ, List, [], ◌∷◌, ◌++◌, Contains, map, refl}
use Rattle.std.proofs.Common.{sym, subst}
use Rattle.std.proofs.lemmas.List.Elements.{Contains-append_cases}
use Rattle.rpki_basics.specs.Moment.{Moment}
use Rattle.rpki_crls.specs.Crl.{RevocationList}
use Rattle.rpki_certs.specs.Validate.{Validated}
use Rattle.rpki_files.specs.Manifest.Uris.{UriAndHash, uris_of}
use Rattle.rpki_routes.specs.Roa.{addresses, origin_of}
use Rattle.rpki_relying_party.specs.Kind.{kind_of}
use Rattle.rpki_relying_party.specs.Paths.{IsChild, IsSaid}
use Rattle.rpki_relying_party.specs.Point.{Point, IsPointIn, Has, PublishesIn, NamesManifest}
use Rattle.rpki_relying_party.specs.Published.{IsPointOf, PublishedFile, IsPublished}
use Rattle.rpki_relying_party.specs.Published.{PublishesOrigin, PublishesProvider, PublishesPayload}
use Rattle.rpki_relying_party.specs.Published.{PublishesCa, IsPayloadBelow}
use Rattle.rpki_relying_party.specs.Setting.{Setting}
use Rattle.rpki_relying_party.specs.Tells.{RoaTells, AspaTells, CaTells, KindTells, FileTells}
use Rattle.rpki_relying_party.specs.Tells.{FilesTell, Told, PlaceTells, refusal, origin_said}
use Rattle.rpki_relying_party.specs.Tells.{provider_said, child_of, earlier, until_of}
use Rattle.rpki_relying_party.specs.declared.cause.Cause.{Cause}
use Rattle.rpki_relying_party.specs.declared.found.Finding.{Finding}
use Rattle.rpki_relying_party.specs.declared.found.Finding.TheVariants as findings
use Rattle.rpki_relying_party.specs.declared.found.Refusal.{Refusal}
use Rattle.rpki_relying_party.specs.declared.kind.ListedKind.{ListedKind}
use Rattle.rpki_relying_party.specs.declared.kind.ListedKind.TheVariants as kinds
use Rattle.rpki_relying_party.specs.declared.payload.Held.{Held}
use Rattle.rpki_relying_party.specs.declared.payload.Payload.{Payload}
use Rattle.rpki_relying_party.specs.declared.place.Place.{Place}
use Rattle.rpki_relying_party.proofs.Lists.{nothing, all-of, contains-first, contains-rest}
use Rattle.rpki_relying_party.proofs.Lists.{cons-cases, mapped-from}
use Rattle.rpki_relying_party.proofs.Walking.{leads-weaker}

-- ---- lists

none-there : {X : Type 0} (xs : List X) (x : X) → xs ≡ [] → Contains xs x → ⊥
none-there xs x e c = nothing x (subst (λ (l : List _). Contains l x) e c)

one-there : {X : Type 0} (xs : List X) (x y : X) → xs ≡ y ∷ [] → Contains xs x → y ≡ x
one-there xs x y e c = elim (cons-cases y x [] (subst (λ (l : List _). Contains l x) e c)) [
  | inl same ↦ same
  | inr there ↦ absurd (nothing x there)
]

-- ---- findings

one-payload : (x y : Payload) (h g : Held) → findings.Payload x h ≡ findings.Payload y g → y ≡ x
one-payload x y h g e = cc

one-held : (x y : Payload) (h g : Held) → findings.Payload x h ≡ findings.Payload y g → g ≡ h
one-held x y h g e = cc

no-refusal : (r : Refusal) (x : Payload) (h : Held) → findings.Refusal r ≡ findings.Payload x h → ⊥
no-refusal r x h e = absurd cc

only-refused : (said : List Finding) (uri under : List ℕ) (cause : Cause) (x : Payload) (h : Held)
    → said ≡ refusal uri cause under ∷ [] → Contains said (findings.Payload x h) → ⊥
only-refused said uri under cause x h e c =
    no-refusal (record { uri = uri; cause = cause; under = under }) x h
    (one-there said (findings.Payload x h) (refusal uri cause under) e c)

-- ---- what one file tells

module _ (s : Setting) (place : Place) (file : PublishedFile) where
  -- until when the point holds
  abbrev until : Moment
  until = until_of place.until file.point

  module _ (said : List Finding) (x : Payload) (h : Held)
      (c : Contains said (findings.Payload x h)) where
    roa-says : IsPublished s place.ca kinds.Roa file
        → RoaTells s place.ca file.point.list until file.manifest_uri file.uri file.octets said
        → PublishesOrigin s place x h
    roa-says p (inl t) =
        let m = mapped-from (origin_said (earlier until t.0.tbs.validity.not_after) file.uri)
        (map (origin_of t.1.as_id) (addresses (t.1))) (findings.Payload x h)
        (subst (λ (l : List Finding). Contains l (findings.Payload x h)) (t.3) c) in
        record {
          file = file;
          published = p;
          cert = t.0;
          roa = t.1;
          good = t.2;
          origin = m.0;
          named = m.1;
          payload = one-payload _ x _ h (m.2);
          held = one-held _ x _ h (m.2);
        }
    roa-says p (inr t) =
        absurd (only-refused said file.uri file.manifest_uri (t.0) x h (t.2) c)

    aspa-says : IsPublished s place.ca kinds.Aspa file
        → AspaTells s place.ca file.point.list until file.manifest_uri file.uri file.octets said
        → PublishesProvider s place x h
    aspa-says p (inl t) =
        let m = mapped-from
        (provider_said (earlier until t.0.tbs.validity.not_after) file.uri t.1.customer)
        t.1.providers (findings.Payload x h)
        (subst (λ (l : List Finding). Contains l (findings.Payload x h)) (t.3) c) in
        record {
          file = file;
          published = p;
          cert = t.0;
          aspa = t.1;
          good = t.2;
          provider = m.0;
          named = m.1;
          payload = one-payload _ x _ h (m.2);
          held = one-held _ x _ h (m.2);
        }
    aspa-says p (inr t) =
        absurd (only-refused said file.uri file.manifest_uri (t.0) x h (t.2) c)

    ca-says : (children : List Place) → CaTells s place.ca file.point.list until file.manifest_uri
        file.uri file.octets said children → ⊥
    ca-says children (inl t) = none-there said (findings.Payload x h) (t.2) c
    ca-says children (inr (inl t)) = none-there said (findings.Payload x h) (t.2) c
    ca-says children (inr (inr t)) =
        only-refused said file.uri file.manifest_uri (t.0) x h (t.2) c

    kind-says : (kind : ListedKind) (children : List Place) → IsPublished s place.ca kind file
        → KindTells s place.ca file.point.list until file.manifest_uri file.uri file.octets kind
        said children
        → PublishesPayload s place x h
    kind-says kinds.Roa children p t = inl (roa-says p (t.0))
    kind-says kinds.Aspa children p t = inr (aspa-says p (t.0))
    kind-says kinds.Ca children p t = absurd (ca-says children t)
    kind-says kinds.Other children p t =
        absurd (none-there said (findings.Payload x h) (t.0) c)

  module _ (said : List Finding) (children : List Place) (child : Place)
      (c : Contains children child) where
    ca-has : IsPublished s place.ca kinds.Ca file
        → CaTells s place.ca file.point.list until file.manifest_uri file.uri file.octets said
        children
        → PublishesCa s place child
    ca-has p (inl t) = record {
      file = file;
      published = p;
      ca = t.0;
      good = t.1;
      is_child = sym (one-there children child (child_of until file.manifest_uri (t.0)) (t.3) c);
    }
    ca-has p (inr (inl t)) = absurd (none-there children child (t.3) c)
    ca-has p (inr (inr t)) = absurd (none-there children child (t.3) c)

    kind-has : (kind : ListedKind) → IsPublished s place.ca kind file
        → KindTells s place.ca file.point.list until file.manifest_uri file.uri file.octets kind
        said children
        → PublishesCa s place child
    kind-has kinds.Roa p t = absurd (none-there children child (t.1) c)
    kind-has kinds.Aspa p t = absurd (none-there children child (t.1) c)
    kind-has kinds.Ca p t = ca-has p t
    kind-has kinds.Other p t = absurd (none-there children child (t.1) c)

-- ---- what files tell

module _ (s : Setting) (ca : Validated) (list_uri : List ℕ) (list : RevocationList)
    (until : Moment) (under : List ℕ) where
  abbrev IsThere : UriAndHash → Type 0
  IsThere f = (f.0 ≡ list_uri) ⊎ ((octets : List ℕ) × Has s f octets)

  is-there : (file : UriAndHash) (said : List Finding) (children : List Place)
      → FileTells s ca list_uri list until under file said children → IsThere file
  is-there file said children (inl t) = inl (t.0)
  is-there file said children (inr t) = inr (t.1.0, t.1.1)

  -- files that tell something are there
  pub are-there : (files : List UriAndHash) (said : List Finding) (children : List Place)
      → FilesTell s ca list_uri list until under files said children → (f : UriAndHash)
      → Contains files f → IsThere f
  are-there [] said children t f c = absurd (nothing f c)
  are-there (file ∷ files) said children t f c = elim (cons-cases file f files c) [
    | inl e ↦ subst (λ (g : UriAndHash). IsThere g) e
        (is-there file t.0.said t.0.children (t.2))
    | inr there ↦ are-there files t.1.said t.1.children (t.3) f there
  ]

  -- What all the files tell, of which Q holds, one of them does.
  module _ (Q : List Finding → List Place → Type 0)
      (none : (said : List Finding) (children : List Place) → said ≡ [] → children ≡ []
      → Q said children → ⊥)
      (split : (x y : Told) (said : List Finding) (children : List Place)
      → said ≡ x.said ++ y.said → children ≡ x.children ++ y.children → Q said children
      → Q x.said x.children ⊎ Q y.said y.children) where
    pub from-file : (files : List UriAndHash) (said : List Finding) (children : List Place)
        → FilesTell s ca list_uri list until under files said children → Q said children
        → (file : UriAndHash) × (t : Told) × Contains files file
        × FileTells s ca list_uri list until under file t.said t.children × Q t.said t.children
    from-file [] said children t q = absurd (none said children (t.0) (t.1) q)
    from-file (file ∷ files) said children t q =
        elim (split (t.0) (t.1) said children (t.4) (t.5) q) [
          | inl here ↦ (file, t.0, contains-first file files, t.2, here)
          | inr there ↦ (let r = from-file files t.1.said t.1.children (t.3) there in
              (r.0, r.1, contains-rest file (r.0) files (r.2), r.3, r.4))
        ]

-- ---- what a point tells

module _ (s : Setting) (place : Place) (folder uri : List ℕ) (p : Point) (said : List Finding)
    (children : List Place) (named : PublishesIn place.ca folder)
    (names : NamesManifest place.ca uri) (is : IsPointIn s place.ca folder uri p)
    (told : FilesTell s place.ca p.list_uri p.list (until_of place.until p) uri
    (uris_of folder p.manifest.files) said children) where
  point-of : IsPointOf s place.ca folder uri p
  point-of = record {
    folder_named = named;
    manifest_named = names;
    point = is;
    files = all-of (λ (f : UriAndHash).
        (f.0 ≡ p.list_uri) ⊎ ((octets : List ℕ) × Has s f octets)) (uris_of folder p.manifest.files)
        (are-there s place.ca p.list_uri p.list (until_of place.until p) uri
        (uris_of folder p.manifest.files) said children told);
  }

  abbrev file_of : UriAndHash → List ℕ → PublishedFile
  file_of f octets = record {
    point = p;
    manifest_uri = uri;
    uri = f.0;
    hash = f.1;
    octets = octets;
  }

  published : (f : UriAndHash) (octets : List ℕ) → Contains (uris_of folder p.manifest.files) f
      → ¬ (f.0 ≡ p.list_uri) → Has s f octets
      → IsPublished s place.ca (kind_of (f.0)) (file_of f octets)
  published f octets c other has = record {
    folder = folder;
    point = point-of;
    listed = c;
    is_other = other;
    found = has;
    is_kind = refl;
  }

  module _ (x : Payload) (h : Held) where
    file-says : (f : UriAndHash) (t : Told) → Contains (uris_of folder p.manifest.files) f
        → FileTells s place.ca p.list_uri p.list (until_of place.until p) uri f t.said t.children
        → Contains t.said (findings.Payload x h) → PublishesPayload s place x h
    file-says f t c (inl a) q = absurd (none-there t.said (findings.Payload x h) (a.1) q)
    file-says f t c (inr a) q = kind-says s place (file_of f (a.1.0)) t.said x h q (kind_of (f.0))
        t.children (published f (a.1.0) c (a.0) (a.1.1)) (a.1.2)

    pub point-says : Contains said (findings.Payload x h) → PublishesPayload s place x h
    point-says q =
        let r = from-file s place.ca p.list_uri p.list (until_of place.until p) uri
        (λ (l : List Finding) (m : List Place). Contains l (findings.Payload x h))
        (λ l m e f d. none-there l (findings.Payload x h) e d)
        (λ a b l m e f d. Contains-append_cases a.said b.said (findings.Payload x h)
        (subst (λ (n : List Finding). Contains n (findings.Payload x h)) e d))
        (uris_of folder p.manifest.files) said children told q in
        file-says (r.0) (r.1) (r.2) (r.3) (r.4)

  module _ (child : Place) where
    file-has : (f : UriAndHash) (t : Told) → Contains (uris_of folder p.manifest.files) f
        → FileTells s place.ca p.list_uri p.list (until_of place.until p) uri f t.said t.children
        → Contains t.children child → PublishesCa s place child
    file-has f t c (inl a) q = absurd (none-there t.children child (a.2) q)
    file-has f t c (inr a) q = kind-has s place (file_of f (a.1.0)) t.said t.children child q
        (kind_of (f.0)) (published f (a.1.0) c (a.0) (a.1.1)) (a.1.2)

    pub point-has : Contains children child → PublishesCa s place child
    point-has q =
        let r = from-file s place.ca p.list_uri p.list (until_of place.until p) uri
        (λ (l : List Finding) (m : List Place). Contains m child)
        (λ l m e f d. none-there m child f d)
        (λ a b l m e f d. Contains-append_cases a.children b.children child
        (subst (λ (n : List Place). Contains n child) f d))
        (uris_of folder p.manifest.files) said children told q in
        file-has (r.0) (r.1) (r.2) (r.3) (r.4)

-- ---- what a place tells

module _ (s : Setting) (place : Place) (said : List Finding) (children : List Place) where
  place-says : PlaceTells s place said children → (x : Payload) (h : Held)
      → Contains said (findings.Payload x h) → PublishesPayload s place x h
  place-says (inl t) x h c = absurd (none-there said (findings.Payload x h) (t.1) c)
  place-says (inr t) x h c = elim (t.4) [
    | inl point ↦ point-says s place (t.0) (t.1) (point.0) said children (t.2) (t.3) (point.1)
        (point.2) x h c
    | inr none ↦ absurd (only-refused said (t.1) _ (none.0.0) x h (none.0.2) c)
  ]

  pub place-has : PlaceTells s place said children → (child : Place) → Contains children child
      → PublishesCa s place child
  place-has (inl t) child c = absurd (none-there children child (t.2) c)
  place-has (inr t) child c = elim (t.4) [
    | inl point ↦ point-has s place (t.0) (t.1) (point.0) said children (t.2) (t.3) (point.1)
        (point.2) child c
    | inr none ↦ absurd (none-there children child (none.1) c)
  ]

-- What is said from the start on is published below it.
pub said-below : (s : Setting) (start : Place) (x : Payload) (h : Held)
    → IsSaid (PlaceTells s) start (findings.Payload x h) → IsPayloadBelow s start x h
said-below s start x h i = (
  i.0,
  i.1,
  leads-weaker (IsChild (PlaceTells s)) (PublishesCa s)
      (λ p q c. place-has s p (c.0) (c.1) (c.2) q (c.3)) (i.0) start (i.1) (i.2),
  place-says s (i.1) (i.3.0) (i.3.1) (i.3.2) x h (i.3.3),
)
