-- What is published is told, where a copy finds one thing for each URI, and so a run finds it.
use Rattle.std.proofs.Common.{◌≡◌, ◌⊎◌, inl, inr, ℕ, List, [], ◌∷◌, Contains, All, map, refl}
use Rattle.std.proofs.Common.{sym, subst, ap, ◌∙◌, ◌++◌}
use Rattle.std.proofs.lemmas.List.Elements.{All-contains, Contains-append_left}
use Rattle.std.proofs.lemmas.List.Elements.{Contains-append_right}
use Rattle.rpki_basics.specs.Moment.{Moment}
use Rattle.rpki_crls.specs.Crl.{RevocationList}
use Rattle.rpki_certs.specs.Cert.{Certificate}
use Rattle.rpki_certs.specs.Validate.{Validated}
use Rattle.rpki_files.specs.Manifest.Uris.{UriAndHash, uris_of}
use Rattle.rpki_routes.specs.Aspa.{Aspa}
use Rattle.rpki_routes.specs.Aspa.Form.{AspaForm}
use Rattle.rpki_routes.specs.Aspa.Checks.{aspa_kind}
use Rattle.rpki_routes.specs.Roa.{Roa, addresses, origin_of}
use Rattle.rpki_routes.specs.Roa.Form.{RoaForm}
use Rattle.rpki_routes.specs.Roa.Checks.{roa_kind}
use Rattle.rpki_tal.specs.Tal.{Locator}
use Rattle.rpki_relying_party.specs.Costs.{PlaceCosts, PlaceExceeds}
use Rattle.rpki_relying_party.specs.Found.{Lists, HasAsLong}
use Rattle.rpki_relying_party.specs.Kind.{kind_of}
use Rattle.rpki_relying_party.specs.Paths.{Leads, Passes}
use Rattle.rpki_relying_party.specs.Place.{AreAlike, key_of}
use Rattle.rpki_relying_party.specs.Point.{Point}
use Rattle.rpki_relying_party.specs.Published.{PublishedFile, IsPublished, PublishesOrigin, held_by}
use Rattle.rpki_relying_party.specs.Published.{PublishesProvider, PublishesPayload, PublishesCa}
use Rattle.rpki_relying_party.specs.Published.{HoldsPayload, FindsPublished}
use Rattle.rpki_relying_party.specs.Runs.{IsRunUnder}
use Rattle.rpki_relying_party.specs.Same.{FindsOne}
use Rattle.rpki_relying_party.specs.Setting.{Setting}
use Rattle.rpki_relying_party.specs.Tells.{HasRoa, HasAspa, HasCa, RoaTells, AspaTells, CaTells}
use Rattle.rpki_relying_party.specs.Tells.{KindTells, FileTells, FilesTell, Told, PointTells}
use Rattle.rpki_relying_party.specs.Tells.{NoPointTells, PlaceTells, origin_said, origins_said}
use Rattle.rpki_relying_party.specs.Tells.{provider_said, providers_said, child_of, earlier}
use Rattle.rpki_relying_party.specs.Tells.{until_of}
use Rattle.rpki_relying_party.specs.Walk.{HasKey, Left, Read, places_left}
use Rattle.rpki_relying_party.specs.declared.found.Finding.{Finding}
use Rattle.rpki_relying_party.specs.declared.found.Finding.TheVariants as findings
use Rattle.rpki_relying_party.specs.declared.found.Found.{Found}
use Rattle.rpki_relying_party.specs.declared.kind.ListedKind.{ListedKind}
use Rattle.rpki_relying_party.specs.declared.kind.ListedKind.TheVariants as kinds
use Rattle.rpki_relying_party.specs.declared.payload.Held.{Held}
use Rattle.rpki_relying_party.specs.declared.payload.Payload.{Payload}
use Rattle.rpki_relying_party.specs.declared.place.Place.{Place}
use Rattle.rpki_relying_party.proofs.Chains as chains
use Rattle.rpki_relying_party.proofs.Keyed.{same-key}
use Rattle.rpki_relying_party.proofs.Lists.{nothing, contains-first, contains-mapped, cons-cases}
use Rattle.rpki_relying_party.proofs.OneAnchor.{one-start}
use Rattle.rpki_relying_party.proofs.OneChild.{one-ca}
use Rattle.rpki_relying_party.proofs.OneObject.{one-content}
use Rattle.rpki_relying_party.proofs.OnePoint.{has-one, one-folder, one-uri, names-one, one-point}
use Rattle.rpki_relying_party.proofs.OnePoint.{point-stays}
use Rattle.rpki_relying_party.proofs.OneTelling.{roa-not-refused, aspa-not-refused}
use Rattle.rpki_relying_party.proofs.OneTelling.{ca-not-refused}
use Rattle.rpki_relying_party.proofs.Sameness.{alike-tells}

-- all of the first list is in the second
abbrev AreIn : {X : Type 0} → List X → List X → Type 0
AreIn {X} xs ys = (x : X) → Contains xs x → Contains ys x

module _ {X : Type 0} (xs ys all : List X) (e : all ≡ xs ++ ys) where
  front-in : AreIn xs all
  front-in x c = subst (λ (l : List X). Contains l x) (sym e) (Contains-append_left xs ys x c)

  back-in : AreIn ys all
  back-in x c = subst (λ (l : List X). Contains l x) (sym e) (Contains-append_right xs ys x c)

-- ---- what octets tell that hold something good

module _ (s : Setting) (ca : Validated) (list : RevocationList) (until : Moment)
    (under uri octets : List ℕ) (said : List Finding) where
  roa-says : (cert : Certificate) (roa : Roa) → HasRoa s ca list octets cert roa
      → RoaTells s ca list until under uri octets said
      → said ≡ origins_said (earlier until cert.tbs.validity.not_after) uri roa
  roa-says cert roa h (inl t) =
      let same = one-content s roa_kind RoaForm ca list octets (t.0) cert (t.1) roa (t.2.0) (h.0)
      in
      t.3
      ∙ ap (λ (c : Certificate).
      origins_said (earlier until c.tbs.validity.not_after) uri (t.1)) (same.0)
      ∙ ap (λ (r : Roa). origins_said (earlier until cert.tbs.validity.not_after) uri r) (same.1)
  roa-says cert roa h (inr t) =
      absurd (roa-not-refused s ca list octets cert roa h (t.0) (t.1))

  aspa-says : (cert : Certificate) (aspa : Aspa) → HasAspa s ca list octets cert aspa
      → AspaTells s ca list until under uri octets said
      → said ≡ providers_said (earlier until cert.tbs.validity.not_after) uri aspa
  aspa-says cert aspa h (inl t) =
      let same = one-content s aspa_kind (AspaForm s.providers) ca list octets (t.0) cert (t.1) aspa
      (t.2) h in
      t.3
      ∙ ap (λ (c : Certificate).
      providers_said (earlier until c.tbs.validity.not_after) uri (t.1)) (same.0)
      ∙ ap (λ (a : Aspa). providers_said (earlier until cert.tbs.validity.not_after) uri a) (same.1)
  aspa-says cert aspa h (inr t) =
      absurd (aspa-not-refused s ca list octets cert aspa h (t.0) (t.1))

  ca-has : (children : List Place) (v : Validated) → HasCa s ca list octets v
      → CaTells s ca list until under uri octets said children
      → children ≡ child_of until under v ∷ []
  ca-has children v h (inl t) = t.3
      ∙ ap (λ (w : Validated). child_of until under w ∷ [])
      (one-ca s ca list octets (t.0) v (t.1) h)
  ca-has children v h (inr (inl t)) = absurd (t.0 v h)
  ca-has children v h (inr (inr t)) =
      absurd (ca-not-refused s ca list octets v h (t.0) (t.1))

-- ---- what one of the files tells is told by all

module _ (s : Setting) (ca : Validated) (list_uri : List ℕ) (list : RevocationList)
    (until : Moment) (under : List ℕ) (file : UriAndHash) where
  abbrev IsToldIn : List Finding → List Place → Type 0
  IsToldIn said children = (t : Told)
      × FileTells s ca list_uri list until under file t.said t.children
      × AreIn t.said said × AreIn t.children children

  by-file : (files : List UriAndHash) → Contains files file → (said : List Finding)
      (children : List Place) → FilesTell s ca list_uri list until under files said children
      → IsToldIn said children
  by-file [] c said children t = absurd (nothing file c)
  by-file (f ∷ files) c said children t = elim (cons-cases f file files c) [
    | inl e ↦ (
      t.0,
      subst (λ (g : UriAndHash).
          FileTells s ca list_uri list until under g t.0.said t.0.children) e (t.2),
      front-in t.0.said t.1.said said (t.4),
      front-in t.0.children t.1.children children (t.5),
    )
    | inr there ↦ (let r = by-file files there t.1.said t.1.children (t.3) in (
      r.0,
      r.1,
      λ x d. back-in t.0.said t.1.said said (t.4) x (r.2 x d),
      λ x d. back-in t.0.children t.1.children children (t.5) x (r.3 x d),
    ))
  ]

-- ---- what a place tells of a file that it publishes

module _ (s : Setting) (one : FindsOne s) (place : Place) (said : List Finding)
    (children : List Place) (tells : PlaceTells s place said children) where
  module _ (kind : ListedKind) (file : PublishedFile)
      (p : IsPublished s place.ca kind file) where
    abbrev until : Moment
    until = until_of place.until file.point

    abbrev IsToldOf : Type 0
    IsToldOf = (t : Told)
        × KindTells s place.ca file.point.list until file.manifest_uri file.uri file.octets kind
        t.said t.children
        × AreIn t.said said × AreIn t.children children

    by-octets : (t : Told) → FileTells s place.ca file.point.list_uri file.point.list until
        file.manifest_uri (file.uri, file.hash) t.said t.children
        → KindTells s place.ca file.point.list until file.manifest_uri file.uri file.octets kind
        t.said t.children
    by-octets t (inl h) = absurd (p.is_other (h.0))
    by-octets t (inr h) = subst (λ (k : ListedKind). KindTells s place.ca file.point.list until
        file.manifest_uri file.uri file.octets k t.said t.children) p.is_kind
        (subst (λ (o : List ℕ). KindTells s place.ca file.point.list until file.manifest_uri
        file.uri o (kind_of file.uri) t.said t.children)
        (has-one s one (file.uri, file.hash) (h.1.0) file.octets (h.1.1) p.found) (h.1.2))

    by-point : PointTells s place p.folder file.manifest_uri said children → IsToldOf
    by-point h =
        let same : h.0 ≡ file.point = one-point s one place.ca p.folder file.manifest_uri (h.0)
        file.point (h.1) p.point.point in
        let r = by-file s place.ca file.point.list_uri file.point.list until file.manifest_uri
        (file.uri, file.hash) (uris_of p.folder file.point.manifest.files) p.listed said children
        (subst (λ (q : Point). FilesTell s place.ca q.list_uri q.list (until_of place.until q)
        file.manifest_uri (uris_of p.folder q.manifest.files) said children) same (h.2)) in
        (r.0, by-octets (r.0) (r.1), r.2, r.3)

    by-named : PointTells s place p.folder file.manifest_uri said children
        ⊎ (NoPointTells s place p.folder file.manifest_uri said × (children ≡ [])) → IsToldOf
    by-named (inl h) = by-point h
    by-named (inr h) = absurd (point-stays s one place.ca p.folder file.manifest_uri file.point
        p.point.point p.point.files (h.0.0) (h.0.1))

    by-place : PlaceTells s place said children → IsToldOf
    by-place (inl h) = absurd (names-one s one place.ca p.folder file.manifest_uri
        p.point.folder_named p.point.manifest_named (h.0))
    by-place (inr h) = by-named (subst (λ (f : List ℕ).
        PointTells s place f file.manifest_uri said children
        ⊎ (NoPointTells s place f file.manifest_uri said × (children ≡ [])))
        (one-folder s one place.ca (h.0) p.folder (h.2) p.point.folder_named)
        (subst (λ (u : List ℕ). PointTells s place (h.0) u said children
        ⊎ (NoPointTells s place (h.0) u said × (children ≡ [])))
        (one-uri s one place.ca (h.1) file.manifest_uri (h.3) p.point.manifest_named) (h.4)))

  -- ---- what it publishes is told

  module _ (x : Payload) (h : Held) where
    origin-told : PublishesOrigin s place x h → Contains said (findings.Payload x h)
    origin-told o =
        let until = until_of place.until o.file.point in
        let end = earlier until o.cert.tbs.validity.not_after in
        let t = by-place kinds.Roa o.file o.published tells in
        let says = roa-says s place.ca o.file.point.list until o.file.manifest_uri o.file.uri
        o.file.octets t.0.said o.cert o.roa o.good (t.1.0) in
        t.2 (findings.Payload x h) (subst (λ (l : List Finding).
        Contains l (findings.Payload x h)) (sym says) (subst (λ (f : Finding).
        Contains (origins_said end o.file.uri o.roa) f)
        (λ i. findings.Payload (sym o.payload i) (sym o.held i))
        (contains-mapped (origin_said end o.file.uri)
        (map (origin_of o.roa.as_id) (addresses o.roa)) o.origin o.named)))

    provider-told : PublishesProvider s place x h → Contains said (findings.Payload x h)
    provider-told o =
        let until = until_of place.until o.file.point in
        let end = earlier until o.cert.tbs.validity.not_after in
        let t = by-place kinds.Aspa o.file o.published tells in
        let says = aspa-says s place.ca o.file.point.list until o.file.manifest_uri o.file.uri
        o.file.octets t.0.said o.cert o.aspa o.good (t.1.0) in
        t.2 (findings.Payload x h) (subst (λ (l : List Finding).
        Contains l (findings.Payload x h)) (sym says) (subst (λ (f : Finding).
        Contains (providers_said end o.file.uri o.aspa) f)
        (λ i. findings.Payload (sym o.payload i) (sym o.held i))
        (contains-mapped (provider_said end o.file.uri o.aspa.customer) o.aspa.providers
        o.provider o.named)))

    pub payload-told : PublishesPayload s place x h → Contains said (findings.Payload x h)
    payload-told (inl o) = origin-told o
    payload-told (inr o) = provider-told o

  pub ca-told : (child : Place) → PublishesCa s place child → Contains children child
  ca-told child c =
      let until = until_of place.until c.file.point in
      let t = by-place kinds.Ca c.file c.published tells in
      let has = ca-has s place.ca c.file.point.list until c.file.manifest_uri c.file.uri
      c.file.octets t.0.said t.0.children c.ca c.good (t.1) in
      t.3 child (subst (λ (l : List Place). Contains l child) (sym has)
      (subst (λ (d : Place). Contains (child_of until c.file.manifest_uri c.ca ∷ []) d)
      (sym c.is_child) (contains-first (child_of until c.file.manifest_uri c.ca) [])))

-- ---- what a place publishes is told by one that is alike

module _ (s : Setting) (one : FindsOne s) (p q : Place) (alike : AreAlike q p)
    (said : List Finding) (children : List Place) (tells : PlaceTells s q said children) where
  -- the CA of the first, reached as the second
  abbrev same : Place
  same = record { ca = p.ca; until = q.until; listed_by = q.listed_by }

  tells-same : PlaceTells s same said children
  tells-same = alike-tells s q p alike said children tells

  origin-alike : (x : Payload) (h : Held) → PublishesOrigin s p x h
      → (k : Held) × Contains said (findings.Payload x k)
  origin-alike x h o =
      let k = held_by same o.file o.cert in (
        k,
        payload-told s one same said children tells-same x k (inl (record {
          file = o.file;
          published = o.published;
          cert = o.cert;
          roa = o.roa;
          good = o.good;
          origin = o.origin;
          named = o.named;
          payload = o.payload;
          held = refl;
        })),
      )

  provider-alike : (x : Payload) (h : Held) → PublishesProvider s p x h
      → (k : Held) × Contains said (findings.Payload x k)
  provider-alike x h o =
      let k = held_by same o.file o.cert in (
        k,
        payload-told s one same said children tells-same x k (inr (record {
          file = o.file;
          published = o.published;
          cert = o.cert;
          aspa = o.aspa;
          good = o.good;
          provider = o.provider;
          named = o.named;
          payload = o.payload;
          held = refl;
        })),
      )

  payload-alike : (x : Payload) (h : Held) → PublishesPayload s p x h
      → (k : Held) × Contains said (findings.Payload x k)
  payload-alike x h (inl o) = origin-alike x h o
  payload-alike x h (inr o) = provider-alike x h o

  ca-alike : (child : Place) → PublishesCa s p child → HasKey key_of children (key_of child)
  ca-alike child c =
      let d = child_of (until_of q.until c.file.point) c.file.manifest_uri c.ca in (
        d,
        ca-told s one same said children tells-same d (record {
          file = c.file;
          published = c.published;
          ca = c.ca;
          good = c.good;
          is_child = refl;
        }),
        sym (ap key_of c.is_child),
      )

-- ---- what is published below the trust anchor is found

module _ (s : Setting) (one : FindsOne s) (tal : Locator) (limit : ℕ) (old new : Found)
    (unread : List (Left Place)) (run : IsRunUnder s tal limit old new unread) where
  told : (r : Read Place Finding) → Contains run.3.reads r
      → PlaceTells s r.place r.said r.children
  told r c = All-contains (λ r. PlaceTells s r.place r.said r.children) run.3.reads r run.3.told c

  reached : (path : List Place) (place : Place) → Leads (PublishesCa s) run.0.place path place
      → ((r : Read Place Finding) × Contains run.3.reads r × (key_of r.place ≡ key_of place))
      ⊎ Passes key_of (places_left unread) run.0.place path
  reached = chains.reached (PlaceTells s) (PlaceCosts s) (PlaceExceeds s) key_of (Lists old)
      (Lists new) (HasAsLong old) (HasAsLong new) (run.0) limit unread (run.3) (PublishesCa s)
      (λ p c r h. ca-alike s one p r.0.place (same-key r.0.place p (r.2)) r.0.said r.0.children
      (told (r.0) (r.1)) c h)

  held : (r : Read Place Finding) → Contains run.3.reads r → (place : Place)
      → key_of r.place ≡ key_of place → (x : Payload) (h : Held) → PublishesPayload s place x h
      → HoldsPayload new x
  held r c place e x h p =
      let k = payload-alike s one place r.place (same-key r.place place e) r.said r.children
      (told r c) x h p in
      let g = All-contains (HasAsLong new) r.said (findings.Payload x (k.0)) (All-contains
      (λ r. All (HasAsLong new) r.said) run.3.reads r run.3.kept c) (k.1) in
      (g.0, g.1)

  below-first : (place : Place) (path : List Place) (x : Payload) (h : Held)
      → Leads (PublishesCa s) run.0.place path place → PublishesPayload s place x h
      → HoldsPayload new x ⊎ Passes key_of (places_left unread) run.0.place path
  below-first place path x h leads p = elim (reached path place leads) [
    | inl r ↦ inl (held (r.0) (r.1) place (r.2) x h p)
    | inr left ↦ inr left
  ]

  pub finds-published : FindsPublished s tal new unread
  finds-published start place path x h is leads p =
      let same : run.0.place ≡ start = one-start s one tal run.0.place start (run.1) is in
      subst (λ (b : Place). HoldsPayload new x ⊎ Passes key_of (places_left unread) b path) same
      (below-first place path x h
      (subst (λ (b : Place). Leads (PublishesCa s) b path place) (sym same) leads) p)
