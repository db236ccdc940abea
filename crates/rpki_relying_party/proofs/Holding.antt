-- What is published holds until the earliest end of what leads to it.
use Rattle.std.proofs.Common.{◌≡◌, inl, inr, ℕ, ◌≤◌, ◌<◌, List, [], ◌∷◌, Bool, true, false, refl}
use Rattle.std.proofs.Common.{sym, subst, arith}
use Rattle.std.proofs.lemmas.List.Elements.{All-contains, Contains-append_left}
use Rattle.std.proofs.lemmas.List.Elements.{Contains-append_right}
use Rattle.std.specs.Prelude.{◌++◌, Contains, nat_le, if◌then◌else◌}
use Rattle.std.proofs.lemmas.Bool.{leb-true, leb-false, cases_lt}
use Rattle.rpki_der.specs.declared.mode.Mode.TheVariants.{Der}
use Rattle.rpki_basics.specs.Moment.{Moment, stamp}
use Rattle.rpki_basics.specs.declared.limits.ManifestRule.TheVariants.{Any}
use Rattle.rpki_crls.specs.Crl.{RevocationList}
use Rattle.rpki_faults.specs.Checks.{AllHold}
use Rattle.rpki_certs.specs.Cert.{Certificate, KeptCertificate}
use Rattle.rpki_certs.specs.Inspect.{ca_checks}
use Rattle.rpki_certs.specs.Validate.{Validated, IsGoodUnder, IsValidatedUnder, ca_validation}
use Rattle.rpki_certs.specs.Validate.{IsAnchorOf as HasClaimed, ta_validation}
use Rattle.rpki_certs.proofs.Valid.{anchor-valid, issued-valid}
use Rattle.rpki_files.specs.Manifest.{Manifest, ManifestForm}
use Rattle.rpki_files.specs.Manifest.Checks.{manifest_kind}
use Rattle.rpki_routes.specs.Aspa.Form.{AspaForm}
use Rattle.rpki_routes.specs.Aspa.Checks.{aspa_kind}
use Rattle.rpki_routes.specs.Roa.Form.{RoaForm}
use Rattle.rpki_routes.specs.Roa.Checks.{roa_kind}
use Rattle.rpki_sigobj.specs.Object.{SignedData}
use Rattle.rpki_sigobj.specs.Signed.{Whole}
use Rattle.rpki_sigobj.specs.Signed.Kind.{ObjectKind}
use Rattle.rpki_sigobj.specs.Signed.Process.{validation}
use Rattle.rpki_sigobj.proofs.Valid.{published-valid, detached-valid}
use Rattle.rpki_tal.specs.Tal.{Locator}
use Rattle.rpki_tal.specs.Uri.{https_first}
use Rattle.rpki_relying_party.specs.Anchors.{IsAnchorOf, IsGoodFor, HasAnchor, Lacks, candidates}
use Rattle.rpki_relying_party.specs.Anchors.{HasBegun, HaveBegun}
use Rattle.rpki_relying_party.specs.Paths.{Leads}
use Rattle.rpki_relying_party.specs.Point.{Point, IsPointIn, HasGood, IsUnrevoked}
use Rattle.rpki_relying_party.specs.Published.{IsPointOf, PublishedFile, IsPublished, held_by}
use Rattle.rpki_relying_party.specs.Published.{PublishesPayload, PublishesCa}
use Rattle.rpki_relying_party.specs.Published.{at_moment}
use Rattle.rpki_relying_party.specs.Setting.{Setting, IsWithin}
use Rattle.rpki_relying_party.specs.Tells.{HasContent, HasCa, earlier, until_of}
use Rattle.rpki_relying_party.specs.declared.kind.ListedKind.{ListedKind}
use Rattle.rpki_relying_party.specs.declared.kind.ListedKind.TheVariants as kinds
use Rattle.rpki_relying_party.specs.declared.payload.Held.{Held}
use Rattle.rpki_relying_party.specs.declared.payload.Payload.{Payload}
use Rattle.rpki_relying_party.specs.declared.place.Place.{Place}
use Rattle.rpki_relying_party.proofs.Lists.{all-of, contains-first}

-- ---- the earlier of two moments

le-trans : (a b c : ℕ) → a ≤ b → b ≤ c → a ≤ c
le-trans a b c h g = omega (arith, h, g)

not-after : (a b : ℕ) → (¬ (a < b)) → b ≤ a
not-after a b h = elim (cases_lt a b) [
  | inl l ↦ absurd (h l)
  | inr l ↦ l
]

le-below : (a b c : ℕ) → a ≤ c → c < b → a ≤ b
le-below a b c h g = omega (arith, h, g)

-- What is at most the stamp of the one that is picked is at most both.
picked : (n : ℕ) (a b : Moment) (x : Bool) → nat_le (stamp a) (stamp b) ≡ x
    → n ≤ stamp (if x then a else b) → (n ≤ stamp a) × (n ≤ stamp b)
picked n a b true e l = (l, le-trans n (stamp a) (stamp b) l (leb-true (stamp a) (stamp b) e))
picked n a b false e l = (le-below n (stamp a) (stamp b) l (leb-false (stamp a) (stamp b) e), l)

both : (n : ℕ) (a b : Moment) → n ≤ stamp (earlier a b) → (n ≤ stamp a) × (n ≤ stamp b)
both n a b l = picked n a b (nat_le (stamp a) (stamp b)) refl l

-- The moment is at most each end of what leads to a point.
record IsBefore (n : ℕ) (until : Moment) (p : Point) : Type 0 where
  above : n ≤ stamp until
  signer : n ≤ stamp p.signer.tbs.validity.not_after
  manifest : n ≤ stamp p.manifest.next_update
  list : n ≤ stamp p.list.tbs.next_update

before : (n : ℕ) (until : Moment) (p : Point) → n ≤ stamp (until_of until p) → IsBefore n until p
before n until p l =
    let ends = both n until (earlier p.signer.tbs.validity.not_after
    (earlier p.manifest.next_update p.list.tbs.next_update)) l in
    let below = both n p.signer.tbs.validity.not_after
    (earlier p.manifest.next_update p.list.tbs.next_update) (ends.1) in
    let last = both n p.manifest.next_update p.list.tbs.next_update (below.1) in
    record { above = ends.0; signer = below.0; manifest = last.0; list = last.1 }

-- ---- what is checked at a moment

module _ (s : Setting) (t : Moment) (later : stamp s.now ≤ stamp t) where
  within : (this next : Moment) → IsWithin this next s.now → stamp t ≤ stamp next
      → IsWithin this next t
  within this next w l = (le-trans (stamp this) (stamp s.now) (stamp t) (w.0) later, l)

  -- a certificate that its issuer signed
  good-still : (c : Certificate) (issuer : Validated) → IsGoodUnder s.verdict c issuer s.now
      → stamp t ≤ stamp c.tbs.validity.not_after → IsGoodUnder s.verdict c issuer t
  good-still c issuer g l = record {
    claimed = g.claimed;
    in_time = within c.tbs.validity.not_before c.tbs.validity.not_after g.in_time l;
    signed = g.signed;
    allowed = g.allowed;
  }

  ca-still : (c : Certificate) (issuer : Validated)
      → AllHold (ca_validation s.verdict c issuer s.now)
      → stamp t ≤ stamp c.tbs.validity.not_after → AllHold (ca_validation s.verdict c issuer t)
  unfolding ca_validation
  ca-still c issuer h l =
      let v = (issued-valid (ca_checks c.tbs) s.verdict c issuer s.now).0 h in
      (issued-valid (ca_checks c.tbs) s.verdict c issuer t).1
      (v.0, good-still c issuer (v.1) l)

  -- a signed object
  object-still : (is_published : Bool) (o : SignedData) (issuer : Validated)
      → AllHold (validation is_published s.digest s.verdict o issuer s.now)
      → stamp t ≤ stamp o.cert.tbs.validity.not_after
      → AllHold (validation is_published s.digest s.verdict o issuer t)
  object-still true o issuer h l =
      let v = (published-valid s.digest s.verdict o issuer s.now).0 h in
      (published-valid s.digest s.verdict o issuer t).1
      (v.0, v.1, good-still o.cert issuer (v.2) l)
  object-still false o issuer h l =
      let v = (detached-valid s.digest s.verdict o issuer s.now).0 h in
      (detached-valid s.digest s.verdict o issuer t).1
      (v.0, v.1, good-still o.cert issuer (v.2) l)

  abbrev after : Setting
  after = at_moment s t

  module _ {X : Type 0} (kind : ObjectKind X) (form : List ℕ → X → Type 0) (ca : Validated)
      (octets : List ℕ) where
    has-still : (P : Whole X → Type 0) (h : HasGood s kind form ca octets P)
        → stamp t ≤ stamp h.object.object.signed.cert.tbs.validity.not_after
        → HasGood after kind form ca octets P
    has-still P h l = record {
      object = h.object;
      rest = h.rest;
      front = h.front;
      holds = (
        (
          h.holds.0.0,
          record {
            valid = object-still kind.is_published h.object.object.signed ca
                h.holds.0.1.valid l;
            certificate = h.holds.0.1.certificate;
            covered = h.holds.0.1.covered;
          },
        ),
        h.holds.1,
      );
    }

    content-still : (list : RevocationList) (cert : Certificate) (x : X)
        → HasContent s kind form ca list octets cert x
        → stamp t ≤ stamp cert.tbs.validity.not_after
        → HasContent after kind form ca list octets cert x
    content-still list cert x h l = has-still (λ (o : Whole X).
        IsUnrevoked list o.object.signed.cert × (o.object.signed.cert ≡ cert)
        × (o.content ≡ x)) h
        (subst (λ (c : Certificate). stamp t ≤ stamp c.tbs.validity.not_after)
        (sym (h.holds.1.1)) l)

  -- ---- a point

  module _ (ca : Validated) (folder uri : List ℕ) (until : Moment) (p : Point)
      (b : IsBefore (stamp t) until p) where
    point-still : IsPointIn s ca folder uri p → IsPointIn after ca folder uri p
    point-still h = record {
      manifest = record {
        octets = h.manifest.octets;
        found = h.manifest.found;
        good = has-still manifest_kind (ManifestForm Any Der) ca h.manifest.octets
            (λ (o : Whole Manifest).
            (o.object.signed.cert ≡ p.signer) × (o.content ≡ p.manifest)) h.manifest.good
            (subst (λ (c : Certificate). stamp t ≤ stamp c.tbs.validity.not_after)
            (sym (h.manifest.good.holds.1.0)) b.signer);
        current = within p.manifest.this_update p.manifest.next_update h.manifest.current
            b.manifest;
        once = h.manifest.once;
      };
      list = record {
        hash = h.list.hash;
        file = h.list.file;
        octets = h.list.octets;
        found = h.list.found;
        list_of = record {
          rest = h.list.list_of.rest;
          front = h.list.list_of.front;
          key = h.list.list_of.key;
          signed = h.list.list_of.signed;
          current = within p.list.tbs.this_update p.list.tbs.next_update h.list.list_of.current
              b.list;
        };
        unrevoked = h.list.unrevoked;
      };
    }

    point-of-still : IsPointOf s ca folder uri p → IsPointOf after ca folder uri p
    point-of-still h = record {
      folder_named = h.folder_named;
      manifest_named = h.manifest_named;
      point = point-still h.point;
      files = h.files;
    }

  published-still : (ca : Validated) (kind : ListedKind) (file : PublishedFile) (until : Moment)
      → IsBefore (stamp t) until file.point → IsPublished s ca kind file
      → IsPublished after ca kind file
  published-still ca kind file until b h = record {
    folder = h.folder;
    point = point-of-still ca h.folder file.manifest_uri until file.point b h.point;
    listed = h.listed;
    is_other = h.is_other;
    found = h.found;
    is_kind = h.is_kind;
  }

  -- ---- what a CA publishes

  module _ (place : Place) where
    -- Where a payload is held at the moment, its certificate and its point hold.
    held-ends : (file : PublishedFile) (cert : Certificate) (h : Held) → h ≡ held_by place file cert
        → stamp t ≤ stamp h.until
        → (stamp t ≤ stamp (until_of place.until file.point))
        × (stamp t ≤ stamp cert.tbs.validity.not_after)
    held-ends file cert h e l = both (stamp t) (until_of place.until file.point)
        cert.tbs.validity.not_after
        (subst (λ (g : Held). stamp t ≤ stamp g.until) e l)

    -- What is published now is published at the moment, and the place holds.
    payload-still : (x : Payload) (h : Held) → PublishesPayload s place x h
        → stamp t ≤ stamp h.until
        → PublishesPayload after place x h × (stamp t ≤ stamp place.until)
    payload-still x h (inl o) l =
        let ends = held-ends o.file o.cert h o.held l in
        let b = before (stamp t) place.until o.file.point (ends.0) in (
          inl (record {
            file = o.file;
            published = published-still place.ca kinds.Roa o.file place.until b o.published;
            cert = o.cert;
            roa = o.roa;
            good = (
              content-still roa_kind RoaForm place.ca o.file.octets o.file.point.list o.cert o.roa
                  (o.good.0) (ends.1),
              o.good.1,
            );
            origin = o.origin;
            named = o.named;
            payload = o.payload;
            held = o.held;
          }),
          b.above,
        )
    payload-still x h (inr o) l =
        let ends = held-ends o.file o.cert h o.held l in
        let b = before (stamp t) place.until o.file.point (ends.0) in (
          inr (record {
            file = o.file;
            published = published-still place.ca kinds.Aspa o.file place.until b o.published;
            cert = o.cert;
            aspa = o.aspa;
            good = content-still aspa_kind (AspaForm s.providers) place.ca o.file.octets
                o.file.point.list o.cert o.aspa o.good (ends.1);
            provider = o.provider;
            named = o.named;
            payload = o.payload;
            held = o.held;
          }),
          b.above,
        )

    has-ca-still : (list : RevocationList) (octets : List ℕ) (v : Validated)
        → HasCa s place.ca list octets v
        → stamp t ≤ stamp v.cert.certificate.tbs.validity.not_after
        → HasCa after place.ca list octets v
    unfolding IsValidatedUnder
    has-ca-still list octets v h l = record {
      cert = h.cert;
      rest = h.rest;
      front = h.front;
      holds = (
        ca-still h.cert place.ca (h.holds.0)
            (subst (λ (k : KeptCertificate). stamp t ≤ stamp k.certificate.tbs.validity.not_after)
            (h.holds.2.0) l),
        h.holds.1,
        h.holds.2,
        h.holds.3,
      );
    }

    child-still : (child : Place) → PublishesCa s place child → stamp t ≤ stamp child.until
        → PublishesCa after place child × (stamp t ≤ stamp place.until)
    child-still child h l =
        let ends = both (stamp t) (until_of place.until h.file.point)
        h.ca.cert.certificate.tbs.validity.not_after
        (subst (λ (c : Place). stamp t ≤ stamp c.until) h.is_child l) in
        let b = before (stamp t) place.until h.file.point (ends.0) in (
          record {
            file = h.file;
            published = published-still place.ca kinds.Ca h.file place.until b h.published;
            ca = h.ca;
            good = has-ca-still h.file.point.list h.file.octets h.ca h.good (ends.1);
            is_child = h.is_child;
          },
          b.above,
        )

  -- ---- chains

  chain-still : (path : List Place) (start place : Place)
      → Leads (PublishesCa s) start path place → stamp t ≤ stamp place.until
      → Leads (PublishesCa after) start path place × (stamp t ≤ stamp start.until)
  chain-still [] start place h l = (h, subst (λ (p : Place). stamp t ≤ stamp p.until) (sym h) l)
  chain-still (c ∷ path) start place h l =
      let rest = chain-still path c place (h.1) l in
      let first = child-still start c (h.0) (rest.1) in
      ((first.0, rest.0), first.1)

-- What is published at the end of a chain is published there at each later moment until which it is
-- held, and the start holds then.
pub below-still : (s : Setting) (start place : Place) (path : List Place) (x : Payload) (h : Held)
    (t : Moment) → Leads (PublishesCa s) start path place → PublishesPayload s place x h
    → stamp s.now ≤ stamp t → stamp t ≤ stamp h.until
    → Leads (PublishesCa (at_moment s t)) start path place
    × PublishesPayload (at_moment s t) place x h × (stamp t ≤ stamp start.until)
below-still s start place path x h t leads published later l =
    let p = payload-still s t later place x h published l in
    let chain = chain-still s t later path start place leads (p.1) in
    (chain.0, p.0, chain.1)

-- ---- trust anchors

anchor-valid-still : (s : Setting) (t : Moment) → stamp s.now ≤ stamp t → (c : Certificate)
    → AllHold (ta_validation s.verdict c s.now) → stamp t ≤ stamp c.tbs.validity.not_after
    → AllHold (ta_validation s.verdict c t)
anchor-valid-still s t later c h l =
    let v = (anchor-valid s.verdict c s.now).0 h in
    (anchor-valid s.verdict c t).1 (
      v.0,
      record {
        in_time = within s t later c.tbs.validity.not_before c.tbs.validity.not_after
            v.1.in_time l;
        signed = v.1.signed;
      },
    )

module _ (s : Setting) (t : Moment) (later : stamp s.now ≤ stamp t) (key : List ℕ) where
  -- A good certificate of a trust anchor is one until it ends.
  anchor-good-still : (v : Validated) (text : List ℕ)
      → stamp t ≤ stamp v.cert.certificate.tbs.validity.not_after → HasAnchor s key v text
      → HasAnchor (at_moment s t) key v text
  unfolding HasClaimed
  anchor-good-still v text l h = (
    h.0,
    h.1,
    record {
      cert = h.2.cert;
      rest = h.2.rest;
      front = h.2.front;
      holds = (
        (
          h.2.holds.0.0,
          anchor-valid-still s t later h.2.cert (h.2.holds.0.1)
              (subst (λ (k : KeptCertificate).
              stamp t ≤ stamp k.certificate.tbs.validity.not_after) (h.2.holds.1.0) l),
        ),
        h.2.holds.1,
      );
    },
  )

  -- One that has begun and is good later is good now.
  good-before : (c : Certificate) → (¬ (stamp s.now < stamp c.tbs.validity.not_before))
      → IsGoodFor (at_moment s t) key c → IsGoodFor s key c
  good-before c begun h =
      let v = (anchor-valid s.verdict c t).0 (h.1) in (
        h.0,
        (anchor-valid s.verdict c s.now).1 (
          v.0,
          record {
            in_time = (
              not-after (stamp s.now) (stamp c.tbs.validity.not_before) begun,
              le-trans (stamp s.now) (stamp t) (stamp c.tbs.validity.not_after) later
                  (v.1.in_time.1),
            );
            signed = v.1.signed;
          },
        ),
      )

  -- What has begun and is not good is not good later.
  lacks-still : (text : List ℕ) → HasBegun s key text → Lacks s.finds (IsGoodFor s key) text
      → Lacks s.finds (IsGoodFor (at_moment s t) key) text
  lacks-still text begun (inl none) = inl none
  lacks-still text begun (inr other) = inr (
    other.0,
    other.1,
    λ h. other.2 (record {
      cert = h.cert;
      rest = h.rest;
      front = h.front;
      holds = good-before h.cert (λ l. begun (other.0) (other.1) (record {
        cert = h.cert;
        rest = h.rest;
        front = h.front;
        holds = (h.holds.0, l);
      })) h.holds;
    }),
  )

module _ (s : Setting) (tal : Locator) (v : Validated) (t : Moment) (h : IsAnchorOf s tal v)
    (later : stamp s.now ≤ stamp t)
    (l : stamp t ≤ stamp v.cert.certificate.tbs.validity.not_after) where
  here-still : HasAnchor (at_moment s t) tal.key v h.1.text
  here-still = anchor-good-still s t later tal.key v h.1.text l h.1.here

  -- A trust anchor is a good one of its locator until its certificate ends,
  pub anchor-still-good : (text : List ℕ) × Contains (candidates (https_first tal.uris)) text
      × HasAnchor (at_moment s t) tal.key v text
  anchor-still-good = (
    h.1.text,
    subst (λ (x : List (List ℕ)). Contains x h.1.text) (sym h.1.order)
        (Contains-append_right h.1.before (h.1.text ∷ h.1.after) h.1.text
        (contains-first h.1.text h.1.after)),
    here-still,
  )

  -- and the first, if the others have begun.
  pub anchor-still : HaveBegun s tal → IsAnchorOf (at_moment s t) tal v
  anchor-still begun = (
    h.0,
    record {
      before = h.1.before;
      text = h.1.text;
      after = h.1.after;
      order = h.1.order;
      others = all-of (Lacks s.finds (IsGoodFor (at_moment s t) tal.key)) h.1.before (λ x c.
          lacks-still s t later tal.key x (begun x (subst (λ (y : List (List ℕ)). Contains y x)
          (sym h.1.order) (Contains-append_left h.1.before (h.1.text ∷ h.1.after) x c)))
          (All-contains (Lacks s.finds (IsGoodFor s tal.key)) h.1.before x h.1.others c));
      here = here-still;
    },
  )
