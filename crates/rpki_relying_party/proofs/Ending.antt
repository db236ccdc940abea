-- What is published at a moment is held until then.
use Rattle.std.proofs.Common.{◌≡◌, inl, inr, ℕ, ◌≤◌, List, [], ◌∷◌, Bool, true, false, sym}
use Rattle.std.proofs.Common.{subst}
use Rattle.std.specs.Prelude.{nat_le, if◌then◌else◌}
use Rattle.rpki_basics.specs.Moment.{Moment, stamp}
use Rattle.rpki_crls.specs.Crl.{RevocationList}
use Rattle.rpki_faults.specs.Checks.{AllHold}
use Rattle.rpki_certs.specs.Cert.{Certificate, KeptCertificate}
use Rattle.rpki_certs.specs.Inspect.{ca_checks}
use Rattle.rpki_certs.specs.Validate.{Validated, IsValidatedUnder, ca_validation}
use Rattle.rpki_certs.proofs.Valid.{issued-valid}
use Rattle.rpki_routes.specs.Aspa.Form.{AspaForm}
use Rattle.rpki_routes.specs.Aspa.Checks.{aspa_kind}
use Rattle.rpki_routes.specs.Roa.Form.{RoaForm}
use Rattle.rpki_routes.specs.Roa.Checks.{roa_kind}
use Rattle.rpki_sigobj.specs.Object.{SignedData}
use Rattle.rpki_sigobj.specs.Signed.Kind.{ObjectKind}
use Rattle.rpki_sigobj.specs.Signed.Process.{validation}
use Rattle.rpki_sigobj.proofs.Valid.{published-valid, detached-valid}
use Rattle.rpki_relying_party.specs.Paths.{Leads}
use Rattle.rpki_relying_party.specs.Point.{Point, IsPointIn}
use Rattle.rpki_relying_party.specs.Published.{PublishedFile, IsPublished, PublishesPayload}
use Rattle.rpki_relying_party.specs.Published.{PublishesCa, IsPayloadBelow, held_by}
use Rattle.rpki_relying_party.specs.Setting.{Setting}
use Rattle.rpki_relying_party.specs.Tells.{HasContent, HasCa, earlier, until_of}
use Rattle.rpki_relying_party.specs.declared.kind.ListedKind.{ListedKind}
use Rattle.rpki_relying_party.specs.declared.payload.Held.{Held}
use Rattle.rpki_relying_party.specs.declared.payload.Payload.{Payload}
use Rattle.rpki_relying_party.specs.declared.place.Place.{Place}

-- What is at most both stamps is at most that of the earlier one.
either : (n : ℕ) (a b : Moment) (x : Bool) → n ≤ stamp a → n ≤ stamp b
    → n ≤ stamp (if x then a else b)
either n a b true h g = h
either n a b false h g = g

first : (n : ℕ) (a b : Moment) → n ≤ stamp a → n ≤ stamp b → n ≤ stamp (earlier a b)
first n a b h g = either n a b (nat_le (stamp a) (stamp b)) h g

module _ (s : Setting) where
  object-now : (is_published : Bool) (o : SignedData) (issuer : Validated)
      → AllHold (validation is_published s.digest s.verdict o issuer s.now)
      → stamp s.now ≤ stamp o.cert.tbs.validity.not_after
  object-now true o issuer h =
      let v = (published-valid s.digest s.verdict o issuer s.now).0 h in v.2.in_time.1
  object-now false o issuer h =
      let v = (detached-valid s.digest s.verdict o issuer s.now).0 h in v.2.in_time.1

  module _ {X : Type 0} (kind : ObjectKind X) (form : List ℕ → X → Type 0) (ca : Validated)
      (octets : List ℕ) where
    content-now : (list : RevocationList) (cert : Certificate) (x : X)
        → HasContent s kind form ca list octets cert x
        → stamp s.now ≤ stamp cert.tbs.validity.not_after
    content-now list cert x h = subst
        (λ (c : Certificate). stamp s.now ≤ stamp c.tbs.validity.not_after) (h.holds.1.1)
        (object-now kind.is_published h.object.object.signed ca h.holds.0.1.valid)

  valid-now : (c : Certificate) (issuer : Validated)
      → AllHold (ca_validation s.verdict c issuer s.now)
      → stamp s.now ≤ stamp c.tbs.validity.not_after
  unfolding ca_validation
  valid-now c issuer h =
      let v = (issued-valid (ca_checks c.tbs) s.verdict c issuer s.now).0 h in v.1.in_time.1

  ca-now : (ca : Validated) (list : RevocationList) (octets : List ℕ) (v : Validated)
      → HasCa s ca list octets v → stamp s.now ≤ stamp v.cert.certificate.tbs.validity.not_after
  unfolding IsValidatedUnder
  ca-now ca list octets v h =
      subst (λ (k : KeptCertificate). stamp s.now ≤ stamp k.certificate.tbs.validity.not_after)
      (sym (h.holds.2.0)) (valid-now h.cert ca (h.holds.0))

  point-now : (ca : Validated) (folder uri : List ℕ) (until : Moment) (p : Point)
      → stamp s.now ≤ stamp until → IsPointIn s ca folder uri p
      → stamp s.now ≤ stamp (until_of until p)
  point-now ca folder uri until p l h =
      let signer = subst (λ (c : Certificate). stamp s.now ≤ stamp c.tbs.validity.not_after)
      (h.manifest.good.holds.1.0) (object-now true h.manifest.good.object.object.signed ca
      h.manifest.good.holds.0.1.valid) in
      first (stamp s.now) until (earlier p.signer.tbs.validity.not_after
      (earlier p.manifest.next_update p.list.tbs.next_update)) l
      (first (stamp s.now) p.signer.tbs.validity.not_after
      (earlier p.manifest.next_update p.list.tbs.next_update) signer
      (first (stamp s.now) p.manifest.next_update p.list.tbs.next_update
      (h.manifest.current.1) (h.list.list_of.current.1)))

  module _ (place : Place) (holds : stamp s.now ≤ stamp place.until) where
    file-now : (kind : ListedKind) (file : PublishedFile) → IsPublished s place.ca kind file
        → stamp s.now ≤ stamp (until_of place.until file.point)
    file-now kind file p = point-now place.ca p.folder file.manifest_uri place.until file.point
        holds p.point.point

    held-now : (kind : ListedKind) (file : PublishedFile) → IsPublished s place.ca kind file
        → (cert : Certificate) → stamp s.now ≤ stamp cert.tbs.validity.not_after → (h : Held)
        → h ≡ held_by place file cert → stamp s.now ≤ stamp h.until
    held-now kind file p cert l h e =
        subst (λ (g : Held). stamp s.now ≤ stamp g.until) (sym e)
        (first (stamp s.now) (until_of place.until file.point) cert.tbs.validity.not_after
        (file-now kind file p) l)

    payload-now : (x : Payload) (h : Held) → PublishesPayload s place x h
        → stamp s.now ≤ stamp h.until
    payload-now x h (inl o) = held-now _ o.file o.published o.cert (content-now roa_kind RoaForm
        place.ca o.file.octets o.file.point.list o.cert o.roa (o.good.0)) h o.held
    payload-now x h (inr o) = held-now _ o.file o.published o.cert (content-now aspa_kind
        (AspaForm s.providers) place.ca o.file.octets o.file.point.list o.cert o.aspa o.good) h
        o.held

    child-now : (child : Place) → PublishesCa s place child → stamp s.now ≤ stamp child.until
    child-now child h =
        subst (λ (c : Place). stamp s.now ≤ stamp c.until) (sym h.is_child)
        (first (stamp s.now) (until_of place.until h.file.point)
        h.ca.cert.certificate.tbs.validity.not_after (file-now _ h.file h.published)
        (ca-now place.ca h.file.point.list h.file.octets h.ca h.good))

  chain-now : (path : List Place) (start place : Place)
      → Leads (PublishesCa s) start path place → stamp s.now ≤ stamp start.until
      → stamp s.now ≤ stamp place.until
  chain-now [] start place h l = subst (λ (p : Place). stamp s.now ≤ stamp p.until) h l
  chain-now (c ∷ path) start place h l =
      chain-now path c place (h.1) (child-now start l c (h.0))

-- A payload that is published below a start holds now, where the start does.
pub below-now : (s : Setting) (start : Place) (x : Payload) (h : Held)
    → IsPayloadBelow s start x h → stamp s.now ≤ stamp start.until → stamp s.now ≤ stamp h.until
below-now s start x h b l =
    payload-now s (b.1) (chain-now s (b.0) start (b.1) (b.2) l) x h (b.3)
