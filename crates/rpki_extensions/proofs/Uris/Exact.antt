-- The extensions that hold URIs are read exactly: a line for each field.
use Rattle.std.proofs.Common.{◌≡◌, ℕ, Bool, true, false, cond, List, Option, Some, None, refl, ap}
use Rattle.std.proofs.Common.{sym, subst}
use Rattle.std.specs.Prelude.{Decides}
use Rattle.std.proofs.lemmas.Slice.Eq.{bytes_eq-Decides}
use Rattle.rpki_der.specs.Form.Keyed.{IsSaid, First, first_said}
use Rattle.rpki_der.specs.Form.Law.{nothing, is, IsPart}
use Rattle.rpki_der.specs.Form.Parts.{sequence_at, context_at}
use Rattle.rpki_der.specs.Tags.{SEQUENCE, context}
use Rattle.rpki_der.proofs.Form.Fields.{field, done, within}
use Rattle.rpki_der.proofs.Form.Keyed.{first-sound, first-complete}
use Rattle.rpki_der.proofs.Form.Kinds.{oid-part}
use Rattle.rpki_der.proofs.Form.Words.{part-as, make, make-some, in-tag, items, all-items}
use Rattle.rpki_extensions.specs.declared.access.Access.{Access}
use Rattle.rpki_extensions.specs.declared.access.SubjectAccess.{SubjectAccess}
use Rattle.rpki_extensions.specs.Access.{AccessForm, IsLocated, AuthorityAccessForm}
use Rattle.rpki_extensions.specs.Access.{AreSubjectAccess, SubjectAccessForm, access_fields_at}
use Rattle.rpki_extensions.specs.Access.{access_at, located, issuer_of, subject_of, ca_issuers}
use Rattle.rpki_extensions.specs.Access.{authority_access_at, subject_access_at, ca_repository}
use Rattle.rpki_extensions.specs.Access.{rpki_manifest, signed_object, rpki_notify}
use Rattle.rpki_extensions.specs.Names.{named}
use Rattle.rpki_extensions.specs.Points.{FullNameForm, PointForm, PointsForm}
use Rattle.rpki_extensions.specs.Points.{first_rsync_at, point_fields_at, one_point_at, points_at}
use Rattle.rpki_extensions.specs.Uri.{rsync_of}
use Rattle.rpki_extensions.proofs.GeneralNames.Exact.{name-part, named-sound, named-complete}
use Rattle.rpki_extensions.proofs.GeneralNames.Exact.{named-said}
use Rattle.rpki_extensions.proofs.Uris.Tests.{rsync-decides, https-decides}

abbrev Any : {I : Type 0} → I → Type 0
Any i = Unit {0}

-- where nothing is asked of an item, what is said first is the first that is said
module _ {I X : Type 0} {say : I → Option X} {Say : I → X → Type 0}
    (e : IsSaid say (λ _. Unit {0}) Say) where
  first-is : (list : List I) (o : Option X) → o ≡ first_said say list → First Say list o
  first-is list o h = subst (First Say list) (sym h) (first-sound e list (λ k d lt. tt))

  is-first : (list : List I) (o : Option X) → First Say list o → o ≡ first_said say list
  is-first list o h = sym (first-complete e list o (λ k d lt. tt) h)

-- ---- the distribution point

full-name-part : IsPart (is (context 0)) nothing (context_at 0 first_rsync_at) FullNameForm
full-name-part = part-as
    (in-tag (context 0) (make-some (first_said (named rsync_of)) (all-items name-part)))
    (λ mode o uri h.
    (h.2.0, (h.0, h.1, h.2.1), first-is (named-said rsync-decides) h.2.0 (Some uri) (sym h.2.2)))
    (λ mode o uri h.
    (h.1.0, h.1.1, (h.0, h.1.2, sym (is-first (named-said rsync-decides) h.0 (Some uri) h.2))))

point-part : IsPart (is SEQUENCE) nothing (sequence_at point_fields_at) PointForm
unfolding point_fields_at
point-part = within SEQUENCE (
    field (λ uri. uri) (in-tag (context 0) full-name-part) (λ uri.
    done uri (tt, refl) (λ z k. k.1)) refl)

pub points-part : IsPart (is SEQUENCE) nothing points_at PointsForm
unfolding one_point_at
points-part = within SEQUENCE (
    field (λ uri. uri) point-part (λ uri.
    done uri (tt, refl) (λ z k. k.1)) refl)

-- ---- access descriptions

access-part : IsPart (is SEQUENCE) nothing access_at AccessForm
unfolding access_fields_at
access-part = within SEQUENCE (
    field (λ a. a.method) oid-part (λ method.
    field (λ a. a.location) name-part (λ location.
    done (record { method = method; location = location }) ((tt, refl), refl)
    (λ a k i. record { method = k.0.1 i; location = k.1 i })) refl) refl)

module _ {P : List ℕ → Type 0} {test : List ℕ → Bool}
    (decides : (text : List ℕ) → Decides (test text) (P text)) (method : List ℕ) where
  abbrev by_test : List ℕ → Option (List ℕ)
  by_test text = cond (test text) (Some text) None

  at-sound : (t : Bool) (access : Access) (uri : List ℕ) → Decides t (access.method ≡ method)
      → cond t (named by_test access.location) None ≡ Some uri → IsLocated P method access uri
  at-sound true access uri d e = (d.0 refl, named-sound decides access.location uri e)
  at-sound false access uri d e = absurd cc

  located-said : IsSaid (located by_test method) (λ _. Unit {0}) (IsLocated P method)
  located-said = record {
    sound = λ access uri _ e.
        at-sound _ access uri (bytes_eq-Decides access.method method) e;
    complete = λ access uri h.
        rw ((bytes_eq-Decides access.method method).1 h.0)
        (named-complete decides access.location uri h.1);
  }

pub authority-access-part : IsPart (is SEQUENCE) nothing authority_access_at AuthorityAccessForm
authority-access-part = part-as (in-tag SEQUENCE (make issuer_of (items SEQUENCE access-part)))
    (λ mode o uri h.
    (h.2.0, (h.0, h.1, h.2.1), first-is (located-said rsync-decides ca_issuers) h.2.0 uri h.2.2))
    (λ mode o uri h.
    (h.1.0, h.1.1, (h.0, h.1.2, is-first (located-said rsync-decides ca_issuers) h.0 uri h.2)))

subject-sound : (list : List Access) (x : SubjectAccess) → x ≡ subject_of list
    → AreSubjectAccess list x
subject-sound list x e = record {
  ca_repository = first-is (located-said rsync-decides ca_repository) list x.ca_repository
      (ap (λ (s : SubjectAccess). s.ca_repository) e);
  rpki_manifest = first-is (located-said rsync-decides rpki_manifest) list x.rpki_manifest
      (ap (λ (s : SubjectAccess). s.rpki_manifest) e);
  signed_object = first-is (located-said rsync-decides signed_object) list x.signed_object
      (ap (λ (s : SubjectAccess). s.signed_object) e);
  rpki_notify = first-is (located-said https-decides rpki_notify) list x.rpki_notify
      (ap (λ (s : SubjectAccess). s.rpki_notify) e);
}

subject-complete : (list : List Access) (x : SubjectAccess) → AreSubjectAccess list x
    → x ≡ subject_of list
subject-complete list x h = λ i. record {
  ca_repository =
      is-first (located-said rsync-decides ca_repository) list x.ca_repository h.ca_repository i;
  rpki_manifest =
      is-first (located-said rsync-decides rpki_manifest) list x.rpki_manifest h.rpki_manifest i;
  signed_object =
      is-first (located-said rsync-decides signed_object) list x.signed_object h.signed_object i;
  rpki_notify =
      is-first (located-said https-decides rpki_notify) list x.rpki_notify h.rpki_notify i;
}

pub subject-access-part : IsPart (is SEQUENCE) nothing subject_access_at SubjectAccessForm
subject-access-part = part-as (in-tag SEQUENCE (make subject_of (items SEQUENCE access-part)))
    (λ mode o x h. (h.2.0, (h.0, h.1, h.2.1), subject-sound h.2.0 x h.2.2))
    (λ mode o x h. (h.1.0, h.1.1, (h.0, h.1.2, subject-complete h.0 x h.2)))
