-- A place that a run left unread was listed by a CA, and so it is refused.
use Rattle.std.proofs.Common.{◌≡◌, ◌⊎◌, inl, inr, ℕ, List, [], ◌∷◌, Contains, Option, Some, refl}
use Rattle.std.proofs.Common.{sym, subst, ap}
use Rattle.std.specs.Option.{option_or}
use Rattle.std.proofs.lemmas.List.Elements.{All-contains, Contains-append_right}
use Rattle.rpki_tal.specs.Tal.{Locator}
use Rattle.rpki_relying_party.specs.Found.{HasAsLong}
use Rattle.rpki_relying_party.specs.Paths.{Leads}
use Rattle.rpki_relying_party.specs.Place.{key_of}
use Rattle.rpki_relying_party.specs.Runs.{IsRunUnder, IsRefusalFor, IsLeftRefusal, KeepsAll}
use Rattle.rpki_relying_party.specs.Runs.{left_under, left_cause}
use Rattle.rpki_relying_party.specs.Setting.{Setting}
use Rattle.rpki_relying_party.specs.Tells.{PlaceTells, refusal}
use Rattle.rpki_relying_party.specs.Walk.{HasKey, IsMet, IsToldChild, Left, Read}
use Rattle.rpki_relying_party.specs.Walk.{places_left, places_read, places_settled}
use Rattle.rpki_relying_party.specs.declared.found.Finding.{Finding}
use Rattle.rpki_relying_party.specs.declared.found.Found.{Found}
use Rattle.rpki_relying_party.specs.declared.place.Place.{Place}
use Rattle.rpki_relying_party.proofs.Lists.{contains-first, contains-mapped}
use Rattle.rpki_relying_party.proofs.Publishing.{place-has}

-- some CA listed the place
abbrev IsListed : Place → Type 0
IsListed p = (uri : List ℕ) × (p.listed_by ≡ Some uri)

module _ (s : Setting) (tal : Locator) (limit : ℕ) (old new : Found) (unread : List (Left Place))
    (run : IsRunUnder s tal limit old new unread) where
  listed-child : (p child : Place) → IsToldChild run.3.reads p child → IsListed child
  listed-child p child t =
      let c = place-has s t.0.place t.0.said t.0.children (All-contains
      (λ (r : Read Place Finding). PlaceTells s r.place r.said r.children) run.3.reads (t.0)
      run.3.told (t.1)) child (t.3) in
      (c.file.manifest_uri, ap (λ (d : Place). d.listed_by) c.is_child)

  -- what a chain leads to is its start, or was listed
  listed-along : (path : List Place) (p q : Place) → Leads (IsToldChild run.3.reads) p path q
      → (p ≡ q) ⊎ IsListed q
  listed-along [] p q e = inl e
  listed-along (c ∷ path) p q h = elim (listed-along path c q (h.1)) [
    | inl e ↦ inr (subst IsListed e (listed-child p c (h.0)))
    | inr listed ↦ inr listed
  ]

  first-read : Contains (places_read run.3.reads) run.0.place
  first-read = contains-mapped (λ (r : Read Place Finding). r.place) run.3.reads (run.0)
      (subst (λ (l : List (Read Place Finding)). Contains l (run.0)) (sym (run.3.begun.1))
      (contains-first (run.0) (run.3.begun.0)))

  left-met : (u : Left Place) → Contains unread u → IsMet run.0.place run.3.reads u.place
  left-met u c = All-contains (IsMet run.0.place run.3.reads) (places_settled run.3.reads unread)
      u.place run.3.met (Contains-append_right (places_read run.3.reads) (places_left unread)
      u.place (contains-mapped (λ (v : Left Place). v.place) unread u c))

  -- the start was read, so it was not left
  left-listed : (u : Left Place) → Contains unread u → IsListed u.place
  left-listed u c =
      let met = left-met u c in
      elim (listed-along (met.0) run.0.place u.place (met.1)) [
        | inl e ↦ absurd (All-contains
            (λ (v : Left Place). ¬ HasKey key_of (places_read run.3.reads) (key_of v.place)) unread
            u run.3.fresh c (run.0.place, first-read, ap key_of e))
        | inr listed ↦ listed
      ]

  -- Each place that was left unread is refused.
  pub unread-refused : (after : Found) → KeepsAll (IsLeftRefusal unread) new after
      → (u : Left Place) → Contains unread u
      → (x : Finding) × IsRefusalFor (left_under unread) u x × HasAsLong after x
  unread-refused after keeps u c =
      let listed = left-listed u c in
      let uri = listed.0 in
      let x = refusal uri (left_cause u.why (left_under unread u.why uri)) uri in
      let is : IsRefusalFor (left_under unread) u x = (
        uri,
        ap (λ (o : Option (List ℕ)). option_or o
            u.place.ca.cert.certificate.tbs.extensions.locations.subject.rpki_manifest) (listed.1),
        refl,
      ) in
      (x, is, keeps.kept x (u, c, is))
