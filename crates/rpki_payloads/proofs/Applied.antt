-- What local exceptions do to the set of payloads.
use Rattle.std.proofs.Common.{◌≡◌, ◌⊎◌, inl, inr, true, false, List, Contains, None, Option}
use Rattle.std.proofs.Common.{refl, sym, ap, subst, ◌∙◌}
use Rattle.std.specs.Prelude.{Some}
use Rattle.std.proofs.lemmas.Bool.{true≢false}
use Rattle.rpki_basics.specs.Moment.{Moment}
use Rattle.rpki_relying_party.specs.declared.payload.Origin.{Origin}
use Rattle.rpki_relying_party.specs.declared.payload.Provider.{Provider}
use Rattle.rpki_payloads.specs.Formats.Joined.{outlasts}
use Rattle.rpki_payloads.specs.Formats.Row.{OriginRow, ProviderRow, origin_payload, origin_until}
use Rattle.rpki_payloads.specs.Formats.Row.{provider_payload, provider_until}
use Rattle.rpki_payloads.specs.Formats.Rows.{AreOriginsAfter, AreProvidersAfter, AssertsOrigin}
use Rattle.rpki_payloads.specs.Formats.Rows.{AssertsProvider, FindsOrigin, FindsProvider}
use Rattle.rpki_payloads.specs.Formats.Rows.{FollowExceptions, HasOrigin, HasProvider}
use Rattle.rpki_payloads.specs.Formats.Rows.{IsSaidOrigin, IsSaidProvider, asserted_provider}
use Rattle.rpki_payloads.specs.Formats.Rows.{asserted_row, origin_row, provider_row}
use Rattle.rpki_payloads.specs.Formats.Rows.{said_origins, said_providers}
use Rattle.rpki_payloads.specs.Found.{FoundUnder}
use Rattle.rpki_payloads.specs.Slurm.{asserted, asserted_providers, drops_origin}
use Rattle.rpki_payloads.specs.Slurm.{drops_provider, provider_of}
use Rattle.rpki_payloads.specs.declared.slurm.text.Exceptions.{Exceptions}
use Rattle.rpki_payloads.proofs.Elements.{from-mapped, mapped}
use Rattle.rpki_payloads.proofs.Joined.{not-longer-than}
use Rattle.rpki_payloads.proofs.Once.{origin-exact, origin-total, origins-said, provider-exact}
use Rattle.rpki_payloads.proofs.Once.{provider-total, providers-said}

-- an end that nothing without one outlasts is none
never-ends : (a : Option Moment) → outlasts None a ≡ false → a ≡ None
never-ends None e = refl
never-ends (Some m) e = absurd (true≢false e)

module _ (exceptions : List Exceptions) (found : List FoundUnder) where
  -- ---- origins

  -- a row that is said is found, and no filter removes it, or it is asserted
  origin-cases : (r : OriginRow) → IsSaidOrigin exceptions found r
      → (FindsOrigin found r.origin × (drops_origin exceptions r.origin ≡ false))
      ⊎ AssertsOrigin exceptions r.origin
  origin-cases r (inl w) = inl ((w.0, w.2.0, w.1, w.2.1), w.2.3)
  origin-cases r (inr w) = inr (w.0, w.1, w.2, w.3, ap (λ (x : OriginRow). x.origin) w.4)

  say-found : (o : Origin) → FindsOrigin found o → drops_origin exceptions o ≡ false
      → (r : OriginRow) × IsSaidOrigin exceptions found r × (r.origin ≡ o)
  say-found o f e = (
    origin_row f.0.name (o, f.1),
    inl (f.0, f.2, (f.1, f.3, refl, e)),
    refl,
  )

  say-asserted : (o : Origin) → AssertsOrigin exceptions o
      → IsSaidOrigin exceptions found (asserted_row o)
  say-asserted o a = inr (a.0, a.1, a.2, a.3, ap asserted_row a.4)

  pub origins-follow : (rows : List OriginRow) → AreOriginsAfter exceptions found rows
      → FollowExceptions (FindsOrigin found) (AssertsOrigin exceptions) (HasOrigin rows)
      (drops_origin exceptions) origin_payload origin_until rows
  origins-follow rows h = record {
    gone = λ o d no w. elim (cases o w) [
      | inl f ↦ true≢false (sym d ∙ f.1)
      | inr a ↦ no a
    ];
    asserted = λ o a. has-asserted o a;
    forever = λ r c a. never-ends r.until (latest r c a);
    stays = λ o f e. (let s = say-found o f e in let q = h.each s.0 s.1 in
        (q.0, q.1, q.2 ∙ s.2));
    no_more = λ o w. elim (cases o w) [
      | inl f ↦ inl f.0
      | inr a ↦ inr a
    ];
  }
    where
      cases : (o : Origin) → HasOrigin rows o
          → (FindsOrigin found o × (drops_origin exceptions o ≡ false))
          ⊎ AssertsOrigin exceptions o
      cases o w = subst (λ (x : Origin).
          (FindsOrigin found x × (drops_origin exceptions x ≡ false))
          ⊎ AssertsOrigin exceptions x) w.2 (origin-cases w.0 (h.only w.0 w.1))

      has-asserted : (o : Origin) → AssertsOrigin exceptions o → HasOrigin rows o
      has-asserted o a = let q = h.each (asserted_row o) (say-asserted o a) in (q.0, q.1, q.2)

      latest : (r : OriginRow) → Contains rows r → AssertsOrigin exceptions r.origin
          → outlasts None r.until ≡ false
      latest r c a = not-longer-than origin-total origin-exact origin_payload origin_until
          (said_origins exceptions found) r (asserted_row r.origin) (h.first r c) refl
          ((origins-said exceptions found (asserted_row r.origin)).1 (say-asserted r.origin a))

  -- ---- providers

  -- a row that is said is found, and no filter removes it, or it is asserted
  provider-cases : (r : ProviderRow) → IsSaidProvider exceptions found r
      → (FindsProvider found r.provider × (drops_provider exceptions r.provider ≡ false))
      ⊎ AssertsProvider exceptions r.provider
  provider-cases r (inl w) = inl ((w.0, w.2.0, w.1, w.2.1), w.2.3)
  provider-cases r (inr w) = inr (
    w.0,
    w.1,
    w.3,
    w.4,
    subst (λ (x : Provider). Contains (asserted_providers w.1) x)
        (sym (ap (λ (x : ProviderRow). x.provider) w.6))
        (mapped (provider_of w.1.customer_asn) w.1.provider_asns.items w.2 w.5),
  )

  say-found-provider : (o : Provider) → FindsProvider found o → drops_provider exceptions o ≡ false
      → (r : ProviderRow) × IsSaidProvider exceptions found r × (r.provider ≡ o)
  say-found-provider o f e = (
    provider_row f.0.name (o, f.1),
    inl (f.0, f.2, (f.1, f.3, refl, e)),
    refl,
  )

  say-asserted-provider : (o : Provider) → AssertsProvider exceptions o
      → IsSaidProvider exceptions found (asserted_provider o)
  say-asserted-provider o a =
      let v = from-mapped (provider_of a.1.customer_asn) a.1.provider_asns.items o a.4 in
      inr (a.0, a.1, v.0, a.2, a.3, v.1, ap asserted_provider v.2)

  pub providers-follow : (rows : List ProviderRow) → AreProvidersAfter exceptions found rows
      → FollowExceptions (FindsProvider found) (AssertsProvider exceptions) (HasProvider rows)
      (drops_provider exceptions) provider_payload provider_until rows
  providers-follow rows h = record {
    gone = λ o d no w. elim (cases o w) [
      | inl f ↦ true≢false (sym d ∙ f.1)
      | inr a ↦ no a
    ];
    asserted = λ o a. has-asserted o a;
    forever = λ r c a. never-ends r.until (latest r c a);
    stays = λ o f e. (let s = say-found-provider o f e in let q = h.each s.0 s.1 in
        (q.0, q.1, q.2 ∙ s.2));
    no_more = λ o w. elim (cases o w) [
      | inl f ↦ inl f.0
      | inr a ↦ inr a
    ];
  }
    where
      cases : (o : Provider) → HasProvider rows o
          → (FindsProvider found o × (drops_provider exceptions o ≡ false))
          ⊎ AssertsProvider exceptions o
      cases o w = subst (λ (x : Provider).
          (FindsProvider found x × (drops_provider exceptions x ≡ false))
          ⊎ AssertsProvider exceptions x) w.2 (provider-cases w.0 (h.only w.0 w.1))

      has-asserted : (o : Provider) → AssertsProvider exceptions o → HasProvider rows o
      has-asserted o a = let q = h.each (asserted_provider o) (say-asserted-provider o a) in (q.0, q.1, q.2)

      latest : (r : ProviderRow) → Contains rows r → AssertsProvider exceptions r.provider
          → outlasts None r.until ≡ false
      latest r c a = not-longer-than provider-total provider-exact provider_payload provider_until
          (said_providers exceptions found) r (asserted_provider r.provider) (h.first r c) refl
          ((providers-said exceptions found (asserted_provider r.provider)).1 (say-asserted-provider r.provider a))
