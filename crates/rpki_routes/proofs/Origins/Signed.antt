-- ROAs that are built and signed.
use Rattle.std.proofs.Common.{◌≡◌, ℕ, ◌<◌, ◌^◌, List, [], ◌∷◌, length, All, inl, inr, refl}
use Rattle.std.proofs.Common.{true, false, ◌⊎◌, ap, subst, sym, ◌∙◌}
use Rattle.std.proofs.lemmas.Bool.{or_cases, or_left}
use Rattle.std.proofs.lemmas.List.Elements.{All-head, All-tail}
use Rattle.rpki_basics.specs.Moment.{Moment}
use Rattle.rpki_basics.specs.declared.build.BuildError.{BuildError}
use Rattle.rpki_basics.specs.declared.build.BuildError.TheVariants as unbuilt
use Rattle.rpki_basics.specs.declared.build.BuildFault.TheVariants as fault
use Rattle.rpki_basics.specs.declared.signing.SigningError.{SigningError}
use Rattle.rpki_der.specs.declared.mode.Mode.{Mode}
use Rattle.rpki_faults.specs.Checks.{AllHold, IsFirstFault}
use Rattle.rpki_faults.specs.declared.overclaim.Overclaim.TheVariants.{Refuse}
use Rattle.rpki_faults.specs.Validated.{IsAllowed, IsValidated}
use Rattle.rpki_faults.proofs.Order.{first-join, hold-join}
use Rattle.rpki_resources.specs.declared.block.Block.{Block}
use Rattle.rpki_resources.specs.declared.family.AddressFamily.{AddressFamily}
use Rattle.rpki_resources.specs.declared.family.AddressFamily.TheVariants.{Ipv4, Ipv6}
use Rattle.rpki_resources.specs.declared.resources.Claim.{Claim}
use Rattle.rpki_resources.specs.declared.resources.Claim.TheVariants.{Missing, Inherit, Explicit}
use Rattle.rpki_resources.specs.Blocks.{Holds, holds, within}
use Rattle.rpki_resources.specs.Claim.{HasBlocks, claim_of}
use Rattle.rpki_resources.specs.Family.{IsWithin}
use Rattle.rpki_certs.specs.Cert.{Certificate}
use Rattle.rpki_certs.specs.Inspect.{NamesNothing}
use Rattle.rpki_certs.specs.Validate.{AreValidated, IsResourceCert, IsValidatedUnder, Validated}
use Rattle.rpki_certs.specs.Verify.{Verdict}
use Rattle.rpki_extensions.specs.declared.claims.Claims.{Claims}
use Rattle.rpki_issued.specs.Written.{ClaimsIpv4, OfNumbers}
use Rattle.rpki_lists.specs.Built.{IsNotBuilt}
use Rattle.rpki_sigobj.specs.Object.{SignedData}
use Rattle.rpki_sigobj.specs.Signed.Good.{IsGood}
use Rattle.rpki_sigobj.specs.Signed.{Whole, cert_in}
use Rattle.rpki_sigobj.specs.Validate.{object_validation}
use Rattle.rpki_sigobj.specs.Verify.{Digester}
use Rattle.rpki_signing.specs.Built.{Settings, IsBuilt, IsFit, claims_of}
use Rattle.rpki_signing.specs.Built.{NamesInDer}
use Rattle.rpki_signing.specs.Built.{IsNotBuilt as IsUnsigned}
use Rattle.rpki_signing.specs.Content.{Passes, signing_error}
use Rattle.rpki_signing.proofs.Contents.{content-unsigned, object-unsigned}
use Rattle.rpki_signing.proofs.Valid.{built-valid}
use Rattle.rpki_routes.specs.Roa.{Address, Roa, IsAddress, IsRoa}
use Rattle.rpki_routes.specs.Roa.Built.{IsClaimOf, list_checks, ranges_of, roa_checks}
use Rattle.rpki_routes.specs.Roa.Checks.{HasPrefix, RoaCovered, range_of, roa_kind}
use Rattle.rpki_routes.specs.Roa.Checks.{route_origin_authz}
use Rattle.rpki_routes.specs.Roa.Signed.{ClaimsPrefixes, HasAddress, IsBuiltRoa, IsNotBuiltTold}
use Rattle.rpki_routes.specs.Roa.Signed.{IsNotBuiltRoa, signed_checks}
use Rattle.rpki_routes.specs.Roa.Written.{roa_contents, roa_octets}
use Rattle.rpki_routes.proofs.Claimed.{are-validated}
use Rattle.rpki_routes.proofs.Origins.Built.{claim-has, claim-same, claim-within, roa-passes}
use Rattle.rpki_routes.proofs.Origins.Meaning.{none-in-empty, roa-means, some-held}

-- ---- the checks

-- no addresses pass the checks
none-hold : (family : AddressFamily) (list : List Address) → list ≡ []
    → AllHold (list_checks family list)
none-hold family list e =
    subst (λ (l : List Address). AllHold (list_checks family l)) (sym e) tt

-- a ROA without addresses is refused for it
pub empty-first : (r : Roa) → r.v4 ≡ [] → r.v6 ≡ []
    → IsFirstFault (signed_checks r) fault.EmptyRoa
empty-first r v4 v6 =
    first-join (roa_checks r) _ fault.EmptyRoa (inr (
      hold-join (list_checks Ipv4 r.v4) (list_checks Ipv6 r.v6)
          (none-hold Ipv4 r.v4 v4, none-hold Ipv6 r.v6 v6),
      inr ((λ (has : HasAddress r). has (v4, v6)), refl),
    ))

-- a ROA with an address passes the checks
pub signed-passes : (r : Roa) → IsRoa r → HasAddress r → AllHold (signed_checks r)
signed-passes r is has = hold-join (roa_checks r) _ (roa-passes r is, (has, tt))

-- why the content of a ROA with an address is not built is why it is not signed
pub some-not-built : (r : Roa) (long : Type 0) (e : BuildError) → HasAddress r
    → IsNotBuilt (roa_checks r) long e → IsNotBuilt (signed_checks r) long e
some-not-built r long (unbuilt.Fault why) has h = first-join (roa_checks r) _ why (inl h)
some-not-built r long unbuilt.TooLong has h = (hold-join (roa_checks r) _ (h.0, (has, tt)), h.1)
some-not-built r long unbuilt.Memory has h = tt

-- ---- the claims

-- what is claimed for prefixes of IPv4 are addresses of it
pub ipv4-claimed : (list : List Address) (claim : Claim (List (Block ℕ)))
    → All (IsAddress Ipv4) list → IsClaimOf list claim → OfNumbers (All (IsWithin Ipv4)) claim
ipv4-claimed list Missing are h = tt
ipv4-claimed list Inherit are h = tt
ipv4-claimed list (Explicit set) are h = claim-within Ipv4 list (Explicit set) set are h refl

-- where nothing is claimed for prefixes of a family, there is none
nothing-claimed : (family : AddressFamily) (list : List Address) (claim : Claim (List (Block ℕ)))
    → All (IsAddress family) list → IsClaimOf list claim → claim ≡ Missing → list ≡ []
nothing-claimed family list claim are h e =
    some-held family [] list are
    (claim-has list claim [] h
    (subst (λ (c : Claim (List (Block ℕ))). HasBlocks c []) (sym e) refl)) none-in-empty

-- what a builder claims of IPv4 for a ROA are addresses of it
pub told-ipv4 : (r : Roa) (handed told : Settings) → IsRoa r → ClaimsPrefixes r handed told
    → ClaimsIpv4 (claims_of told)
told-ipv4 r handed told is h = ipv4-claimed r.v4 told.v4 is.v4 h.v4

-- a builder that is told the claims of both families
pub claims-told : (r : Roa) (handed told : Settings) (v4 v6 : Claim (List (Block ℕ)))
    → told ≡ record handed { v4 = v4; v6 = v6 } → IsClaimOf r.v4 v4 → IsClaimOf r.v6 v6
    → ClaimsPrefixes r handed told
claims-told r handed told v4 v6 e a b =
    subst (ClaimsPrefixes r handed) (sym e) (record { v4 = a; v6 = b; others = refl })

not-inherited : (set : List (Block ℕ)) → claim_of set ≡ Inherit → ⊥
not-inherited [] e = absurd cc
not-inherited (b ∷ bs) e = absurd cc

-- the validated set of what is claimed for prefixes has them
validated-has : (list : List Address) (claim : Claim (List (Block ℕ)))
    (issuer set : List (Block ℕ)) → IsClaimOf list claim
    → IsValidated (λ (n : ℕ). n) Refuse claim issuer set → All (HasPrefix set) list
validated-has list claim issuer set h (inl v) = absurd (not-inherited h.set (sym h.claimed ∙ v.0))
validated-has list claim issuer set h (inr v) =
    subst (λ (s : List (Block ℕ)). All (HasPrefix s) list) (sym v.2)
    (claim-has list claim v.0 h v.1)

-- ---- a ROA that was signed

-- what the builder was told, it says of its names as it was handed in
pub told-names : (r : Roa) (handed told : Settings) → ClaimsPrefixes r handed told
    → NamesInDer told → NamesInDer handed
told-names r handed told h names =
    subst NamesInDer h.others names

-- the object of a ROA that was built, of a content that says it
pub roa-built : (r content : Roa) (handed told : Settings) (issuer : List ℕ)
    (digest : Digester) (s : SignedData) → content ≡ r → IsRoa r → HasAddress r
    → ClaimsPrefixes r handed told
    → IsBuilt told issuer route_origin_authz (roa_octets content) (digest (roa_octets content)) s
    → IsBuiltRoa r handed issuer (digest (roa_octets r)) s
roa-built r content handed told issuer digest s same is has claims built = record {
  said = is;
  some = has;
  told = told;
  claims = claims;
  built =
      subst (λ (x : Roa). IsBuilt told issuer route_origin_authz (roa_octets x)
      (digest (roa_octets x)) s) same built;
}

-- why the content of a ROA is not built is why the ROA is not signed
pub roa-unmade : (E : Type 0) (may : List ℕ → List ℕ → List ℕ → Type 0) (once : List ℕ → Type 0)
    (r : Roa) (handed : Settings) (issuer digest : List ℕ) (e : BuildError) (f : SigningError E)
    → f ≡ signing_error {E = E} e
    → IsNotBuilt (signed_checks r) (¬ (length (roa_contents r) < 2 ^ 32)) e
    → IsNotBuiltRoa may once r handed issuer digest f
roa-unmade E may once r handed issuer digest e f is h =
    subst (λ (x : SigningError E). IsNotBuiltRoa may once r handed issuer digest x) (sym is)
    (content-unsigned E (signed_checks r) (¬ (length (roa_contents r) < 2 ^ 32))
    (IsNotBuiltTold may once r handed issuer digest) e h)

-- why the object of a ROA is not built is why the ROA is not signed
pub roa-unsigned : (E : Type 0) (may : List ℕ → List ℕ → List ℕ → Type 0)
    (once : List ℕ → Type 0) (r content : Roa) (handed told : Settings) (issuer : List ℕ)
    (digest : Digester) (e : SigningError E) → content ≡ r → IsRoa r → HasAddress r
    → ClaimsPrefixes r handed told
    → IsUnsigned may once told issuer route_origin_authz (roa_octets content)
    (digest (roa_octets content)) e
    → IsNotBuiltRoa may once r handed issuer (digest (roa_octets r)) e
roa-unsigned E may once r content handed told issuer digest e same is has claims h =
    let d : List ℕ = digest (roa_octets r) in
    object-unsigned E may once told issuer route_origin_authz (roa_octets r) d (signed_checks r)
    (¬ (length (roa_contents r) < 2 ^ 32)) (IsNotBuiltTold may once r handed issuer d) e
    (signed-passes r is has)
    (λ (u : IsUnsigned may once told issuer route_origin_authz (roa_octets r) d e).
    (told, claims, u))
    (subst (λ (x : Roa). IsUnsigned may once told issuer route_origin_authz (roa_octets x)
    (digest (roa_octets x)) e) same h)

module _ (digest : Digester) (verdict : Verdict) (mode : Mode) (handed : Settings)
    (key : List ℕ) (o : Whole Roa) (issuer : Validated) (now : Moment)
    (built : IsBuiltRoa o.content handed key (digest (roa_octets o.content)) o.object.signed)
    (fit : ¬ NamesNothing (claims_of built.told)
    → IsFit verdict built.told key o.object.signed issuer now) (is : IsResourceCert issuer) where
  -- what the certificate claims
  abbrev Claimed : Claims
  Claimed = o.object.signed.cert.tbs.extensions.claims

  claimed : Claimed ≡ claims_of built.told
  claimed = ap (λ (c : Certificate). c.tbs.extensions.claims) built.built.cert

  named : ¬ NamesNothing (claims_of built.told)
  named = λ (n : NamesNothing (claims_of built.told)). built.some (
    nothing-claimed Ipv4 o.content.v4 built.told.v4 built.said.v4 built.claims.v4 n.1,
    nothing-claimed Ipv6 o.content.v6 built.told.v6 built.said.v6 built.claims.v6 n.2,
  )

  valid : AllHold (object_validation digest verdict o.object.signed issuer now)
  valid = built-valid digest verdict built.told key route_origin_authz (roa_octets o.content)
      o.object.signed issuer now built.built (fit named) is

  module _ (v : Validated) (certificate : IsValidatedUnder (cert_in mode o) issuer v) where
    sets : AreValidated Claimed issuer.sets v.sets
    sets = are-validated mode o issuer v certificate

    covered : RoaCovered o.content v.sets
    covered =
        let s = subst (λ (c : Claims). AreValidated c issuer.sets v.sets) claimed sets in record {
          v4 = validated-has o.content.v4 built.told.v4 issuer.sets.v4 v.sets.v4 built.claims.v4
              s.v4;
          v6 = validated-has o.content.v6 built.told.v6 issuer.sets.v6 v.sets.v6 built.claims.v6
              s.v6;
        }

    held : AllHold (roa_kind.held o.content v.sets)
    held = (((roa-means o.content built.said).checks Claimed issuer.sets v.sets sets).1 covered).1

    pub roa-good : IsGood roa_kind mode digest verdict issuer now o v
    roa-good = record { valid = valid; certificate = certificate; covered = covered }

  pub roa-passes-all : Passes roa_kind mode digest verdict issuer now o
  roa-passes-all = record { before = valid; held = held }

-- ---- what is allowed

in-either : (list : List Address) (a : Address) (set : List (Block ℕ)) (n : ℕ)
    → All (HasPrefix set) (a ∷ list)
    → (Holds (λ (m : ℕ). m) (ranges_of list) n → Holds (λ (m : ℕ). m) set n)
    → (within (λ (m : ℕ). m) n (range_of a.prefix) ≡ true)
    ⊎ (holds (λ (m : ℕ). m) (ranges_of list) n ≡ true) → Holds (λ (m : ℕ). m) set n
in-either list a set n h others (inl e) = All-head (HasPrefix set) a list h n
    (or_left (within (λ (m : ℕ). m) n (range_of a.prefix)) false e)
in-either list a set n h others (inr e) = others e

-- a set that has each prefix has each of their addresses
has-all : (list : List Address) (set : List (Block ℕ)) (n : ℕ) → All (HasPrefix set) list
    → Holds (λ (m : ℕ). m) (ranges_of list) n → Holds (λ (m : ℕ). m) set n
has-all [] set n h i = absurd cc
has-all (a ∷ list) set n h i =
    in-either list a set n h (λ j. has-all list set n (All-tail (HasPrefix set) a list h) j)
    (or_cases (within (λ (m : ℕ). m) n (range_of a.prefix))
    (holds (λ (m : ℕ). m) (ranges_of list) n) i)

-- what is claimed for prefixes is allowed under a set that has each of them
pub claim-allowed : (list : List Address) (claim : Claim (List (Block ℕ)))
    (set : List (Block ℕ)) → IsClaimOf list claim → All (HasPrefix set) list
    → IsAllowed (λ (n : ℕ). n) Refuse claim set
claim-allowed list claim set h all = λ refuses named blocks n i.
    has-all list set n all (sym (h.addresses.same n)
    ∙ subst (λ (s : List (Block ℕ)). Holds (λ (m : ℕ). m) s n)
    (claim-same list claim named h blocks) i)
