-- The trust anchor of a locator is found, or there is none.
use Rattle.std.proofs.Common.{◌≡◌, ◌⊎◌, inl, inr, ℕ, ◌≤◌, List, [], ◌∷◌, ◌++◌, length, Ok, Err}
use Rattle.std.proofs.Common.{Result, append_assoc, refl, sym, subst, ap, ◌∙◌, All, Contains, flat_map}
use Rattle.std.proofs.Common.{Bool, true, false, IsTrue, true≢false}
use Rattle.std.specs.Prelude.{◌↔◌, MatchResult}
use Rattle.std.proofs.lemmas.List.{append-nil}
use Rattle.std.proofs.lemmas.List.Elements.{All-nil, All-cons, All-append, All-weaker}
use Rattle.std.proofs.lemmas.List.Elements.{Contains-append_left, Contains-append_right}
use Rattle.rpki_der.specs.Form.Decodes.{IsOnlyFront}
use Rattle.rpki_der.specs.Grammar.{HasNoFront, Front}
use Rattle.rpki_der.specs.declared.error.DecodeError.{DecodeError}
use Rattle.rpki_der.specs.declared.error.DecodeError.TheVariants as errors
use Rattle.rpki_der.specs.declared.mode.Mode.TheVariants.{Der}
use Rattle.rpki_faults.specs.Checks.{AllHold, IsFirstFault}
use Rattle.rpki_faults.specs.declared.validation.ValidationError.{ValidationError}
use Rattle.rpki_faults.specs.declared.validation.ValidationError.TheVariants as faults
use Rattle.rpki_faults.proofs.Order.{first-fails}
use Rattle.rpki_certs.specs.Cert.{Certificate, KeptCertificate, CertForm}
use Rattle.rpki_certs.specs.Issuer.{BeginsWithCert, IsAnchored, in_der}
use Rattle.rpki_certs.specs.Validate.{Validated, ta_validation, IsAnchorOf as HasClaimed}
use Rattle.rpki_certs.specs.declared.issuer.IssuerError.{IssuerError}
use Rattle.rpki_certs.specs.declared.issuer.IssuerError.TheVariants as issuers
use Rattle.rpki_tal.specs.Tal.{Locator}
use Rattle.rpki_tal.specs.Uri.{https_first, uri_text}
use Rattle.rpki_tal.specs.declared.uri.TalUri.{TalUri}
use Rattle.rpki_relying_party.specs.Anchors.{FindsFor, LacksFor, LacksFile, LackFiles, Lacks}
use Rattle.rpki_relying_party.specs.Anchors.{HasOther, HasKey, IsGoodFor, HasAnchor, HasRefused}
use Rattle.rpki_relying_party.specs.Anchors.{IsFirst, WhyNoneGood, WhyNoAnchor, IsAnchorOf}
use Rattle.rpki_relying_party.specs.Anchors.{IsJudged, IsTried, IsRefusalOf, first_fault, most_uris}
use Rattle.rpki_relying_party.specs.Anchors.{candidates, candidates_at, kept_text}
use Rattle.rpki_relying_party.specs.Memory.{IsIssuerMemory}
use Rattle.rpki_relying_party.specs.Setting.{Setting}
use Rattle.rpki_relying_party.specs.declared.anchor.AnchorFault.{AnchorFault}
use Rattle.rpki_relying_party.specs.declared.anchor.AnchorFault.TheVariants as anchors
use Rattle.rpki_relying_party.specs.declared.copy.NoFile.{NoFile}
use Rattle.rpki_relying_party.specs.declared.copy.NoFile.TheVariants.{Missing, NotRegular, TooLarge}
use Rattle.rpki_relying_party.specs.declared.copy.NoFile.TheVariants.{Unreadable}
use Rattle.rpki_relying_party.proofs.Lists.{contains-first}

-- ---- octets with a key

-- whether a reason says more than that the copy has no file
says-more : (why : NoFile) → (why ≡ Missing) ⊎ (¬ (why ≡ Missing))
says-more Missing = inl refl
says-more NotRegular = inr (λ e. cc)
says-more TooLarge = inr (λ e. cc)
says-more Unreadable = inr (λ e. cc)

-- what is not so is not said to be so
not-so : {A : Type 0} → ¬ A → IsTrue false ↔ A
not-so n = (λ t. absurd (true≢false (sym t)), λ a. absurd (n a))

module _ (octets copy key : List ℕ) (same : copy ≡ octets) where
  -- octets that begin with no certificate begin with none that has a key
  pub no-cert : HasNoFront (CertForm Der) copy
      → IsTrue false ↔ BeginsWithCert octets (HasKey key)
  no-cert none = not-so (λ h. none h.cert h.rest (subst
      (λ (o : List ℕ). Front (CertForm Der) o h.cert h.rest) (sym same) h.front.found))

  -- and those that begin with one begin with one that has a key exactly if it has it
  pub has-cert : (cert : KeptCertificate) (is : Bool)
      → ((rest : List ℕ) × IsOnlyFront (CertForm Der) copy cert.certificate rest)
      → (IsTrue is ↔ HasKey key cert.certificate)
      → IsTrue is ↔ BeginsWithCert octets (HasKey key)
  has-cert cert is f e = subst
      (λ (o : List ℕ). IsTrue is ↔ BeginsWithCert o (HasKey key)) same (
        λ t. record { cert = cert.certificate; rest = f.0; front = f.1; holds = e.0 t },
        λ h. e.1 (subst (λ (c : Certificate). HasKey key c)
            (f.1.only h.cert h.rest h.front.found).0 h.holds),
      )

-- ---- good certificates

module _ (s : Setting) (key : List ℕ) where
  -- a good certificate has the key
  keyed : (octets : List ℕ) → BeginsWithCert octets (IsGoodFor s key)
      → BeginsWithCert octets (HasKey key)
  keyed octets h = record { cert = h.cert; rest = h.rest; front = h.front; holds = h.holds.0 }

  -- what lacks a certificate with the key lacks a good one
  pub lacks-good : (text : List ℕ) → Lacks s.finds (HasKey key) text
      → Lacks s.finds (IsGoodFor s key) text
  lacks-good text (inl none) = inl none
  lacks-good text (inr other) =
      inr (other.0, other.1, λ h. other.2 (keyed (other.0) h))

  -- and so does what is refused
  no-decoding : (octets : List ℕ) (e : DecodeError) → IsAnchored s.verdict s.now octets
      (Err (issuers.Decode e)) → (¬ (e ≡ errors.Memory)) → BeginsWithCert octets (IsGoodFor s key) → ⊥
  no-decoding octets errors.Memory h other g = other refl
  no-decoding octets errors.Malformed h other g = h g.cert g.rest g.front.found
  no-decoding octets (errors.Content fault) h other g = h g.cert g.rest g.front.found

  not-good : (octets : List ℕ) (e : IssuerError) → IsAnchored s.verdict s.now octets (Err e)
      → (¬ IsIssuerMemory e) → BeginsWithCert octets (IsGoodFor s key) → ⊥
  not-good octets (issuers.Decode e) h other g = no-decoding octets e h other g
  not-good octets (issuers.Validation fault) h other g = elim h.holds [
    | inl memory ↦ other memory
    | inr first ↦ first-fails (ta_validation s.verdict h.cert s.now) fault first
        (subst (λ (c : Certificate). AllHold (ta_validation s.verdict c s.now))
        (sym ((g.front.only h.cert h.rest h.front.found).0)) (g.holds.1))
  ]

  refused-lacks : (e : IssuerError) (text : List ℕ) → HasRefused s key e text
      → Lacks s.finds (IsGoodFor s key) text
  refused-lacks e text h = inr (h.0, h.1, not-good (h.0) e (h.3) (h.4))

  -- ---- none is good

  missing-lacks : (text : List ℕ) → LacksFor s.finds Missing text → LacksFile s.finds text
  missing-lacks text h = (Missing, h)

  lack-files : (texts : List (List ℕ)) (why : NoFile) → LackFiles s.finds texts why
      → All (LacksFile s.finds) texts
  lack-files texts why (inl none) = All-weaker (LacksFor s.finds Missing) (LacksFile s.finds)
      missing-lacks texts (none.1)
  lack-files texts why (inr r) = subst (λ (l : List (List ℕ)). All (LacksFile s.finds) l)
      (sym r.order) (All-append (LacksFile s.finds) r.before (r.text ∷ r.after)
      (All-weaker (LacksFor s.finds Missing) (LacksFile s.finds) missing-lacks r.before r.missing)
      (All-cons (LacksFile s.finds) r.text r.after (why, r.here) r.others))

  no-key : (texts : List (List ℕ)) (why : NoFile) → LackFiles s.finds texts why
      → All (Lacks s.finds (HasKey key)) texts
  no-key texts why h = All-weaker (LacksFile s.finds) (Lacks s.finds (HasKey key))
      (λ text none. inl none) texts (lack-files texts why h)

  keys-good : (texts : List (List ℕ)) → All (Lacks s.finds (HasKey key)) texts
      → All (Lacks s.finds (IsGoodFor s key)) texts
  keys-good texts h = All-weaker (Lacks s.finds (HasKey key)) (Lacks s.finds (IsGoodFor s key))
      lacks-good texts h

  none-good : (texts : List (List ℕ)) (fault : AnchorFault) → WhyNoneGood s key texts fault
      → All (Lacks s.finds (IsGoodFor s key)) texts
  none-good texts anchors.TooManyUris h = absurd h
  none-good texts (anchors.NoFile why) h = keys-good texts (no-key texts why h)
  none-good texts anchors.OtherKey h = keys-good texts (h.0)
  none-good texts (anchors.Refused error) h = h.0
  none-good texts anchors.Memory h = absurd h

  -- ---- some texts, and others after them

  module _ (P Q : List ℕ → Type 0) (xs ys : List (List ℕ)) where
    first-left : IsFirst P Q xs → IsFirst P Q (xs ++ ys)
    first-left h = record {
      before = h.before;
      text = h.text;
      after = h.after ++ ys;
      order = ap (λ (l : List (List ℕ)). l ++ ys) h.order
          ∙ append_assoc h.before (h.text ∷ h.after) ys;
      others = h.others;
      here = h.here;
    }

    first-right : All Q xs → IsFirst P Q ys → IsFirst P Q (xs ++ ys)
    first-right none h = record {
      before = xs ++ h.before;
      text = h.text;
      after = h.after;
      order = ap (λ (l : List (List ℕ)). xs ++ l) h.order
          ∙ sym (append_assoc xs h.before (h.text ∷ h.after));
      others = All-append Q xs h.before none h.others;
      here = h.here;
    }

  module _ (xs ys : List (List ℕ)) where
    lack-both : (why other : NoFile) → LackFiles s.finds xs why → LackFiles s.finds ys other
        → (¬ (why ≡ Missing)) → LackFiles s.finds (xs ++ ys) why
    lack-both why other (inl none) h more = absurd (more (none.0))
    lack-both why other (inr r) h more = inr (record {
      before = r.before;
      text = r.text;
      after = r.after ++ ys;
      order = ap (λ (l : List (List ℕ)). l ++ ys) r.order
          ∙ append_assoc r.before (r.text ∷ r.after) ys;
      missing = r.missing;
      here = r.here;
      says_more = r.says_more;
      others = All-append (LacksFile s.finds) r.after ys r.others (lack-files ys other h);
    })

    all-missing : LackFiles s.finds xs Missing → All (LacksFor s.finds Missing) xs
    all-missing (inl none) = none.1
    all-missing (inr r) = absurd (r.says_more refl)

    lack-later : (why : NoFile) → All (LacksFor s.finds Missing) xs → LackFiles s.finds ys why
        → LackFiles s.finds (xs ++ ys) why
    lack-later why none (inl rest) =
        inl (rest.0, All-append (LacksFor s.finds Missing) xs ys none (rest.1))
    lack-later why none (inr r) = inr (record {
      before = xs ++ r.before;
      text = r.text;
      after = r.after;
      order = ap (λ (l : List (List ℕ)). xs ++ l) r.order
          ∙ sym (append_assoc xs r.before (r.text ∷ r.after));
      missing = All-append (LacksFor s.finds Missing) xs r.before none r.missing;
      here = r.here;
      says_more = r.says_more;
      others = r.others;
    })

    -- those before have no certificate with the key
    after-none : (here : AnchorFault) → All (Lacks s.finds (HasKey key)) xs
        → (¬ ((why : NoFile) × (here ≡ anchors.NoFile why))) → WhyNoneGood s key ys here
        → WhyNoneGood s key (xs ++ ys) here
    after-none anchors.TooManyUris none there h = absurd h
    after-none (anchors.NoFile why) none there h = absurd (there (why, refl))
    after-none anchors.OtherKey none there h = (
      All-append (Lacks s.finds (HasKey key)) xs ys none (h.0),
      (h.1.0, Contains-append_right xs ys (h.1.0) (h.1.1), h.1.2),
    )
    after-none (anchors.Refused e) none there h = (
      All-append (Lacks s.finds (IsGoodFor s key)) xs ys (keys-good xs none) (h.0),
      first-right (HasRefused s key e) (Lacks s.finds (HasKey key)) xs ys none (h.1),
    )
    after-none anchors.Memory none there h = absurd h

    after-other : WhyNoneGood s key xs anchors.OtherKey → (why : NoFile)
        → LackFiles s.finds ys why → WhyNoneGood s key (xs ++ ys) anchors.OtherKey
    after-other h why g = (
      All-append (Lacks s.finds (HasKey key)) xs ys (h.0) (no-key ys why g),
      (h.1.0, Contains-append_left xs ys (h.1.0) (h.1.1), h.1.2),
    )

    after-missing : (here : AnchorFault) → LackFiles s.finds xs Missing
        → WhyNoneGood s key ys here → WhyNoneGood s key (xs ++ ys) here
    after-missing (anchors.NoFile why) none h = lack-later why (all-missing none) h
    after-missing anchors.TooManyUris none h = absurd h
    after-missing anchors.OtherKey none h =
        after-none anchors.OtherKey (no-key xs Missing none) (λ e. absurd cc) h
    after-missing (anchors.Refused e) none h =
        after-none (anchors.Refused e) (no-key xs Missing none) (λ f. absurd cc) h
    after-missing anchors.Memory none h = absurd h

    -- those before have files, and none with the key; or none, for a reason that says more
    joins-other : (here : AnchorFault) → WhyNoneGood s key xs anchors.OtherKey
        → WhyNoneGood s key ys here
        → WhyNoneGood s key (xs ++ ys) (first_fault anchors.OtherKey here)
    joins-other anchors.TooManyUris h g = absurd g
    joins-other (anchors.NoFile why) h g = after-other h why g
    joins-other anchors.OtherKey h g = after-none anchors.OtherKey (h.0) (λ e. absurd cc) g
    joins-other (anchors.Refused e) h g = after-none (anchors.Refused e) (h.0) (λ f. absurd cc) g
    joins-other anchors.Memory h g = absurd g

    joins-files : (why : NoFile) (here : AnchorFault) → LackFiles s.finds xs why
        → WhyNoneGood s key ys here
        → WhyNoneGood s key (xs ++ ys) (first_fault (anchors.NoFile why) here)
    joins-files Missing here h g = after-missing here h g
    joins-files NotRegular anchors.TooManyUris h g = absurd g
    joins-files NotRegular (anchors.NoFile other) h g =
        lack-both NotRegular other h g (λ e. cc)
    joins-files NotRegular anchors.OtherKey h g =
        after-none anchors.OtherKey (no-key xs NotRegular h) (λ e. absurd cc) g
    joins-files NotRegular (anchors.Refused e) h g =
        after-none (anchors.Refused e) (no-key xs NotRegular h) (λ f. absurd cc) g
    joins-files NotRegular anchors.Memory h g = absurd g
    joins-files TooLarge anchors.TooManyUris h g = absurd g
    joins-files TooLarge (anchors.NoFile other) h g =
        lack-both TooLarge other h g (λ e. cc)
    joins-files TooLarge anchors.OtherKey h g =
        after-none anchors.OtherKey (no-key xs TooLarge h) (λ e. absurd cc) g
    joins-files TooLarge (anchors.Refused e) h g =
        after-none (anchors.Refused e) (no-key xs TooLarge h) (λ f. absurd cc) g
    joins-files TooLarge anchors.Memory h g = absurd g
    joins-files Unreadable anchors.TooManyUris h g = absurd g
    joins-files Unreadable (anchors.NoFile other) h g =
        lack-both Unreadable other h g (λ e. cc)
    joins-files Unreadable anchors.OtherKey h g =
        after-none anchors.OtherKey (no-key xs Unreadable h) (λ e. absurd cc) g
    joins-files Unreadable (anchors.Refused e) h g =
        after-none (anchors.Refused e) (no-key xs Unreadable h) (λ f. absurd cc) g
    joins-files Unreadable anchors.Memory h g = absurd g

    -- the fault of both
    pub joins : (old here : AnchorFault) → WhyNoneGood s key xs old → WhyNoneGood s key ys here
        → WhyNoneGood s key (xs ++ ys) (first_fault old here)
    joins anchors.TooManyUris here h g = absurd h
    joins (anchors.NoFile why) here h g = joins-files why here h g
    joins anchors.OtherKey here h g = joins-other here h g
    joins (anchors.Refused e) here h g = (
      All-append (Lacks s.finds (IsGoodFor s key)) xs ys (h.0) (none-good ys here g),
      first-left (HasRefused s key e) (Lacks s.finds (HasKey key)) xs ys (h.1),
    )
    joins anchors.Memory here h g = absurd h

    -- a good one is found after others that are not good
    pub good-later : (old : AnchorFault) (v : Validated) → WhyNoneGood s key xs old
        → IsTried s key ys (Ok v) → IsTried s key (xs ++ ys) (Ok v)
    good-later old v h g = first-right (HasAnchor s key v) (Lacks s.finds (IsGoodFor s key)) xs ys
        (none-good xs old h) g

    -- what stands after a good one does not matter
    pub good-before : (v : Validated) → IsTried s key xs (Ok v) → IsTried s key (xs ++ ys) (Ok v)
    good-before v h = first-left (HasAnchor s key v) (Lacks s.finds (IsGoodFor s key)) xs ys h

  -- ---- one text

  module _ (text : List ℕ) where
    pub tried-missing : (why : NoFile) → FindsFor s.finds text (Err why)
        → WhyNoneGood s key (text ∷ []) (anchors.NoFile why)
    tried-missing why h = elim (says-more why) [
      | inl none ↦ inl (
        none,
        All-cons (LacksFor s.finds Missing) text []
            (subst (λ (w : NoFile). LacksFor s.finds w text) none h)
            (All-nil (LacksFor s.finds Missing)),
      )
      | inr more ↦ inr (record {
        before = [];
        text = text;
        after = [];
        order = refl;
        missing = All-nil (LacksFor s.finds Missing);
        here = h;
        says_more = more;
        others = All-nil (LacksFile s.finds);
      })
    ]

    pub tried-octets : (octets : List ℕ) → FindsFor s.finds text (Ok octets)
        → (r : Result Validated AnchorFault) → IsJudged s key octets r
        → IsTried s key (text ∷ []) r
    tried-octets octets f (Ok v) h = record {
      before = [];
      text = text;
      after = [];
      order = refl;
      others = All-nil (Lacks s.finds (IsGoodFor s key));
      here = (octets, f, h);
    }
    tried-octets octets f (Err anchors.TooManyUris) h = absurd h
    tried-octets octets f (Err (anchors.NoFile why)) h = absurd h
    tried-octets octets f (Err anchors.OtherKey) h = (
      All-cons (Lacks s.finds (HasKey key)) text [] (inr (octets, f, h))
          (All-nil (Lacks s.finds (HasKey key))),
      (text, contains-first text [], (octets, f, h)),
    )
    tried-octets octets f (Err (anchors.Refused e)) h = (
      All-cons (Lacks s.finds (IsGoodFor s key)) text []
          (refused-lacks e text (octets, f, h.0, h.1, h.2))
          (All-nil (Lacks s.finds (IsGoodFor s key))),
      record {
        before = [];
        text = text;
        after = [];
        order = refl;
        others = All-nil (Lacks s.finds (HasKey key));
        here = (octets, f, h.0, h.1, h.2);
      },
    )
    tried-octets octets f (Err anchors.Memory) h = absurd h

-- ---- octets that were judged

module _ (s : Setting) (key octets : List ℕ) (has : BeginsWithCert octets (HasKey key)) where
  pub judged-good : (v : Validated) → IsAnchored s.verdict s.now octets (Ok v)
      → IsJudged s key octets (Ok v)
  judged-good v h = record {
    cert = h.cert;
    rest = h.rest;
    front = h.front;
    holds = (
      (
        subst (λ (c : Certificate). HasKey key c)
            ((h.front.only has.cert has.rest has.front.found).0) has.holds,
        h.holds.0,
      ),
      h.holds.1,
    );
  }

  pub judged-bad : (error : IssuerError) → IsAnchored s.verdict s.now octets (Err error)
      → (fault : AnchorFault) → IsRefusalOf error fault → IsJudged s key octets (Err fault)
  judged-bad error h fault r =
      subst (λ (f : AnchorFault). IsJudged s key octets (Err f)) (sym (r.1)) (has, h, r.0)

-- ---- one URI

module _ (s : Setting) (key : List ℕ) (u : TalUri) (a b : List ℕ) (first : a ≡ uri_text u)
    (second : b ≡ kept_text (uri_text u)) (r : Result Validated AnchorFault)
    (tried : IsTried s key (a ∷ []) r) where
  at-first : IsTried s key (uri_text u ∷ []) r
  at-first = subst (λ (t : List ℕ). IsTried s key (t ∷ []) r) first tried

  pub uri-first : (v : Validated) → r ≡ Ok v → IsTried s key (candidates_at u) (Ok v)
  uri-first v e = good-before s key (uri_text u ∷ []) (kept_text (uri_text u) ∷ []) v
      (subst (IsTried s key (uri_text u ∷ [])) e at-first)

  module _ (fault : AnchorFault) (bad : r ≡ Err fault) (q : Result Validated AnchorFault)
      (also : IsTried s key (b ∷ []) q) where
    at-second : IsTried s key (kept_text (uri_text u) ∷ []) q
    at-second = subst (λ (t : List ℕ). IsTried s key (t ∷ []) q) second also

    none-first : WhyNoneGood s key (uri_text u ∷ []) fault
    none-first = subst (IsTried s key (uri_text u ∷ [])) bad at-first

    pub uri-second : (v : Validated) → q ≡ Ok v → IsTried s key (candidates_at u) (Ok v)
    uri-second v e = good-later s key (uri_text u ∷ []) (kept_text (uri_text u) ∷ []) fault v
        none-first (subst (IsTried s key (kept_text (uri_text u) ∷ [])) e at-second)

    pub uri-none : (here both : AnchorFault) → q ≡ Err here → both ≡ first_fault fault here
        → WhyNoneGood s key (candidates_at u) both
    uri-none here both e is = subst (λ (f : AnchorFault). WhyNoneGood s key (candidates_at u) f)
        (sym is) (joins s key (uri_text u ∷ []) (kept_text (uri_text u) ∷ []) fault here
        none-first (subst (IsTried s key (kept_text (uri_text u) ∷ [])) e at-second))

-- ---- all URIs

-- Of those that were tried so far none is good, for this fault.
pub record IsSearched (s : Setting) (key : List ℕ) (all left : List TalUri) (fault : AnchorFault)
    : Type 0 where
  pub before : List (List ℕ)
  pub splits : candidates all ≡ before ++ candidates left
  pub none : WhyNoneGood s key before fault

module _ (s : Setting) (key : List ℕ) (all left : List TalUri) where
  pub none-searched : left ≡ all → IsSearched s key all left (anchors.NoFile Missing)
  none-searched e = record {
    before = [];
    splits = ap candidates (sym e);
    none = inl (refl, All-nil (LacksFor s.finds Missing));
  }

  module _ (old : AnchorFault) (h : IsSearched s key all left old) where
    pub all-searched : left ≡ [] → WhyNoneGood s key (candidates all) old
    all-searched e = subst (λ (l : List (List ℕ)). WhyNoneGood s key l old)
        (sym (h.splits ∙ (ap (λ (l : List TalUri). h.before ++ candidates l) e
        ∙ append-nil h.before))) h.none

    module _ (rest : List TalUri) (u : TalUri) (e : left ≡ u ∷ rest) where
      next : candidates all ≡ (h.before ++ candidates_at u) ++ candidates rest
      next = h.splits ∙ (ap (λ (l : List TalUri). h.before ++ candidates l) e
          ∙ sym (append_assoc h.before (candidates_at u) (candidates rest)))

      pub more-searched : (here new : AnchorFault) → WhyNoneGood s key (candidates_at u) here
          → new ≡ first_fault old here → IsSearched s key all rest new
      more-searched here new g is = record {
        before = h.before ++ candidates_at u;
        splits = next;
        none = subst (λ (f : AnchorFault). WhyNoneGood s key (h.before ++ candidates_at u) f)
            (sym is) (joins s key h.before (candidates_at u) old here h.none g);
      }

      pub good-searched : (v : Validated) → IsTried s key (candidates_at u) (Ok v)
          → IsTried s key (candidates all) (Ok v)
      good-searched v g = subst (λ (l : List (List ℕ)). IsTried s key l (Ok v)) (sym next)
          (good-before s key (h.before ++ candidates_at u) (candidates rest) v
          (good-later s key h.before (candidates_at u) old v h.none g))

-- ---- the anchor

module _ (s : Setting) (tal : Locator) where
  -- what is tried of a locator with its URIs in another order is tried in this order
  pub in-order : (copy new : Locator) (r : Result Validated AnchorFault) → copy ≡ tal
      → new ≡ record copy { uris = https_first copy.uris }
      → IsTried s new.key (candidates new.uris) r
      → IsTried s tal.key (candidates (https_first tal.uris)) r
  in-order copy new r e o h = subst (λ (l : Locator). IsTried s l.key (candidates l.uris) r)
      (o ∙ ap (λ (l : Locator). record l { uris = https_first l.uris }) e) h

  why-none : (few : length tal.uris ≤ most_uris) (fault : AnchorFault)
      → WhyNoneGood s tal.key (candidates (https_first tal.uris)) fault → WhyNoAnchor s tal fault
  why-none few anchors.TooManyUris h = absurd h
  why-none few (anchors.NoFile why) h = (few, h)
  why-none few anchors.OtherKey h = (few, h)
  why-none few (anchors.Refused error) h = (few, h)
  why-none few anchors.Memory h = absurd h

  pub of-tried : (few : length tal.uris ≤ most_uris) (r : Result Validated AnchorFault)
      → IsTried s tal.key (candidates (https_first tal.uris)) r
      → MatchResult r (IsAnchorOf s tal) (WhyNoAnchor s tal)
  of-tried few (Ok v) h = (few, h)
  of-tried few (Err fault) h = why-none few fault h
