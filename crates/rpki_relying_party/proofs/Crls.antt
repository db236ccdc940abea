-- What comes of looking for a revocation list.
use Rattle.std.proofs.Common.{◌≡◌, ◌⊎◌, inl, inr, ℕ, List, [], ◌∷◌, ◌++◌, Contains, Option, None}
use Rattle.std.proofs.Common.{Some, Result, Ok, Err, is_some, unwrap_or, true≢false, refl, sym, ap}
use Rattle.std.proofs.Common.{subst, ◌∙◌, append_assoc, MatchOption, Bool, Bor, true, false, cond}
use Rattle.std.specs.Prelude.{IfOk, codes, nat_eq}
use Rattle.std.specs.List.{ends_with}
use Rattle.std.specs.Str.{bytes_eq}
use Rattle.std.proofs.lemmas.List.{append-nil, append_cancel_left}
use Rattle.std.proofs.lemmas.Slice.Eq.{bytes_eq-Decides}
use Rattle.std.proofs.lemmas.List.Elements.{Contains-append_cases, Contains-append_right}
use Rattle.rpki_der.specs.declared.mode.Mode.TheVariants.{Der}
use Rattle.rpki_der.specs.Form.Decodes.{IsOnlyFront}
use Rattle.rpki_der.specs.Grammar.{HasNoFront}
use Rattle.rpki_basics.specs.Moment.{Moment}
use Rattle.rpki_basics.specs.Uri.{join_text}
use Rattle.rpki_crls.specs.Crl.{RevocationList, KeptCrl, CrlForm}
use Rattle.rpki_faults.specs.Checks.{AllHold, IsFirstFault}
use Rattle.rpki_certs.specs.Cert.{Certificate}
use Rattle.rpki_certs.specs.Validate.{Validated}
use Rattle.rpki_certs.specs.Verify.{Verdict}
use Rattle.rpki_files.specs.Manifest.{Manifest}
use Rattle.rpki_files.specs.Manifest.Files.{File}
use Rattle.rpki_files.specs.Manifest.Uris.{UriAndHash, uri_of, uris_of}
use Rattle.rpki_relying_party.specs.Costs.{ReadCosts, ReadStarts, ListCosts, ListStarts}
use Rattle.rpki_relying_party.specs.Costs.{found_cost, list_cost}
use Rattle.rpki_relying_party.specs.Lacks.{HasBadList, IsLostFile, WhyNoList, list_checks}
use Rattle.rpki_relying_party.specs.Outcome.{Spends, IsOutcome}
use Rattle.rpki_relying_party.specs.Point.{Has, IsListAt, IsListFile}
use Rattle.rpki_relying_party.specs.Setting.{Setting}
use Rattle.rpki_relying_party.specs.declared.cause.Cause.{Cause}
use Rattle.rpki_relying_party.specs.declared.cause.Cause.TheVariants as causes
use Rattle.rpki_relying_party.specs.declared.cause.ListFault.{ListFault}
use Rattle.rpki_relying_party.specs.declared.cause.ListFault.TheVariants as faults
use Rattle.rpki_relying_party.specs.declared.cause.Stop.{Stop}
use Rattle.rpki_relying_party.specs.declared.cause.Stop.TheVariants.{Memory, Refused}
use Rattle.rpki_relying_party.specs.declared.list.List.{List as Found}
use Rattle.rpki_relying_party.proofs.Lists.{nothing, contains-first, cons-cases, mapped-from}
use Rattle.rpki_relying_party.proofs.Outcomes.{none-spent, outcome-stops}
use Rattle.rpki_relying_party.proofs.Repeating.{one-name}

-- ---- a URI among those of files

-- The files that are left come after others, of which none has the URI.
pub record AreOthers (uri : List ℕ) (all left : List UriAndHash) : Type 0 where
  pub before : List UriAndHash
  pub splits : all ≡ before ++ left
  pub others : (hash : List ℕ) → ¬ Contains before (uri, hash)

pub none-before : (uri : List ℕ) (all left : List UriAndHash) → left ≡ all
    → AreOthers uri all left
none-before uri all left e = record {
  before = [];
  splits = sym e;
  others = λ hash w. nothing (uri, hash) w;
}

-- the file that the next call answers
pub first-left : {X E : Type 0} (item : Result X E) (y : X) (left rest : List X)
    → ((x : X) × (left ≡ x ∷ rest) × IfOk item (λ z. z ≡ x)) → item ≡ Ok y → left ≡ y ∷ rest
first-left {X} {E} item y left rest s e =
    s.1 ∙ ap (λ (z : X). z ∷ rest)
    (sym (subst (λ (i : Result X E). IfOk i (λ z. z ≡ s.0)) e s.2))

module _ (uri : List ℕ) (all left rest : List UriAndHash) (listed hash : List ℕ)
    (h : AreOthers uri all left) (e : left ≡ (listed, hash) ∷ rest) where
  order : all ≡ h.before ++ (listed, hash) ∷ rest
  order = h.splits ∙ ap (λ (l : List UriAndHash). h.before ++ l) e

  pub is-here : listed ≡ uri → Contains all (uri, hash)
  is-here same = subst (λ (l : List UriAndHash). Contains l (uri, hash)) (sym order)
      (Contains-append_right h.before ((listed, hash) ∷ rest) (uri, hash)
      (subst (λ (u : List ℕ). Contains ((listed, hash) ∷ rest) (u, hash)) same
      (contains-first (listed, hash) rest)))

  pub is-later : (¬ (listed ≡ uri)) → AreOthers uri all rest
  is-later other = record {
    before = h.before ++ (listed, hash) ∷ [];
    splits = order ∙ sym (append_assoc h.before ((listed, hash) ∷ []) rest);
    others = λ x w. elim (Contains-append_cases h.before ((listed, hash) ∷ []) (uri, x) w) [
      | inl was ↦ h.others x was
      | inr last ↦ elim (cons-cases (listed, hash) (uri, x) [] last) [
        | inl same ↦ other (ap (λ (f : UriAndHash). f.0) same)
        | inr none ↦ nothing (uri, x) none
      ]
    ];
  }

pub is-nowhere : (uri : List ℕ) (all left : List UriAndHash) → AreOthers uri all left → left ≡ []
    → (hash : List ℕ) → ¬ Contains all (uri, hash)
is-nowhere uri all left h e hash w =
    h.others hash (subst (λ (l : List UriAndHash). Contains l (uri, hash))
    (h.splits ∙ (ap (λ (l : List UriAndHash). h.before ++ l) e ∙ append-nil h.before)) w)

-- ---- a name below a folder

-- what stands after a folder and a slash
pub after-slash : (o : Option (Bor (List ℕ))) (folder uri rest : List ℕ)
    → ends_with nat_eq folder (codes "/") ≡ false → uri ≡ folder ++ rest
    → MatchOption o ((name : List ℕ) → ¬ (rest ≡ codes "/" ++ name))
    (λ name. rest ≡ codes "/" ++ name.now)
    → MatchOption o ((name : List ℕ) → ¬ (uri ≡ join_text folder name))
    (λ name. uri ≡ join_text folder name.now)
after-slash None folder uri rest f e h = λ name g.
    h name (append_cancel_left folder rest (codes "/" ++ name) (sym e ∙ g
    ∙ ap (λ (t : Bool). cond t (folder ++ name) (folder ++ (codes "/" ++ name))) f))
after-slash (Some name) folder uri rest f e h = e ∙ ap (λ (l : List ℕ). folder ++ l) h
    ∙ sym (ap (λ (t : Bool). cond t (folder ++ name.now) (folder ++ (codes "/" ++ name.now))) f)

module _ (folder uri : List ℕ) (all : List File) where
  -- the URI is not below the folder
  pub is-elsewhere : ((name : List ℕ) → ¬ (uri ≡ join_text folder name)) → (hash : List ℕ)
      → ¬ Contains (uris_of folder all) (uri, hash)
  is-elsewhere other hash w =
      let f = mapped-from (uri_of folder) all (uri, hash) w in
      other (f.0.file) (sym (ap (λ (x : UriAndHash). x.0) (f.2)))

  module _ (left rest : List File) (file name hash : List ℕ) (e : uri ≡ join_text folder name)
      (h : AreOthers uri (uris_of folder all) (uris_of folder left))
      (l : left ≡ record { file = file; hash = hash } ∷ rest) where
    next : uris_of folder left ≡ (join_text folder file, hash) ∷ uris_of folder rest
    next = ap (λ (fs : List File). uris_of folder fs) l

    pub is-named : true ≡ bytes_eq file name → Contains (uris_of folder all) (uri, hash)
    is-named t = is-here uri (uris_of folder all) (uris_of folder left) (uris_of folder rest)
        (join_text folder file) hash h next
        (ap (λ (n : List ℕ). join_text folder n) ((bytes_eq-Decides file name).0 (sym t)) ∙ sym e)

    pub is-other : false ≡ bytes_eq file name
        → AreOthers uri (uris_of folder all) (uris_of folder rest)
    is-other t = is-later uri (uris_of folder all) (uris_of folder left) (uris_of folder rest)
        (join_text folder file) hash h next
        (λ same. true≢false (sym ((bytes_eq-Decides file name).1
        (one-name folder file name (same ∙ e))) ∙ sym t))

-- ---- what it lacks

-- the fault of a list that is none of the CA
abbrev IsFaultOf : RevocationList → ListFault → Type 0
IsFaultOf list fault = (fault ≡ faults.OtherKey) ⊎ ((fault ≡ faults.BadSignature)
    ⊎ ((fault ≡ faults.NotYet list.tbs.this_update) ⊎ ((fault ≡ faults.Stale list.tbs.next_update)
    ⊎ (fault ≡ faults.RevokesManifest))))

fault-of : (verdict : Verdict) (now : Moment) (ca : Validated) (signer : Certificate)
    (list : RevocationList) (fault : ListFault)
    → IsFirstFault (list_checks verdict now ca signer list) fault → IsFaultOf list fault
fault-of verdict now ca signer list fault (inr k) = inl (k.1)
fault-of verdict now ca signer list fault (inl k) = inr (elim (k.1) [
  | inr k2 ↦ inl (k2.1)
  | inl k2 ↦ inr (elim (k2.1) [
    | inr k3 ↦ inl (k3.1)
    | inl k3 ↦ inr (elim (k3.1) [
      | inr k4 ↦ inl (k4.1)
      | inl k4 ↦ inr (elim (k4.1) [
        | inr k5 ↦ k5.1
        | inl k5 ↦ absurd (k5.1)
      ])
    ])
  ])
])

some-some : (o : Option (List ℕ)) (a b : List ℕ) → o ≡ Some a → o ≡ Some b → a ≡ b
some-some o a b e f = ap (λ (p : Option (List ℕ)). unwrap_or p []) (sym e ∙ f)

none-some : (o : Option (List ℕ)) (a : List ℕ) → o ≡ None → o ≡ Some a → ⊥
none-some o a e f = true≢false (ap (λ (p : Option (List ℕ)). is_some p) (sym f ∙ e))

module _ (s : Setting) (ca : Validated) (folder : List ℕ) (signer : Certificate)
    (manifest : Manifest) where
  -- the files of the manifest
  abbrev files : List UriAndHash
  files = uris_of folder manifest.files

  -- what comes of looking for the list
  abbrev IsLooked : ℕ → ℕ → Result Found Stop → Type 0
  IsLooked old new r = IsOutcome (ListStarts s folder signer manifest)
      (λ list n. IsListAt s ca folder signer manifest list.uri list.crl.list
      × ListCosts s folder signer manifest n)
      (λ cause n. WhyNoList s ca folder signer manifest cause
      × ListCosts s folder signer manifest n) old new r

  -- no listed file is named
  none-listed : (room : ℕ) → ((file : UriAndHash) → ¬ IsListFile folder signer manifest file)
      → IsLooked room room (Err (Refused (causes.List faults.Unlisted)))
  none-listed room none = none-spent (λ n. WhyNoList s ca folder signer manifest
      (causes.List faults.Unlisted) × ListCosts s folder signer manifest n) room
      (none, inl (none, refl))

  -- the certificate of the manifest names none
  pub unnamed : (room : ℕ) → signer.tbs.extensions.locations.crl ≡ None
      → IsLooked room room (Err (Refused (causes.List faults.Unlisted)))
  unnamed room e = none-listed room
      (λ file l. none-some signer.tbs.extensions.locations.crl (file.0) e l.named)

  module _ (uri : List ℕ) (named : signer.tbs.extensions.locations.crl ≡ Some uri) where
    -- the hash of a file with its URI, if one is listed
    abbrev IsHash : Option (List ℕ) → Type 0
    IsHash found = MatchOption found ((hash : List ℕ) → ¬ Contains files (uri, hash))
        (λ hash. Contains files (uri, hash))

    -- it names one that is not listed
    pub unlisted : (room : ℕ) (found : Option (List ℕ)) → found ≡ None → IsHash found
        → IsLooked room room (Err (Refused (causes.List faults.Unlisted)))
    unlisted room found e h = none-listed room
        (λ file l. none (file.1) (subst (λ (u : List ℕ). Contains files (u, file.1))
        (some-some signer.tbs.extensions.locations.crl (file.0) uri l.named named) l.listed))
      where
        none : (hash : List ℕ) → ¬ Contains files (uri, hash)
        none = subst (λ (o : Option (List ℕ)). IsHash o) e h

    -- it names one that is listed with this hash
    module _ (found : Option (List ℕ)) (hash : List ℕ) (e : found ≡ Some hash) (h : IsHash found)
        (old new : ℕ) where
      listed : Contains files (uri, hash)
      listed = subst (λ (o : Option (List ℕ)). IsHash o) e h

      file : IsListFile folder signer manifest (uri, hash)
      file = record { named = named; listed = listed }

      costs : (n : ℕ) → ReadCosts s (list_cost uri) uri n → ListCosts s folder signer manifest n
      costs n c = inr ((uri, hash), file, c)

      why : (cause : Cause) → IsLostFile s (uri, hash) cause
          → WhyNoList s ca folder signer manifest cause
      why (causes.Manifest fault) h = absurd h
      why (causes.List fault) h = absurd h
      why (causes.File u fault) h = ((uri, hash), file, h)
      why (causes.Object error) h = absurd h
      why causes.RoaCertificate h = absurd h
      why (causes.Certificate error) h = absurd h
      why (causes.Limit count) h = absurd h
      why (causes.Memory count) h = absurd h

      -- the copy has not the file
      pub lost : (stop : Stop) (price : ℕ) → price ≡ list_cost uri
          → IsOutcome {T = List ℕ} (ReadStarts s price uri)
          (λ octets n. Has s (uri, hash) octets × (n ≡ found_cost price (Ok octets)))
          (λ cause n. IsLostFile s (uri, hash) cause × ReadCosts s price uri n) old new (Err stop)
          → IsLooked old new (Err stop)
      lost stop price e h = outcome-stops {A = ReadStarts s price uri}
          (ListStarts s folder signer manifest)
          (λ n c. ((uri, hash), file, subst (λ (p : ℕ). ReadStarts s p uri n) e c))
          {V = λ cause n. IsLostFile s (uri, hash) cause × ReadCosts s price uri n}
          {W = λ cause n. WhyNoList s ca folder signer manifest cause
          × ListCosts s folder signer manifest n}
          (λ cause n w. (
            why cause (w.0),
            costs n (subst (λ (p : ℕ). ReadCosts s p uri n) e (w.1)),
          )) old new
          (λ octets n. Has s (uri, hash) octets × (n ≡ found_cost price (Ok octets)))
          (λ (list : Found) n. IsListAt s ca folder signer manifest list.uri list.crl.list
          × ListCosts s folder signer manifest n) stop h

      module _ (octets : List ℕ)
          (spends : Spends (λ n. Has s (uri, hash) octets
          × (n ≡ found_cost (list_cost uri) (Ok octets))) old new)
        where
          has : Has s (uri, hash) octets
          has = spends.1.0

          -- what was found out, and what was spent then
          spent : {Y : Type 0} → Y → Spends (λ n. Y × ListCosts s folder signer manifest n) old new
          spent y = (
            spends.0,
            (y, costs (spends.0) (Ok octets, spends.1.0.0, spends.1.1)),
            spends.2,
          )

          -- it is none
          pub malformed : (stop : Stop)
              → (stop ≡ Memory) ⊎ ((stop ≡ Refused (causes.List faults.Malformed))
              × HasNoFront (CrlForm Der) octets) → IsLooked old new (Err stop)
          malformed stop (inl e) = subst (λ (x : Stop). IsLooked old new (Err x)) (sym e) tt
          malformed stop (inr e) = subst (λ (x : Stop). IsLooked old new (Err x)) (sym (e.0))
              (spent ((uri, hash), octets, file, has, e.1))

          module _ (crl : KeptCrl) (rest : List ℕ)
              (front : IsOnlyFront (CrlForm Der) octets crl.list rest) where
            -- it is none of the CA, or it revokes the certificate of the manifest
            pub bad : (fault : ListFault)
                → IsFirstFault (list_checks s.verdict s.now ca signer crl.list) fault
                → IsLooked old new (Err (Refused (causes.List fault)))
            bad fault h = spent {Y = WhyNoList s ca folder signer manifest (causes.List fault)}
                (elim (fault-of s.verdict s.now ca signer crl.list fault h) [
                  | inl e ↦ to faults.OtherKey e (has-bad faults.OtherKey e)
                  | inr a ↦ elim a [
                    | inl e ↦ to faults.BadSignature e (has-bad faults.BadSignature e)
                    | inr b ↦ elim b [
                      | inl e ↦ to (faults.NotYet crl.list.tbs.this_update) e
                          (has-bad (faults.NotYet crl.list.tbs.this_update) e)
                      | inr c ↦ elim c [
                        | inl e ↦ to (faults.Stale crl.list.tbs.next_update) e
                            (has-bad (faults.Stale crl.list.tbs.next_update) e)
                        | inr e ↦ to faults.RevokesManifest e (has-bad faults.RevokesManifest e)
                      ]
                    ]
                  ]
                ])
              where
                to : (x : ListFault) → fault ≡ x
                    → WhyNoList s ca folder signer manifest (causes.List x)
                    → WhyNoList s ca folder signer manifest (causes.List fault)
                to x e w = subst
                    (λ (y : ListFault). WhyNoList s ca folder signer manifest (causes.List y))
                    (sym e) w

                has-bad : (x : ListFault) → fault ≡ x
                    → (f : UriAndHash) × (o : List ℕ) × IsListFile folder signer manifest f
                    × Has s f o × HasBadList s ca signer o x
                has-bad x e = (
                  (uri, hash),
                  octets,
                  file,
                  has,
                  (
                    crl.list,
                    rest,
                    front,
                    subst (λ (y : ListFault). IsFirstFault
                        (list_checks s.verdict s.now ca signer crl.list) y) e h,
                  ),
                )

            -- it is the list
            pub is-list : AllHold (list_checks s.verdict s.now ca signer crl.list)
                → (list : Found) → list.uri ≡ uri → list.crl ≡ crl → IsLooked old new (Ok list)
            is-list h list same kept =
                spent {Y = IsListAt s ca folder signer manifest list.uri list.crl.list}
                (subst (λ (u : List ℕ). IsListAt s ca folder signer manifest u list.crl.list)
                (sym same)
                (subst (λ (k : KeptCrl). IsListAt s ca folder signer manifest uri k.list) (sym kept)
                (record {
                  hash = hash;
                  file = file;
                  octets = octets;
                  found = has;
                  list_of = record {
                    rest = rest;
                    front = front;
                    key = h.0;
                    signed = h.1.0;
                    current = (h.1.1.0, h.1.1.1.0);
                  };
                  unrevoked = h.1.1.1.1.0;
                })))
