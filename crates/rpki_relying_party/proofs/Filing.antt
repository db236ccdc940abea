-- The files of a manifest are read one by one.
use Rattle.std.proofs.Common.{◌≡◌, ◌⊎◌, ℕ, ◌+◌, List, [], ◌∷◌, ◌++◌, All, Result, Ok, Err}
use Rattle.std.proofs.Common.{refl, sym, subst, ap, ◌∙◌, append_assoc, inl, inr, arith}
use Rattle.std.proofs.lemmas.List.{append-nil}
use Rattle.std.proofs.lemmas.List.Elements.{All-nil, All-push}
use Rattle.rpki_basics.specs.Moment.{Moment}
use Rattle.rpki_crls.specs.Crl.{RevocationList}
use Rattle.rpki_certs.specs.Validate.{Validated}
use Rattle.rpki_files.specs.Manifest.Uris.{UriAndHash}
use Rattle.rpki_relying_party.specs.Costs.{ReadCosts, ReadStarts, HeldCosts, FileCosts}
use Rattle.rpki_relying_party.specs.Costs.{FileStarts, FilesCost, FilesLost, FilesStart}
use Rattle.rpki_relying_party.specs.Costs.{found_cost, listing_cost}
use Rattle.rpki_relying_party.specs.Judged.{WhyLost}
use Rattle.rpki_relying_party.specs.Kind.{kind_of}
use Rattle.rpki_relying_party.specs.Lacks.{WhyNoFiles, IsLostFile}
use Rattle.rpki_relying_party.specs.Outcome.{Spends, IsOutcome, AppendsBoth}
use Rattle.rpki_relying_party.specs.Point.{Has}
use Rattle.rpki_relying_party.specs.Setting.{Setting}
use Rattle.rpki_relying_party.specs.Tells.{KindTells, FileTells, FilesTell}
use Rattle.rpki_relying_party.specs.declared.cause.Cause.{Cause}
use Rattle.rpki_relying_party.specs.declared.cause.Stop.{Stop}
use Rattle.rpki_relying_party.specs.declared.cause.Stop.TheVariants.{Room, Memory, Refused}
use Rattle.rpki_relying_party.specs.declared.found.Finding.{Finding}
use Rattle.rpki_relying_party.specs.declared.place.Place.{Place}
use Rattle.rpki_relying_party.proofs.Outcomes.{none-spent, outcome-stops}
use Rattle.rpki_relying_party.proofs.Outcomes.{outcome-then}
use Rattle.rpki_relying_party.proofs.Putting.{nothing-put, put-as}

-- The file is the revocation list, or the copy has it.
abbrev pub IsThere : Setting → List ℕ → UriAndHash → Type 0
IsThere s list_uri f = (f.0 ≡ list_uri) ⊎ ((octets : List ℕ) × Has s f octets)

module _ (s : Setting) (ca : Validated) (list_uri : List ℕ) (list : RevocationList)
    (until : Moment) (under : List ℕ) (file : UriAndHash) where
  -- what it costs to look for it
  abbrev price : ℕ
  price = listing_cost ca under (file.0)

  -- what is spent on some first steps with it
  abbrev Starts : ℕ → Type 0
  Starts n = FileStarts s ca list_uri list under file n

  -- why it refuses the point, and what is spent on it then
  abbrev Lost : Cause → ℕ → Type 0
  Lost cause n = WhyLost s ca list_uri under file cause n

  module _ (said : List Finding) (children : List Place) where
    -- what the file told, and what was spent on it
    abbrev FileDone : List Finding → List Place → ℕ → Type 0
    FileDone said2 children2 n = AppendsBoth (FileTells s ca list_uri list until under file)
        said said2 children children2 × FileCosts s ca list_uri list under file n

    -- the revocation list tells nothing
    pub list-passed : file.0 ≡ list_uri → (room : ℕ)
        → Spends (FileDone said children) room room
    list-passed e room = none-spent (FileDone said children) room (
      nothing-put (FileTells s ca list_uri list until under file) said children
          (inl (e, refl, refl)),
      inl (e, refl),
    )

    module _ (other : ¬ (file.0 ≡ list_uri)) where
      -- a file that is lost
      pub file-lost : {T U : Type 0} (Yes : T → ℕ → Type 0) (Yes2 : U → ℕ → Type 0) (old new : ℕ)
          (stop : Stop) (p : ℕ) → p ≡ price
          → IsOutcome (ReadStarts s p (file.0)) Yes
          (λ cause n. IsLostFile s file cause × ReadCosts s p (file.0) n) old new (Err stop)
          → IsOutcome Starts Yes2 Lost old new (Err stop)
      file-lost Yes Yes2 old new stop p e h =
          outcome-stops {A = ReadStarts s p (file.0)} Starts
          (λ n c. (other, inl (subst (λ (k : ℕ). ReadStarts s k (file.0) n) e c)))
          {V = λ cause n. IsLostFile s file cause × ReadCosts s p (file.0) n} {W = Lost}
          (λ cause n l. (other, l.0, subst (λ (k : ℕ). ReadCosts s k (file.0) n) e (l.1))) old new
          Yes Yes2 stop h

      module _ (octets : List ℕ) where
        -- it is read, and judged by its kind
        abbrev Read : ℕ → Type 0
        Read n = Has s file octets × (n ≡ found_cost price (Ok octets))

        abbrev Held : ℕ → Type 0
        Held n = HeldCosts s ca list (kind_of (file.0)) octets n

        abbrev Tells : List Finding → List Place → Type 0
        Tells said2 children2 =
            KindTells s ca list until under (file.0) octets (kind_of (file.0)) said2 children2

        -- one that is read tells what its kind does
        pub file-read : (old mid : ℕ) → Spends Read old mid → (said2 : List Finding)
            (children2 : List Place) (new : ℕ) (r : Result (Unit {0}) Stop)
            → IsOutcome Held (λ _ n. AppendsBoth Tells said said2 children children2 × Held n)
            (λ cause n. ⊥) mid new r
            → IsOutcome Starts (λ _ n. FileDone said2 children2 n) Lost old new r
        file-read old mid read said2 children2 new r h =
            outcome-then {F = Read} {B = Held} Starts
            (λ a b f c. (other, inr (octets, b, f.0, c, sum a b (f.1))))
            {V = λ cause n. ⊥} Lost (λ cause a b f w. absurd w) old mid new read
            {Y = λ _ n. AppendsBoth Tells said said2 children children2 × Held n}
            (λ _ n. FileDone said2 children2 n)
            (λ _ a b f t. (
              put-as Tells (FileTells s ca list_uri list until under file) said said2 children
                  children2 (λ put put2 k. inr (other, (octets, f.0, k))) (t.0),
              inr (other, (octets, b, f.0, t.1, sum a b (f.1))),
            )) r h
          where
            sum : (a b : ℕ) → a ≡ found_cost price (Ok octets)
                → a + b ≡ found_cost price (Ok octets) + b
            sum a b e = ap (λ (n : ℕ). n + b) e

-- What those that are left tell goes on what was told so far, and those before are there, at this
-- cost.
pub record IsTelling (s : Setting) (ca : Validated) (list_uri : List ℕ) (list : RevocationList)
    (until : Moment) (under : List ℕ) (all left : List UriAndHash) (old now : List Finding)
    (old2 now2 : List Place) (room rest : ℕ) : Type 0 where
  pub said : List Finding
  pub children : List Place
  pub appends : now ≡ old ++ said
  pub appends2 : now2 ≡ old2 ++ children
  pub goes_on : (more : List Finding) (more2 : List Place)
      → FilesTell s ca list_uri list until under left more more2
      → FilesTell s ca list_uri list until under all (said ++ more) (children ++ more2)
  pub before : List UriAndHash
  pub splits : all ≡ before ++ left
  pub there : All (IsThere s list_uri) before
  pub spent : ℕ
  pub costs : FilesCost s ca list_uri list under before spent
  pub spends : rest + spent ≡ room

module _ (s : Setting) (ca : Validated) (list_uri : List ℕ) (list : RevocationList)
    (until : Moment) (under : List ℕ) (all : List UriAndHash) where
  -- a file that tells something is there
  is-there : (file : UriAndHash) (said : List Finding) (children : List Place)
      → FileTells s ca list_uri list until under file said children → IsThere s list_uri file
  is-there file said children (inl h) = inl (h.0)
  is-there file said children (inr h) = inr (h.1.0, h.1.1)

  -- what is spent on one file more
  cost-push : (files : List UriAndHash) (file : UriAndHash) (m n : ℕ)
      → FilesCost s ca list_uri list under files m → FileCosts s ca list_uri list under file n
      → FilesCost s ca list_uri list under (files ++ file ∷ []) (m + n)
  cost-push [] file m n c d = (n, 0, d, refl, omega (arith, c))
  cost-push (f ∷ files) file m n c d = (
    c.0,
    c.1 + n,
    c.2,
    cost-push files file (c.1) n (c.3) d,
    omega (arith, c.4),
  )

  pub begun : (left : List UriAndHash) → left ≡ all → (old : List Finding) (old2 : List Place)
      (room : ℕ) → IsTelling s ca list_uri list until under all left old old old2 old2 room room
  begun left e old old2 room = record {
    said = [];
    children = [];
    appends = sym (append-nil old);
    appends2 = sym (append-nil old2);
    goes_on = λ more more2 t. subst (λ (l : List UriAndHash).
        FilesTell s ca list_uri list until under l more more2) e t;
    before = [];
    splits = sym e;
    there = All-nil (IsThere s list_uri);
    spent = 0;
    costs = refl;
    spends = omega arith;
  }

  module _ (left : List UriAndHash) (old now : List Finding) (old2 now2 : List Place)
      (room rest : ℕ)
      (h : IsTelling s ca list_uri list until under all left old now old2 now2 room rest) where
    pub ended : left ≡ [] → Spends (λ n.
        AppendsBoth (FilesTell s ca list_uri list until under all) old now old2 now2
        × FilesCost s ca list_uri list under all n) room rest
    ended e = (
      h.spent,
      (
        record {
          put = h.said ++ [];
          put2 = h.children ++ [];
          holds = h.goes_on [] [] (subst (λ (l : List UriAndHash).
              FilesTell s ca list_uri list until under l [] []) (sym e) (refl, refl));
          appends = h.appends ∙ ap (λ (l : List Finding). old ++ l) (sym (append-nil h.said));
          appends2 = h.appends2 ∙ ap (λ (l : List Place). old2 ++ l)
              (sym (append-nil h.children));
        },
        subst (λ (l : List UriAndHash). FilesCost s ca list_uri list under l h.spent)
            (sym (h.splits ∙ (ap (λ (l : List UriAndHash). h.before ++ l) e
            ∙ append-nil h.before))) h.costs,
      ),
      h.spends,
    )

    module _ (file : UriAndHash) (files : List UriAndHash) (e : left ≡ file ∷ files) where
      order : all ≡ h.before ++ file ∷ files
      order = h.splits ∙ ap (λ (l : List UriAndHash). h.before ++ l) e

      pub one-more : (new : List Finding) (new2 : List Place) (rest2 : ℕ)
          → Spends (λ n. AppendsBoth (FileTells s ca list_uri list until under file) now new now2
          new2 × FileCosts s ca list_uri list under file n) rest rest2
          → IsTelling s ca list_uri list until under all files old new old2 new2 room rest2
      one-more new new2 rest2 (n, (t, c), d) = record {
        said = h.said ++ t.put;
        children = h.children ++ t.put2;
        appends = t.appends ∙ (ap (λ (l : List Finding). l ++ t.put) h.appends
            ∙ append_assoc old h.said t.put);
        appends2 = t.appends2 ∙ (ap (λ (l : List Place). l ++ t.put2) h.appends2
            ∙ append_assoc old2 h.children t.put2);
        goes_on = λ more more2 u.
            subst (λ (l : List Finding).
            FilesTell s ca list_uri list until under all l ((h.children ++ t.put2) ++ more2))
            (sym (append_assoc h.said t.put more))
            (subst (λ (l : List Place).
            FilesTell s ca list_uri list until under all (h.said ++ (t.put ++ more)) l)
            (sym (append_assoc h.children t.put2 more2))
            (h.goes_on (t.put ++ more) (t.put2 ++ more2)
            (subst (λ (l : List UriAndHash).
            FilesTell s ca list_uri list until under l (t.put ++ more) (t.put2 ++ more2)) (sym e) (
              record { said = t.put; children = t.put2 },
              record { said = more; children = more2 },
              t.holds,
              u,
              refl,
              refl,
            ))));
        before = h.before ++ file ∷ [];
        splits = order ∙ sym (append_assoc h.before (file ∷ []) files);
        there = All-push (IsThere s list_uri) h.before file h.there
            (is-there file t.put t.put2 t.holds);
        spent = h.spent + n;
        costs = cost-push h.before file h.spent n h.costs c;
        spends = omega (arith, h.spends, d);
      }

      -- where the next file stops, so do all
      pub stopped : {T : Type 0} (Yes Yes2 : T → ℕ → Type 0) (rest2 : ℕ) (stop : Stop)
          → IsOutcome (FileStarts s ca list_uri list under file) Yes
          (WhyLost s ca list_uri under file) rest rest2 (Err stop)
          → IsOutcome (FilesStart s ca list_uri list under all) Yes2
          (λ cause n. WhyNoFiles s all list_uri cause × FilesLost s ca list_uri list under all n)
          room rest2 (Err stop)
      stopped Yes Yes2 rest2 Room g = (
        h.spent + g.0,
        record {
          before = h.before;
          file = file;
          after = files;
          order = order;
          first = h.spent;
          next = g.0;
          spent_first = h.costs;
          spent_next = g.1;
          sum = refl;
        },
        omega (arith, h.spends, g.2),
      )
      stopped Yes Yes2 rest2 Memory g = tt
      stopped Yes Yes2 rest2 (Refused cause) g = (
        h.spent + g.0,
        (
          (
            file,
            record {
              before = h.before;
              after = files;
              order = order;
              others = h.there;
              is_other = g.1.0;
              lost = g.1.1;
            },
          ),
          record {
            before = h.before;
            file = file;
            after = files;
            order = order;
            first = h.spent;
            next = g.0;
            spent_first = h.costs;
            spent_next = (g.1.0, (cause, g.1.1), g.1.2);
            sum = refl;
          },
        ),
        omega (arith, h.spends, g.2),
      )
