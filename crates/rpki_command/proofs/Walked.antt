-- What a yes and a no of a walk mean, from what is said.
use Rattle.std.proofs.Common.{◌≡◌, ℕ, List, ◌∷◌, ◌++◌, ◌∙◌, Option, Result, Ok, Err, inl, inr}
use Rattle.std.proofs.Common.{subst, sym, ap, arith, length, map}
use Rattle.std.proofs.lemmas.List.{length-map, map-append, take_at, drop_at}
use Rattle.std.specs.List.{zip}
use Rattle.sha2.specs.Sha256.{sha256}
use Rattle.rpki_der.specs.declared.mode.Mode.TheVariants.{Der}
use Rattle.rpki_basics.specs.Moment.{Moment}
use Rattle.rpki_certs.specs.Issuer.{MakesIssuer}
use Rattle.rpki_certs.specs.Validate.{Validated}
use Rattle.rpki_certs.specs.Verify.{Verdict}
use Rattle.rpki_certs.specs.declared.issuer.IssuerError.{IssuerError}
use Rattle.rpki_files.specs.Manifest.{ManifestForm}
use Rattle.rpki_files.specs.Manifest.Checks.{manifest_kind}
use Rattle.rpki_signed.specs.Walk.{AtHand}
use Rattle.rpki_verdicts.specs.Listed.{is_listed}
use Rattle.rpki_cli.specs.Answer.{Run, Output, IsSaid, out_of_memory, bad_verdicts}
use Rattle.rpki_cli.specs.Command.{AreTold, ChecksFiles, IsRunOf, objects_language}
use Rattle.rpki_cli.specs.Language.{IsAsked}
use Rattle.rpki_cli.specs.Options.{manifest_rule}
use Rattle.rpki_cli.specs.Store.{Told, Names, with_octets}
use Rattle.rpki_cli.specs.Words.{chain_in, names_in, paths_in, others_in}
use Rattle.rpki_cli.specs.declared.store.Reason.{Reason}
use Rattle.rpki_cli.specs.declared.words.Kind.TheVariants.{Manifest}
use Rattle.rpki_cli.specs.declared.words.Options.{Options}
use Rattle.rpki_show.specs.Options.{read_mode}
use Rattle.rpki_command.specs.Check.{IsSaidUnder, issuer_refusal}
use Rattle.rpki_command.specs.Command.{objects_program}
use Rattle.rpki_command.specs.Held.{held_text}
use Rattle.rpki_command.specs.Walk.{certs_in, hand_in, WalkedUnder, IsWalkedWith, WalkOf}
use Rattle.rpki_command.specs.Yes.{FilesOfCheck, in_order_with, walk_order, IsRightWalk}
use Rattle.rpki_command.specs.Yes.{IsRightNo, HoldsByList, status_of}
use Rattle.rpki_command.proofs.Right.{other-status, issuer-is-none, yes-as, no-as}
use Rattle.rpki_command.proofs.Right.{no-made, said-yes, said-no, two, three}

module _ (s : Output) (options : Options) (verdict : Verdict) (now : Moment)
    (files : FilesOfCheck) (hand : List AtHand) where
  walk-made : (run : Run) → IsSaid s run → run.status ≡ 0 → status_of s ≡ 0
      → (issuer : Result Validated IssuerError)
      → MakesIssuer verdict now files.anchor files.chain issuer
      → IsSaidUnder (λ v said.
      WalkedUnder options sha256 verdict v now hand files.object said) issuer s
      → IsRightWalk options verdict now files hand run
  walk-made run h z zero (Ok issuer) made is = record {
    issuer = issuer;
    made = made;
    yes = yes-as manifest_kind (ManifestForm (manifest_rule options) Der)
        (held_text sha256 hand) (read_mode options) sha256 verdict issuer now files.object s run h z
        zero is;
  }
  walk-made run h z zero (Err fault) made (inl e) =
      absurd (other-status s out_of_memory 0 zero e three)
  walk-made run h z zero (Err fault) made (inr e) =
      absurd (other-status s (issuer_refusal fault) 0 zero e (issuer-is-none fault))

  no-walk : status_of s ≡ 1 → (issuer : Result Validated IssuerError)
      → MakesIssuer verdict now files.anchor files.chain issuer
      → IsSaidUnder (λ v said.
      WalkedUnder options sha256 verdict v now hand files.object said) issuer s
      → IsRightNo options Manifest verdict now files
  no-walk first (Ok issuer) made is = inr (record {
    issuer = issuer;
    made = made;
    no = no-as manifest_kind (ManifestForm (manifest_rule options) Der)
        (held_text sha256 hand) (read_mode options) sha256 verdict issuer now files.object s first
        is;
  })
  no-walk first (Err fault) made is =
      no-made s options Manifest verdict now files first (Err fault) made is

-- ---- files

-- files of which the store tells the octets, one list after the other
told-both : (told : Told) (a b x y : List (List ℕ)) → AreTold told a x → AreTold told b y
    → AreTold told (a ++ b) (x ++ y)
told-both told a b x y h k =
    map-append told a b
    ∙ ap (λ (r : List (Option (Result (List ℕ) Reason))). r ++ map told b) h
    ∙ ap (λ (r : List (Option (Result (List ℕ) Reason))). map with_octets x ++ r) k
    ∙ sym (map-append with_octets x y)

-- as many files as names
told-long : (told : Told) (a x : List (List ℕ)) → AreTold told a x → length x ≡ length a
told-long told a x h =
    omega (arith, length-map a told, length-map x with_octets, ap length h)

module _ (options : Options) (verdict : Verdict) (now : Moment)
    (tail : List (List ℕ)) (files : FilesOfCheck) (octets : List (List ℕ))
    (long : length files.chain ≡ length (chain_in tail)) (s : Output) where
  certs-are : certs_in tail (files.chain ++ octets) ≡ files.chain
  certs-are = take_at files.chain octets (length (chain_in tail)) long

  hand-is : hand_in tail (files.chain ++ octets) ≡ zip (names_in tail) octets
  hand-is = ap (λ (os : List (List ℕ)). zip (names_in tail) os)
      (drop_at files.chain octets (length (chain_in tail)) long)

  -- what is said, by the certificates and by the files at hand
  walked-as : IsWalkedWith options sha256 verdict now tail files.object files.anchor
      (files.chain ++ octets) s
      → (issuer : Result Validated IssuerError)
      × MakesIssuer verdict now files.anchor files.chain issuer
      × IsSaidUnder (λ v said. WalkedUnder options sha256 verdict v now
      (zip (names_in tail) octets) files.object said) issuer s
  walked-as w = (
    w.0,
    subst (λ (chain : List (List ℕ)). MakesIssuer verdict now files.anchor chain w.0) certs-are w.1,
    subst (λ (hand : List AtHand). IsSaidUnder (λ v said. WalkedUnder options sha256 verdict
        v now hand files.object said) w.0 s) hand-is w.2,
  )

-- ---- by a list of verdicts

module _ (s : Output) (options : Options) (now : Moment) (tail : List (List ℕ))
    (files : FilesOfCheck) (text : List ℕ) (octets : List (List ℕ))
    (long : length files.chain ≡ length (chain_in tail)) where
  walk-of : (run : Run) → IsSaid s run → run.status ≡ 0 → status_of s ≡ 0
      → WalkOf options now tail (files.object ∷ text ∷ files.anchor ∷ (files.chain ++ octets)) s
      → HoldsByList (λ verdict. IsRightWalk options verdict now files (zip (names_in tail) octets)
      run) text
  walk-of run h z zero (inl n) = absurd (other-status s bad_verdicts 0 zero n.1 two)
  walk-of run h z zero (inr c) =
      let w = walked-as options (is_listed c.0) now tail files octets long s c.2 in
      record {
        lines = c.0;
        listed = c.1;
        holds = walk-made s options (is_listed c.0) now files (zip (names_in tail) octets)
            run h z zero w.0 w.1 w.2;
      }

  no-walk-of : status_of s ≡ 1
      → WalkOf options now tail (files.object ∷ text ∷ files.anchor ∷ (files.chain ++ octets)) s
      → HoldsByList (λ verdict. IsRightNo options Manifest verdict now files) text
  no-walk-of first (inl n) =
      absurd (other-status s bad_verdicts 1 first n.1 (λ (m : 2 ≡ 1). omega (arith, m)))
  no-walk-of first (inr c) =
      let w = walked-as options (is_listed c.0) now tail files octets long s c.2 in
      record {
        lines = c.0;
        listed = c.1;
        holds = no-walk s options (is_listed c.0) now files (zip (names_in tail) octets)
            first w.0 w.1 w.2;
      }

module _ (told : Told) (words : List (List ℕ)) (old new : Names) (run : Run) (options : Options)
    (now : Moment) (object list anchor : List ℕ) (tail : List (List ℕ)) (files : FilesOfCheck)
    (text : List ℕ) (octets : List (List ℕ))
    (is : IsRunOf objects_program told words old new run)
    (asked : IsAsked objects_language words (walk_order options now object list anchor tail))
    (tells : AreTold told (object ∷ list ∷ anchor ∷ chain_in tail) (in_order_with text files))
    (pairs : AreTold told (paths_in tail) octets) where
  done : ChecksFiles told (object ∷ list ∷ anchor ∷ others_in tail) (WalkOf options now tail) old
      new run
  done = is.done (walk_order options now object list anchor tail) asked

  all : AreTold told (object ∷ list ∷ anchor ∷ others_in tail)
      (files.object ∷ text ∷ files.anchor ∷ (files.chain ++ octets))
  all = told-both told (object ∷ list ∷ anchor ∷ chain_in tail) (paths_in tail)
      (in_order_with text files) octets tells pairs

  long : length files.chain ≡ length (chain_in tail)
  long = omega (
    arith,
    told-long told (object ∷ list ∷ anchor ∷ chain_in tail)
        (in_order_with text files) tells,
  )

  pub right-walk : run.status ≡ 0
      → HoldsByList (λ verdict. IsRightWalk options verdict now files (zip (names_in tail) octets)
      run) text
  right-walk z =
      let c = said-yes told (object ∷ list ∷ anchor ∷ others_in tail)
      (files.object ∷ text ∷ files.anchor ∷ (files.chain ++ octets)) (WalkOf options now tail) old
      new run done all z in
      walk-of c.0 options now tail files text octets long run c.2 z c.3 c.1

  pub right-no-walk : run.status ≡ 1
      → HoldsByList (λ verdict. IsRightNo options Manifest verdict now files) text
  right-no-walk z =
      let c = said-no told (object ∷ list ∷ anchor ∷ others_in tail)
      (files.object ∷ text ∷ files.anchor ∷ (files.chain ++ octets)) (WalkOf options now tail) old
      new run done all z in
      no-walk-of c.0 options now tail files text octets long c.3 c.1
