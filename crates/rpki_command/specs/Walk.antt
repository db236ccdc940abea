-- What is said of a manifest and of files at hand, by the octets of the files.
use Rattle.std.specs.Prelude.{ℕ, List, ◌∷◌, take, drop, length, Result}
use Rattle.std.specs.List.{zip}
use Rattle.sha2.specs.Sha256.{sha256}
use Rattle.rpki_basics.specs.Moment.{Moment}
use Rattle.rpki_certs.specs.Issuer.{MakesIssuer}
use Rattle.rpki_certs.specs.Validate.{Validated}
use Rattle.rpki_certs.specs.Verify.{Verdict}
use Rattle.rpki_certs.specs.declared.issuer.IssuerError.{IssuerError}
use Rattle.rpki_der.specs.declared.mode.Mode.TheVariants.{Der}
use Rattle.rpki_files.specs.Manifest.{ManifestForm}
use Rattle.rpki_files.specs.Manifest.Checks.{manifest_kind}
use Rattle.rpki_signed.specs.Walk.{AtHand}
use Rattle.rpki_sigobj.specs.Verify.{Digester}
use Rattle.rpki_cli.specs.Answer.{Output}
use Rattle.rpki_cli.specs.Options.{manifest_rule}
use Rattle.rpki_cli.specs.Words.{chain_in, names_in}
use Rattle.rpki_cli.specs.declared.words.Options.{Options}
use Rattle.rpki_show.specs.Options.{read_mode}
use Rattle.rpki_command.specs.Check.{IsCheckedAs, IsSaidUnder, IsByVerdicts}
use Rattle.rpki_command.specs.Held.{held_text}

-- Of the files after that of a trust anchor, which these words name, those of CAs.
abbrev pub certs_in : {T : Type 0} → List (List ℕ) → List T → List T
certs_in tail others = take (length (chain_in tail)) others

-- Of the octets of the files after that of a trust anchor, those of the pairs, each with its name:
-- the files at hand.
abbrev pub hand_in : List (List ℕ) → List (List ℕ) → List AtHand
hand_in tail others = zip (names_in tail) (drop (length (chain_in tail)) others)

-- What is said of octets that may begin with a manifest, under an issuer, with these options: what
-- a check says of a manifest, but after a yes come the entries that the files hold.
abbrev pub WalkedUnder : Options → Digester → Verdict → Validated → Moment → List AtHand → List ℕ
    → Output → Type 0
WalkedUnder options digest verdict issuer now hand octets s =
    IsCheckedAs manifest_kind (ManifestForm (manifest_rule options) Der) (held_text digest hand)
    (read_mode options) digest verdict issuer now octets s

-- What is said of a manifest, by the octets of a trust anchor and of the other files that these
-- words name: first of the issuer that the certificates make, and then of the manifest.
abbrev pub IsWalkedWith : Options → Digester → Verdict → Moment → List (List ℕ) → List ℕ → List ℕ
    → List (List ℕ) → Output → Type 0
IsWalkedWith options digest verdict now tail object anchor others s =
    (issuer : Result Validated IssuerError)
    × MakesIssuer verdict now anchor (certs_in tail others) issuer
    × IsSaidUnder (λ v said. WalkedUnder options digest verdict v now (hand_in tail others) object
    said) issuer s

-- What is said of files: of the manifest, the verdicts, the certificate of a trust anchor, and the
-- others that these words name. Digests are SHA-256 (RFC 7935, section 2).
abbrev pub WalkOf : Options → Moment → List (List ℕ) → List (List ℕ) → Output → Type 0
WalkOf options now tail (object ∷ verdicts ∷ anchor ∷ others) s =
    IsByVerdicts (λ verdict said. IsWalkedWith options sha256 verdict now tail object anchor others
    said) verdicts s
WalkOf options now tail files s = ⊥
