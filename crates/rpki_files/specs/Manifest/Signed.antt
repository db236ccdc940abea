-- Manifests that are built and signed. The sections are those of RFC 9286.
use Rattle.std.specs.Prelude.{◌≡◌, ◌<◌, ◌^◌, ◌⊎◌, ℕ, List, length}
use Rattle.rpki_basics.specs.declared.signing.SigningError.{SigningError}
use Rattle.rpki_basics.specs.declared.signing.SigningError.TheVariants as signing
use Rattle.rpki_resources.specs.declared.resources.Claim.TheVariants.{Inherit}
use Rattle.rpki_sigobj.specs.Verify.{Digester}
use Rattle.rpki_signing.specs.Built.{Settings, IsNotBuilt}
use Rattle.rpki_files.specs.Manifest.{Manifest, manifest_contents, manifest_octets}
use Rattle.rpki_files.specs.Manifest.Checks.{ct_manifest}

-- what a builder is told, but that all numbers are inherited (5.1)
abbrev pub inheriting : Settings → Settings
inheriting b = record b { as_numbers = Inherit; v4 = Inherit; v6 = Inherit }

-- Why a manifest of this content is not signed: contents of 2^32 octets or more, or why its object
-- is not built.
abbrev pub IsNotSigned : {E : Type 0} → (List ℕ → List ℕ → List ℕ → Type 0) → (List ℕ → Type 0)
    → Settings → List ℕ → Digester → Manifest → SigningError E → Type 0
IsNotSigned may once b issuer digest m e =
    ((e ≡ signing.TooLong) × ¬ (length (manifest_contents m) < 2 ^ 32))
    ⊎ IsNotBuilt may once (inheriting b) issuer ct_manifest (manifest_octets m)
    (digest (manifest_octets m)) e
