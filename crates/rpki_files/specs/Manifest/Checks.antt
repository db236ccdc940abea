-- Manifests as signed objects. The sections are those of RFC 9286.
use Rattle.std.specs.Prelude.{ℕ, List, [], ◌∷◌, true}
use Rattle.rpki_files.specs.Manifest.{Manifest}
use Rattle.rpki_sigobj.specs.Signed.Kind.{ObjectKind}

-- id-ct-rpkiManifest, 1.2.840.113549.1.9.16.1.26 (4.1)
abbrev pub ct_manifest : List ℕ
ct_manifest = 0x2A ∷ 0x86 ∷ 0x48 ∷ 0x86 ∷ 0xF7 ∷ 0x0D ∷ 0x01 ∷ 0x09 ∷ 0x10 ∷ 0x01 ∷ 0x1A ∷ []

-- A manifest is published, and claims no numbers. That section 5.1 asks its certificate to inherit
-- them is left to those who sign, and that it is current (6.3) to those who rely on it, by this
-- project's own rule.
abbrev pub manifest_kind : ObjectKind Manifest
manifest_kind = record {
  type = ct_manifest;
  is_published = true;
  claimed = λ m x. [];
  held = λ m sets. [];
  covers = λ m x sets. Unit {0};
}
