use Rattle.std.proofs.Common.{◌<◌, ◌^◌, length, subst}
use Rattle.rpki_der.specs.Write.Encode.{IsBytesOf}
use Rattle.rpki_files.specs.Manifest.{Manifest, manifest_contents, manifest_octets}
use Rattle.rpki_files.proofs.manifest.ManifestContent.octets.Goals as goal

pub returns-clause-octets : goal.returns-clause-octets
returns-clause-octets c =
    subst (λ (m : Manifest). IsBytesOf (Unit {0}) (length (manifest_contents m) < 2 ^ 32)
    (manifest_octets m) c.to_bytes.result) c.encode_ref.ensures.value c.to_bytes.ensures
