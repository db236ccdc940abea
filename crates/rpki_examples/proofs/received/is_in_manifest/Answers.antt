use Rattle.std.proofs.Common.{◌↔◌, IsTrue, Bool, Contains}
use Rattle.rpki_der.specs.declared.mode.Mode.TheVariants.{Der}
use Rattle.rpki_basics.specs.declared.limits.ManifestRule.TheVariants.{Registered}
use Rattle.rpki_files.specs.Manifest.{Manifest, ManifestForm}
use Rattle.rpki_files.specs.Manifest.Checks.{manifest_kind}
use Rattle.rpki_examples.proofs.ByList.{looked, refused}
use Rattle.rpki_examples.proofs.received.is_in_manifest.Goals as goal

pub returns-in-Err : goal.returns-in-Err
returns-in-Err g c =
    refused manifest_kind (ManifestForm Registered Der) (g.C.Crypto.digest_of c.args.crypto.now)
    (g.C.Crypto.is_signed c.args.crypto.now) c.args.issuer.now c.args.now c.args.octets
    c.args.list.now.list
    (λ (yes : Bool) (m : Manifest). IsTrue yes ↔ Contains m.files (record {
      file = c.args.name.now;
      hash = g.C.Crypto.digest_of c.args.crypto.now c.args.file.now;
    }))
    c.in-Err.e c.in-Err.ensures

pub returns-in-Ok : goal.returns-in-Ok
returns-in-Ok g c =
    looked manifest_kind (ManifestForm Registered Der) (g.C.Crypto.digest_of c.args.crypto.now)
    (g.C.Crypto.is_signed c.args.crypto.now) c.args.issuer.now c.args.now c.args.octets
    c.args.list.now.list
    (λ (yes : Bool) (m : Manifest). IsTrue yes ↔ Contains m.files (record {
      file = c.args.name.now;
      hash = g.C.Crypto.digest_of c.args.crypto.now c.args.file.now;
    }))
    (c.in-Ok.cert, c.in-Ok.manifest) c.names_octets-is_named.result
    c.in-Ok.ensures c.names_octets-is_named.ensures
