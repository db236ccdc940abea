use Rattle.std.proofs.Common.{◌<◌, ◌^◌, List, All, length, subst}
use Rattle.rpki_der.specs.declared.mode.Mode.TheVariants.{Der}
use Rattle.rpki_files.specs.Name.{IsFileName}
use Rattle.rpki_files.specs.Manifest.Files.{File, MeetsRule}
use Rattle.rpki_files.specs.Manifest.{Manifest, ManifestForm, manifest_contents, manifest_octets}
use Rattle.rpki_files.proofs.Manifests.Exact.{manifest-part}
use Rattle.rpki_files.proofs.Manifests.Named.{files-named}
use Rattle.rpki_files.proofs.Manifests.Written.{manifest-written}
use Rattle.rpki_files.proofs.manifest.ManifestContent.encode_ref.Goals as goal

pub returns-clause-written : goal.returns-clause-written
returns-clause-written c = λ rule.
    let named = subst (λ (fs : List File). All (λ (f : File). IsFileName f.file) fs)
    c.reader.ensures.list (files-named c.reader.result c.reader.ensures.entries) in
    let m : Manifest = record {
      number = c.self.inside.number;
      this_update = c.self.inside.this_update;
      next_update = c.self.inside.next_update;
      files = c.self.inside.files;
    } in
    subst (λ (m : Manifest). MeetsRule rule m.files → length (manifest_contents m) < 2 ^ 32
    → ManifestForm rule Der (manifest_octets m) m) c.self.view_is
    (manifest-written rule m c.encode_ref.ensures.written c.encode_generalized.ensures.written
    c.encode_generalized-2.ensures.written c.self.invariant named)

pub returns-clause-read : goal.returns-clause-read
returns-clause-read c = λ rule meets short rest.
    ((manifest-part rule).exact Der).complete (manifest_octets c.args.self.now) c.args.self.now rest
    tt (returns-clause-written c rule meets short)
