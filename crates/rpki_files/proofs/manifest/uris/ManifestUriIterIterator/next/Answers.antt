use Rattle.std.proofs.Common.{All, subst}
use Rattle.std.proofs.lemmas.List.Elements.{All-head, All-rest}
use Rattle.rpki_files.specs.Manifest.Files.{File, name_of}
use Rattle.rpki_files.specs.Name.{IsFileName}
use Rattle.rpki_files.proofs.manifest.uris.ManifestUriIterIterator.next.Goals as goal

pub uri_of-requires : goal.uri_of-requires
uri_of-requires c =
    let f : File =
    record { file = c.in_ok-file.file.file.now; hash = c.in_ok-file.file.hash.now } in
    All-head (λ (g : File). IsFileName (name_of g)) f c.next.new.self
    (subst (All (λ (g : File). IsFileName (name_of g))) c.in_ok-file.ensures.steps
    c.self.invariant)

pub invariant_of-self-2 : goal.invariant_of-self-2
invariant_of-self-2 c =
    let f : File =
    record { file = c.in_ok-file.file.file.now; hash = c.in_ok-file.file.hash.now } in
    All-rest (λ (g : File). IsFileName (name_of g)) f c.next.new.self c.self.inside.files
    c.in_ok-file.ensures.steps c.self.invariant
