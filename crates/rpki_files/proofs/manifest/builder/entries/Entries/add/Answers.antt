use Rattle.std.proofs.Common.{◌≡◌, true, false, Bor, List, ℕ, inr, ap, rules}
use Rattle.std.specs.Prelude.{◌&&◌}
use Rattle.rpki_files.specs.declared.manifest.file.FileAndHash.{FileAndHash}
use Rattle.rpki_files.specs.declared.manifest.builder.entries.Entries.{Entries}
use Rattle.rpki_files.specs.Manifest.Files.{File, is_allowed}
use Rattle.rpki_files.specs.Name.{is_file_name}
use Rattle.rpki_files.proofs.Manifests.Taken.{not-short, taken-more}
use Rattle.rpki_files.proofs.manifest.builder.entries.Entries.add.Goals as goal
use Rattle.rpki_files.proofs.manifest.builder.entries.Entries.add.Goals.{then-self, else-self}
use Rattle.rpki_files.proofs.manifest.builder.entries.Entries.add.Goals.{then-self-2, else-self-2}

pub returns-in-Err-TooLong : goal.returns-in-Err-TooLong
returns-in-Err-TooLong c =
    let named : c.if-self.self ≡ (c.args.self.now.named && is_file_name c.args.name.now) =
    elim c.if-self.branch [ then-self w ↦ search rules | else-self w ↦ search rules ] in
    let allowed : c.if-self-2.self
    ≡ (c.args.self.now.allowed && is_allowed c.args.rule c.args.name.now) =
    elim c.if-self-2.branch [ then-self-2 w ↦ search rules | else-self-2 w ↦ search rules ] in
    let f : File = record { file = c.args.name.now; hash = c.args.hash.now } in
    let new : Entries = record {
      octets = c.args.self.now.octets;
      named = c.if-self.self;
      allowed = c.if-self-2.self;
      short = false;
    } in
    taken-more c.args.rule c.args.self.now new f named allowed
    (λ on. absurd (let never : false ≡ true = on in cc))
    (λ off. inr (not-short _ _ _ f c.encode_ref.ensures.octets c.encode_ref.ensures.short
    (ap (λ (x : FileAndHash (Bor (List ℕ)) (Bor (List ℕ))).
    (let y : File = record { file = x.file.now; hash = x.hash.now } in y)) c.new.ensures)
    (rw c.in-Err-TooLong.field-0-is at c.in-Err-TooLong.ensures)))
