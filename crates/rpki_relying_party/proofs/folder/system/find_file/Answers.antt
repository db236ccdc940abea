use Rattle.std.proofs.Common.{◌≡◌, ◌<◌, ◌∙◌, rules, length, string_bytes}
use Rattle.std.specs.List.{position_or_len, before_first, after_first}
use Rattle.rpki_relying_party.specs.Folders.{path_below}
use Rattle.rpki_relying_party.specs.Names.{is_slash}
use Rattle.rpki_relying_party.proofs.Copies.{part-more}
use Rattle.rpki_relying_party.proofs.folder.system.find_file.Goals as goal

pub loop-part-preserved : goal.loop-part-preserved
loop-part-preserved g c =
    let rest = c.loop-part.rest.now in
    let within : position_or_len is_slash rest < length rest = search rules in
    let first : c.in-Some.part.now ≡ before_first is_slash rest = search rules in
    let second : c.in-Some.others.now ≡ after_first is_slash rest = search rules in
    let longer : string_bytes c.push_part.new.path
    ≡ path_below (string_bytes c.loop-part.path) c.in-Some.part.now = search rules in (
      search rules,
      part-more (string_bytes c.loop-part.path) (string_bytes c.push_part.new.path)
          c.in-Some.part.now rest c.in-Some.others.now within first second longer
          ∙ c.loop-part.invariant.1,
    )
