use Rattle.std.proofs.Common.{◌≡◌, ◌<◌, ◌∙◌, ◌++◌, [], List, ℕ, sym, ap, rules, length}
use Rattle.std.proofs.Common.{string_bytes}
use Rattle.std.proofs.lemmas.List.{append-nil}
use Rattle.std.specs.List.{position_or_len, before_first, after_first}
use Rattle.std.specs.Prelude.{codes}
use Rattle.rpki_show.specs.Grows.{Grows}
use Rattle.rpki_program.specs.Verify.Entry.{indented}
use Rattle.rpki_program.proofs.Indenting.{is_feed, line-more, spaces-some, spaces-end}
use Rattle.rpki_program.proofs.Indenting.{indented-last, grown}
use Rattle.rpki_program.proofs.verify.check.entry.push_indented.Goals as goal

pub loop-line-preserved : goal.loop-line-preserved
loop-line-preserved c =
    let rest = c.loop-line.rest.now in
    let old = string_bytes c.loop-line.text in
    let within : position_or_len is_feed rest < length rest = search rules in
    let first : c.in-Some.line.now ≡ before_first is_feed rest = search rules in
    let second : c.in-Some.others.now ≡ after_first is_feed rest = search rules in
    let text : string_bytes c.push_str-in-Some.new.self
    ≡ (old ++ c.in-Some.line.now) ++ codes "\n" = search rules in (
      search rules,
      line-more old (string_bytes c.push_str-in-Some.new.self) c.in-Some.line.now rest
          c.in-Some.others.now [] within first second
          (spaces-end c.in-Some.others.now (sym c.is_empty.ensures ∙ c.if-not-is_empty.false))
          (text ∙ sym (append-nil ((old ++ c.in-Some.line.now) ++ codes "\n")))
          ∙ c.loop-line.invariant.1,
    )

pub loop-line-preserved-in_ok-push_str-3 : goal.loop-line-preserved-in_ok-push_str-3
loop-line-preserved-in_ok-push_str-3 c =
    let rest = c.loop-line.rest.now in
    let old = string_bytes c.loop-line.text in
    let within : position_or_len is_feed rest < length rest = search rules in
    let first : c.in-Some.line.now ≡ before_first is_feed rest = search rules in
    let second : c.in-Some.others.now ≡ after_first is_feed rest = search rules in
    let text : string_bytes c.push_str-then-not-is_empty.new.self
    ≡ ((old ++ c.in-Some.line.now) ++ codes "\n") ++ codes "  " = search rules in (
      search rules,
      line-more old (string_bytes c.push_str-then-not-is_empty.new.self) c.in-Some.line.now rest
          c.in-Some.others.now (codes "  ") within first second
          (spaces-some c.in-Some.others.now (sym c.is_empty.ensures ∙ c.if-not-is_empty.true)) text
          ∙ c.loop-line.invariant.1,
    )

pub returns : goal.returns
returns c =
    let rest = c.loop-line.rest.now in
    let last : position_or_len is_feed rest ≡ length rest = search rules in
    let grows : Grows c.push_str-2.result c.loop-line.text c.push_str-2.new.self rest =
    search rules in
    grown c.push_str-2.result c.args.text.now c.loop-line.text c.push_str-2.new.self rest
    (indented c.args.lines.now) grows
    (ap (λ (l : List ℕ). string_bytes c.loop-line.text ++ l) (sym (indented-last rest last))
    ∙ c.loop-line.invariant.1)
