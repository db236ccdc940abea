use Rattle.std.proofs.Common.{◌≡◌, List, sym, subst, true, false, ◌∙◌}
use Rattle.rpki_files.specs.Manifest.Files.{File, is_unrepeated}
use Rattle.rpki_files.proofs.Manifests.Taken.{bad-extension, bad-name, entries-are, met-rule}
use Rattle.rpki_files.proofs.Manifests.Taken.{names-hold, repeated-name, too-many}
use Rattle.rpki_files.proofs.manifest.builder.entries.Entries.into_list.Goals as goal

pub returns-then-not-self-clause-refused : goal.returns-then-not-self-clause-refused
returns-then-not-self-clause-refused c = λ files t.
    bad-name c.args.rule c.args.self files t c.if-not-self.true

pub returns-then-not-self-2-clause-refused : goal.returns-then-not-self-2-clause-refused
returns-then-not-self-2-clause-refused c = λ files t.
    bad-extension c.args.rule c.args.self files t c.if-not-self.false c.if-not-self-2.true

pub returns-then-not-is_short-clause-refused : goal.returns-then-not-is_short-clause-refused
returns-then-not-is_short-clause-refused c = λ files t. (
  names-hold c.args.rule c.args.self files t c.if-not-self.false c.if-not-self-2.false,
  too-many c.args.rule c.args.self files t (c.is_short.ensures.long c.if-not-is_short.true),
)

pub list_of-requires : goal.list_of-requires
list_of-requires c =
    let short = c.is_short.ensures.short c.if-not-is_short.false in
    (entries-are c.args.rule c.args.self c.requires.0 c.requires.1 c.if-not-self.false short.0
    short.1).0

pub returns-in-Ok-true-clause-listed : goal.returns-in-Ok-true-clause-listed
returns-in-Ok-true-clause-listed c = λ files t.
    let short = c.is_short.ensures.short c.if-not-is_short.false in
    c.in_ok-list.ensures ∙ (entries-are c.args.rule c.args.self files t c.if-not-self.false
    short.0 short.1).1

pub returns-in-Ok-true-clause-checked : goal.returns-in-Ok-true-clause-checked
returns-in-Ok-true-clause-checked c = λ files t.
    names-hold c.args.rule c.args.self files t c.if-not-self.false c.if-not-self-2.false

pub returns-in-Ok-true-clause-meets : goal.returns-in-Ok-true-clause-meets
returns-in-Ok-true-clause-meets c = λ files t.
    let listed : c.in_ok-list.list ≡ files = returns-in-Ok-true-clause-listed c files t in
    let once : is_unrepeated c.args.rule files ≡ true =
    subst (λ (l : List File). is_unrepeated c.args.rule l ≡ true) listed
    (sym c.in-Ok-true.ensures ∙ c.in-Ok-true.field-0-test) in
    met-rule c.args.rule c.args.self files t c.if-not-self-2.false once

pub returns-in-Ok-false-clause-refused : goal.returns-in-Ok-false-clause-refused
returns-in-Ok-false-clause-refused c = λ files t.
    let short = c.is_short.ensures.short c.if-not-is_short.false in
    let listed : c.in_ok-list.list ≡ files =
    c.in_ok-list.ensures ∙ (entries-are c.args.rule c.args.self files t c.if-not-self.false
    short.0 short.1).1 in
    let twice : is_unrepeated c.args.rule files ≡ false =
    subst (λ (l : List File). is_unrepeated c.args.rule l ≡ false) listed
    (sym c.in-Ok-false.ensures ∙ c.in-Ok-false.field-0-test) in
    repeated-name c.args.rule c.args.self files t c.if-not-self.false c.if-not-self-2.false twice
