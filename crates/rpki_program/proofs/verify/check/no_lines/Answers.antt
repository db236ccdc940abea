use Rattle.std.proofs.Common.{◌∙◌, [], ◌∷◌, ◌++◌, List, ℕ, ap, get_or, sym, string_bytes, subst}
use Rattle.std.proofs.lemmas.List.{take_all}
use Rattle.std.specs.Borrow.{Bor}
use Rattle.std.specs.List.{AllZip}
use Rattle.std.specs.Prelude.{false}
use Rattle.rpki_program.specs.Verify.Report.{IsLine}
use Rattle.rpki_program.proofs.Running.{flat-more, in-range, zip-next}
use Rattle.rpki_program.proofs.verify.check.no_lines.Goals as goal

pub loop-i-init : goal.loop-i-init
loop-i-init c = ([], tt, c.new-text.ensures.bytes)

pub loop-i-preserved : goal.loop-i-preserved
loop-i-preserved c =
    let so = c.loop-i.invariant in
    let line = string_bytes c.in_ok-line.line in
    let d : Bor (List ℕ) = record { ref_ptr = (0, 0); now = [] } in
    let files = c.args.files.now in (
      so.0 ++ line ∷ [],
      zip-next (λ (f : Bor (List ℕ)) (x : List ℕ). IsLine f.now false x) files so.0 c.loop-i.i
          (get_or files c.loop-i.i d) line c.loop-i-test.true
          (in-range files c.loop-i.i d (get_or files c.loop-i.i d) c.loop-i-test.true)
          so.1 c.in_ok-line.ensures,
      c.in_ok-push_str.ensures.bytes
          ∙ (ap (λ (t : List ℕ). string_bytes c.loop-i.text ++ t) c.deref.ensures
          ∙ (ap (λ (t : List ℕ). t ++ line) so.2 ∙ sym (flat-more (λ (l : List ℕ). l) so.0 line))),
    )

pub returns : goal.returns
returns c =
    let so = c.loop-i.invariant in (
      so.0,
      subst (λ (fs : List (Bor (List ℕ))). AllZip (λ (f : Bor (List ℕ)) (x : List ℕ). IsLine f.now false x) fs so.0)
          (take_all c.loop-i.i c.args.files.now c.loop-i-test.false) so.1,
      so.2,
    )
