use Rattle.std.proofs.Common.{◌≡◌, ◌<◌, ◌^◌, List, length, true, false, sym, subst, ◌∙◌}
use Rattle.std.proofs.lemmas.Result.{err_from_is_err_and, on_ok_weaker}
use Rattle.rpki_der.specs.declared.mode.Mode.TheVariants.{Der}
use Rattle.rpki_faults.specs.Checks.{AllHold}
use Rattle.rpki_files.specs.Manifest.Files.{File, MeetsRule}
use Rattle.rpki_files.specs.Manifest.{Manifest, ManifestForm, manifest_contents, manifest_octets}
use Rattle.rpki_files.specs.Manifest.Built.{Gives, name_checks}
use Rattle.rpki_files.proofs.Manifests.Built.{of-same, out-of-order, too-long, unlisted}
use Rattle.rpki_files.proofs.manifest.ManifestContent.new.Goals as goal

pub returns-then-not-are_in_order-clause-refused
    : goal.returns-then-not-are_in_order-clause-refused
returns-then-not-are_in_order-clause-refused g c =
    let e = c.in_ok-entries.ensures in
    out-of-order c.args.rule c.args.number c.args.this_update c.args.next_update
    (Gives g.I.Iterator.next_gives g.F.AsOctets.meaning g.H.AsOctets.meaning c.args.iter) e.0 e.1
    (λ o. let never : true ≡ false =
    sym (c.are_in_order.ensures.order.1 o) ∙ c.if-not-are_in_order.true in cc)

pub returns-in_err-files-clause-refused : goal.returns-in_err-files-clause-refused
returns-in_err-files-clause-refused g c =
    let e = c.in_ok-entries.ensures in
    let p = err_from_is_err_and c.from_residual-in_err-files.result
    c.from_residual-in_err-files.ensures.1 in
    rw (p.1, p.2) (unlisted c.args.rule c.args.number c.args.this_update c.args.next_update
    (Gives g.I.Iterator.next_gives g.F.AsOctets.meaning g.H.AsOctets.meaning c.args.iter) e.0 e.1
    _ (c.are_in_order.ensures.order.0 c.if-not-are_in_order.false)
    (c.in_err-files.ensures.refused e.0 e.2))

pub returns-clause-short : goal.returns-clause-short
returns-clause-short g c =
    of-same (λ (m : Manifest). length (manifest_contents m) < 2 ^ 32) _ c.short.result
    c.short.ensures.same c.short.ensures.short

pub returns-clause-written : goal.returns-clause-written
returns-clause-written g c =
    let e = c.in_ok-entries.ensures in
    let meets : MeetsRule c.args.rule c.in_ok-files.files =
    subst (MeetsRule c.args.rule) (sym (c.in_ok-files.ensures.listed e.0 e.2))
    (c.in_ok-files.ensures.meets e.0 e.2) in
    of-same (λ (m : Manifest). ManifestForm c.args.rule Der (manifest_octets m) m) _ c.short.result
    c.short.ensures.same
    (on_ok_weaker c.short.result (λ form. form c.args.rule meets) c.short.ensures.written)

pub returns-clause-refused : goal.returns-clause-refused
returns-clause-refused g c =
    let e = c.in_ok-entries.ensures in
    let same = c.in_ok-files.ensures.listed e.0 e.2 in
    too-long c.args.rule c.args.number c.args.this_update c.args.next_update
    (Gives g.I.Iterator.next_gives g.F.AsOctets.meaning g.H.AsOctets.meaning c.args.iter) e.0 e.1
    c.in_ok-files.files same c.short.result (
      c.are_in_order.ensures.order.0 c.if-not-are_in_order.false,
      subst (λ (l : List File). AllHold (name_checks c.args.rule l)) (sym same)
          (c.in_ok-files.ensures.checked e.0 e.2),
    ) c.short.ensures.too_long c.short.ensures.refused
