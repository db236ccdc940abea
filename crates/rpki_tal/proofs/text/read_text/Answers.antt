use Rattle.std.proofs.Common.{refl, inl, inr}
use Rattle.std.proofs.lemmas.Result.{IfOk-weaker, IfErr-weaker}
use Rattle.rpki_tal.specs.declared.error.ReadError.TheVariants.{UnexpectedEof}
use Rattle.rpki_tal.proofs.Refusing.{refuses-more}
use Rattle.rpki_tal.proofs.Unique.{no-tal, only-tal}
use Rattle.rpki_tal.proofs.text.read_text.Goals as goal

pub returns-in_default-clause-err : goal.returns-in_default-clause-err
returns-in_default-clause-err c =
    let ends = rw c.in_default.is at c.skip_comments.ensures in
    (inl (ends, refl), no-tal c.args.text.now UnexpectedEof (inl (ends, refl)))

pub returns-clause-ok : goal.returns-clause-ok
returns-clause-ok c =
    IfOk-weaker c.read_list.result _ _ (λ tal list.
    only-tal c.args.text.now c.in-Some.list.now tal.0.items tal.1 c.in-Some.ensures list)
    c.read_list.ensures.ok

pub returns-clause-err : goal.returns-clause-err
returns-clause-err c =
    IfErr-weaker c.read_list.result _ _ (λ e refused. refuses-more e (λ fault. (
      inr (c.in-Some.list.now, c.in-Some.ensures, fault),
      no-tal c.args.text.now e (inr (c.in-Some.list.now, c.in-Some.ensures, fault)),
    )) refused)
    c.read_list.ensures.err
