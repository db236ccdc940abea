use Rattle.std.proofs.Common.{◌≡◌, ◌≤◌, ◌⊎◌, ◌∙◌, List, [], get_or, inl, inr, refl, subst}
use Rattle.std.proofs.lemmas.List.{take_all}
use Rattle.std.specs.Borrow.{Bor}
use Rattle.std.specs.Io.KnownBytes.{Appends}
use Rattle.std.specs.Prelude.{ℕ}
use Rattle.rpki_cli.specs.Store.{Told}
use Rattle.rpki_der.specs.Write.Sink.{AppendsFront}
use Rattle.rpki_program.specs.Verify.Check.{AreWritten}
use Rattle.rpki_program.specs.Verify.Entry.{IsEntry}
use Rattle.rpki_program.proofs.Running.{cut-before, cut-within, none-written, one-more}
use Rattle.rpki_program.proofs.verify.check.check_each.Goals as goal

pub loop-i-init : goal.loop-i-init
loop-i-init g c = record {
  same = refl;
  written = none-written (g.S.Store.told c.args.store.now) c.args.request.now
      c.args.on.now.question.now c.args.on.now.grounds.now c.args.files.now
      (g.O.Sink.taken c.args.out.now);
  failures = refl;
}

pub loop-i-preserved : goal.loop-i-preserved
loop-i-preserved g c =
    let l = c.loop-i in
    let d : Bor (List ℕ) = record { ref_ptr = (0, 0); now = [] } in
    record {
      same = c.entry_of.ensures.same ∙ l.invariant.same;
      written =
          one-more (g.S.Store.told c.args.store.now) c.args.request.now
          c.args.on.now.question.now c.args.on.now.grounds.now c.args.files.now
          (g.O.Sink.taken c.args.out.now) l.i d c.in-Ok.entry
          (g.O.Sink.taken l.out) _ l.status c.worse-status.result c.loop-i-test.true l.invariant.written
          (subst (λ (t : Told). IsEntry t c.args.request.now c.args.on.now.question.now
          c.args.on.now.grounds.now (get_or c.args.files.now l.i d).now c.in-Ok.entry) l.invariant.same c.in-Ok.ensures.entry)
          (subst (λ (l : List ℕ). Appends (g.O.Sink.taken c.loop-i.out)
          (g.O.Sink.taken c.take_all.new.self) l) c.as_bytes.ensures.value
          c.in-Ok-take_all.ensures.ok) c.worse-status.ensures.status
          (subst (λ (n : ℕ). n ≤ c.worse-status.result) c.status.ensures c.worse-status.ensures.more)
          (subst (λ (n : ℕ). (c.worse-status.result ≡ l.status) ⊎ (c.worse-status.result ≡ n))
          c.status.ensures c.worse-status.ensures.one);
      failures = c.in-Ok-take_all.ensures.same ∙ l.invariant.failures;
    }

pub returns-in-Err-clause-entries : goal.returns-in-Err-clause-entries
returns-in-Err-clause-entries g c =
    let l = c.loop-i in
    inl (
      inr refl,
      cut-before (g.S.Store.told c.args.store.now) c.args.request.now
          c.args.on.now.question.now c.args.on.now.grounds.now c.args.files.now
          (g.O.Sink.taken c.args.out.now) l.i (g.O.Sink.taken l.out) l.status l.invariant.written,
    )

pub returns-in-Err-take_all-clause-entries : goal.returns-in-Err-take_all-clause-entries
returns-in-Err-take_all-clause-entries g c =
    let l = c.loop-i in
    let d : Bor (List ℕ) = record { ref_ptr = (0, 0); now = [] } in
    inl (
      inl refl,
      cut-within (g.S.Store.told c.args.store.now) c.args.request.now
          c.args.on.now.question.now c.args.on.now.grounds.now c.args.files.now
          (g.O.Sink.taken c.args.out.now) l.i d c.in-Ok.entry
          (g.O.Sink.taken l.out) _ l.status c.loop-i-test.true l.invariant.written
          (subst (λ (t : Told). IsEntry t c.args.request.now c.args.on.now.question.now
          c.args.on.now.grounds.now (get_or c.args.files.now l.i d).now c.in-Ok.entry) l.invariant.same c.in-Ok.ensures.entry)
          (subst (λ (l : List ℕ). AppendsFront (g.O.Sink.taken c.loop-i.out)
          (g.O.Sink.taken c.take_all.new.self) l) c.as_bytes.ensures.value
          c.in-Err-take_all.ensures.begun),
    )

pub returns-clause-entries : goal.returns-clause-entries
returns-clause-entries g c =
    let l = c.loop-i in
    inr (subst (λ (fs : List (Bor (List ℕ))). AreWritten (g.S.Store.told c.args.store.now)
    c.args.request.now c.args.on.now.question.now c.args.on.now.grounds.now fs
    (g.O.Sink.taken c.args.out.now) (g.O.Sink.taken l.out) l.status)
    (take_all l.i c.args.files.now c.loop-i-test.false) l.invariant.written)
