-- `and` makes a value of no bytes, with the names of the first reference and that of the second.
use mathlib.Core.Path.{refl, sym, subst}
use mathlib.Core.List.{List, [], ◌∷◌, ◌++◌}
use seplogic.Ra.Ura.{Ura}
use mir.Syntax.{w64}
use mir.Val.{Fits, Val, vptr, vstruct, vcons, vnil, vunit}
use base.Logic.{SProp, ent, via, fst∗, snd∗}
use base.Fml.{Fml}
use prog.Memory.{Memory}
use prog.Routine.{Routine}
use prog.Wp.{Calls, Loops, WpFn, Tables}
use types.Logic.{Logic, sem}
use contract.Monad.{Fun, fact_use}
use contract.Running.{tables, tables_of}
use sound.WpLaws.{WpFn-mono}
use types.Kit.{‵, raw, ◌⊛◌, ◌$◌, ◌∵◌, !, qed, move, keep, split, join, fjoin, use0, suffices, done}
use types.Run.{no_more, and_then, unit_lit, returns, enter}
use types.Part.{agg}
use types.ByLocal.{alloc_all, pass_all, free_all, look_at, sets}
use denote.RattleType.{owns}
use denote.Exit.{yes}
use denote.Laws.{Are, Ises, owns_show, showss}
use denote.Shadow.{makes_shadow}
use denote.Builtin.{RefOf}
use denote.Slice.{slice_val}
use denote.Text.{StrRefOf}
use lib.ListN.{length}
use denote.Signature.{types_at, type_at, plain}
use denote.Steps.{nothing}
use denote.Triple.Clauses.{Clauses, closing}
use denote.Triple.Entry.{on_entry, alive}
use denote.Triple.Spec.{Meets, triple_of}
use denote.Triple.Table.{entered}
use denote.Triple.Walked.{says, Stays, stay_dropped, walk_of, ends_at, Goes-dropped, walk_Meets}
use denote.RattleType.{RattleType}
use Rattle.rpki_cli.specs.declared.read_log.ReadLog.{ReadLog}
use Rattle.rpki_cli.specs.contracts.read_log.ReadLog as made
use Rattle.rpki_cli.specs.contracts.read_log.ReadLog.and.{ended, clauses}
use Rattle.rpki_cli.specs.contracts.read_log.ReadLog.and.Key.{name as key}
use Rattle.rpki_cli.proofs.read_log.ReadLog.and.Statement as stated
use Rattle.rpki_cli.proofs.read_log.ReadLog.and.Code as code

abbrev R : RattleType
R = made.the_row

abbrev stayed : Stays ended.signature.params ended.kept
stayed = (
  stay_dropped (RefOf (0 ∷ []) tt (plain (λ _. R)) (λ _. tt)) yes,
  (stay_dropped (StrRefOf (1 ∷ []) tt) yes, tt),
)

module _ {M : Type 1} {𝓤 : Ura M} (𝓛 : Logic 𝓤) (at_mem : Memory → SProp 𝓤) (run : Routine
    → Fun 𝓤) where
  open 𝓛 use {H}

  abbrev held : Clauses 𝓤 ended
  held = clauses 𝓛 at_mem run

  module _ (C : Calls 𝓤 H) (Λ : Loops 𝓤 H) (z : (walk_of 𝓛 ended stayed held).Ghost) where
    abbrev At : List Val → List Val → (walk_of 𝓛 ended stayed held).Ghost
    At us ws = ((z.0.0, z.0.1, z.0.2, z.0.3, (us, (ws, tt))), z.1)

    abbrev Post : List Val → List Val → Val → SProp 𝓤
    Post us ws = (walk_of 𝓛 ended stayed held).post (At us ws)

    abbrev Goes : List Val → List Val → Type 1
    Goes us ws = ent 𝓤 ((walk_of 𝓛 ended stayed held).pre (At us ws))
        (WpFn 𝓤 H C Λ code.function (us ++ (ws ++ [])) (Post us ws))

    abbrev self : Val
    self = vptr z.0.3.0.ref_ptr.0 z.0.3.0.ref_ptr.1

    abbrev name : Val
    name = slice_val z.0.3.1.0.ref_ptr (length z.0.3.1.0.now)

    abbrev toks : SProp 𝓤
    toks = alive 𝓛 ended.signature z.0.0 z.0.1

    abbrev passed : Fml
    passed = owns (types_at ended.signature.params z.0.0) z.0.3 (self ∷ [], (name ∷ [], tt))

    walks : Fits w64 (length z.0.3.1.0.now) → Goes (self ∷ []) (name ∷ [])
    walks fits =
        let v : Val = vstruct (vcons vunit vnil) in
        let r : ReadLog = record { seal = tt; names = z.0.3.0.now.names ++ z.0.3.1.0.now ∷ [] } in
        let O : Fml = (type_at ended.signature.result z.0.0).own_val r (v ∷ []) in
        qed 𝓛 ((raw toks ⊛ ‵ passed) ∷ raw ((held z.0.0 z.0.3).requires z.1) ∷ [])
        ∵ split ! $ keep ! (0 ∷ []) $
        enter ! C Λ code.function (self ∷ name ∷ []) _ $ alloc_all !
        (λ l. pass_all ! refl ((tt, tt), ((tt, (tt, (fits, tt))), tt)) $
        sets ! (agg ! (and_then ! (unit_lit !) (no_more !))) refl (tt, (tt, tt)) $
        returns ! (look_at ! 0 refl) $ free_all ! refl $
        use0 𝓛 (‵ O) (makes_shadow 𝓛 O ((λ vss. (tt, (tt, tt))), tt)
        (((vunit ∷ [], tt), (refl, (refl, tt))), tt)) $
        suffices ! _
        (ends_at 𝓛 ended stayed held (At (self ∷ []) (name ∷ [])) v r (tt, (tt, tt)) (tt, (tt, tt)))
        $ says ! refl $
        nothing ! $ nothing ! $ fjoin ! $ nothing ! $ fjoin ! $ join ! $ move ! (1 ∷ 0 ∷ []) $
        join ! $ done !)

  meets : (𝓣 : Tables 𝓤 H)
      → Meets 𝓛 ended.signature (WpFn 𝓤 H 𝓣.C 𝓣.Λ code.function) (closing 𝓛 ended held)
  meets 𝓣 =
      walk_Meets 𝓛 ended stayed (
        Goes-dropped 𝓛 2 (RefOf (0 ∷ []) tt (plain (λ _. R)) (λ _. tt)) yes (λ κs x f. refl),
        (Goes-dropped 𝓛 2 (StrRefOf (1 ∷ []) tt) yes (λ κs x f. refl), tt),
      )
      held
      (WpFn 𝓤 H 𝓣.C 𝓣.Λ code.function) (WpFn-mono 𝓤 H 𝓛.laws 𝓣 code.function)
      (λ z. let a = z.0.3 in let vss = z.0.4 in
      let Rs : List RattleType = types_at ended.signature.params z.0.0 in
      fact_use 𝓤 (Are Rs (Ises Rs) a vss)
      (via 𝓤 (sem 𝓛 (owns Rs a vss))
      (via 𝓤 (on_entry 𝓛 ended.signature z.0.0 z.0.1 a vss)
      (fst∗ 𝓤 (on_entry 𝓛 ended.signature z.0.0 z.0.1 a vss)
      ((held z.0.0 a).requires z.1))
      (snd∗ 𝓤 (alive 𝓛 ended.signature z.0.0 z.0.1) (sem 𝓛 (owns Rs a vss))))
      (owns_show 𝓛 Rs (Ises Rs) (showss 𝓛 Rs) a vss)) (λ are.
      subst (λ (us : List Val). Goes 𝓣.C 𝓣.Λ z us vss.1.0) (sym are.0.0)
      (subst (Goes 𝓣.C 𝓣.Λ z (self 𝓣.C 𝓣.Λ z ∷ [])) (sym are.1.0.0.0.0)
      (walks 𝓣.C 𝓣.Λ z (record { fits = are.1.0.0.0.1.0 })))))

pub and_spec : {M : Type 1} → stated.statement M
unfolding tables_of
and_spec 𝓤 𝓛 𝓜 𝓡 wired =
    let 𝓣 : Tables 𝓤 𝓛.H = tables_of 𝓤 𝓛.H 𝓜 (tables 𝓤 𝓛.H 𝓜 𝓡 𝓡.env) in
    entered 𝓤 𝓛.H (triple_of 𝓛 ended.signature (closing 𝓛 ended (clauses 𝓛 𝓜.mem 𝓡.returns)))
    𝓣.C 𝓣.Λ key code.function (code.unfolded 𝓤 𝓛.H 𝓜 𝓡 wired)
    (meets 𝓛 𝓜.mem 𝓡.returns 𝓣)
