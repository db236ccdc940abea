-- `of` makes a value of no octets, with the number that is read off what is behind the reference.
use mathlib.Core.Path.{refl, sym, subst}
use mathlib.Core.List.{List, [], ◌∷◌, ◌++◌}
use seplogic.Ra.Ura.{Ura}
use mir.MapTy.{inst_fn}
use mir.Syntax.{Args, Dict, Fn, a_type, dcons, dnil}
use mir.Val.{Val, vptr, vstruct, vcons, vnil, vunit}
use base.Logic.{SProp, ent, via, fst∗, snd∗}
use base.Fml.{Fml}
use prog.Memory.{Memory}
use prog.Routine.{Routine}
use prog.Wp.{Calls, Loops, WpFn, Tables}
use types.Logic.{Logic, sem}
use contract.Monad.{Fun, fact_use}
use contract.Running.{tables, tables_of}
use sound.WpLaws.{WpFn-mono}
use types.Kit.{‵, raw, ◌⊛◌, ◌$◌, ◌∵◌, !, qed, move, keep, split, join, fjoin, use0, suffices, done}
use types.Run.{no_more, and_then, unit_lit, returns, enter}
use types.Part.{agg}
use types.ByLocal.{alloc_all, pass_all, free_all, look_at, sets}
use denote.RattleType.{RattleType, owns}
use denote.Exit.{yes}
use denote.Laws.{Are, Ises, owns_show, showss}
use denote.Param.{bounded, param}
use denote.Shadow.{makes_shadow}
use denote.Builtin.{RefOf}
use denote.Signature.{types_at, type_at, plain}
use denote.Steps.{nothing}
use denote.Triple.Clauses.{Clauses, Ended, closing}
use denote.Triple.Entry.{on_entry, alive}
use denote.Triple.Spec.{Meets, triple_of}
use denote.Triple.Table.{entered}
use denote.Triple.Walked.{says, Stays, stay_dropped, walk_of, ends_at, Goes-dropped, walk_Meets}
use Rattle.rpki_rta.specs.declared.verdict_total.VerdictTotal.{VerdictTotal}
use Rattle.rpki_rta.specs.declared.verdict_total.CountsVerdicts.{Ghosts}
use Rattle.rpki_rta.specs.contracts.verdict_total.VerdictTotal.of as f
use Rattle.rpki_rta.specs.contracts.verdict_total.VerdictTotal.of.Key.{name as key}
use Rattle.rpki_rta.proofs.verdict_total.VerdictTotal.of.Statement as stated
use Rattle.rpki_rta.proofs.verdict_total.VerdictTotal.of.Code as code

module _ (X : RattleType) (counts : Ghosts X.Denot) (dict : Dict) where
  abbrev args : Args
  args = bounded (a_type ∷ []) (X, tt) (dcons dict dnil)

  abbrev function : Fn
  function = inst_fn args code.function

  abbrev ended : Ended
  ended = f.ended X counts dict

  abbrev stayed : Stays ended.signature.params ended.kept
  stayed = (stay_dropped (RefOf (0 ∷ []) tt (plain (λ _. param 0 X)) (λ _. tt)) yes, tt)

  module _ {M : Type 1} {𝓤 : Ura M} (𝓛 : Logic 𝓤) (at_mem : Memory → SProp 𝓤) (run : Routine
      → Fun 𝓤) where
    open 𝓛 use {H}

    abbrev held : Clauses 𝓤 ended
    held = f.clauses X counts dict 𝓛 at_mem run

    module _ (C : Calls 𝓤 H) (Λ : Loops 𝓤 H) (z : (walk_of 𝓛 ended stayed held).Ghost) where
      abbrev At : List Val → (walk_of 𝓛 ended stayed held).Ghost
      At us = ((z.0.0, z.0.1, z.0.2, z.0.3, (us, tt)), z.1)

      abbrev Post : List Val → Val → SProp 𝓤
      Post us = (walk_of 𝓛 ended stayed held).post (At us)

      abbrev Goes : List Val → Type 1
      Goes us = ent 𝓤 ((walk_of 𝓛 ended stayed held).pre (At us))
          (WpFn 𝓤 H C Λ function (us ++ []) (Post us))

      abbrev self : Val
      self = vptr z.0.3.0.ref_ptr.0 z.0.3.0.ref_ptr.1

      abbrev toks : SProp 𝓤
      toks = alive 𝓛 ended.signature z.0.0 z.0.1

      abbrev passed : Fml
      passed = owns (types_at ended.signature.params z.0.0) z.0.3 (self ∷ [], tt)

      walks : Goes (self ∷ [])
      walks =
          let v : Val = vstruct (vcons vunit vnil) in
          let r : VerdictTotal = record { seal = tt; number = counts.number z.0.3.0.now } in
          let O : Fml = (type_at ended.signature.result z.0.0).own_val r (v ∷ []) in
          qed 𝓛 ((raw toks ⊛ ‵ passed) ∷ raw ((held z.0.0 z.0.3).requires z.1) ∷ [])
          ∵ split ! $ keep ! (0 ∷ []) $
          enter ! C Λ function (self ∷ []) _ $ alloc_all !
          (λ l. pass_all ! refl ((tt, tt), tt) $
          sets ! (agg ! (and_then ! (unit_lit !) (no_more !))) refl (tt, (tt, tt)) $
          returns ! (look_at ! 0 refl) $ free_all ! refl $
          use0 𝓛 (‵ O) (makes_shadow 𝓛 O ((λ vss. (tt, (tt, tt))), tt)
          (((vunit ∷ [], tt), (refl, (refl, tt))), tt)) $
          suffices ! _ (ends_at 𝓛 ended stayed held (At (self ∷ [])) v r (tt, tt) (tt, tt))
          $ says ! refl $
          nothing ! $ nothing ! $ fjoin ! $ join ! $ move ! (1 ∷ 0 ∷ []) $ join ! $ done !)

    meets : (𝓣 : Tables 𝓤 H)
        → Meets 𝓛 ended.signature (WpFn 𝓤 H 𝓣.C 𝓣.Λ function) (closing 𝓛 ended held)
    meets 𝓣 =
        walk_Meets 𝓛 ended stayed (
          Goes-dropped 𝓛 2 (RefOf (0 ∷ []) tt (plain (λ _. param 0 X)) (λ _. tt)) yes
              (λ κs x w. refl),
          tt,
        )
        held
        (WpFn 𝓤 H 𝓣.C 𝓣.Λ function) (WpFn-mono 𝓤 H 𝓛.laws 𝓣 function)
        (λ z. let a = z.0.3 in let vss = z.0.4 in
        let Rs : List RattleType = types_at ended.signature.params z.0.0 in
        fact_use 𝓤 (Are Rs (Ises Rs) a vss)
        (via 𝓤 (sem 𝓛 (owns Rs a vss))
        (via 𝓤 (on_entry 𝓛 ended.signature z.0.0 z.0.1 a vss)
        (fst∗ 𝓤 (on_entry 𝓛 ended.signature z.0.0 z.0.1 a vss)
        ((held z.0.0 a).requires z.1))
        (snd∗ 𝓤 (alive 𝓛 ended.signature z.0.0 z.0.1) (sem 𝓛 (owns Rs a vss))))
        (owns_show 𝓛 Rs (Ises Rs) (showss 𝓛 Rs) a vss)) (λ are.
        subst (Goes 𝓣.C 𝓣.Λ z) (sym are.0.0) (walks 𝓣.C 𝓣.Λ z)))

pub of_spec : {M : Type 1} → stated.statement M
unfolding tables_of
of_spec 𝓤 𝓛 𝓜 𝓡 wired X laws counts dict met =
    let 𝓣 : Tables 𝓤 𝓛.H = tables_of 𝓤 𝓛.H 𝓜 (tables 𝓤 𝓛.H 𝓜 𝓡 𝓡.env) in
    let E : Ended = ended X counts dict in
    entered 𝓤 𝓛.H (triple_of 𝓛 E.signature (closing 𝓛 E (held X counts dict 𝓛 𝓜.mem 𝓡.returns)))
    𝓣.C 𝓣.Λ (key (args X counts dict)) (function X counts dict)
    (code.unfolded 𝓤 𝓛.H 𝓜 𝓡 wired (X, tt) dict)
    (meets X counts dict 𝓛 𝓜.mem 𝓡.returns 𝓣)
