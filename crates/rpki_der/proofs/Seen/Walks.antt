-- Steps that the walks of `src/static_text` share. Assumes `Logic`.
use Rattle.std.proofs.Common.{List, [], ◌∷◌, refl}
use seplogic.Ra.Ura.{Ura}
use mir.Val.{Val, vstruct, vcons, vnil}
use types.Logic.{Logic}
use types.Kit.{Goal, Step, step, Item, ‵, ◌$◌, move, fjoin, fpack, feq_i}
use denote.RattleType.{RattleType, Valss}
use denote.Steps.{nothing}
use denote.Struct.Struct.{Struct, within}

-- a struct by its fields alone: what it owns does not read its name
abbrev pub plainly : List RattleType → RattleType
plainly Rs = Struct (record { name = []; args = []; types = []; fields = Rs })

abbrev pub none : Val
none = vstruct vnil

abbrev pub two : Val → Val → Val
two u v = vstruct (vcons u (vcons v vnil))

module _ {M : Type 1} {𝓤 : Ura M} {𝓛 : Logic 𝓤} {K : Type 0} {Γ : List (Item 𝓤)} {G : Goal 𝓤 𝓛.H}
  where
    pub none_made : K → Step K 𝓛 (‵ ((plainly []).own_val tt (none ∷ [])) ∷ Γ) G Γ G
    none_made t = step (λ s.
        nothing t $ feq_i t (List Val) (none ∷ []) (none ∷ []) refl $ fjoin t $
        fpack t (Valss []) (within (record { name = []; args = []; types = []; fields = [] }) tt
        (none ∷ [])) tt $ s)

    pub two_made : K → (R S : RattleType) (x : R.Denot) (y : S.Denot) (u v : Val)
        → Step K 𝓛 (‵ ((plainly (R ∷ S ∷ [])).own_val (x, (y, tt)) (two u v ∷ [])) ∷ Γ) G (‵
        (R.own_val x (u ∷ [])) ∷ ‵ (S.own_val y (v ∷ [])) ∷ Γ) G
    two_made t R S x y u v = step (λ s.
        nothing t $ move t (2 ∷ 0 ∷ []) $ fjoin t $ move t (1 ∷ 0 ∷ []) $ fjoin t $
        feq_i t (List Val) (two u v ∷ []) (two u v ∷ []) refl $ fjoin t $
        fpack t (Valss (R ∷ S ∷ [])) (within (record {
          name = [];
          args = [];
          types = [];
          fields = R
              ∷ S ∷ [];
        }) (x, (y, tt)) (two u v ∷ [])) (u ∷ [], (v ∷ [], tt)) $ s)
