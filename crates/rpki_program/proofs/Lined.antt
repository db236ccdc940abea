-- Lines of JSON.
use Rattle.std.proofs.Common.{◌≡◌, ◌∙◌, [], ◌∷◌, List, ℕ, Ok, Err, Result, Some, ap, arith, codes}
use Rattle.std.specs.BTreeMap.{BTreeMap}
use Rattle.std.specs.Prelude.{Bool, IfOk, String, string_bytes}
use Rattle.std.specs.declared.alloc.AllocError.{AllocError}
use Rattle.std.specs.declared.alloc.Global.{Global}
use Rattle.serde_json.proofs.Views.{get_member-put, get_member-put_other}
use Rattle.serde_json.specs.Data.{Data, Members, boolean, put, string}
use Rattle.serde_json.specs.Find.{get_member}
use Rattle.serde_json.specs.View.{members_view}
use Rattle.serde_json.specs.declared.value.Value.{Value}
use Rattle.rpki_program.specs.Verify.Report.{IsLine, IsLineOf}

-- what is put at a name is found there
pub put-found : (k : List ℕ) (d e : Data) (old new : Members) → d ≡ e → new ≡ put k d old
    → get_member k new ≡ Some e
put-found k d e old new s h = ap (get_member k) h ∙ (get_member-put k d old ∙ ap Some s)

-- what was put before at another name is found there, too
pub found-still : (q k : List ℕ) (d e : Data) (old new : Members) → (q ≡ k → ⊥)
    → get_member q old ≡ Some e → new ≡ put k d old → get_member q new ≡ Some e
found-still q k d e old new other was h =
    ap (get_member q) h ∙ (get_member-put_other q k d old other ∙ was)

-- the names of the two members differ
pub file-is-not-valid : codes "file" ≡ codes "valid" → ⊥
file-is-not-valid e = omega (arith, ap first e)
  where
    first : List ℕ → ℕ
    first [] = 0
    first (x ∷ xs) = x

-- the line of an object says what its members say
pub lined : (made : Result (String Global) AllocError) (members : BTreeMap (String Global) Value)
    (name : List ℕ) (valid : Bool)
    → get_member (codes "file") (members_view members.entries) ≡ Some (string name)
    → get_member (codes "valid") (members_view members.entries) ≡ Some (boolean valid)
    → IfOk made (λ t. IsLineOf members (string_bytes t))
    → IfOk made (λ t. IsLine name valid (string_bytes t))
lined (Ok text) members name valid f e h = record {
  members = members;
  is_line = h;
  file_is = f;
  valid_is = e;
}
lined (Err error) members name valid f e h = tt
