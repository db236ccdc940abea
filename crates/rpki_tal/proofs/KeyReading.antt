-- What the decoder of a key tells.
use Rattle.std.proofs.Common.{◌≡◌, ℕ, List, Result, Ok, Err, IfOk, sym, ◌∙◌}
use Rattle.rpki_der.specs.declared.mode.Mode.TheVariants.{Der}
use Rattle.rpki_der.specs.declared.error.DecodeError.{DecodeError}
use Rattle.rpki_der.specs.declared.error.DecodeError.TheVariants.{Malformed, Content, Memory}
use Rattle.rpki_der.specs.Grammar.{Front}
use Rattle.rpki_der.specs.Form.Decodes.{Decodes}
use Rattle.rpki_der.specs.Read.Reads.{OkOrMemory}
use Rattle.rpki_der.proofs.Form.Words.{part-unique}
use Rattle.rpki_basics.specs.Key.{KeyForm}
use Rattle.rpki_basics.proofs.Keys.Parts.{key-part}

pub decodes_key : (octets : List ℕ) (result : Result (List ℕ) DecodeError)
    → IfOk result (λ k. (rest : List ℕ) × Front (KeyForm Der) octets k rest)
    → ((k : List ℕ) (rest : List ℕ) → Front (KeyForm Der) octets k rest
    → OkOrMemory result (λ read. read ≡ k))
    → Decodes {T = List ℕ} (KeyForm Der) (λ key. key) octets result
decodes_key octets (Ok k) found accepted = (
  found.0,
  record {
    found = found.1;
    only = λ l other g. let same = part-unique key-part Der g.0 found.1.0 l k other found.0 g.2
        found.1.2 (sym g.1 ∙ found.1.1) in (same.1, same.2);
  },
)
decodes_key octets (Err Malformed) found accepted = λ k rest f.
    let e : Malformed ≡ Memory = accepted k rest f in absurd (cc e)
decodes_key octets (Err (Content c)) found accepted = λ k rest f.
    let e : Content c ≡ Memory = accepted k rest f in absurd (cc e)
decodes_key octets (Err Memory) found accepted = tt
