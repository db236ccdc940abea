-- What the identifier of a signer takes, the signer takes.
use Rattle.std.proofs.Common.{sym, ◌∙◌, subst}
use Rattle.rpki_paths.specs.Index.{IsIndex}
use Rattle.rpki_paths.proofs.Signs.{same-map, key-first}
use Rattle.rpki_paths.proofs.signing.take_key.Goals as goal

pub take_first-requires-clause-index : goal.take_first-requires-clause-index
take_first-requires-clause-index g c =
    subst (λ l. IsIndex l c.args.index.now) (sym (same-map c.args.keys.now)) c.requires.index

pub returns-in-Some-clause-yes : goal.returns-in-Some-clause-yes
returns-in-Some-clause-yes g c = λ yes.
    (let t = c.in-Some.ensures.first in
    let s = c.args.signer.now in (
      t.0,
      key-first c.seeks-sid.result (g.S.CarriedSigner.signer s)
          (c.seeks-sid.ensures ∙ g.met.S.CarriedSigner.seeks_sid s) t.4,
    ))
