use Rattle.std.proofs.Common.{OnOk, Ok, Err, Result, refl, rules}
use Rattle.rpki_payloads.specs.Formats.{payloads_in}
use Rattle.rpki_payloads.proofs.formats.push_payloads.Goals as goal

then-ok : {X E P Q : Type 0} (r : Result X E) → (P → Q) → OnOk r P → OnOk r Q
then-ok (Ok x) f h = f h
then-ok (Err e) f h = tt

pub returns : goal.returns
returns c = then-ok c.push_rows.result (λ e. (
  payloads_in c.args.format c.args.moment c.args.found.now c.in_ok-origins.origins.items
      c.in_ok-providers.providers.items,
  e,
  record {
    origins = c.in_ok-origins.origins.items;
    providers = c.in_ok-providers.providers.items;
    are_origins = c.in_ok-origins.ensures;
    are_providers = c.in_ok-providers.ensures;
    is = refl;
  },
)) (search rules)
