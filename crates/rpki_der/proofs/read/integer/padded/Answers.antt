use Rattle.std.proofs.Common.{ℕ, Option, Some, ap, sym, arith}
use Rattle.std.proofs.lemmas.Bool.{le-ltb}
use Rattle.rpki_der.specs.Read.Parse.{number_of}
use Rattle.rpki_der.proofs.Reading.Digits.{padded-number}
use Rattle.rpki_der.proofs.read.integer.padded.Goals as goal

pub returns : goal.returns
unfolding number_of
returns c =
    let inv = c.digits.invariant in
    rw (le-ltb _ _ c.if-digits-gt20.false)
    (ap (λ (n : ℕ). (let o : Option ℕ = Some n in o))
    (sym (padded-number _ c.digits.octets c.args.digits.now
    (record {
      len = omega (arith, inv.len, inv.start);
      zeros = inv.zeros;
      same =
          λ k l. inv.same k (omega (arith, c.digits-test.false, l));
    }))))
