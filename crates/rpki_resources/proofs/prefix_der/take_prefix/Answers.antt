use Rattle.std.proofs.Common.{◌≡◌, false, refl, rules}
use Rattle.std.proofs.Math.Nat.{lt_of_not-le}
use Rattle.std.proofs.lemmas.Bool.{lt-leb}
use Rattle.std.specs.Prelude.{nat_le}
use Rattle.rpki_der.specs.Read.Parse.{tested}
use Rattle.rpki_resources.specs.Family.{max_bits}
use Rattle.rpki_resources.specs.Ip.Form.{bit_count, network}
use Rattle.rpki_resources.specs.Ip.Read.{ip_address_at}
use Rattle.rpki_resources.proofs.prefix_der.take_prefix.Goals as goal

pub returns-clause-reads : goal.returns-clause-reads
unfolding ip_address_at tested
returns-clause-reads c =
    let bits = c.in_ok-bits.bits in
    let more : nat_le (bit_count (bits.octets, bits.unused)) (max_bits c.args.family) ≡ false =
    lt-leb _ _ (lt_of_not-le (λ most.
    c.in-None.ensures (network (c.as_slice.result.now, bits.unused)) (record {
      string = rw c.as_slice.ensures bits.valid;
      most = rw c.as_slice.ensures most;
      same = refl;
    }))) in
    search (rules, more)
