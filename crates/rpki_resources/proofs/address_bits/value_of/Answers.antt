use Rattle.std.proofs.Common.{◌+◌, ◌*◌, ◌<◌, ◌^◌, rules, arith}
use Rattle.rpki_resources.proofs.Addresses.Bits.{number-more, small-more, small-fits}
use Rattle.rpki_resources.proofs.address_bits.value_of.Goals as goal

pub overflow_mul-value : goal.overflow_mul-value
overflow_mul-value c =
    let more = small-more c.loop-octet.value 0 c.loop-octet.octet-index c.loop-octet.invariant.small
    (omega arith) in
    let small : c.loop-octet.value * 256 < 2 ^ 128 =
    small-fits (c.loop-octet.value * 256) (c.loop-octet.octet-index + 1) (omega arith)
    (omega arith) in
    search (rules, small)

pub overflow_add-value : goal.overflow_add-value
overflow_add-value c =
    let more = small-more c.loop-octet.value c.from.result c.loop-octet.octet-index
    c.loop-octet.invariant.small (omega arith) in
    let small = small-fits (c.loop-octet.value * 256 + c.from.result)
    (c.loop-octet.octet-index + 1) more (omega arith) in
    search (rules, small)

pub loop-octet-preserved : goal.loop-octet-preserved
loop-octet-preserved c = record {
  value = rw c.from.ensures
      (number-more c.args.octets.now c.loop-octet.octet-index c.loop-octet.value
      c.loop-octet-test.true c.loop-octet.invariant.value);
  small = small-more c.loop-octet.value c.from.result c.loop-octet.octet-index
      c.loop-octet.invariant.small (omega arith);
}
