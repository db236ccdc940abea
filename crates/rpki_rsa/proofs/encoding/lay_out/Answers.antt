use Rattle.std.proofs.Common.{rules, ◌≡◌, ◌-◌, length, ◌∙◌, arith}
use Rattle.rpki_rsa.proofs.EncodedParts.{encoded-from}
use Rattle.rpki_rsa.proofs.encoding.lay_out.Goals as goal

pub returns : goal.returns
returns c =
    let k = length c.args.octets.now in
    let len : length c.digest-digest.result ≡ 32 = search rules in
    let long : length c.pad.new.octets ≡ k - 52 =
    omega (
      arith,
      len,
      c.split_at_mut-front.ensures.front_len,
      c.split_at_mut-padded.ensures.front_len,
    ) in
    encoded-from k _ c.args.message.now _ _ _ long c.pad.ensures
    c.copy_from_slice-2.ensures.after
    (c.copy_from_slice.ensures.after ∙ c.digest-digest.ensures)
