use Rattle.std.proofs.Common.{◌≤◌, length, rules}
use Rattle.rpki_lists.proofs.Known.{two-octets, short}
use Rattle.rpki_lists.proofs.slice.known_value.Goals as goal

pub bounds-octets-1 : goal.bounds-octets-1
bounds-octets-1 c =
    let h : 2 ≤ length c.args.octets.now =
    two-octets c.args.tag.octet c.args.octets.now c.requires in search rules

pub after_header-requires : goal.after_header-requires
after_header-requires c = two-octets c.args.tag.octet c.args.octets.now c.requires

pub split_at-requires : goal.split_at-requires
split_at-requires c =
    rw c.after_header.ensures
    (short c.args.tag.octet c.args.octets.now c.requires c.if-len-lt128.true).room

pub returns-then-len-lt128 : goal.returns-then-len-lt128
returns-then-len-lt128 c =
    rw (c.split_at.ensures.front, c.split_at.ensures.back, c.after_header.ensures)
    (short c.args.tag.octet c.args.octets.now c.requires c.if-len-lt128.true).is
