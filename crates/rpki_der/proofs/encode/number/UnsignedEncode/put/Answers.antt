use Rattle.std.proofs.Common.{List, ℕ, sym, subst, arith}
use Rattle.std.specs.Prelude.{OnOk, OnErr}
use Rattle.std.specs.Io.KnownBytes.{Appends}
use Rattle.rpki_der.specs.Write.Sink.{AppendsFront}
use Rattle.rpki_der.proofs.Writing.Numbers.{one_octet, two_octets, three_octets, four_octets}
use Rattle.rpki_der.proofs.Writing.Numbers.{five_octets}
use Rattle.rpki_der.proofs.encode.number.UnsignedEncode.put.Goals as goal

pub returns-in-0-to-127-clause-ok : goal.returns-in-0-to-127-clause-ok
returns-in-0-to-127-clause-ok g c =
    subst (λ (o : List ℕ). OnOk c.take_all.result
    (Appends (g.W.Sink.taken c.args.out.now) (g.W.Sink.taken c.take_all.new.self) o))
    (sym (one_octet c.args.self.now.0 (omega (arith, c.in-0-to-127))))
    (rw (c.to_be_bytes.ensures, c.from-n.ensures) at c.take_all.ensures.ok)

pub returns-in-0-to-127-clause-begun : goal.returns-in-0-to-127-clause-begun
returns-in-0-to-127-clause-begun g c =
    subst (λ (o : List ℕ). OnErr c.take_all.result
    (AppendsFront (g.W.Sink.taken c.args.out.now) (g.W.Sink.taken c.take_all.new.self) o))
    (sym (one_octet c.args.self.now.0 (omega (arith, c.in-0-to-127))))
    (rw (c.to_be_bytes.ensures, c.from-n.ensures) at c.take_all.ensures.begun)

pub returns-in-128-to-32767-clause-ok : goal.returns-in-128-to-32767-clause-ok
returns-in-128-to-32767-clause-ok g c =
    subst (λ (o : List ℕ). OnOk c.take_all-in-128-to-32767.result
    (Appends (g.W.Sink.taken c.args.out.now)
    (g.W.Sink.taken c.take_all-in-128-to-32767.new.self) o))
    (sym (two_octets c.args.self.now.0 (omega (arith, c.in-128-to-32767))
    (omega (arith, c.in-128-to-32767))))
    (rw (c.to_be_bytes-in-128-to-32767.ensures, c.from-n.ensures)
    at c.take_all-in-128-to-32767.ensures.ok)

pub returns-in-128-to-32767-clause-begun : goal.returns-in-128-to-32767-clause-begun
returns-in-128-to-32767-clause-begun g c =
    subst (λ (o : List ℕ). OnErr c.take_all-in-128-to-32767.result
    (AppendsFront (g.W.Sink.taken c.args.out.now)
    (g.W.Sink.taken c.take_all-in-128-to-32767.new.self) o))
    (sym (two_octets c.args.self.now.0 (omega (arith, c.in-128-to-32767))
    (omega (arith, c.in-128-to-32767))))
    (rw (c.to_be_bytes-in-128-to-32767.ensures, c.from-n.ensures)
    at c.take_all-in-128-to-32767.ensures.begun)

pub returns-in-32768-to-8388607-clause-ok : goal.returns-in-32768-to-8388607-clause-ok
returns-in-32768-to-8388607-clause-ok g c =
    subst (λ (o : List ℕ). OnOk c.take_all-in-32768-to-8388607.result
    (Appends (g.W.Sink.taken c.args.out.now)
    (g.W.Sink.taken c.take_all-in-32768-to-8388607.new.self) o))
    (sym (three_octets c.args.self.now.0 (omega (arith, c.in-32768-to-8388607))
    (omega (arith, c.in-32768-to-8388607))))
    (rw (c.to_be_bytes-in-32768-to-8388607.ensures, c.from-n.ensures)
    at c.take_all-in-32768-to-8388607.ensures.ok)

pub returns-in-32768-to-8388607-clause-begun : goal.returns-in-32768-to-8388607-clause-begun
returns-in-32768-to-8388607-clause-begun g c =
    subst (λ (o : List ℕ). OnErr c.take_all-in-32768-to-8388607.result
    (AppendsFront (g.W.Sink.taken c.args.out.now)
    (g.W.Sink.taken c.take_all-in-32768-to-8388607.new.self) o))
    (sym (three_octets c.args.self.now.0 (omega (arith, c.in-32768-to-8388607))
    (omega (arith, c.in-32768-to-8388607))))
    (rw (c.to_be_bytes-in-32768-to-8388607.ensures, c.from-n.ensures)
    at c.take_all-in-32768-to-8388607.ensures.begun)

pub returns-in-8388608-to-2147483647-clause-ok : goal.returns-in-8388608-to-2147483647-clause-ok
returns-in-8388608-to-2147483647-clause-ok g c =
    subst (λ (o : List ℕ). OnOk c.take_all-in-8388608-to-2147483647.result
    (Appends (g.W.Sink.taken c.args.out.now)
    (g.W.Sink.taken c.take_all-in-8388608-to-2147483647.new.self) o))
    (sym (four_octets c.args.self.now.0 (omega (arith, c.in-8388608-to-2147483647))
    (omega (arith, c.in-8388608-to-2147483647))))
    (rw (c.to_be_bytes-in-8388608-to-2147483647.ensures, c.from-n.ensures)
    at c.take_all-in-8388608-to-2147483647.ensures.ok)

pub returns-in-8388608-to-2147483647-clause-begun :
    goal.returns-in-8388608-to-2147483647-clause-begun
returns-in-8388608-to-2147483647-clause-begun g c =
    subst (λ (o : List ℕ). OnErr c.take_all-in-8388608-to-2147483647.result
    (AppendsFront (g.W.Sink.taken c.args.out.now)
    (g.W.Sink.taken c.take_all-in-8388608-to-2147483647.new.self) o))
    (sym (four_octets c.args.self.now.0 (omega (arith, c.in-8388608-to-2147483647))
    (omega (arith, c.in-8388608-to-2147483647))))
    (rw (c.to_be_bytes-in-8388608-to-2147483647.ensures, c.from-n.ensures)
    at c.take_all-in-8388608-to-2147483647.ensures.begun)

pub returns-in_default-clause-ok : goal.returns-in_default-clause-ok
returns-in_default-clause-ok g c =
    subst (λ (o : List ℕ). OnOk c.take_all-in_default.result
    (Appends (g.W.Sink.taken c.args.out.now) (g.W.Sink.taken c.take_all-in_default.new.self) o))
    (sym (five_octets c.args.self.now.0 (omega (arith, c.in_default))
    (omega (arith, c.in_default))))
    (rw (c.to_be_bytes-in_default.ensures, c.from-n.ensures)
    at c.take_all-in_default.ensures.ok)

pub returns-in_default-clause-begun : goal.returns-in_default-clause-begun
returns-in_default-clause-begun g c =
    subst (λ (o : List ℕ). OnErr c.take_all-in_default.result
    (AppendsFront (g.W.Sink.taken c.args.out.now)
    (g.W.Sink.taken c.take_all-in_default.new.self) o))
    (sym (five_octets c.args.self.now.0 (omega (arith, c.in_default))
    (omega (arith, c.in_default))))
    (rw (c.to_be_bytes-in_default.ensures, c.from-n.ensures)
    at c.take_all-in_default.ensures.begun)
