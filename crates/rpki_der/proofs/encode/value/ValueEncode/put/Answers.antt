use Rattle.std.proofs.Common.{◌≡◌, length}
use Rattle.std.proofs.lemmas.Result.{err_from_is_err_and, on_err_weaker}
use Rattle.rpki_der.proofs.Writing.Lengths.{contents_left}
use Rattle.rpki_der.proofs.Writing.Taken.{AppendsFront-more, AppendsFront-after}
use Rattle.rpki_der.proofs.encode.value.ValueEncode.put.Goals as goal

pub returns-in_err-put_header-clause-begun : goal.returns-in_err-put_header-clause-begun
returns-in_err-put_header-clause-begun g c =
    let p = err_from_is_err_and c.from_residual.result c.from_residual.ensures.1 in
    let len : c.contents_len-n.result ≡ length (g.T.Encode.octets c.args.self.now.contents) =
    c.contents_len-n.ensures _ c.requires.short
    (contents_left c.args.self.now.tag.octet _ c.args.len c.requires.len) in
    rw p.1 (AppendsFront-more _ _ _ _ (rw len at c.in_err-put_header.ensures.begun))

pub returns-clause-begun : goal.returns-clause-begun
returns-clause-begun g c =
    let len : c.contents_len-n.result ≡ length (g.T.Encode.octets c.args.self.now.contents) =
    c.contents_len-n.ensures _ c.requires.short
    (contents_left c.args.self.now.tag.octet _ c.args.len c.requires.len) in
    on_err_weaker c.put.result
    (λ h. AppendsFront-after _ _ _ _ _ (rw len at c.in_ok-put_header.ensures.ok) h)
    c.put.ensures.begun
