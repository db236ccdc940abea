use Rattle.std.proofs.Common.{◌+◌, ℕ, List, Ok, Err, Result, arith, subst, drop}
use Rattle.std.proofs.Common.{get_or}
use Rattle.std.proofs.Common.{string_bytes}
use Rattle.rpki_der.specs.declared.error.DecodeError.{DecodeError}
use Rattle.rpki_certs.specs.Cert.{KeptCertificate}
use Rattle.rpki_verdicts.specs.Lists.{PushesCert}
use Rattle.rpki_verdicts.proofs.Pushing.{GoesOn, begun, one-pushed, one-refused, all-pushed}
use Rattle.rpki_verdicts.proofs.Pushing.{next-left, none-left}
use Rattle.rpki_verdicts.proofs.list.push_chain.Goals as goal

pub loop-octets-init : goal.loop-octets-init
loop-octets-init g c = begun _ _ _ _

pub returns-in-Err : goal.returns-in-Err
returns-in-Err g c =
    let l = c.loop-octets in
    let verdict = g.C.Crypto.is_signed c.args.crypto.now in
    let last = l.issuer.certificate in
    let left = drop (l.octets-index + 1) c.args.chain.now in
    let result : Result KeptCertificate DecodeError = Err c.in-Err.error in
    let file = get_or c.args.chain.now l.octets-index c.octets-item.result in
    let goes = next-left verdict c.args.first.certificate c.args.chain.now
    (string_bytes c.args.text.now) last (string_bytes l.text) c.args.chain.now l.octets-index
    c.octets-item.result c.loop-octets-test.true l.invariant in
    one-refused verdict c.args.first.certificate c.args.chain.now
    (string_bytes c.args.text.now) last file left (string_bytes l.text) goes c.in-Err.error
    (subst (λ (o : List ℕ). PushesCert verdict (λ x. last.tbs.key) o (string_bytes l.text) result
    (string_bytes c.push_issued.new.text)) c.octets-item.is c.in-Err.ensures)

pub loop-octets-preserved : goal.loop-octets-preserved
loop-octets-preserved g c =
    let l = c.loop-octets in
    let verdict = g.C.Crypto.is_signed c.args.crypto.now in
    let last = l.issuer.certificate in
    let left = drop (l.octets-index + 1) c.args.chain.now in
    let result : Result KeptCertificate DecodeError = Ok c.in-Ok.next in
    let file = get_or c.args.chain.now l.octets-index c.octets-item.result in
    let goes = next-left verdict c.args.first.certificate c.args.chain.now
    (string_bytes c.args.text.now) last (string_bytes l.text) c.args.chain.now l.octets-index
    c.octets-item.result c.loop-octets-test.true l.invariant in
    one-pushed verdict c.args.first.certificate c.args.chain.now
    (string_bytes c.args.text.now) last file left (string_bytes l.text) goes c.in-Ok.next
    (string_bytes c.push_issued.new.text)
    (subst (λ (o : List ℕ). PushesCert verdict (λ x. last.tbs.key) o (string_bytes l.text) result
    (string_bytes c.push_issued.new.text)) c.octets-item.is c.in-Ok.ensures)

pub returns : goal.returns
returns g c =
    let l = c.loop-octets in
    let verdict = g.C.Crypto.is_signed c.args.crypto.now in
    all-pushed verdict c.args.first.certificate c.args.chain.now
    (string_bytes c.args.text.now) l.issuer (string_bytes l.text)
    (subst (λ (left : List (List ℕ)). GoesOn verdict c.args.first.certificate
    c.args.chain.now (string_bytes c.args.text.now) l.issuer.certificate left
    (string_bytes l.text))
    (none-left c.args.chain.now l.octets-index
    (λ t. omega (arith, t, c.loop-octets-test.false))) l.invariant)
