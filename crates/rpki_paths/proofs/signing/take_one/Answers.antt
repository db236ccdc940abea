-- One signer more has taken a key and a certificate.
use Rattle.std.proofs.Common.{map, sym, ◌∙◌}
use Rattle.std.proofs.lemmas.Bool.{true≢false}
use Rattle.rpki_paths.specs.Pairing.{HasKey}
use Rattle.rpki_paths.specs.Taking.{left_of}
use Rattle.rpki_paths.proofs.Signs.{fits-some, signed-more}
use Rattle.rpki_paths.proofs.signing.take_one.Goals as goal

pub returns-in-Some-clause-signed : goal.returns-in-Some-clause-signed
returns-in-Some-clause-signed g c = λ done taken w.
    (let cert = g.C.Certificate.cert in
    let keys = c.args.keys.now in
    let ees = c.args.ees.now in
    let k = c.take_key.ensures.yes c.if-not-take_key.false in
    signed-more done keys (left_of c.args.keys_taken.now keys)
    (left_of c.take_key.new.taken keys) (map cert ees) taken
    (map cert (left_of c.args.ees_taken.now ees)) (map cert (left_of c.take_cert.new.taken ees))
    (g.S.CarriedSigner.signer c.args.signer.now) k.0 (cert c.in-Some.ee) w k.1
    (sym c.has_digest.ensures ∙ c.if-not-has_digest.false) c.in-Some.ensures.some)

pub returns-then-not-has_digest-clause-refused : goal.returns-then-not-has_digest-clause-refused
returns-then-not-has_digest-clause-refused g c =
    let k = c.take_key.ensures.yes c.if-not-take_key.false in (
      fits-some (HasKey (g.S.CarriedSigner.signer c.args.signer.now)) k.1,
      λ yes. true≢false (sym yes ∙ sym c.has_digest.ensures ∙ c.if-not-has_digest.true),
    )

pub returns-in-None-clause-refused : goal.returns-in-None-clause-refused
returns-in-None-clause-refused g c =
    let k = c.take_key.ensures.yes c.if-not-take_key.false in (
      fits-some (HasKey (g.S.CarriedSigner.signer c.args.signer.now)) k.1,
      sym c.has_digest.ensures ∙ c.if-not-has_digest.false,
      c.in-None.ensures.none,
    )
