-- At the start nothing is taken.
use Rattle.std.proofs.Common.{length, map, ap, ◌∙◌}
use Rattle.std.proofs.lemmas.List.{length-replicate}
use Rattle.rpki_paths.specs.Cert.{IsIn}
use Rattle.rpki_paths.specs.Taking.{left_of}
use Rattle.rpki_paths.proofs.Heads.{all-none}
use Rattle.rpki_paths.proofs.PairingOff.{left-all}
use Rattle.rpki_paths.proofs.Signs.{signed-start}
use Rattle.rpki_paths.proofs.signing.take_signers.Goals as goal

pub take_each-requires-clause-keys_many : goal.take_each-requires-clause-keys_many
take_each-requires-clause-keys_many g c =
    ap length (c.deref_mut.ensures.value
    ∙ c.in_ok-keys_taken.ensures.items_if_clones_equal (λ y e. e))
    ∙ length-replicate (length c.args.keys.now) _

pub take_each-requires-clause-ees_many : goal.take_each-requires-clause-ees_many
take_each-requires-clause-ees_many g c =
    ap length (c.deref_mut-2.ensures.value
    ∙ c.in_ok-ees_taken.ensures.items_if_clones_equal (λ y e. e))
    ∙ length-replicate (length c.args.ees.now) _

pub take_each-requires-clause-start : goal.take_each-requires-clause-start
take_each-requires-clause-start g c =
    let cert = g.C.Certificate.cert in
    let keys = c.args.keys.now in
    let ees = c.args.ees.now in
    let no_keys = c.deref_mut.ensures.value
    ∙ c.in_ok-keys_taken.ensures.items_if_clones_equal (λ y e. e) in
    let no_ees = c.deref_mut-2.ensures.value
    ∙ c.in_ok-ees_taken.ensures.items_if_clones_equal (λ y e. e) in
    signed-start keys (left_of c.deref_mut.result.now keys) (map cert ees)
    (map cert c.new-taken.result.items) (map cert (left_of c.deref_mut-2.result.now ees))
    (ap (λ m. left_of m keys) no_keys ∙ left-all keys)
    (ap (map cert) (ap (λ m. left_of m ees) no_ees ∙ left-all ees))
    (ap (map cert) c.new-taken.ensures.items)

pub take_each-requires-clause-among : goal.take_each-requires-clause-among
take_each-requires-clause-among g c =
    all-none (λ e. IsIn e c.args.ees.now) c.new-taken.result.items c.new-taken.ensures.items
