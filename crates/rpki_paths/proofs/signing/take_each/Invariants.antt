-- The signers so far have taken, and each cost one verdict.
use Rattle.std.proofs.Common.{◌≡◌, ◌≤◌, ◌+◌, length, map, take}
use Rattle.rpki_paths.specs.Cert.{Cert}
use Rattle.rpki_paths.specs.Heads.{AreAmong}
use Rattle.rpki_paths.specs.Pairing.{Signer}
use Rattle.rpki_paths.specs.Taking.{left_of, AllVerifyEach}
use Rattle.rpki_paths.specs.Signing.{AreSigned}
use Rattle.rpki_paths.proofs.signing.take_each.Given as goal

abbrev pub invariant-loop-i : goal.invariant-loop-i
invariant-loop-i g l =
    (length l.keys_taken ≡ length l.keys) × (length l.ees_taken ≡ length l.ees)
    × AreSigned (map g.S.CarriedSigner.signer (take l.i l.signers)) l.keys
    (map g.C.Certificate.cert l.ees) (map g.C.Certificate.cert l.taken.items)
    (left_of l.keys_taken l.keys)
    (map g.C.Certificate.cert (left_of l.ees_taken l.ees))
    × (AllVerifyEach (λ (s : Signer). s.sid) (λ (e : Cert). e.ski) (λ s e. s.verifies e.key)
    (map g.S.CarriedSigner.signer l.signers) (map g.C.Certificate.cert l.ees) →
    l.asked ≤ l.fn.asked + l.i)
    × AreAmong l.taken.items l.ees
