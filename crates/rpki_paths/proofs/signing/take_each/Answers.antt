-- One signer more takes; where it stops, a signer takes nothing.
use Rattle.std.proofs.Common.{◌≡◌, ◌+◌, ◌++◌, ◌∷◌, [], length, map, take}
use Rattle.std.proofs.Common.{refl, sym, ap, ◌∙◌, arith}
use Rattle.std.proofs.lemmas.Option.{slice_get_read}
use Rattle.std.proofs.lemmas.List.{take_more, map-append}
use Rattle.rpki_paths.specs.Cert.{IsIn}
use Rattle.rpki_paths.specs.Taking.{left_of}
use Rattle.rpki_paths.proofs.Heads.{all-more}
use Rattle.rpki_paths.proofs.Mapping.{in-image}
use Rattle.rpki_paths.proofs.PairingOff.{split-at}
use Rattle.rpki_paths.proofs.Walking.{get-in}
use Rattle.rpki_paths.proofs.Signs.{signed-alike, stops-at}
use Rattle.rpki_paths.proofs.signing.take_each.Goals as goal

pub loop-i-init : goal.loop-i-init
loop-i-init g c = (
  c.requires.keys_many,
  c.requires.ees_many,
  c.requires.start,
  λ each. omega arith,
  c.requires.among,
)

pub loop-i-preserved : goal.loop-i-preserved
loop-i-preserved g c =
    let cert = g.C.Certificate.cert in
    let signer = g.S.CarriedSigner.signer in
    let signers = c.args.signers.now in
    let ees = c.args.ees.now in
    let i = c.loop-i.i in
    let x = c.index-signers-i.result in
    let one_more : map signer (take (i + 1) signers)
    ≡ map signer (take i signers) ++ signer x ∷ [] =
    ap (map signer) (take_more signers i x c.loop-i-test.true
    ∙ ap (λ z. take i signers ++ z ∷ []) (sym c.index-signers-i.is))
    ∙ map-append signer (take i signers) (x ∷ []) in
    let after = c.in-Ok.ensures.signed (map signer (take i signers))
    (map cert c.loop-i.taken.items) c.loop-i.invariant.2 in
    let more : map cert c.append.new.items.items
    ≡ map cert c.loop-i.taken.items ++ cert c.in-Ok.ee ∷ [] =
    ap (map cert) c.in_ok-append-in-Ok.ensures
    ∙ map-append cert c.loop-i.taken.items (c.in-Ok.ee ∷ []) in (
      c.in-Ok.ensures.keys_many ∙ c.loop-i.invariant.0,
      c.in-Ok.ensures.ees_many ∙ c.loop-i.invariant.1,
      signed-alike one_more more refl refl after,
      λ each.
          (let inside = get-in signers i x
          (slice_get_read signers (length signers) i x refl c.loop-i-test.true
          c.index-signers-i.is) in
          let one = c.in-Ok.ensures.cost (each (signer x) (in-image signer signers x inside)) in
          omega (arith, c.loop-i.invariant.3 each, one)),
      all-more (λ e. IsIn e ees) c.loop-i.taken.items c.append.new.items.items c.in-Ok.ee
          c.in_ok-append-in-Ok.ensures c.loop-i.invariant.4 c.in-Ok.ensures.among,
    )

pub returns-in-Err-clause-refused : goal.returns-in-Err-clause-refused
returns-in-Err-clause-refused g c =
    let cert = g.C.Certificate.cert in
    let signer = g.S.CarriedSigner.signer in
    let signers = c.args.signers.now in
    let keys = c.args.keys.now in
    let ees = c.args.ees.now in
    let i = c.loop-i.i in
    let x = c.index-signers-i.result in
    let at_i = slice_get_read signers (length signers) i x refl c.loop-i-test.true
    c.index-signers-i.is in
    let parts = split-at signers i x at_i in
    stops-at (map signer signers) (map signer (take i signers)) (map signer parts.0) (signer x)
    keys (left_of c.loop-i.keys_taken keys) (map cert ees)
    (map cert c.loop-i.taken.items) (map cert (left_of c.loop-i.ees_taken ees))
    c.in-Err.fault c.loop-i.invariant.2
    (ap (map signer) (sym parts.1) ∙ map-append signer (take i signers) (x ∷ parts.0))
    c.in-Err.ensures.refused
