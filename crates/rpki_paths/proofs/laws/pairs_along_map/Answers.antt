-- The law, at each kind of handles.
use Rattle.rpki_paths.specs.Pairing.{IsPair, IsVerifiedBy, HasCrl}
use Rattle.rpki_paths.proofs.Mapping.{pairs_along_map, same-pair}
use Rattle.rpki_paths.proofs.laws.pairs_along_map.Goals as goal

pub returns-clause-ees : goal.returns-clause-ees
returns-clause-ees g c =
    pairs_along_map g.S.CarriedSigner.signer g.C.Certificate.cert
    (IsPair g.S.Seeks.sought g.S.Seeks.held g.S.Seeks.verdict) IsVerifiedBy
    (same-pair g.S.CarriedSigner.signer g.C.Certificate.cert g.S.Seeks.sought g.S.Seeks.held
    g.S.Seeks.verdict (λ s. s.sid) (λ e. e.ski) (λ s e. s.verifies e.key)
    g.met.S.CarriedSigner.seeks_sid g.met.S.CarriedSigner.holds_ski
    g.met.S.CarriedSigner.verdict_is_own)

pub returns-clause-crls : goal.returns-clause-crls
returns-clause-crls g c =
    pairs_along_map g.C.Certificate.cert g.C.CarriedCert.crl
    (IsPair g.C.Seeks.sought g.C.Seeks.held g.C.Seeks.verdict) HasCrl
    (same-pair g.C.Certificate.cert g.C.CarriedCert.crl g.C.Seeks.sought g.C.Seeks.held
    g.C.Seeks.verdict (λ d. d.ski) (λ l. l.aki) (λ d l. l.verifies d.key)
    g.met.C.CarriedCert.seeks_ski g.met.C.CarriedCert.holds_aki
    g.met.C.CarriedCert.verdict_is_crl)
