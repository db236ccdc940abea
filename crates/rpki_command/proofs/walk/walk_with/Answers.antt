use Rattle.std.proofs.Common.{ℕ, List, Ok, Err, subst}
use Rattle.rpki_certs.specs.Issuer.{MakesIssuer}
use Rattle.rpki_signed.specs.Walk.{AtHand}
use Rattle.rpki_cli.specs.Answer.{said}
use Rattle.rpki_command.specs.Walk.{WalkedUnder}
use Rattle.rpki_command.proofs.walk.walk_with.Goals as goal

pub returns-in-Err : goal.returns-in-Err
returns-in-Err g c = (
  Err c.in-Err.error,
  subst (λ (chain : List (List ℕ)). MakesIssuer (g.K.Crypto.is_signed c.args.crypto.now) c.args.now
      c.args.anchor.now chain (Err c.in-Err.error)) c.cut_others-hand.ensures.certs
      c.in-Err.ensures,
  c.refused_issuer.ensures,
)

pub returns-in-Ok : goal.returns-in-Ok
returns-in-Ok g c = (
  Ok c.in-Ok.issuer,
  subst (λ (chain : List (List ℕ)). MakesIssuer (g.K.Crypto.is_signed c.args.crypto.now) c.args.now
      c.args.anchor.now chain (Ok c.in-Ok.issuer)) c.cut_others-hand.ensures.certs
      c.in-Ok.ensures,
  subst (λ (hand : List AtHand). WalkedUnder c.args.options
      (g.K.Crypto.digest_of c.args.crypto.now) (g.K.Crypto.is_signed c.args.crypto.now)
      c.in-Ok.issuer c.args.now hand c.args.object.now (said c.walk_under-answer.result))
      c.cut_others-hand.ensures.hand c.walk_under-answer.ensures,
)
