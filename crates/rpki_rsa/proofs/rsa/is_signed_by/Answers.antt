use Rattle.std.proofs.Common.{ℕ, subst}
use Rattle.rpki_rsa.specs.Signature.{IsSignatureOf}
use Rattle.rpki_rsa.proofs.KeyFacts.{one-modulus}
use Rattle.rpki_rsa.proofs.rsa.is_signed_by.Goals as goal

pub returns-in-Some : goal.returns-in-Some
returns-in-Some c = (
  λ t. record {
    n = _;
    key_is = c.in-Some.ensures.is_key;
    signed = c.is_signature.ensures.0 t;
  },
  λ p.
      let same = one-modulus _ _ _ p.key_is c.in-Some.ensures.is_key in
      c.is_signature.ensures.1
      (subst (λ (m : ℕ). IsSignatureOf m c.args.message.now c.args.signature.now) same p.signed),
)
