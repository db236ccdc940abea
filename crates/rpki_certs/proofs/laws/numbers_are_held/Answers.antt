use Rattle.rpki_certs.proofs.laws.numbers_are_held.Goals as goal

pub returns : goal.returns
returns c = λ x issuer sets allowed valid. record {
  as_numbers = c.validated_is_held.ensures x.policy x.as_numbers issuer.as_numbers
      sets.as_numbers allowed.as_numbers valid.as_numbers;
  v4 = c.validated_is_held-2.ensures x.policy x.addresses.v4 issuer.v4 sets.v4 allowed.v4
      valid.v4;
  v6 = c.validated_is_held-2.ensures x.policy x.addresses.v6 issuer.v6 sets.v6 allowed.v6
      valid.v6;
}
