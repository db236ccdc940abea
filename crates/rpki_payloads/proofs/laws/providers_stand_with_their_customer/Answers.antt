use Rattle.rpki_payloads.proofs.Gathered.{all-in-groups, customers-once, of-one-customer}
use Rattle.rpki_payloads.proofs.laws.providers_stand_with_their_customer.Goals as goal

pub returns : goal.returns
returns c = record {
  all = all-in-groups;
  one = of-one-customer;
  once = λ exceptions found rows h. customers-once rows h.ascending;
}
