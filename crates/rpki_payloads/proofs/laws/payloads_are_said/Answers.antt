use Rattle.rpki_payloads.proofs.Once.{origins-once, origins-said, providers-once, providers-said}
use Rattle.rpki_payloads.proofs.laws.payloads_are_said.Goals as goal

pub returns : goal.returns
returns c = record {
  origins = origins-said;
  providers = providers-said;
  origins_once = origins-once;
  providers_once = providers-once;
}
