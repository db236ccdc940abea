use Rattle.rpki_routes.proofs.Origins.Written.{list-written}
use Rattle.rpki_routes.proofs.roa.builder.addresses.RoaIpAddressesBuilder.encode_ref.Goals as goal

pub returns-clause-written : goal.returns-clause-written
returns-clause-written c = λ family all short. list-written family c.args.self.now all short
