use Rattle.rpki_routes.proofs.Origins.Signed.{claims-told, told-ipv4}
use Rattle.rpki_routes.proofs.roa.builder.RoaBuilder.claiming.Goals as goal

pub returns-in-Ok-clause-claims : goal.returns-in-Ok-clause-claims
returns-in-Ok-clause-claims c =
    claims-told c.args.self.now c.args.builder c.claiming.result c.in-Ok.claims.v4 c.in-Ok.claims.v6
    c.claiming.ensures c.in-Ok.ensures.v4 c.in-Ok.ensures.v6

pub returns-in-Ok-clause-ipv4 : goal.returns-in-Ok-clause-ipv4
returns-in-Ok-clause-ipv4 c =
    told-ipv4 c.args.self.now c.args.builder c.claiming.result c.requires
    (claims-told c.args.self.now c.args.builder c.claiming.result c.in-Ok.claims.v4
    c.in-Ok.claims.v6 c.claiming.ensures c.in-Ok.ensures.v4 c.in-Ok.ensures.v6)
