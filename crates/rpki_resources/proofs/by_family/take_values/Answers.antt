use Rattle.rpki_resources.proofs.Families.ByFamily.{entry-takes}
use Rattle.rpki_resources.proofs.by_family.take_values.Goals as goal

pub take_list-requires : goal.take_list-requires
take_list-requires g c = entry-takes g.T.OfFamily.parser
