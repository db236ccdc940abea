use Rattle.rpki_files.proofs.Names.Joined.{name_joined}
use Rattle.rpki_files.proofs.laws.joined_names.Goals as goal

pub returns : goal.returns
returns c = name_joined
