use Rattle.std.proofs.Common.{length}
use Rattle.rpki_relying_party_tests.proofs.folder.files.+find.Given as goal

-- the files that are left
abbrev pub decreases-find : goal.decreases-find
decreases-find l = length l.files.now
