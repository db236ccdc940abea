use Rattle.std.specs.Prelude.{map}
use Rattle.rpki_files.specs.Manifest.Built.{meant}
use Rattle.rpki_files.specs.Manifest.Taken.{AreTaken}
use Rattle.rpki_files.proofs.manifest.builder.entries.Entries.take.Given as goal

abbrev pub invariant-loop-file : goal.invariant-loop-file
invariant-loop-file g l =
    AreTaken l.rule l.entries (map (meant g.F.AsOctets.meaning g.H.AsOctets.meaning) l.yielded)
