-- What is written in three parts.
use Rattle.std.proofs.Common.{List, ℕ, ◌++◌, Option, Result, Ok, Err, OnErr}
use Rattle.std.specs.Io.KnownBytes.{Appends}
use Rattle.rpki_der.proofs.Writing.Taken.{AppendsFront-after}
use Rattle.rpki_der.specs.Write.Sink.{AppendsFront}

pub begun-third : {T E : Type 0} (r : Result T E) (a b c d : Option (List ℕ)) (x y z : List ℕ)
    → Appends a b x → Appends b c y → OnErr r (AppendsFront c d z)
    → OnErr r (AppendsFront a d (x ++ (y ++ z)))
begun-third (Ok t) a b c d x y z h k f = tt
begun-third (Err e) a b c d x y z h k f =
    AppendsFront-after _ _ _ _ _ h (AppendsFront-after _ _ _ _ _ k f)
