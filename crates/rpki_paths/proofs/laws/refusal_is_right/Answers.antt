-- Each refusal has its cause.
use Rattle.rpki_paths.proofs.Accepting.{refusal_is_right}
use Rattle.rpki_paths.proofs.laws.refusal_is_right.Goals as goal

pub returns : goal.returns
returns g c =
    refusal_is_right g.X.Candidate.is_good g.X.Candidate.because g.X.Candidate.seen
    g.X.Candidate.of_ca
