-- What a validation run knows besides the locators.
use Rattle.std.specs.Prelude.{◌≤◌, ℕ, List, Result}
use Rattle.rpki_basics.specs.Moment.{Moment, stamp}
use Rattle.rpki_basics.specs.declared.limits.ProviderLimit.{ProviderLimit}
use Rattle.rpki_certs.specs.Verify.{Verdict}
use Rattle.rpki_sigobj.specs.Verify.{Digester}
use Rattle.rpki_relying_party.specs.declared.copy.NoFile.{NoFile}

-- What a read of a URI in the copy may find, octets or why there is no file; the moment;
-- cryptography; and how many providers an ASPA may have.
pub record Setting : Type 1 where
  pub finds : List ℕ → Result (List ℕ) NoFile → Type 0
  pub now : Moment
  pub digest : Digester
  pub verdict : Verdict
  pub providers : ProviderLimit

-- The moment lies between these two, or is one of them.
abbrev pub IsWithin : Moment → Moment → Moment → Type 0
IsWithin this next now = (stamp this ≤ stamp now) × (stamp now ≤ stamp next)
