-- What a validation run knows.
use Rattle.std.specs.Prelude.{ℕ, List, Result}
use Rattle.rpki_certs.specs.Verify.{Verdict}
use Rattle.rpki_sigobj.specs.Verify.{Digester}
use Rattle.rpki_relying_party.specs.Setting.{Setting}
use Rattle.rpki_relying_party.specs.declared.copy.NoFile.{NoFile}
use Rattle.rpki_relying_party.specs.declared.pass.Pass.{Pass}

-- what a validation run knows, where it is told what reads of the copy may find, and what
-- cryptography says
abbrev pub setting : {R C : Type 0} → (R → List ℕ → Result (List ℕ) NoFile → Type 0)
    → (C → Digester) → (C → Verdict) → Pass R C → Setting
setting finds digest verdict p = record {
  finds = finds p.copy.now;
  now = p.moment;
  digest = digest p.crypto.now;
  verdict = verdict p.crypto.now;
  providers = p.providers;
}
