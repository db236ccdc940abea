-- What a relying party with a copy in a folder knows.
use Rattle.std.specs.Prelude.{ℕ, List, Result}
use Rattle.rpki_basics.specs.Moment.{Moment}
use Rattle.rpki_basics.specs.declared.limits.ProviderLimit.{ProviderLimit}
use Rattle.rpki_certs.specs.Verify.{Verdict}
use Rattle.rpki_sigobj.specs.Verify.{Digester}
use Rattle.rpki_relying_party.specs.Folders.{FindsIn}
use Rattle.rpki_relying_party.specs.Setting.{Setting}
use Rattle.rpki_relying_party.specs.declared.copy.NoFile.{NoFile}
use Rattle.rpki_payloads.specs.declared.party.FolderParty.{FolderParty}

-- What a read of a name below the folder may find; what cryptography says; when objects are judged;
-- how many providers a customer may have; and how much work there is at most under a locator.
pub record Party : Type 1 where
  pub finds : List ℕ → Result (List ℕ) NoFile → Type 0
  pub digest : Digester
  pub verdict : Verdict
  pub moment : Moment
  pub providers : ProviderLimit
  pub limit : ℕ

-- what a relying party knows of a pass under the locator with this name
abbrev pub setting_of : Party → List ℕ → Setting
setting_of party name = record {
  finds = FindsIn party.finds name;
  now = party.moment;
  digest = party.digest;
  verdict = party.verdict;
  providers = party.providers;
}

-- what a relying party knows, where this is what its folders find, and what cryptography says
abbrev pub party_of : {F C : Type 0} → (F → List ℕ → List ℕ → Result (List ℕ) NoFile → Type 0)
    → (C → Digester) → (C → Verdict) → FolderParty F C → Party
party_of finds digest verdict p = record {
  finds = finds p.folders.now p.copy.now;
  digest = digest p.crypto.now;
  verdict = verdict p.crypto.now;
  moment = p.moment;
  providers = p.providers;
  limit = p.limit;
}
