-- What a signer's calls answer.
use Rattle.std.specs.Prelude.{◌≡◌, ◌<◌, ℕ, List, Option, Some, Result, Ok, Err, codes}
use Rattle.rpki_basics.specs.declared.signer.SignerFault.{SignerFault}
use Rattle.rpki_basics.specs.declared.signer.SignerFault.TheVariants.{KeyNotFound, IncompatibleKey}
use Rattle.rpki_basics.specs.declared.signer.SignerFault.TheVariants.{Signer, Memory}

-- The text of a fault, where own are the texts of a signer's own faults.
abbrev pub fault_text : {E : Type 0} → (E → Option (List ℕ)) → SignerFault E → Option (List ℕ)
fault_text own KeyNotFound = Some (codes "key not found")
fault_text own IncompatibleKey = Some (codes "incompatible key")
fault_text own (Signer e) = own e
fault_text own Memory = Some (codes "out of memory")

-- Each fault but want of memory raises the count of failed calls, and nothing else does.
abbrev pub CountsFault : {T E : Type 0} → ℕ → ℕ → Result T (SignerFault E) → Type 0
CountsFault old new (Ok t) = new ≡ old
CountsFault old new (Err KeyNotFound) = old < new
CountsFault old new (Err IncompatibleKey) = old < new
CountsFault old new (Err (Signer e)) = old < new
CountsFault old new (Err Memory) = new ≡ old
