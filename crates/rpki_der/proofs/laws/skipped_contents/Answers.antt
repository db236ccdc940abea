use Rattle.rpki_der.specs.declared.mode.Mode.TheVariants.{Der, Ber}
use Rattle.rpki_der.specs.Grammar.{Skipped}
use Rattle.rpki_der.proofs.Reading.Skips.{skip-all-sound, skip-all-complete}
use Rattle.rpki_der.proofs.Reading.Unique.{items-as, skipped-ber}
use Rattle.rpki_der.proofs.Form.Kinds.{rest-part}
use Rattle.rpki_der.proofs.laws.skipped_contents.Goals as goal

pub returns-clause-exact : goal.returns-clause-exact
returns-clause-exact c =
    λ mode octets bytes. (skip-all-sound mode octets bytes, skip-all-complete mode octets)

pub returns-clause-relaxed : goal.returns-clause-relaxed
returns-clause-relaxed c =
    λ octets l. (
      l.0,
      items-as (λ o _. Skipped Der 32 o) (λ o _. Skipped Ber 32 o)
          (λ o _ k. skipped-ber 32 o k) octets l.0 l.1,
    )

pub returns-clause-part : goal.returns-clause-part
returns-clause-part c = rest-part
