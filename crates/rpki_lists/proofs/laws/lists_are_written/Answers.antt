use Rattle.std.proofs.Common.{refl}
use Rattle.std.specs.List.{flat_map}
use Rattle.rpki_der.specs.declared.mode.Mode.TheVariants.{Der}
use Rattle.rpki_der.specs.Grammar.{Items}
use Rattle.rpki_der.proofs.Reading.Scan.{tag-sound}
use Rattle.rpki_der.proofs.Writing.Leaves.{within-written, within-only, items-written, items-unique}
use Rattle.rpki_lists.proofs.laws.lists_are_written.Goals as goal

pub returns-clause-written : goal.returns-clause-written
returns-clause-written g c = λ octets entries each short.
    within-written 48 (λ o. Items (g.T.Part.form Der) o entries) (flat_map octets entries)
    (tag-sound 48 refl) short (items-written (g.T.Part.form Der) octets entries each)

pub returns-clause-only : goal.returns-clause-only
returns-clause-only g c = λ octets one o entries bytes h.
    within-only 48 (λ c. Items (g.T.Part.form Der) c entries) o (flat_map octets entries) bytes
    (λ c inner is. items-unique (g.T.Part.form Der) octets one c entries inner is) h
