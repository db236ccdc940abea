-- The texts of what goes wrong.
use Rattle.std.specs.Prelude.{ℕ, List, codes}
use Rattle.rpki_attributes.specs.declared.fault.AttrsFault.{AttrsFault}
use Rattle.rpki_attributes.specs.declared.fault.AttrsFault.TheVariants.{AttrsTooLong, Memory}

-- The text that says why signed attributes are not made.
abbrev pub fault_text : AttrsFault → List ℕ
fault_text AttrsTooLong = codes "signed attributes too long"
fault_text Memory = codes "out of memory"
