-- What the options ask of objects.
use Rattle.std.specs.Prelude.{not}
use Rattle.rpki_der.specs.declared.mode.Mode.{Mode}
use Rattle.rpki_sigobj.specs.Object.{mode_of}
use Rattle.rpki_cli.specs.declared.words.Options.{Options}

-- The mode that an object is read in: DER, as RFC 6488, section 3, asks, or BER with `--relaxed`:
-- that there is such an option is this project's own rule.
abbrev pub read_mode : Options → Mode
read_mode o = mode_of (not o.relaxed)
