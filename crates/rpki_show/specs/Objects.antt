-- What is shown of a signed object, by its kind.
use Rattle.std.specs.Prelude.{ℕ, List}
use Rattle.rpki_sigobj.specs.Signed.{ObjectForm}
use Rattle.rpki_cli.specs.declared.words.Kind.{Kind}
use Rattle.rpki_cli.specs.declared.words.Options.{Options}
use Rattle.rpki_show.specs.Contents.{HasLines}
use Rattle.rpki_show.specs.Kinds.{OfKind, OfKindIn}
use Rattle.rpki_show.specs.Options.{read_mode}
use Rattle.rpki_show.specs.Texts.Object.{object_text, whole_text}
use Rattle.rpki_show.specs.declared.texts.serial.Hexadecimal.TheVariants.{Plain, Octets}

-- The lines of a signed object of a kind at the front of the octets, with these options. Its
-- content is in DER, and the object is too, unless the reading is relaxed.
abbrev pub ObjectLinesOf : Options → Kind → List ℕ → List ℕ → Type 0
ObjectLinesOf options kind = OfKind options kind (λ X asked form text.
    HasLines (ObjectForm asked.type form (read_mode options)) (object_text Plain text))

-- The lines of an object of a kind, with two hexadecimal digits for each octet of a number, and
-- then those of the certificate of the signer.
abbrev pub WholeObjectLinesOf : Options → Kind → List ℕ → List ℕ → Type 0
WholeObjectLinesOf options kind = OfKindIn Octets options kind (λ X asked form text.
    HasLines (ObjectForm asked.type form (read_mode options)) (whole_text text))
