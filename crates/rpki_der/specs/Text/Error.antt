-- The texts of what is wrong.
use Rattle.std.specs.Prelude.{ℕ, List, ◌++◌, codes}
use Rattle.rpki_der.specs.declared.error.DecodeError.{DecodeError}
use Rattle.rpki_der.specs.declared.error.DecodeError.TheVariants.{Malformed, Content, Memory}
use Rattle.rpki_der.specs.declared.error.ContentFault.{ContentFault}
use Rattle.rpki_der.specs.declared.error.ContentFault.TheVariants.{InvalidSignedAttr, Text}
use Rattle.rpki_der.specs.declared.encode.EncodeError.{EncodeError}
use Rattle.rpki_der.specs.declared.stream.source.SourceError.{SourceError}
use Rattle.rpki_der.specs.Oid.{oid_text}

-- The text that says what is wrong with a content.
abbrev pub fault_text : ContentFault → List ℕ
fault_text (InvalidSignedAttr attr) = codes "invalid extension " ++ oid_text attr
fault_text (Text text) = text

-- The text that says why octets could not be read.
abbrev pub error_text : DecodeError → List ℕ
error_text Malformed = codes "malformed"
error_text (Content fault) = fault_text fault
error_text Memory = codes "out of memory"

-- The text that says why a value was not written.
abbrev pub encode_error_text : EncodeError → List ℕ
encode_error_text EncodeError.NotDer = codes "not in DER"
encode_error_text EncodeError.TooLong = codes "too long"
encode_error_text EncodeError.Io = codes "write failed"
encode_error_text EncodeError.Memory = codes "out of memory"

-- The text that says why a source was not read to its end.
abbrev pub source_error_text : SourceError → List ℕ
source_error_text SourceError.Io = codes "read failed"
source_error_text SourceError.Memory = codes "out of memory"
