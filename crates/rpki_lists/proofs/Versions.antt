-- The version of a content is read exactly.
use Rattle.std.proofs.Common.{arith}
use Rattle.rpki_der.specs.Tags.{context}
use Rattle.rpki_der.specs.Form.Law.{nothing, is, IsPart}
use Rattle.rpki_der.proofs.Form.Kinds.{this-part}
use Rattle.rpki_der.proofs.Form.Words.{in-tag}
use Rattle.rpki_lists.specs.Version.{VersionForm, version_at}

pub version-part : IsPart (is (context 0)) nothing version_at VersionForm
version-part = in-tag (context 0) (this-part 0 (omega arith))
