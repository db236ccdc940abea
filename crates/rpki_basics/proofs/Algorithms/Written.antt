-- What is written of an algorithm is in its form.
use Rattle.rpki_der.specs.Tags.{NULL, OBJECT_IDENTIFIER, SEQUENCE}
use Rattle.std.proofs.Common.{ℕ, ◌<◌, ◌^◌, List, [], ◌++◌, length, Some, None, refl, sym, arith}
use Rattle.std.proofs.Common.{length-append}
use Rattle.std.proofs.lemmas.List.{append-nil}
use Rattle.rpki_der.specs.declared.mode.Mode.TheVariants.{Der}
use Rattle.rpki_der.specs.Grammar.{ObjectIdentifier, Null}
use Rattle.rpki_der.specs.Oid.{IsOid}
use Rattle.rpki_der.specs.Write.Written.{value_octets, length_value_octets_le}
use Rattle.rpki_der.proofs.Reading.Scan.{tag-sound}
use Rattle.rpki_der.proofs.Writing.Lengths.{value-written}
use Rattle.rpki_basics.specs.Algorithm.{AlgorithmForm, algorithm_alone, algorithm_and_null, sha_256}
use Rattle.rpki_basics.specs.Algorithm.{rsa_encryption, sha256_with_rsa}

pub oid-written : (oid : List ℕ) → IsOid oid → length oid < 100
    → ObjectIdentifier Der (value_octets OBJECT_IDENTIFIER oid) oid
oid-written oid is h = (
  oid,
  value-written OBJECT_IDENTIFIER oid (tag-sound OBJECT_IDENTIFIER refl) (omega (arith, h)),
  (refl, is),
)

null-written : Null Der (value_octets NULL [])
null-written = ([], value-written NULL [] (tag-sound NULL refl) (omega arith), refl)

pub alone-written : (oid : List ℕ) → IsOid oid → length oid < 100
    → AlgorithmForm Der (algorithm_alone oid) oid
alone-written oid is h =
    let c : List ℕ = value_octets OBJECT_IDENTIFIER oid in
    let small : length (value_octets OBJECT_IDENTIFIER oid) < 2 ^ 32 =
    omega (arith, h, length_value_octets_le OBJECT_IDENTIFIER oid) in (
      c,
      value-written SEQUENCE c (tag-sound SEQUENCE refl) small,
      (
        c,
        [],
        sym (append-nil c),
        oid-written oid is h,
        ([], [], refl, (None, refl), refl),
      ),
    )

pub null-too : (oid : List ℕ) → IsOid oid → length oid < 100
    → AlgorithmForm Der (algorithm_and_null oid) oid
null-too oid is h =
    let a : List ℕ = value_octets OBJECT_IDENTIFIER oid in
    let b : List ℕ = value_octets NULL [] in
    let small : length (value_octets OBJECT_IDENTIFIER oid ++ value_octets NULL []) < 2 ^ 32 =
    omega (
      arith,
      h,
      length_value_octets_le OBJECT_IDENTIFIER oid,
      length_value_octets_le NULL [],
      length-append (value_octets OBJECT_IDENTIFIER oid) (value_octets NULL []),
    ) in (
      a ++ b,
      value-written SEQUENCE (a ++ b) (tag-sound SEQUENCE refl) small,
      (
        a,
        b,
        refl,
        oid-written oid is h,
        (b, [], sym (append-nil b), (Some tt, null-written), refl),
      ),
    )

-- ---- the three algorithms

pub digest-written : AlgorithmForm Der (algorithm_alone sha_256) sha_256
digest-written = alone-written sha_256 (omega arith, omega arith) (omega arith)

pub rsa-written : AlgorithmForm Der (algorithm_and_null rsa_encryption) rsa_encryption
rsa-written = null-too rsa_encryption (omega arith, omega arith) (omega arith)

pub cert-written : AlgorithmForm Der (algorithm_and_null sha256_with_rsa) sha256_with_rsa
cert-written = null-too sha256_with_rsa (omega arith, omega arith) (omega arith)
