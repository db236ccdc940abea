-- What is made and signed is a certificate.
use Rattle.std.proofs.Common.{◌≡◌, ℕ, List, [], ◌∷◌, ◌++◌, refl, sym, arith}
use Rattle.std.proofs.lemmas.List.{append-nil}
use Rattle.rpki_der.specs.declared.mode.Mode.TheVariants.{Der}
use Rattle.rpki_der.specs.Grammar.{OctetsInBits}
use Rattle.rpki_der.specs.Tags.{BIT_STRING, SEQUENCE, context}
use Rattle.rpki_der.specs.Write.Parts.{contents_small, length_parts}
use Rattle.rpki_der.specs.Write.Written.{value_octets, number_octets, bit_string_contents}
use Rattle.rpki_der.proofs.Reading.Scan.{tag-sound}
use Rattle.rpki_der.proofs.Writing.Lengths.{value-written}
use Rattle.rpki_der.proofs.Writing.Values.{number-written}
use Rattle.rpki_der.proofs.Writing.Strings.{bits-whole}
use Rattle.rpki_basics.specs.Algorithm.{cert_algorithm_octets}
use Rattle.rpki_basics.specs.Key.{key_octets, key_contents}
use Rattle.rpki_basics.proofs.Algorithms.Written.{cert-written as algorithm-written}
use Rattle.rpki_basics.proofs.Keys.Written.{key-written}
use Rattle.rpki_basics.specs.Moment.{Period, IsMoment}
use Rattle.rpki_basics.specs.Serial.{serial_octets}
use Rattle.rpki_basics.specs.Time.Form.{time_octets}
use Rattle.rpki_basics.proofs.Serials.Written.{serial-written}
use Rattle.rpki_basics.proofs.Times.Written.{time-written}
use Rattle.rpki_certs.specs.Cert.{Tbs, v3, ValidityForm, TbsForm, CertForm}
use Rattle.rpki_issued.specs.Extensions.{extensions_octets}
use Rattle.rpki_issued.specs.Written.{IsTbsToWrite, version_octets, validity_octets, tbs_contents}
use Rattle.rpki_issued.specs.Written.{tbs_octets, cert_contents, cert_octets, made_certificate}
use Rattle.rpki_issued.proofs.Parts.{Short, short-value}
use Rattle.rpki_issued.proofs.CertExtensions.{extensions-written}

validity-written : (p : Period) → IsMoment p.not_before → IsMoment p.not_after
    → Short (validity_octets p) → ValidityForm Der (validity_octets p) p
validity-written p before after short =
    let a : List ℕ = time_octets p.not_before in
    let b : List ℕ = time_octets p.not_after in (
      a ++ b,
      short-value SEQUENCE (a ++ b) refl short,
      (
        a,
        b,
        refl,
        time-written p.not_before before,
        (b, [], sym (append-nil b), time-written p.not_after after, refl),
      ),
    )

pub tbs-written : (t : Tbs) → IsTbsToWrite t → Short (tbs_octets t)
    → TbsForm Der (tbs_octets t) t
tbs-written t h short =
    let c0 : List ℕ = version_octets in
    let c1 : List ℕ = serial_octets t.serial_number in
    let c2 : List ℕ = cert_algorithm_octets in
    let c3 : List ℕ = t.issuer in
    let c4 : List ℕ = validity_octets t.validity in
    let c5 : List ℕ = t.subject in
    let c6 : List ℕ = key_octets t.key in
    let e : List ℕ = extensions_octets t.extensions in
    let c7 : List ℕ = value_octets (context 3) e in
    let r6 : List ℕ = c6 ++ c7 in
    let r5 : List ℕ = c5 ++ r6 in
    let r4 : List ℕ = c4 ++ r5 in
    let r3 : List ℕ = c3 ++ r4 in
    let r2 : List ℕ = c2 ++ r3 in
    let r1 : List ℕ = c1 ++ r2 in
    let s0 = length_parts c0 r1 (contents_small SEQUENCE (tbs_contents t) short) in
    let s1 = length_parts c1 r2 s0.1 in
    let s2 = length_parts c2 r3 s1.1 in
    let s3 = length_parts c3 r4 s2.1 in
    let s4 = length_parts c4 r5 s3.1 in
    let s5 = length_parts c5 r6 s4.1 in
    let s6 = length_parts c6 c7 s5.1 in
    let few : Short e = contents_small (context 3) e s6.1 in (
      tbs_contents t,
      short-value SEQUENCE (tbs_contents t) refl short,
      (
        c0,
        r1,
        refl,
        (
          number_octets v3,
          short-value (context 0) (number_octets v3) refl s0.0,
          number-written v3 (omega arith),
        ),
        (
          c1,
          r2,
          refl,
          serial-written t.serial_number h.serial_number,
          (
            c2,
            r3,
            refl,
            algorithm-written,
            (
              c3,
              r4,
              refl,
              (refl, h.issuer),
              (
                c4,
                r5,
                refl,
                validity-written t.validity h.not_before h.not_after s4.0,
                (
                  c5,
                  r6,
                  refl,
                  (refl, h.subject),
                  (
                    c6,
                    c7,
                    refl,
                    key-written t.key (contents_small SEQUENCE (key_contents t.key) s6.0),
                    (
                      c7,
                      [],
                      sym (append-nil c7),
                      (
                        e,
                        short-value (context 3) e refl s6.1,
                        extensions-written t.extensions h.extensions few,
                      ),
                      refl,
                    ),
                  ),
                ),
              ),
            ),
          ),
        ),
      ),
    )

pub signature-written : (s : List ℕ) → Short (value_octets BIT_STRING (bit_string_contents s 0))
    → OctetsInBits Der (value_octets BIT_STRING (bit_string_contents s 0)) s
signature-written s short =
    let few : Short (bit_string_contents s 0) =
    contents_small BIT_STRING (bit_string_contents s 0) short in
    let whole : bit_string_contents s 0 ≡ 0 ∷ s = bits-whole s in (
      bit_string_contents s 0,
      short-value BIT_STRING (bit_string_contents s 0) refl short,
      (whole, record { few = omega arith; none = λ _. refl }),
    )

pub cert-written : (t : Tbs) (s : List ℕ) → IsTbsToWrite t → Short (cert_contents t s)
    → CertForm Der (cert_octets t s) (made_certificate t s)
cert-written t s h short =
    let a : List ℕ = tbs_octets t in
    let b : List ℕ = cert_algorithm_octets in
    let c : List ℕ = value_octets BIT_STRING (bit_string_contents s 0) in
    let p = length_parts a (b ++ c) short in
    let q = length_parts b c p.1 in (
      refl,
      (
        cert_contents t s,
        value-written SEQUENCE (cert_contents t s) (tag-sound SEQUENCE refl) short,
        (
          a,
          b ++ c,
          refl,
          (tbs-written t h p.0, refl),
          (
            b,
            c,
            refl,
            algorithm-written,
            (c, [], sym (append-nil c), signature-written s q.1, refl),
          ),
        ),
      ),
    )
