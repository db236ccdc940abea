-- What is made and signed is a revocation list.
use Rattle.std.proofs.Common.{◌≡◌, ℕ, List, [], ◌++◌, refl, sym, arith}
use Rattle.std.proofs.lemmas.List.{append-nil}
use Rattle.rpki_der.specs.declared.mode.Mode.TheVariants.{Der}
use Rattle.rpki_der.specs.Tags.{BIT_STRING, SEQUENCE, context}
use Rattle.rpki_der.specs.Write.Parts.{contents_small, length_parts}
use Rattle.rpki_der.specs.Write.Written.{value_octets, number_octets, bit_string_contents}
use Rattle.rpki_der.proofs.Reading.Scan.{tag-sound}
use Rattle.rpki_der.proofs.Writing.Lengths.{value-written}
use Rattle.rpki_der.proofs.Writing.Values.{number-written}
use Rattle.rpki_basics.specs.Algorithm.{cert_algorithm_octets}
use Rattle.rpki_basics.specs.Name.{IsName}
use Rattle.rpki_basics.specs.Time.Form.{time_octets}
use Rattle.rpki_basics.proofs.Algorithms.Written.{cert-written as algorithm-written}
use Rattle.rpki_basics.proofs.Times.Written.{time-written}
use Rattle.rpki_crls.specs.Crl.{TbsForm, CrlForm, v2}
use Rattle.rpki_issued.proofs.Parts.{Short, short-value}
use Rattle.rpki_issued.proofs.Written.{signature-written}
use Rattle.rpki_issued_crls.specs.Lists.{UnsignedList, IsToWrite, revoked_octets}
use Rattle.rpki_issued_crls.specs.Lists.{extensions_octets, tbs_contents, tbs_octets, tbs_of}
use Rattle.rpki_issued_crls.specs.Lists.{crl_contents, crl_octets, made_list}
use Rattle.rpki_issued_crls.proofs.ListExtensions.{extensions-written}
use Rattle.rpki_issued_crls.proofs.Revoked.{revoked-written}

tbs-written : (u : UnsignedList) (issuer : List ℕ) → IsToWrite u → IsName Der issuer
    → Short (tbs_octets u issuer) → TbsForm Der (tbs_octets u issuer) (tbs_of u issuer)
tbs-written u issuer h name short =
    let c0 : List ℕ = number_octets v2 in
    let c1 : List ℕ = cert_algorithm_octets in
    let c3 : List ℕ = time_octets u.this_update in
    let c4 : List ℕ = time_octets u.next_update in
    let c5 : List ℕ = revoked_octets u.revoked in
    let e : List ℕ = extensions_octets u.extensions in
    let c6 : List ℕ = value_octets (context 0) e in
    let r5 : List ℕ = c5 ++ c6 in
    let r4 : List ℕ = c4 ++ r5 in
    let r3 : List ℕ = c3 ++ r4 in
    let r2 : List ℕ = issuer ++ r3 in
    let r1 : List ℕ = c1 ++ r2 in
    let s0 = length_parts c0 r1 (contents_small SEQUENCE (tbs_contents u issuer) short) in
    let s1 = length_parts c1 r2 s0.1 in
    let s2 = length_parts issuer r3 s1.1 in
    let s3 = length_parts c3 r4 s2.1 in
    let s4 = length_parts c4 r5 s3.1 in
    let s5 = length_parts c5 c6 s4.1 in (
      tbs_contents u issuer,
      short-value SEQUENCE (tbs_contents u issuer) refl short,
      (
        c0,
        r1,
        refl,
        number-written v2 (omega arith),
        (
          c1,
          r2,
          refl,
          algorithm-written,
          (
            issuer,
            r3,
            refl,
            (refl, name),
            (
              c3,
              r4,
              refl,
              time-written u.this_update h.this_update,
              (
                c4,
                r5,
                refl,
                time-written u.next_update h.next_update,
                (
                  c5,
                  c6,
                  refl,
                  revoked-written u.revoked h.revoked s5.0,
                  (
                    c6,
                    [],
                    sym (append-nil c6),
                    (
                      e,
                      short-value (context 0) e refl s5.1,
                      extensions-written u.extensions h.authority_key h.number
                          (contents_small (context 0) e s5.1),
                    ),
                    refl,
                  ),
                ),
              ),
            ),
          ),
        ),
      ),
    )

pub list-written : (u : UnsignedList) (issuer s : List ℕ) → IsToWrite u → IsName Der issuer
    → Short (crl_contents u issuer s)
    → CrlForm Der (crl_octets u issuer s) (made_list u issuer s)
list-written u issuer s h name short =
    let a : List ℕ = tbs_octets u issuer in
    let b : List ℕ = cert_algorithm_octets in
    let c : List ℕ = value_octets BIT_STRING (bit_string_contents s 0) in
    let p = length_parts a (b ++ c) short in
    let q = length_parts b c p.1 in (
      refl,
      (
        crl_contents u issuer s,
        value-written SEQUENCE (crl_contents u issuer s) (tag-sound SEQUENCE refl) short,
        (
          a,
          b ++ c,
          refl,
          (tbs-written u issuer h name p.0, refl),
          (
            b,
            c,
            refl,
            algorithm-written,
            (c, [], sym (append-nil c), signature-written s q.1, refl),
          ),
        ),
      ),
    )
