-- In DER the name of a key has one writing.
use Rattle.rpki_der.specs.Tags.{OBJECT_IDENTIFIER, PRINTABLE_STRING, SEQUENCE, SET}
use Rattle.std.proofs.Common.{◌≡◌, ℕ, List, ◌++◌, ap, subst, ◌∙◌}
use Rattle.std.proofs.lemmas.List.{append-nil}
use Rattle.rpki_der.specs.declared.mode.Mode.TheVariants.{Der}
use Rattle.rpki_der.specs.Grammar.{IsBytes}
use Rattle.rpki_der.specs.Write.Written.{value_octets}
use Rattle.rpki_der.proofs.Reading.Exact.{IsBytes-left, IsBytes-right}
use Rattle.rpki_der.proofs.Writing.Lengths.{value-unique}
use Rattle.rpki_der.specs.Text.Hex.{upper_hex}
use Rattle.rpki_basics.specs.Name.{common_name, KeyNameForm, key_name_octets}
use Rattle.rpki_basics.proofs.Algorithms.Unique.{inside, oid-one}

pub key-name-only : (o id : List ℕ) → IsBytes o → KeyNameForm Der o id → o ≡ key_name_octets id
key-name-only o id bytes h =
    let p = h.2 in
    let c1 : IsBytes h.0 = inside o SEQUENCE h.0 bytes h.1 in
    let b1 : IsBytes p.0 = IsBytes-left p.0 p.1 (subst IsBytes p.2 c1) in
    let i1 : h.0 ≡ p.0 = p.2 ∙ ap (λ (t : List ℕ). p.0 ++ t) p.4 ∙ append-nil p.0 in
    let s = p.3 in
    let q = s.2 in
    let c2 : IsBytes s.0 = inside p.0 SET s.0 b1 s.1 in
    let b2 : IsBytes q.0 = IsBytes-left q.0 q.1 (subst IsBytes q.2 c2) in
    let i2 : s.0 ≡ q.0 = q.2 ∙ ap (λ (t : List ℕ). q.0 ++ t) q.4 ∙ append-nil q.0 in
    let m = q.3 in
    let f = m.2 in
    let r = f.4 in
    let c3 : IsBytes m.0 = inside q.0 SEQUENCE m.0 b2 m.1 in
    let b3 : IsBytes f.0 = IsBytes-left f.0 f.1 (subst IsBytes f.2 c3) in
    let b4 : IsBytes f.1 = IsBytes-right f.0 f.1 (subst IsBytes f.2 c3) in
    let b5 : IsBytes r.0 = IsBytes-left r.0 r.1 (subst IsBytes r.2 b4) in
    let oid : f.0 ≡ value_octets OBJECT_IDENTIFIER common_name =
    oid-one f.0 common_name b3 f.3 in
    let text : r.0 ≡ value_octets PRINTABLE_STRING (upper_hex id) =
    value-unique r.0 PRINTABLE_STRING (upper_hex id) b5 r.3 in
    let last : f.1 ≡ value_octets PRINTABLE_STRING (upper_hex id) =
    r.2 ∙ ap (λ (t : List ℕ). r.0 ++ t) r.4 ∙ append-nil r.0 ∙ text in
    let both : m.0 ≡ value_octets OBJECT_IDENTIFIER common_name
    ++ value_octets PRINTABLE_STRING (upper_hex id) =
    f.2 ∙ ap (λ (t : List ℕ). t ++ f.1) oid
    ∙ ap (λ (t : List ℕ). value_octets OBJECT_IDENTIFIER common_name ++ t) last in
    value-unique o SEQUENCE h.0 bytes h.1
    ∙ ap (value_octets SEQUENCE) (i1 ∙ value-unique p.0 SET s.0 b1 s.1
    ∙ ap (value_octets SET) (i2 ∙ value-unique q.0 SEQUENCE m.0 b2 m.1
    ∙ ap (value_octets SEQUENCE) both))
