use Rattle.std.proofs.Common.{◌≡◌, ℕ, List, Vec, All, length, subst}
use Rattle.std.specs.declared.alloc.Global.{Global}
use Rattle.rpki_der.specs.Grammar.{IsBytes}
use Rattle.rpki_der.proofs.Form.Words.{items-all}
use Rattle.rpki_der.proofs.Reading.Calls.{reads-ok}
use Rattle.rpki_der.proofs.Reading.Exact.{IsBytes-left, IsBytes-right}
use Rattle.rpki_basics.specs.Identifier.{KeyIdentifierForm, identifier_length}
use Rattle.rpki_resources.specs.As.Form.{AsForm}
use Rattle.rpki_resources.specs.As.Read.{as_blocks_at}
use Rattle.rpki_lists.specs.Named.{Sets, sets_at}
use Rattle.rpki_lists.proofs.Names.Facts.{resource-block-facts}
use Rattle.rpki_tagged.specs.Attestation.{subject_keys_at}
use Rattle.rpki_tagged.proofs.Attestations.Exact.{keys-part, sets-part}
use Rattle.rpki_tagged.proofs.attestation.read.take_fields.Goals as goal

pub invariant_of-result : goal.invariant_of-result
invariant_of-result c =
    let start = c.skip_version.new.cons in
    let old = c.take_subject_keys.new.cons in
    let new = c.take_sets.new.cons in
    let ids : List (List ℕ) = c.in_ok-subject_keys.subject_keys.items in
    let k = reads-ok (λ (v : Vec (List ℕ) Global). v.items) subject_keys_at start
    c.in_ok-subject_keys.subject_keys old c.in_ok-subject_keys.ensures in
    let g = (keys-part.exact start.mode).sound start.rest ids old.rest c.holds_octets.ensures
    k.found in
    let lengths : All (λ id. length id ≡ identifier_length) ids =
    items-all (KeyIdentifierForm start.mode) (λ id. length id ≡ identifier_length)
    (λ o id h. h.1) g.2.0 ids g.2.2 in
    let bytes : IsBytes old.rest =
    IsBytes-right g.0 old.rest (subst IsBytes g.1 c.holds_octets.ensures) in
    let sets : Sets = (
      c.in_ok-as_resources.as_resources,
      (c.in_ok-as_resources.v4_resources, c.in_ok-as_resources.v6_resources),
    ) in
    let r = reads-ok (λ (s : Sets). s) (sets_at as_blocks_at) old sets new
    c.in_ok-as_resources.ensures in
    let f = (sets-part.exact old.mode).sound old.rest sets new.rest bytes r.found in
    let octets : IsBytes f.0 = IsBytes-left f.0 new.rest (subst IsBytes f.1 bytes) in
    (resource-block-facts AsForm old.mode f.0 sets octets f.2, lengths)
