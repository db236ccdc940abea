-- Lists of peers are written in the form, nothing else is, and they are read again.
use Rattle.std.proofs.Common.{◌≡◌, ℕ, ◌^◌, ◌<◌, List, [], ◌∷◌, ◌++◌, length, refl, sym, ap}
use Rattle.std.proofs.Common.{subst, ◌∙◌, Option, None, Some, All}
use Rattle.std.specs.List.{flat_map}
use Rattle.std.proofs.lemmas.List.{append-nil}
use Rattle.rpki_der.specs.declared.mode.Mode.{Mode}
use Rattle.rpki_der.specs.declared.mode.Mode.TheVariants.{Der, Ber}
use Rattle.rpki_der.specs.Tags.{SEQUENCE, IA5_STRING}
use Rattle.rpki_der.specs.Grammar.{IntegerBelow, Ia5String, Optional, IsBytes, Items}
use Rattle.rpki_der.specs.Form.Parts.{Parts, SequenceOf, sequence_at}
use Rattle.rpki_der.specs.Write.Parts.{optional_octets, IsEach, length_parts, contents_small}
use Rattle.rpki_der.specs.Write.Written.{value_octets, number_octets}
use Rattle.rpki_der.proofs.Form.Words.{items-all}
use Rattle.rpki_der.proofs.Reading.Exact.{IsBytes-left, IsBytes-right}
use Rattle.rpki_der.proofs.Reading.Scan.{tag-sound}
use Rattle.rpki_der.proofs.Writing.Leaves.{within-written, within-only, items-written, items-unique}
use Rattle.rpki_der.proofs.Writing.Values.{number-in, number-unique}
use Rattle.rpki_examples.specs.Peers.{PeerList, IsPeerList, PeersForm, fields_at}
use Rattle.rpki_examples.specs.Peers.{peers_contents, peers_octets}
use Rattle.rpki_examples.proofs.PeersExact.{peers-part}

-- ---- what is written of each field

abbrev note_octets : Option (List ℕ) → List ℕ
note_octets note = optional_octets (value_octets IA5_STRING) note

abbrev list_octets : List ℕ → List ℕ
list_octets peers = value_octets SEQUENCE (flat_map number_octets peers)

note-written : (note : Option (List ℕ)) → IsEach (All (λ c. c < 128)) note
    → length (note_octets note) < 2 ^ 32 → Optional (Ia5String Der) (note_octets note) note
note-written None h short = refl
note-written (Some text) h short =
    within-written IA5_STRING (λ c. (c ≡ text) × All (λ b. b < 128) text) text
    (tag-sound IA5_STRING refl) (contents_small IA5_STRING text short) (refl, h)

list-written : (peers : List ℕ) → All (λ n. n < 2 ^ 32) peers
    → length (list_octets peers) < 2 ^ 32
    → SequenceOf Der (IntegerBelow (2 ^ 32) Der) (list_octets peers) peers
list-written peers h short =
    within-written SEQUENCE (λ c. Items (IntegerBelow (2 ^ 32) Der) c peers)
    (flat_map number_octets peers) (tag-sound SEQUENCE refl)
    (contents_small SEQUENCE (flat_map number_octets peers) short)
    (items-written (IntegerBelow (2 ^ 32) Der) number_octets peers
    (λ i d l. number-in Der _ (h i d l)))

-- ---- the whole is in the form

abbrev Fields : Mode → List ℕ → PeerList → Type 0
Fields mode octets p = Parts (
    (λ o. IntegerBelow (2 ^ 32) mode o p.local)
    ∷ (λ o. Optional (Ia5String mode) o p.note)
    ∷ (λ o. SequenceOf mode (IntegerBelow (2 ^ 32) mode) o p.peers)
    ∷ []) octets

pub peers-written : (p : PeerList) → IsPeerList p → length (peers_contents p) < 2 ^ 32
    → PeersForm Der (peers_octets p) p
peers-written p h short =
    let after = note_octets p.note ++ list_octets p.peers in
    let later = (length_parts (number_octets p.local) after short).1 in
    let each = length_parts (note_octets p.note) (list_octets p.peers) later in
    let last = sym (append-nil (list_octets p.peers)) in
    within-written SEQUENCE (λ c. Fields Der c p) (peers_contents p)
    (tag-sound SEQUENCE refl) short (
      number_octets p.local,
      after,
      refl,
      number-in Der p.local h.local,
      (
        note_octets p.note,
        list_octets p.peers,
        refl,
        note-written p.note h.note each.0,
        (list_octets p.peers, [], last, list-written p.peers h.peers each.1, refl),
      ),
    )

-- ---- nothing else is

number-only : (o : List ℕ) (n : ℕ) → IsBytes o → IntegerBelow (2 ^ 32) Der o n
    → o ≡ number_octets n
number-only o n bytes h = number-unique o n bytes h.2.1 (h.0, h.1, h.2.0)

note-only : (o : List ℕ) (note : Option (List ℕ)) → IsBytes o → Optional (Ia5String Der) o note
    → o ≡ note_octets note
note-only o None bytes h = h
note-only o (Some text) bytes h =
    within-only IA5_STRING (λ c. (c ≡ text) × All (λ b. b < 128) text) o text bytes
    (λ c inner is. is.0) h

list-only : (o peers : List ℕ) → IsBytes o → SequenceOf Der (IntegerBelow (2 ^ 32) Der) o peers
    → o ≡ list_octets peers
list-only o peers bytes h =
    within-only SEQUENCE (λ c. Items (IntegerBelow (2 ^ 32) Der) c peers) o
    (flat_map number_octets peers) bytes
    (λ c. items-unique (IntegerBelow (2 ^ 32) Der) number_octets number-only c peers) h

fields-only : (p : PeerList) (c : List ℕ) → IsBytes c → Fields Der c p → c ≡ peers_contents p
fields-only p c bytes h =
    let k = h.4 in
    let l = k.4 in
    let all : IsBytes (h.0 ++ h.1) = subst IsBytes h.2 bytes in
    let later : IsBytes (k.0 ++ k.1) = subst IsBytes k.2 (IsBytes-right h.0 h.1 all) in
    let last : IsBytes (l.0 ++ l.1) = subst IsBytes l.2 (IsBytes-right k.0 k.1 later) in
    let local = number-only h.0 p.local (IsBytes-left h.0 h.1 all) h.3 in
    let note = note-only k.0 p.note (IsBytes-left k.0 k.1 later) k.3 in
    let peers = list-only l.0 p.peers (IsBytes-left l.0 l.1 last) l.3 in
    let end : k.1 ≡ l.0 = l.2 ∙ ap (λ (x : List ℕ). l.0 ++ x) l.4 ∙ append-nil l.0 in
    let two : h.1 ≡ note_octets p.note ++ list_octets p.peers =
    k.2 ∙ ap (λ (x : List ℕ). x ++ k.1) note
    ∙ ap (λ (x : List ℕ). note_octets p.note ++ x) (end ∙ peers) in
    h.2 ∙ ap (λ (x : List ℕ). x ++ h.1) local
    ∙ ap (λ (x : List ℕ). number_octets p.local ++ x) two

pub peers-only : (octets : List ℕ) (p : PeerList) → IsBytes octets → PeersForm Der octets p
    → octets ≡ peers_octets p
peers-only octets p bytes h =
    within-only SEQUENCE (λ c. Fields Der c p) octets (peers_contents p) bytes (fields-only p) h

-- ---- it is read again

in-mode : (mode : Mode) (octets : List ℕ) (p : PeerList) → PeersForm Der octets p
    → PeersForm mode octets p
in-mode Der octets p h = h
in-mode Ber octets p h = peers-part.relaxed octets p h

pub peers-again : (mode : Mode) (p : PeerList) (rest : List ℕ) → IsPeerList p
    → length (peers_contents p) < 2 ^ 32
    → sequence_at fields_at mode (peers_octets p ++ rest) ≡ Some (p, rest)
peers-again mode p rest h short =
    (peers-part.exact mode).complete (peers_octets p) p rest tt
    (in-mode mode (peers_octets p) p (peers-written p h short))

-- ---- what was read can be written

note-found : (mode : Mode) (o : List ℕ) (note : Option (List ℕ)) → Optional (Ia5String mode) o note
    → IsEach (All (λ c. c < 128)) note
note-found mode o None h = tt
note-found mode o (Some text) h = h.2.1

pub peers-found : (mode : Mode) (octets : List ℕ) (p : PeerList) → IsBytes octets
    → PeersForm mode octets p → IsPeerList p
peers-found mode octets p bytes h =
    let local = h.2 in
    let note = local.4 in
    let peers = note.4 in
    record {
      local = local.3.2.1;
      note = note-found mode note.0 p.note note.3;
      peers = items-all (IntegerBelow (2 ^ 32) mode) (λ n. n < 2 ^ 32) (λ o n is. is.2.1)
          peers.3.0 p.peers peers.3.2;
    }
