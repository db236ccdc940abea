-- The extensions that are written say what they are made of.
use Rattle.std.proofs.Common.{◌≡◌, ℕ, ◌<◌, ◌^◌, List, [], ◌∷◌, ◌++◌, length, true, false}
use Rattle.std.proofs.Common.{inl, inr, refl, sym, ap, subst, arith}
use Rattle.std.specs.Prelude.{All}
use Rattle.std.specs.List.{flat_map}
use Rattle.std.proofs.lemmas.List.{append-nil}
use Rattle.std.proofs.lemmas.List.Elements.{All-nil, All-cons}
use Rattle.rpki_der.specs.declared.mode.Mode.TheVariants.{Der}
use Rattle.rpki_der.specs.Form.Keyed.{AreDistinct, are_distinct}
use Rattle.rpki_der.specs.Grammar.{Items}
use Rattle.rpki_der.specs.Oid.{IsOid}
use Rattle.rpki_der.specs.Tags.{SEQUENCE, context_primitive}
use Rattle.rpki_der.specs.Write.Parts.{contents_small}
use Rattle.rpki_der.specs.Write.Written.{value_octets, length_value_octets_le}
use Rattle.rpki_der.proofs.Form.Keyed.{any-here, any-there, distinct-decides}
use Rattle.rpki_basics.specs.Serial.{SerialForm, serial_octets}
use Rattle.rpki_basics.proofs.Serials.Written.{serial-written}
use Rattle.rpki_extensions.specs.declared.extension.Extension.{Extension}
use Rattle.rpki_extensions.specs.Extension.{ExtensionForm, IsAmong, SaysBy, oid_of}
use Rattle.rpki_extensions.specs.Extensions.{authority_key_identifier}
use Rattle.rpki_extensions.specs.KeyIdentifiers.{AuthorityKeyForm}
use Rattle.rpki_crls.specs.declared.extensions.CrlExtensions.{CrlExtensions}
use Rattle.rpki_crls.specs.Extensions.{AreCrlExtensions, CrlExtensionsForm, crl_extensions}
use Rattle.rpki_crls.specs.Extensions.{crl_number}
use Rattle.rpki_issued.specs.Extensions.{OptionalExtension, always, extension_octets, octets_of}
use Rattle.rpki_issued.specs.Values.{authority_key_octets}
use Rattle.rpki_issued.proofs.CertExtensions.{optionals-written}
use Rattle.rpki_issued.proofs.Parts.{Short, short-value}
use Rattle.rpki_issued.proofs.Values.{authority-key-written}
use Rattle.rpki_issued_crls.specs.Lists.{extensions_contents, extensions_octets}

-- the identifier of the issuer's key, as it is read
abbrev identifier : CrlExtensions → Extension
identifier x = record {
  oid = authority_key_identifier;
  critical = false;
  value = authority_key_octets x.authority_key;
}

-- the number, as it is read
abbrev counter : CrlExtensions → Extension
counter x = record { oid = crl_number; critical = false; value = serial_octets x.number }

-- both
abbrev both : CrlExtensions → List Extension
both x = identifier x ∷ counter x ∷ []

-- both, as they are written
abbrev given : CrlExtensions → List OptionalExtension
given x =
    always authority_key_identifier false (authority_key_octets x.authority_key)
    ∷ always crl_number false (serial_octets x.number)
    ∷ []

-- nothing is written after them
ended : (x : CrlExtensions) → flat_map octets_of (given x) ≡ extensions_contents x
ended x =
    ap (λ (o : List ℕ). extension_octets authority_key_identifier false
    (authority_key_octets x.authority_key) ++ o)
    (append-nil (extension_octets crl_number false (serial_octets x.number)))

abbrev HasOid : OptionalExtension → Type 0
HasOid s = IsOid s.oid

valid : (x : CrlExtensions) → All HasOid (given x)
valid x =
    let b : OptionalExtension = always crl_number false (serial_octets x.number) in
    All-cons HasOid
    (always authority_key_identifier false (authority_key_octets x.authority_key)) (b ∷ [])
    (omega arith, omega arith)
    (All-cons HasOid b [] (omega arith, omega arith) (All-nil HasOid))

both-written : (x : CrlExtensions) → Short (extensions_contents x)
    → Items (ExtensionForm Der) (extensions_contents x) (both x)
both-written x short =
    subst (λ (o : List ℕ). Items (ExtensionForm Der) o (both x)) (ended x)
    (optionals-written (given x) (valid x) (subst Short (sym (ended x)) short))

apart : (x : CrlExtensions) → AreDistinct oid_of (both x)
unfolding are_distinct
apart x = (distinct-decides oid_of (both x)).0 refl

identifier-begins : (x : CrlExtensions) → length x.authority_key ≡ 20
    → SaysBy AuthorityKeyForm (identifier x) x.authority_key
identifier-begins x few =
    let id : List ℕ = x.authority_key in
    let v : List ℕ = authority_key_octets id in
    let short : Short v =
    omega (
      arith,
      few,
      length_value_octets_le (context_primitive 0) id,
      length_value_octets_le SEQUENCE (value_octets (context_primitive 0) id),
    ) in
    ([], (v, sym (append-nil v), authority-key-written id few short))

counter-begins : (x : CrlExtensions) → x.number < 2 ^ 160
    → SaysBy SerialForm (counter x) x.number
counter-begins x below =
    let v : List ℕ = serial_octets x.number in
    ([], (v, sym (append-nil v), serial-written x.number below))

-- the extension is known where it is critical
abbrev MayStandHere : Extension → Type 0
MayStandHere e = e.critical ≡ true → IsAmong crl_extensions (oid_of e)

both-say : (x : CrlExtensions) → length x.authority_key ≡ 20 → x.number < 2 ^ 160
    → AreCrlExtensions (both x) x
both-say x few below = record {
  stand = record {
    distinct = apart x;
    critical =
        All-cons MayStandHere (identifier x) (counter x ∷ []) (λ _. inl refl)
        (All-cons MayStandHere (counter x) [] (λ _. inr (inl refl)) (All-nil MayStandHere));
  };
  authority_key =
      any-here
      (λ (e : Extension). (oid_of e ≡ authority_key_identifier)
      × SaysBy AuthorityKeyForm e x.authority_key)
      (identifier x) (counter x ∷ []) (refl, identifier-begins x few);
  number =
      let P : Extension → Type 0 = λ e. (oid_of e ≡ crl_number) × SaysBy SerialForm e x.number in
      any-there P (identifier x) (counter x ∷ [])
      (any-here P (counter x) [] (refl, counter-begins x below));
}

pub extensions-written : (x : CrlExtensions) → length x.authority_key ≡ 20 → x.number < 2 ^ 160
    → Short (extensions_octets x) → CrlExtensionsForm Der (extensions_octets x) x
extensions-written x few below short =
    let c : List ℕ = extensions_contents x in (
      both x,
      (c, short-value SEQUENCE c refl short, both-written x (contents_small SEQUENCE c short)),
      both-say x few below,
    )
