-- The revocation lists that an attestation carries are read with the dates of their entries.
use Rattle.std.proofs.Common.{◌≡◌, ◌<◌, ◌≤◌, ◌+◌, ◌++◌, ◌∙◌, ℕ, List, [], ◌∷◌, length, map, take}
use Rattle.std.proofs.Common.{get_or, Option, Some, None, refl, sym, ap, subst}
use Rattle.std.specs.Prelude.{unwrap_or}
use Rattle.std.proofs.lemmas.List.{take_all, take_more}
use Rattle.rpki_der.specs.declared.error.DecodeError.{DecodeError}
use Rattle.rpki_der.specs.declared.error.DecodeError.TheVariants.{Malformed, Content, Memory}
use Rattle.rpki_der.specs.declared.mode.Mode.{Mode}
use Rattle.rpki_der.specs.declared.mode.Mode.TheVariants.{Der}
use Rattle.rpki_der.specs.Form.Decodes.{IsOnlyFront}
use Rattle.rpki_der.specs.Form.Parts.{ImplicitOf}
use Rattle.rpki_der.specs.Grammar.{HasNoFront, Items, Optional}
use Rattle.rpki_der.specs.Read.Reads.{Refuses}
use Rattle.rpki_der.proofs.Form.ReadBack.{only-front}
use Rattle.rpki_der.proofs.Form.Words.{part-unique}
use Rattle.rpki_crls.specs.Crl.{CrlForm, KeptCrl, RevocationList}
use Rattle.rpki_multi.specs.Attestation.{RtaForm, Whole}
use Rattle.rpki_multi.specs.Multi.{CrlsForm}
use Rattle.rpki_show.specs.Dated.{DatedForm, DatedList}
use Rattle.rpki_show.specs.DatedRta.{AreDated, DatedRtaForm, DatedWhole}
use Rattle.rpki_show.proofs.Dates.{list-dated}
use Rattle.rpki_show.proofs.Lists.{dated-part}

-- ---- a list

-- what stands at the front of the octets of a list is all of it
pub whole-list : (octets : List ℕ) (list : RevocationList) (d : DatedList) (rest : List ℕ)
    → octets ≡ list.octets → CrlForm Der list.octets list
    → IsOnlyFront (DatedForm Der) octets d rest → DatedForm Der list.octets d
whole-list octets list d rest same form front =
    let dated = list-dated Der list.octets list form in
    let read = subst (λ (o : List ℕ). IsOnlyFront (DatedForm Der) o d rest) same front in
    subst (λ (e : DatedList). DatedForm Der list.octets e)
    (sym (only-front (DatedForm Der) list.octets d dated.0 rest read dated.1)) dated.1

one-only : (octets : List ℕ) (d e : DatedList) → DatedForm Der octets d → DatedForm Der octets e
    → d ≡ e
one-only octets d e h k = (part-unique dated-part Der octets octets d e [] [] h k refl).1

-- ---- lists

-- the lists, without the modes that they were read in
abbrev pub lists_of : List KeptCrl → List RevocationList
lists_of crls = map (λ (k : KeptCrl). k.list) crls

are-more : (crls : List KeptCrl) (dated : List DatedList) (crl : KeptCrl) (d : DatedList)
    → AreDated Der (lists_of crls) dated → DatedForm Der crl.list.octets d
    → AreDated Der (lists_of (crls ++ crl ∷ [])) (dated ++ d ∷ [])
are-more [] [] crl d are one = (one, tt)
are-more [] (e ∷ dated) crl d are one = absurd are
are-more (c ∷ crls) [] crl d are one = absurd are
are-more (c ∷ crls) (e ∷ dated) crl d are one = (are.0, are-more crls dated crl d are.1 one)

-- one list more is read
pub one-more : (crls : List KeptCrl) (place : ℕ) (crl : KeptCrl) (dated : List DatedList)
    (d : DatedList) → place < length crls → crl ≡ get_or crls place crl
    → AreDated Der (lists_of (take place crls)) dated → DatedForm Der crl.list.octets d
    → AreDated Der (lists_of (take (place + 1) crls)) (dated ++ d ∷ [])
one-more crls place crl dated d there is are one =
    let more : take (place + 1) crls ≡ take place crls ++ crl ∷ [] =
    take_more crls place crl there
    ∙ ap (λ (c : KeptCrl). take place crls ++ c ∷ []) (sym is) in
    subst (λ (cs : List KeptCrl). AreDated Der (lists_of cs) (dated ++ d ∷ [])) (sym more)
    (are-more (take place crls) dated crl d are one)

-- all are
pub all-read : (crls : List KeptCrl) (place : ℕ) (dated : List DatedList)
    → AreDated Der (lists_of (take place crls)) dated → length crls ≤ place
    → AreDated Der (lists_of crls) dated
all-read crls place dated are end =
    subst (λ (cs : List KeptCrl). AreDated Der (lists_of cs) dated)
    (take_all place crls end) are

same-lists : (d e : DatedList) (ds es : List DatedList) → d ≡ e → ds ≡ es → d ∷ ds ≡ e ∷ es
same-lists d e ds es p q = cc

all-only : (lists : List RevocationList) (ds es : List DatedList) → AreDated Der lists ds
    → AreDated Der lists es → ds ≡ es
all-only [] [] [] h k = refl
all-only [] [] (e ∷ es) h k = absurd k
all-only [] (d ∷ ds) es h k = absurd h
all-only (l ∷ lists) [] es h k = absurd h
all-only (l ∷ lists) (d ∷ ds) [] h k = absurd k
all-only (l ∷ lists) (d ∷ ds) (e ∷ es) h k =
    same-lists d e ds es (one-only l.octets d e h.0 k.0) (all-only lists ds es h.1 k.1)

-- ---- attestations

same-dated : (y : DatedWhole) (r : Whole) (ds : List DatedList) → y.rta ≡ r → y.lists ≡ ds
    → y ≡ record { rta = r; lists = ds }
same-dated y r ds e f i = record { rta = e i; lists = f i }

module _ (octets : List ℕ) where
  -- octets that begin with no attestation begin with none with dates
  pub dated-refused : (e : DecodeError) → Refuses e (HasNoFront (RtaForm Der) octets)
      → Refuses e (HasNoFront (DatedRtaForm Der) octets)
  dated-refused Memory h = tt
  dated-refused Malformed h = λ y other f. h y.rta other (f.0, f.1, f.2.0)
  dated-refused (Content fault) h = λ y other f. h y.rta other (f.0, f.1, f.2.0)

  -- an attestation with the dates of its lists
  pub dated-found : (r : Whole) (rest : List ℕ) → IsOnlyFront (RtaForm Der) octets r rest
      → (ds : List DatedList) → AreDated Der r.signed.crls ds
      → IsOnlyFront (DatedRtaForm Der) octets (record { rta = r; lists = ds }) rest
  dated-found r rest front ds dated = record {
    found = (front.found.0, front.found.1, (front.found.2, dated));
    only = λ y other f.
        let same = front.only y.rta other (f.0, f.1, f.2.0) in
        let own = subst (λ (w : Whole). AreDated Der w.signed.crls y.lists) same.0 f.2.1 in
        (same-dated y r ds same.0 (all-only r.signed.crls y.lists ds own dated), same.1);
  }

-- ---- each attestation has them

module _ (mode : Mode) where
  items-have : (octets : List ℕ) (lists : List RevocationList)
      → Items (CrlForm mode) octets lists → (ds : List DatedList) × AreDated mode lists ds
  items-have octets [] h = ([], tt)
  items-have octets (l ∷ lists) h =
      let first = list-dated mode h.0 l h.3 in
      let others = items-have h.1 lists h.4 in (
        first.0 ∷ others.0,
        (subst (λ (o : List ℕ). DatedForm mode o first.0) (sym h.3.0) first.1, others.1),
      )

  written-have : (octets : List ℕ) (lists : List RevocationList)
      (written : Option (List RevocationList))
      → Optional (ImplicitOf 1 mode (CrlForm mode)) octets written
      → lists ≡ unwrap_or written [] → (ds : List DatedList) × AreDated mode lists ds
  written-have octets lists None h e =
      subst (λ (ls : List RevocationList). (ds : List DatedList) × AreDated mode ls ds) (sym e)
      ([], tt)
  written-have octets lists (Some those) h e =
      subst (λ (ls : List RevocationList). (ds : List DatedList) × AreDated mode ls ds) (sym e)
      (items-have h.0 those h.2)

  crls-have : (octets : List ℕ) (lists : List RevocationList) → CrlsForm mode octets lists
      → (ds : List DatedList) × AreDated mode lists ds
  crls-have octets lists h = written-have octets lists h.0 h.1 h.2

  pub rta-dated : (octets : List ℕ) (r : Whole) → RtaForm mode octets r
      → (ds : List DatedList) × DatedRtaForm mode octets (record { rta = r; lists = ds })
  rta-dated octets r h =
      let type = h.0.2 in
      let version = type.4.3.2.2 in
      let algorithm = version.4 in
      let content = algorithm.4 in
      let certs = content.4 in
      let crls = certs.4 in
      let dated = crls-have crls.0 r.signed.crls crls.3 in
      (dated.0, (h, dated.1))
