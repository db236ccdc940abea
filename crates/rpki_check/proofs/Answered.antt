-- What the statuses of calls say of octets.
use Rattle.std.proofs.Common.{◌≡◌, ◌∙◌, ◌⊎◌, inl, inr, ℕ, List, [], ◌∷◌, Result, Ok, Err}
use Rattle.std.proofs.Common.{refl, sym, subst}
use Rattle.std.specs.List.{AllZip}
use Rattle.sha2.specs.Sha256.{sha256}
use Rattle.rpki_der.specs.declared.mode.Mode.TheVariants.{Der}
use Rattle.rpki_files.specs.Checklist.{ChecklistForm}
use Rattle.rpki_files.specs.Checklist.Checks.{checklist_kind}
use Rattle.rpki_files.specs.Manifest.{Manifest, ManifestForm}
use Rattle.rpki_files.specs.Manifest.Checks.{manifest_kind}
use Rattle.rpki_multi.specs.Attestation.{KeptWhole, Whole as Attested}
use Rattle.rpki_routes.specs.Aspa.Checks.{aspa_kind}
use Rattle.rpki_routes.specs.Aspa.Form.{AspaForm}
use Rattle.rpki_routes.specs.Roa.Checks.{roa_kind}
use Rattle.rpki_routes.specs.Roa.Form.{RoaForm}
use Rattle.rpki_rsa.specs.Signature.{is_rsa_signature}
use Rattle.rpki_rta.specs.Granted.{IsDistinct}
use Rattle.rpki_show.specs.Texts.Aspa.{aspa_text}
use Rattle.rpki_show.specs.Texts.Manifest.{manifest_text}
use Rattle.rpki_show.specs.Texts.Roa.{roa_text}
use Rattle.rpki_show.specs.Texts.Rsc.{rsc_text}
use Rattle.rpki_show.specs.declared.texts.serial.Hexadecimal.TheVariants.{Plain}
use Rattle.rpki_sigobj.specs.Object.{mode_of}
use Rattle.rpki_sigobj.specs.Signed.Kind.{ObjectKind}
use Rattle.rpki_validation.specs.Attestation.{IsGoodRtaOn, IsGrantedOn}
use Rattle.rpki_validation.specs.declared.grounds.Grounds.{Grounds}
use Rattle.rpki_validation.specs.declared.kinds.Kind.TheVariants.{Aspa, Checklist, Manifest as Listing, Roa}
use Rattle.rpki_validation.specs.declared.refusal.Refusal.{Refusal as Cause}
use Rattle.rpki_validation.specs.declared.refusal.Refusal.TheVariants as causes
use Rattle.rpki_validation.proofs.Decided.{good-rta-on, rta-decided}
use Rattle.rpki_check.specs.Attestation.{IsAttestationFound, IsAttestationSaid, IsGrantedIn}
use Rattle.rpki_check.specs.Decided.{EditionTells, FilesTell, IsGrantDecided, IsGrantedFor}
use Rattle.rpki_check.specs.Decided.{IsSurelyGranted, ObjectTells, ObjectsTell, RowsTell, Tells}
use Rattle.rpki_check.specs.Decided.{TellsAsked, TellsGood, TellsGranted}
use Rattle.rpki_check.specs.Edition.{IsEditionPut}
use Rattle.rpki_check.specs.Files.{AreFilesPut, Named}
use Rattle.rpki_check.specs.Grounds.{AreGroundsOf, manner_in}
use Rattle.rpki_check.specs.Kinds.{AsksFor, OfAsked}
use Rattle.rpki_check.specs.Many.{IsGrantStatus, IsStatusAs, IsStatusOn}
use Rattle.rpki_check.specs.Numbers.{no_kind, no_memory, refusal_number, status_of}
use Rattle.rpki_check.specs.Object.{IsFound, IsGoodFor}
use Rattle.rpki_check.specs.Refusal.{IsToldAs}
use Rattle.rpki_check.specs.Report.{IsSaid}
use Rattle.rpki_check.specs.Rows.{IsPut}
use Rattle.rpki_check.specs.declared.edition.Edition.{Edition}
use Rattle.rpki_check.specs.declared.files.Entry.{Entry}
use Rattle.rpki_check.specs.declared.kinds.Asked.{Asked}
use Rattle.rpki_check.specs.declared.kinds.Asked.TheVariants.{Attestation, Object}
use Rattle.rpki_check.specs.declared.many.Object.{Object as ObjectOf}
use Rattle.rpki_check.specs.declared.question.Question.{Question}
use Rattle.rpki_check.specs.declared.refusal.Refusal.{Refusal}
use Rattle.rpki_check.proofs.Asking.{memory-told, not-memory, not-refused, one-grounds}
use Rattle.rpki_check.proofs.Decided.{decided, nonzero}
use Rattle.rpki_check.proofs.Naming.{one-asked}

-- ---- attestations

module _ (q : Question) (octets : List ℕ) where
  granted-yes : (found : Result KeptWhole Refusal) → IsAttestationFound q octets found
      → status_of found ≡ 0 → IsGrantedFor q octets
  granted-yes (Ok k) (inl h) e = absurd (let same : Ok k ≡ Err h.0 = h.2 in cc)
  granted-yes (Ok k) (inr f) e = record {
    grounds = f.grounds;
    are = f.are;
    good = rta-decided.yes f.grounds octets k f.found;
  }
  granted-yes (Err refusal) h e = absurd (nonzero refusal e)

  denied : (g : Grounds) (cause : Cause) (refusal : Refusal) → IsGrantedOn g octets (Err cause)
      → IsToldAs cause refusal → ¬ (refusal_number refusal ≡ no_memory)
      → (good : IsGoodRtaOn g octets) → ¬ IsDistinct sha256 is_rsa_signature good.granted.object
  denied g causes.Memory refusal h t m good d =
      m (memory-told causes.Memory refusal t refl)
  denied g causes.NoLocator refusal h t m good d = h
  denied g (causes.NoList place) refusal h t m good d = h
  denied g (causes.Issuer fault) refusal h t m good d = h
  denied g (causes.Check fault) refusal h t m good d =
      rta-decided.no g octets fault h (not-memory (causes.Check fault) refusal t m) good.granted d
  denied g (causes.Revoked place) refusal h t m good d = rta-decided.revoked g octets place h good

  denied-on : (refusal : Refusal) → IsGrantedIn q octets (Err refusal)
      → ¬ (refusal_number refusal ≡ no_memory) → ¬ IsSurelyGranted q octets
  denied-on refusal f m d =
      let b = d.granted.good.granted in
      let good = good-rta-on octets d.granted.grounds f.grounds
      (one-grounds q d.granted.grounds f.grounds d.granted.are f.are) d.granted.good in
      denied f.grounds f.found.0 refusal f.found.1 f.found.2 m good
      (subst (λ (w : Attested). IsDistinct sha256 is_rsa_signature w)
      (good.granted.front.only b.object b.rest b.front.found).0 d.distinct)

  granted-no : (found : Result KeptWhole Refusal) → IsAttestationFound q octets found
      → ¬ (status_of found ≡ 0) → ¬ (status_of found ≡ no_memory) → ¬ IsSurelyGranted q octets
  granted-no (Ok k) h z m d = z refl
  granted-no (Err refusal) (inl h) z m d =
      let same : Err refusal ≡ Err h.0 = h.2 in
      let is : refusal ≡ h.0 = cc in
      not-refused q h.0 h.1 (subst (λ (r : Refusal). ¬ (refusal_number r ≡ no_memory)) is m)
      d.granted.grounds d.granted.are
  granted-no (Err refusal) (inr f) z m d = denied-on refusal f m d

-- the status of what is found of attestations tells
pub grants-decide : IsGrantDecided
grants-decide q octets found h = record {
  yes = granted-yes q octets found h;
  no = granted-no q octets found h;
}

-- ---- a call's own status

-- want of memory tells nothing
of-memory : {Good Surely : Type 0} (status : ℕ) → status ≡ no_memory → Tells status Good Surely
of-memory status memory = record {
  yes = λ e. absurd (let not : no_memory ≡ 0 = sym memory ∙ e in cc);
  no = λ z m h. absurd (m memory);
}

-- the status tells what another tells that is the same
of-same : {Good Surely : Type 0} (status other : ℕ) → status ≡ other → Tells other Good Surely
    → Tells status Good Surely
of-same {Good} {Surely} status other e t =
    subst (λ (s : ℕ). Tells s Good Surely) (sym e) t

-- a status is 1, for want of memory, or that of what is found
module _ {X : Type 0} (kind : ObjectKind X) (form : List ℕ → X → Type 0) (q : Question)
    (octets : List ℕ) where
  of-found : (found : Result X Refusal) (status : ℕ) → IsFound kind form q octets found
      → (status ≡ no_memory) ⊎ (status ≡ status_of found) → TellsGood kind form q octets status
  of-found found status h (inl memory) = of-memory status memory
  of-found found status h (inr is) = of-same status (status_of found) is (record {
    yes = (decided kind form).yes q octets found h;
    no = (decided kind form).no q octets found h;
  })

  of-said : (lines : X → List ℕ) (old new : List ℕ) (len status : ℕ)
      → IsSaid kind form lines q octets old new len status → TellsGood kind form q octets status
  of-said lines old new len status (found, h, inl r) = of-found found status h (inl r.0)
  of-said lines old new len status (found, h, inr r) = of-found found status h (inr r.0)

of-granted : (q : Question) (octets old new : List ℕ) (len status : ℕ)
    → IsAttestationSaid q octets old new len status → TellsGranted q octets status
of-granted q octets old new len status (found, h, inl r) = of-memory status r.0
of-granted q octets old new len status (found, h, inr r) =
    of-same status (status_of found) r.0 (grants-decide q octets found h)

-- ---- what a number asks for

-- What is good of what is asked for, where A is so of attestations.
abbrev Good : Question → List ℕ → Asked → Type 0 → Type 0
Good q octets a A = OfAsked (manner_in q) a (λ X asked form lines. IsGoodFor asked form q octets) A

module _ (q : Question) (number : ℕ) (octets : List ℕ) (status : ℕ) where
  of-asked : (a : Asked) → AsksFor (mode_of (manner_in q).strict) number octets a
      → Tells status (Good q octets a (IsGrantedFor q octets))
      (Good q octets a (IsSurelyGranted q octets))
      → TellsAsked q number octets status
  of-asked a asks t = record {
    yes = λ e. (a, asks, t.yes e);
    no = λ z m h. t.no z m (subst (λ (b : Asked). Good q octets b (IsSurelyGranted q octets))
        (one-asked (mode_of (manner_in q).strict) number octets h.0 a h.1 asks) h.2);
  }

  -- where there is no kind, nothing is good
  of-none : status ≡ no_kind
      → ((a : Asked) → AsksFor (mode_of (manner_in q).strict) number octets a → ⊥)
      → TellsAsked q number octets status
  of-none is none = record {
    yes = λ e. absurd (let not : no_kind ≡ 0 = sym is ∙ e in cc);
    no = λ z m h. none h.0 h.1;
  }

of-kind : (q : Question) (octets old new : List ℕ) (len status : ℕ) (a : Asked)
    → OfAsked (manner_in q) a (λ X asked form lines.
    IsSaid asked form lines q octets old new len status)
    (IsAttestationSaid q octets old new len status)
    → Tells status (Good q octets a (IsGrantedFor q octets))
    (Good q octets a (IsSurelyGranted q octets))
of-kind q octets old new len status (Object Roa) h =
    of-said roa_kind RoaForm q octets roa_text old new len status h
of-kind q octets old new len status (Object Aspa) h =
    of-said aspa_kind (AspaForm (manner_in q).limit) q octets aspa_text old new len status h
of-kind q octets old new len status (Object Listing) h =
    of-said manifest_kind (ManifestForm (manner_in q).names Der) q octets (manifest_text Plain) old
    new len status h
of-kind q octets old new len status (Object Checklist) h =
    of-said checklist_kind (ChecklistForm Der) q octets rsc_text old new len status h
of-kind q octets old new len status Attestation h = of-granted q octets old new len status h

pub object-tells : ObjectTells
object-tells q number octets old new len status (inl (inl memory, room)) = of-memory status memory
object-tells q number octets old new len status (inl (inr (is, none), room)) =
    of-none q number octets status is none
object-tells q number octets old new len status (inr (a, asks, h)) =
    of-asked q number octets status a asks (of-kind q octets old new len status a h)

-- ---- many objects

zip-weaker : {A B : Type 0} (R S : A → B → Type 0) → ((x : A) (y : B) → R x y → S x y)
    → (xs : List A) (ys : List B) → AllZip R xs ys → AllZip S xs ys
zip-weaker R S f [] [] h = tt
zip-weaker R S f [] (y ∷ ys) h = absurd h
zip-weaker R S f (x ∷ xs) [] h = absurd h
zip-weaker R S f (x ∷ xs) (y ∷ ys) h = (f x y h.0, zip-weaker R S f xs ys h.1)

module _ (q : Question) (g : Grounds) (are : AreGroundsOf q g) (octets : List ℕ) (status : ℕ) where
  as-found : {X : Type 0} (kind : ObjectKind X) (form : List ℕ → X → Type 0)
      → IsStatusAs kind form (mode_of (manner_in q).strict) g octets status
      → TellsGood kind form q octets status
  as-found kind form (found, h, is) =
      of-found kind form q octets found status
      (inr (record { grounds = g; are = are; found = h })) (inr is)

  as-granted : IsGrantStatus g octets status → TellsGranted q octets status
  as-granted (found, h, is) =
      of-same status (status_of found) is
      (grants-decide q octets found (inr (record { grounds = g; are = are; found = h })))

  as-kind : (a : Asked)
      → OfAsked (manner_in q) a (λ X asked form lines.
      IsStatusAs asked form (mode_of (manner_in q).strict) g octets status)
      (IsGrantStatus g octets status)
      → Tells status (Good q octets a (IsGrantedFor q octets))
      (Good q octets a (IsSurelyGranted q octets))
  as-kind (Object Roa) h = as-found roa_kind RoaForm h
  as-kind (Object Aspa) h = as-found aspa_kind (AspaForm (manner_in q).limit) h
  as-kind (Object Listing) h = as-found manifest_kind (ManifestForm (manner_in q).names Der) h
  as-kind (Object Checklist) h = as-found checklist_kind (ChecklistForm Der) h
  as-kind Attestation h = as-granted h

on-grounds : (q : Question) (g : Grounds) → AreGroundsOf q g → (o : ObjectOf) (status : ℕ)
    → IsStatusOn (manner_in q) g o status → TellsAsked q o.kind o.octets.now status
on-grounds q g are o status (inl (inl memory)) = of-memory status memory
on-grounds q g are o status (inl (inr (is, none))) =
    of-none q o.kind o.octets.now status is none
on-grounds q g are o status (inr (a, asks, h)) =
    of-asked q o.kind o.octets.now status a asks (as-kind q g are o.octets.now status a h)

pub objects-tell : ObjectsTell
objects-tell q objects old new count (inl (e, room)) = absurd cc
objects-tell q objects old new count (inr (inl (refusal, h, e, room))) =
    absurd (nonzero refusal (sym e))
objects-tell q objects old new count (inr (inr (statuses, judged, e, room))) = (
  statuses,
  room,
  zip-weaker (IsStatusOn (manner_in q) judged.grounds)
      (λ o status. TellsAsked q o.kind o.octets.now status)
      (on-grounds q judged.grounds judged.are) objects statuses judged.each,
)

-- ---- rows

put-own : {X R : Type 0} (rows : X → List R) (found : Result X Refusal) (old new : List R)
    (count status : ℕ) → IsPut rows found old new count status
    → (status ≡ no_memory) ⊎ (status ≡ status_of found)
put-own rows (Ok x) old new count status (inl h) = inl h.0
put-own rows (Ok x) old new count status (inr h) = inr h.0
put-own rows (Err refusal) old new count status h = inr h.0

pub rows-tell : {X R : Type 0} (kind : ObjectKind X) (form : Question → List ℕ → X → Type 0)
    (rows : X → List R) → RowsTell kind form rows
rows-tell kind form rows q octets old new count status (found, h, p) =
    of-found kind (form q) q octets found status h (put-own rows found old new count status p)

files-own : {X : Type 0} (files : X → List Named) (found : Result X Refusal) (old new : List Entry)
    (count : ℕ) (before after : List ℕ) (len status : ℕ)
    → AreFilesPut files found old new count before after len status
    → (status ≡ no_memory) ⊎ (status ≡ status_of found)
files-own files (Ok x) old new count before after len status (inl h) = inl h.0
files-own files (Ok x) old new count before after len status (inr h) = inr h.0
files-own files (Err refusal) old new count before after len status h = inr h.0

pub files-tell : {X : Type 0} (kind : ObjectKind X) (form : Question → List ℕ → X → Type 0)
    (files : X → List Named) → FilesTell kind form files
files-tell kind form files q octets old new count before after len status (found, h, p) =
    of-found kind (form q) q octets found status h
    (files-own files found old new count before after len status p)

edition-own : (found : Result Manifest Refusal) (before after : Edition) (old new : List ℕ)
    (len status : ℕ) → IsEditionPut found before after old new len status
    → (status ≡ no_memory) ⊎ (status ≡ status_of found)
edition-own (Ok m) before after old new len status (inl h) = inl h.0
edition-own (Ok m) before after old new len status (inr h) = inr h.0
edition-own (Err refusal) before after old new len status h = inr h.0

pub edition-tells : EditionTells
edition-tells q octets before after old new len status (found, h, p) =
    of-found manifest_kind (ManifestForm (manner_in q).names Der) q octets found status h
    (edition-own found before after old new len status p)
