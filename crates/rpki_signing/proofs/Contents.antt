-- Contents that are built and signed.
use Rattle.std.proofs.Common.{◌≡◌, ℕ, List, [], Result, Err, inl, inr, subst, sym}
use Rattle.std.specs.Prelude.{IfErr}
use Rattle.std.proofs.lemmas.List.{append-nil}
use Rattle.rpki_basics.specs.declared.build.BuildError.{BuildError}
use Rattle.rpki_basics.specs.declared.build.BuildError.TheVariants as unbuilt
use Rattle.rpki_basics.specs.declared.build.BuildFault.{BuildFault}
use Rattle.rpki_basics.specs.declared.signing.SigningError.{SigningError}
use Rattle.rpki_basics.specs.declared.signing.SigningError.TheVariants as error
use Rattle.rpki_der.specs.declared.mode.Mode.{Mode}
use Rattle.rpki_der.specs.declared.mode.Mode.TheVariants.{Der}
use Rattle.rpki_der.specs.Form.Made.{Begins}
use Rattle.rpki_faults.specs.Checks.{Check, AllHold}
use Rattle.rpki_lists.specs.Built.{IsNotBuilt as IsNoContent}
use Rattle.rpki_sigobj.specs.Object.{KeptObject, SignedForm}
use Rattle.rpki_sigobj.specs.Signed.{KeptWhole, IsKeptWhole, ObjectForm, whole_of}
use Rattle.rpki_signing.specs.Built.{Settings, IsNotBuilt}
use Rattle.rpki_signing.specs.Content.{IsNotSigned, signing_error}

-- octets in the form begin with what they mean
pub begins-whole : {X : Type 0} (form : List ℕ → X → Type 0) (octets : List ℕ) (x : X)
    → form octets x → Begins form octets x
begins-whole form octets x h = ([], (octets, sym (append-nil octets), h))

module _ {R X : Type 0} (type : List ℕ) (form : R → List ℕ → X → Type 0) (k : KeptObject)
    (x : X) (written : SignedForm k.mode k.object.octets k.object)
    (kind : k.object.signed.content_type ≡ type) where
  -- an object with a content that its octets mean by some rule is whole
  pub whole-kept : (rule : R) × form rule k.object.signed.content x
      → IsKeptWhole type form (record { object = k; content = x })
  whole-kept h =
      (h.0, ((written, kind), begins-whole (form h.0) k.object.signed.content x h.1))

  -- and is in the form of its kind by each rule by which they mean it
  pub whole-form : (w : KeptWhole X) → k.mode ≡ Der → w.object ≡ k → w.content ≡ x → (rule : R)
      → form rule k.object.signed.content x
      → ObjectForm type (form rule) Der w.object.object.octets (whole_of w)
  whole-form w der same content rule h =
      subst (λ (o : KeptObject). ObjectForm type (form rule) Der o.object.octets
      (record { object = o.object; content = w.content })) (sym same)
      (subst (λ (y : X). ObjectForm type (form rule) Der k.object.octets
      (record { object = k.object; content = y })) (sym content) (
        (subst (λ (m : Mode). SignedForm m k.object.octets k.object) der written, kind),
        begins-whole (form rule) k.object.signed.content x h,
      ))

-- why a content is not built is why it is not signed
pub content-unsigned : (E : Type 0) (checks : List (Check BuildFault)) (long : Type 0)
    (Later : SigningError E → Type 0) (e : BuildError) → IsNoContent checks long e
    → IsNotSigned checks long Later (signing_error {E = E} e)
content-unsigned E checks long Later (unbuilt.Fault fault) h = h
content-unsigned E checks long Later unbuilt.TooLong h = (h.0, inl h.1)
content-unsigned E checks long Later unbuilt.Memory h = tt

module _ (E : Type 0) (may : List ℕ → List ℕ → List ℕ → Type 0) (once : List ℕ → Type 0)
    (b : Settings) (issuer type content digest : List ℕ) where
  -- where the checks of a content hold, why its object is not built is why it is not signed
  pub object-unsigned : (checks : List (Check BuildFault)) (long : Type 0)
      (Later : SigningError E → Type 0) (e : SigningError E) → AllHold checks
      → (IsNotBuilt may once b issuer type content digest e → Later e)
      → IsNotBuilt may once b issuer type content digest e → IsNotSigned checks long Later e
  object-unsigned checks long Later error.KeyNotFound held f h = (held, f h)
  object-unsigned checks long Later error.IncompatibleKey held f h = (held, f h)
  object-unsigned checks long Later (error.Signer e) held f h = (held, f h)
  object-unsigned checks long Later error.AttrsTooLong held f h = (held, f h)
  object-unsigned checks long Later error.TooLong held f h = (held, inr (f h))
  object-unsigned checks long Later (error.Content fault) held f h = absurd h
  object-unsigned checks long Later error.NotDer held f h = (held, f h)
  object-unsigned checks long Later error.Memory held f h = tt

  -- what building an object answers is no fault of its content
  pub never-content : {T : Type 0} (r : Result T (SigningError E)) (fault : BuildFault)
      → IfErr r (IsNotBuilt may once b issuer type content digest) → r ≡ Err (error.Content fault)
      → ⊥
  never-content {T} r fault h e =
      subst (λ (s : Result T (SigningError E)).
      IfErr s (IsNotBuilt may once b issuer type content digest)) e h
