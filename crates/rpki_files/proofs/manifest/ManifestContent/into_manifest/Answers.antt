use Rattle.std.proofs.Common.{List, ℕ, inl, refl, subst, sym, ◌∙◌}
use Rattle.rpki_der.specs.declared.mode.Mode.TheVariants.{Der}
use Rattle.rpki_basics.specs.declared.limits.ManifestRule.TheVariants.{Any}
use Rattle.rpki_signing.proofs.Written.{long-contents}
use Rattle.rpki_files.specs.Manifest.{ManifestForm, manifest_contents}
use Rattle.rpki_files.proofs.manifest.ManifestContent.into_manifest.Goals as goal

pub returns-in-Err-TooLong-clause-refused : goal.returns-in-Err-TooLong-clause-refused
returns-in-Err-TooLong-clause-refused g c = inl (
  refl,
  long-contents (manifest_contents c.args.self)
      (rw c.in-Err-TooLong.field-0-is at c.in-Err-TooLong.ensures.octets),
)

pub finalize_content-requires-clause-said : goal.finalize_content-requires-clause-said
finalize_content-requires-clause-said g c = (
  Any,
  subst (λ (o : List ℕ). ManifestForm Any Der o c.args.self)
      (sym (c.deref.ensures.value ∙ c.in-Ok.ensures.octets.0))
      (c.octets.ensures.form Any tt c.in-Ok.ensures.octets.2.0),
)

pub returns-in-Ok-clause-form : goal.returns-in-Ok-clause-form
returns-in-Ok-clause-form g c = λ rule meets. c.finalize_content.ensures.form rule
    (subst (λ (o : List ℕ). ManifestForm rule Der o c.args.self)
    (sym (c.deref.ensures.value ∙ c.in-Ok.ensures.octets.0))
    (c.octets.ensures.form rule meets c.in-Ok.ensures.octets.2.0))
