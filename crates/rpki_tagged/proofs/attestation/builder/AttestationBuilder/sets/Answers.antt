use Rattle.std.proofs.Common.{◌≡◌, ℕ, List, All, length, subst, sym}
use Rattle.rpki_basics.specs.Identifier.{identifier_length}
use Rattle.rpki_resources.specs.declared.family.AddressFamily.TheVariants.{Ipv4}
use Rattle.rpki_resources.specs.Family.{IsWithin}
use Rattle.rpki_resources.proofs.Addresses.Aligned.{built}
use Rattle.rpki_tagged.specs.Attestation.{Attestation}
use Rattle.rpki_tagged.proofs.attestation.builder.AttestationBuilder.sets.Goals as goal

pub invariant_of-result : goal.invariant_of-result
invariant_of-result c = (
  built Ipv4 c.self.inside.v4_resources c.in_ok-v4.v4
      (subst (λ (a : Attestation). All (IsWithin Ipv4) a.v4_resources) (sym c.self.view_is)
      c.requires)
      c.in_ok-v4.ensures.canonical c.in_ok-v4.ensures.numbers,
  subst (λ (ids : List (List ℕ)). All (λ id. length id ≡ identifier_length) ids)
      c.deref.ensures.value c.are_identifiers.ensures,
)
