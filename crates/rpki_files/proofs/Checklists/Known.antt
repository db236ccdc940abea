-- A file of a checklist that is known to be in front is read without a test.
use Rattle.std.proofs.Common.{◌≡◌, ℕ, List, Option, Some, refl, ◌∙◌}
use Rattle.rpki_der.specs.Numbers.{MAX_DEPTH}
use Rattle.rpki_der.specs.Tags.{SEQUENCE, IA5_STRING, OCTET_STRING}
use Rattle.rpki_der.specs.declared.mode.Mode.TheVariants.{Der}
use Rattle.rpki_der.specs.Read.Parse.{value_at, octets_at, optional}
use Rattle.rpki_lists.specs.Slice.{IsFound}
use Rattle.rpki_lists.proofs.Known.{there, string-in-front, string-known, front-within, read-within}
use Rattle.rpki_lists.proofs.Known.{optional-in-front, optional-known}
use Rattle.rpki_lists.proofs.OctetsInDer.{octets-in-der}
use Rattle.rpki_files.specs.Checklist.Files.{is_portable_name, portable_at, portable_if_at}
use Rattle.rpki_files.specs.Checklist.Files.{checked_fields_at, checked_at}

module _ (b : List ℕ) (h : IsFound checked_at b) (c r : List ℕ)
    (e : value_at SEQUENCE Der b ≡ Some (c, r)) where
  fields : IsFound checked_fields_at c
  fields = front-within SEQUENCE checked_fields_at b h c r e

  name : IsFound portable_if_at c
  unfolding checked_fields_at
  name = there (portable_if_at Der c) _ fields

  pub name-in-front : IsFound (optional IA5_STRING (value_at IA5_STRING)) c
  name-in-front = optional-in-front IA5_STRING portable_at (value_at IA5_STRING) c
      (λ k. string-in-front is_portable_name c k) name

  name-is : (n : Option (List ℕ)) (a : List ℕ)
      → optional IA5_STRING (value_at IA5_STRING) Der c ≡ Some (n, a)
      → portable_if_at Der c ≡ Some (n, a)
  name-is n a f = optional-known IA5_STRING portable_at (value_at IA5_STRING) c n a name
      (λ k s t g. string-known is_portable_name c k s t g) f

  pub hash-in-front : (n : Option (List ℕ)) (a : List ℕ)
      → optional IA5_STRING (value_at IA5_STRING) Der c ≡ Some (n, a)
      → IsFound (value_at OCTET_STRING) a
  unfolding checked_fields_at
  hash-in-front n a f = rw (octets-in-der a)
      at (there (octets_at MAX_DEPTH Der a) _ (rw (name-is n a f) at fields))

  pub file-known : (n : Option (List ℕ)) (a hash end : List ℕ)
      → optional IA5_STRING (value_at IA5_STRING) Der c ≡ Some (n, a)
      → value_at OCTET_STRING Der a ≡ Some (hash, end)
      → checked_at Der b ≡ Some (record { file_name = n; hash = hash }, r)
  unfolding checked_fields_at
  file-known n a hash end f g =
      let k : octets_at MAX_DEPTH Der a ≡ Some (hash, end) = octets-in-der a ∙ g in
      read-within SEQUENCE checked_fields_at b h c r (record { file_name = n; hash = hash }) end e
      (rw (name-is n a f) (rw k refl))
