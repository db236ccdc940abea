-- A file that is known to be in front is read without a test.
use Rattle.std.proofs.Common.{◌≡◌, ℕ, List, Some, refl}
use Rattle.rpki_der.specs.Tags.{SEQUENCE, IA5_STRING}
use Rattle.rpki_der.specs.declared.mode.Mode.TheVariants.{Der}
use Rattle.rpki_der.specs.Read.Parse.{value_at, bits_at}
use Rattle.rpki_lists.specs.Slice.{IsFound}
use Rattle.rpki_lists.proofs.Known.{there, string-in-front, string-known, front-within, read-within}
use Rattle.rpki_files.specs.Name.{is_file_name}
use Rattle.rpki_files.specs.Manifest.Files.{file_name_at, hash_at, file_fields_at, file_at}

module _ (b : List ℕ) (h : IsFound file_at b) (c r : List ℕ)
    (e : value_at SEQUENCE Der b ≡ Some (c, r)) where
  fields : IsFound file_fields_at c
  fields = front-within SEQUENCE file_fields_at b h c r e

  name : IsFound file_name_at c
  unfolding file_fields_at
  name = there (file_name_at Der c) _ fields

  pub name-in-front : IsFound (value_at IA5_STRING) c
  name-in-front = string-in-front is_file_name c name

  name-is : (n a : List ℕ) → value_at IA5_STRING Der c ≡ Some (n, a)
      → file_name_at Der c ≡ Some (n, a)
  name-is n a f = string-known is_file_name c name n a f

  pub hash-in-front : (n a : List ℕ) → value_at IA5_STRING Der c ≡ Some (n, a) → IsFound bits_at a
  unfolding file_fields_at
  hash-in-front n a f =
      there (bits_at Der a) _ (there (hash_at Der a) _ (rw (name-is n a f) at fields))

  pub file-known : (n a hash end : List ℕ) (unused : ℕ) → value_at IA5_STRING Der c ≡ Some (n, a)
      → bits_at Der a ≡ Some ((hash, unused), end)
      → file_at Der b ≡ Some (record { file = n; hash = hash }, r)
  unfolding file_fields_at
  file-known n a hash end unused f g =
      read-within SEQUENCE file_fields_at b h c r (record { file = n; hash = hash }) end e
      (rw (name-is n a f) (rw g refl))
