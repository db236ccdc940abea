-- What is the name of a file needs no test that it is an IA5String.
use Rattle.std.proofs.Common.{◌≡◌, ℕ, Bool, true, false, cond, List, Some, None}
use Rattle.std.proofs.Common.{refl}
use Rattle.std.specs.Prelude.{nat_lt}
use Rattle.std.specs.List.{list_all}
use Rattle.rpki_der.specs.Tags.{IA5_STRING}
use Rattle.rpki_der.specs.declared.mode.Mode.TheVariants.{Der}
use Rattle.rpki_der.specs.Read.Parse.{◌>>=◌, value_at, ia5_of, tested}
use Rattle.rpki_files.specs.Name.{is_file_name}
use Rattle.rpki_files.specs.Manifest.Files.{file_name_at}
use Rattle.rpki_files.proofs.Names.Decided.{name-below, name-decides}
use Rattle.rpki_der.proofs.Writing.Values.{all-below}

-- the contents are a name
pub name_found : (b name r : List ℕ) → value_at IA5_STRING Der b ≡ Some (name, r)
    → is_file_name name ≡ true → file_name_at Der b ≡ Some (name, r)
unfolding tested ia5_of
name_found b name r e h =
    rw (e, all-below name (name-below name ((name-decides name).0 h)), h) refl

-- they are none, whether or not they are an IA5String
pub name_other : (b name r : List ℕ) → value_at IA5_STRING Der b ≡ Some (name, r)
    → is_file_name name ≡ false → file_name_at Der b ≡ None
unfolding tested ia5_of
name_other b name r e h = rw e (at (list_all (λ b. nat_lt b 128) name))
  where
    at : (t : Bool)
        → (((cond t (Some name) None) >>= (λ (x : List ℕ). Some (x, r)))
        >>= (λ (x : List ℕ × List ℕ). cond (is_file_name x.0) (Some x) None)) ≡ None
    at true = rw h refl
    at false = refl

-- there is no value with the tag
pub name_none : (b : List ℕ) → value_at IA5_STRING Der b ≡ None → file_name_at Der b ≡ None
unfolding tested
name_none b e = rw e refl
