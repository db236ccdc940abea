-- Trust anchor locators in files.
use Rattle.std.specs.Prelude.{◌≡◌, ℕ, List, ◌∷◌, ◌++◌, All, Result, Ok, Err, Vec}
use Rattle.std.specs.Borrow.{Bor}
use Rattle.std.specs.List.{AllZip}
use Rattle.std.specs.declared.alloc.Global.{Global}
use Rattle.rpki_tal.specs.Form.{IsNoTal, IsOnlyTal}
use Rattle.rpki_tal.specs.Tal.{Locator}
use Rattle.rpki_tal.specs.declared.error.ReadError.{ReadError}
use Rattle.rpki_tal.specs.declared.error.ReadError.TheVariants as errors
use Rattle.rpki_relying_party.specs.Names.{locator_name}
use Rattle.rpki_payloads.specs.declared.locators.NamedLocator.{NamedLocator}
use Rattle.rpki_payloads.specs.declared.locators.LocatorFault.{LocatorFault}
use Rattle.rpki_payloads.specs.declared.locators.LocatorFault.TheVariants.{Bad, Memory}

-- a file: the word that names it, and its octets
abbrev pub File : Type 0
File = Bor (List ℕ) × List ℕ

-- the file is the text of this locator and of no other (RFC 8630, section 2.2)
abbrev pub IsLocator : File → Locator → Type 0
IsLocator file tal = IsOnlyTal file.1 tal.uris tal.key

-- The first of the files that is no locator is the one of this word.
pub record IsFirstBad (files : List File) (word : List ℕ) : Type 0 where
  pub before : List File
  pub file : File
  pub after : List File
  pub cut : files ≡ before ++ file ∷ after
  pub locators : All (λ f. (tal : Locator) × IsLocator f tal) before
  pub named : word ≡ file.0.now
  pub bad : IsNoTal file.1

-- what is read of a file that is a locator
abbrev pub IsNamedLocator : File → NamedLocator → Type 0
IsNamedLocator file l = (l.name.now ≡ locator_name file.0.now) × IsLocator file l.locator

-- why a file is no locator
abbrev pub IsNoLocator : File → LocatorFault → Type 0
IsNoLocator file (Bad word) = (word.now ≡ file.0.now) × IsNoTal file.1
IsNoLocator file Memory = Unit {0}

-- the fault of a file that this word names, where it is refused so as a locator: want of memory is
-- that, and every other fault says that it is none
abbrev pub IsFaultOf : ReadError → List ℕ → LocatorFault → Type 0
IsFaultOf errors.Memory word fault = fault ≡ Memory
IsFaultOf error word Memory = ⊥
IsFaultOf error word (Bad same) = same.now ≡ word

-- what is read of files: the locators, in their order, or the first that is none, unless memory
-- runs out
abbrev pub AreLocators : List File → Result (Vec NamedLocator Global) LocatorFault → Type 0
AreLocators files (Ok locators) = AllZip IsNamedLocator files locators.items
AreLocators files (Err (Bad word)) = IsFirstBad files word.now
AreLocators files (Err Memory) = Unit {0}
