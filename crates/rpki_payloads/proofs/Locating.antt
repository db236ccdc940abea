-- Files that are read one after the other.
use Rattle.std.proofs.Common.{◌≡◌, ◌∙◌, ℕ, ◌+◌, ◌<◌, List, [], ◌∷◌, ◌++◌, sym, ap, get_or, take, drop}
use Rattle.std.proofs.Common.{add-one, length, All, Err}
use Rattle.std.proofs.Math.Seq.{drop-cons}
use Rattle.std.proofs.lemmas.List.{take-append-drop}
use Rattle.std.proofs.lemmas.List.Elements.{All-nil, All-cons}
use Rattle.std.specs.List.{AllZip}
use Rattle.rpki_tal.specs.Tal.{Locator}
use Rattle.rpki_payloads.specs.Locators.{File, IsLocator, IsNamedLocator, IsNoLocator, AreLocators}
use Rattle.rpki_payloads.specs.declared.locators.NamedLocator.{NamedLocator}
use Rattle.rpki_payloads.specs.declared.locators.LocatorFault.{LocatorFault}
use Rattle.rpki_payloads.specs.declared.locators.LocatorFault.TheVariants.{Bad, Memory}

abbrev locates : File → Type 0
locates f = (tal : Locator) × IsLocator f tal

-- those that were read are locators
are-locators : (files : List File) (locators : List NamedLocator)
    → AllZip IsNamedLocator files locators
    → All locates files
are-locators [] locators h = All-nil locates
are-locators (f ∷ files) [] h = absurd h
are-locators (f ∷ files) (l ∷ locators) h =
    All-cons locates f files (l.locator, h.0.1) (are-locators files locators h.1)

-- the first that is none, after those that were read
pub one-bad : (files : List File) (place : ℕ) (file : File) (locators : List NamedLocator)
    (fault : LocatorFault) → place < length files → file ≡ get_or files place file
    → AllZip IsNamedLocator (take place files) locators → IsNoLocator file fault
    → AreLocators files (Err fault)
one-bad files place file locators (Bad same) lt is each h = record {
  before = take place files;
  file = file;
  after = drop (place + 1) files;
  cut = sym (take-append-drop place files)
      ∙ ap (λ (l : List File). take place files ++ l)
      (rw add-one (drop-cons files place file lt)
      ∙ ap (λ (f : File). f ∷ drop (place + 1) files) (sym is));
  locators = are-locators (take place files) locators each;
  named = h.0;
  bad = h.1;
}
one-bad files place file locators Memory lt is each h = tt
