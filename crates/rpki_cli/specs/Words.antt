-- The command line: what options and commands are written as.
use Rattle.std.specs.Prelude.{◌≡◌, ℕ, List, [], ◌∷◌, ◌++◌, Bool, true, false, not, ◌&&◌, ◌||◌, ◌==◌}
use Rattle.std.specs.Prelude.{length, map, codes, Contains, IsTrue, if◌then◌else◌}
use Rattle.std.specs.List.{before_first, after_first, slice_split, flat_map, list_all}
use Rattle.std.specs.Str.{bytes_eq}
use Rattle.std.specs.Borrow.{Bor}
use Rattle.rpki_basics.specs.Moment.{Moment, IsMoment}
use Rattle.rpki_basics.specs.Time.Form.{generalized_text}
use Rattle.rpki_cli.specs.declared.words.Kind.{Kind}
use Rattle.rpki_cli.specs.declared.words.Kind.TheVariants.{Aspa, Manifest, Roa, Rsc}
use Rattle.rpki_cli.specs.declared.words.Command.{Command}
use Rattle.rpki_cli.specs.declared.words.Command.TheVariants.{Content, ContentRta, Show, ShowRta}
use Rattle.rpki_cli.specs.declared.words.Command.TheVariants.{ShowTal, Check, Walk, Rta}
use Rattle.rpki_cli.specs.declared.words.Options.{Options}

-- the words as lists of octets
abbrev pub texts : List (Bor (List ℕ)) → List (List ℕ)
texts words = map (λ w. w.now) words

-- the word of each kind
abbrev pub kind_word : Kind → List ℕ
kind_word Aspa = codes "aspa"
kind_word Manifest = codes "manifest"
kind_word Roa = codes "roa"
kind_word Rsc = codes "rsc"

-- this word, where it is wanted
abbrev pub word_if : Bool → List ℕ → List (List ℕ)
word_if true word = word ∷ []
word_if false word = []

-- with this word an object is read in BER, else in DER
abbrev pub word_relaxed : List ℕ
word_relaxed = codes "--relaxed"

-- with this word the names in a manifest have registered extensions, and none stands twice
abbrev pub word_registered : List ℕ
word_registered = codes "--registered"

-- with this word the limit of providers is the wide one
abbrev pub word_wide : List ℕ
word_wide = codes "--wide"

-- these words after the options `--relaxed`, `--registered` and `--wide`, each of which stands at
-- most once, and in this order
abbrev pub with_options : Options → List (List ℕ) → List (List ℕ)
with_options o words = word_if o.relaxed word_relaxed
    ++ (word_if o.registered word_registered ++ (word_if o.wide word_wide ++ words))

-- the word of a moment, YYYYMMDDHHMMSSZ (RFC 5280, section 4.1.2.5.2)
unfoldable pub moment_word : Moment → List ℕ
moment_word m = generalized_text m

-- the words of a command
abbrev pub command_words : Command → List (List ℕ)
command_words (Content kind file) = codes "content" ∷ kind_word kind ∷ file ∷ []
command_words (ContentRta file) = codes "content" ∷ codes "rta" ∷ file ∷ []
command_words (Show kind file) = codes "show" ∷ kind_word kind ∷ file ∷ []
command_words (ShowRta file) = codes "show" ∷ codes "rta" ∷ file ∷ []
command_words (ShowTal file) = codes "show" ∷ codes "tal" ∷ file ∷ []
command_words (Check kind file moment verdicts anchor chain) =
    codes "check" ∷ kind_word kind ∷ file ∷ moment_word moment ∷ verdicts ∷ anchor ∷ chain
command_words (Walk file moment verdicts anchor tail) =
    codes "walk" ∷ file ∷ moment_word moment ∷ verdicts ∷ anchor ∷ tail
command_words (Rta file moment verdicts anchors) =
    codes "rta" ∷ file ∷ moment_word moment ∷ verdicts ∷ anchors

-- the word that ends the certificates of a walk
abbrev pub word_with : List ℕ
word_with = codes "with"

-- whether a word is that one
abbrev pub is_with : List ℕ → Bool
is_with word = bytes_eq word word_with

-- whether an octet is `=`
abbrev pub is_equals : ℕ → Bool
is_equals octet = octet == 61

-- Of the words after a trust anchor, those of CAs: what stands before the first `with`.
abbrev pub chain_in : List (List ℕ) → List (List ℕ)
chain_in tail = before_first is_with tail

-- Of the words after a trust anchor, the pairs NAME=PATH: what stands after the first `with`.
abbrev pub pairs_in : List (List ℕ) → List (List ℕ)
pairs_in tail = after_first is_with tail

-- the name of a pair: what stands before its first `=`
abbrev pub name_in : List ℕ → List ℕ
name_in pair = before_first is_equals pair

-- The file of a pair: what stands after its first `=`. Of a word without one the file has no name,
-- so it is no pair that may be asked for.
abbrev pub path_in : List ℕ → List ℕ
path_in pair = after_first is_equals pair

-- the names of the pairs, which are those that a manifest may have
abbrev pub names_in : List (List ℕ) → List (List ℕ)
names_in tail = map name_in (pairs_in tail)

-- the files of the pairs
abbrev pub paths_in : List (List ℕ) → List (List ℕ)
paths_in tail = map path_in (pairs_in tail)

-- the files that the words after a trust anchor name: those of CAs, and those of the pairs
abbrev pub others_in : List (List ℕ) → List (List ℕ)
others_in tail = chain_in tail ++ paths_in tail

-- whether an octet is `:`
abbrev pub is_colon : ℕ → Bool
is_colon octet = octet == 58

-- whether a word names a locator: `tal` stands before its first `=`
abbrev pub is_locator : List ℕ → Bool
is_locator word = bytes_eq (name_in word) (codes "tal")

-- whether a word names a chain of certificates: `ca` stands there
abbrev pub is_chain : List ℕ → Bool
is_chain word = bytes_eq (name_in word) (codes "ca")

-- whether a word is an anchor, tal=FILE or ca=FILE[:FILE ..]
abbrev pub is_anchor : List ℕ → Bool
is_anchor word = is_locator word || is_chain word

-- whether there are words, and each is an anchor
abbrev pub are_anchors : List (List ℕ) → Bool
are_anchors words = not (length words == 0) && list_all is_anchor words

-- The files of an anchor: what stands after its first `=`; of a chain its parts, with a `:` between
-- them. Of a word without a `=` the file has no name.
abbrev pub files_of_anchor : List ℕ → List (List ℕ)
files_of_anchor word =
    if is_locator word then path_in word ∷ [] else slice_split is_colon (path_in word)

-- the files of anchors, in their order
abbrev pub files_of_anchors : List (List ℕ) → List (List ℕ)
files_of_anchors words = flat_map files_of_anchor words

-- the files that are named by a word, in the order of the words
abbrev pub files_of : Command → List (List ℕ)
files_of (Content kind file) = file ∷ []
files_of (ContentRta file) = file ∷ []
files_of (Show kind file) = file ∷ []
files_of (ShowRta file) = file ∷ []
files_of (ShowTal file) = file ∷ []
files_of (Check kind file moment verdicts anchor chain) = file ∷ verdicts ∷ anchor ∷ chain
files_of (Walk file moment verdicts anchor tail) = file ∷ verdicts ∷ anchor ∷ others_in tail
files_of (Rta file moment verdicts anchors) = file ∷ verdicts ∷ files_of_anchors anchors

-- whether each of these files has a name
abbrev pub are_named : List (List ℕ) → Bool
are_named [] = true
are_named (file ∷ files) = not (length file == 0) && are_named files

-- A command is proper: its moment, where it has one, is one of the calendar (RFC 5280, section
-- 4.1.2.5), the words of a walk have a `with` after the trust anchor, and those of an attestation
-- end with anchors.
abbrev pub IsProper : Command → Type 0
IsProper (Check kind file moment verdicts anchor chain) = IsMoment moment
IsProper (Walk file moment verdicts anchor tail) = IsMoment moment × Contains tail word_with
IsProper (Rta file moment verdicts anchors) = IsMoment moment × IsTrue (are_anchors anchors)
IsProper other = Unit {0}

-- words after the word `walk` ask for no walk
abbrev pub AskForNoWalk : List (List ℕ) → Type 0
AskForNoWalk words = (file : List ℕ) (moment : Moment) (verdicts anchor : List ℕ)
    (tail : List (List ℕ)) → words ≡ file ∷ moment_word moment ∷ verdicts ∷ anchor ∷ tail
    → IsMoment moment → Contains tail word_with → ⊥

-- words after the word `rta` ask for no check of an attestation
abbrev pub AskForNoRta : List (List ℕ) → Type 0
AskForNoRta words = (file : List ℕ) (moment : Moment) (verdicts : List ℕ)
    (anchors : List (List ℕ)) → words ≡ file ∷ moment_word moment ∷ verdicts ∷ anchors
    → IsMoment moment → IsTrue (are_anchors anchors) → ⊥

-- whether a command is a walk, or checks an attestation
abbrev pub has_tail : Command → Bool
has_tail (Walk file moment verdicts anchor tail) = true
has_tail (Rta file moment verdicts anchors) = true
has_tail other = false

-- the words ask for nothing but, perhaps, a walk or a check of an attestation
abbrev pub AskForNothingElse : List (List ℕ) → Type 0
AskForNothingElse words = (c : Command) → has_tail c ≡ false → words ≡ command_words c
    → IsProper c → ⊥
