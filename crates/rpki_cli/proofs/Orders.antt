-- No words ask for two things.
use Rattle.std.proofs.Common.{rules, ◌≡◌, ◌++◌, ℕ, List, ◌∷◌, Bool, true, false, sym, refl}
use Rattle.std.proofs.Common.{Option, Some, None, ap, ◌∙◌, codes}
use Rattle.std.specs.Prelude.{MatchOption}
use Rattle.rpki_basics.specs.Moment.{Moment, IsMoment}
use Rattle.rpki_basics.specs.Time.Form.{generalized_text}
use Rattle.rpki_basics.specs.Time.Read.{generalized_of}
use Rattle.rpki_basics.proofs.Times.Exact.{exact-generalized}
use Rattle.rpki_cli.specs.Command.{objects_language}
use Rattle.rpki_cli.specs.Language.{IsAsked, AskForNothing}
use Rattle.rpki_cli.specs.Words.{word_if, word_relaxed, word_registered, word_wide, with_options}
use Rattle.rpki_cli.specs.Words.{moment_word, command_words, files_of, are_named, IsProper}
use Rattle.rpki_cli.specs.Words.{AskForNoWalk, AskForNoRta, AskForNothingElse, has_tail}
use Rattle.rpki_cli.specs.declared.words.Command.{Command}
use Rattle.rpki_cli.specs.declared.words.Command.TheVariants.{Content, ContentRta, Show, ShowRta}
use Rattle.rpki_cli.specs.declared.words.Command.TheVariants.{ShowTal, Check, Walk, Rta}
use Rattle.rpki_cli.specs.declared.words.Order.{Order}

some-once : (o : Option Moment) (a b : Moment) → o ≡ Some a → o ≡ Some b → a ≡ b
some-once o a b p q = cc

-- no word names two moments
pub moments-once : (a b : Moment) → IsMoment a → IsMoment b → moment_word a ≡ moment_word b → a ≡ b
unfolding moment_word
moments-once a b i j e = some-once (generalized_of (generalized_text a)) a b
    (exact-generalized.complete (generalized_text a) a (refl, i))
    (exact-generalized.complete (generalized_text a) b (e, j))

-- the moment of a command, where it has one, is such a one
abbrev HasTime : (Moment → Type 0) → Command → Type 0
HasTime P (Check kind file moment verdicts anchor chain) = P moment
HasTime P (Walk file moment verdicts anchor tail) = P moment
HasTime P (Rta file moment verdicts anchors) = P moment
HasTime P other = Unit {0}

in-time : (c : Command) → IsProper c → HasTime IsMoment c
in-time (Content kind file) i = i
in-time (ContentRta file) i = i
in-time (Show kind file) i = i
in-time (ShowRta file) i = i
in-time (ShowTal file) i = i
in-time (Check kind file moment verdicts anchor chain) i = i
in-time (Walk file moment verdicts anchor tail) i = i.0
in-time (Rta file moment verdicts anchors) i = i.0

commands-by : (P : Moment → Type 0)
    → ((a b : Moment) → P a → P b → moment_word a ≡ moment_word b → a ≡ b)
    → (a b : Command) → HasTime P a → HasTime P b → command_words a ≡ command_words b → a ≡ b
commands-by P once a b i j e = search (rules, once)

rest-same : {word : List ℕ} {a b : List (List ℕ)} → word ∷ a ≡ word ∷ b → a ≡ b
rest-same e = cc

rta-not-walk : (rest tail : List (List ℕ)) → codes "rta" ∷ rest ≡ codes "walk" ∷ tail → ⊥
rta-not-walk rest tail e = search rules

walk-first : (c : Command) (rest : List (List ℕ)) → has_tail c ≡ false
    → command_words c ≡ codes "walk" ∷ rest → ⊥
walk-first c rest n e = search rules

pub walk_none : (words rest : List (List ℕ)) → words ≡ codes "walk" ∷ rest → AskForNoWalk rest
    → (c : Command) → words ≡ command_words c → IsProper c → ⊥
walk_none words rest w n (Walk f m v a t) e i = n f m v a t (rest-same (sym w ∙ e)) i.0 i.1
walk_none words rest w n (Content k f) e i = walk-first (Content k f) rest refl (sym e ∙ w)
walk_none words rest w n (ContentRta f) e i = walk-first (ContentRta f) rest refl (sym e ∙ w)
walk_none words rest w n (Show k f) e i = walk-first (Show k f) rest refl (sym e ∙ w)
walk_none words rest w n (ShowRta f) e i = walk-first (ShowRta f) rest refl (sym e ∙ w)
walk_none words rest w n (ShowTal f) e i = walk-first (ShowTal f) rest refl (sym e ∙ w)
walk_none words rest w n (Check k f m v a c) e i =
    walk-first (Check k f m v a c) rest refl (sym e ∙ w)
walk_none words rest w n (Rta f m v a) e i = rta-not-walk _ rest (sym e ∙ w)

pub walk_of : (words rest : List (List ℕ)) (r : Option Command) → words ≡ codes "walk" ∷ rest
    → MatchOption r (AskForNoWalk rest)
    (λ c. (codes "walk" ∷ rest ≡ command_words c) × IsProper c)
    → MatchOption r ((c : Command) → words ≡ command_words c → IsProper c → ⊥)
    (λ c. (words ≡ command_words c) × IsProper c)
walk_of words rest None w n = walk_none words rest w n
walk_of words rest (Some c) w h = (w ∙ h.0, h.1)

rta-first : (c : Command) (rest : List (List ℕ)) → has_tail c ≡ false
    → command_words c ≡ codes "rta" ∷ rest → ⊥
rta-first c rest n e = search rules

pub rta_none : (words rest : List (List ℕ)) → words ≡ codes "rta" ∷ rest → AskForNoRta rest
    → (c : Command) → words ≡ command_words c → IsProper c → ⊥
rta_none words rest w n (Rta f m v a) e i = n f m v a (rest-same (sym w ∙ e)) i.0 i.1
rta_none words rest w n (Content k f) e i = rta-first (Content k f) rest refl (sym e ∙ w)
rta_none words rest w n (ContentRta f) e i = rta-first (ContentRta f) rest refl (sym e ∙ w)
rta_none words rest w n (Show k f) e i = rta-first (Show k f) rest refl (sym e ∙ w)
rta_none words rest w n (ShowRta f) e i = rta-first (ShowRta f) rest refl (sym e ∙ w)
rta_none words rest w n (ShowTal f) e i = rta-first (ShowTal f) rest refl (sym e ∙ w)
rta_none words rest w n (Check k f m v a c) e i =
    rta-first (Check k f m v a c) rest refl (sym e ∙ w)
rta_none words rest w n (Walk f m v a t) e i = rta-not-walk rest _ (sym w ∙ e)

pub rta_of : (words rest : List (List ℕ)) (r : Option Command) → words ≡ codes "rta" ∷ rest
    → MatchOption r (AskForNoRta rest)
    (λ c. (codes "rta" ∷ rest ≡ command_words c) × IsProper c)
    → MatchOption r ((c : Command) → words ≡ command_words c → IsProper c → ⊥)
    (λ c. (words ≡ command_words c) × IsProper c)
rta_of words rest None w n = rta_none words rest w n
rta_of words rest (Some c) w h = (w ∙ h.0, h.1)

other_none : (words : List (List ℕ)) → ((rest : List (List ℕ)) → words ≡ codes "walk" ∷ rest → ⊥)
    → ((rest : List (List ℕ)) → words ≡ codes "rta" ∷ rest → ⊥)
    → AskForNothingElse words → (c : Command) → words ≡ command_words c → IsProper c → ⊥
other_none words w r n (Walk f m v a t) e i = w _ e
other_none words w r n (Rta f m v a) e i = r _ e
other_none words w r n (Content k f) e i = n (Content k f) refl e i
other_none words w r n (ContentRta f) e i = n (ContentRta f) refl e i
other_none words w r n (Show k f) e i = n (Show k f) refl e i
other_none words w r n (ShowRta f) e i = n (ShowRta f) refl e i
other_none words w r n (ShowTal f) e i = n (ShowTal f) refl e i
other_none words w r n (Check k f m v a c) e i = n (Check k f m v a c) refl e i

pub other_of : (words : List (List ℕ)) (o : Option Command)
    → ((rest : List (List ℕ)) → words ≡ codes "walk" ∷ rest → ⊥)
    → ((rest : List (List ℕ)) → words ≡ codes "rta" ∷ rest → ⊥)
    → MatchOption o (AskForNothingElse words) (λ c. (words ≡ command_words c) × IsProper c)
    → MatchOption o ((c : Command) → words ≡ command_words c → IsProper c → ⊥)
    (λ c. (words ≡ command_words c) × IsProper c)
other_of words None w r n = other_none words w r n
other_of words (Some c) w r h = h

pub ruleset by_first_word = (walk_of, rta_of, other_of)

pub commands-once : (a b : Command) → IsProper a → IsProper b → command_words a ≡ command_words b
    → a ≡ b
commands-once a b i j e =
    commands-by IsMoment moments-once a b (in-time a i) (in-time b j) e

not-wide : (rest : List (List ℕ)) (c : Command) → word_wide ∷ rest ≡ command_words c → ⊥
not-wide rest c e = search rules

not-registered : (rest : List (List ℕ)) (w : Bool) (c : Command)
    → word_registered ∷ rest ≡ word_if w word_wide ++ command_words c → ⊥
not-registered rest w c e = search rules

not-relaxed : (rest : List (List ℕ)) (r w : Bool) (c : Command)
    → word_relaxed ∷ rest ≡ word_if r word_registered ++ (word_if w word_wide ++ command_words c)
    → ⊥
not-relaxed rest r w c e = search rules

wide-once : (v w : Bool) (a b : Command) → IsProper a → IsProper b
    → word_if v word_wide ++ command_words a ≡ word_if w word_wide ++ command_words b
    → (v ≡ w) × (a ≡ b)
wide-once true true a b i j e = (refl, commands-once a b i j cc)
wide-once true false a b i j e = absurd (not-wide _ b e)
wide-once false true a b i j e = absurd (not-wide _ a (sym e))
wide-once false false a b i j e = (refl, commands-once a b i j e)

registered-once : (r s v w : Bool) (a b : Command) → IsProper a → IsProper b
    → word_if r word_registered
    ++ (word_if v word_wide ++ command_words a) ≡ word_if s word_registered
    ++ (word_if w word_wide ++ command_words b) → (r ≡ s) × (v ≡ w) × (a ≡ b)
registered-once true true v w a b i j e = let p = wide-once v w a b i j cc in (refl, p.0, p.1)
registered-once true false v w a b i j e = absurd (not-registered _ w b e)
registered-once false true v w a b i j e = absurd (not-registered _ v a (sym e))
registered-once false false v w a b i j e = let p = wide-once v w a b i j e in (refl, p.0, p.1)

relaxed-once : (x y r s v w : Bool) (a b : Command) → IsProper a → IsProper b
    → word_if x word_relaxed
    ++ (word_if r word_registered ++ (word_if v word_wide ++ command_words a))
    ≡ word_if y word_relaxed
    ++ (word_if s word_registered ++ (word_if w word_wide ++ command_words b))
    → (x ≡ y) × (r ≡ s) × (v ≡ w) × (a ≡ b)
relaxed-once true true r s v w a b i j e = let p = registered-once r s v w a b i j cc in
    (refl, p.0, p.1, p.2)
relaxed-once true false r s v w a b i j e = absurd (not-relaxed _ s w b e)
relaxed-once false true r s v w a b i j e = absurd (not-relaxed _ r v a (sym e))
relaxed-once false false r s v w a b i j e = let p = registered-once r s v w a b i j e in
    (refl, p.0, p.1, p.2)

abbrev made : Bool → Bool → Bool → Command → Order Command
made x r v a = record { options = record { relaxed = x; registered = r; wide = v }; command = a }

made-same : (x y r s v w : Bool) (a b : Command) → x ≡ y → r ≡ s → v ≡ w → a ≡ b
    → made x r v a ≡ made y s w b
made-same x y r s v w a b h i j k = cc

pub orders-once : (a b : Order Command) → IsProper a.command → IsProper b.command
    → with_options a.options (command_words a.command)
    ≡ with_options b.options (command_words b.command) → a ≡ b
orders-once a b i j e =
    let h = relaxed-once a.options.relaxed b.options.relaxed a.options.registered
    b.options.registered a.options.wide b.options.wide a.command b.command i j e in
    made-same a.options.relaxed b.options.relaxed a.options.registered b.options.registered
    a.options.wide b.options.wide a.command b.command h.0 h.1 h.2 h.3

-- no words ask for two things
pub asked-once : (words : List (List ℕ)) (a b : Order Command) → IsAsked objects_language words a
    → IsAsked objects_language words b → a ≡ b
asked-once words a b h k = orders-once a b h.2 k.2 (sym h.0 ∙ k.0)

not-named : (b : Bool) → b ≡ true → b ≡ false → ⊥
not-named b t f = cc

-- words of a thing whose files have no names ask for nothing
pub asked-unnamed : (words : List (List ℕ)) (o : Order Command)
    → words ≡ with_options o.options (command_words o.command) → IsProper o.command
    → are_named (files_of o.command) ≡ false → AskForNothing objects_language words
asked-unnamed words o e i n = λ p asked.
    let same = orders-once p o asked.2 i (sym asked.0 ∙ e) in
    not-named (are_named (files_of p.command)) asked.1
    (ap (λ (q : Order Command). are_named (files_of q.command)) same ∙ n)
