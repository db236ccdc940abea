-- What a question is answered on: the grounds of the question of octets that it asks.
use Rattle.std.specs.Prelude.{◌≡◌, ℕ, List, None, Result, Ok, Err, map, nat_eq, if◌then◌else◌}
use Rattle.rpki_basics.specs.Moment.{Moment, IsMoment}
use Rattle.rpki_basics.specs.declared.limits.ManifestRule.TheVariants as naming
use Rattle.rpki_basics.specs.declared.limits.ProviderLimit.TheVariants.{Narrow, Wide}
use Rattle.rpki_validation.specs.Grounds as posing
use Rattle.rpki_validation.specs.Grounds.{locator_octets}
use Rattle.rpki_validation.specs.declared.grounds.Grounds.{Grounds}
use Rattle.rpki_validation.specs.declared.question.Manner.{Manner}
use Rattle.rpki_validation.specs.declared.question.Question.{Question as Posed}
use Rattle.rpki_validation.specs.declared.refusal.Refusal.{Refusal as Cause}
use Rattle.rpki_check.specs.Refusal.{IsToldAs}
use Rattle.rpki_check.specs.declared.grounds.Copies.{Copies}
use Rattle.rpki_check.specs.declared.question.Date.{Date}
use Rattle.rpki_check.specs.declared.question.Octets.{Octets}
use Rattle.rpki_check.specs.declared.question.Question.{Question}
use Rattle.rpki_check.specs.declared.refusal.Refusal.{Refusal}
use Rattle.rpki_check.specs.declared.refusal.Refusal.TheVariants.{Memory, NoMoment}

-- the moment of a date, if there is one
abbrev pub moment_in : Date → Moment
moment_in d = record {
  year = d.year;
  month = d.month;
  day = d.day;
  hour = d.hour;
  minute = d.minute;
  second = d.second;
}

-- the manner that a question asks for: an option is on if it is not 0
abbrev pub manner_in : Question → Manner
manner_in q = record {
  strict = nat_eq q.relaxed 0;
  names = if nat_eq q.registered 0 then naming.Any else naming.Registered;
  limit = if nat_eq q.wide 0 then Narrow else Wide;
}

-- the octets that are lent, one each
abbrev pub lent : List Octets → List (List ℕ)
lent octets = map (λ o. o.octets.now) octets

-- These are copies of the octets of a question.
pub record AreCopies (q : Question) (c : Copies) : Type 0 where
  pub anchor : c.anchor ≡ q.anchor.now
  pub chain : c.chain.items ≡ lent q.chain.now
  pub lists : c.lists.items ≡ lent q.lists.now

-- A question asks this: at its moment, which there is, in its manner, of the octets that it lends, and
-- without a locator.
pub record Asks (q : Question) (p : Posed) : Type 0 where
  pub is_moment : IsMoment p.moment
  pub moment : p.moment ≡ moment_in q.moment
  pub manner : p.manner ≡ manner_in q
  pub anchor : p.anchor.now ≡ q.anchor.now
  pub locator : locator_octets p ≡ None
  pub chain : p.chain.now ≡ lent q.chain.now
  pub lists : p.lists.now ≡ lent q.lists.now

-- These are the grounds of a question: those of what it asks (`AreGroundsOf` of rpki_validation).
pub record AreGroundsOf (q : Question) (g : Grounds) : Type 0 where
  pub posed : Posed
  pub asks : Asks q posed
  pub are : posing.AreGroundsOf posed g

-- What a question asks has no grounds (`HasNoGrounds` of rpki_validation), which C is told so.
pub record IsUngrounded (q : Question) (refusal : Refusal) : Type 0 where
  pub posed : Posed
  pub asks : Asks q posed
  pub cause : Cause
  pub none : posing.HasNoGrounds posed cause
  pub told : IsToldAs cause refusal

-- Why a question has no grounds, unless memory ran out: there is no such moment; or there is, and what
-- it asks has none.
abbrev pub HasNoGrounds : Question → Refusal → Type 0
HasNoGrounds q NoMoment = IsMoment (moment_in q.moment) → ⊥
HasNoGrounds q Memory = Unit {0}
HasNoGrounds q refusal = IsUngrounded q refusal

-- what is answered of a question: its grounds, or why it has none
abbrev pub IsGrounded : Question → Result Grounds Refusal → Type 0
IsGrounded q (Ok g) = AreGroundsOf q g
IsGrounded q (Err refusal) = HasNoGrounds q refusal

-- what is answered of what it asks
abbrev pub IsPosedGrounded : Posed → Result Grounds Refusal → Type 0
IsPosedGrounded p (Ok g) = posing.AreGroundsOf p g
IsPosedGrounded p (Err refusal) =
    (cause : Cause) × posing.HasNoGrounds p cause × IsToldAs cause refusal
