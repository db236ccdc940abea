-- What a question is answered on: its moment, its revocation lists, its locator, and the issuer that
-- its certificates make.
use Rattle.std.specs.Prelude.{◌≡◌, ℕ, List, Result, Ok, Err, Option, None, Some, Vec, option_map}
use Rattle.std.specs.Prelude.{take}
use Rattle.std.specs.List.{AllZip}
use Rattle.std.specs.declared.alloc.Global.{Global}
use Rattle.rpki_der.specs.declared.mode.Mode.TheVariants.{Der}
use Rattle.rpki_der.specs.Grammar.{HasNoFront}
use Rattle.rpki_crls.specs.Crl.{CrlForm, KeptCrl}
use Rattle.rpki_tal.specs.Tal.{Locator}
use Rattle.rpki_validation.specs.Issuer.{IsIssuerOf}
use Rattle.rpki_validation.specs.Locator.{IsGiven, IsNoLocator}
use Rattle.rpki_validation.specs.Revoked.{IsAt, IsKeptList}
use Rattle.rpki_validation.specs.declared.grounds.Grounds.{Grounds}
use Rattle.rpki_validation.specs.declared.question.Question.{Question}
use Rattle.rpki_validation.specs.declared.refusal.IssuerFault.{IssuerFault}
use Rattle.rpki_validation.specs.declared.refusal.Refusal.{Refusal}
use Rattle.rpki_validation.specs.declared.refusal.Refusal.TheVariants.{Issuer, Memory, NoList}
use Rattle.rpki_validation.specs.declared.refusal.Refusal.TheVariants.{NoLocator}

-- The octets begin with these lists, one each.
abbrev pub AreLists : List (List ℕ) → List KeptCrl → Type 0
AreLists octets lists = AllZip IsKeptList octets lists

-- The octets at this place begin with no list, and all before it begin with one each.
pub record IsNoListAt (octets : List (List ℕ)) (place : ℕ) : Type 0 where
  pub one : List ℕ
  pub placed : IsAt octets place one
  pub none : HasNoFront (CrlForm Der) one
  pub before : List KeptCrl
  pub are_lists : AreLists (take place octets) before

-- the octets of a question's locator, if there is one
abbrev pub locator_octets : Question → Option (List ℕ)
locator_octets q = option_map (λ o. o.now) q.locator

-- These are the grounds of a question: its moment, its lists and its locator are these, and its
-- certificates make this issuer, none of which a list revokes.
pub record AreGroundsOf (q : Question) (g : Grounds) : Type 0 where
  pub moment : g.moment ≡ q.moment
  pub locator : IsGiven (locator_octets q) g.locator
  pub lists : AreLists q.lists.now g.lists.items
  pub issuer : IsIssuerOf g.lists.items g.moment q.anchor.now g.locator q.chain.now (Ok g.issuer)

-- The lists and the locator of a question are these, and its certificates make no issuer for this
-- fault.
pub record HasNoIssuer (q : Question) (fault : IssuerFault) : Type 0 where
  pub locator : Option Locator
  pub is_given : IsGiven (locator_octets q) locator
  pub lists : List KeptCrl
  pub are_lists : AreLists q.lists.now lists
  pub made : IsIssuerOf lists q.moment q.anchor.now locator q.chain.now (Err fault)

-- Its locator is a locator, if there is one.
abbrev pub IsLocated : Question → Type 0
IsLocated q = (locator : Option Locator) × IsGiven (locator_octets q) locator

-- Why a question has no grounds: its locator is malformed; or the locator is good, and this is the
-- place of its first malformed list; or both are good, and its certificates make no issuer. Want of
-- memory is always possible.
abbrev pub HasNoGrounds : Question → Refusal → Type 0
HasNoGrounds q NoLocator = IsNoLocator (locator_octets q)
HasNoGrounds q (NoList place) = IsLocated q × IsNoListAt q.lists.now place
HasNoGrounds q (Issuer fault) = HasNoIssuer q fault
HasNoGrounds q Memory = Unit {0}
HasNoGrounds q other = ⊥

-- what is answered of a question: its grounds, or why it has none
abbrev pub IsGrounded : Question → Result Grounds Refusal → Type 0
IsGrounded q (Ok g) = AreGroundsOf q g
IsGrounded q (Err refusal) = HasNoGrounds q refusal

-- Both locators have the same URIs and the same key, or there is none.
abbrev pub IsSameLocator : Option Locator → Option Locator → Type 0
IsSameLocator None None = Unit {0}
IsSameLocator None (Some m) = ⊥
IsSameLocator (Some l) None = ⊥
IsSameLocator (Some l) (Some m) = (l.uris ≡ m.uris) × (l.key ≡ m.key)

-- Both have one moment, the same locator, the same lists and one issuer.
pub record AreSame (g h : Grounds) : Type 0 where
  pub moment : g.moment ≡ h.moment
  pub locator : IsSameLocator g.locator h.locator
  pub lists : g.lists.items ≡ h.lists.items
  pub issuer : g.issuer ≡ h.issuer

-- what is answered of octets that are to begin with lists, one each
abbrev pub IsListing : List (List ℕ) → Result (Vec KeptCrl Global) Refusal → Type 0
IsListing octets (Ok lists) = AreLists octets lists.items
IsListing octets (Err (NoList place)) = IsNoListAt octets place
IsListing octets (Err Memory) = Unit {0}
IsListing octets (Err other) = ⊥
