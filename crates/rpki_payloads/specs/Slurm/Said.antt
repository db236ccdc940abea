-- The text of local exceptions: what its JSON value says, member by member, and what it may say. It
-- is refused whole for any deviation from RFC 8416 (section 3.1), but for this project's own rules.
use Rattle.std.specs.Prelude.{◌≡◌, ⊤, ℕ, ◌-◌, ◌*◌, ◌^◌, ◌%◌, ◌==◌, ◌≤◌, true, List, [], ◌∷◌}
use Rattle.std.specs.Prelude.{Option, None, Some, IsSome, String, string_bytes, codes}
use Rattle.std.specs.Prelude.{option_and_then}
use Rattle.std.specs.List.{after_first, before_first, Contains}
use Rattle.std.specs.Net.Addr.{ipv4_bits, ipv6_bits}
use Rattle.std.specs.Net.Grammar.{IsIpText, IsNumber}
use Rattle.std.specs.declared.alloc.Global.{Global}
use Rattle.std.specs.declared.net.ip_addr.IpAddr.{IpAddr}
use Rattle.std.specs.declared.net.ip_addr.IpAddr.TheVariants.{V4, V6}
use Rattle.serde_json.specs.Data.{Data, Items, no_items, item, Members, no_members, member}
use Rattle.serde_json.specs.Find.{as_array, as_null, as_number, as_object, as_str, as_u64, get}
use Rattle.serde_json.specs.Read.{read}
use Rattle.rpki_payloads.specs.Slurm.Valid.{are_valid, most_bits}
use Rattle.rpki_payloads.specs.declared.slurm.prefix.SlurmPrefix.{SlurmPrefix}
use Rattle.rpki_payloads.specs.declared.slurm.text.AspaAssertion.{AspaAssertion}
use Rattle.rpki_payloads.specs.declared.slurm.text.AspaFilter.{AspaFilter}
use Rattle.rpki_payloads.specs.declared.slurm.text.Assertions.{Assertions}
use Rattle.rpki_payloads.specs.declared.slurm.text.Exceptions.{Exceptions}
use Rattle.rpki_payloads.specs.declared.slurm.text.Filters.{Filters}
use Rattle.rpki_payloads.specs.declared.slurm.text.PrefixAssertion.{PrefixAssertion}
use Rattle.rpki_payloads.specs.declared.slurm.text.PrefixFilter.{PrefixFilter}
use Rattle.rpki_payloads.specs.declared.slurm.text.RouterKeyAssertion.{RouterKeyAssertion}
use Rattle.rpki_payloads.specs.declared.slurm.text.RouterKeyFilter.{RouterKeyFilter}

-- ---- members

-- each member has one of these names
abbrev pub AreNamed : List (List ℕ) → Members → Type 0
AreNamed names no_members = ⊤
AreNamed names (member name d ms) = Contains names name × AreNamed names ms

-- the value is an object, and has no members but some of those with these names
abbrev pub OnlyHas : List (List ℕ) → Data → Type 0
OnlyHas names d = (ms : Members) × (as_object d ≡ Some ms) × AreNamed names ms

-- the member is there, and says this
abbrev pub MemberSays : {X : Type 0} → (Data → X → Type 0) → Option Data → X → Type 0
MemberSays Says None x = ⊥
MemberSays Says (Some d) x = Says d x

-- The member says this, or is left out or null where there is nothing. That it may be null is this
-- project's own rule.
abbrev pub MaySay : {X : Type 0} → (Data → X → Type 0) → Option Data → Option X → Type 0
MaySay Says None x = x ≡ None
MaySay Says (Some d) None = IsSome (as_null d)
MaySay Says (Some d) (Some x) = Says d x

-- the items say these, one each, in order
abbrev pub ItemsSay : {X : Type 0} → (Data → X → Type 0) → Items → List X → Type 0
ItemsSay Says no_items [] = ⊤
ItemsSay Says no_items (x ∷ xs) = ⊥
ItemsSay Says (item d ds) [] = ⊥
ItemsSay Says (item d ds) (x ∷ xs) = Says d x × ItemsSay Says ds xs

-- the value is a list, whose items say these
abbrev pub ListSays : {X : Type 0} → (Data → X → Type 0) → Data → List X → Type 0
ListSays Says d xs = (ds : Items) × (as_array d ≡ Some ds) × ItemsSay Says ds xs

-- The member is a list whose items say these, or it is left out, and there are none. That version 2
-- may leave out its lists of ASPAs is this project's own rule.
abbrev pub ListMaySay : {X : Type 0} → (Data → X → Type 0) → Option Data → List X → Type 0
ListMaySay Says None xs = xs ≡ []
ListMaySay Says (Some d) xs = ListSays Says d xs

-- a member by either of two names, unless there is one of each
abbrev pub either_member : Option Data → Option Data → Option Data
either_member None other = other
either_member (Some d) None = Some d
either_member (Some d) (Some e) = None

-- ---- texts, numbers and prefixes

-- the value is this text
abbrev pub IsTextOf : Data → String Global → Type 0
IsTextOf d text = as_str d ≡ Some (string_bytes text)

-- the value is this number
abbrev pub IsNumberOf : Data → ℕ → Type 0
IsNumberOf d n = option_and_then as_u64 (as_number d) ≡ Some n

-- the family and the bits of an address, from the first of 128 on
abbrev pub family_in : IpAddr → ℕ
family_in (V4 a) = 1
family_in (V6 a) = 2

abbrev pub bits_in : IpAddr → ℕ
bits_in (V4 a) = ipv4_bits a * 2 ^ 96
bits_in (V6 a) = ipv6_bits a

-- The text writes this prefix: before its first slash an address, and after it the length in
-- decimal digits. It is no longer than an address of its family, and has no bit set after its
-- length. That an address of IPv6 may have any form of RFC 4291, and the length zeros before it, is
-- this project's own rule.
pub record IsPrefixText (text : List ℕ) (p : SlurmPrefix) : Type 0 where
  pub ip : IpAddr
  pub address : IsIpText (before_first (λ c. c == 47) text) ip
  pub family : p.family ≡ family_in ip
  pub addr : p.addr ≡ bits_in ip
  pub len : IsNumber 10 (after_first (λ c. c == 47) text) p.len
  pub within : p.len ≤ most_bits p.family
  pub aligned : p.addr % 2 ^ (128 - p.len) ≡ 0

-- the value is such a text
abbrev pub IsPrefixOf : Data → SlurmPrefix → Type 0
IsPrefixOf d p = (text : List ℕ) × (as_str d ≡ Some text) × IsPrefixText text p

-- ---- filters (RFC 8416, section 3.3)

-- a filter of origins (section 3.3.1)
pub record IsPrefixFilterOf (d : Data) (f : PrefixFilter) : Type 0 where
  pub members : OnlyHas (codes "prefix" ∷ codes "asn" ∷ codes "comment" ∷ []) d
  pub prefix : MaySay IsPrefixOf (get (codes "prefix") d) f.prefix
  pub asn : MaySay IsNumberOf (get (codes "asn") d) f.asn
  pub comment : MaySay IsTextOf (get (codes "comment") d) f.comment

-- A filter of router keys (section 3.3.2). That the key's identifier may be any text is this
-- project's own rule: it has no effect here.
pub record IsRouterKeyFilterOf (d : Data) (f : RouterKeyFilter) : Type 0 where
  pub members : OnlyHas (codes "asn" ∷ codes "SKI" ∷ codes "comment" ∷ []) d
  pub asn : MaySay IsNumberOf (get (codes "asn") d) f.asn
  pub key : MaySay IsTextOf (get (codes "SKI") d) f.key
  pub comment : MaySay IsTextOf (get (codes "comment") d) f.comment

-- A customer. That the older name of the member is read too is this project's own rule.
abbrev pub IsCustomerOf : Data → ℕ → Type 0
IsCustomerOf d n = MemberSays IsNumberOf
    (either_member (get (codes "customerAsn") d) (get (codes "customerAsid") d)) n

-- a filter of the providers of a customer
pub record IsAspaFilterOf (d : Data) (f : AspaFilter) : Type 0 where
  pub members : OnlyHas (codes "customerAsn" ∷ codes "customerAsid" ∷ codes "comment" ∷ []) d
  pub customer : IsCustomerOf d f.customer_asn
  pub comment : MaySay IsTextOf (get (codes "comment") d) f.comment

-- the filters of a file
pub record AreFiltersOf (d : Data) (f : Filters) : Type 0 where
  pub members : OnlyHas
      (codes "prefixFilters" ∷ codes "bgpsecFilters" ∷ codes "aspaFilters" ∷ []) d
  pub prefixes : MemberSays (ListSays IsPrefixFilterOf) (get (codes "prefixFilters") d)
      f.prefix_filters.items
  pub routers : MemberSays (ListSays IsRouterKeyFilterOf) (get (codes "bgpsecFilters") d)
      f.bgpsec_filters.items
  pub aspas : ListMaySay IsAspaFilterOf (get (codes "aspaFilters") d) f.aspa_filters.items

-- ---- assertions (section 3.4)

-- an origin that is asserted (section 3.4.1)
pub record IsPrefixAssertionOf (d : Data) (a : PrefixAssertion) : Type 0 where
  pub members : OnlyHas
      (codes "prefix" ∷ codes "asn" ∷ codes "maxPrefixLength" ∷ codes "comment" ∷ []) d
  pub prefix : MemberSays IsPrefixOf (get (codes "prefix") d) a.prefix
  pub asn : MemberSays IsNumberOf (get (codes "asn") d) a.asn
  pub max_len : MaySay IsNumberOf (get (codes "maxPrefixLength") d) a.max_len
  pub comment : MaySay IsTextOf (get (codes "comment") d) a.comment

-- A router key that is asserted (section 3.4.2). That the key and its identifier may be any texts
-- is this project's own rule: they have no effect here.
pub record IsRouterKeyAssertionOf (d : Data) (a : RouterKeyAssertion) : Type 0 where
  pub members : OnlyHas
      (codes "asn" ∷ codes "SKI" ∷ codes "routerPublicKey" ∷ codes "comment" ∷ []) d
  pub asn : MemberSays IsNumberOf (get (codes "asn") d) a.asn
  pub key : MemberSays IsTextOf (get (codes "SKI") d) a.key
  pub public_key : MemberSays IsTextOf (get (codes "routerPublicKey") d) a.public_key
  pub comment : MaySay IsTextOf (get (codes "comment") d) a.comment

-- Providers. That the older name of the member is read too is this project's own rule.
abbrev pub AreProvidersOf : Data → List ℕ → Type 0
AreProvidersOf d ns = MemberSays (ListSays IsNumberOf)
    (either_member (get (codes "providerAsns") d) (get (codes "providers") d)) ns

-- the providers of a customer that are asserted
pub record IsAspaAssertionOf (d : Data) (a : AspaAssertion) : Type 0 where
  pub members : OnlyHas (codes "customerAsn" ∷ codes "customerAsid" ∷ codes "providerAsns"
      ∷ codes "providers" ∷ codes "comment" ∷ []) d
  pub customer : IsCustomerOf d a.customer_asn
  pub providers : AreProvidersOf d a.provider_asns.items
  pub comment : MaySay IsTextOf (get (codes "comment") d) a.comment

-- the assertions of a file
pub record AreAssertionsOf (d : Data) (a : Assertions) : Type 0 where
  pub members : OnlyHas
      (codes "prefixAssertions" ∷ codes "bgpsecAssertions" ∷ codes "aspaAssertions" ∷ []) d
  pub prefixes : MemberSays (ListSays IsPrefixAssertionOf) (get (codes "prefixAssertions") d)
      a.prefix_assertions.items
  pub routers : MemberSays (ListSays IsRouterKeyAssertionOf) (get (codes "bgpsecAssertions") d)
      a.bgpsec_assertions.items
  pub aspas : ListMaySay IsAspaAssertionOf (get (codes "aspaAssertions") d)
      a.aspa_assertions.items

-- ---- a file

-- the members of a file (section 3.2)
pub record AreExceptionsOf (d : Data) (file : Exceptions) : Type 0 where
  pub members : OnlyHas (codes "slurmVersion" ∷ codes "validationOutputFilters"
      ∷ codes "locallyAddedAssertions" ∷ []) d
  pub version : MemberSays IsNumberOf (get (codes "slurmVersion") d) file.version
  pub filters : MemberSays AreFiltersOf (get (codes "validationOutputFilters") d) file.filters
  pub assertions : MemberSays AreAssertionsOf (get (codes "locallyAddedAssertions") d)
      file.assertions

-- The text reads as a JSON value that says these exceptions, and they are valid.
pub record IsExceptionsText (text : List ℕ) (file : Exceptions) : Type 0 where
  pub value : Data
  pub reads : read text ≡ Some value
  pub says : AreExceptionsOf value file
  pub valid : are_valid file ≡ true
