-- Reading an ASPA content, as functions on lists.
use Rattle.std.specs.Prelude.{ℕ, ◌+◌, List, length, Option, None, Some, Bool, true, ◌&&◌, not}
use Rattle.std.specs.Prelude.{nat_lt, ◌==◌, if◌then◌else◌}
use Rattle.rpki_der.specs.Tags.{INTEGER, context}
use Rattle.rpki_der.specs.Read.Parse.{Parser, ◌>>=◌, in_value, primitive, this, u32_at, tested}
use Rattle.rpki_lists.specs.Entries.{list_at}
use Rattle.rpki_lists.specs.Rules.{admits}
use Rattle.rpki_basics.specs.declared.limits.ProviderLimit.{ProviderLimit}
use Rattle.rpki_basics.specs.Limits.{most_providers}
use Rattle.rpki_routes.specs.declared.aspa.providers.InOrder.{InOrder}
use Rattle.rpki_routes.specs.Aspa.{Aspa}

-- whether a number may follow the last one, if there is one: it is above it, and 0 is followed by
-- none
abbrev pub follows : Option ℕ → ℕ → Bool
follows None next = true
follows (Some last) next = nat_lt 0 last && nat_lt last next

-- whether a provider may come next
abbrev pub may_come : InOrder → ℕ → Bool
may_come seen next =
    nat_lt seen.count (most_providers seen.limit)
    && (not (next == seen.customer) && follows seen.last next)

-- what has been seen after it, if it may
abbrev pub after_provider : InOrder → ℕ → Option InOrder
after_provider seen next =
    if may_come seen next then Some
    (record {
      limit = seen.limit;
      customer = seen.customer;
      count = seen.count + 1;
      last = Some next;
    }) else None

-- nothing has been seen yet
abbrev pub at_first : ProviderLimit → ℕ → InOrder
at_first limit customer = record { limit = limit; customer = customer; count = 0; last = None }

-- numbers in order, none of them the customer, and no more than the limit says
unfoldable pub in_order_at : ProviderLimit → ℕ → Parser (List ℕ)
in_order_at limit customer = tested (admits after_provider (at_first limit customer))
    (list_at u32_at)

-- whether there is one
abbrev pub has_one : List ℕ → Bool
has_one numbers = not (length numbers == 0)

-- the providers of a customer
abbrev pub providers_at : ProviderLimit → ℕ → Parser (List ℕ)
providers_at limit customer = tested has_one (in_order_at limit customer)

-- the version, the customer, which is not 0, and the providers
unfoldable pub fields_at : ProviderLimit → Parser Aspa
fields_at limit mode bytes = do
  version ← in_value (context 0) (primitive INTEGER (this 1)) mode bytes
  customer ← u32_at mode version.1
  if not (customer.0 == 0) then
      (providers_at limit customer.0 mode customer.1
      >>= λ providers. Some
      (record { customer = customer.0; providers = providers.0 }, providers.1)) else None
