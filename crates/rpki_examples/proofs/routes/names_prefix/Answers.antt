use Rattle.std.proofs.Common.{◌≡◌, ◌∙◌, ℕ, refl, sym, ap, subst}
use Rattle.rpki_lists.proofs.Lists.{said-no, said-yes}
use Rattle.rpki_resources.specs.Prefix.{Network}
use Rattle.rpki_routes.specs.Roa.{FamilyAddress, addresses}
use Rattle.rpki_examples.proofs.Search.{found, left-more, say-yes}
use Rattle.rpki_examples.proofs.routes.names_prefix.Goals as goal

-- a prefix is its first address and its length
same : (a b : Network) → a.addr ≡ b.addr → a.len ≡ b.len → a ≡ b
same a b e f =
    let of : ℕ → ℕ → Network = λ addr len. record { addr = addr; len = len } in
    ap (λ (addr : ℕ). of addr a.len) e ∙ ap (λ (len : ℕ). of b.addr len) f

pub returns-then-is_same : goal.returns-then-is_same
returns-then-is_same c =
    let yes = said-yes c.is_same.result c.is_same.ensures c.if-is_same.true in
    say-yes (found (λ (a : FamilyAddress). a.address.prefix ≡ c.args.prefix)
    (addresses c.args.roa.now) c.loop-address.left c.next.new.self c.in-Some.address
    c.loop-address.invariant c.in-Some.ensures.steps
    (sym c.prefix.ensures ∙ same c.prefix.result c.args.prefix yes.0 yes.1))

pub loop-address-preserved : goal.loop-address-preserved
loop-address-preserved c =
    left-more (λ (a : FamilyAddress). a.address.prefix ≡ c.args.prefix)
    (addresses c.args.roa.now) c.loop-address.left c.next.new.self c.in-Some.address
    c.loop-address.invariant c.in-Some.ensures.steps
    (λ e. said-no c.is_same.result c.is_same.ensures c.if-is_same.false (
      ap (λ (n : Network). n.addr) (c.prefix.ensures ∙ e),
      ap (λ (n : Network). n.len) (c.prefix.ensures ∙ e),
    ))
