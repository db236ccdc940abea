use Rattle.std.proofs.Common.{◌≡◌, ◌<◌, false, true, length, get_or, refl, sym, ap, ◌∙◌, rules}
use Rattle.std.proofs.lemmas.Bool.{not-true, not-false}
use Rattle.std.proofs.lemmas.Bool.Decides.{same_from_decides}
use Rattle.rpki_der.proofs.Form.Keyed.{distinct-decides}
use Rattle.rpki_extensions.specs.Extension.{oid_of}
use Rattle.rpki_extensions.proofs.CertExtensions.Seen.{seen-none, item-at, seen-again, seen-more}
use Rattle.rpki_basics.proofs.OctetSets.{has_octets}
use Rattle.rpki_extensions.proofs.extension.are_distinct.Goals as goal

pub loop-extension-init : goal.loop-extension-init
loop-extension-init c =
    seen-none oid_of c.new-seen.result c.args.list.now c.new-seen.ensures.empty

pub returns-then-not-branch : goal.returns-then-not-branch
returns-then-not-branch c =
    let n = c.loop-extension.extension-index in
    let lt : n < length c.args.list.now = search rules in
    let is : (d : _) → c.as_slice.result.now ≡ oid_of (get_or c.args.list.now n d) =
    λ d. c.as_slice.ensures.octets
    ∙ ap oid_of (c.extension-item.is ∙ item-at c.args.list.now n c.extension-item.result d lt) in
    let there : has_octets c.loop-extension.seen c.as_slice.result.now ≡ true =
    not-false _ (sym c.in_ok-insert.ensures.added ∙ c.if-not-branch.true) in
    let again = seen-again oid_of c.loop-extension.seen c.args.list.now n lt
    c.loop-extension.invariant c.as_slice.result is there in
    same_from_decides false _ ((λ e. absurd cc), λ d. absurd (again d))
    (distinct-decides oid_of c.args.list.now)

pub loop-extension-preserved : goal.loop-extension-preserved
loop-extension-preserved c =
    let n = c.loop-extension.extension-index in
    let lt : n < length c.args.list.now = search rules in
    let is : (d : _) → c.as_slice.result.now ≡ oid_of (get_or c.args.list.now n d) =
    λ d. c.as_slice.ensures.octets
    ∙ ap oid_of (c.extension-item.is ∙ item-at c.args.list.now n c.extension-item.result d lt) in
    let fresh : has_octets c.loop-extension.seen c.as_slice.result.now ≡ false =
    not-true _ (sym c.in_ok-insert.ensures.added ∙ c.if-not-branch.false) in
    seen-more oid_of c.loop-extension.seen c.args.list.now n lt c.loop-extension.invariant
    c.as_slice.result is c.insert.new.self c.in_ok-insert.ensures.updates fresh

pub returns : goal.returns
returns c =
    same_from_decides true _ ((λ _. search rules), λ _. refl)
    (distinct-decides oid_of c.args.list.now)
