-- The first was read, a turn comes, and the rest is left; what follows for all chains.
use Rattle.std.proofs.Common.{◌≡◌, ◌⊎◌, inl, ℕ, Vec, ◌∷◌, ◌++◌, ◌+◌, ◌-◌, ◌≤◌, List, length}
use Rattle.std.proofs.Common.{arith, subst, sym, ap, ◌∙◌, length-append}
use Rattle.std.proofs.lemmas.List.Sorted.{length_permutation}
use Rattle.std.specs.BTreeMap.{BTreeMap}
use Rattle.std.specs.BTreeSet.{BTreeSet}
use Rattle.std.specs.declared.alloc.Global.{Global}
use Rattle.rpki_relying_party.specs.Walk.{first_room}
use Rattle.rpki_relying_party.specs.Steps.{has_key, read_as, spent_for}
use Rattle.rpki_relying_party.proofs.Keys.{none-has}
use Rattle.rpki_relying_party.proofs.Spending.{none-spent}
use Rattle.rpki_relying_party.proofs.Walking.{IsRun, run-begun}
use Rattle.rpki_relying_party.proofs.Turning.{run-passed, run-fits, run-visit, run-limited}
use Rattle.rpki_relying_party.proofs.Turning.{run-ended}
use Rattle.rpki_relying_party.proofs.Chains as laws
use Rattle.rpki_relying_party.proofs.walk.walk_from.Goals as goal

pub loop-unread-init : goal.loop-unread-init
loop-unread-init g c =
    run-begun (g.P.Places.tells c.args.places.now) (g.P.Places.costs c.args.places.now)
    (g.P.Places.exceeds c.args.places.now)
    (g.P.Places.key_of c.args.places.now) g.P.Places.lists g.P.Places.has c.args.found.now
    c.hear.new.found (read_as c.args.start c.args.told) c.args.limit c.new-unread.result.items
    (has_key c.new-read.result) (has_key c.hear.new.front.read)
    (has_key c.hear.new.front.lacking) (spent_for c.hear.new.front.spent) c.in_ok-queue.queue
    c.hear.new.front.queue c.in_ok-key.key.items c.in_ok-key.ensures (c.requires.0)
    (c.requires.1) (c.requires.3) (none-has c.new-read.result c.new-read.ensures.empty)
    (none-has c.hear.new.front.lacking (ap (λ (s : BTreeSet (Vec ℕ Global)). s.keys)
    c.in_ok-hear.ensures.lacking ∙ c.new-lacking.ensures.empty))
    (none-spent c.hear.new.front.spent (ap (λ (m : BTreeMap (Vec ℕ Global) ℕ). m.entries)
    c.in_ok-hear.ensures.spent ∙ c.new-spent.ensures.empty))
    c.in_ok-queue.ensures c.in_ok-hear.ensures.heard c.new-unread.ensures.items

pub visit-requires : goal.visit-requires
visit-requires g c =
    omega (
      arith,
      c.ranges.limit.fits,
      run-fits (g.P.Places.tells c.args.places.now) (g.P.Places.costs c.args.places.now)
          (g.P.Places.exceeds c.args.places.now)
          (g.P.Places.key_of c.args.places.now) (g.P.Places.lists c.args.found.now)
          (g.P.Places.has c.args.found.now) (read_as c.args.start c.args.told) c.args.limit
          (g.P.Places.lists c.loop-unread.found) (g.P.Places.has c.loop-unread.found)
          c.loop-unread.room c.loop-unread.unread.items (has_key c.loop-unread.front.read)
          (has_key c.loop-unread.front.lacking) (spent_for c.loop-unread.front.spent)
          c.loop-unread.front.queue c.in-Some.due.key.items c.room_for-allowed.result
          c.loop-unread.invariant c.room_for-allowed.ensures.within,
    )

pub loop-unread-preserved : goal.loop-unread-preserved
loop-unread-preserved g c =
    let tells = g.P.Places.tells c.args.places.now in
    let costs = g.P.Places.costs c.args.places.now in
    let exceeds = g.P.Places.exceeds c.args.places.now in
    let key = g.P.Places.key_of c.args.places.now in
    let lists = g.P.Places.lists in
    let has = g.P.Places.has in
    let first = read_as c.args.start c.args.told in
    let spent = spent_for c.loop-unread.front.spent in
    let n = rw c.in-Some.is at c.in_ok-due.ensures in
    let same : c.spent_on.result ≡ spent c.in-Some.due.key.items =
    c.spent_on.ensures ∙ ap spent c.as_slice.ensures.value in
    subst (λ (q : List g.row.P-Place.Denot). IsRun tells costs exceeds key
    (lists c.args.found.now) (lists c.visit.new.found) (has c.args.found.now)
    (has c.visit.new.found) first c.args.limit (c.loop-unread.room - c.in_ok-done.done)
    c.visit.new.unread.items (has_key c.visit.new.front.read)
    (has_key c.visit.new.front.lacking) (spent_for c.visit.new.front.spent) q)
    (sym c.spend.ensures)
    (run-visit tells costs exceeds key (lists c.args.found.now) (has c.args.found.now) first
    c.args.limit lists has c.loop-unread.found c.visit.new.found c.loop-unread.room
    c.loop-unread.unread.items c.next_turn.new.unread.items c.visit.new.unread.items
    (has_key c.loop-unread.front.read) (has_key c.visit.new.front.read)
    (has_key c.loop-unread.front.lacking) (has_key c.visit.new.front.lacking) spent
    (spent_for c.visit.new.front.spent) c.in-Some.due.place c.in-Some.due.key.items
    c.loop-unread.front.queue c.next_turn.new.queue c.visit.new.front.queue
    c.room_for-allowed.result c.in_ok-done.done c.loop-unread.invariant (n.0)
    c.room_for-allowed.ensures.some c.room_for-allowed.ensures.within
    (subst (λ (m : ℕ). c.room_for-allowed.result ≤ m + first_room c.args.limit) same
    c.room_for-allowed.ensures.small)
    (subst (λ (m : ℕ). (c.room_for-allowed.result ≡ m + first_room c.args.limit)
    ⊎ (c.room_for-allowed.result ≡ c.loop-unread.room)) same c.room_for-allowed.ensures.whole)
    c.in_ok-done.ensures)

pub loop-unread-2-init : goal.loop-unread-2-init
loop-unread-2-init g c =
    let n = rw c.in_default.is at c.in_ok-due.ensures in record {
      run = run-passed (g.P.Places.tells c.args.places.now) (g.P.Places.costs c.args.places.now)
          (g.P.Places.exceeds c.args.places.now)
          (g.P.Places.key_of c.args.places.now) (g.P.Places.lists c.args.found.now)
          (g.P.Places.has c.args.found.now) (read_as c.args.start c.args.told) c.args.limit
          (g.P.Places.lists c.loop-unread.found) (g.P.Places.has c.loop-unread.found)
          c.loop-unread.room (has_key c.loop-unread.front.read)
          (has_key c.loop-unread.front.lacking) (spent_for c.loop-unread.front.spent)
          c.loop-unread.unread.items c.next_turn.new.unread.items c.loop-unread.front.queue
          c.next_turn.new.queue c.loop-unread.invariant (n.0);
      stop = n.1;
    }

pub loop-unread-2-smaller : goal.loop-unread-2-smaller
loop-unread-2-smaller g c =
    let n = rw c.in-Some-2.is at c.in_ok-due-2.ensures in
    let rest = c.in-Some-2.due.place ∷ c.next_due.new.queue in
    omega (
      arith,
      length_permutation c.loop-unread-2.front.queue
          (n.passed.passed ++ (n.passed.left ++ rest)) n.passed.split,
      length-append n.passed.passed (n.passed.left ++ rest),
      length-append n.passed.left rest,
      ap (λ (q : List g.row.P-Place.Denot). length q) c.spend-in-Some-2.ensures,
    )

pub loop-unread-2-preserved : goal.loop-unread-2-preserved
loop-unread-2-preserved g c =
    let tells = g.P.Places.tells c.args.places.now in
    let costs = g.P.Places.costs c.args.places.now in
    let exceeds = g.P.Places.exceeds c.args.places.now in
    let key = g.P.Places.key_of c.args.places.now in
    let lists = g.P.Places.lists in
    let has = g.P.Places.has in
    let first = read_as c.args.start c.args.told in
    let read = has_key c.loop-unread-2.front.read in
    let lacking = has_key c.loop-unread-2.front.lacking in
    let spent = spent_for c.loop-unread-2.front.spent in
    let n = rw c.in-Some-2.is at c.in_ok-due-2.ensures in
    let h = run-limited tells costs exceeds key (lists c.args.found.now) (has c.args.found.now)
    first c.args.limit (lists c.loop-unread.found) (has c.loop-unread.found) c.loop-unread.room
    read lacking spent c.loop-unread-2.unread.items c.next_due.new.unread.items
    c.push.new.self.items c.loop-unread-2.front.queue c.next_due.new.queue
    c.in-Some-2.due.place c.in-Some-2.due.key.items c.loop-unread-2.invariant.run
    c.loop-unread-2.invariant.stop n c.in_ok-push.ensures.items in record {
      run = subst (λ (q : List g.row.P-Place.Denot). IsRun tells costs exceeds key
          (lists c.args.found.now) (lists c.loop-unread.found) (has c.args.found.now)
          (has c.loop-unread.found) first c.args.limit c.loop-unread.room
          c.push.new.self.items read lacking spent q) (sym c.spend-in-Some-2.ensures) (h.0);
      stop = inl (h.1);
    }

the-walk : goal.returns-clause-reads
the-walk g c =
    let tells = g.P.Places.tells c.args.places.now in
    let costs = g.P.Places.costs c.args.places.now in
    let exceeds = g.P.Places.exceeds c.args.places.now in
    let key = g.P.Places.key_of c.args.places.now in
    let lists = g.P.Places.lists in
    let has = g.P.Places.has in
    let first = read_as c.args.start c.args.told in
    let read = has_key c.loop-unread-2.front.read in
    let lacking = has_key c.loop-unread-2.front.lacking in
    let spent = spent_for c.loop-unread-2.front.spent in
    let unread = c.next_due.new.unread.items in
    let n = rw c.in_default-2.is at c.in_ok-due-2.ensures in
    run-ended tells costs exceeds key (lists c.args.found.now) (has c.args.found.now) first
    c.args.limit (lists c.loop-unread.found) (has c.loop-unread.found) c.loop-unread.room
    unread read lacking spent
    (subst (λ (q : List g.row.P-Place.Denot). IsRun tells costs exceeds key
    (lists c.args.found.now) (lists c.loop-unread.found) (has c.args.found.now)
    (has c.loop-unread.found) first c.args.limit c.loop-unread.room unread read lacking spent q)
    (n.1)
    (run-passed tells costs exceeds key (lists c.args.found.now) (has c.args.found.now) first
    c.args.limit (lists c.loop-unread.found) (has c.loop-unread.found) c.loop-unread.room
    read lacking spent c.loop-unread-2.unread.items unread c.loop-unread-2.front.queue
    c.next_due.new.queue c.loop-unread-2.invariant.run (n.0)))

pub returns-clause-reads : goal.returns-clause-reads
returns-clause-reads g c = the-walk g c

pub returns-clause-sound : goal.returns-clause-sound
returns-clause-sound g c =
    laws.sound (g.P.Places.tells c.args.places.now) (g.P.Places.costs c.args.places.now)
    (g.P.Places.exceeds c.args.places.now)
    (g.P.Places.key_of c.args.places.now) (g.P.Places.lists c.args.found.now)
    (g.P.Places.lists c.loop-unread.found) (g.P.Places.has c.args.found.now)
    (g.P.Places.has c.loop-unread.found) (read_as c.args.start c.args.told) c.args.limit
    c.next_due.new.unread.items (the-walk g c)

pub returns-clause-complete : goal.returns-clause-complete
returns-clause-complete g c = λ one.
    laws.complete (g.P.Places.tells c.args.places.now) (g.P.Places.costs c.args.places.now)
    (g.P.Places.exceeds c.args.places.now)
    (g.P.Places.key_of c.args.places.now) (g.P.Places.lists c.args.found.now)
    (g.P.Places.lists c.loop-unread.found) (g.P.Places.has c.args.found.now)
    (g.P.Places.has c.loop-unread.found) (read_as c.args.start c.args.told) c.args.limit
    c.next_due.new.unread.items (the-walk g c) g.P.Places.alike one
