use Rattle.std.proofs.Common.{◌≡◌, ℕ, true, ⊎_elim, sym, ap, ◌∙◌, map, length, arith}
use Rattle.nll_problem.specs.Graph.{element_count}
use Rattle.std.proofs.lemmas.Bool.{cases_lt, false≢true}
use Rattle.nll_sets.specs.ElementSet.{flag}
use Rattle.nll_sets.specs.Runs.{IsWithin}
use Rattle.nll_owner.specs.Owner.{Owner, Has}
use Rattle.nll_owner.specs.declared.knowledge.Knowledge.TheInside.{Inside}
use Rattle.nll_owner.specs.Keeping.{IsSlot, owner_of_parts}
use Rattle.nll_owner.proofs.OwnerLemmas.{has_grows, grows_none, grows_append, called_grows, own_still, element_still, slot_still}
use Rattle.nll_owner.proofs.SlotLemmas.{own_held}
use Rattle.nll_owner.proofs.knowledge.Knowledge.grow_run.Goals as goal
use Rattle.nll_owner.proofs.knowledge.Knowledge.grow_run.Goals.{After-set, In-Some}

pub loop-gap-init : goal.loop-gap-init
loop-gap-init c =
    record {
      grows = grows_none _ c.requires.sound;
      low = omega arith;
      covers = λ x low high. absurd (omega (arith, low, high));
    }

abbrev viewed : Inside → Owner
viewed o =
    owner_of_parts o.problem.now o.cut.now o.me o.log.items
    (map (λ list. list.items) o.received.items) o.given.items o.clock o.loaded o.broken

-- the slot is that of the region still
slot_now : (c : After-set) → IsSlot (viewed c.self-in-loop-gap.inside) c.slot-slot.result c.args.region
slot_now c = rw (← c.self-in-loop-gap.view_is) at (slot_still _ _ c.loop-gap.invariant.grows _ _ c.slot-slot.ensures)

-- what the set has the owner has
has_of : (c : After-set) → (x : ℕ) → flag c.set.result.now x ≡ true → Has c.loop-gap.self c.args.region x
has_of c x there =
    rw (← c.self-in-loop-gap.view_is) ((c.self-in-loop-gap.invariant.held c.slot-slot.result c.args.region x
    (slot_now c)).0 (sym (ap (λ xs. flag xs x) c.set.ensures) ∙ there))

-- the gap is of the run
within : (c : In-Some) → (x : ℕ) → IsWithin c.in-Some.gap x → IsWithin c.args.run x
within c x own =
    let gap = c.in-Some.ensures.some in
    (omega (arith, own.0, gap.above, c.loop-gap.invariant.low), omega (arith, own.1, gap.below))

-- the set has a flag for each element
width : (c : After-set) → length c.set.result.now ≡ element_count c.args.self.now.problem.graph
width c = ap length c.set.ensures
    ∙ (c.self-in-loop-gap.invariant.shaped.elements c.slot-slot.result (slot_now c).0
    ∙ (ap (λ (o : Owner). element_count o.problem.graph) c.self-in-loop-gap.view_is
    ∙ ap (λ (o : Owner). element_count o.problem.graph) c.loop-gap.invariant.grows.others))

pub gap_from-requires : goal.gap_from-requires
gap_from-requires c =
    (let last = c.requires.elements c.args.run.last (omega (arith, c.if-run.false), omega arith) in
    omega (arith, last, width c))

pub overflow_add-next : goal.overflow_add-next
overflow_add-next c =
    let last = c.requires.elements c.args.run.last (omega (arith, c.if-run.false), omega arith) in
    let graph = c.requires.sound.problem.graph in
    omega (arith, c.in-Some.ensures.some.below, last, graph.point_limit, graph.universal_limit)

pub grow_gap-requires-clause-own : goal.grow_gap-requires-clause-own
grow_gap-requires-clause-own c = own_still _ _ c.loop-gap.invariant.grows c.args.region c.requires.own

pub grow_gap-requires-clause-slot : goal.grow_gap-requires-clause-slot
grow_gap-requires-clause-slot c = slot_still _ _ c.loop-gap.invariant.grows _ _ c.slot-slot.ensures

pub slot-slot-requires-clause-held : goal.slot-slot-requires-clause-held
slot-slot-requires-clause-held c = own_held c.args.self.now c.args.region c.requires.own

pub set-requires : goal.set-requires
set-requires c =
    (let at = rw (← c.self-in-loop-gap.view_is) at
    (slot_still _ _ c.loop-gap.invariant.grows _ _ c.slot-slot.ensures) in
    omega (arith, at.0, c.self-in-loop-gap.invariant.shaped.slots))

pub grow_gap-requires-clause-elements : goal.grow_gap-requires-clause-elements
grow_gap-requires-clause-elements c =
    let d = (goal.at.grow_gap-requires-clause-elements c).In-Some in
    let last = c.in-Some.gap.last in
    element_still _ _ c.loop-gap.invariant.grows last
    (c.requires.elements last (within d last (c.in-Some.ensures.some.proper, omega arith)))

pub grow_gap-requires-clause-called : goal.grow_gap-requires-clause-called
grow_gap-requires-clause-called c x own =
    called_grows _ _ c.loop-gap.invariant.grows _ _
    (c.requires.called x (within (goal.at.grow_gap-requires-clause-called c).In-Some x own))

pub grow_gap-requires-clause-lacks : goal.grow_gap-requires-clause-lacks
grow_gap-requires-clause-lacks c x own has =
    let gap = c.in-Some.ensures.some in
    let held =
    (c.self-in-loop-gap.invariant.held c.slot-slot.result c.args.region x
    (slot_now (goal.at.grow_gap-requires-clause-lacks c).After-set)).1 (rw (← c.self-in-loop-gap.view_is) at has) in
    false≢true (sym (gap.lacks x own.0 own.1) ∙ (ap (λ xs. flag xs x) c.set.ensures ∙ held))

pub loop-gap-preserved : goal.loop-gap-preserved
loop-gap-preserved c =
    let d = (goal.at.loop-gap-preserved c).After-set in
    let gap = c.in-Some.ensures.some in
    let before : (x : ℕ) → Has c.loop-gap.self c.args.region x
    → Has c.grow_gap.new.self c.args.region x = has_grows _ _ c.grow_gap.ensures.grows c.args.region in
    record {
      grows = grows_append _ _ _ c.loop-gap.invariant.grows c.grow_gap.ensures.grows;
      low = omega (arith, c.loop-gap.invariant.low, gap.above, gap.proper);
      covers = λ x low high. ⊎_elim
          (λ early. before x (c.loop-gap.invariant.covers x low early))
          (λ from. ⊎_elim
          (λ there. before x (has_of d x (gap.before x from there)))
          (λ own. c.in_ok-grow_gap.ensures.covers x (own, omega (arith, high)))
          (cases_lt x c.in-Some.gap.first))
          (cases_lt x c.loop-gap.next);
    }

pub returns-in_err-grow_gap-clause-grows : goal.returns-in_err-grow_gap-clause-grows
returns-in_err-grow_gap-clause-grows c = grows_append _ _ _ c.loop-gap.invariant.grows c.grow_gap.ensures.grows

pub returns-clause-grows : goal.returns-clause-grows
returns-clause-grows c = c.loop-gap.invariant.grows

pub returns-clause-covers : goal.returns-clause-covers
returns-clause-covers c x own = ⊎_elim
    (λ early. c.loop-gap.invariant.covers x own.0 early)
    (λ from. has_of (goal.at.returns-clause-covers c).After-set x (c.in_default.ensures.none x from own.1))
    (cases_lt x c.loop-gap.next)
