use Rattle.std.proofs.Common.{◌≡◌, ◌<◌, length, sym, ap, ◌∙◌, arith}
use Rattle.std.specs.Prelude.{Some, slice_get}
use Rattle.nll_owner.specs.declared.owner.Owner.TheInside.{Inside}
use Rattle.nll_owner.specs.Outboxes.{AreAllQueued, queue_of}
use Rattle.nll_owner.proofs.OwnerLemmas.{get_at}
use Rattle.nll_owner.proofs.OutboxLemmas.{place_within, next_is}
use Rattle.nll_owner.proofs.owner.Owner.next_for.Goals as goal
use Rattle.nll_owner.proofs.owner.Owner.next_for.Goals.{After-entries}

all_queued : (c : After-entries) → AreAllQueued c.self.inside.knowledge c.self.inside.outboxes
all_queued c =
    (c.self.invariant.2 (sym (ap (λ (o : Inside). o.knowledge.broken) c.self-inside.view_is) ∙ c.if-self.false)).1

first : (c : After-entries) → slice_get (queue_of c.self.inside.outboxes c.args.to) 0 ≡ Some c.in_ok-place.place
first c = sym (c.first.ensures ∙ ap (λ (o : Inside). slice_get (queue_of o.outboxes c.args.to) 0) c.self-inside.view_is)
    ∙ c.in_ok-place.was

within : (c : After-entries) → c.in_ok-place.place < length c.entries.result.now
within c =
    omega (
      arith,
      place_within c.self.inside.knowledge c.self.inside.outboxes
          (all_queued c) c.args.to c.in_ok-place.place (first c),
      ap length c.entries.ensures.log,
      ap (λ (o : Inside). length o.knowledge.log) c.self-inside.view_is,
    )

pub offset_bounds-entries-place : goal.offset_bounds-entries-place
offset_bounds-entries-place c =
    omega (arith, within (goal.at.offset_bounds-entries-place c).After-entries, c.entries.ensures.short)

pub bounds-entries-place : goal.bounds-entries-place
bounds-entries-place c = within (goal.at.bounds-entries-place c).After-entries

pub returns-clause-some : goal.returns-clause-some
returns-clause-some c =
    let d = (goal.at.returns-clause-some c).After-entries in
    let place = c.in_ok-place.place in
    rw (← c.self.view_is) (
      sym (ap (λ (o : Inside). o.knowledge.broken) c.self-inside.view_is) ∙ c.if-self.false,
      next_is c.self.inside.knowledge c.self.inside.outboxes (all_queued d) c.args.to place (first d)
          ∙ (sym (ap (λ xs. slice_get xs place) c.entries.ensures.log)
          ∙ get_at c.entries.result.now place c.index-entries-place.result (within d) (sym c.index-entries-place.is)),
    )
