use Rattle.std.proofs.Common.{◌<◌, ◌-◌, length, drop, subst, sym, ap, ◌∙◌}
use Rattle.nll_owner.specs.Outboxes.{IsQueue, queued}
use Rattle.nll_owner.specs.declared.outboxes.Outbox.TheInside.{Inside}
use Rattle.nll_owner.proofs.QueueLemmas.{some_left, queue_next, queue_shorter, queued_next, queued_shorter}
use Rattle.nll_owner.proofs.outboxes.Outbox.pop.Goals as goal
use Rattle.nll_owner.proofs.outboxes.Outbox.pop.Goals.{then-first-end, else-first-end, After-index}

-- a place is left
within : (c : After-index) → c.self.inside.at < length c.self.inside.ranges.items
within c = some_left c.self.inside.ranges.items c.self.inside.at (rw (← c.self.view_is) at c.requires)

pub invariant_of-self : goal.invariant_of-self
invariant_of-self c =
    let q = c.self.inside in
    let left = within (goal.at.invariant_of-self c).After-index in
    elim c.if-first-end.branch [
      | then-first-end w ↦ subst (λ (i : Inside). IsQueue i.ranges.items i.at (i.len - 1)) (sym w.self-inside-is)
          (queue_shorter q.ranges.items q.at q.len c.self.invariant c.index.result.now left
          (sym c.index.ensures) w.if-first-end.true)
      | else-first-end w ↦ subst (λ (i : Inside). IsQueue i.ranges.items i.at (i.len - 1)) (sym w.self-inside-is)
          (queue_next q.ranges.items q.at q.len c.self.invariant c.index.result.now left
          (sym c.index.ensures) w.if-first-end.false)
    ]

pub returns : goal.returns
returns c =
    let q = c.self.inside in
    let left = within (goal.at.returns c).After-index in
    elim c.if-first-end.branch [
      | then-first-end w ↦ ap (λ (i : Inside). queued i.ranges.items i.at) w.self-inside-is
          ∙ (queued_shorter q.ranges.items q.at q.len c.self.invariant c.index.result.now left
          (sym c.index.ensures) w.if-first-end.true ∙ ap (drop 1) c.self.view_is)
      | else-first-end w ↦ ap (λ (i : Inside). queued i.ranges.items i.at) w.self-inside-is
          ∙ (queued_next q.ranges.items q.at q.len c.self.invariant c.index.result.now left
          (sym c.index.ensures) w.if-first-end.false ∙ ap (drop 1) c.self.view_is)
    ]
