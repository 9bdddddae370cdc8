use Rattle.std.proofs.Common.{◌≡◌, List, map, slice_get, Some, sym, subst, ap, ◌∙◌}
use Rattle.run.specs.Table.{AreEnds, AreNewEnds, IsEndTable}
use Rattle.run.proofs.PlaceLemmas.{map_place}
use Rattle.run.proofs.coordinator.prepare.Goals as goal

pub returns-clause-table : goal.returns-clause-table
returns-clause-table g c =
    let m = g.M.Mail in
    let rows = ap (map (λ w. w.outbox.senders.items)) c.from-4.ensures.0
    ∙ (c.in_ok-workers.ensures.rows ∙ ap (map (λ o. o.senders.items)) c.from.ensures.0) in
    let columns = ap (map (λ w. w.receivers.items)) c.from-4.ensures.0
    ∙ (c.in_ok-workers.ensures.columns ∙ ap (map (λ x. x.items)) c.from-2.ensures.0) in
    subst (λ (y : List (List _) × List (List _)). IsEndTable (AreEnds (AreNewEnds m) m.ends) c.args.owners c.args.owners
    y.0 y.1)
    (λ i. (sym rows i, sym columns i)) c.in_ok-rows.ensures

pub returns-clause-each : goal.returns-clause-each
returns-clause-each g c =
    λ k w e. c.in_ok-workers.ensures.each k w (subst (λ xs. slice_get xs k ≡ Some w) c.from-4.ensures.0 e)

pub returns-clause-shares : goal.returns-clause-shares
returns-clause-shares g c = λ k w e.
    let at = subst (λ xs. slice_get xs k ≡ Some w) c.from-4.ensures.0 e in
    let s = c.in_ok-book.ensures.shares k w.share
    (subst (λ xs. slice_get xs k ≡ Some w.share) (c.in_ok-workers.ensures.shares ∙ c.from-3.ensures.0)
    (map_place (λ x. x.share) c.in_ok-workers.workers.items k w at)) in
    record { of_book = s.0; number_is = s.1; owed_is = s.2; cleared_is = s.3; called_is = s.4 }
