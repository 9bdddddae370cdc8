use Rattle.std.specs.Prelude.{None}
use Rattle.std.proofs.Common.{◌≡◌, ℕ, List, Err, length, map, slice_get, Some, sym, subst, ap, ◌∙◌, arith}
use Rattle.std.specs.List.{sum_by}
use Rattle.run.specs.Outcome.{IsOutcome}
use Rattle.run.specs.Settling.{ArePostsOf, InRows, sent_at, got_by}
use Rattle.run.specs.Refusing.{IsReason}
use Rattle.run.specs.declared.error.RunError.TheVariants.{Thread}
use Rattle.worker.specs.Finishing.{WasStarted}
use Rattle.run.proofs.PlaceLemmas.{map_from, map_place}
use Rattle.run.proofs.ReasonLemmas.{calm_started, none_or, one_reason}
use Rattle.run.proofs.ConcludingLemmas.{says_least}
use Rattle.run.proofs.coordinator.conclude.Goals as goal

pub gather-requires-clause-each : goal.gather-requires-clause-each
gather-requires-clause-each g c = λ k l e.
    let lefts = c.in_ok-lefts.ensures.lefts ∙ ap (map (λ d. d.left)) c.from.ensures.0 in
    let d = map_from (λ d. d.left) c.args.finished.items k l (subst (λ xs. slice_get xs k ≡ Some l) lefts e) in
    let w = c.requires.leaves k d.0 d.1 in (
      subst (λ x. g.L.Ledger.left_belongs c.args.book x) d.2 w.of_book,
      ap g.L.Ledger.left_number (sym d.2)
          ∙ w.number_is,
    )

pub returns-clause-ok : goal.returns-clause-ok
returns-clause-ok g c =
    let m = g.M.Mail in let b = g.L.Ledger in
    let ds = c.args.finished.items in
    let count : length ds ≡ g.A.Rules.rules.parts c.args.analysis.now = omega (arith, c.requires.count) in
    let lefts = c.in_ok-lefts.ensures.lefts ∙ ap (map (λ d. d.left)) c.from.ensures.0 in
    let grown = c.in_ok-lefts.ensures.grown ∙ ap (map (λ d. d.log.items)) c.from.ensures.0 in
    let yields = c.in_ok-lefts.ensures.yields ∙ ap (map (λ d. d.yielded)) c.from.ensures.0 in
    let rows = ap (map (λ x. x.items)) c.from-2.ensures.0
    ∙ (c.in_ok-lefts.ensures.rows ∙ ap (map (λ d. d.closed.items)) c.from.ensures.0) in
    let columns = c.in_ok-lefts.ensures.columns ∙ ap (map (λ d. d.receivers.items)) c.from.ensures.0 in
    let settled =
    subst (λ (y : List (List _) × (List (List _) × ℕ)).
    ArePostsOf m (sent_at m.all_sent y.0) (got_by m.received y.1.0)
    (InRows y.1.1 y.1.1) c.settle_all.new.posts.items)
    (λ i. (rows i, (columns i, c.parts-owners.ensures.count i))) c.in_ok-settle_all.ensures.posts in
    let rules = g.A.Rules.rules in
    let lawful = g.met.A.Rules.lawful in
    subst (λ (y : List (List _) × List _). IsOutcome rules g.A.Analysis.yields m c.args.analysis.now y.0 y.1
    c.settle_all.new.posts.items)
    (λ i. (sym grown i, sym yields i))
    (says_least rules g.A.Analysis.yields lawful m b c.args.book
    (λ d. d.log.items) (λ d. d.yielded) (λ d. d.left) (λ d. d.closed.items) (λ d. d.receivers.items)
    (λ d. d.ending) c.args.analysis.now c.parts-owners.ensures.valid ds count c.requires.leaves c.requires.finishes
    (λ k d e. subst (λ xs. IsReason (map (λ d. d.ending) xs) None) c.deref.ensures.value c.in_default.ensures k d.ending
    (map_place (λ d. d.ending) c.args.finished.items k d e))
    c.settle_all.new.posts.items settled
    c.gather.result.owed c.gather.result.cleared (c.gather.ensures.owed ∙ ap (sum_by b.left_owed) lefts)
    (c.gather.ensures.cleared ∙ ap (sum_by b.left_cleared) lefts)
    (λ f. c.gather.ensures.quiet (λ k l e. f k l (subst (λ xs. slice_get xs k ≡ Some l) lefts e)))
    (λ k l e off. let s = c.gather.ensures.stopped k l (subst (λ xs. slice_get xs k ≡ Some l) (sym lefts) e) off in
    (s.0, s.1, subst (λ xs. slice_get xs s.0 ≡ Some s.1) lefts s.2, s.3))
    c.in_ok-settle_all.ensures.order)

pub returns-in-Some-clause-refused : goal.returns-in-Some-clause-refused
returns-in-Some-clause-refused g c = λ error is.
    ap Err (one_reason (map (λ d. d.ending) c.args.finished.items) c.in-Some.error error
    (subst (λ xs. IsReason (map (λ d. d.ending) xs) (Some c.in-Some.error)) c.deref.ensures.value c.in-Some.ensures) is)

pub returns-in-Some-clause-thread : goal.returns-in-Some-clause-thread
returns-in-Some-clause-thread g c = λ is.
    let error : c.in-Some.error ≡ Thread = cc in
    let x = subst (λ e. IsReason (map (λ d. d.ending) c.args.finished.items) (Some e)) error
    (subst (λ xs. IsReason (map (λ d. d.ending) xs) (Some c.in-Some.error)) c.deref.ensures.value c.in-Some.ensures) in
    let d = map_from (λ d. d.ending) c.args.finished.items x.0 x.1 x.2 in
    (x.0, d.0, d.1, λ started. x.3 (subst WasStarted d.2 started))

pub returns-in_err-lefts-clause-refused : goal.returns-in_err-lefts-clause-refused
returns-in_err-lefts-clause-refused g c = λ error is.
    absurd (none_or (map (λ d. d.ending) c.args.finished.items) error
    (subst (λ xs. IsReason (map (λ d. d.ending) xs) None) c.deref.ensures.value c.in_default.ensures) is)

pub returns-in_err-settle_all-clause-refused : goal.returns-in_err-settle_all-clause-refused
returns-in_err-settle_all-clause-refused g c = λ error is.
    absurd (none_or (map (λ d. d.ending) c.args.finished.items) error
    (subst (λ xs. IsReason (map (λ d. d.ending) xs) None) c.deref.ensures.value c.in_default.ensures) is)

pub returns-clause-refused : goal.returns-clause-refused
returns-clause-refused g c = λ error is.
    absurd (none_or (map (λ d. d.ending) c.args.finished.items) error
    (subst (λ xs. IsReason (map (λ d. d.ending) xs) None) c.deref.ensures.value c.in_default.ensures) is)

pub returns-clause-started : goal.returns-clause-started
returns-clause-started g c = λ k d e.
    calm_started d.ending (subst (λ xs. IsReason (map (λ d. d.ending) xs) None) c.deref.ensures.value
    c.in_default.ensures k d.ending (map_place (λ d. d.ending) c.args.finished.items k d e))
