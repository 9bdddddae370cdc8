use Rattle.std.proofs.Common.{arith, sym}
use Rattle.std.proofs.lemmas.Bool.{eqb-true}
use Rattle.nll_sets.specs.Runs.{IsInRuns}
use Rattle.nll_live.specs.Kinds.{AsksFor, IsWantedOfType, KeepsAt}
use Rattle.nll_live.specs.Live.{IsLive}
use Rattle.nll_live.proofs.AskLemmas.{asked_of}
use Rattle.nll_live.proofs.BaseRunLemmas.{gains_none}
use Rattle.nll_live.proofs.base_search.push_variable.Goals as goal

pub returns-then-is_empty-clause-gains : goal.returns-then-is_empty-clause-gains
returns-then-is_empty-clause-gains c =
    gains_none (AsksFor c.args.kind c.args.ways.now.body.now c.args.variable) c.args.base_runs.now.items
    (λ r p h. let has = ((c.in_ok-regions.ensures h.0 h.1) r).1 h.3 in
    absurd (omega (arith, has.1, eqb-true _ 0 (sym c.if-is_empty.ensures))))

pub returns-then-is_empty-clause-room : goal.returns-then-is_empty-clause-room
returns-then-is_empty-clause-room c = record {
  width = c.requires.room.width;
  tall = c.requires.room.tall;
  fresh = λ p. omega (arith, c.requires.room.fresh p);
}

pub returns-clause-gains : goal.returns-clause-gains
returns-clause-gains c =
    let body = c.args.ways.now.body.now in
    asked_of body c.args.variable c.as_slice.result.now (IsWantedOfType c.args.kind body)
    (IsInRuns c.as_runs.result.now)
    (IsLive body (KeepsAt c.args.kind body c.args.variable) c.args.variable)
    c.args.base_runs.now.items c.push_all.new.base_runs.items c.requires.variable
    (rw c.as_slice.ensures.value c.in_ok-regions.ensures)
    (λ p. (
      λ h. (c.in_ok-points.ensures.each p).0 ((c.as_runs.ensures.make_up p).0 h),
      λ h. (c.as_runs.ensures.make_up p).1 ((c.in_ok-points.ensures.each p).1 h),
    ))
    c.in_ok-push_all.ensures
