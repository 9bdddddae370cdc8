use Rattle.std.proofs.Common.{◌≡◌, ◌-◌, ◌++◌, ◌∙◌, ℕ, map, inr, ap, ⊎_elim, arith}
use Rattle.std.specs.List.{range_with_len}
use Rattle.nll_live.proofs.PairLemmas.{fact_more}
use Rattle.nll_live.proofs.base_elements.push_pairs.Goals as goal

pub loop-point-preserved : goal.loop-point-preserved
loop-point-preserved c =
    let h = c.loop-point.invariant in
    record {
      begun = omega (arith, h.begun);
      upto = inr (omega (arith, c.loop-point-test.true));
      items = c.in_ok-push.ensures.items
          ∙ fact_more c.args.base_run.region c.args.base_run.first c.loop-point.point c.args.pairs.now.items
          c.loop-point.pairs.items h.begun h.items;
    }

pub returns : goal.returns
returns c =
    let run = c.args.base_run in
    let h = c.loop-point.invariant in
    let count : c.loop-point.point - run.first ≡ run.end - run.first =
    ⊎_elim (λ is. omega (arith, is, c.loop-point-test.false)) (λ upto. omega (arith, upto, c.loop-point-test.false))
    h.upto in
    h.items ∙ ap (λ (n : ℕ). c.args.pairs.now.items ++ map (λ p. (run.region, p)) (range_with_len run.first n)) count
