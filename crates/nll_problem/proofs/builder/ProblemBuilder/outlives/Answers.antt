use Rattle.std.proofs.Common.{◌<◌, arith}
use Rattle.std.proofs.lemmas.Bool.{false≢true}
use Rattle.nll_problem.specs.Answers.{AddsFact}
use Rattle.nll_problem.specs.Bases.{distinct}
use Rattle.nll_problem.proofs.BaseLemmas.{adds_distinct, distinct_once, distinct_same}
use Rattle.nll_problem.proofs.ProblemLemmas.{sound_outlives}
use Rattle.nll_problem.proofs.builder.ProblemBuilder.outlives.Goals as goal

pub invariant_of-self-2 : goal.invariant_of-self-2
invariant_of-self-2 c =
    let adds : AddsFact (distinct c.self.inside.outlives.items) (distinct c.push_pair.new.pairs.items)
    (c.args.longer, c.args.shorter) =
    rw c.in_ok-push_pair.ensures.ok (adds_distinct c.self.inside.outlives.items (c.args.longer, c.args.shorter)) in
    let longer : c.args.longer < c.self.inside.graph.universals = omega arith in
    let shorter : c.args.shorter < c.self.inside.graph.universals = omega arith in (
      sound_outlives _ c.self.invariant.0 _ c.args.longer c.args.shorter (λ x. (adds.each x).0)
          (distinct_once c.push_pair.new.pairs.items) longer shorter,
      c.self.invariant.1,
      c.self.invariant.2,
    )

pub returns-clause-ok : goal.returns-clause-ok
returns-clause-ok c =
    rw (← c.self.view_is, c.in_ok-push_pair.ensures.ok)
    (adds_distinct c.self.inside.outlives.items (c.args.longer, c.args.shorter))

pub returns-in_err-push_pair-clause-repeated : goal.returns-in_err-push_pair-clause-repeated
returns-in_err-push_pair-clause-repeated c = λ due there.
    absurd (false≢true (c.in_err-push_pair.ensures.repeated
    ((distinct_same c.self.inside.outlives.items (c.args.longer, c.args.shorter)).1
    (rw (← c.self.view_is) at there))))
