use Rattle.std.proofs.Common.{◌∙◌, ◌<◌, length, sym, arith}
use Rattle.std.proofs.lemmas.Bool.{eqb-false}
use Rattle.nll_sets.specs.Runs.{first_of}
use Rattle.nll_core.proofs.satisfaction.is_empty.Goals as goal

-- the first number of the first run is in the set
pub returns-clause-no : goal.returns-clause-no
returns-clause-no c = λ some.
    let runs = c.as_runs.result.now in
    let there : 0 < length runs = omega (arith, eqb-false (length runs) 0 (sym c.is_empty.ensures ∙ some)) in (
      first_of runs 0,
      (c.as_runs.ensures.make_up (first_of runs 0)).0
          (0, there, omega arith, (c.as_runs.ensures.fit 0 there).0),
    )
