use Rattle.std.proofs.Common.{◌≤◌, ◌⊎◌, ℕ, Contains, length}
use Rattle.nll_problem.specs.Rows.{chain_of}
use Rattle.nll_problem.specs.Searching.{Indexes}
use Rattle.nll_problem.proofs.rows_builder.RowsBuilder.put_into.Given as goal

abbrev pub invariant-loop-entry : goal.invariant-loop-entry
invariant-loop-entry l = record {
  within : l.at ≤ length l.entries;
  indexes : Indexes l.fn.index.keys l.index.keys l.row (chain_of l.entries l.initial.at);
  left : (q : ℕ) → Contains (chain_of l.entries l.at) q → Contains (chain_of l.entries l.initial.at) q;
  all : (q : ℕ) → Contains (chain_of l.entries l.initial.at) q
      → Contains l.index.keys (l.row, q) ⊎ Contains (chain_of l.entries l.at) q;
}

abbrev pub decreases-loop-entry : goal.decreases-loop-entry
decreases-loop-entry l = l.at
