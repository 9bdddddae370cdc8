use Rattle.std.proofs.Common.{◌≡◌, ◌≤◌, ◌++◌, length, reverse, drop, take}
use Rattle.nll_mir_text.specs.Resolving.{newest, others, starts}
use Rattle.nll_mir_text.proofs.rows.newest_row.Given as goal

abbrev pub invariant-loop-place : goal.invariant-loop-place
invariant-loop-place l = record {
  within : l.place ≤ length l.rows;
  newest : reverse (drop l.place l.rows) ++ newest (reverse (take l.place l.rows)) ≡ newest (reverse l.rows);
  others : others (reverse (take l.place l.rows)) ≡ others (reverse l.rows);
  starts : starts (reverse (take l.place l.rows)) ≡ starts (reverse l.rows);
}

abbrev pub decreases-loop-place : goal.decreases-loop-place
decreases-loop-place l = l.place
