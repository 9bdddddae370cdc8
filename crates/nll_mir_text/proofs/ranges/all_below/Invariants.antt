use Rattle.std.proofs.Common.{◌≡◌, drop}
use Rattle.std.specs.Prelude.{nat_lt}
use Rattle.std.specs.List.{list_all}
use Rattle.nll_mir_text.proofs.ranges.all_below.Given as goal

abbrev pub invariant-loop-number : goal.invariant-loop-number
invariant-loop-number l =
    list_all (λ n. nat_lt n l.end) (drop l.number-index l.numbers) ≡ list_all (λ n. nat_lt n l.end) l.numbers
