use Rattle.std.proofs.Common.{◌<◌, take}
use Rattle.std.specs.Prelude.{All}
use Rattle.nll_tests.proofs.well_formed.are_below.Given as goal

abbrev pub invariant-loop-region : goal.invariant-loop-region
invariant-loop-region l = All (λ r. r < l.bound) (take l.region-index l.regions)
