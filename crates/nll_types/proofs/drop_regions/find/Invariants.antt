use Rattle.std.proofs.Common.{◌≡◌, take}
use Rattle.nll_types.specs.Collecting.{regions_among}
use Rattle.nll_types.proofs.drop_regions.find.Given as goal

abbrev pub invariant-loop-source : goal.invariant-loop-source
invariant-loop-source l = l.found.items ≡ regions_among (take l.source-index l.source-items)
