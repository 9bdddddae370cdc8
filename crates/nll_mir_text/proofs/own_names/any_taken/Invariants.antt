use Rattle.std.proofs.Common.{◌≡◌, ◌∷◌, drop}
use Rattle.std.specs.List.{list_any}
use Rattle.nll_mir_text.specs.StructLines.{takes_name}
use Rattle.nll_mir_text.proofs.own_names.any_taken.Given as goal

abbrev pub invariant-loop-parameter : goal.invariant-loop-parameter
invariant-loop-parameter l =
    list_any (takes_name (l.name ∷ l.structs)) (drop l.parameter-index l.parameters)
    ≡ list_any (takes_name (l.name ∷ l.structs)) l.parameters
