use Rattle.std.proofs.Common.{Contains, take, map}
use Rattle.nll_live.specs.Gathering.{Lists}
use Rattle.nll_live.proofs.points_by_variable.list_at_all.Given as goal

abbrev pub invariant-loop-variable : goal.invariant-loop-variable
invariant-loop-variable l =
    Lists (Contains (take l.variable-index l.variables)) l.point (map (λ list. list.items) l.fn.lists.items)
    (map (λ list. list.items) l.lists.items)
