use Rattle.std.proofs.Common.{◌≡◌, ◌+◌, ◌↔◌, true}
use Rattle.nll_core.specs.Lines.{Pushes}
use Rattle.nll_core.proofs.JumpLemmas.{AmongFirst, IsAmongFirst}
use Rattle.nll_core.proofs.lines.push_jumps.Given as goal

abbrev pub invariant-loop-successor : goal.invariant-loop-successor
invariant-loop-successor l =
    Pushes (AmongFirst l.successor-items (l.point + 1) l.successor-index) l.fn.targets.items l.targets.items
    × ((l.goes_on ≡ true) ↔ IsAmongFirst l.successor-items l.successor-index (l.point + 1))
