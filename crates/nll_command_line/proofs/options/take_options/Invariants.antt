use Rattle.std.proofs.Common.{◌≡◌, ◌++◌, List, ℕ, map, length, string_bytes}
use Rattle.nll_command_line.specs.Options.{Given}
use Rattle.nll_command_line.specs.Taking.{SaysBy}
use Rattle.nll_command_line.proofs.WordLemmas.{IsReadTo}
use Rattle.nll_command_line.proofs.options.take_options.Given as goal

abbrev pub invariant-loop-word : goal.invariant-loop-word
invariant-loop-word l = (given : List Given) × (more : List (List ℕ)) × SaysBy given l.options
    × (map (λ word. word.now) l.others.items ≡ map (λ word. word.now) l.fn.others.items ++ more)
    × IsReadTo given more (map string_bytes l.left) (map string_bytes l.fn.words)

abbrev pub decreases-loop-word : goal.decreases-loop-word
decreases-loop-word l = length l.left
