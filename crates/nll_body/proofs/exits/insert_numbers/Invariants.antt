use Rattle.std.proofs.Common.{◌≡◌, [], drop}
use Rattle.std.specs.Prelude.{◌==◌}
use Rattle.indexmap.specs.IndexSet.{insert_all}
use Rattle.nll_body.proofs.exits.insert_numbers.Given as goal

abbrev pub invariant-loop-number : goal.invariant-loop-number
invariant-loop-number l =
    insert_all (λ b c. b == c) l.known.keys (drop l.number-index l.numbers) ≡ insert_all (λ b c. b == c) [] l.numbers
