use Rattle.std.proofs.Common.{◌≡◌, ◌++◌, map, take, string_bytes}
use Rattle.nll_command_line.proofs.options.push_all.Given as goal

abbrev pub invariant-loop-word : goal.invariant-loop-word
invariant-loop-word l =
    map (λ word. word.now) l.others.items
    ≡ map (λ word. word.now) l.fn.others.items ++ map string_bytes (take l.word-index l.fn.words)
