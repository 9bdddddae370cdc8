use Rattle.std.proofs.Common.{map, take}
use Rattle.nll_mir_grammar.specs.Lines.{parameter_of}
use Rattle.nll_mir_text.specs.StructLines.{AreOwn}
use Rattle.nll_mir_text.proofs.own_names.OwnNames.add_all.Given as goal

abbrev pub invariant-loop-parameter : goal.invariant-loop-parameter
invariant-loop-parameter l = AreOwn (map parameter_of (take l.parameter-index l.parameters)) l.self
