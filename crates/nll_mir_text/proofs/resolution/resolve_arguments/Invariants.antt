use Rattle.std.proofs.Common.{◌≡◌, List, take}
use Rattle.std.specs.Prelude.{◌&&◌}
use Rattle.std.specs.List.{list_all}
use Rattle.nll_types.specs.Grown.{AddsTypes}
use Rattle.nll_types.specs.Operands.{Operand}
use Rattle.nll_types.specs.declared.typed.Typed.{Typed}
use Rattle.nll_body.specs.Within.{AddsArguments, ListsGrow}
use Rattle.nll_mir_grammar.specs.TypeTexts.{written}
use Rattle.nll_mir_text.specs.Naming.{has_arguments}
use Rattle.nll_mir_text.specs.Resolution.{scope_of}
use Rattle.nll_mir_text.specs.ResolvedStatements.{AreOfArguments}
use Rattle.nll_mir_text.proofs.resolution.resolve_arguments.Given as goal

abbrev pub invariant-loop-argument : goal.invariant-loop-argument
invariant-loop-argument l = record {
  adds : AddsTypes l.fn.types l.types;
  grows : ListsGrow l.fn.statements l.statements;
  made : (args : List (Operand × Typed))
      × AreOfArguments (scope_of l.scope) (take l.argument-index l.arguments) l.types args
      × AddsArguments l.fn.statements l.statements args;
  fits : l.fits ≡ (l.fn.fits && list_all (λ a. has_arguments (scope_of l.scope) (written a.1))
      (take l.argument-index l.arguments));
}
