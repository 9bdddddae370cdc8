use Rattle.std.proofs.Common.{◌≡◌, ◌++◌, map, drop}
use Rattle.nll_mir_grammar.specs.Lines.{parameter_of}
use Rattle.nll_mir_text.specs.StructLines.{region_marks, type_marks}
use Rattle.nll_mir_text.proofs.fields.push_marks.Given as goal

abbrev pub invariant-loop-parameter : goal.invariant-loop-parameter
invariant-loop-parameter l = record {
  regions : l.declaration.regions.items ++ region_marks (map parameter_of (drop l.parameter-index l.parameters))
      ≡ l.fn.declaration.regions.items ++ region_marks (map parameter_of l.parameters);
  types : l.declaration.types.items ++ type_marks (map parameter_of (drop l.parameter-index l.parameters))
      ≡ l.fn.declaration.types.items ++ type_marks (map parameter_of l.parameters);
  has_drop : l.declaration.has_drop ≡ l.fn.declaration.has_drop;
  fields : l.declaration.fields ≡ l.fn.declaration.fields;
}
