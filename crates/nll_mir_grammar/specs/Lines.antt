-- The code's lines and statements as the forms that they are.
-- Source: project's choice.
use Rattle.std.specs.Prelude.{ℕ, List, map, Option}
use Rattle.std.specs.Borrow.{Bor}
use Rattle.std.specs.Global.{Vec}
use Rattle.nll_types.specs.Places.{path_of}
use Rattle.nll_types.specs.Operands.{Operand, operand_of}
use Rattle.nll_types.specs.declared.operand.Operand.{Operand as Written}
use Rattle.nll_mir_grammar.specs.WrittenTypes.{WrittenName, WrittenType}
use Rattle.nll_mir_grammar.specs.TypeTexts.{written}
use Rattle.nll_mir_grammar.specs.declared.type_text.TypePiece.{TypePiece}
use Rattle.nll_body.specs.Statements.{Statement, assign, borrow, make, read, live, dead, nop}
use Rattle.nll_body.specs.Statements.{goto, switch, drop, call, return, stop}
use Rattle.nll_mir_grammar.specs.MirForms.{Form, universal, outlives, further, assert_line}
use Rattle.nll_mir_grammar.specs.MirForms.{struct_line, variable, blocks, block, at_point, end}
use Rattle.nll_mir_grammar.specs.MirForms.{WrittenParameter, region_parameter, type_parameter}
pub use Rattle.nll_mir_grammar.specs.Tuples.{parts}
use Rattle.nll_mir_grammar.specs.declared.light.Light.{Light}
use Rattle.nll_mir_grammar.specs.declared.light.Light.TheVariants as lights
use Rattle.nll_mir_grammar.specs.declared.line.Line.{Line}
use Rattle.nll_mir_grammar.specs.declared.line.Line.TheVariants as lines
use Rattle.nll_mir_grammar.specs.declared.line.ParameterText.{ParameterText}
use Rattle.nll_mir_grammar.specs.declared.line.StructText.{StructText}
use Rattle.nll_mir_grammar.specs.declared.line.ParameterText.TheVariants as parameters
use Rattle.nll_mir_grammar.specs.declared.statement.Make.{Make}
use Rattle.nll_mir_grammar.specs.declared.statement.Call.{Call}
use Rattle.nll_mir_grammar.specs.declared.statement.Statement.{Statement as Kept}
use Rattle.nll_mir_grammar.specs.declared.statement.Statement.TheVariants as kept

-- an argument of a call in the code
abbrev pub argument_of : Written × List TypePiece → Operand × WrittenType
argument_of a = (operand_of a.0, written a.1)

-- the result of a call in the code, its bounds, and where it goes on
abbrev pub result_of :
    List TypePiece × (Vec (Bor (List ℕ) × Bor (List ℕ)) × (ℕ × Option ℕ))
    → WrittenType × (List (WrittenName × WrittenName) × (ℕ × Option ℕ))
result_of r = (written r.0, (map (λ w. (w.0.now, w.1.now)) r.1.0.items, r.1.1))

-- a parameter of the code
abbrev pub parameter_of : ParameterText → WrittenParameter
parameter_of (parameters.Region a p) = region_parameter a.now p
parameter_of (parameters.Type n p) = type_parameter n.now p

-- what a statement of the code makes
abbrev pub made_of : Make → Statement WrittenName WrittenType
made_of m = make (path_of m.place) (written m.ty) (map operand_of m.operands.items)

-- a call of the code
abbrev pub call_of : Call → Statement WrittenName WrittenType
call_of c =
    call (path_of c.place) (map argument_of c.arguments.items) (written c.result)
    (map (λ w. (w.0.now, w.1.now)) c.wheres.items) c.target c.unwind

-- a statement of the code, without where its parts lie in memory
abbrev pub statement_of : Kept → Statement WrittenName WrittenType
statement_of (kept.Assign p op) = assign (path_of p) (operand_of op)
statement_of (kept.Borrow p r m q) = borrow (path_of p) r.now m (path_of q)
statement_of (kept.Make b) = made_of b.value
statement_of (kept.Read p) = read (path_of p)
statement_of (kept.Live x) = live x
statement_of (kept.Dead x) = dead x
statement_of kept.Nop = nop
statement_of (kept.Goto b) = goto b
statement_of (kept.Switch op bs) = switch (operand_of op) bs.items
statement_of (kept.Drop x b unwind) = drop x b unwind
statement_of (kept.Call c) = call_of c.value
statement_of kept.Return = return
statement_of kept.Stop = stop

-- a statement of the code that names at most a variable
abbrev pub statement_of_light : Light → Statement WrittenName WrittenType
statement_of_light lights.Nop = nop
statement_of_light (lights.Live x) = live x
statement_of_light (lights.Dead x) = dead x

-- a struct line of the code
abbrev pub struct_form : StructText → Form
struct_form t =
    struct_line t.name.now (map parameter_of t.parameters.items) t.has_drop
    (parts (written t.fields))

-- a line of the code
abbrev pub form_of : Line → Form
form_of (lines.Universal a) = universal a.now
form_of (lines.Outlives a b) = outlives a.now b.now
form_of (lines.Region x) = further x.now
form_of (lines.Assert a b) = assert_line a.now b.now
form_of (lines.Struct b) = struct_form b.value
form_of (lines.Let x t) = variable x (written t)
form_of (lines.Blocks n) = blocks n
form_of (lines.Block n) = block n
form_of (lines.At s) = at_point (statement_of s)
form_of lines.End = end
