-- Lines by their first words, and the right sides of assignments by their first tokens.
-- Source: project's choice. Only private contracts cite this file.
use Rattle.std.specs.Prelude.{◌≡◌, ℕ, Bool, List, [], ◌∷◌, codes, Option, Some, None}
use Rattle.nll_text.specs.Tokens.{Token, word, sign}
use Rattle.nll_types.specs.Places.{PlacePath}
use Rattle.nll_types.specs.Operands.{Operand}
use Rattle.nll_mir_grammar.specs.WrittenTypes.{WrittenName, WrittenType, WrittenTypes}
use Rattle.nll_text.specs.Grammars.{Grammar, Begins, any_words, numbers, regions}
use Rattle.nll_mir_grammar.specs.Grammars.{behind_token, empty, pair, parentheses, by_kind}
use Rattle.nll_mir_grammar.specs.Parts.{names, variables, block_names}
use Rattle.nll_mir_grammar.specs.Parts.{places, operands, types, tuples, arguments, mutabilities}
use Rattle.nll_mir_grammar.specs.Parts.{drop_marks, parameter_lists, bounds, bound_lists}
use Rattle.nll_mir_grammar.specs.Parts.{block_lists, exits}
use Rattle.nll_body.specs.Statements.{assign, borrow, make, read, live, dead, nop}
use Rattle.nll_body.specs.Statements.{goto, switch, drop, call, return, stop}
use Rattle.nll_mir_grammar.specs.MirForms.{Form, universal, outlives, further, assert_line}
use Rattle.nll_mir_grammar.specs.MirForms.{struct_line, variable, blocks, block, at_point, end}
use Rattle.nll_mir_grammar.specs.MirForms.{WrittenParameter}
use Rattle.nll_mir_grammar.specs.declared.keyword.Keyword.{Keyword}
use Rattle.nll_mir_grammar.specs.declared.keyword.Keyword.TheVariants as words

-- ---- lines that begin with a word of their own

-- the first word of a line
abbrev pub keyword_name : Keyword → List ℕ
keyword_name words.Universal = codes "universal"
keyword_name words.Outlives = codes "outlives"
keyword_name words.Region = codes "region"
keyword_name words.Assert = codes "assert"
keyword_name words.Struct = codes "struct"
keyword_name words.Let = codes "let"
keyword_name words.Blocks = codes "blocks"
keyword_name words.Block = codes "block"
keyword_name words.Read = codes "read"
keyword_name words.Live = codes "live"
keyword_name words.Dead = codes "dead"
keyword_name words.Nop = codes "nop"
keyword_name words.Goto = codes "goto"
keyword_name words.Switch = codes "switch"
keyword_name words.Drop = codes "drop"
keyword_name words.Return = codes "return"
keyword_name words.Stop = codes "stop"
keyword_name words.End = codes "end"

-- what follows the word
abbrev pub Behind : Keyword → Type 0
Behind words.Universal = WrittenName
Behind words.Outlives = WrittenName × WrittenName
Behind words.Region = WrittenName
Behind words.Assert = WrittenName × WrittenName
Behind words.Struct = WrittenName × (List WrittenParameter × (Bool × WrittenTypes))
Behind words.Let = ℕ × WrittenType
Behind words.Blocks = ℕ
Behind words.Block = ℕ
Behind words.Read = PlacePath
Behind words.Live = ℕ
Behind words.Dead = ℕ
Behind words.Nop = Unit {0}
Behind words.Goto = ℕ
Behind words.Switch = Operand × List ℕ
Behind words.Drop = ℕ × (ℕ × Option ℕ)
Behind words.Return = Unit {0}
Behind words.Stop = Unit {0}
Behind words.End = Unit {0}

-- what follows `struct`
abbrev pub structs : Grammar (WrittenName × (List WrittenParameter × (Bool × WrittenTypes)))
structs = pair names (pair parameter_lists (pair drop_marks tuples))

-- how it is spelled
abbrev pub tails : (k : Keyword) → Grammar (Behind k)
tails words.Universal = regions
tails words.Outlives = pair regions regions
tails words.Region = regions
tails words.Assert = bounds
tails words.Struct = structs
tails words.Let = pair variables (behind_token (sign 58) types)
tails words.Blocks = numbers
tails words.Block = block_names
tails words.Read = places
tails words.Live = variables
tails words.Dead = variables
tails words.Nop = empty
tails words.Goto = block_names
tails words.Switch = pair operands block_lists
tails words.Drop = pair variables exits
tails words.Return = empty
tails words.Stop = empty
tails words.End = empty

-- ---- right sides of assignments

-- A right side is a value, a borrow, a value that is made, or a call.
pub data Right : Type 0 where
  value : Right
  borrowed : Right
  made : Right
  called : Right

-- what a right side has
abbrev pub RightParts : Right → Type 0
RightParts value = Operand
RightParts borrowed = WrittenName × (Bool × PlacePath)
RightParts made = WrittenType × List Operand
RightParts called =
    List ℕ × (List (Operand × WrittenType)
    × (WrittenType × (List (WrittenName × WrittenName) × (ℕ × Option ℕ))))

-- what follows the `&` of a borrow
abbrev pub borrows : Grammar (WrittenName × (Bool × PlacePath))
borrows = pair regions (pair mutabilities places)

-- what follows `make`
abbrev pub makes : Grammar (WrittenType × List Operand)
makes = pair types (parentheses operands)

-- what follows the `:` of a call
abbrev pub results : Grammar (WrittenType × (List (WrittenName × WrittenName) × (ℕ × Option ℕ)))
results = pair types (pair bound_lists exits)

-- what follows the name of a function that is called
abbrev pub signatures :
    Grammar (List (Operand × WrittenType) × (WrittenType × (List (WrittenName × WrittenName) × (ℕ
    × Option ℕ))))
signatures = pair (parentheses arguments) (behind_token (sign 58) results)

-- how it is spelled
abbrev pub right_sides : (k : Right) → Grammar (RightParts k)
right_sides value = operands
right_sides borrowed = behind_token (sign 38) borrows
right_sides made = behind_token (word (codes "make")) makes
right_sides called = behind_token (word (codes "call")) (pair any_words signatures)

-- a right side
abbrev pub rights : Grammar ((k : Right) × RightParts k)
rights = by_kind RightParts right_sides

-- ---- lines

-- what a line has, after its keyword or where it has none
abbrev pub LineParts : Option Keyword → Type 0
LineParts None = PlacePath × ((k : Right) × RightParts k)
LineParts (Some k) = Behind k

-- how it is spelled, with its keyword
abbrev pub line_grammars : (k : Option Keyword) → Grammar (LineParts k)
line_grammars None = pair places (behind_token (sign 61) rights)
line_grammars (Some k) = behind_token (word (keyword_name k)) (tails k)

-- a line
abbrev pub lines : Grammar ((k : Option Keyword) × LineParts k)
lines = by_kind LineParts line_grammars

-- the parts of a form, with the word after `call`
abbrev pub parts_of_form : List ℕ → Form → (k : Option Keyword) × LineParts k
parts_of_form f (universal a) = (Some words.Universal, a)
parts_of_form f (outlives a b) = (Some words.Outlives, (a, b))
parts_of_form f (further x) = (Some words.Region, x)
parts_of_form f (assert_line a b) = (Some words.Assert, (a, b))
parts_of_form f (struct_line n ps has_drop fields) =
    (Some words.Struct, (n, (ps, (has_drop, fields))))
parts_of_form f (variable x t) = (Some words.Let, (x, t))
parts_of_form f (blocks n) = (Some words.Blocks, n)
parts_of_form f (block n) = (Some words.Block, n)
parts_of_form f (at_point (assign p op)) = (None, (p, (value, op)))
parts_of_form f (at_point (borrow p r m q)) = (None, (p, (borrowed, (r, (m, q)))))
parts_of_form f (at_point (make p t ops)) = (None, (p, (made, (t, ops))))
parts_of_form f (at_point (read p)) = (Some words.Read, p)
parts_of_form f (at_point (live x)) = (Some words.Live, x)
parts_of_form f (at_point (dead x)) = (Some words.Dead, x)
parts_of_form f (at_point nop) = (Some words.Nop, tt)
parts_of_form f (at_point (goto b)) = (Some words.Goto, b)
parts_of_form f (at_point (switch op bs)) = (Some words.Switch, (op, bs))
parts_of_form f (at_point (drop x b unwind)) = (Some words.Drop, (x, (b, unwind)))
parts_of_form f (at_point (call p args t wheres b unwind)) =
    (None, (p, (called, (f, (args, (t, (wheres, (b, unwind))))))))
parts_of_form f (at_point return) = (Some words.Return, tt)
parts_of_form f (at_point stop) = (Some words.Stop, tt)
parts_of_form f end = (Some words.End, tt)

-- a form at the front: `f` is the word after `call`
pub record IsLine (ts : List Token) (f : Form) (rest : List Token) : Type 0 where
  pub callee : List ℕ
  pub begins : Begins lines ts (parts_of_form callee f) rest

-- the right side at the front, of an assignment to the place that is of this form
pub record IsRightSide (ts : List Token) (p : PlacePath) (f : Form) (rest : List Token) :
    Type 0 where
  pub callee : List ℕ
  pub right : (k : Right) × RightParts k
  pub begins : Begins rights ts right rest
  pub same : parts_of_form callee f ≡ (None, (p, right))

-- what follows the keyword, of a line that is of this form
abbrev pub IsBehind : Keyword → List Token → Form → List Token → Type 0
IsBehind k ts f rest = Begins lines (word (keyword_name k) ∷ ts) (parts_of_form [] f) rest

-- the tokens begin with no keyword
abbrev pub HasNoKeyword : List Token → Type 0
HasNoKeyword ts = (k : Keyword) (rest : List Token) → ts ≡ word (keyword_name k) ∷ rest → ⊥
