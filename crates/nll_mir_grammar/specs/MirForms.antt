-- The forms of the lines of a MIR text, and how they are spelled. Source: project's choice;
-- docs/FORMATS.md says the same in prose.
use Rattle.std.specs.Prelude.{◌≡◌, ℕ, ◌<◌, ◌^◌, Bool, true, false, List, [], ◌∷◌, ◌++◌, codes, map}
use Rattle.std.specs.Prelude.{length, Option, Some, None}
use Rattle.std.specs.List.{AllByRecursion, flat_map}
use Rattle.std.specs.Fmt.{decimal}
use Rattle.nll_text.specs.Tokens.{Token, word, region, arrow, sign, IsMadeOf}
use Rattle.nll_types.specs.Places.{PlacePath}
use Rattle.nll_types.specs.Operands.{Operand, constant, copied, moved}
use Rattle.nll_types.specs.declared.place.Projection.{Projection}
use Rattle.nll_types.specs.declared.place.Projection.TheVariants.{Deref, Field}
use Rattle.nll_types.specs.declared.parameter.Parameter.{Parameter}
use Rattle.nll_types.specs.declared.parameter.Sign.{Sign}
use Rattle.nll_types.specs.declared.parameter.Sign.TheVariants.{Covariant, Contravariant, Invariant}
use Rattle.nll_mir_grammar.specs.WrittenTypes.{WrittenName, WrittenType, WrittenTypes, tuple}
use Rattle.nll_mir_grammar.specs.WrittenTypes.{spelled}
use Rattle.nll_mir_grammar.specs.WrittenTypes.{mutability, HasNames, is_capital}
use Rattle.nll_body.specs.Statements.{Statement, assign, borrow, make, read, live, dead, nop}
use Rattle.nll_body.specs.Statements.{goto, switch, drop, call, return, stop}

-- A parameter of a struct: a region's name or a type's.
pub data WrittenParameter : Type 0 where
  region_parameter : WrittenName → Parameter → WrittenParameter
  type_parameter : WrittenName → Parameter → WrittenParameter

-- A line that isn't skipped, by its form.
pub data Form : Type 0 where
  universal : WrittenName → Form
  outlives : WrittenName → WrittenName → Form
  further : WrittenName → Form
  -- that the first region holds, at all points, what the second one holds
  assert_line : WrittenName → WrittenName → Form
  -- a struct with its parameters, whether it has a drop of its own, and its fields
  struct_line : WrittenName → List WrittenParameter → Bool → WrittenTypes → Form
  variable : ℕ → WrittenType → Form
  blocks : ℕ → Form
  block : ℕ → Form
  at_point : Statement WrittenName WrittenType → Form
  end : Form

-- ---- how the parts of a line are spelled

-- `_0`
abbrev pub variable_word : ℕ → Token
variable_word x = word (codes "_" ++ decimal x)

-- `bb0`
abbrev pub block_word : ℕ → Token
block_word b = word (codes "bb" ++ decimal b)

-- `.*` or `.0`
abbrev pub spelled_projection : Projection → List Token
spelled_projection Deref = sign 46 ∷ sign 42 ∷ []
spelled_projection (Field k) = sign 46 ∷ word (decimal k) ∷ []

-- `_0` with its projections
abbrev pub spelled_place : PlacePath → List Token
spelled_place p = variable_word p.variable ∷ flat_map spelled_projection p.projections

-- `const`, `copy _0` or `move _0`
abbrev pub spelled_operand : Operand → List Token
spelled_operand constant = word (codes "const") ∷ []
spelled_operand (copied p) = word (codes "copy") ∷ spelled_place p
spelled_operand (moved p) = word (codes "move") ∷ spelled_place p

-- items separated by commas
abbrev pub parted : List (List Token) → List Token
parted [] = []
parted (item ∷ items) = item ++ flat_map (λ other. sign 44 ∷ other) items

-- items separated by commas, between `(` and `)`
abbrev pub in_parentheses : List (List Token) → List Token
in_parentheses items = sign 40 ∷ (parted items ++ sign 41 ∷ [])

-- `+`, `-` or `=`
abbrev pub sign_token : Sign → Token
sign_token Covariant = sign 43
sign_token Contravariant = sign 45
sign_token Invariant = sign 61

-- `?`, or nothing
abbrev pub dangling_mark : Bool → List Token
dangling_mark true = sign 63 ∷ []
dangling_mark false = []

-- `+`, `-` or `=`, and `?` after it or not
abbrev pub spelled_marks : Parameter → List Token
spelled_marks p = sign_token p.sign ∷ dangling_mark p.may_dangle

-- `'a +` or `T +`
abbrev pub spelled_parameter : WrittenParameter → List Token
spelled_parameter (region_parameter a p) = region a ∷ spelled_marks p
spelled_parameter (type_parameter n p) = word n ∷ spelled_marks p

-- nothing, or `<`, the parameters, separated by commas, and `>`
abbrev pub spelled_parameters : List WrittenParameter → List Token
spelled_parameters [] = []
spelled_parameters (p ∷ ps) =
    sign 60 ∷ (parted (map spelled_parameter (p ∷ ps)) ++ sign 62 ∷ [])

-- `drop`, or nothing
abbrev pub drop_mark : Bool → List Token
drop_mark true = word (codes "drop") ∷ []
drop_mark false = []

-- `-> bb0`, or `-> bb0 unwind bb1`
abbrev pub spelled_exits : ℕ → Option ℕ → List Token
spelled_exits b None = arrow ∷ block_word b ∷ []
spelled_exits b (Some c) = arrow ∷ block_word b ∷ word (codes "unwind") ∷ block_word c ∷ []

-- nothing, or `where 'a : 'b , ..`
abbrev pub spelled_wheres : List (WrittenName × WrittenName) → List Token
spelled_wheres [] = []
spelled_wheres (w ∷ ws) =
    word (codes "where") ∷ parted (map (λ v. region v.0 ∷ sign 58 ∷ region v.1 ∷ []) (w ∷ ws))

-- an argument of a call: `copy _0 : T`
abbrev pub spelled_argument : Operand × WrittenType → List Token
spelled_argument a = spelled_operand a.0 ++ sign 58 ∷ spelled a.1

-- The tokens of a statement or terminator. The word after `call` may be any.
abbrev pub spelled_statement : List ℕ → Statement WrittenName WrittenType → List Token
spelled_statement f (assign p op) = spelled_place p ++ sign 61 ∷ spelled_operand op
spelled_statement f (borrow p r m q) =
    spelled_place p ++ sign 61 ∷ sign 38 ∷ region r ∷ (mutability m ++ spelled_place q)
spelled_statement f (make p t ops) =
    spelled_place p ++ sign 61 ∷ word (codes "make")
    ∷ (spelled t ++ in_parentheses (map spelled_operand ops))
spelled_statement f (read p) = word (codes "read") ∷ spelled_place p
spelled_statement f (live x) = word (codes "live") ∷ variable_word x ∷ []
spelled_statement f (dead x) = word (codes "dead") ∷ variable_word x ∷ []
spelled_statement f nop = word (codes "nop") ∷ []
spelled_statement f (goto b) = word (codes "goto") ∷ block_word b ∷ []
spelled_statement f (switch op bs) =
    word (codes "switch") ∷ (spelled_operand op ++ map block_word bs)
spelled_statement f (drop x b unwind) =
    word (codes "drop") ∷ variable_word x ∷ spelled_exits b unwind
spelled_statement f (call p args t wheres b unwind) =
    spelled_place p ++ sign 61 ∷ word (codes "call") ∷ word f
    ∷ (in_parentheses (map spelled_argument args) ++ sign 58
    ∷ (spelled t ++ (spelled_wheres wheres ++ spelled_exits b unwind)))
spelled_statement f return = word (codes "return") ∷ []
spelled_statement f stop = word (codes "stop") ∷ []

-- The tokens of a line of the form. The word after `call` may be any.
abbrev pub spelled_form : List ℕ → Form → List Token
spelled_form f (universal a) = word (codes "universal") ∷ region a ∷ []
spelled_form f (outlives a b) = word (codes "outlives") ∷ region a ∷ region b ∷ []
spelled_form f (further x) = word (codes "region") ∷ region x ∷ []
spelled_form f (assert_line a b) = word (codes "assert") ∷ region a ∷ sign 58 ∷ region b ∷ []
spelled_form f (struct_line n ps has_drop fields) =
    word (codes "struct") ∷ word n
    ∷ (spelled_parameters ps ++ (drop_mark has_drop ++ spelled (tuple fields)))
spelled_form f (variable x t) =
    word (codes "let") ∷ variable_word x ∷ sign 58 ∷ spelled t
spelled_form f (blocks n) = word (codes "blocks") ∷ word (decimal n) ∷ []
spelled_form f (block n) = word (codes "block") ∷ block_word n ∷ []
spelled_form f (at_point s) = spelled_statement f s
spelled_form f end = word (codes "end") ∷ []

-- ---- what a line may say

-- a number has at most nine digits
abbrev pub IsShortNumber : ℕ → Type 0
IsShortNumber n = n < 10 ^ 9

-- the number of a projection has at most nine digits, where it has one
abbrev pub IsWritableProjection : Projection → Type 0
IsWritableProjection Deref = Unit {0}
IsWritableProjection (Field k) = IsShortNumber k

-- the numbers of a place have at most nine digits
abbrev pub IsWritablePlace : PlacePath → Type 0
IsWritablePlace p = IsShortNumber p.variable × AllByRecursion IsWritableProjection p.projections

-- the numbers of an operand have at most nine digits
abbrev pub IsWritableOperand : Operand → Type 0
IsWritableOperand constant = Unit {0}
IsWritableOperand (copied p) = IsWritablePlace p
IsWritableOperand (moved p) = IsWritablePlace p

-- a type parameter's name begins with a capital letter
abbrev pub IsWritableParameter : WrittenParameter → Type 0
IsWritableParameter (region_parameter a p) = Unit {0}
IsWritableParameter (type_parameter n p) = is_capital n ≡ true

-- the other block's number has at most nine digits, where there is another
abbrev pub IsWritableUnwind : Option ℕ → Type 0
IsWritableUnwind None = Unit {0}
IsWritableUnwind (Some b) = IsShortNumber b

-- numbers have at most nine digits, names of types begin with a capital letter, and a switch has a
-- target
abbrev pub IsWritableStatement : Statement WrittenName WrittenType → Type 0
IsWritableStatement (assign p op) = IsWritablePlace p × IsWritableOperand op
IsWritableStatement (borrow p r m q) = IsWritablePlace p × IsWritablePlace q
IsWritableStatement (make p t ops) =
    IsWritablePlace p × HasNames t × AllByRecursion IsWritableOperand ops
IsWritableStatement (read p) = IsWritablePlace p
IsWritableStatement (live x) = IsShortNumber x
IsWritableStatement (dead x) = IsShortNumber x
IsWritableStatement nop = Unit {0}
IsWritableStatement (goto b) = IsShortNumber b
IsWritableStatement (switch op bs) =
    IsWritableOperand op × (0 < length bs) × AllByRecursion IsShortNumber bs
IsWritableStatement (drop x b unwind) = IsShortNumber x × IsShortNumber b × IsWritableUnwind unwind
IsWritableStatement (call p args t wheres b unwind) =
    IsWritablePlace p × AllByRecursion (λ a. IsWritableOperand a.0 × HasNames a.1) args
    × HasNames t × IsShortNumber b × IsWritableUnwind unwind
IsWritableStatement return = Unit {0}
IsWritableStatement stop = Unit {0}

-- like `IsWritableStatement`, but for a form; a struct's name begins with a capital letter
abbrev pub IsWritable : Form → Type 0
IsWritable (struct_line n ps has_drop fields) =
    (is_capital n ≡ true) × AllByRecursion IsWritableParameter ps × HasNames (tuple fields)
IsWritable (variable x t) = IsShortNumber x × HasNames t
IsWritable (blocks n) = IsShortNumber n
IsWritable (block n) = IsShortNumber n
IsWritable (at_point s) = IsWritableStatement s
IsWritable _ = Unit {0}

-- The tokens are those of the form, with some word after `call`.
pub record IsSpelled (tokens : List Token) (f : Form) : Type 0 where
  pub callee : List ℕ
  pub same : tokens ≡ spelled_form callee f
  pub writable : IsWritable f

-- the line has the form: it is made of tokens of the form
abbrev pub HasForm : List ℕ → Form → Type 0
HasForm line f = (tokens : List Token) × IsMadeOf line tokens × IsSpelled tokens f
