-- Statements and terminators, one of which is at each point of a body. Source: RFC 2094 speaks of
-- MIR; the forms are project's choice, and docs/FORMATS.md says the same in prose.
use Rattle.std.specs.Prelude.{ℕ, Bool, true, false, List, [], ◌∷◌, ◌++◌, Option, map}
use Rattle.nll_types.specs.Places.{PlacePath}
use Rattle.nll_types.specs.Operands.{Operand}

-- A statement or terminator, over regions R and types T: names and types as they are written, or
-- the regions' numbers and the types that they mean. Variables, blocks and fields go by their
-- numbers.
pub data Statement (R T : Type 0) : Type 0 where
  -- ---- statements
  -- what the operand gives goes to the place
  assign : PlacePath → Operand → Statement R T
  -- a reference of the region, `mut` or not, to the second place goes to the first
  borrow : PlacePath → R → Bool → PlacePath → Statement R T
  -- a tuple or struct of the type, made of the operands, goes to the place
  make : PlacePath → T → List Operand → Statement R T
  -- the place is read
  read : PlacePath → Statement R T
  -- the variable's storage begins
  live : ℕ → Statement R T
  -- the variable's storage ends
  dead : ℕ → Statement R T
  nop : Statement R T
  -- ---- terminators
  goto : ℕ → Statement R T
  -- to one of the blocks, by what the operand gives
  switch : Operand → List ℕ → Statement R T
  -- the variable is dropped; to the block, or to the other where that unwinds
  drop : ℕ → ℕ → Option ℕ → Statement R T
  -- a function is called with operands for parameters of these types; its result, of this type,
  -- goes to the place; of each pair of regions the first must outlive the second; to the block, or
  -- to the other where the call unwinds
  call : PlacePath → List (Operand × T) → T → List (R × R) → ℕ → Option ℕ → Statement R T
  return : Statement R T
  stop : Statement R T

-- the block ends with it
abbrev pub is_terminator : {R T : Type 0} → Statement R T → Bool
is_terminator (goto b) = true
is_terminator (switch op bs) = true
is_terminator (drop x b unwind) = true
is_terminator (call p args t wheres b unwind) = true
is_terminator return = true
is_terminator stop = true
is_terminator _ = false

-- a statement or terminator with other regions and types
abbrev pub map_statement :
    {R R' T T' : Type 0} → (R → R') → (T → T') → Statement R T → Statement R' T'
map_statement f g (assign p op) = assign p op
map_statement f g (borrow p r m q) = borrow p (f r) m q
map_statement f g (make p t ops) = make p (g t) ops
map_statement f g (read p) = read p
map_statement f g (live x) = live x
map_statement f g (dead x) = dead x
map_statement f g nop = nop
map_statement f g (goto b) = goto b
map_statement f g (switch op bs) = switch op bs
map_statement f g (drop x b unwind) = drop x b unwind
map_statement f g (call p args t wheres b unwind) =
    call p (map (λ a. (a.0, g a.1)) args) (g t) (map (λ w. (f w.0, f w.1)) wheres) b unwind
map_statement f g return = return
map_statement f g stop = stop

-- the types that are written in it, in order
abbrev pub types_written : {R T : Type 0} → Statement R T → List T
types_written (make p t ops) = t ∷ []
types_written (call p args t wheres b unwind) = map (λ a. a.1) args ++ t ∷ []
types_written _ = []
