-- What a statement or terminator uses, defines and drops, and where it goes on. Source: RFC 2094,
-- "Liveness" and "Drop"; the table is project's choice, and docs/FORMATS.md says the same in prose.
use Rattle.std.specs.Prelude.{◌≡◌, ℕ, Bool, not, ◌==◌, List, [], ◌∷◌, ◌++◌, length, map}
use Rattle.std.specs.Prelude.{if◌then◌else◌, filter, Option, Some, None, Contains}
use Rattle.std.specs.List.{flat_map}
use Rattle.nll_types.specs.Places.{PlacePath}
pub use Rattle.nll_types.specs.Operands.{place_in}
use Rattle.nll_types.specs.Operands.{Operand}
use Rattle.nll_body.specs.Statements.{Statement, assign, borrow, make, read, live, dead}
use Rattle.nll_body.specs.Statements.{goto, switch, drop, call, return}

-- ---- what it uses, defines and drops

-- the operands of a call
abbrev pub operands_of : {T : Type 0} → List (Operand × T) → List Operand
operands_of args = map (λ a. a.0) args

-- the place that it writes
abbrev pub target_of : {R T : Type 0} → Statement R T → List PlacePath
target_of (assign p op) = p ∷ []
target_of (borrow p r m q) = p ∷ []
target_of (make p t ops) = p ∷ []
target_of (call p args t wheres b unwind) = p ∷ []
target_of _ = []

-- the places that it reads or borrows; a `return` reads the return place
abbrev pub sources_of : {R T : Type 0} → Statement R T → List PlacePath
sources_of (assign p op) = place_in op
sources_of (borrow p r m q) = q ∷ []
sources_of (make p t ops) = flat_map place_in ops
sources_of (read p) = p ∷ []
sources_of (switch op bs) = place_in op
sources_of (call p args t wheres b unwind) = flat_map place_in (operands_of args)
sources_of return = record { variable = 0; projections = [] } ∷ []
sources_of _ = []

-- the place is a part of a variable, or what is behind it
abbrev pub is_projected : PlacePath → Bool
is_projected p = not (length p.projections == 0)

-- The variables that it uses: of the places that it reads or borrows, and of the place that it
-- writes where that isn't the whole variable.
abbrev pub variables_used : {R T : Type 0} → Statement R T → List ℕ
variables_used s =
    map (λ p. p.variable) (sources_of s ++ filter is_projected (target_of s))

-- it uses x
abbrev pub Uses : {R T : Type 0} → Statement R T → ℕ → Type 0
Uses s x = Contains (variables_used s) x

-- the variable, where the place is the whole of it
abbrev pub whole_variable : PlacePath → Option ℕ
whole_variable p = if is_projected p then None else Some p.variable

-- The variable that it defines: it writes the whole of it, or its storage begins or ends.
abbrev pub defined : {R T : Type 0} → Statement R T → Option ℕ
defined (assign p op) = whole_variable p
defined (borrow p r m q) = whole_variable p
defined (make p t ops) = whole_variable p
defined (live x) = Some x
defined (dead x) = Some x
defined (call p args t wheres b unwind) = whole_variable p
defined _ = None

-- it defines x
abbrev pub Defines : {R T : Type 0} → Statement R T → ℕ → Type 0
Defines s x = defined s ≡ Some x

-- the variable that it drops
abbrev pub dropped : {R T : Type 0} → Statement R T → Option ℕ
dropped (drop x b unwind) = Some x
dropped _ = None

-- it drops x
abbrev pub DropsVariable : {R T : Type 0} → Statement R T → ℕ → Type 0
DropsVariable s x = dropped s ≡ Some x

-- ---- where it goes on

-- the other block, where there is one
abbrev pub other_block : Option ℕ → List ℕ
other_block None = []
other_block (Some b) = b ∷ []

-- the blocks to which a terminator goes on
abbrev pub targets : {R T : Type 0} → Statement R T → List ℕ
targets (goto b) = b ∷ []
targets (switch op bs) = bs
targets (drop x b unwind) = b ∷ other_block unwind
targets (call p args t wheres b unwind) = b ∷ other_block unwind
targets _ = []
