-- The regions and the variables that are written in a statement or terminator. Source: project's
-- choice; docs/FORMATS.md says the same in prose.
use Rattle.std.specs.Prelude.{ℕ, List, [], ◌∷◌, ◌++◌, map}
use Rattle.std.specs.List.{flat_map}
use Rattle.nll_body.specs.Statements.{Statement, borrow, live, dead, drop, call}
use Rattle.nll_body.specs.Effects.{target_of, sources_of}

-- the regions that occur outside types
abbrev pub regions_written : {R T : Type 0} → Statement R T → List R
regions_written (borrow p r m q) = r ∷ []
regions_written (call p args t wheres b unwind) = flat_map (λ w. w.0 ∷ w.1 ∷ []) wheres
regions_written _ = []

-- the variable that occurs by itself, and not in a place
abbrev pub variable_alone : {R T : Type 0} → Statement R T → List ℕ
variable_alone (live x) = x ∷ []
variable_alone (dead x) = x ∷ []
variable_alone (drop x b unwind) = x ∷ []
variable_alone _ = []

-- the variables: the one that occurs by itself, and those of places; a `return` reads the return
-- place
abbrev pub variables_written : {R T : Type 0} → Statement R T → List ℕ
variables_written i = variable_alone i ++ map (λ p. p.variable) (target_of i ++ sources_of i)
