-- Other regions and types leave what else is written in a statement as it is.
use Rattle.std.proofs.Common.{◌≡◌, ◌↔◌, List, [], ◌∷◌, ◌++◌, map, refl, ap, ◌∙◌}
use Rattle.std.specs.List.{flat_map}
use Rattle.nll_types.specs.Operands.{Operand}
use Rattle.nll_body.specs.Statements.{Statement, map_statement, types_written, is_terminator, return, assign, borrow, make, read, live, dead, nop, goto, switch, drop, call, stop}
use Rattle.nll_body.specs.Effects.{operands_of, place_in, targets, target_of, sources_of, variables_used, defined, dropped}
use Rattle.nll_body.specs.Written.{regions_written, variable_alone, variables_written}
use Rattle.nll_body.specs.Exits.{edges_from}

-- an argument with another type, the type of one, a bound with other regions, and the regions of one
abbrev retyped : {T U : Type 0} → (T → U) → Operand × T → Operand × U
retyped g a = (a.0, g a.1)

abbrev type_of_argument : {T : Type 0} → Operand × T → T
type_of_argument a = a.1

abbrev renamed : {R S : Type 0} → (R → S) → R × R → S × S
renamed f w = (f w.0, f w.1)

abbrev both : {R : Type 0} → R × R → List R
both w = w.0 ∷ w.1 ∷ []

operands_same : {T U : Type 0} (g : T → U) (args : List (Operand × T))
    → operands_of (map (retyped g) args) ≡ operands_of args
operands_same g [] = refl
operands_same g (a ∷ args) = ap (λ (ops : List Operand). a.0 ∷ ops) (operands_same g args)

arguments_mapped : {T U : Type 0} (g : T → U) (args : List (Operand × T)) (t : T)
    → map type_of_argument (map (retyped g) args) ++ g t ∷ [] ≡ map g (map type_of_argument args ++ t ∷ [])
arguments_mapped g [] t = refl
arguments_mapped g (a ∷ args) t = ap (λ ts. g a.1 ∷ ts) (arguments_mapped g args t)

bounds_mapped : {R S : Type 0} (f : R → S) (wheres : List (R × R))
    → flat_map both (map (renamed f) wheres) ≡ map f (flat_map both wheres)
bounds_mapped f [] = refl
bounds_mapped f (w ∷ wheres) = ap (λ rs. f w.0 ∷ f w.1 ∷ rs) (bounds_mapped f wheres)

-- what the statement m keeps of the statement i
abbrev Keeps : {R S T U : Type 0} → (R → S) → (T → U) → Statement R T → Statement S U → Type 0
Keeps f g i m =
    (is_terminator m ≡ is_terminator i) × (targets m ≡ targets i) × (variable_alone m ≡ variable_alone i)
    × (target_of m ≡ target_of i) × (sources_of m ≡ sources_of i) × (defined m ≡ defined i) × (dropped m ≡ dropped i)
    × (regions_written m ≡ map f (regions_written i)) × (types_written m ≡ map g (types_written i))
    × (m ≡ return → i ≡ return)

module _ {R S T U : Type 0} (f : R → S) (g : T → U) where
  kept : (i : Statement R T) → Keeps f g i (map_statement f g i)
  kept (assign p op) = (refl, refl, refl, refl, refl, refl, refl, refl, refl, λ e. absurd cc)
  kept (borrow p r m q) = (refl, refl, refl, refl, refl, refl, refl, refl, refl, λ e. absurd cc)
  kept (make p t ops) = (refl, refl, refl, refl, refl, refl, refl, refl, refl, λ e. absurd cc)
  kept (read p) = (refl, refl, refl, refl, refl, refl, refl, refl, refl, λ e. absurd cc)
  kept (live x) = (refl, refl, refl, refl, refl, refl, refl, refl, refl, λ e. absurd cc)
  kept (dead x) = (refl, refl, refl, refl, refl, refl, refl, refl, refl, λ e. absurd cc)
  kept nop = (refl, refl, refl, refl, refl, refl, refl, refl, refl, λ e. absurd cc)
  kept (goto b) = (refl, refl, refl, refl, refl, refl, refl, refl, refl, λ e. absurd cc)
  kept (switch op bs) = (refl, refl, refl, refl, refl, refl, refl, refl, refl, λ e. absurd cc)
  kept (drop x b unwind) = (refl, refl, refl, refl, refl, refl, refl, refl, refl, λ e. absurd cc)
  kept (call p args t wheres b unwind) = (
    refl,
    refl,
    refl,
    refl,
    ap (λ (ops : List Operand). flat_map place_in ops) (operands_same g args),
    refl,
    refl,
    bounds_mapped f wheres,
    arguments_mapped g args t,
    λ e. absurd cc,
  )
  kept return = (refl, refl, refl, refl, refl, refl, refl, refl, refl, λ e. refl)
  kept stop = (refl, refl, refl, refl, refl, refl, refl, refl, refl, λ e. absurd cc)

  pub same_terminator : (i : Statement R T) → is_terminator (map_statement f g i) ≡ is_terminator i
  same_terminator i = (kept i).0

  pub same_targets : (i : Statement R T) → targets (map_statement f g i) ≡ targets i
  same_targets i = (kept i).1

  -- as many edges leave it
  pub same_edges : (i : Statement R T) → edges_from (map_statement f g i) ≡ edges_from i
  same_edges i = rw (same_terminator i, same_targets i) refl

  pub same_variables : (i : Statement R T) → variables_written (map_statement f g i) ≡ variables_written i
  same_variables i = rw ((kept i).2, (kept i).3, (kept i).4) refl

  pub regions_mapped : (i : Statement R T) → regions_written (map_statement f g i) ≡ map f (regions_written i)
  regions_mapped i = (kept i).7

  pub types_mapped : (i : Statement R T) → types_written (map_statement f g i) ≡ map g (types_written i)
  types_mapped i = (kept i).8

  -- it uses, defines and drops the same variables
  pub same_used : (i : Statement R T) → variables_used (map_statement f g i) ≡ variables_used i
  same_used i = rw ((kept i).3, (kept i).4) refl

  pub same_defined : (i : Statement R T) → defined (map_statement f g i) ≡ defined i
  same_defined i = (kept i).5

  pub same_dropped : (i : Statement R T) → dropped (map_statement f g i) ≡ dropped i
  same_dropped i = (kept i).6

  pub same_return : (i : Statement R T) → (i ≡ return) ↔ (map_statement f g i ≡ return)
  same_return i = (λ e. ap (map_statement f g) e, (kept i).9)

identity : {X : Type 0} (xs : List X) → map (λ x. x) xs ≡ xs
identity [] = refl
identity (x ∷ xs) = ap (λ ys. x ∷ ys) (identity xs)

-- the regions that occur outside types stay where types alone become others
pub same_regions : {R T U : Type 0} (g : T → U) (i : Statement R T)
    → regions_written (map_statement (λ r. r) g i) ≡ regions_written i
same_regions g i = regions_mapped (λ r. r) g i ∙ identity (regions_written i)
