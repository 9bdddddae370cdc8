-- What holds of what lines say, by what they declare and place.
use Rattle.std.proofs.Common.{◌≡◌, ℕ, ◌+◌, ◌<◌, ◌≤◌, Bool, true, false, not, cond, List, [], ◌∷◌, ◌++◌, Some, Contains, length, sym, subst, arith, length-append, slice_get}
use Rattle.std.specs.Prelude.{All}
use Rattle.std.specs.List.Sorted.{IsStrictlyIncreasing}
use Rattle.std.proofs.lemmas.List.Elements.{All-nil}
use Rattle.nll_problem.specs.Limits.{most_points, most_edges, most_universals, most_regions, most_variables}
use Rattle.nll_types.specs.Types.{TypeTree}
use Rattle.nll_types.specs.Structs.{Struct, AreInOrder, IsWellFormed}
use Rattle.nll_mir_grammar.specs.WrittenTypes.{WrittenName}
use Rattle.nll_body.specs.Statements.{Statement, is_terminator, types_written}
use Rattle.nll_body.specs.Effects.{targets}
use Rattle.nll_body.specs.Written.{regions_written}
use Rattle.nll_body.specs.Edges.{edge_count}
use Rattle.nll_mir_text.specs.MirSaid.{Said}
use Rattle.nll_mir_text.specs.MirSteps.{nothing_said}
use Rattle.nll_mir_text.specs.MirReading.{AreKinds}
use Rattle.nll_mir_text.proofs.LineLemmas.{nothing_at}

-- ---- what holds of what lines say

-- What is declared keeps to what was declared before.
pub record IsDeclared (reached universals : ℕ) (names : List WrittenName) (longer : List (ℕ
    × ℕ)) (struct_names : List WrittenName)
    (kinds : List (List Bool)) (structs : List Struct) (variables : List TypeTree) : Type 0 where
  pub some : 0 < universals
  pub few : universals ≤ most_universals
  pub all : universals ≤ length names
  pub few_names : length names ≤ most_regions
  pub few_variables : length variables ≤ most_variables
  pub known : (a b : ℕ) → Contains longer (a, b) → (a < universals) × (b < universals)
  pub named : length struct_names ≡ length structs
  pub counted : length kinds ≡ length structs
  pub takes : AreKinds kinds structs
  pub order : AreInOrder structs
  pub none_yet : reached < 6 → variables ≡ []
  pub keep : All (IsWellFormed structs (length names) 0) variables

-- one more than the last point that may come behind these
abbrev pub ends : List (Statement ℕ TypeTree) → Bool → ℕ
ends points owes = cond owes (length points + 1) (length points)

-- behind one more point
pub ends_past : (points : List (Statement ℕ TypeTree)) (i : Statement ℕ TypeTree) (t : Bool)
    → length points + 1 ≤ ends (points ++ i ∷ []) (not t)
ends_past points i true = omega (arith, length-append points (i ∷ []))
ends_past points i false = omega (arith, length-append points (i ∷ []))

pub ends_behind : (points : List (Statement ℕ TypeTree)) (i : Statement ℕ TypeTree) (t : Bool) → t ≡ false
    → length points + 1 < ends (points ++ i ∷ []) (not t)
ends_behind points i true e = absurd cc
ends_behind points i false e = omega (arith, length-append points (i ∷ []))

-- What stands at the points leads to points and blocks, and the blocks begin at points.
pub record ArePlaced (reached count : ℕ) (starts : List ℕ) (points : List (Statement ℕ TypeTree))
    (owes : Bool) : Type 0 where
  pub some_block : 7 ≤ reached → 0 < count
  pub none_yet : reached < 8 → length points ≡ 0
  pub begun : length starts ≡ 0 → ends points owes ≡ 0
  pub within : All (λ q. q < ends points owes) starts
  pub rise : IsStrictlyIncreasing starts
  pub at_zero : 0 < length starts → slice_get starts 0 ≡ Some 0
  pub whole : reached ≡ 9 → (owes ≡ false) × (count ≤ length starts)
  pub few_points : length points ≤ most_points
  pub few_edges : edge_count points ≤ most_edges
  pub goes_on : (p : ℕ) (i : Statement ℕ TypeTree) → slice_get points p ≡ Some i → is_terminator i ≡ false
      → p + 1 < ends points owes
  pub leads : (p b : ℕ) (i : Statement ℕ TypeTree) → slice_get points p ≡ Some i → Contains (targets i) b → b < count

-- The regions and the types that are written at the points keep to what is declared.
pub record AreWritten (names : List WrittenName) (structs : List Struct) (points : List
    (Statement ℕ TypeTree)) : Type 0 where
  pub regions : (p r : ℕ) (i : Statement ℕ TypeTree) → slice_get points p ≡ Some i → Contains (regions_written i) r
      → r < length names
  pub types : (p : ℕ) (t : TypeTree) (i : Statement ℕ TypeTree) → slice_get points p ≡ Some i
      → Contains (types_written i) t
      → IsWellFormed structs (length names) 0 t

-- The asserted pairs are of declared regions.
abbrev pub AreAsserted : List WrittenName → List (ℕ × ℕ) → Type 0
AreAsserted names pairs = (a b : ℕ) → Contains pairs (a, b) → (a < length names) × (b < length names)

-- they are so where there are more regions
pub asserted_more : (old new : List WrittenName) (pairs : List (ℕ × ℕ)) → length old ≤ length new
    → AreAsserted old pairs
    → AreAsserted new pairs
asserted_more old new pairs more all a b c = let k = all a b c in (omega (arith, k.0, more), omega (arith, k.1, more))

pub record IsWell (s : Said) : Type 0 where
  pub plain : s.scope.parameters ≡ []
  pub asserted : AreAsserted s.scope.regions s.asserts
  pub declares : IsDeclared s.reached s.universals s.scope.regions s.outlives s.scope.structs s.scope.kinds s.structs
      s.variables
  pub places : ArePlaced s.reached s.blocks s.starts s.points s.owes
  pub written : AreWritten s.scope.regions s.structs s.points

-- nothing is written where there are no points
pub written_nowhere : (names : List WrittenName) (structs : List Struct) (points : List (Statement ℕ TypeTree))
    → length points ≡ 0
    → AreWritten names structs points
written_nowhere names structs points none = grind (arith, nothing_at)

-- a line in front of the blocks stands in front of all points
pub written_early : (reached count : ℕ) (starts : List ℕ) (points : List (Statement ℕ TypeTree)) (owes : Bool)
    → ArePlaced reached count starts points owes → reached < 8
    → (names : List WrittenName) (structs : List Struct) → AreWritten names structs points
written_early reached count starts points owes h early names structs =
    written_nowhere names structs points (h.none_yet early)

-- ---- no line yet

pub well_nothing : IsWell nothing_said
well_nothing = grind (arith, nothing_at, written_nowhere)

-- ---- one more line

-- a line in front of the blocks leaves the points as they are
module _ (reached count : ℕ) (starts : List ℕ) (points : List (Statement ℕ TypeTree)) (owes : Bool) where
  pub places_early : (after : ℕ) → ArePlaced reached count starts points owes → reached ≤ after → after < 7
      → ArePlaced after count starts points owes
  places_early after h le early = grind arith

-- a line behind the declarations leaves them as they are
module _ (reached universals : ℕ) (names : List WrittenName) (longer : List (ℕ × ℕ)) (struct_names : List WrittenName)
    (kinds : List (List Bool)) (structs : List Struct) (variables : List TypeTree) where
  pub declares_late : (after : ℕ) → IsDeclared reached universals names longer struct_names kinds structs variables
      → 6 ≤ after → IsDeclared after universals names longer struct_names kinds structs variables
  declares_late after h late = grind arith

  -- names and structs are declared before variables
  pub keeps_none : reached < 6 → IsDeclared reached universals names longer struct_names kinds structs variables
      → (P : TypeTree → Type 0) → All P variables
  keeps_none early h P = subst (All P) (sym (h.none_yet early)) (All-nil P)
