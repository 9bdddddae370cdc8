-- Resolving the pieces of a written type, one after another.
-- Source: project's choice. Only private contracts cite this file.
use Rattle.std.specs.Prelude.{◌≡◌, ◌<◌, ◌-◌, ◌++◌, ℕ, Bool, true, false, ◌&&◌, ◌||◌}
use Rattle.std.specs.Prelude.{if◌then◌else◌, List, [], ◌∷◌, length, map, reverse, take, drop}
use Rattle.std.specs.Prelude.{slice_index, slice_index_or}
use Rattle.nll_format.specs.Names.{number_of}
use Rattle.nll_sets.specs.Prefix.{IsPrefix}
use Rattle.nll_types.specs.Types.{TypeTree, TypeTrees, int, parameter, reference, tuple, named}
use Rattle.nll_types.specs.Types.{function}
use Rattle.nll_types.specs.Shapes.{Shape, ShapeList, reference_shape, tuple_shape, named_shape}
use Rattle.nll_types.specs.Shapes.{function_shape, shape_of}
use Rattle.nll_types.specs.Table.{AreBelow, at, shape_in}
use Rattle.nll_types.specs.Views.{row_of_trees}
use Rattle.nll_types.specs.declared.node.Node.{Node}
use Rattle.nll_types.specs.declared.body_types.BodyTypes.{BodyTypes}
use Rattle.nll_mir_grammar.specs.WrittenTypes.{WrittenName}
use Rattle.nll_mir_grammar.specs.TypeTexts as written
use Rattle.nll_mir_grammar.specs.TypeTexts.{make_int, begin_reference, begin_row, add_region}
use Rattle.nll_mir_grammar.specs.TypeTexts.{add_type, make_tuple, make_named, make_function}
use Rattle.nll_mir_text.specs.Naming.{Scope, is_name_among, kinds_taken, same_kinds}
use Rattle.nll_mir_text.specs.declared.made.Head.{Head}
use Rattle.nll_mir_text.specs.declared.made.Head.TheVariants as heads
use Rattle.nll_mir_text.specs.declared.rows.Mark.{Mark}
use Rattle.nll_mir_text.specs.declared.rows.Mark.TheVariants as marks
use Rattle.nll_mir_text.specs.declared.type_resolution.Resolving.{Resolving}

-- ---- what is in rows, the newest first

-- the entries of the newest row
abbrev pub newest : List Mark → List Mark
newest [] = []
newest (marks.Row k n ∷ ms) = []
newest (marks.Region r ∷ ms) = marks.Region r ∷ newest ms
newest (marks.Part ∷ ms) = marks.Part ∷ newest ms
newest (marks.Behind m r ∷ ms) = marks.Behind m r ∷ newest ms

-- the entries of the other rows
abbrev pub others : List Mark → List Mark
others [] = []
others (marks.Row k n ∷ ms) = ms
others (marks.Region r ∷ ms) = others ms
others (marks.Part ∷ ms) = others ms
others (marks.Behind m r ∷ ms) = others ms

-- how many types and how many regions come before the newest row
abbrev pub starts : List Mark → ℕ × ℕ
starts [] = (0, 0)
starts (marks.Row k n ∷ ms) = (k, n)
starts (marks.Region r ∷ ms) = starts ms
starts (marks.Part ∷ ms) = starts ms
starts (marks.Behind m r ∷ ms) = starts ms

-- whether it is a region
abbrev pub is_region_entry : Mark → Bool
is_region_entry (marks.Region r) = true
is_region_entry (marks.Row k n) = false
is_region_entry marks.Part = false
is_region_entry (marks.Behind m r) = false

-- the regions among these
abbrev pub regions_in : List Mark → List ℕ
regions_in [] = []
regions_in (marks.Region r ∷ ms) = r ∷ regions_in ms
regions_in (marks.Row k n ∷ ms) = regions_in ms
regions_in (marks.Part ∷ ms) = regions_in ms
regions_in (marks.Behind m r ∷ ms) = regions_in ms

-- the type with the references around it that wait for it
abbrev pub with_references : TypeTree → List Mark → TypeTree
with_references t (marks.Behind m r ∷ ms) = with_references (reference r m t) ms
with_references t [] = t
with_references t (marks.Row k n ∷ ms) = t
with_references t (marks.Region r ∷ ms) = t
with_references t (marks.Part ∷ ms) = t

-- the regions of those references, the innermost first
abbrev pub regions_around : List Mark → List ℕ
regions_around (marks.Behind m r ∷ ms) = r ∷ regions_around ms
regions_around [] = []
regions_around (marks.Row k n ∷ ms) = []
regions_around (marks.Region r ∷ ms) = []
regions_around (marks.Part ∷ ms) = []

-- the marks without those references
abbrev pub without_references : List Mark → List Mark
without_references (marks.Behind m r ∷ ms) = without_references ms
without_references [] = []
without_references (marks.Row k n ∷ ms) = marks.Row k n ∷ ms
without_references (marks.Region r ∷ ms) = marks.Region r ∷ ms
without_references (marks.Part ∷ ms) = marks.Part ∷ ms

-- no reference waits for the next type
abbrev pub NoneWaits : List Mark → Type 0
NoneWaits ms =
    (without_references ms ≡ ms) × (regions_around ms ≡ [])
    × ((t : TypeTree) → with_references t ms ≡ t)

-- ---- what is resolved

-- The types that are made so far, the newest last, and all regions so far; the entries of the rows,
-- the newest first; and what is known of the names so far.
pub record ResolvingState : Type 0 where
  pub made : List TypeTree
  pub regions : List ℕ
  pub rows : List Mark
  pub known : Bool
  pub fits : Bool

-- nothing after these regions
abbrev pub no_regions_after : List ℕ → ResolvingState
no_regions_after regions = record {
  made = [];
  regions = regions;
  rows = [];
  known = true;
  fits =
      true;
}

-- the newest type; an `int` where there is none
abbrev pub newest_type : List TypeTree → TypeTree
newest_type ts = slice_index_or ts (length ts - 1) int

-- a list without its last item
abbrev pub all_but_last : {X : Type 0} → List X → List X
all_but_last xs = take (length xs - 1) xs

-- the arguments of the newest row, in order
abbrev pub newest_arguments : ResolvingState → List Mark
newest_arguments st = reverse (newest st.rows)

-- the types before the newest row
abbrev pub types_before : ResolvingState → List TypeTree
types_before st = take (starts st.rows).0 st.made

-- the types of the newest row
abbrev pub types_inside : ResolvingState → TypeTrees
types_inside st = row_of_trees (drop (starts st.rows).0 st.made)

-- the type of a name that has the newest row as its arguments
abbrev pub named_type : Scope → WrittenName → ResolvingState → TypeTree
named_type s n st =
    if is_name_among s.parameters n then parameter (number_of s.parameters n)
    else named (number_of s.structs n) (regions_in (newest_arguments st)) (types_inside st)

-- the regions after a name; where it is a type parameter's, those of the row go
abbrev pub named_regions : Scope → WrittenName → ResolvingState → List ℕ
named_regions s n st =
    if is_name_among s.parameters n then take (starts st.rows).1 st.regions
    else st.regions ++ regions_in (newest_arguments st)

-- the type is complete, and with it the references that wait for it
abbrev pub type_completed : TypeTree → ResolvingState → ResolvingState
type_completed t st = record st {
  made = st.made ++ with_references t st.rows ∷ [];
  regions = st.regions ++ regions_around st.rows;
  rows = without_references st.rows;
}

-- the newest row is taken off, with the types that are in it
abbrev pub without_row : ResolvingState → ResolvingState
without_row st = record st { made = types_before st; rows = others st.rows }

-- what a piece makes of what is resolved so far
abbrev pub after_resolved : Scope → written.Piece → ResolvingState → ResolvingState
after_resolved s make_int st = type_completed int st
after_resolved s (begin_reference m r) st = record st {
  rows = marks.Behind m (number_of s.regions r) ∷ st.rows;
  known = st.known && is_name_among s.regions r;
}
after_resolved s begin_row st =
    record st { rows = marks.Row (length st.made) (length st.regions) ∷ st.rows }
after_resolved s (add_region r) st = record st {
  rows = marks.Region (number_of s.regions r) ∷ st.rows;
  known = st.known && is_name_among s.regions r;
}
after_resolved s add_type st = record st { rows = marks.Part ∷ st.rows }
after_resolved s make_tuple st = type_completed (tuple (types_inside st)) (without_row st)
after_resolved s (make_named n) st = type_completed (named_type s n st) (record {
  made = types_before st;
  regions = named_regions s n st;
  rows = others st.rows;
  known = st.known && (is_name_among s.parameters n || is_name_among s.structs n);
  fits = st.fits && same_kinds (map is_region_entry (newest_arguments st)) (kinds_taken s n);
})
after_resolved s make_function st =
    let others_made = record st { made = all_but_last st.made } in
    type_completed (function (types_inside others_made) (newest_type st.made))
    (without_row others_made)

-- what pieces make of what is resolved so far
abbrev pub run_pieces : Scope → List written.Piece → ResolvingState → ResolvingState
run_pieces s [] st = st
run_pieces s (p ∷ ps) st = run_pieces s ps (after_resolved s p st)

-- these regions come first at each step
abbrev pub KeepsRegions : Scope → List ℕ → List written.Piece → ResolvingState → Type 0
KeepsRegions s rs [] st = IsPrefix rs st.regions
KeepsRegions s rs (p ∷ ps) st = IsPrefix rs st.regions
    × KeepsRegions s rs ps (after_resolved s p st)

-- ---- what the code keeps of it

-- the shape of a head over the shapes of a row
abbrev pub shape_with : List Shape → Head → ShapeList → Shape
shape_with known (heads.Reference m t) row = reference_shape m (at known t)
shape_with known heads.Tuple row = tuple_shape row
shape_with known (heads.Named s n) row = named_shape s n row
shape_with known (heads.Function t) row = function_shape row (at known t)

-- the number in a head, where it is a shape's, is below this
abbrev pub IsHeadBelow : ℕ → Head → Type 0
IsHeadBelow n (heads.Reference m t) = t < n
IsHeadBelow n heads.Tuple = Unit {0}
IsHeadBelow n (heads.Named s k) = Unit {0}
IsHeadBelow n (heads.Function t) = t < n

-- There is a number for each of these types: that of its shape.
pub record AreShaped (shapes : List Node) (ts : List TypeTree) (numbers : List ℕ) : Type 0 where
  pub counted : length numbers ≡ length ts
  pub each : (k : ℕ) → k < length numbers
      → shape_in shapes (slice_index numbers k) ≡ shape_of (slice_index_or ts k int)

-- The code has what is resolved so far: each name is known, the shapes of the types are there, the
-- regions stand at the end of the body's list, and the rest is the same.
pub record IsOf (st : ResolvingState) (types : BodyTypes) (kept : Resolving) : Type 0 where
  pub shapes : AreShaped types.table.shapes st.made kept.shapes.items
  pub regions : types.regions.items ≡ st.regions
  pub rows : reverse kept.rows.items ≡ st.rows
  pub known : st.known ≡ true
  pub fits : kept.fits ≡ st.fits

-- Where the name in a piece is known, the code follows each state that it had by what the piece
-- makes of it; else the body's regions stay as they are. The numbers are of shapes.
pub record Resolves (s : Scope) (p : written.Piece) (types : BodyTypes) (kept : Resolving)
    (types_new : BodyTypes) (kept_new : Resolving) (known : Bool) : Type 0 where
  pub below : AreBelow (length types_new.table.shapes) kept_new.shapes.items
  pub made : known ≡ true → (st : ResolvingState) → IsOf st types kept
      → IsOf (after_resolved s p st) types_new kept_new
  pub unknown : known ≡ false → (st : ResolvingState) → (after_resolved s p st).known ≡ false
  pub same : known ≡ false → types_new.regions.items ≡ types.regions.items

-- All is resolved, and this is the number of the newest type's shape.
pub record IsAllResolved (st : ResolvingState) (types : BodyTypes) (kept : Resolving)
    (i : ℕ) : Type 0 where
  pub shape : shape_in types.table.shapes i ≡ shape_of (newest_type st.made)
  pub regions : types.regions.items ≡ st.regions
  pub known : st.known ≡ true
  pub fits : kept.fits ≡ st.fits
