-- The report of values and of faults, as bytes. Source: project's choice; docs/FORMATS.md says the
-- same in prose.
use Rattle.std.specs.Prelude.{◌≡◌, ◌↔◌, ℕ, ◌-◌, ◌<◌, nat_lt, List, [], ◌∷◌, ◌++◌, codes, Contains}
use Rattle.std.specs.Prelude.{AllPairs, slice_index_or, if◌then◌else◌}
use Rattle.std.specs.List.{flat_map, range_with_len}
use Rattle.std.specs.Fmt.{decimal}
use Rattle.nll_problem.specs.Problem.{Problem}
use Rattle.nll_format.specs.Labels.{Labels, point_name}
use Rattle.nll_format.specs.declared.labels.PointName.{PointName}
use Rattle.nll_format.specs.declared.labels.PointName.TheVariants.{Number, Block}

-- a region is written as a `'` (39) and its name
abbrev pub region_text : Labels → ℕ → List ℕ
region_text labels r = 39 ∷ slice_index_or labels.names r []

-- a point is written as its number, or as bb, its block, a slash and its place in the block
abbrev pub point_text : PointName → List ℕ
point_text (Number number) = decimal number
point_text (Block block place) = codes "bb" ++ decimal block ++ codes "/" ++ decimal place

-- the end of the universal region r is written as end('r)
abbrev pub end_text : Labels → ℕ → List ℕ
end_text labels r = codes "end(" ++ region_text labels r ++ codes ")"

-- an element is one of this many points, or, after these, the end of a universal region
abbrev pub element_text : Labels → ℕ → ℕ → List ℕ
element_text labels points e =
    if nat_lt e points then point_text (point_name labels.points e)
    else end_text labels (e - points)

-- the line of a region: its name, a colon, each element after one space, and a line feed
abbrev pub value_line : Labels → ℕ → ℕ → List ℕ → List ℕ
value_line labels points r elements =
    region_text labels r ++ codes ":"
    ++ flat_map (λ e. 32 ∷ element_text labels points e) elements ++ 10 ∷ []

-- The list has exactly the elements of the value, each once and ascending.
pub record IsElementList (value : ℕ → Type 0) (elements : List ℕ) : Type 0 where
  pub each : (e : ℕ) → Contains elements e ↔ value e
  pub ascending : AllPairs (λ d e. d < e) elements

-- the lines of this many regions, in region order, with this many points
abbrev pub value_lines : ℕ → ℕ → Labels → (ℕ → List ℕ) → List ℕ
value_lines points regions labels elements =
    flat_map (λ r. value_line labels points r (elements r)) (range_with_len 0 regions)

-- The text is the report of the values: the line of each region, in region order.
pub record IsValuesReport (q : Problem) (labels : Labels) (values : ℕ → ℕ → Type 0) (text : List ℕ)
    : Type 0 where
  pub elements : ℕ → List ℕ
  pub listed : (r : ℕ) → r < q.regions → IsElementList (values r) (elements r)
  pub printed : text ≡ value_lines q.graph.points q.regions labels elements

-- the line of a fault
abbrev pub fault_line : Labels → ℕ × ℕ → List ℕ
fault_line labels fault =
    codes "fault " ++ region_text labels fault.0 ++ codes " must outlive "
    ++ region_text labels fault.1 ++ 10 ∷ []

-- the report of faults: a line for each, in order, or the one line `ok`
abbrev pub faults_report : Labels → List (ℕ × ℕ) → List ℕ
faults_report labels [] = codes "ok" ++ 10 ∷ []
faults_report labels (fault ∷ faults) = flat_map (fault_line labels) (fault ∷ faults)
