-- What a reader of facts texts holds, and how a line changes it.
-- Source: project's choice. Only private contracts cite this file.
use Rattle.std.specs.Prelude.{◌≡◌, ◌⊎◌, ℕ, ◌+◌, ◌<◌, ◌≤◌, true, [], ◌∷◌, ◌++◌, Some, None}
use Rattle.std.specs.Prelude.{IsSome, unwrap_or, length}
use Rattle.std.specs.List.{AllByRecursion}
use Rattle.std.specs.Str.{IsUtf8}
use Rattle.nll_problem.specs.Limits.{most_points, most_universals, most_regions}
use Rattle.nll_problem.specs.Graph.{Graph}
use Rattle.nll_problem.specs.Problem.{Problem, SameProblem}
use Rattle.nll_problem.specs.Building.{AddsFact, bare_problem}
use Rattle.nll_problem.specs.GraphBuilding.{bare_graph}
use Rattle.nll_format.specs.Names.{number_of}
use Rattle.nll_format.specs.Parts.{Part, keyword, number, region}
use Rattle.nll_format.specs.declared.error.TextKind.{TextKind}
use Rattle.nll_format.specs.declared.error.TextKind.TheVariants.{Memory}
use Rattle.nll_facts.specs.FactsForms.{FactsForm, points, universal, outlives, further, next}
use Rattle.nll_facts.specs.FactsForms.{return}
use Rattle.nll_facts.specs.FactsForms.{base, constraint, end, facts_parts}
use Rattle.nll_facts.specs.FactsSaid.{SaidFacts, facts_group, is_fact_in_order, first_facts_fault}
use Rattle.nll_facts.specs.declared.reader.Reader.{Reader}

-- ---- what a reader holds

-- the problem of universal regions alone that has no facts
abbrev pub bare : ℕ → ℕ → Problem
bare count universals = bare_problem (bare_graph count universals)

-- what the reader's lines say
abbrev pub facts_said_by : Reader → SaidFacts
facts_said_by r = record {
  reached = r.reached;
  names = r.names;
  problem = unwrap_or r.builder (bare r.points (length r.names));
}

-- The reader's tables agree, ready for lines of the group n: there is a region for each name, there
-- are numbers for a builder that is still to be made, and the builder is there exactly after the
-- lines of the universal regions.
pub record IsTableKept (n : ℕ) (r : Reader) : Type 0 where
  pub some_name : 0 < length r.names
  pub few : length r.names ≤ most_regions
  pub regions : (facts_said_by r).problem.regions ≡ length r.names
  pub universals : (facts_said_by r).problem.graph.universals ≤ length r.names
  pub waiting : r.builder ≡ None → length r.names ≤ most_universals
  pub numbered : r.builder ≡ None → 0 < r.reached → (0 < r.points) × (r.points ≤ most_points)
  pub early : n ≤ 2 → r.builder ≡ None
  pub late : 2 < n → IsSome r.builder

-- the tables agree, as after lines that reached the reader's group
abbrev pub IsFactsReady : Reader → Type 0
IsFactsReady r = IsTableKept r.reached r

-- ---- one line

-- the graph g with the edges of h
abbrev pub with_edges : Graph → Graph → Graph
with_edges g h = record g { edges = h.edges }

-- the graph g with the return points of h
abbrev pub with_returns : Graph → Graph → Graph
with_returns g h = record g { returns = h.returns }

-- t is what is said after a line of the form, except for the group that is reached
abbrev pub Takes : SaidFacts → FactsForm → SaidFacts → Type 0
Takes s (points n) t = (t.names ≡ s.names) × (t.problem ≡ bare n (length s.names))
Takes s (universal a) t =
    (t.names ≡ s.names ++ a ∷ [])
    × (t.problem ≡ bare s.problem.graph.points (length s.names + 1))
Takes s (outlives a b) t =
    (t.names ≡ s.names)
    × (t.problem ≡ record s.problem { outlives = t.problem.outlives })
    × AddsFact s.problem.outlives t.problem.outlives (number_of s.names a, number_of s.names b)
Takes s (further x) t =
    (t.names ≡ s.names ++ x ∷ [])
    × (t.problem ≡ record s.problem { regions = s.problem.regions + 1 })
Takes s (next p q) t =
    (t.names ≡ s.names)
    × (t.problem ≡ record s.problem { graph = with_edges s.problem.graph t.problem.graph })
    × AddsFact s.problem.graph.edges t.problem.graph.edges (p, q)
Takes s (return p) t =
    (t.names ≡ s.names)
    × (t.problem ≡ record s.problem { graph = with_returns s.problem.graph t.problem.graph })
    × AddsFact s.problem.graph.returns t.problem.graph.returns p
Takes s (base x p) t =
    (t.names ≡ s.names)
    × (t.problem ≡ record s.problem { bases = t.problem.bases })
    × AddsFact s.problem.bases t.problem.bases (number_of s.names x, p)
Takes s (constraint a b place) t =
    (t.names ≡ s.names)
    × (t.problem ≡ record s.problem { constraints = t.problem.constraints })
    × AddsFact s.problem.constraints t.problem.constraints
    (record { sup = number_of s.names a; sub = number_of s.names b; at = place })
Takes s end t = (t.names ≡ s.names) × (t.problem ≡ s.problem)

-- t is what is said after a line of the form
pub record AddsFacts (s : SaidFacts) (f : FactsForm) (t : SaidFacts) : Type 0 where
  pub group : t.reached ≡ facts_group f
  pub takes : Takes s f t

-- the part is UTF-8, where it is a name
abbrev pub IsTextPart : Part → Type 0
IsTextPart (keyword w) = Unit {0}
IsTextPart (number n) = Unit {0}
IsTextPart (region x) = IsUtf8 x

-- the names in a line of the form are UTF-8
abbrev pub HasFactsTexts : FactsForm → Type 0
HasFactsTexts f = AllByRecursion IsTextPart (facts_parts f)

-- The reader is prepared for a line of the form: it is in order, its names are texts, and the
-- tables agree for its group.
pub record IsDueFact (r : Reader) (f : FactsForm) : Type 0 where
  pub kept : IsTableKept (facts_group f) r
  pub order : is_fact_in_order (facts_said_by r) f ≡ true
  pub texts : HasFactsTexts f

-- A line of the form is taken after lines that say s: it had no fault, what it says came, and the
-- tables are ready.
pub record IsFactTaken (s : SaidFacts) (f : FactsForm) (r : Reader) : Type 0 where
  pub fine : first_facts_fault s f ≡ None
  pub adds : AddsFacts s f (facts_said_by r)
  pub ready : IsFactsReady r

-- a line of the form is refused after lines that say s: for a failed allocation, or with its first
-- kind of fault
abbrev pub IsFactRefused : SaidFacts → FactsForm → TextKind → Type 0
IsFactRefused s f kind = (kind ≡ Memory) ⊎ (first_facts_fault s f ≡ Some kind)

-- ---- all lines

-- The two say the same: the facts as sets, and as many edges and constraints.
pub record SameSaid (s t : SaidFacts) : Type 0 where
  pub reached : s.reached ≡ t.reached
  pub names : s.names ≡ t.names
  pub problem : SameProblem s.problem t.problem
  pub edge_count : length s.problem.graph.edges ≡ length t.problem.graph.edges
  pub constraint_count : length s.problem.constraints ≡ length t.problem.constraints
