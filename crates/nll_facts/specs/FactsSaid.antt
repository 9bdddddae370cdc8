-- What the lines of a facts text say together, and what is wrong with a further line. Source:
-- project's choice; docs/FORMATS.md says the same in prose. The code keeps tables; this speaks of
-- whole lists of lines.
use Rattle.std.specs.Prelude.{ℕ, max, Bool, false, ◌==◌, nat_lt, nat_le, ◌&&◌, ◌||◌, not, List, []}
use Rattle.std.specs.Prelude.{◌∷◌, ◌++◌, length, codes, find, Option, Some, None}
use Rattle.std.specs.List.{filter_map}
use Rattle.indexmap.specs.IndexSet.{insert_all}
use Rattle.nll_problem.specs.At.{is_among}
use Rattle.nll_problem.specs.Problem.{Problem}
use Rattle.nll_problem.specs.Building.{same_pair, same_constraint, is_point, has_edge}
use Rattle.nll_problem.specs.Building.{has_constraint}
use Rattle.nll_problem.specs.declared.constraint.Constraint.{Constraint}
use Rattle.nll_problem.specs.Limits.{most_points, most_edges, most_universals, most_regions}
use Rattle.nll_problem.specs.Limits.{most_constraints}
use Rattle.nll_problem.specs.declared.error.Kind.TheVariants.{Points, Edges, Universals, Regions}
use Rattle.nll_problem.specs.declared.error.Kind.TheVariants.{Constraints}
use Rattle.nll_format.specs.Names.{number_of}
use Rattle.nll_format.specs.Parts.{Name}
use Rattle.nll_format.specs.Kinds.{kinds}
use Rattle.nll_facts.specs.FactsForms.{FactsForm, points, universal, outlives, further, next}
use Rattle.nll_facts.specs.FactsForms.{return, base, constraint, end}
use Rattle.nll_format.specs.declared.error.TextKind.{TextKind}
use Rattle.nll_format.specs.declared.error.TextKind.TheVariants.{Syntax, Unknown, Duplicate, Range}
use Rattle.nll_format.specs.declared.error.TextKind.TheVariants.{Limit}

-- ---- what one line says

-- the number of points, in a `points` line
abbrev pub points_in : FactsForm → Option ℕ
points_in (points n) = Some n
points_in _ = None

-- the universal region that a line declares
abbrev pub universal_fact_in : FactsForm → Option Name
universal_fact_in (universal a) = Some a
universal_fact_in _ = None

-- the further region that a line declares
abbrev pub further_fact_in : FactsForm → Option Name
further_fact_in (further x) = Some x
further_fact_in _ = None

-- the outlives fact of a line, by the numbers of the universal regions
abbrev pub outlives_fact_in : List Name → FactsForm → Option (ℕ × ℕ)
outlives_fact_in universals (outlives a b) = Some (number_of universals a, number_of universals b)
outlives_fact_in universals _ = None

-- the edge of a line
abbrev pub edge_in : FactsForm → Option (ℕ × ℕ)
edge_in (next p q) = Some (p, q)
edge_in _ = None

-- the return point of a line
abbrev pub return_in : FactsForm → Option ℕ
return_in (return p) = Some p
return_in _ = None

-- the base fact of a line, by the region's number
abbrev pub base_in : List Name → FactsForm → Option (ℕ × ℕ)
base_in names (base x p) = Some (number_of names x, p)
base_in names _ = None

-- the constraint of a line, by the regions' numbers
abbrev pub constraint_in : List Name → FactsForm → Option Constraint
constraint_in names (constraint a b place) =
    Some (record { sup = number_of names a; sub = number_of names b; at = place })
constraint_in names _ = None

-- ---- what lines say together

-- the first number of a list
abbrev pub first_or_zero : List ℕ → ℕ
first_or_zero [] = 0
first_or_zero (n ∷ ns) = n

-- the universal regions in order, `'static` first
abbrev pub facts_universals_said : List FactsForm → List Name
facts_universals_said forms = codes "static" ∷ filter_map universal_fact_in forms

-- the regions in order: the universal ones, then the further ones
abbrev pub facts_names_said : List FactsForm → List Name
facts_names_said forms = facts_universals_said forms ++ filter_map further_fact_in forms

-- the problem that the lines say: the facts of all lines, each edge and each constraint once
abbrev pub problem_said : List FactsForm → Problem
problem_said forms = record {
  graph = record {
    points = first_or_zero (filter_map points_in forms);
    universals = length (facts_universals_said forms);
    edges = insert_all same_pair [] (filter_map edge_in forms);
    returns = filter_map return_in forms;
  };
  regions = length (facts_names_said forms);
  bases = filter_map (base_in (facts_names_said forms)) forms;
  constraints =
      insert_all same_constraint [] (filter_map (constraint_in (facts_names_said forms)) forms);
  outlives = filter_map (outlives_fact_in (facts_universals_said forms)) forms;
}

-- the group of a line of the form
abbrev pub facts_group : FactsForm → ℕ
facts_group (points n) = 1
facts_group (universal a) = 2
facts_group (outlives a b) = 3
facts_group (further x) = 4
facts_group (next p q) = 5
facts_group (return p) = 5
facts_group (base x p) = 5
facts_group (constraint a b place) = 5
facts_group end = 6

-- the group may have several lines
abbrev pub is_repeated : FactsForm → Bool
is_repeated f = not (facts_group f == 1) && not (facts_group f == 6)

-- the last group that has a line, or 0
abbrev pub last_fact_group : List FactsForm → ℕ
last_fact_group [] = 0
last_fact_group (f ∷ forms) = max (facts_group f) (last_fact_group forms)

-- What lines say: the last group that they reached, the regions' names in order, and the problem.
pub record SaidFacts : Type 0 where
  pub reached : ℕ
  pub names : List Name
  pub problem : Problem

-- what lines of these forms say
abbrev pub facts_said : List FactsForm → SaidFacts
facts_said forms =
    record {
      reached = last_fact_group forms;
      names = facts_names_said forms;
      problem =
          problem_said forms;
    }

-- ---- what is wrong with a further line

-- the name is declared: its number is that of a region
abbrev pub is_declared : SaidFacts → Name → Bool
is_declared s x = nat_lt (number_of s.names x) (length s.names)

-- the name is that of a universal region
abbrev pub is_universal_name : SaidFacts → Name → Bool
is_universal_name s x = nat_lt (number_of s.names x) s.problem.graph.universals

-- the edge is new and there is no room for it
abbrev pub is_full_of_edges : SaidFacts → ℕ → ℕ → Bool
is_full_of_edges s p q =
    not (has_edge s.problem p q) && nat_le most_edges (length s.problem.graph.edges)

-- the constraint is new and there is no room for it
abbrev pub is_full_of_constraints : SaidFacts → Constraint → Bool
is_full_of_constraints s c =
    not (has_constraint s.problem c) && nat_le most_constraints (length s.problem.constraints)

-- The line is in order: no line of a later group is there, nor one of its own where the group has
-- one line, and `points` is the first.
abbrev pub is_fact_in_order : SaidFacts → FactsForm → Bool
is_fact_in_order s f =
    (nat_lt s.reached (facts_group f) || (s.reached == facts_group f && is_repeated f))
    && (nat_lt 0 s.reached || facts_group f == 1)

-- Whether a line of the form has a fault of the kind, after lines that say s.
abbrev pub has_facts_fault : SaidFacts → FactsForm → TextKind → Bool
has_facts_fault s f Syntax = not (is_fact_in_order s f)
has_facts_fault s (points n) Range = n == 0
has_facts_fault s (points n) (Limit Points) = nat_lt most_points n
has_facts_fault s (universal a) Duplicate = is_declared s a
has_facts_fault s (universal a) (Limit Universals) =
    nat_le most_universals s.problem.graph.universals
has_facts_fault s (universal a) (Limit Regions) = nat_le most_regions (length s.names)
has_facts_fault s (outlives a b) Unknown = not (is_universal_name s a && is_universal_name s b)
has_facts_fault s (further x) Duplicate = is_declared s x
has_facts_fault s (further x) (Limit Regions) = nat_le most_regions (length s.names)
has_facts_fault s (next p q) Range = not (is_point s.problem p && is_point s.problem q)
has_facts_fault s (next p q) (Limit Edges) = is_full_of_edges s p q
has_facts_fault s (return p) Range = not (is_point s.problem p)
has_facts_fault s (base x p) Unknown = not (is_declared s x)
has_facts_fault s (base x p) Range = not (is_point s.problem p)
has_facts_fault s (constraint a b place) Unknown = not (is_declared s a && is_declared s b)
has_facts_fault s (constraint a b place) Range = not (is_among s.problem.graph.points place)
has_facts_fault s (constraint a b place) (Limit Constraints) =
    is_full_of_constraints s
    (record { sup = number_of s.names a; sub = number_of s.names b; at = place })
has_facts_fault s _ _ = false

-- the first kind of fault that a line of the form has, by the order of kinds
abbrev pub first_facts_fault : SaidFacts → FactsForm → Option TextKind
first_facts_fault s f = find (has_facts_fault s f) kinds
