-- The regions of a problem, assigned to owners, as an analysis. Source: project's choice, after RFC
-- 2094, "Solving constraints".
use Rattle.std.specs.Prelude.{◌≡◌, ◌⊎◌, ℕ, ◌<◌, Bool, ◌==◌, ◌&&◌, List, Contains, IsTrue}
use Rattle.fixpoint.specs.Rules.{Rules}
use Rattle.fixpoint.specs.State.{State}
use Rattle.nll_problem.specs.Graph.{element_count}
use Rattle.nll_problem.specs.Problem.{Problem, IsBase, IsSound}
use Rattle.nll_problem.specs.Solution.{Asks}
use Rattle.nll_problem.specs.declared.constraint.Constraint.{Constraint}
use Rattle.nll_cut.specs.Partition.{Cut, owner_of, reads}
use Rattle.nll_mail.specs.declared.growth.Growth.{Growth}
use Rattle.nll_owner.specs.Logs.{IsCutOf}
use Rattle.nll_owner.specs.Holding.{Holding, AreValuesOf}
use Rattle.nll_owner.specs.Owner.{Owner}
use Rattle.nll_owner.specs.declared.fact.Fact.{Fact}

-- A problem, and a cut of its regions.
pub record System : Type 0 where
  pub problem : Problem
  pub cut : Cut

-- the problem and the cut together
abbrev pub system_of : Problem → Cut → System
system_of q c = record { problem = q; cut = c }

-- the region r has the element e
abbrev pub fact_of : ℕ → ℕ → Fact
fact_of r e = record { region = r; element = e }

-- the problem is sound, and the cut assigns exactly its regions
abbrev pub IsValid : System → Type 0
IsValid a = IsSound a.problem × IsCutOf a.problem a.cut

-- the fact is a base element of its region, or some constraint asks its region for it if the
-- regions have what is known of them
abbrev pub Follows : System → (Fact → Bool) → Fact → Type 0
Follows a known f =
    IsBase a.problem f.region f.element
    ⊎ ((k : Constraint) × Contains a.problem.constraints k × (k.sup ≡ f.region)
    × Asks a.problem.graph (λ r e. IsTrue (known (fact_of r e))) k f.element)

-- The rules of regions: a fact is the owner's that has its region; an owner reads those of the
-- regions that it reads; the facts are those of the problem's regions and elements.
abbrev pub rules : Rules System Fact Growth
rules = record {
  valid = IsValid;
  parts = λ a. a.cut.owners;
  owner = λ a f. owner_of a.cut f.region;
  reads = λ a i f. reads a.problem a.cut i f.region;
  derives = Follows;
  proper =
      λ a f. (f.region < a.problem.regions) × (f.element < element_count a.problem.graph);
  same = λ f g. (f.region == g.region) && (f.element == g.element);
  fact = λ g. fact_of g.region g.element;
  rank = λ g. g.rank;
}

-- an owner as a part of the analysis
abbrev pub part_of : Owner → State System Growth
part_of o = record {
  system = system_of o.problem o.cut;
  me = o.me;
  log = o.log;
  received = o.received;
  given = o.given;
  loaded = o.loaded;
  broken = o.broken;
}

-- what owner i gives up at the end has the values that its log says
abbrev pub YieldsValues : System → ℕ → List Growth → Holding → Type 0
YieldsValues a i log h = AreValuesOf a.problem a.cut i log h
