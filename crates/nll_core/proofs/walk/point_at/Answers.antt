use Rattle.std.proofs.Common.{◌≡◌, ℕ, ◌-◌, ◌<◌, List, length, get_or, ap, ◌∙◌, arith}
use Rattle.std.proofs.lemmas.List.{get_or_default}
use Rattle.nll_problem.specs.At.{at_rank}
use Rattle.nll_problem.specs.declared.at.At.{At}
use Rattle.nll_problem.specs.declared.at.At.TheVariants.{Point}
use Rattle.nll_problem.specs.declared.constraint.Constraint.{Constraint}
use Rattle.nll_core.specs.Walking.{constraint_at, no_constraint, point_of}
use Rattle.nll_core.proofs.LedWalkLemmas.{contained_at}
use Rattle.nll_core.proofs.walk.point_at.Goals as goal

-- the point of what stands at a place of the list, whatever would be read past its end
point_read : (pair : List Constraint) (place : ℕ) (past : Constraint) (at : At) → place < length pair
    → (get_or pair place past).at ≡ at → point_of (constraint_at pair place) ≡ at_rank at - 1
point_read pair place past at within is = ap point_of (get_or_default pair place no_constraint past within)
    ∙ ap (λ (a : At). at_rank a - 1) is

pub unreachable-requires : goal.unreachable-requires
unreachable-requires c =
    let pair = c.args.pair.now in
    c.requires.points _ (contained_at pair c.args.place c.requires.place)
    (ap (λ (k : Constraint). k.at) (get_or_default pair c.args.place no_constraint _ c.requires.place) ∙ c.in-All.is)

pub returns : goal.returns
returns c =
    let read = point_read c.args.pair.now c.args.place _ (Point c.in-Point.point) c.requires.place c.in-Point.is in
    omega (arith, read)
