use Rattle.std.proofs.Common.{◌≡◌, ℕ, zero, suc, ◌↔◌, Bool, false, List, [], ◌∷◌, Contains, refl, sym, ◌∙◌, subst, arith}
use Rattle.std.proofs.lemmas.Bool.{false≢true}
use Rattle.std.proofs.lemmas.List.{get_or_past}
use Rattle.nll_problem.specs.Graph.{Graph}
use Rattle.nll_problem.specs.Solution.{IsAskedIn}
use Rattle.nll_problem.specs.Walks.{Reaches}
use Rattle.nll_problem.specs.declared.at.At.{At}
use Rattle.nll_problem.specs.declared.at.At.TheVariants.{Point}
use Rattle.nll_problem.proofs.WalkLemmas.{reaches_starts}
use Rattle.nll_core.specs.Frontiers.{Frontier, AppendsNew, IsAskedFrom, IsFrontierIn}
use Rattle.nll_core.specs.Search.{IsIn}
use Rattle.nll_core.proofs.SearchLemmas.{none_in_empty}
use Rattle.nll_tests.proofs.rounds.reached_from.Goals as goal
use Rattle.nll_tests.proofs.rounds.reached_from.Goals.{then-has+in_ok-grow, else-has}

only : (y x : At) → Contains (y ∷ []) x → y ≡ x
only y x (zero, within, is) = is
only y x (suc k, within, is) = absurd (omega (arith, within))

-- what is asked for from one point is what walks from there reach
asked_there : (g : Graph) (inside : ℕ → Type 0) (p x : ℕ)
    → IsAskedFrom g inside (Point p ∷ []) x ↔ Reaches g inside p x
asked_there g inside p x = (
  λ w. subst (λ place. IsAskedIn g inside place x) (sym (only (Point p) w.0 w.1)) w.2,
  λ way. (Point p, (0, omega arith, refl), way),
)

all_found : (g : Graph) (set : List Bool) (p : ℕ) (new : Frontier) (after : List ℕ) → new.starts ≡ Point p ∷ []
    → IsFrontierIn g (IsIn set) new → AppendsNew [] new.reached [] after
    → (x : ℕ) → Contains after x ↔ Reaches g (IsIn set) p x
all_found g set p new after starts exact a x =
    let asked = rw starts at (exact x) in (
      λ h. (asked_there g (IsIn set) p x).0 (asked.0 ((a.listed x).0 (rw a.appended at h)).0),
      λ h. rw a.appended ((a.listed x).1
          (asked.1 ((asked_there g (IsIn set) p x).1 h), get_or_past [] x false (omega arith))),
    )

pub grow-requires-clause-reached : goal.grow-requires-clause-reached
grow-requires-clause-reached c = λ _. rw c.new.ensures (λ x. (
  λ h. absurd (none_in_empty 0 x h),
  λ asked. absurd ((reaches_starts _ _ _ x ((asked_there _ _ _ x).0 asked)).1 refl),
))

pub returns : goal.returns
returns c x =
    elim c.if-has.branch [
      | then-has+in_ok-grow w ↦ rw w.found-is (all_found c.args.graph.now c.args.set.now c.args.point w.grow.new.self
          w.grow.new.out.items (rw w.new.ensures at w.in_ok-grow.ensures.starts) w.in_ok-grow.ensures.reached
          (rw (w.new.ensures, c.new-found.ensures.items) at w.in_ok-grow.ensures.found) x)
      | else-has w ↦ rw (w.found-is, c.new-found.ensures.items) (
        λ h. absurd (omega (arith, h.1)),
        λ h. absurd (false≢true (sym w.if-has.false ∙ (c.has.ensures ∙ reaches_starts _ _ _ x h))),
      )
    ]
