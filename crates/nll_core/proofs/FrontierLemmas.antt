-- A frontier goes on from a run, and is again what walks reach.
use Rattle.std.proofs.Common.{◌≡◌, ◌⊎◌, ◌↔◌, ℕ, ◌<◌, ◌≤◌, Bool, true, false, List, [], Contains, length, replicate, refl, sym, subst, inl, inr, ⊎_elim, arith}
use Rattle.std.proofs.lemmas.Bool.{false≢true}
use Rattle.nll_sets.specs.ElementSet.{flag}
use Rattle.nll_sets.specs.Runs.{IsWithin, Fills}
use Rattle.nll_sets.specs.declared.run.Run.{Run}
use Rattle.nll_problem.specs.Graph.{Graph, element_count, IsStep}
use Rattle.nll_problem.specs.Solution.{IsAskedIn}
use Rattle.nll_problem.specs.At.{IsAmong}
use Rattle.nll_problem.specs.declared.at.At.{At}
use Rattle.nll_problem.specs.declared.at.At.TheVariants.{All, Point}
use Rattle.nll_problem.proofs.AskLemmas.{asked_inside, asked_more, asked_weaker}
use Rattle.nll_problem.proofs.WalkLemmas.{reaches_first, reaches_starts, reaches_more, reaches_carries}
use Rattle.nll_core.specs.Search.{IsIn}
use Rattle.nll_core.specs.Frontiers.{Frontier, ReachesFrom, WalksOn, IsAskedFrom, IsFrontierIn, IsBeside, HasOnlyAsked, IsThere, LacksOnlyDue, GrowsByRun, FrontierGoesOn, ListsNew, as_places}
use Rattle.nll_core.proofs.SearchLemmas.{none_in_empty}
use Rattle.nll_core.proofs.PlaceLemmas.{point_in, no_all}
use Rattle.nll_core.proofs.ResumeLemmas.{outside, within_or}

-- ---- what constraints ask for

module _ (g : Graph) (set : List Bool) (points : List ℕ) where
  -- where none holds at all points, what is asked for from places is what walks reach from their points
  pub asked_walks : (x : ℕ) → IsAskedFrom g (IsIn set) (as_places points) x → ReachesFrom g (IsIn set) points x
  asked_walks x (All, there, here) = absurd (no_all points there)
  asked_walks x (Point p, there, way) = (p, (point_in points p).0 there, way)

  pub walks_asked : (x : ℕ) → ReachesFrom g (IsIn set) points x → IsAskedFrom g (IsIn set) (as_places points) x
  walks_asked x (p, there, way) = (Point p, (point_in points p).1 there, way)

-- walks went on from the points
pub goes_by_walks : (g : Graph) (set : List Bool) (run : Run) (points : List ℕ) (old new : List Bool)
    → WalksOn g set run points old new → FrontierGoesOn g set run (as_places points) old new
goes_by_walks g set run points old new w = record {
  kept = w.kept;
  sound = λ x h. walks_asked g set points x (w.sound x h);
  whole = λ every. absurd (no_all points every);
  alone = λ every. absurd (no_all points every);
  begun = λ p there own. w.begun p ((point_in points p).0 there) own;
  closed = λ x y h step inside. ⊎_elim inl (λ o. inr (inl o.0, o.1)) (w.closed x y h step inside);
}

-- points among places of a graph are points of the graph
pub points_among : (n : ℕ) (points : List ℕ) → ((place : At) → Contains (as_places points) place → IsAmong n place)
    → (p : ℕ) → Contains points p → p < n
points_among n points among p h = among (Point p) ((point_in points p).1 h)

module _ (g : Graph) (set : List Bool) (run : Run) (starts : List At) where
  -- the run came as it is
  pub goes_whole : (old new : List Bool) → Contains starts All → ((x : ℕ) → IsWithin run x → IsIn set x)
      → ((x : ℕ) → IsIn old x → IsAskedFrom g (IsIn set) starts x) → Fills old new run
      → FrontierGoesOn g set run starts old new
  goes_whole old new every inside sound f = grind (arith, outside, within_or)

-- ---- a frontier that lacked what a run has

-- what a frontier has that has only what is asked for is inside
pub reached_inside : (g : Graph) (inside : ℕ → Type 0) (f : Frontier) → HasOnlyAsked g inside f → (x : ℕ)
    → IsIn f.reached x → inside x
reached_inside g inside f sound x h = let w = sound x h in asked_inside g inside w.0 x w.2

-- nothing is due
abbrev Nothing : ℕ → Type 0
Nothing x = false ≡ true

-- one that lacks nothing has just what is asked for
pub lacks_nothing : (g : Graph) (inside : ℕ → Type 0) (f : Frontier) → HasOnlyAsked g inside f
    → LacksOnlyDue g inside Nothing f → IsFrontierIn g inside f
lacks_nothing g inside f sound w x = grind (arith, asked_weaker, false≢true)

module _ (g : Graph) (set : List Bool) (run : Run) (old : Frontier)
    (exact : IsFrontierIn g (IsBeside set run) old) where
  abbrev there_or_run : ℕ → Type 0
  there_or_run = IsThere (IsIn set) (λ x. Nothing x ⊎ IsWithin run x) old.reached

  -- what is there is beside the run, or reached and so beside it
  there_beside : (x : ℕ) → there_or_run x → IsBeside set run x
  there_beside x t = ⊎_elim
      (λ own. reached_inside g (IsBeside set run) old (λ y. (exact y).0) x (t.1 (inr own)))
      (λ out. (t.0, outside run x out))
      (within_or run x)

  pub beside_sound : HasOnlyAsked g (IsIn set) old
  beside_sound x h = let w = (exact x).0 h in
      (w.0, w.1, asked_weaker g (IsBeside set run) w.0 (IsIn set) (λ y t. t.0) x w.2)

  -- one that has just what is asked for beside the run lacks only the run
  pub beside_lacks : LacksOnlyDue g (IsIn set) (λ x. Nothing x ⊎ IsWithin run x) old
  beside_lacks = record {
    asked = λ x w. (exact x).1 (w.0, w.1, asked_weaker g there_or_run w.0 (IsBeside set run) there_beside x w.2);
    onward = λ x y h way. reaches_carries g there_or_run x (IsIn old.reached)
        (λ a b k step t. let w = (exact a).0 k in
        (exact b).1 (w.0, w.1, asked_more g (IsBeside set run) w.0 a b w.2 step (there_beside b t)))
        y h way;
  }

-- once it went on from the run, a frontier that lacked only what is due and the run lacks only what is due
module _ (g : Graph) (set : List Bool) (run : Run) (old new : Frontier) (same : new.starts ≡ old.starts)
    (sound : HasOnlyAsked g (IsIn set) old) (goes : FrontierGoesOn g set run old.starts old.reached new.reached)
    (due : ℕ → Bool) (before : LacksOnlyDue g (IsIn set) (λ x. (due x ≡ true) ⊎ IsWithin run x) old) where
  abbrev there : ℕ → Type 0
  there = IsThere (IsIn set) (λ x. due x ≡ true) new.reached

  abbrev there_before : ℕ → Type 0
  there_before = IsThere (IsIn set) (λ x. (due x ≡ true) ⊎ IsWithin run x) old.reached

  -- what neither is due nor in the run was there
  was_there : (x : ℕ) → IsIn set x → due x ≡ false → (IsWithin run x → ⊥) → there_before x
  was_there x inside free out = grind (arith, false≢true)

  -- what is there and due is reached; else something is to be shown
  unless_due : (x : ℕ) → there x → (due x ≡ false → IsIn new.reached x) → IsIn new.reached x
  unless_due x t free = go (due x) refl
    where
      go : (b : Bool) → due x ≡ b → IsIn new.reached x
      go true is = t.1 is
      go false is = free is

  one_step : (x y : ℕ) → IsIn old.reached x → IsStep g x y → there_before y → IsIn new.reached y
  one_step x y h step t = goes.kept y (before.onward x y h (reaches_more g there_before x x y
      (reaches_first g there_before x (reached_inside g (IsIn set) old sound x h, λ _. h)) step t))

  step_on : (x y : ℕ) → IsIn new.reached x → IsStep g x y → there y → IsIn new.reached y
  step_on x y h step t = grind (arith, unless_due, was_there, one_step)

  -- what is in the run or was there at first is reached
  begun_on : (place : At) → Contains old.starts place → (x : ℕ)
      → ((inside : ℕ → Type 0) → inside x → IsAskedIn g inside place x) → (IsWithin run x → IsIn new.reached x)
      → there x → IsIn new.reached x
  begun_on place start x asks own t = grind (arith, unless_due, was_there, outside, within_or)

  asked_on : (x : ℕ) → IsAskedFrom g there old.starts x → IsIn new.reached x
  asked_on x (All, every, t) = begun_on All every x (λ inside t. t) (goes.whole every x) t
  asked_on x (Point p, start, way) = reaches_carries g there p (IsIn new.reached) step_on x
      (begun_on (Point p) start p (λ inside t. reaches_first g inside p t) (goes.begun p start)
      (reaches_starts g there p x way)) way

  pub goes_on_lacks : LacksOnlyDue g (IsIn set) (λ x. due x ≡ true) new
  goes_on_lacks = record {
    asked = λ x w. asked_on x (subst (λ starts. IsAskedFrom g there starts x) same w);
    onward = λ x y h way. reaches_carries g there x (IsIn new.reached) step_on y h way;
  }

module _ (g : Graph) (set : List Bool) (run : Run) (old new : Frontier) (same : new.starts ≡ old.starts)
    (sound : HasOnlyAsked g (IsIn set) old) (goes : FrontierGoesOn g set run old.starts old.reached new.reached) where
  pub goes_on_sound : HasOnlyAsked g (IsIn set) new
  goes_on_sound x h = subst (λ starts. IsAskedFrom g (IsIn set) starts x) (sym same) (goes.sound x h)

  pub goes_on_exact : IsFrontierIn g (IsBeside set run) old → IsFrontierIn g (IsIn set) new
  goes_on_exact exact = lacks_nothing g (IsIn set) new goes_on_sound
      (goes_on_lacks g set run old new same sound goes (λ _. false) (beside_lacks g set run old exact))

-- ---- more room

-- with more room it goes on as without
pub goes_on_widened : (g : Graph) (set : List Bool) (run : Run) (starts : List At) (old wide new : List Bool)
    → ((x : ℕ) → flag wide x ≡ flag old x) → FrontierGoesOn g set run starts wide new
    → FrontierGoesOn g set run starts old new
goes_on_widened g set run starts old wide new same w = grind arith

-- and lists the same
pub lists_widened : (old wide new : List Bool) (before after : List Run) → ((x : ℕ) → flag wide x ≡ flag old x)
    → ListsNew wide new before after → ListsNew old new before after
lists_widened old wide new before after same l = grind arith

-- so a frontier that was given room grew by the run
pub grown_by_run : (g : Graph) (set : List Bool) (run : Run) (old : Frontier) (wide new : List Bool) (refused : Bool)
    (found : List Run)
    → old.refused ≡ false → refused ≡ false → HasOnlyAsked g (IsIn set) old
    → ((x : ℕ) → flag wide x ≡ flag old.reached x) → length new ≤ element_count g
    → FrontierGoesOn g set run old.starts wide new → ListsNew wide new [] found
    → GrowsByRun g set run old (record { starts = old.starts; reached = new; refused = refused }) found
grown_by_run g set run old wide new refused found was is sound same fits goes lists =
    let goes_on = goes_on_widened g set run old.starts old.reached wide new same goes in
    let then : Frontier = record { starts = old.starts; reached = new; refused = refused } in
    record {
      usable = (was, is);
      fits = fits;
      kept = goes_on.kept;
      sound = goes_on_sound g set run old then refl sound goes_on;
      alone = goes_on.alone;
      exact = goes_on_exact g set run old then refl sound goes_on;
      whole = goes_on_lacks g set run old then refl sound goes_on;
      listed = lists_widened old.reached wide new [] found same lists;
    }

-- ---- other words for the same set

-- a frontier inside one set is one inside any that has the same elements
pub frontier_alike : (g : Graph) (inside other : ℕ → Type 0) (f : Frontier) → ((x : ℕ) → inside x ↔ other x)
    → IsFrontierIn g inside f → IsFrontierIn g other f
frontier_alike g inside other f same is x = grind (arith, asked_weaker)

-- what a set had before a run of others came is what it has beside the run
pub beside_filled : (old new : List Bool) (run : Run) → Fills old new run
    → ((x : ℕ) → IsWithin run x → flag old x ≡ false) → (x : ℕ) → IsIn old x ↔ IsBeside new run x
beside_filled old new run f lacks x = grind (arith, false≢true)

-- a frontier that has reached nothing is one inside the empty set
pub frontier_none : (g : Graph) (n : ℕ) (starts : List At) → (x : ℕ)
    → IsIn [] x ↔ IsAskedFrom g (IsIn (replicate n false)) starts x
frontier_none g n starts x = grind (arith, false≢true, none_in_empty, asked_inside)
