-- What a link lacks once it was handed runs.
use Rattle.std.proofs.Common.{◌≡◌, ◌↔◌, ◌⊎◌, ⊎_elim, ℕ, ◌+◌, ◌<◌, ◌≤◌, Bool, true, false, List, length, set, get_or, drop, Contains, refl, sym, ap, ◌∙◌, subst, inl, inr, arith}
use Rattle.std.proofs.lemmas.Bool.{cases_lt, false≢true, true≢false}
use Rattle.nll_problem.specs.Graph.{element_count}
use Rattle.nll_problem.specs.Problem.{Problem}
use Rattle.nll_problem.specs.At.{IsAmong}
use Rattle.nll_problem.specs.Solution.{IsAskedIn}
use Rattle.nll_problem.specs.declared.at.At.{At}
use Rattle.nll_problem.specs.declared.at.At.TheVariants.{All, Point}
use Rattle.nll_problem.proofs.AskLemmas.{asked_inside, asked_weaker}
use Rattle.nll_problem.proofs.WalkLemmas.{reaches_first, reaches_inside, reaches_starts}
use Rattle.nll_core.specs.Frontiers.{IsAskedFrom, IsIdle, IsThere, LacksOnlyDue, MayGrowByRun, GrowsByRun}
use Rattle.nll_core.specs.Search.{IsIn}
use Rattle.nll_sets.specs.ElementSet.{flag}
use Rattle.nll_core.proofs.FrontierLemmas.{reached_inside}
use Rattle.nll_core.proofs.SearchLemmas.{flag_within}
use Rattle.nll_sets.specs.Runs.{IsInRuns, IsWithin, IsRunFrom}
use Rattle.nll_sets.specs.declared.run.Run.{Run}
use Rattle.nll_owner.specs.Logs.{IsTold}
use Rattle.nll_owner.specs.Owner.{Owner, Has, IsCalled, IsSoundOwner}
use Rattle.nll_owner.specs.Keeping.{OwnerGrows}
use Rattle.nll_owner.specs.Following.{IsLinkOf, link_shape, constraint_of, Following, IsLeft, IsLinkFollowed, IsFollowing, OfRunOr}
use Rattle.nll_owner.specs.RegionRuns.{IsToldByRuns}
use Rattle.nll_owner.specs.declared.link.Link.{Link}
use Rattle.nll_owner.specs.declared.region_runs.RegionRun.{RegionRun}
use Rattle.nll_owner.proofs.DecidingLemmas.{Decided, either, of_run, told, told_by_runs, test_of, test_yes, test_from}
use Rattle.nll_owner.proofs.LogRunLemmas.{at_place}
use Rattle.nll_owner.proofs.RegionRunLemmas.{due_at, told_up_to}
use Rattle.nll_owner.proofs.OwnerLemmas.{has_grows}
use Rattle.nll_owner.proofs.LinkLemmas.{has_grown, lacks_more, left_grows, left_new, same_problem, there}

-- ---- one link goes on

-- a link that lacks only what is left lacks only what is left among more
pub followed_less : (o : Owner) (r : ℕ) (left more : ℕ → Type 0) (l : Link) → ((x : ℕ) → Has o r x → left x → more x)
    → IsLinkFollowed o r left l → IsLinkFollowed o r more l
followed_less o r left more l of w = record {
  whole = w.whole;
  fits = w.fits;
  sound = w.sound;
  filled = w.filled;
  resting = λ still x h. ⊎_elim inl (λ later. inr (of x h later)) (w.resting still x h);
  pursued = λ awake.
      lacks_more o.problem.graph l.frontier (Has o r) (Has o r) left more
      (reached_inside o.problem.graph (Has o r) l.frontier w.sound) (λ x h. inl h) of (w.pursued awake);
}

-- so it is for an owner that has followed up all but what is due
pub following_less : (less more : ℕ → ℕ → Type 0) (o : Owner) (f : Following) → ((r e : ℕ) → less r e → more r e)
    → IsFollowing less o f → IsFollowing more o f
following_less less more o f of w = record {
  count = w.count;
  within = w.within;
  links = w.links;
  followed =
      λ s r l at h. followed_less o r (IsLeft o f.place less r) (IsLeft o f.place more r) l (λ e h. left_less r e)
      (w.followed s r l at h);
}
  where
    left_less : (r e : ℕ) → IsLeft o f.place less r e → IsLeft o f.place more r e
    left_less r e (inl k) = inl k
    left_less r e (inr d) = inr (of r e d)

-- the constraints of a link hold at all points or at points of the graph
starts_are_among : (o : Owner) (r : ℕ) (l : Link) → IsSoundOwner o → IsLinkOf o.cut o.me r o.problem.constraints l
    → (p : At) → Contains l.frontier.starts p → IsAmong o.problem.graph.points p
starts_are_among o r l sound link p h = sound.problem.constraint_points (constraint_of r l.sup p) (link.points p h)

-- what a link has reached is asked for inside the set of the region
sound_inside : (o : Owner) (r : ℕ) (left : ℕ → Type 0) (l : Link) (set : List Bool)
    → ((x : ℕ) → IsIn set x ↔ Has o r x) → IsLinkFollowed o r left l → (x : ℕ) → IsIn l.frontier.reached x
    → IsAskedFrom o.problem.graph (IsIn set) l.frontier.starts x
sound_inside o r left l set holds w x h = let t = w.sound x h in
    (t.0, t.1, asked_weaker o.problem.graph (Has o r) t.0 (IsIn set) (λ y. (holds y).1) x t.2)

-- so it may grow by a run of the region
pub may_grow : (o : Owner) (r : ℕ) (left : ℕ → Type 0) (l : Link) (set : List Bool) (run : Run) → IsSoundOwner o
    → IsLinkOf o.cut o.me r o.problem.constraints l → length set ≡ element_count o.problem.graph
    → ((x : ℕ) → IsIn set x ↔ Has o r x) → run.first ≤ run.last → ((x : ℕ) → IsWithin run x → Has o r x)
    → IsLinkFollowed o r left l → MayGrowByRun o.problem.graph set run l.frontier
may_grow o r left l set run sound link width holds proper has w = record {
  width = width;
  proper = proper;
  inside = λ x own. (holds x).1 (has x own);
  starts = starts_are_among o r l sound link;
  fits = λ _. w.fits;
  sound = λ _. sound_inside o r left l set holds w;
}

module _ (o : Owner) (r : ℕ) (run : Run) (set : List Bool) (l m : Link) (found : List Run)
    (link : IsLinkOf o.cut o.me r o.problem.constraints l)
    (holds : (x : ℕ) → IsIn set x ↔ Has o r x) (same : link_shape m ≡ link_shape l)
    (grown : GrowsByRun o.problem.graph set run l.frontier m.frontier found) where
  found_in : (x : ℕ) → IsInRuns found x → IsIn m.frontier.reached x
  found_in x (k, within, a, b) = ((grown.listed.listed x).0 (k, omega arith, within, a, b)).0

  pub found_below : (x : ℕ) → IsInRuns found x → x < element_count o.problem.graph
  found_below x h = (let w = flag_within m.frontier.reached x (found_in x h) in omega (arith, w, grown.fits))

  starts : m.frontier.starts ≡ l.frontier.starts
  starts = ap (λ (p : ℕ × List At). p.1) same

  -- what is newly reached is called for
  pub found_called : (x : ℕ) → IsInRuns found x → IsCalled o l.sup x
  found_called x h =
      let t = grown.sound x (found_in x h) in
      inr (
        constraint_of r l.sup t.0,
        link.points t.0 (subst (λ ps. Contains ps t.0) starts t.1),
        refl,
        asked_weaker o.problem.graph (IsIn set) t.0 (Has o r) (λ y. (holds y).0) x t.2,
      )

  -- what is left then is what was left, but for the run, and what is new
  module _ (n : Owner) (g : OwnerGrows o n) (left later : ℕ → Type 0) (test : ℕ → Bool)
      (part : (x : ℕ) → left x → IsWithin run x ⊎ (test x ≡ true)) (rest : (x : ℕ) → test x ≡ true → later x)
      (new : (x : ℕ) → IsTold g.begins.0 r x → later x)
      (w : IsLinkFollowed o r left l) (was : l.rests ≡ false) (is : m.rests ≡ false)
      (covers : (x : ℕ) → IsInRuns found x → Has n l.sup x) where
    filled : (x : ℕ) → IsIn m.frontier.reached x → Has n l.sup x
    filled x h = go (flag l.frontier.reached x) refl
      where
        go : (b : Bool) → flag l.frontier.reached x ≡ b → Has n l.sup x
        go true there = has_grows o n g l.sup x (w.filled x there)
        go false out = (let i = (grown.listed.listed x).1 (h, out) in covers x (i.0, i.2, i.3, i.4))

    -- inside the set the link lacked what the test says, and the run
    before : LacksOnlyDue o.problem.graph (IsIn set) (λ x. (test x ≡ true) ⊎ IsWithin run x) l.frontier
    before =
        lacks_more o.problem.graph l.frontier (Has o r) (IsIn set) left (λ x. (test x ≡ true) ⊎ IsWithin run x)
        (reached_inside o.problem.graph (Has o r) l.frontier w.sound) (λ x h. inl ((holds x).0 h))
        (λ x _ k. ⊎_elim (λ own. inr own) (λ due. inl due) (part x k)) (w.pursued was)

    pursued : LacksOnlyDue o.problem.graph (Has n r) later m.frontier
    pursued =
        lacks_more o.problem.graph m.frontier (IsIn set) (Has n r) (λ x. test x ≡ true) later
        (reached_inside o.problem.graph (IsIn set) m.frontier grown.sound)
        (λ x h. ⊎_elim (λ had. inl ((holds x).1 had)) (λ k. inr (new x k)) (has_grown o n g r x h))
        (λ x _ due. rest x due) (grown.whole test before)

    advanced : IsLinkFollowed n r later m
    advanced = record {
      whole = grown.usable.1;
      fits = subst (λ (q : Problem). length m.frontier.reached ≤ element_count q.graph) (sym (same_problem o n g))
          grown.fits;
      sound = λ x h. subst (λ (q : Problem). IsAskedFrom q.graph (Has n r) m.frontier.starts x)
          (sym (same_problem o n g))
          (let t = grown.sound x h in (
            t.0,
            t.1,
            asked_weaker o.problem.graph (IsIn set) t.0 (Has n r)
                (λ y i. has_grows o n g r y ((holds y).0 i)) x t.2,
          ));
      filled = λ x h. subst (λ s. Has n s x) (sym (ap (λ (p : ℕ × List At). p.0) same)) (filled x h);
      resting = λ still. absurd (true≢false (sym still ∙ is));
      pursued = λ _. subst (λ (q : Problem). LacksOnlyDue q.graph (Has n r) later m.frontier) (sym (same_problem o n g))
          pursued;
    }

  -- so it grows by a run, and what is behind the run up to a limit is due
  pub advanced_on : (n : Owner) (g : OwnerGrows o n) (place limit : ℕ) (rest : List RegionRun) → place ≤ length o.log
      → IsLinkFollowed o r (IsLeft o place (OfRunOr rest r run.first limit) r) l
      → l.rests ≡ false → m.rests ≡ false → ((x : ℕ) → IsInRuns found x → Has n l.sup x)
      → IsLinkFollowed n r (IsLeft n place (OfRunOr rest r (run.last + 1) limit) r) m
  advanced_on n g place limit rest low w =
      advanced n g (IsLeft o place (OfRunOr rest r run.first limit) r) (IsLeft n place due r) (test_of decided)
      (λ x k. ⊎_elim inl (λ later. inr (test_yes (IsLeft o place due r) decided x later)) (part x k))
      (λ x is. left_grows o n g place due r x low (test_from (IsLeft o place due r) decided x is))
      (λ x k. left_new o n g place due r x low k) w
    where
      due : ℕ → ℕ → Type 0
      due = OfRunOr rest r (run.last + 1) limit

      decided : (x : ℕ) → Decided (IsLeft o place due r x)
      decided x = either _ _ (told (drop place o.log) r x)
          (either _ _ (of_run r (run.last + 1) limit r x) (told_by_runs rest r x))

      part : (x : ℕ) → IsLeft o place (OfRunOr rest r run.first limit) r x → IsWithin run x ⊎ IsLeft o place due r x
      part x (inl k) = inr (inl k)
      part x (inr (inl d)) =
          ⊎_elim (λ past. inr (inr (inl (refl, omega (arith, past), d.2)))) (λ near. inl (d.1, near))
          (cases_lt run.last x)
      part x (inr (inr told)) = inr (inr (inr told))

-- ---- a link rests, or is handed all that is known

module _ (o : Owner) (r place : ℕ) (l : Link) (runs : List RegionRun) (count : ℕ) (low : count ≤ length runs)
    (w : IsLinkFollowed o r (IsLeft o place (IsToldByRuns runs) r) l) where
  -- where the own region has the first runs too, or all of the other one, the link may rest
  pub rested : (l.rests ≡ true → (n : ℕ) (k : RegionRun) → n < count → get_or runs n k ≡ k → (x : ℕ) → IsWithin k.run x
      → Has o l.sup x) → (l.rests ≡ false → (x : ℕ) → Has o r x → Has o l.sup x)
      → IsLinkFollowed o r (IsLeft o place (IsToldByRuns (drop count runs)) r) (record l { rests = true })
  rested still all = record {
    whole = w.whole;
    fits = w.fits;
    sound = w.sound;
    filled = w.filled;
    resting = λ _ x h. go x h l.rests refl;
    pursued = λ awake. absurd (true≢false awake);
  }
    where
      less : (x : ℕ) → l.rests ≡ true → Has o l.sup x ⊎ IsLeft o place (IsToldByRuns runs) r x
          → Has o l.sup x ⊎ IsLeft o place (IsToldByRuns (drop count runs)) r x
      less x is (inl own) = inl own
      less x is (inr (inl k)) = inr (inl k)
      less x is (inr (inr t)) =
          ⊎_elim (λ early. inl (still is early.0 early.1 early.2 early.3 x (early.5, early.6))) (λ late. inr (inr late))
          (told_up_to runs count r x low t)

      go : (x : ℕ) → Has o r x → (b : Bool) → l.rests ≡ b
          → Has o l.sup x ⊎ IsLeft o place (IsToldByRuns (drop count runs)) r x
      go x h true is = less x is (w.resting is x h)
      go x h false is = inl (all is x h)

  -- where nothing is reached and no walk begins in the first runs, these bring nothing
  pub idle : l.rests ≡ false → 0 < count
      → ((n : ℕ) (k : RegionRun) → n < count → get_or runs n k ≡ k → IsIdle l.frontier.starts k.run l.frontier.reached)
      → IsLinkFollowed o r (IsLeft o place (IsToldByRuns (drop count runs)) r) l
  idle awake some each = record {
    whole = w.whole;
    fits = w.fits;
    sound = w.sound;
    filled = w.filled;
    resting = λ rests. absurd (true≢false (sym rests ∙ awake));
    pursued = λ _. record {
      asked = λ x asks. absurd (first.none _ (begun asks.0 asks.1 x asks.2).1);
      onward = λ x y h way. absurd (first.none x h);
    };
  }
    where
      front : (k : RegionRun) × (get_or runs 0 k ≡ k)
      front = at_place runs 0 (omega (arith, some, low))

      first : IsIdle l.frontier.starts front.0.run l.frontier.reached
      first = each 0 front.0 some front.1

      there : ℕ → Type 0
      there = IsThere (Has o r) (IsLeft o place (IsToldByRuns (drop count runs)) r) l.frontier.reached

      there_before : ℕ → Type 0
      there_before = IsThere (Has o r) (IsLeft o place (IsToldByRuns runs) r) l.frontier.reached

      -- what is there, and where a walk begins, was there, since no run has it
      was_there : (p : ℕ) → Contains l.frontier.starts (Point p) → there p → there_before p
      was_there p start t = (t.0, λ left. less left)
        where
          less : IsLeft o place (IsToldByRuns runs) r p → IsIn l.frontier.reached p
          less (inl k) = t.1 (inl k)
          less (inr k) =
              ⊎_elim (λ early. absurd ((each early.0 early.1 early.2 early.3).apart p start (early.5, early.6)))
              (λ late. t.1 (inr late)) (told_up_to runs count r p low k)

      -- so something would be reached already
      begun : (at : At) → Contains l.frontier.starts at → (x : ℕ) → IsAskedIn o.problem.graph there at x
          → (p : ℕ) × IsIn l.frontier.reached p
      begun All every x t = absurd (first.nowhere every)
      begun (Point p) start x way = (
        p,
        (w.pursued awake).asked p (
          Point p,
          start,
          reaches_first o.problem.graph there_before p
              (was_there p start (reaches_starts o.problem.graph there p x way)),
        ),
      )

module _ (o : Owner) (r place : ℕ) (rest : List RegionRun) (l : Link) where
  -- all of the region is due to a link that is awake again
  pub awoken : (left : ℕ → Type 0) (limit : ℕ) → ((x : ℕ) → Has o r x → x ≤ limit) → IsLinkFollowed o r left l
      → IsLinkFollowed o r (IsLeft o place (OfRunOr rest r 0 limit) r) (record l { rests = false })
  awoken left limit low w = record {
    whole = w.whole;
    fits = w.fits;
    sound = w.sound;
    filled = w.filled;
    resting = λ still. absurd (false≢true still);
    pursued = λ _. record {
      asked = λ x asks. have x (asked_inside o.problem.graph there asks.0 x asks.2);
      onward = λ x y h way. have y (reaches_inside o.problem.graph there x y way);
    };
  }
    where
      there : ℕ → Type 0
      there = IsThere (Has o r) (IsLeft o place (OfRunOr rest r 0 limit) r) l.frontier.reached

      due : (x : ℕ) → Has o r x → IsLeft o place (OfRunOr rest r 0 limit) r x
      due x h = inr (inl (refl, omega arith, low x h))

      -- what is there is due, and so it is reached
      have : (x : ℕ) → there x → IsIn l.frontier.reached x
      have x t = t.1 (due x t.0)

  module _ (set : List Bool) (holds : (x : ℕ) → IsIn set x ↔ Has o r x) (next limit : ℕ)
      (w : IsLinkFollowed o r (IsLeft o place (OfRunOr rest r next limit) r) l) where
    -- what is due of the region lies in the next run or behind it
    pub due_from : (run : Run) → IsRunFrom set next run
        → IsLinkFollowed o r (IsLeft o place (OfRunOr rest r run.first limit) r) l
    due_from run from =
        followed_less o r (IsLeft o place (OfRunOr rest r next limit) r)
        (IsLeft o place (OfRunOr rest r run.first limit) r) l less w
      where
        less : (x : ℕ) → Has o r x → IsLeft o place (OfRunOr rest r next limit) r x
            → IsLeft o place (OfRunOr rest r run.first limit) r x
        less x h (inl k) = inl k
        less x h (inr (inl d)) =
            ⊎_elim (λ before. absurd (false≢true (sym (from.none x d.1 before) ∙ (holds x).1 h)))
            (λ past. inr (inl (d.0, past, d.2))) (cases_lt x run.first)
        less x h (inr (inr told)) = inr (inr told)

    -- where there is no such run, nothing of it is due
    pub none_due_from : ((x : ℕ) → next ≤ x → flag set x ≡ false)
        → IsLinkFollowed o r (IsLeft o place (IsToldByRuns rest) r) l
    none_due_from none =
        followed_less o r (IsLeft o place (OfRunOr rest r next limit) r) (IsLeft o place (IsToldByRuns rest) r) l less w
      where
        less : (x : ℕ) → Has o r x → IsLeft o place (OfRunOr rest r next limit) r x
            → IsLeft o place (IsToldByRuns rest) r x
        less x h (inl k) = inl k
        less x h (inr (inl d)) = absurd (false≢true (sym (none x d.1) ∙ (holds x).1 h))
        less x h (inr (inr told)) = inr told

  -- nothing is due behind the end of a run up to that end
  pub none_due_past : (last : ℕ) → IsLinkFollowed o r (IsLeft o place (OfRunOr rest r (last + 1) last) r) l
      → IsLinkFollowed o r (IsLeft o place (IsToldByRuns rest) r) l
  none_due_past last w =
      followed_less o r (IsLeft o place (OfRunOr rest r (last + 1) last) r)
      (IsLeft o place (IsToldByRuns rest) r) l less w
    where
      less : (x : ℕ) → Has o r x → IsLeft o place (OfRunOr rest r (last + 1) last) r x
          → IsLeft o place (IsToldByRuns rest) r x
      less x h (inl k) = inl k
      less x h (inr (inl d)) = absurd (omega (arith, d.1, d.2))
      less x h (inr (inr told)) = inr told

-- ---- runs are handed to a link one after another

module _ (o : Owner) (r place : ℕ) (l : Link) (runs : List RegionRun) (n : ℕ) where
  -- of what is told from a place on, the run there is next
  pub due_next : (k : RegionRun) (rest : List RegionRun) → rest ≡ drop (n + 1) runs → n < length runs
      → k ≡ get_or runs n k → k.region ≡ r → IsLinkFollowed o r (IsLeft o place (IsToldByRuns (drop n runs)) r) l
      → IsLinkFollowed o r (IsLeft o place (OfRunOr rest r k.run.first k.run.last) r) l
  due_next k rest is within at of w =
      subst (λ xs. IsLinkFollowed o r (IsLeft o place (OfRunOr xs r k.run.first k.run.last) r) l) (sym is)
      (followed_less o r (IsLeft o place (IsToldByRuns (drop n runs)) r)
      (IsLeft o place (OfRunOr (drop (n + 1) runs) r k.run.first k.run.last) r) l less w)
    where
      less : (x : ℕ) → Has o r x → IsLeft o place (IsToldByRuns (drop n runs)) r x
          → IsLeft o place (OfRunOr (drop (n + 1) runs) r k.run.first k.run.last) r x
      less x h (inl told) = inl told
      less x h (inr t) = inr (due_at runs n r x k within at of t)

  -- and once it's handed over, what is told behind it
  pub due_done : (last : ℕ) (rest : List RegionRun) → rest ≡ drop (n + 1) runs
      → IsLinkFollowed o r (IsLeft o place (OfRunOr rest r (last + 1) last) r) l
      → IsLinkFollowed o r (IsLeft o place (IsToldByRuns (drop (n + 1) runs)) r) l
  due_done last rest is w =
      subst (λ xs. IsLinkFollowed o r (IsLeft o place (IsToldByRuns xs) r) l) is (none_due_past o r place rest l last w)
