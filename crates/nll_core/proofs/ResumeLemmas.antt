-- Walks go on from a run of a set, and are again whole.
use Rattle.std.proofs.Common.{◌≡◌, ◌⊎◌, ◌↔◌, ℕ, ◌+◌, ◌<◌, ◌≤◌, Bool, false, List, [], Contains, length, get_or, refl, sym, ap, ◌∙◌, subst, inl, inr, ⊎_elim, arith}
use Rattle.std.proofs.lemmas.Bool.{cases_eq, cases_lt, false≢true}
use Rattle.std.proofs.lemmas.List.{get_or_default}
use Rattle.nll_sets.specs.ElementSet.{flag}
use Rattle.nll_sets.specs.Runs.{IsInRuns, IsWithin}
use Rattle.nll_sets.specs.declared.run.Run.{Run}
use Rattle.nll_problem.specs.Graph.{Graph, element_count, IsNext, IsReturn, IsStep, IsSound}
use Rattle.nll_problem.specs.Walks.{Reaches}
use Rattle.nll_problem.proofs.WalkLemmas.{reaches_first, reaches_inside, reaches_more}
use Rattle.nll_core.specs.Search.{IsIn}
use Rattle.nll_core.specs.Lines.{IsJump}
use Rattle.nll_core.specs.Walking.{GrowsByRuns, IsLedTo, IsSpread, AreRunsOfPoints, FillsFrom}
use Rattle.nll_core.specs.Frontiers.{ReachesFrom, WalksOn, ResumesPoints, ListsNew}
use Rattle.nll_core.specs.declared.frontiers.landings.Landing.{Landing}
use Rattle.nll_core.proofs.SearchLemmas.{flag_within}
use Rattle.nll_core.proofs.WalkingLemmas.{grows_none, grows_append, grows_weaker, reaches_append}
use Rattle.nll_core.proofs.ListingLemmas.{lists_grown, lists_append}

-- ---- runs and jumps

-- a number is in a run, or below it, or above it
pub within_or : (run : Run) (x : ℕ) → IsWithin run x ⊎ ((x < run.first) ⊎ (run.last < x))
within_or run x = grind (arith, cases_lt)

pub outside : (run : Run) (x : ℕ) → (x < run.first) ⊎ (run.last < x) → IsWithin run x → ⊥
outside run x (inl low) w = omega (arith, low, w.0)
outside run x (inr high) w = omega (arith, high, w.1)

-- a jump to a point is a step to it
jump_next : (g : Graph) (x t : ℕ) → IsJump g x t → t < g.points → IsNext g x t
jump_next g x t (inl next) point = next.0
jump_next g x t (inr back) point = absurd (omega (arith, back.1, point))

-- a jump to the ends is one from a return point
pub jump_return : (g : Graph) → IsSound g → (x : ℕ) → IsJump g x g.points → IsReturn g x
jump_return g sound x (inl next) = absurd (omega (arith, (sound.edges_in_range x g.points next.0).1))
jump_return g sound x (inr back) = back.0

-- ---- what walks reach inside a set

module _ (g : Graph) (set : List Bool) (starts : List ℕ) where
  -- where nothing is reached and no walk begins in a run, none goes on from it
  pub walks_idle : (run : Run) (old : List Bool) → ((x : ℕ) → IsIn old x → ⊥)
      → ((p : ℕ) → Contains starts p → IsWithin run p → ⊥) → WalksOn g set run starts old old
  walks_idle run old none apart = record {
    kept = λ x h. h;
    sound = λ x h. absurd (none x h);
    begun = λ p there own. absurd (apart p there own);
    closed = λ x y h step inside. absurd (none x h);
  }

  -- nor where the run is reached
  pub walks_had : (run : Run) (old : List Bool) → ((x : ℕ) → IsIn old x → ReachesFrom g (IsIn set) starts x)
      → ((x : ℕ) → IsWithin run x → IsIn old x) → WalksOn g set run starts old old
  walks_had run old sound had = grind (arith, cases_lt)

  -- what is led to from what is reached is reached
  pub led_from : (reached : List Bool) → ((x : ℕ) → IsIn reached x → ReachesFrom g (IsIn set) starts x) → (x : ℕ)
      → IsLedTo g set reached x → ReachesFrom g (IsIn set) starts x
  led_from reached sound x w = let from = sound w.0 w.1 in
      (from.0, from.1, reaches_append g set from.0 w.0 x from.2 w.2)

  pub sound_more : (old new : List Bool) (before after : List Run)
      → ((x : ℕ) → IsIn old x → ReachesFrom g (IsIn set) starts x)
      → GrowsByRuns g set (ReachesFrom g (IsIn set) starts) old new before after → (x : ℕ) → IsIn new x
      → ReachesFrom g (IsIn set) starts x
  sound_more old new before after sound p x h = ⊎_elim (sound x) (λ k. k) (p.cause x h)

  -- what walks reach is inside
  pub from_inside : (x : ℕ) → ReachesFrom g (IsIn set) starts x → IsIn set x
  from_inside x w = reaches_inside g (IsIn set) w.0 x w.2

  -- ---- walks go on from a run

  module _ (run : Run) (old : List Bool) (old_sound : (x : ℕ) → IsIn old x → ReachesFrom g (IsIn set) starts x) where
    pub old_inside : (x : ℕ) → IsIn old x → IsIn set x
    old_inside x h = from_inside x (old_sound x h)

    module _ (sound : IsSound g) (points : (p : ℕ) → Contains starts p → p < g.points) where
      -- where the run has no point, no point is newly reached
      pub resumes_none : (runs : List Run) → g.points ≤ run.first
          → ResumesPoints g set run starts old old runs runs false
      resumes_none runs past = record {
        grows = grows_none g set (ReachesFrom g (IsIn set) starts) old runs;
        begun = λ p at w. absurd (omega (arith, w.0, past, points p at));
        closed =
            λ x y h next inside. inr (h, λ w. absurd (omega (arith, w.0, past, (sound.edges_in_range x y next).1)));
        ends_from = λ e. absurd (false≢true e);
        ends = λ x h back. inr h;
      }

      -- else its points are entered from which walks go on
      module _ (part : Run) (first : part.first ≡ run.first)
          (last : (x : ℕ) → x ≤ run.last → x < g.points → x ≤ part.last) (es : List Run) (none : es ≡ [])
          (one two : List Bool) (fs gs : List Run) (a : GrowsByRuns g set (IsLedTo g set old) old one es fs)
          (near : (x : ℕ) → IsIn old x → IsNext g x (x + 1) → IsWithin part (x + 1) → IsIn one (x + 1))
          (b : GrowsByRuns g set (ReachesFrom g (IsIn set) starts) one two fs gs) where
        one_sound : (x : ℕ) → IsIn one x → ReachesFrom g (IsIn set) starts x
        one_sound x h = ⊎_elim (old_sound x) (led_from old old_sound x) (a.cause x h)

        two_sound : (x : ℕ) → IsIn two x → ReachesFrom g (IsIn set) starts x
        two_sound = sound_more one two fs gs one_sound b

        pub two_inside : (x : ℕ) → IsIn two x → IsIn set x
        two_inside x h = from_inside x (two_sound x h)

        -- a point of the run is one of its part
        in_part : (x : ℕ) → IsWithin run x → x < g.points → IsWithin part x
        in_part x w point = (omega (arith, w.0, first), last x w.1 point)

        module _ (begin : (p : ℕ) → Contains starts p → IsWithin part p → IsIn two p) (three : List Bool)
            (hs : List Run)
            (c : GrowsByRuns g set (IsLedTo g set two) two three gs hs)
            (land : (x t : ℕ) → IsIn two x → IsJump g x t → IsWithin part t → IsIn three t) where
          entered : GrowsByRuns g set (ReachesFrom g (IsIn set) starts) old three es hs
          entered = grows_append g set (ReachesFrom g (IsIn set) starts) _ _ _ _ _ _
              (grows_append g set (ReachesFrom g (IsIn set) starts) _ _ _ _ _ _
              (grows_weaker g set (IsLedTo g set old) (ReachesFrom g (IsIn set) starts)
              (led_from old old_sound) _ _ _ _ a) b)
              (grows_weaker g set (IsLedTo g set two) (ReachesFrom g (IsIn set) starts)
              (led_from two two_sound) _ _ _ _ c)

          three_sound : (x : ℕ) → IsIn three x → ReachesFrom g (IsIn set) starts x
          three_sound = sound_more old three es hs old_sound entered

          pub three_inside : (x : ℕ) → IsIn three x → IsIn set x
          three_inside x h = from_inside x (three_sound x h)

          pub three_listed : (x : ℕ) → IsInRuns hs x → IsIn three x
          three_listed x (k, l, low, high) = (entered.listed x (k, omega (arith, ap length none), l, low, high)).0

          pub three_fit : AreRunsOfPoints g hs
          three_fit = entered.fit (λ k h. absurd (omega (arith, ap length none, h)))

          -- and the walks go on
          module _ (four : List Bool) (ks : List Run) (ended : Bool) (s : IsSpread g set three four hs ks ended) where
            whole : GrowsByRuns g set (ReachesFrom g (IsIn set) starts) old four es ks
            whole = grows_append g set (ReachesFrom g (IsIn set) starts) _ _ _ _ _ _ entered
                (grows_weaker g set (IsLedTo g set three) (ReachesFrom g (IsIn set) starts)
                (led_from three three_sound) _ _ _ _ s.grows)

            -- what is reached was followed now, or was there before
            listed_or : (x : ℕ) → IsIn four x → IsInRuns ks x ⊎ IsIn old x
            listed_or x h = ⊎_elim (λ o. inr o) (λ (k, from, l, low, high). inl (k, l, low, high)) (whole.pending x h)

            along_line : (x : ℕ) → IsIn four x → IsNext g x (x + 1) → IsIn set (x + 1)
                → IsIn four (x + 1) ⊎ (IsIn old x × (IsWithin run (x + 1) → ⊥))
            along_line x h next inside = ⊎_elim
                inl
                (λ o. ⊎_elim
                (λ w. inl (s.grows.kept _ (c.kept _
                (b.kept _ (near x o next (in_part (x + 1) w (sound.edges_in_range x (x + 1) next).1))))))
                (λ out. inr (o, outside run (x + 1) out))
                (within_or run (x + 1)))
                (whole.closed x h next inside)

            by_jump : (x y : ℕ) → IsIn four x → IsJump g x y → y < g.points → IsIn set y
                → IsIn four y ⊎ (IsIn old x × (IsWithin run y → ⊥))
            by_jump x y h jump point inside = ⊎_elim
                (λ i. inl ((s.followed x i).0 y jump point inside))
                (λ o. ⊎_elim
                (λ w. inl (s.grows.kept y (land x y (b.kept x (a.kept x o)) jump (in_part y w point))))
                (λ out. inr (o, outside run y out))
                (within_or run y))
                (listed_or x h)

            pub resumes_points : ResumesPoints g set run starts old four es ks ended
            resumes_points = record {
              grows = whole;
              begun = λ p at w. s.grows.kept p (c.kept p (begin p at (in_part p w (points p at))));
              closed = λ x y h next inside. ⊎_elim
                  (λ same. subst (λ z. IsIn four z ⊎ (IsIn old x × (IsWithin run z → ⊥))) (sym same)
                  (along_line x h (subst (IsNext g x) same next) (subst (IsIn set) same inside)))
                  (λ other. by_jump x y h (inl (next, other)) (sound.edges_in_range x y next).1 inside)
                  (cases_eq y (x + 1));
              ends_from = λ e. let w = s.ends_from e in (w.0, w.1, jump_return g sound w.0 w.2);
              ends = λ x h back. ⊎_elim (λ i. inl ((s.followed x i).1 (inr (back, refl)))) inr (listed_or x h);
            }

      -- ---- the whole

      module _ (points_reached : List Bool) (es list : List Run) (ended : Bool)
          (p : ResumesPoints g set run starts old points_reached es list ended) where
        reached_sound : (x : ℕ) → IsIn points_reached x → ReachesFrom g (IsIn set) starts x
        reached_sound = sound_more old points_reached es list old_sound p.grows

        -- where no end can be newly reached, that is all
        pub resumed : ended ≡ false → ((x : ℕ) → IsIn points_reached x → IsReturn g x → run.last < g.points)
            → WalksOn g set run starts old points_reached
        resumed none never = record { kept = p.grows.kept; sound = reached_sound; begun = p.begun; closed = go_on }
          where
            go_on : (y z : ℕ) → IsIn points_reached y → IsStep g y z → IsIn set z
                → IsIn points_reached z ⊎ (IsIn old y × (IsWithin run z → ⊥))
            go_on y z h (inl next) inside = p.closed y z h next inside
            go_on y z h (inr back) inside = grind (arith, false≢true)

        -- else all ends in the set come to it
        pub resumed_ends : (all : List Bool) (n : ℕ) → n ≡ g.points → length set ≡ element_count g
            → (x : ℕ) × IsIn points_reached x × IsReturn g x → FillsFrom n set points_reached all
            → WalksOn g set run starts old all
        resumed_ends all n n_is wide some f = record {
          kept = λ x h. f.kept x (p.grows.kept x h);
          sound = λ x h. ⊎_elim
              (reached_sound x)
              (λ own. let w = reached_sound some.0 some.1 in (
                w.0,
                w.1,
                reaches_more g (IsIn set) w.0 some.0 x w.2
                    (inr (some.2, (omega (arith, own.0, n_is), omega (arith, flag_within set x own.1, wide)))) own.1,
              ))
              (f.cause x h);
          begun = λ x at w. f.kept x (p.begun x at w);
          closed = go_on;
        }
          where
            go_on : (y z : ℕ) → IsIn all y → IsStep g y z → IsIn set z
                → IsIn all z ⊎ (IsIn old y × (IsWithin run z → ⊥))
            go_on y z h (inl next) inside = ⊎_elim
                (λ i. ⊎_elim (λ r. inl (f.kept z r)) inr (p.closed y z i next inside))
                (λ own. absurd (omega (arith, own.0, n_is, (sound.edges_in_range y z next).0)))
                (f.cause y h)
            go_on y z h (inr back) inside = inl (f.filled z (let low = back.1.0 in omega (arith, low, n_is)) inside)

        pub lists_resumed : es ≡ [] → ListsNew old points_reached [] list
        lists_resumed none =
            lists_grown g set (ReachesFrom g (IsIn set) starts) old points_reached list
            (subst (λ xs. GrowsByRuns g set (ReachesFrom g (IsIn set) starts) old points_reached xs list) none p.grows)

        pub lists_resumed_ends : es ≡ [] → (all : List Bool) (n : ℕ) (whole : List Run)
            → FillsFrom n set points_reached all → ListsNew points_reached all list whole → ListsNew old all [] whole
        lists_resumed_ends none all n whole f l =
            lists_append old points_reached all [] list whole p.grows.kept f.kept (lists_resumed none) l

-- ---- the ends of reached runs

-- The steps along lines that lead into the run from what was reached, at numbers below `from`, were
-- followed.
pub record NextOn (g : Graph) (set : List Bool) (part : Run) (old now : List Bool) (before after : List Run)
    (from : ℕ) : Type 0 where
  pub grows : GrowsByRuns g set (IsLedTo g set old) old now before after
  pub low : part.first ≤ from + 1
  pub covers : (x : ℕ) → IsIn old x → IsNext g x (x + 1) → IsWithin part (x + 1) → x < from → IsIn now (x + 1)

module _ (g : Graph) (set : List Bool) (part : Run) (old : List Bool) (before : List Run) where
  -- what is led to from what is reached now was led to from what was reached at first
  led_on : (now : List Bool) (after : List Run) → ((x : ℕ) → IsIn old x → IsIn set x)
      → GrowsByRuns g set (IsLedTo g set old) old now before after → (x : ℕ) → IsLedTo g set now x → IsLedTo g set old x
  led_on now after inside p x w =
      let source : IsLedTo g set old w.0 =
      ⊎_elim (λ o. (w.0, o, reaches_first g (IsIn set) w.0 (inside w.0 o))) (λ led. led) (p.cause w.0 w.1) in
      (source.0, source.1, reaches_append g set source.0 w.0 x source.2 w.2)

  -- what is reached is inside
  pub next_inside : (now : List Bool) (after : List Run) (from : ℕ) → ((x : ℕ) → IsIn old x → IsIn set x)
      → NextOn g set part old now before after from → (x : ℕ) → IsIn now x → IsIn set x
  next_inside now after from inside s x h =
      ⊎_elim (inside x) (λ w. reaches_inside g (IsIn set) w.0 x w.2) (s.grows.cause x h)

  pub next_more : (now new : List Bool) (then after : List Run) (from last : ℕ) → ((x : ℕ) → IsIn old x → IsIn set x)
      → from ≤ last → ((x : ℕ) → from ≤ x → x < last → IsIn now x → IsIn now (x + 1))
      → NextOn g set part old now before then from → GrowsByRuns g set (IsLedTo g set now) now new then after
      → (IsNext g last (last + 1) → IsIn new (last + 1)) → NextOn g set part old new before after (last + 1)
  next_more now new then after from last inside past on s p here = record {
    grows = grows_append g set (IsLedTo g set old) _ _ _ _ _ _ s.grows
        (grows_weaker g set (IsLedTo g set now) (IsLedTo g set old) (led_on now then inside s.grows) _ _ _ _ p);
    low = omega (arith, s.low, past);
    covers = λ x h next w l. ⊎_elim
        (λ early. p.kept (x + 1) (s.covers x h next w early))
        (λ late. ⊎_elim
        (λ same. subst (λ y. IsIn new (y + 1)) (sym same) (here (subst (λ y. IsNext g y (y + 1)) same next)))
        (λ other. p.kept (x + 1) (on x late (omega (arith, l, other)) (s.grows.kept x h)))
        (cases_eq x last))
        (cases_lt x from);
  }

  pub next_end : (now : List Bool) (after : List Run) (from : ℕ)
      → ((x : ℕ) → from ≤ x → x < part.last → IsIn now x → IsIn now (x + 1))
      → NextOn g set part old now before after from
      → (x : ℕ) → IsIn old x → IsNext g x (x + 1) → IsWithin part (x + 1) → IsIn now (x + 1)
  next_end now after from on s x h next w = grind (arith, cases_lt)

-- ---- the points from which walks begin

-- The points of the list from the first number of the run up to `next` are entered.
pub record Beginning (g : Graph) (set : List Bool) (starts : List ℕ) (first : ℕ) (old now : List Bool)
    (before after : List Run) (next : ℕ) : Type 0 where
  pub grows : GrowsByRuns g set (ReachesFrom g (IsIn set) starts) old now before after
  pub low : first ≤ next
  pub covers : (p : ℕ) → Contains starts p → first ≤ p → p < next → IsIn now p

module _ (g : Graph) (set : List Bool) (starts : List ℕ) (first : ℕ) where
  pub beginning_more : (old now new : List Bool) (before then after : List Run) (next start end : ℕ)
      → Contains starts start → next ≤ start → ((x : ℕ) → Contains starts x → next ≤ x → start ≤ x)
      → Beginning g set starts first old now before then next
      → GrowsByRuns g set (Reaches g (IsIn set) start) now new then after → start ≤ end
      → ((x : ℕ) → start ≤ x → x ≤ end → IsIn new x)
      → Beginning g set starts first old new before after (end + 1)
  beginning_more old now new before then after next start end at past least b p order here = record {
    grows = grows_append g set (ReachesFrom g (IsIn set) starts) _ _ _ _ _ _ b.grows
        (grows_weaker g set (Reaches g (IsIn set) start) (ReachesFrom g (IsIn set) starts)
        (λ x way. (start, at, way)) _ _ _ _ p);
    low = omega (arith, b.low, past, order);
    covers = λ q listed low high. ⊎_elim
        (λ front. p.kept q (b.covers q listed low front))
        (λ back. here q (least q listed (omega (arith, back))) (omega (arith, high)))
        (cases_lt q next);
  }

-- ---- the jumps that land in a run

-- what is read past the end of a list of landings
abbrev pub no_landing : Landing
no_landing = record { to = 0; from = 0 }

-- a landing at a place of the list of those in a run is a jump into the run
pub landing_at : (g h : Graph) → h ≡ g → (list : List Landing) (part : Run)
    → ((l : Landing) → Contains list l ↔ (IsJump h l.from l.to × (part.first ≤ l.to) × (l.to ≤ part.last)))
    → (k : ℕ) (d : Landing) → k < length list
    → IsJump g (get_or list k d).from (get_or list k d).to × IsWithin part (get_or list k d).to
landing_at g h same list part each k d within =
    let own = (each (get_or list k d)).0 (k, within, get_or_default list k (get_or list k d) d within) in
    (subst (λ x. IsJump x (get_or list k d).from (get_or list k d).to) same own.0, (own.1, own.2))

-- a jump leaves a point
pub jump_from : (g : Graph) → IsSound g → (x t : ℕ) → IsJump g x t → x < g.points
jump_from g sound x t (inl next) = (sound.edges_in_range x t next.0).0
jump_from g sound x t (inr back) = sound.returns_in_range x back.0

-- The first `count` landings of the list are gone through.
pub record LandingOn (g : Graph) (set : List Bool) (list : List Landing) (old now : List Bool) (before after : List Run)
    (count : ℕ) : Type 0 where
  pub grows : GrowsByRuns g set (IsLedTo g set old) old now before after
  pub covers : (k : ℕ) (d : Landing) → k < count → k < length list → IsIn old (get_or list k d).from
      → IsIn now (get_or list k d).to

module _ (g : Graph) (set : List Bool) (list : List Landing) (old : List Bool) (before : List Run) where
  -- a jump from what isn't reached is passed over
  pub landing_passed : (now : List Bool) (then : List Run) (count : ℕ) (l : Landing)
      → ((d : Landing) → get_or list count d ≡ l) → flag now l.from ≡ false
      → LandingOn g set list old now before then count → LandingOn g set list old now before then (count + 1)
  landing_passed now then count l is out p = record {
    grows = p.grows;
    covers = λ k d lt within from. ⊎_elim
        (λ here. absurd (let same = ap (λ i. get_or list i d) here ∙ is d in
        false≢true (sym out ∙ p.grows.kept l.from (subst (λ (m : Landing). IsIn old m.from) same from))))
        (λ other. p.covers k d (omega (arith, lt, other)) within from)
        (cases_eq k count);
  }

  pub landing_more : ((x : ℕ) → IsIn old x → IsIn set x)
      → (now new : List Bool) (then after : List Run) (count : ℕ) (l : Landing)
      → ((d : Landing) → get_or list count d ≡ l) → IsJump g l.from l.to → l.to < g.points → IsIn set l.to
      → IsIn now l.from
      → LandingOn g set list old now before then count → GrowsByRuns g set (Reaches g
      (IsIn set) l.to) now new then after
      → IsIn new l.to → LandingOn g set list old new before after (count + 1)
  landing_more inside now new then after count l is jump point here from p q there = record {
    grows = grows_append g set (IsLedTo g set old) _ _ _ _ _ _ p.grows
        (grows_weaker g set (Reaches g (IsIn set) l.to) (IsLedTo g set old) (λ x way. led x way) _ _ _ _ q);
    covers = λ k d lt within of. ⊎_elim
        (λ same. subst (λ (m : Landing). IsIn new m.to) (sym (ap (λ i. get_or list i d) same ∙ is d)) there)
        (λ other. q.kept _ (p.covers k d (omega (arith, lt, other)) within of))
        (cases_eq k count);
  }
    where
      led : (x : ℕ) → Reaches g (IsIn set) l.to x → IsLedTo g set old x
      led x way =
          let source : IsLedTo g set old l.from =
          ⊎_elim (λ o. (l.from, o, reaches_first g (IsIn set) l.from (inside l.from o))) (λ w. w)
          (p.grows.cause l.from from) in (
            source.0,
            source.1,
            reaches_append g set source.0 l.to x
                (reaches_more g (IsIn set) source.0 l.from l.to source.2
                (inl (jump_next g l.from l.to jump point)) here)
                way,
          )

  pub landing_end : (now : List Bool) (then : List Run) (count : ℕ) → length list ≤ count
      → LandingOn g set list old now before then count → (l : Landing) → Contains list l → IsIn old l.from
      → IsIn now l.to
  landing_end now then count past p l (k, within, is) from =
      subst (λ (m : Landing). IsIn now m.to) is
      (p.covers k l (omega (arith, within, past)) within (subst (λ (m : Landing). IsIn old m.from) (sym is) from))
