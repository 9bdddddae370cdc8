-- A walk by stretches of lines: what it adds, step after step, and what it has reached at its end.
use Rattle.std.proofs.Common.{◌≡◌, ◌⊎◌, ℕ, ◌+◌, ◌-◌, ◌<◌, ◌≤◌, Bool, true, false, not, cond, min, ◌||◌, List, [], ◌∷◌, ◌++◌, Contains, length, get_or, refl, sym, ap, ◌∙◌, subst, inl, inr, ⊎_elim, arith, zero, suc, length-append}
use Rattle.std.proofs.lemmas.Bool.{cases_lt, cases_eq, false≢true, true≢false}
use Rattle.std.proofs.lemmas.List.Sums.{sum_by-cons}
use Rattle.nll_sets.specs.ElementSet.{flag}
use Rattle.nll_problem.specs.Graph.{Graph, IsNext, IsSound}
use Rattle.nll_problem.specs.Walks.{Reaches}
use Rattle.nll_core.specs.Search.{missing, IsIn}
use Rattle.nll_sets.specs.Runs.{first_of, last_of, IsInRuns, IsInRunsFrom, IsWithin, IsRunFrom, Fills}
use Rattle.nll_sets.proofs.GapLemmas.{front_of, last_there}
use Rattle.nll_core.specs.Lines.{IsJump, IsLineEnd}
use Rattle.nll_core.specs.Walking.{IsLineClosed, IsStretch, IsFreeTo, GrowsByRuns, IsJumpedTo, IsFollowed, IsLedTo, IsSpread, FillsFrom}
use Rattle.nll_sets.specs.declared.run.Run.{Run}
use Rattle.nll_problem.proofs.WalkLemmas.{reaches_first, reaches_more, reaches_starts, reaches_carries}

-- ---- how many are missing

one_more : (xs : List Bool) → missing (false ∷ xs) ≡ missing xs + 1
one_more xs = let e : missing (false ∷ xs) ≡ 1 + missing xs = sum_by-cons (λ x. cond (not x) 1 0) false xs in
    omega (arith, e)

none_more : (xs : List Bool) → missing (true ∷ xs) ≡ missing xs
none_more xs = let e : missing (true ∷ xs) ≡ 0 + missing xs = sum_by-cons (λ x. cond (not x) 1 0) true xs in
    omega (arith, e)

missing_most : (old new : List Bool) → length new ≡ length old → ((x : ℕ) → flag old x ≡ true → flag new x ≡ true)
    → missing new ≤ missing old
missing_most [] [] e kept = omega arith
missing_most [] (b ∷ new) e kept = absurd (omega (arith, e))
missing_most (a ∷ old) [] e kept = absurd (omega (arith, e))
missing_most (true ∷ old) (true ∷ new) e kept =
    omega (arith, none_more old, none_more new, missing_most old new (omega (arith, e)) (λ x h. kept (suc x) h))
missing_most (true ∷ old) (false ∷ new) e kept = absurd (false≢true (kept 0 refl))
missing_most (false ∷ old) (true ∷ new) e kept =
    omega (arith, one_more old, none_more new, missing_most old new (omega (arith, e)) (λ x h. kept (suc x) h))
missing_most (false ∷ old) (false ∷ new) e kept =
    omega (arith, one_more old, one_more new, missing_most old new (omega (arith, e)) (λ x h. kept (suc x) h))

pub missing_less : (old new : List Bool) (x : ℕ) → length new ≡ length old
    → ((x : ℕ) → flag old x ≡ true → flag new x ≡ true) → flag old x ≡ false → flag new x ≡ true
    → missing new < missing old
missing_less [] [] x e kept a b = absurd (false≢true b)
missing_less [] (c ∷ new) x e kept a b = absurd (omega (arith, e))
missing_less (c ∷ old) [] x e kept a b = absurd (omega (arith, e))
missing_less (false ∷ old) (true ∷ new) zero e kept a b =
    omega (arith, one_more old, none_more new, missing_most old new (omega (arith, e)) (λ x h. kept (suc x) h))
missing_less (true ∷ old) (c ∷ new) zero e kept a b = absurd (true≢false a)
missing_less (false ∷ old) (false ∷ new) zero e kept a b = absurd (false≢true b)
missing_less (true ∷ old) (true ∷ new) (suc x) e kept a b =
    omega (arith, none_more old, none_more new, missing_less old new x (omega (arith, e)) (λ x h. kept (suc x) h) a b)
missing_less (true ∷ old) (false ∷ new) (suc x) e kept a b = absurd (false≢true (kept 0 refl))
missing_less (false ∷ old) (true ∷ new) (suc x) e kept a b =
    omega (arith, one_more old, none_more new, missing_less old new x (omega (arith, e)) (λ x h. kept (suc x) h) a b)
missing_less (false ∷ old) (false ∷ new) (suc x) e kept a b =
    omega (arith, one_more old, one_more new, missing_less old new x (omega (arith, e)) (λ x h. kept (suc x) h) a b)

-- where none of a run was there, as many fewer are missing as the run has numbers
pub missing_run : (old new : List Bool) (first count : ℕ) → length new ≡ length old
    → ((x : ℕ) → flag old x ≡ true → flag new x ≡ true)
    → ((x : ℕ) → first ≤ x → x < first + count → flag old x ≡ false)
    → ((x : ℕ) → first ≤ x → x < first + count → flag new x ≡ true)
    → missing new + count ≤ missing old
missing_run old new first zero e kept lacks has = omega (arith, missing_most old new e kept)
missing_run [] [] first (suc n) e kept lacks has = absurd (false≢true (has first (omega arith) (omega arith)))
missing_run [] (c ∷ new) first (suc n) e kept lacks has = absurd (omega (arith, e))
missing_run (c ∷ old) [] first (suc n) e kept lacks has = absurd (omega (arith, e))
missing_run (false ∷ old) (true ∷ new) zero (suc n) e kept lacks has =
    let rest =
    missing_run old new zero n (omega (arith, e)) (λ x h. kept (suc x) h)
    (λ x a b. lacks (suc x) (omega arith) (omega (arith, b)))
    (λ x a b. has (suc x) (omega arith) (omega (arith, b))) in
    omega (arith, one_more old, none_more new, rest)
missing_run (true ∷ old) (c ∷ new) zero (suc n) e kept lacks has =
    absurd (true≢false (lacks 0 (omega arith) (omega arith)))
missing_run (false ∷ old) (false ∷ new) zero (suc n) e kept lacks has =
    absurd (false≢true (has 0 (omega arith) (omega arith)))
missing_run (c ∷ old) (d ∷ new) (suc first) (suc n) e kept lacks has =
    let rest =
    missing_run old new first (suc n) (omega (arith, e)) (λ x h. kept (suc x) h)
    (λ x a b. lacks (suc x) (omega (arith, a)) (omega (arith, b)))
    (λ x a b. has (suc x) (omega (arith, a)) (omega (arith, b))) in
    go c d (kept 0) rest
  where
    go : (c d : Bool) → (c ≡ true → d ≡ true) → missing new + suc n ≤ missing old
        → missing (d ∷ new) + suc n ≤ missing (c ∷ old)
    go true true k r = omega (arith, none_more old, none_more new, r)
    go true false k r = absurd (false≢true (k refl))
    go false true k r = omega (arith, one_more old, none_more new, r)
    go false false k r = omega (arith, one_more old, one_more new, r)

-- ---- the elements of a set from a number on, run by run

module _ (sub : List Bool) where
  -- The elements of `sub` from `from` on and before `to` have been put in.
  pub record Filling (from : ℕ) (old now : List Bool) (to : ℕ) : Type 0 where
    pub width : length now ≡ length old
    pub kept : (x : ℕ) → IsIn old x → IsIn now x
    pub cause : (x : ℕ) → IsIn now x → IsIn old x ⊎ ((from ≤ x) × IsIn sub x)
    pub filled : (x : ℕ) → from ≤ x → x < to → IsIn sub x → IsIn now x
    pub above : from ≤ to

  pub filling_none : (from : ℕ) (old : List Bool) → Filling from old old from
  filling_none from old = grind arith

  pub filling_more : (from : ℕ) (old now new : List Bool) (to first last : ℕ) (run : Run) → Filling from old now to
      → run.first ≡ first → run.last ≡ last → to ≤ first → first ≤ last
      → ((x : ℕ) → first ≤ x → x ≤ last → IsIn sub x) → ((x : ℕ) → to ≤ x → x < first → flag sub x ≡ false)
      → Fills now new run → Filling from old new (last + 1)
  filling_more from old now new to first last run f a b past proper all none p = grind (arith, false≢true, cases_lt)

  pub filling_end : (from : ℕ) (old now : List Bool) (to : ℕ) → Filling from old now to
      → ((x : ℕ) → to ≤ x → flag sub x ≡ false) → FillsFrom from sub old now
  filling_end from old now to f none = grind (arith, false≢true, cases_lt)

-- ---- what is added

module _ (g : Graph) (sub : List Bool) where
  -- along a line a walk leads from its first point to each other
  line_reaches : (p k : ℕ) → ((x : ℕ) → p ≤ x → x ≤ p + k → IsIn sub x)
      → ((x : ℕ) → p ≤ x → x < p + k → IsNext g x (x + 1)) → Reaches g (IsIn sub) p (p + k)
  line_reaches p zero inside line =
      subst (Reaches g (IsIn sub) p) (omega arith) (reaches_first g (IsIn sub) p (inside p (omega arith) (omega arith)))
  line_reaches p (suc k) inside line =
      let before = line_reaches p k (λ x a b. inside x a (omega (arith, b))) (λ x a b. line x a (omega (arith, b))) in
      let same : p + k + 1 ≡ p + suc k = omega arith in
      subst (Reaches g (IsIn sub) p) same
      (reaches_more g (IsIn sub) p (p + k) (p + k + 1) before (inl (line (p + k) (omega arith) (omega arith)))
      (inside (p + k + 1) (omega arith) (omega arith)))

  -- up to where a line, a run of `sub` and what is new go on, there is a stretch
  pub stretch_of : (reached : List Bool) (point e limit last : ℕ) (inside run : Run) → IsLineEnd g point e
      → IsRunFrom sub point inside → inside.first ≤ point → IsFreeTo reached point limit
      → last ≡ min e inside.last → run.first ≡ point → run.last ≡ min last (limit - 1) → g.points < 4294967295
      → IsStretch g sub reached point run
  stretch_of reached point e limit last inside run line from before free last_is first_is end_is few =
      grind (arith, false≢true, cases_lt)

  pub grows_stretch : (old new : List Bool) (before : List Run) (point : ℕ) (run : Run) → IsStretch g sub old point run
      → Fills old new run → GrowsByRuns g sub (Reaches g (IsIn sub) point) old new before (before ++ run ∷ [])
  grows_stretch old new before point run s f =
      let len = length-append before (run ∷ []) in
      let there = last_there before run (length before) refl in
      record {
        width = f.width;
        kept = f.kept;
        cause = λ x h. ⊎_elim inl (λ own.
            let way =
            line_reaches point (x - point) (λ y a b. s.inside y a (omega (arith, b, own.0, own.1, s.first)))
            (λ y a b. s.line y a (omega (arith, b, own.0, own.1, s.first))) in
            inr (subst (Reaches g (IsIn sub) point) (omega (arith, own.0, s.first)) way)) (f.cause x h);
        closed = grind (arith, cases_eq);
        longer = omega (arith, len);
        front = λ k l. front_of before run k l;
        listed = grind (arith, last_there);
        pending = grind arith;
        apart = λ j k x from less l a b. omega (arith, from, less, l, len);
        fit = grind (arith, front_of, last_there, cases_lt);
        count = grind (arith, missing_less);
      }

  module _ (kind : ℕ → Type 0) where
    pub grows_none : (flags : List Bool) (runs : List Run) → GrowsByRuns g sub kind flags flags runs runs
    grows_none flags runs = grind arith

    pub grows_append : (old middle new : List Bool) (xs ys zs : List Run) → GrowsByRuns g sub kind old middle xs ys
        → GrowsByRuns g sub kind middle new ys zs → GrowsByRuns g sub kind old new xs zs
    grows_append old middle new xs ys zs p q = record {
      width = q.width ∙ p.width;
      kept = λ x h. q.kept x (p.kept x h);
      cause = λ x h. ⊎_elim (p.cause x) inr (q.cause x h);
      closed =
          λ x h next in_sub. ⊎_elim inl (λ m. ⊎_elim (λ i. inl (q.kept (x + 1) i)) inr (p.closed x m next in_sub))
          (q.closed x h next in_sub);
      longer = omega (arith, p.longer, q.longer);
      front = λ k l. let a = p.front k l in let b = q.front k (omega (arith, l, p.longer)) in (b.0 ∙ a.0, b.1 ∙ a.1);
      listed = λ x (k, from, l, a, b). ⊎_elim
          (λ mid. let at = q.front k mid in let o = p.listed x
          (k, from, mid, omega (arith, a, at.0), omega (arith, b, at.1)) in (q.kept x o.0, o.1))
          (λ past. let o = q.listed x (k, past, l, a, b) in (o.0, not_before x o.1))
          (cases_lt k (length ys));
      pending = λ x h. ⊎_elim
          (λ m. ⊎_elim inl (λ (k, from, l, a, b). let at = q.front k l in
          inr (k, from, omega (arith, l, q.longer), omega (arith, a, at.0), omega (arith, b, at.1)))
          (p.pending x m))
          (λ (k, from, l, a, b). inr (k, omega (arith, from, p.longer), l, a, b))
          (q.pending x h);
      apart = λ j k x from less l a b. ⊎_elim
          (λ mid. let at = q.front j mid in ⊎_elim
          (λ both. let on = q.front k both in
          p.apart j k x from less both (omega (arith, a.0, at.0), omega (arith, a.1, at.1))
          (omega (arith, b.0, on.0), omega (arith, b.1, on.1)))
          (λ past. false≢true (sym (q.listed x (k, past, l, b.0, b.1)).1
          ∙ (p.listed x (j, from, mid, omega (arith, a.0, at.0), omega (arith, a.1, at.1))).0))
          (cases_lt k (length ys)))
          (λ past. q.apart j k x past less l a b)
          (cases_lt j (length ys));
      fit = λ h. q.fit (p.fit h);
      count = omega (arith, p.count, q.count);
    }
      where
        -- what isn't in the middle one wasn't in the old one
        not_before : (x : ℕ) → flag middle x ≡ false → flag old x ≡ false
        not_before x h = by (flag old x) refl
          where
            by : (b : Bool) → flag old x ≡ b → flag old x ≡ false
            by false is = is
            by true is = absurd (false≢true (sym h ∙ p.kept x is))

  -- what was closed along lines stays so
  pub line_closed : (kind : ℕ → Type 0) (old new : List Bool) (xs ys : List Run) → GrowsByRuns g sub kind old new xs ys
      → IsLineClosed g sub old → IsLineClosed g sub new
  line_closed kind old new xs ys p all x h next in_sub =
      ⊎_elim (λ i. i) (λ o. p.kept (x + 1) (all x o next in_sub)) (p.closed x h next in_sub)

  pub grows_weaker : (kind larger : ℕ → Type 0) → ((x : ℕ) → kind x → larger x)
      → (old new : List Bool) (xs ys : List Run) → GrowsByRuns g sub kind old new xs ys
      → GrowsByRuns g sub larger old new xs ys
  grows_weaker kind larger has old new xs ys p = grind arith

  -- ---- the targets of a run's jumps, one after another

  -- The first `count` targets of the list have been gone through.
  pub record Following (run : Run) (targets : List ℕ) (old new : List Bool) (before after : List Run) (ends : Bool)
      (count : ℕ) : Type 0 where
    pub grows : GrowsByRuns g sub (IsJumpedTo g sub run) old new before after
    pub covers : (k : ℕ) → k < count → get_or targets k 0 < g.points → IsIn sub (get_or targets k 0)
        → IsIn new (get_or targets k 0)
    pub ends_found : ends ≡ true → (k : ℕ) × (k < count) × (k < length targets) × (g.points ≤ get_or targets k 0)
    pub ends_seen : (k : ℕ) → k < count → g.points ≤ get_or targets k 0 → ends ≡ true

  pub following_more : (run : Run) (targets : List ℕ) (old now new : List Bool) (before then after : List Run)
      (ends : Bool) (count t : ℕ) → t ≡ get_or targets count 0 → count < length targets → t < g.points
      → ((x : ℕ) → Contains targets x → (y : ℕ) × IsWithin run y × IsJump g y x)
      → Contains targets t
      → Following run targets old now before then ends count
      → GrowsByRuns g sub (Reaches g (IsIn sub) t) now new then after
      → (IsIn sub t → IsIn new t) → Following run targets old new before after ends (count + 1)
  following_more run targets old now new before then after ends count t is within point each listed f p covers =
      let from = each t listed in
      record {
        grows = grows_append (IsJumpedTo g sub run) _ _ _ _ _ _ f.grows
            (grows_weaker _ (IsJumpedTo g sub run) (λ x way. (from.0, t, from.1, from.2, point, way)) _ _ _ _ p);
        covers = λ k h q s. ⊎_elim
            (λ here. let same : get_or targets k 0 ≡ t = ap (λ i. get_or targets i 0) here ∙ sym is in
            subst (IsIn new) (sym same) (covers (subst (IsIn sub) same s)))
            (λ other. p.kept _ (f.covers k (omega (arith, h, other)) q s))
            (cases_eq k count);
        ends_found = λ h. let w = f.ends_found h in (w.0, omega (arith, w.1), w.2, w.3);
        ends_seen = λ k h q. ⊎_elim
            (λ here. absurd (omega (arith, ap (λ i. get_or targets i 0) here, is, point, q)))
            (λ other. f.ends_seen k (omega (arith, h, other)) q)
            (cases_eq k count);
      }

  pub following_end : (run : Run) (targets : List ℕ) (old now : List Bool) (before then : List Run) (ends : Bool)
      (count t : ℕ) → t ≡ get_or targets count 0 → count < length targets → g.points ≤ t
      → Following run targets old now before then ends count
      → Following run targets old now before then true (count + 1)
  following_end run targets old now before then ends count t is within past f = grind (arith, get_or, cases_eq)

  -- a target that is no point stands for the ends
  pub jump_to_ends : IsSound g → (x t : ℕ) → g.points ≤ t → IsJump g x t → IsJump g x g.points
  jump_to_ends sound x t past (inl next) = absurd (omega (arith, past, (sound.edges_in_range x t next.0).1))
  jump_to_ends sound x t past (inr back) = inr (back.0, refl)

  -- a walk goes on with another one
  pub reaches_append : (a b c : ℕ) → Reaches g (IsIn sub) a b → Reaches g (IsIn sub) b c → Reaches g (IsIn sub) a c
  reaches_append a b c p q =
      reaches_carries g (IsIn sub) b (Reaches g (IsIn sub) a)
      (λ u v h step within. reaches_more g (IsIn sub) a u v h step within) c p q

  -- ---- the list, run by run

  pub record Spreading (start now : List Bool) (listed todo : List Run) (place : ℕ) (ends : Bool) : Type 0 where
    pub grows : GrowsByRuns g sub (IsLedTo g sub start) start now listed todo
    pub ends_from : ends ≡ true → (x : ℕ) × IsIn now x × IsJump g x g.points
    pub pending : (x : ℕ) → IsInRuns todo x
        → IsInRunsFrom place todo x ⊎ (IsFollowed g sub now x × (IsJump g x g.points → ends ≡ true))
    pub within : place ≤ length todo

  -- each number of the list is reached
  pub listed_in : (kind : ℕ → Type 0) (start now : List Bool) (listed todo : List Run)
      → GrowsByRuns g sub kind start now listed todo → ((x : ℕ) → IsInRuns listed x → IsIn start x) → (x : ℕ)
      → IsInRuns todo x → IsIn now x
  listed_in kind start now listed todo p all x (k, l, a, b) = grind (arith, cases_lt)

  pub spreading_first : (start : List Bool) (listed : List Run) → Spreading start start listed listed 0 false
  spreading_first start listed = grind (arith, grows_none, false≢true)

  or_left : (a b : Bool) → a ≡ true → (a || b) ≡ true
  or_left true b h = refl
  or_left false b h = absurd (false≢true h)

  or_right : (a b : Bool) → b ≡ true → (a || b) ≡ true
  or_right true b h = refl
  or_right false b h = h

  either : (a b : Bool) → (a || b) ≡ true → (a ≡ true) ⊎ (b ≡ true)
  either true b h = inl refl
  either false b h = inr h

  pub spreading_more : (start now new : List Bool) (listed todo after : List Run) (place : ℕ) (run : Run)
      (ends found : Bool)
      → run.first ≡ first_of todo place → run.last ≡ last_of todo place → place < length todo
      → ((x : ℕ) → IsInRuns listed x → IsIn start x)
      → Spreading start now listed todo place ends → GrowsByRuns g sub (IsJumpedTo g sub run) now new todo after
      → ((x : ℕ) → IsWithin run x → IsFollowed g sub new x)
      → ((found ≡ true → (x : ℕ) × IsWithin run x × IsJump g x g.points)
      × (((x : ℕ) × IsWithin run x × IsJump g x g.points) → found ≡ true))
      → ((x : ℕ) → IsIn start x → IsIn sub x) → Spreading start new listed after (place + 1) (ends || found)
  spreading_more start now new listed todo after place run ends found first last within all s p covers tells inside =
      let of_run : (x : ℕ) → IsWithin run x
      → IsIn now x =
      λ x w. listed_in (IsLedTo g sub start) start now listed todo s.grows all x
      (place, within, omega (arith, w.0, first), omega (arith, w.1, last)) in
      let sound : (x : ℕ) → IsIn now x → IsLedTo g sub start x =
      λ x h. ⊎_elim (λ o. (x, o, reaches_first g (IsIn sub) x (inside x o))) (λ way. way) (s.grows.cause x h) in
      record {
        grows = grows_append (IsLedTo g sub start) _ _ _ _ _ _ s.grows
            (grows_weaker (IsJumpedTo g sub run) (IsLedTo g sub start)
            (λ x (y, t, w, jump, point, way). led x y t (sound y (of_run y w)) jump point way) _ _ _ _ p);
        within = omega (arith, within, p.longer);
        pending = λ x (n, m, u, v). ⊎_elim
            (λ (early : n < length todo). ⊎_elim
            (λ (k, from, l, a, b). ⊎_elim
            (λ here.
            let w : IsWithin run x =
            (omega (arith, a, first, ap (first_of todo) here), omega (arith, b, last, ap (last_of todo) here)) in
            inr (covers x w, λ jump. or_right ends found (tells.1 (x, w, jump))))
            (λ other. let at = p.front k l in inl (
              k,
              omega (arith, from, other),
              omega (arith, l, p.longer),
              omega (arith, a, at.0),
              omega (arith, b, at.1),
            ))
            (cases_eq k place))
            (λ d. inr (
              λ t jump point in_sub. p.kept t (d.0 t jump point in_sub),
              λ jump. or_left ends found (d.1 jump),
            ))
            (let at = p.front n early in s.pending x (n, early, omega (arith, u, at.0), omega (arith, v, at.1))))
            (λ late. inl (n, omega (arith, late, within), m, u, v))
            (cases_lt n (length todo));
        ends_from =
            λ h. ⊎_elim (λ e. let w = s.ends_from e in (w.0, p.kept w.0 w.1, w.2))
            (λ e. let w = tells.0 e in (w.0, p.kept w.0 (of_run w.0 w.1), w.2)) (either ends found h);
      }
    where
      led : (x y t : ℕ) → IsLedTo g sub start y → IsJump g y t → t < g.points → Reaches g (IsIn sub) t x
          → IsLedTo g sub start x
      led x y t from (inl next) point way = (
        from.0,
        from.1,
        reaches_append from.0 t x
            (reaches_more g (IsIn sub) from.0 y t from.2 (inl next.0) (reaches_starts g (IsIn sub) t x way)) way,
      )
      led x y t from (inr back) point way = absurd (omega (arith, back.1, point))

  pub spread_end : (start now : List Bool) (listed todo : List Run) (place : ℕ) (ends : Bool) → length todo ≤ place
      → Spreading start now listed todo place ends → IsSpread g sub start now listed todo ends
  spread_end start now listed todo place ends past s = record {
    grows = s.grows;
    ends_from = s.ends_from;
    followed = λ x h. ⊎_elim (λ (k, from, l, a, b). absurd (omega (arith, from, l, past))) (λ d. d) (s.pending x h);
  }
