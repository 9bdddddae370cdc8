-- Points in lists, one list a variable.
use Rattle.std.proofs.Common.{◌≡◌, ◌⊎◌, ◌↔◌, ℕ, ◌+◌, ◌<◌, ◌≤◌, List, [], ◌∷◌, ◌++◌, AllPairs, Contains, length, get_or, replicate, take, Some, None, slice_get, inl, inr, refl, sym, ap, ◌∙◌, subst, ⊎_elim, arith}
use Rattle.std.proofs.lemmas.Bool.{cases_lt, cases_eq}
use Rattle.std.proofs.lemmas.List.{length-replicate, get_or-replicate, get_or-set_same, get_or-set_other, get_or_past, length-set, take_more}
use Rattle.std.proofs.lemmas.List.Elements.{Contains-get_or, Contains-push, Contains-push_cases, Contains-append_left}
use Rattle.std.proofs.lemmas.List.Quantifiers.{all_pairs_push}
use Rattle.std.proofs.lemmas.Option.{slice_get_cases, slice_get_within}
use Rattle.nll_problem.specs.Rows.{row_at, with_item}
use Rattle.nll_types.specs.Types.{TypeTree}
use Rattle.nll_body.specs.Statements.{Statement}
use Rattle.nll_body.specs.Effects.{variables_used, defined, dropped}
use Rattle.nll_body.specs.Bodies.{BodyText, StandsAt}
use Rattle.nll_live.specs.Live.{UsesAt, DropsAt, DefinesAt}
use Rattle.nll_live.specs.Gathering.{IsListed, Lists, AreListed, AscendBelow}
use Rattle.nll_live.specs.Lows.{AreDefined}

pub contains_none : {X : Type 0} (x : X) → Contains [] x → ⊥
contains_none x h = absurd (omega (arith, h.1))

-- ---- one point more

-- a point is put into one list
pub lists_one : (old : List (List ℕ)) (x p : ℕ) → x < length old → Lists (λ y. y ≡ x) p old (with_item old x p)
lists_one old x p within = record {
  counted = length-set old x (row_at old x ++ p ∷ []);
  each = λ y q h. ⊎_elim
      (λ is. subst (λ z. IsListed (with_item old x p) z q ↔ (IsListed old z q ⊎ ((z ≡ x) × (q ≡ p)))) (sym is) (here q))
      (λ isnt. (
        λ listed. inl (subst (λ row. Contains row q)
            (get_or-set_other old x y (row_at old x ++ p ∷ []) [] isnt) listed),
        ⊎_elim (λ listed. subst (λ row. Contains row q)
            (sym (get_or-set_other old x y (row_at old x ++ p ∷ []) [] isnt)) listed) (λ now. absurd (isnt now.0)),
      ))
      (cases_eq y x);
}
  where
    at : row_at (with_item old x p) x ≡ row_at old x ++ p ∷ []
    at = get_or-set_same old x (row_at old x ++ p ∷ []) [] within

    here : (q : ℕ) → IsListed (with_item old x p) x q ↔ (IsListed old x q ⊎ ((x ≡ x) × (q ≡ p)))
    here q = (
      λ listed. ⊎_elim inl (λ is. inr (refl, sym is))
          (Contains-push_cases (row_at old x) p q (subst (λ row. Contains row q) at listed)),
      λ h. subst (λ row. Contains row q) (sym at) (⊎_elim
          (λ listed. Contains-append_left (row_at old x) (p ∷ []) q listed)
          (λ now. subst (Contains (row_at old x ++ p ∷ [])) (sym now.1) (Contains-push (row_at old x) p))
          h),
    )

-- there is no list for a variable of this kind
pub lists_none : (kind : ℕ → Type 0) (p : ℕ) (lists : List (List ℕ)) → ((x : ℕ) → x < length lists → kind x → ⊥)
    → Lists kind p lists lists
lists_none kind p lists empty = record {
  counted = refl;
  each = λ x q h. (inl, ⊎_elim (λ listed. listed) (λ now. absurd (empty x h now.0)));
}

-- some variables, and then others
pub lists_append : (a b : ℕ → Type 0) (p : ℕ) (old mid new : List (List ℕ)) → Lists a p old mid → Lists b p mid new
    → Lists (λ x. a x ⊎ b x) p old new
lists_append a b p old mid new f g = record {
  counted = g.counted ∙ f.counted;
  each = λ x q h.
      let within : x < length mid = omega (arith, h, g.counted) in (
        λ listed. ⊎_elim
            (λ before. ⊎_elim inl (λ now. inr (inl now.0, now.1)) ((f.each x q within).0 before))
            (λ now. inr (inr now.0, now.1))
            ((g.each x q h).0 listed),
        ⊎_elim
            (λ listed. (g.each x q h).1 (inl ((f.each x q within).1 (inl listed))))
            (λ now. ⊎_elim
            (λ first. (g.each x q h).1 (inl ((f.each x q within).1 (inr (first, now.1)))))
            (λ second. (g.each x q h).1 (inr (second, now.1)))
            now.0),
      );
}

-- the same variables, said otherwise
pub lists_as : (a b : ℕ → Type 0) (p : ℕ) (old new : List (List ℕ)) → ((x : ℕ) → a x ↔ b x) → Lists a p old new
    → Lists b p old new
lists_as a b p old new same f = record {
  counted = f.counted;
  each = λ x q h. (
    λ listed. ⊎_elim inl (λ now. inr ((same x).0 now.0, now.1)) ((f.each x q h).0 listed),
    λ now. (f.each x q h).1 (⊎_elim inl (λ k. inr ((same x).1 k.0, k.1)) now),
  );
}

pub lists_step : (variables : List ℕ) (k p : ℕ) (old mid new : List (List ℕ)) → k < length variables
    → Lists (Contains (take k variables)) p old mid → Lists (λ x. x ≡ get_or variables k 0) p mid new
    → Lists (Contains (take (k + 1) variables)) p old new
lists_step variables k p old mid new within f g =
    let more = take_more variables k 0 within in
    lists_as (λ x. Contains (take k variables) x ⊎ (x ≡ get_or variables k 0))
    (Contains (take (k + 1) variables)) p old new
    (λ x. (
      λ h. subst (λ xs. Contains xs x) (sym more) (⊎_elim
          (λ there. Contains-append_left (take k variables) (get_or variables k 0 ∷ []) x there)
          (λ is. subst (Contains (take k variables ++ get_or variables k 0 ∷ [])) (sym is)
          (Contains-push (take k variables) (get_or variables k 0)))
          h),
      λ h. ⊎_elim inl (λ is. inr (sym is))
          (Contains-push_cases (take k variables) (get_or variables k 0) x (subst (λ xs. Contains xs x) more h)),
    ))
    (lists_append (Contains (take k variables)) (λ x. x ≡ get_or variables k 0) p old mid new f g)

-- ---- what stands at the point

-- something stands at each point
pub something_stands : (body : BodyText) (p : ℕ) → p < length body.points
    → (i : Statement ℕ TypeTree) × StandsAt body p i
something_stands body p within = by (slice_get_cases body.points p).1
  where
    by : ((i : Statement ℕ TypeTree) × (p < length body.points) × (slice_get body.points p ≡ Some i)
        × (get_or body.points p i ≡ i)) ⊎ ((length body.points ≤ p) × (slice_get body.points p ≡ None))
        → (i : Statement ℕ TypeTree) × StandsAt body p i
    by (inl h) = (h.0, h.2)
    by (inr h) = absurd (omega (arith, h.0))

module _ (body : BodyText) (p : ℕ) (within : p < length body.points) where
  -- the variables that it uses
  pub uses_are : (used : List ℕ) → ((i : Statement ℕ TypeTree) → StandsAt body p i → used ≡ variables_used i) → (x : ℕ)
      → Contains used x ↔ UsesAt body x p
  uses_are used is x = (
    λ h. let here = something_stands body p within in
        (here.0, here.1, subst (λ xs. Contains xs x) (is here.0 here.1) h),
    λ h. subst (λ xs. Contains xs x) (sym (is h.0 h.1)) h.2,
  )

  -- the variable that it drops
  pub drop_is : (y : ℕ) → ((i : Statement ℕ TypeTree) → StandsAt body p i → Some y ≡ dropped i) → (x : ℕ)
      → (x ≡ y) ↔ DropsAt body x p
  drop_is y is x = (
    λ h. let here = something_stands body p within in (here.0, here.1, sym (is here.0 here.1) ∙ ap Some (sym h)),
    λ h. some_same x y (sym h.2 ∙ sym (is h.0 h.1)),
  )
    where
      some_same : (a b : ℕ) → Some a ≡ Some b → a ≡ b
      some_same a b e = cc

  -- or none
  pub no_drop : ((i : Statement ℕ TypeTree) → StandsAt body p i → None ≡ dropped i) → (x : ℕ) → DropsAt body x p → ⊥
  no_drop is x h = none_some x (is h.0 h.1 ∙ h.2)
    where
      none_some : (a : ℕ) → None ≡ Some a → ⊥
      none_some a e = cc

  -- the variable that it defines
  pub definition_is : (y : ℕ) → ((i : Statement ℕ TypeTree) → StandsAt body p i → Some y ≡ defined i) → (x : ℕ)
      → (y ≡ x) ↔ DefinesAt body x p
  definition_is y is x = (
    λ h. let here = something_stands body p within in (here.0, here.1, sym (is here.0 here.1) ∙ ap Some h),
    λ h. some_same y x (is h.0 h.1 ∙ h.2),
  )
    where
      some_same : (a b : ℕ) → Some a ≡ Some b → a ≡ b
      some_same a b e = cc

  -- or none
  pub no_definition : ((i : Statement ℕ TypeTree) → StandsAt body p i → None ≡ defined i) → (x : ℕ) → DefinesAt body x p
      → ⊥
  no_definition is x h = none_some x (is h.0 h.1 ∙ h.2)
    where
      none_some : (a : ℕ) → None ≡ Some a → ⊥
      none_some a e = cc

-- ---- all points

-- no point yet
pub listed_first : (count : ℕ) (holds : ℕ → ℕ → Type 0) → AreListed count holds 0 (replicate count [])
listed_first count holds = record {
  counted = length-replicate count [];
  each = λ x p h. (
    λ listed. absurd (contains_none p (subst (λ row. Contains row p) (get_or-replicate count x [] [] h) listed)),
    λ now. absurd (omega (arith, now.1)),
  );
}

-- one point more
pub listed_step : (count : ℕ) (holds : ℕ → ℕ → Type 0) (n : ℕ) (old new : List (List ℕ)) → AreListed count holds n old
    → Lists (λ x. holds x n) n old new → AreListed count holds (n + 1) new
listed_step count holds n old new f g = record {
  counted = g.counted ∙ f.counted;
  each = λ x p h.
      let within : x < length new = omega (arith, h, g.counted, f.counted) in (
        λ listed. ⊎_elim
            (λ before. let was = (f.each x p h).0 before in (was.0, omega (arith, was.1)))
            (λ now. (subst (holds x) (sym now.1) now.0, omega (arith, now.1)))
            ((g.each x p within).0 listed),
        λ h2. (g.each x p within).1 (⊎_elim
            (λ low. inl ((f.each x p h).1 (h2.0, low)))
            (λ high. let same : p ≡ n = omega (arith, high, h2.1) in inr (subst (holds x) same h2.0, same))
            (cases_lt p n)),
      );
}

-- ---- order

none_ascends : AllPairs ◌<◌ []
none_ascends i j d low within = absurd (omega (arith, within))

-- no point is listed yet
pub ascend_first : (count : ℕ) → AscendBelow 0 (replicate count [])
ascend_first count x = ⊎_elim
    (λ low. here (get_or-replicate count x [] [] low))
    (λ high. here (get_or_past (replicate count []) x [] (omega (arith, high, length-replicate {A = List ℕ} count []))))
    (cases_lt x count)
  where
    here : row_at {X = ℕ} (replicate count []) x ≡ []
        → AllPairs ◌<◌ (row_at (replicate count []) x) × ((p : ℕ) → IsListed (replicate count []) x p → p < 0)
    here none = (
      subst (AllPairs ◌<◌) (sym none) none_ascends,
      λ p h. absurd (contains_none p (subst (λ row. Contains row p) none h)),
    )

-- lists that have points below one have points below a later one
pub ascend_later : (m n : ℕ) (lists : List (List ℕ)) → m ≤ n → AscendBelow m lists → AscendBelow n lists
ascend_later m n lists more h x = ((h x).0, λ p c. omega (arith, more, (h x).1 p c))

-- a point that comes later is put into one list
pub ascend_one : (lists : List (List ℕ)) (x p : ℕ) → x < length lists → AscendBelow p lists
    → AscendBelow (p + 1) (with_item lists x p)
ascend_one lists x p within h y = ⊎_elim
    (λ is. subst (λ z. AllPairs ◌<◌ (row_at (with_item lists x p) z)
    × ((q : ℕ) → IsListed (with_item lists x p) z q → q < p + 1)) (sym is) here)
    (λ isnt.
    let same : row_at (with_item lists x p) y ≡ row_at lists y =
    get_or-set_other lists x y (row_at lists x ++ p ∷ []) [] isnt in
    (subst (AllPairs ◌<◌) (sym same) (h y).0, λ q c. omega (arith, (h y).1 q (subst (λ row. Contains row q) same c))))
    (cases_eq y x)
  where
    at : row_at (with_item lists x p) x ≡ row_at lists x ++ p ∷ []
    at = get_or-set_same lists x (row_at lists x ++ p ∷ []) [] within

    here : AllPairs ◌<◌ (row_at (with_item lists x p) x) × ((q : ℕ) → IsListed (with_item lists x p) x q → q < p + 1)
    here = (
      subst (AllPairs ◌<◌) (sym at) (all_pairs_push ◌<◌ (row_at lists x) p (h x).0
          (λ k d low. (h x).1 (get_or (row_at lists x) k d) (Contains-get_or (row_at lists x) k d low))),
      λ q c. ⊎_elim
          (λ there. omega (arith, (h x).1 q there))
          (λ is. omega (arith, is))
          (Contains-push_cases (row_at lists x) p q (subst (λ row. Contains row q) at c)),
    )

-- all points are listed, so the lists are of the definitions
pub definitions_listed : (body : BodyText) (n : ℕ) (lists : List (List ℕ)) → length body.points ≤ n
    → AreListed (length body.variables) (DefinesAt body) n lists → AscendBelow n lists → AreDefined body lists
definitions_listed body n lists all listed ascending = record {
  counted = listed.counted;
  each = λ x h. record {
    each = λ p. (
      λ c. ((listed.each x p (omega (arith, h, listed.counted))).0 c).0,
      λ d. (listed.each x p (omega (arith, h, listed.counted))).1
          (d, omega (arith, all, slice_get_within body.points p d.0 d.1)),
    );
    ascending = (ascending x).0;
  };
}
