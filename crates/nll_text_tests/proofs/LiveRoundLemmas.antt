-- What rounds over all points flag.
use Rattle.std.proofs.Common.{◌≡◌, ◌↔◌, ℕ, ◌+◌, ◌<◌, ◌≤◌, Bool, true, false, cond, not, ◌||◌, List, length, set, refl, sym, ap, ◌∙◌, subst, ⊎_elim, arith}
use Rattle.std.proofs.lemmas.Bool.{cases_lt, cases_eq, false≢true, true≢false}
use Rattle.std.proofs.lemmas.List.{get_or_past, get_or-set_same, get_or-set_other, length-set}
use Rattle.std.proofs.lemmas.Option.{slice_get_within}
use Rattle.nll_sets.specs.ElementSet.{flag}
use Rattle.std.proofs.lemmas.List.Sums.{sum_by-set}
use Rattle.nll_body.specs.Bodies.{BodyText}
use Rattle.nll_live.specs.Live.{GoesOnUndefined, IsLive}
use Rattle.nll_live.proofs.WalkLemmas.{live_end, live_before, live_inside}
use Rattle.nll_text_tests.specs.LiveRounds.{Flags, IsNew, unflagged}

module _ (body : BodyText) (x : ℕ) where
  -- walks to points from which walks lead on
  live_through : (ends far : ℕ → Type 0) → ((q : ℕ) → ends q → IsLive body far x q) → (p : ℕ) → IsLive body ends x p
      → IsLive body far x p
  live_through ends far first =
      live_inside body ends x (IsLive body far x) first (λ p q l step. live_before body far x p q step l)

  pub flags_none : (flags : List Bool) → Flags body x flags flags
  flags_none flags = record {
    width = refl;
    kept = λ p h. h;
    led = λ p h. live_end body (λ q. flag flags q ≡ true) x p h;
  }

  pub flags_append : (old mid new : List Bool) → Flags body x old mid → Flags body x mid new → Flags body x old new
  flags_append old mid new f g = record {
    width = g.width ∙ f.width;
    kept = λ p h. g.kept p (f.kept p h);
    led = λ p h. live_through (λ q. flag mid q ≡ true) (λ q. flag old q ≡ true) f.led p (g.led p h);
  }

  -- one point is flagged
  pub flags_one : (old : List Bool) (p q : ℕ) → flag old q ≡ true → GoesOnUndefined body x p q → p < length old
      → Flags body x old (set old p true)
  flags_one old p q on step within = record {
    width = length-set old p true;
    kept = λ r h. ⊎_elim
        (λ is. subst (λ k. flag (set old p true) k ≡ true) (sym is) (get_or-set_same old p true false within))
        (λ isnt. get_or-set_other old p r true false isnt ∙ h)
        (cases_eq r p);
    led = λ r h. ⊎_elim
        (λ is. subst (IsLive body (λ k. flag old k ≡ true) x) (sym is)
        (live_before body (λ k. flag old k ≡ true) x p q step (live_end body (λ k. flag old k ≡ true) x q on)))
        (λ isnt. live_end body (λ k. flag old k ≡ true) x r (sym (get_or-set_other old p r true false isnt) ∙ h))
        (cases_eq r p);
  }

  -- a point that goes on to a flagged one is flagged, or new
  pub flagged_or_new : (flags : List Bool) (p : ℕ) → (IsNew body x flags p → ⊥) → (q : ℕ) → flag flags q ≡ true
      → GoesOnUndefined body x p q → flag flags p ≡ true
  flagged_or_new flags p old q on step = by_flag (flag flags p) refl
    where
      by_flag : (b : Bool) → flag flags p ≡ b → flag flags p ≡ true
      by_flag true is = is
      by_flag false is = absurd (old (is, (q, on, step)))

  -- How far a round has come.
  pub record Rounding (first now : List Bool) (changed : Bool) (count : ℕ) : Type 0 where
    pub flags : Flags body x first now
    pub same : changed ≡ false → now ≡ first
    pub fewer : changed ≡ true → unflagged now < unflagged first
    pub closed : changed ≡ false → (p q : ℕ) → p < count → flag first q ≡ true → GoesOnUndefined body x p q
        → flag first p ≡ true

  pub rounding_first : (flags : List Bool) → Rounding flags flags false 0
  rounding_first flags = record {
    flags = flags_none flags;
    same = λ h. refl;
    fewer = λ h. absurd (false≢true h);
    closed = λ h p q low. absurd (omega (arith, low));
  }

  neither : (a b : Bool) → (a || b) ≡ false → (a ≡ false) × (b ≡ false)
  neither true b h = absurd (true≢false h)
  neither false b h = (refl, h)

  fewer_more : (a b : Bool) (first now next : List Bool) → (a ≡ false → now ≡ first) → (b ≡ false → next ≡ now)
      → (a ≡ true → unflagged now < unflagged first) → (b ≡ true → unflagged next < unflagged now) → (a || b) ≡ true
      → unflagged next < unflagged first
  fewer_more true true first now next f g m n h = omega (arith, m refl, n refl)
  fewer_more true false first now next f g m n h = subst (λ z. unflagged z < unflagged first) (sym (g refl)) (m refl)
  fewer_more false true first now next f g m n h = subst (λ z. unflagged next < unflagged z) (f refl) (n refl)
  fewer_more false false first now next f g m n h = absurd (false≢true h)

  pub rounding_more : (first now next : List Bool) (changed new : Bool) (count : ℕ) → Rounding first now changed count
      → Flags body x now next → (new ≡ false → next ≡ now) → (new ≡ true → unflagged next < unflagged now)
      → (new ≡ false → (q : ℕ) → flag now q ≡ true → GoesOnUndefined body x count q → flag now count ≡ true)
      → Rounding first next (changed || new) (count + 1)
  rounding_more first now next changed new count r f same fewer closed = record {
    flags = flags_append first now next r.flags f;
    same = λ h. let both = neither changed new h in same both.1 ∙ r.same both.0;
    fewer = fewer_more changed new first now next r.same same r.fewer fewer;
    closed = λ h p q low on step.
        let both = neither changed new h in
        let here : now ≡ first = r.same both.0 in
        ⊎_elim
        (λ at. subst (λ z. flag z p ≡ true) here
        (subst (λ k. flag now k ≡ true) (sym at)
        (closed both.1 q (subst (λ z. flag z q ≡ true) (sym here) on)
        (subst (λ k. GoesOnUndefined body x k q) at step))))
        (λ other. r.closed both.0 p q (omega (arith, low, other)) on step)
        (cases_eq p count);
  }

  pub rounding_closed : (first now : List Bool) (changed : Bool) (count : ℕ) → length body.points ≤ count
      → Rounding first now changed count → changed ≡ false → (p q : ℕ) → flag first q ≡ true
      → GoesOnUndefined body x p q → flag first p ≡ true
  rounding_closed first now changed count all r h p q on step =
      r.closed h p q (omega (arith, all, slice_get_within body.points p step.1.0 step.1.1)) on step

  -- what a round doesn't change has each point from which a walk leads to one of the first
  pub rounds_exact : (ends flags : List Bool) → Flags body x ends flags
      → ((p q : ℕ) → flag flags q ≡ true → GoesOnUndefined body x p q → flag flags p ≡ true) → (p : ℕ)
      → (flag flags p ≡ true) ↔ IsLive body (λ q. flag ends q ≡ true) x p
  rounds_exact ends flags f closed p = (
    f.led p,
    live_inside body (λ q. flag ends q ≡ true) x (λ k. flag flags k ≡ true) f.kept
        (λ r q on step. closed r q on step) p,
  )

-- one where there is no flag
abbrev one_if_not : Bool → ℕ
one_if_not b = cond (not b) 1 0

-- one flag more is one less that isn't
pub unflagged_one : (flags : List Bool) (p : ℕ) → p < length flags → flag flags p ≡ false
    → unflagged (set flags p true) < unflagged flags
unflagged_one flags p within off =
    let step = sum_by-set one_if_not flags p true false within in
    let was = ap (λ b. one_if_not b) off in
    omega (arith, step, was)

-- what is flagged is in range
pub flag_within : (flags : List Bool) (p : ℕ) → flag flags p ≡ true → p < length flags
flag_within flags p on =
    ⊎_elim (λ low. low) (λ past. absurd (false≢true (sym (get_or_past flags p false past) ∙ on)))
    (cases_lt p (length flags))
