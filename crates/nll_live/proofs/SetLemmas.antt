-- Sets of points, one a variable.
use Rattle.std.proofs.Common.{◌≡◌, ◌↔◌, ℕ, ◌+◌, ◌<◌, ◌≤◌, Bool, true, false, List, [], ◌∷◌, ◌++◌, Contains, length, get_or, replicate, take, Result, Ok, Err, sym, ap, ◌∙◌, subst, ⊎_elim, arith, length-append}
use Rattle.std.specs.Prelude.{slice_index_or, IfOk}
use Rattle.std.proofs.lemmas.Bool.{cases_lt, false≢true}
use Rattle.std.proofs.lemmas.List.{length-replicate, get_or-replicate, get_or_append_left, get_or_push, get_or_past, take_more}
use Rattle.std.proofs.lemmas.List.Elements.{Contains-push, Contains-push_cases, Contains-append_left}
use Rattle.nll_sets.specs.ElementSet.{flag}
use Rattle.nll_sets.specs.Runs.{Fills}
use Rattle.nll_sets.specs.declared.run.Run.{Run}
use Rattle.nll_live.specs.LiveSets.{IsInSet}
use Rattle.nll_live.specs.Marks.{IsUnderMark}
use Rattle.nll_live.proofs.GatheringLemmas.{contains_none}

-- what holds of a value, where there is one, is of any larger kind
pub if_ok : {T E : Type 0} (r : Result T E) (P Q : T → Type 0) → ((x : T) → P x → Q x) → IfOk r P → IfOk r Q
if_ok (Ok x) P Q f h = f x h
if_ok (Err e) P Q f h = tt

-- ---- the set of a list

-- The set has what the first n of the points cover.
pub record Covers (heights lows : List ℕ) (n width : ℕ) (flags : List Bool) : Type 0 where
  pub wide : length flags ≡ width
  pub each : (p : ℕ) → (flag flags p ≡ true) ↔ IsUnderMark heights (take n lows) p

pub covers_first : (heights lows : List ℕ) (width : ℕ) → Covers heights lows 0 width (replicate width false)
covers_first heights lows width = record {
  wide = length-replicate width false;
  each = λ p. (λ h. absurd (none_in p h), λ h. absurd (contains_none h.0 h.1));
}
  where
    none_in : (p : ℕ) → flag (replicate width false) p ≡ true → ⊥
    none_in p h = ⊎_elim
        (λ low. false≢true (sym (get_or-replicate width p false false low) ∙ h))
        (λ high. false≢true (sym (get_or_past (replicate width false) p false
        (omega (arith, high, length-replicate width false))) ∙ h))
        (cases_lt p width)

pub covers_step : (heights lows : List ℕ) (n width : ℕ) (old new : List Bool) (run : Run) → n < length lows
    → run.first ≡ get_or lows n 0 → run.last ≡ get_or heights (get_or lows n 0) 0 → Covers heights lows n width old
    → Fills old new run → Covers heights lows (n + 1) width new
covers_step heights lows n width old new run within first last h f =
    let e = get_or lows n 0 in
    let more = take_more lows n 0 within in
    record {
      wide = f.width ∙ h.wide;
      each = λ p. (
        λ on. ⊎_elim
            (λ was. let c = (h.each p).0 was in (
              c.0,
              subst (λ xs. Contains xs c.0) (sym more) (Contains-append_left (take n lows) (e ∷ []) c.0 c.1),
              c.2,
              c.3,
            ))
            (λ now. (
              e,
              subst (λ xs. Contains xs e) (sym more) (Contains-push (take n lows) e),
              omega (arith, first, now.0),
              omega (arith, last, now.1),
            ))
            (f.cause p on),
        λ c. ⊎_elim
            (λ there. f.kept p ((h.each p).1 (c.0, there, c.2, c.3)))
            (λ is. f.filled p (omega (arith, first, is, c.2))
            (omega (arith, last, subst (λ k. p ≤ get_or heights k 0) (sym is) c.3)))
            (Contains-push_cases (take n lows) e c.0 (subst (λ xs. Contains xs c.0) more c.1)),
      );
    }

-- ---- one set a variable

-- The first sets are there.
pub record AreSetsUpTo (width : ℕ) (holds : ℕ → ℕ → Type 0) (n : ℕ) (sets : List (List Bool)) : Type 0 where
  pub counted : length sets ≡ n
  pub wide : (x : ℕ) → x < n → length (slice_index_or sets x []) ≡ width
  pub each : (x p : ℕ) → x < n → IsInSet sets x p ↔ holds x p

pub sets_step : (width : ℕ) (holds : ℕ → ℕ → Type 0) (n : ℕ) (sets : List (List Bool)) (new : List Bool)
    → AreSetsUpTo width holds n sets → length new ≡ width → ((p : ℕ) → (flag new p ≡ true) ↔ holds n p)
    → AreSetsUpTo width holds (n + 1) (sets ++ new ∷ [])
sets_step width holds n sets new are size is = record {
  counted = length-append sets (new ∷ []) ∙ ap (λ k. k + 1) are.counted;
  wide = λ x h. ⊎_elim
      (λ low. ap length (get_or_append_left sets (new ∷ []) [] x (omega (arith, low, are.counted))) ∙ are.wide x low)
      (λ high. ap length (get_or_push sets new [] x (omega (arith, high, h, are.counted))) ∙ size)
      (cases_lt x n);
  each = λ x p h. ⊎_elim
      (λ low. subst (λ s. (flag s p ≡ true) ↔ holds x p)
      (sym (get_or_append_left sets (new ∷ []) [] x (omega (arith, low, are.counted)))) (are.each x p low))
      (λ high.
      let same : x ≡ n = omega (arith, high, h) in
      subst (λ s. (flag s p ≡ true) ↔ holds x p) (sym (get_or_push sets new [] x (omega (arith, high, h, are.counted))))
      (subst (λ y. (flag new p ≡ true) ↔ holds y p) (sym same) (is p)))
      (cases_lt x n);
}
