-- Queues of places that are kept as ranges.
use Rattle.std.proofs.Common.{◌≡◌, ℕ, zero, suc, ◌+◌, ◌-◌, ◌<◌, ◌≤◌, List, [], ◌∷◌, ◌++◌, length, set, get_or, drop, refl, sym, ap, ◌∙◌, subst, ⊎_elim, arith, append-nil, length-append}
use Rattle.std.specs.List.{flat_map, range_with_len}
use Rattle.std.specs.Prelude.{Some, slice_get}
use Rattle.std.proofs.lemmas.Bool.{cases_eq, cases_lt}
use Rattle.std.proofs.lemmas.List.{drop_all, drop_more, drop-set, drop-append-le, get_or-set_same, get_or-set_other, get_or_append_left, get_or_push, length_push, length-set}
use Rattle.std.proofs.lemmas.List.Concat.{flat_map-append, flat_map-cons}
use Rattle.std.proofs.lemmas.List.FromFn.{length-range_with_len}
use Rattle.nll_owner.specs.Outboxes.{IsQueue, places_of, queued}
use Rattle.nll_owner.specs.declared.outboxes.Places.{Places}

-- numbers from one on, the first apart
range_first : (a n : ℕ) → 0 < n → range_with_len a n ≡ a ∷ range_with_len (a + 1) (n - 1)
range_first a zero h = absurd (omega (arith, h))
range_first a (suc n) h =
    (let same : ◌≡◌ {A = ℕ} n (suc n - 1) = omega arith in ap (λ k. a ∷ range_with_len (a + 1) k) same)

-- nothing is queued
pub none_queued : (ranges : List Places) (at : ℕ) → length ranges ≤ at → queued ranges at ≡ []
none_queued ranges at past = ap (flat_map places_of) (drop_all at ranges past)

pub queue_none : IsQueue [] 0 0
queue_none = record { within = omega arith; proper = λ k d h. absurd (omega (arith, h)); counted = refl }

pub some_left : (ranges : List Places) (at : ℕ) → 0 < length (queued ranges at) → at < length ranges
some_left ranges at h =
    ⊎_elim (λ l. l) (λ past. absurd (omega (arith, h, ap length (none_queued ranges at past))))
    (cases_lt at (length ranges))

-- the places of one more range come behind
module _ (ranges : List Places) (at count : ℕ) (queue : IsQueue ranges at count) (range : Places)
    (proper : range.first < range.end) where
  pub queued_push : queued (ranges ++ range ∷ []) at ≡ queued ranges at ++ places_of range
  queued_push = ap (flat_map places_of) (drop-append-le at ranges (range ∷ []) queue.within)
      ∙ (flat_map-append places_of (drop at ranges) (range ∷ [])
      ∙ ap (λ xs. queued ranges at ++ xs) (append-nil (places_of range)))

  pub queue_push : IsQueue (ranges ++ range ∷ []) at (count + (range.end - range.first))
  queue_push =
      grind (
        arith,
        length_push,
        get_or_append_left,
        get_or_push,
        cases_lt,
        queued_push,
        length-append,
        length-range_with_len,
      )

-- the first place goes
module _ (ranges : List Places) (at count : ℕ) (queue : IsQueue ranges at count) (range : Places)
    (within : at < length ranges) (here : get_or ranges at range ≡ range) where
  low : range.first < range.end
  low = subst (λ (p : Places). p.first < p.end) here (queue.proper at range within)

  split : queued ranges at ≡ places_of range ++ queued ranges (at + 1)
  split = ap (flat_map places_of) (drop_more ranges at range within ∙ ap (λ p. p ∷ drop (at + 1) ranges) here)
      ∙ flat_map-cons places_of range (drop (at + 1) ranges)

  first_apart : places_of range ≡ range.first ∷ range_with_len (range.first + 1) (range.end - range.first - 1)
  first_apart = range_first range.first (range.end - range.first) (omega (arith, low))

  rest_is : drop 1 (queued ranges at)
      ≡ range_with_len (range.first + 1) (range.end - range.first - 1) ++ queued ranges (at + 1)
  rest_is = ap (drop 1) (split ∙ ap (λ xs. xs ++ queued ranges (at + 1)) first_apart)

  pub first_place : slice_get (queued ranges at) 0 ≡ Some range.first
  first_place = ap (λ xs. slice_get xs 0) (split ∙ ap (λ xs. xs ++ queued ranges (at + 1)) first_apart)

  one_less : length (drop 1 (queued ranges at)) + 1 ≡ length (queued ranges at)
  one_less = grind (arith, split, first_apart, length-append, rest_is)

  -- ... of a range that goes with it
  module _ (last : range.end ≤ range.first + 1) where
    pub queued_next : queued ranges (at + 1) ≡ drop 1 (queued ranges at)
    queued_next = sym (rest_is ∙ ap (λ n. range_with_len (range.first + 1) n ++ queued ranges (at + 1)) gone)
      where
        gone : ◌≡◌ {A = ℕ} (range.end - range.first - 1) 0
        gone = omega (arith, last)

    pub queue_next : IsQueue ranges (at + 1) (count - 1)
    queue_next = grind (arith, queued_next, one_less)

  -- ... of one of which places are left
  module _ (more : range.first + 1 < range.end) where
    abbrev shorter : Places
    shorter = record { first = range.first + 1; end = range.end }

    pub queued_shorter : queued (set ranges at shorter) at ≡ drop 1 (queued ranges at)
    queued_shorter = grind (arith, drop-set, flat_map-cons, rest_is)

    pub queue_shorter : IsQueue (set ranges at shorter) at (count - 1)
    queue_shorter =
        grind (arith, length-set, get_or, get_or-set_same, get_or-set_other, cases_eq, queued_shorter, one_less) steps
        1000000
