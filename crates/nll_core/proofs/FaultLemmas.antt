-- The fault check: pairs of universal regions in order.
use Rattle.std.proofs.Common.{◌≡◌, ◌≢◌, ℕ, ◌+◌, ◌<◌, Bool, false, List, [], ◌∷◌, ◌++◌, ◌⊎◌, ◌↔◌, inl, inr, Contains, get_or, sym, ap, ◌∙◌, subst, ⊎_elim, arith}
use Rattle.std.proofs.lemmas.Bool.{cases_eq, false≢true}
use Rattle.std.proofs.lemmas.List.Elements.{Contains-push, Contains-push_cases, Contains-append_left, Contains-get_or}
use Rattle.std.proofs.lemmas.List.Quantifiers.{all_pairs_push}
use Rattle.nll_problem.specs.Problem.{Problem, IsUniversal, end_of}
use Rattle.nll_core.specs.Values.{holds, IsHeld}
use Rattle.nll_problem.specs.Faults.{IsFault, IsEarlier, AreFaults}
use Rattle.nll_core.specs.Outliving.{ListsUpTo, FindsUpTo}

-- ---- pairs in order

pair_of : (a b c d : ℕ) → a ≡ b → c ≡ d → ◌≡◌ {A = ℕ × ℕ} (a, c) (b, d)
pair_of a b c d h k = cc

module _ (kind : ℕ → ℕ → Type 0) where
  -- a pair of the kind is added
  pub lists_added : (pairs new : List (ℕ × ℕ)) (a b : ℕ) → ListsUpTo kind pairs a b
      → ((x : ℕ × ℕ) → Contains new x ↔ (Contains pairs x ⊎ ((a, b) ≡ x))) → kind a b → ListsUpTo kind new a (b + 1)
  lists_added pairs new a b lists adds h x y = (
    λ k. ⊎_elim
        (λ old. let before = (lists x y).0 old in
        (before.0, ⊎_elim inl (λ same. inr (same.0, omega (arith, same.1))) before.1))
        (λ is. let at : a ≡ x = ap (λ (z : ℕ × ℕ). z.0) is in let also : b ≡ y = ap (λ (z : ℕ × ℕ). z.1) is in
        (subst (λ (z : ℕ × ℕ). kind z.0 z.1) is h, inr (sym at, omega arith)))
        ((adds (x, y)).0 k),
    λ k. (adds (x, y)).1 (⊎_elim
        (λ less. inl ((lists x y).1 (k.0, inl less)))
        (λ same. ⊎_elim
        (λ at. inr (pair_of a x b y (sym same.0) (sym at)))
        (λ other. inl ((lists x y).1 (k.0, inr (same.0, omega (arith, same.1)))))
        (cases_eq y b))
        k.1),
  )

  -- one that isn't of the kind is passed over
  pub lists_skipped : (pairs : List (ℕ × ℕ)) (a b : ℕ) → ListsUpTo kind pairs a b → (kind a b → ⊥)
      → ListsUpTo kind pairs a (b + 1)
  lists_skipped pairs a b lists absent x y = (
    λ k. let before = (lists x y).0 k in (before.0, ⊎_elim inl (λ same. inr (same.0, omega (arith, same.1))) before.1),
    λ k. (lists x y).1 (
      k.0,
      ⊎_elim inl
          (λ same. ⊎_elim
          (λ at. absurd (absent (subst (λ z. kind z b) same.0 (subst (kind x) at k.0))))
          (λ other. inr (same.0, omega (arith, same.1)))
          (cases_eq y b))
          k.1,
    ),
  )

  module _ (n : ℕ) (within : (x y : ℕ) → kind x y → (x < n) × (y < n)) where
    -- a row is at its end
    pub lists_row : (pairs : List (ℕ × ℕ)) (a : ℕ) → ListsUpTo kind pairs a n → ListsUpTo kind pairs (a + 1) 0
    lists_row pairs a lists x y = (
      λ k. let before = (lists x y).0 k in
          (before.0, inl (⊎_elim (λ less. omega (arith, less)) (λ same. omega (arith, same.0)) before.1)),
      λ k. (lists x y).1 (
        k.0,
        ⊎_elim
            (λ less. ⊎_elim (λ at. inr (at, (within x y k.0).1)) (λ other. inl (omega (arith, less))) (cases_eq x a))
            (λ same. absurd (omega (arith, same.1)))
            k.1,
      ),
    )

    -- all rows are
    pub lists_all : (pairs : List (ℕ × ℕ)) → ListsUpTo kind pairs n 0 → (x y : ℕ) → Contains pairs (x, y) ↔ kind x y
    lists_all pairs lists x y = (λ k. ((lists x y).0 k).0, λ k. (lists x y).1 (k, inl (within x y k).0))

-- ---- the faults in order

module _ (q : Problem) (values : List (List Bool)) where
  -- a region that holds the end of no other has no fault, since each outlives itself
  pub no_fault : (a : ℕ) → ((b : ℕ) → IsUniversal q b → b ≢ a → holds values a (end_of q b) ≡ false) → (b : ℕ)
      → IsFault q (IsHeld values) a b → ⊥
  no_fault a none b fault = ⊎_elim
      (λ same. fault.3 ([], (tt, sym same)))
      (λ other. false≢true (sym (none b fault.1 other) ∙ fault.2))
      (cases_eq b a)

  pub finds_added : (faults : List (ℕ × ℕ)) (a b : ℕ) → FindsUpTo q values faults a b → IsFault q (IsHeld values) a b
      → FindsUpTo q values (faults ++ (a, b) ∷ []) a (b + 1)
  finds_added faults a b f fault = record {
    each = lists_added (IsFault q (IsHeld values)) faults (faults ++ (a, b) ∷ []) a b f.each
        (λ x. (
          Contains-push_cases faults (a, b) x,
          ⊎_elim (Contains-append_left faults ((a, b) ∷ []) x)
              (λ is. subst (Contains (faults ++ (a, b) ∷ [])) is (Contains-push faults (a, b))),
        ))
        fault;
    ordered = all_pairs_push IsEarlier faults (a, b) f.ordered
        (λ k d h. ((f.each (get_or faults k d).0 (get_or faults k d).1).0 (Contains-get_or faults k d h)).1);
  }

  pub finds_skipped : (faults : List (ℕ × ℕ)) (a b : ℕ) → FindsUpTo q values faults a b
      → (IsFault q (IsHeld values) a b → ⊥) → FindsUpTo q values faults a (b + 1)
  finds_skipped faults a b f absent =
      record { each = lists_skipped (IsFault q (IsHeld values)) faults a b f.each absent; ordered = f.ordered }

  -- where a region has no fault its row is passed over
  pub finds_no_row : (faults : List (ℕ × ℕ)) (a : ℕ) → FindsUpTo q values faults a 0
      → ((b : ℕ) → IsFault q (IsHeld values) a b → ⊥) → FindsUpTo q values faults (a + 1) 0
  finds_no_row faults a f absent = record {
    each = λ x y. (
      λ k. let before = (f.each x y).0 k in
          (before.0, ⊎_elim (λ less. inl (omega (arith, less))) (λ same. absurd (omega (arith, same.1))) before.1),
      λ k. (f.each x y).1 (
        k.0,
        ⊎_elim
            (λ less. ⊎_elim (λ at. absurd (absent y (subst (λ z. IsFault q (IsHeld values) z y) at k.0)))
            (λ other. inl (omega (arith, less))) (cases_eq x a))
            (λ same. absurd (omega (arith, same.1)))
            k.1,
      ),
    );
    ordered = f.ordered;
  }

  pub finds_row : (faults : List (ℕ × ℕ)) (a : ℕ) → FindsUpTo q values faults a q.graph.universals
      → FindsUpTo q values faults (a + 1) 0
  finds_row faults a f =
      record {
        each = lists_row (IsFault q (IsHeld values)) q.graph.universals (λ x y h. (h.0, h.1)) faults a f.each;
        ordered = f.ordered;
      }

  pub finds_all : (faults : List (ℕ × ℕ)) → FindsUpTo q values faults q.graph.universals 0
      → AreFaults q (IsHeld values) faults
  finds_all faults f =
      record {
        each = lists_all (IsFault q (IsHeld values)) q.graph.universals (λ x y h. (h.0, h.1)) faults f.each;
        ordered = f.ordered;
      }
