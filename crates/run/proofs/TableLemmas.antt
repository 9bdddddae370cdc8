-- Tables are made row by row.
use Rattle.std.proofs.Common.{◌≡◌, ◌+◌, ◌<◌, ℕ, List, [], ◌∷◌, ◌++◌, length, slice_set, slice_get, Some, ap, sym, ◌∙◌, subst, ◌⊎◌, ⊎_elim, arith}
use Rattle.run.specs.Table.{list_at, IsEndTable, IsPartRow}
use Rattle.run.proofs.PlaceLemmas.{push_low, push_last, push_size, list_low, list_last, set_here, set_there, set_size}

cases_last : (k n : ℕ) → k < n + 1 → (k < n) ⊎ (k ≡ n)
cases_last k n l = grind arith

module _ {S R : Type 0} (paired : ℕ → ℕ → S → R → Type 0) where
  pub part_more : (made from : ℕ) (row : List S) (old now : List (List R)) (s : S) (r : R) (column : List R)
      → IsPartRow paired made from row old now → made < length now → list_at now made ≡ column
      → paired from made s r → IsPartRow paired (made + 1) from (row ++ s ∷ []) old
      (slice_set now made (column ++ r ∷ []))
  part_more made from row old now s r column p inside column_is t = record {
    size = push_size row s ∙ ap (λ n. n + 1) p.size;
    column_count = set_size now made (column ++ r ∷ []) ∙ p.column_count;
    each = λ j l. ⊎_elim
        (λ (h : j < made).
        let x = p.each j h in (
          x.0,
          x.1,
          push_low row s j x.0 x.2,
          set_there now made j (column ++ r ∷ []) (λ q. absurd (omega (arith, h, q)))
              ∙ x.3,
          x.4,
        ))
        (λ (h : j ≡ made).
        subst (λ k. (a : S) × (b : R) × (slice_get (row ++ s ∷ []) k ≡ Some a)
        × (list_at (slice_set now made (column ++ r ∷ [])) k ≡ list_at old k ++ b ∷ []) × paired from k a b)
        (sym h) (
          s,
          r,
          push_last row s made p.size,
          set_here now made (column ++ r ∷ []) inside
              ∙ ap (λ l. l ++ r ∷ []) (sym column_is ∙ p.others made (omega arith)),
          t,
        ))
        (cases_last j made l);
    others = λ j l. set_there now made j (column ++ r ∷ []) (λ q. absurd (omega (arith, l, q)))
        ∙ p.others j (omega (arith, l));
  }

  pub table_more : (done owners : ℕ) (rows : List (List S)) (old new : List (List R)) (row : List S)
      → IsEndTable paired done owners rows old → IsPartRow paired owners done row old new
      → IsEndTable paired (done + 1) owners (rows ++ row ∷ []) new
  table_more done owners rows old new row t p = record {
    row_count = push_size rows row ∙ ap (λ n. n + 1) t.row_count;
    column_count = p.column_count ∙ t.column_count;
    width = grind (arith, ⊎_elim, list_low, list_last, cases_last);
    height = λ j l. let x = p.each j l in
        ap length x.3 ∙ (push_size (list_at old j) x.1 ∙ ap (λ n. n + 1) (t.height j l));
    cell = λ i j li lj.
        let x = p.each j lj in
        ⊎_elim
        (λ (h : i < done).
        let y = t.cell i j h lj in (
          y.0,
          y.1,
          subst (λ l. slice_get l j ≡ Some y.0) (sym (list_low rows row i (omega (arith, h, t.row_count)))) y.2,
          subst (λ l. slice_get l i ≡ Some y.1) (sym x.3) (push_low (list_at old j) x.1 i y.1 y.3),
          y.4,
        ))
        (λ (h : i ≡ done). (
          x.0,
          x.1,
          subst (λ l. slice_get l j ≡ Some x.0) (sym (list_last rows row i (t.row_count ∙ sym h))) x.2,
          subst (λ l. slice_get l i ≡ Some x.1) (sym x.3) (push_last (list_at old j) x.1 i (t.height j lj ∙ sym h)),
          subst (λ n. paired n j x.0 x.1) (sym h) x.4,
        ))
        (cases_last i done li);
  }
