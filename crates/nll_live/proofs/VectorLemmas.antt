-- Lists that vectors hold, of which one is read at an index.
use Rattle.std.proofs.Common.{◌≡◌, ℕ, ◌<◌, List, [], ◌∷◌, ◌++◌, map, length, get_or, set, sym, ap, ◌∙◌}
use Rattle.std.proofs.lemmas.List.{get_or-map, map-set}
use Rattle.nll_problem.specs.Rows.{row_at, with_item}

module _ {V : Type 0} (f : V → List ℕ) (lists : List V) (i : ℕ) (v : V) (within : i < length lists)
    (is : v ≡ get_or lists i v) where
  -- the list there
  pub row_here : f v ≡ row_at (map f lists) i
  row_here = sym (get_or-map f lists i v [] within ∙ ap f (sym is))

  -- the lists after a vector of one more item is put there
  pub rows_more : (pushed : V) (x : ℕ) → f pushed ≡ f v ++ x ∷ []
      → map f (set lists i pushed) ≡ with_item (map f lists) i x
  rows_more pushed x more = map-set f lists i pushed
      ∙ ap (set (map f lists) i) (more ∙ ap (λ xs. xs ++ x ∷ []) row_here)
