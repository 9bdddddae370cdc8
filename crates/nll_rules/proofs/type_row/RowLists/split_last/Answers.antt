use Rattle.std.proofs.Common.{◌≡◌, ◌+◌, ◌-◌, ◌++◌, ◌∷◌, [], ℕ, List, length, get_or, take, sym, ap, ◌∙◌, arith}
use Rattle.std.proofs.lemmas.List.{length-take-le, take_all, take_more}
use Rattle.nll_rules.specs.TypeRows.{row_in_lists}
use Rattle.nll_rules.proofs.type_row.RowLists.split_last.Goals as goal

-- what is before the last of a list, and the last
whole : (row : List ℕ) (n d : ℕ) → n + 1 ≡ length row → row ≡ take n row ++ get_or row n d ∷ []
whole row n d e =
    sym (take_all (n + 1) row (omega arith)) ∙ take_more row n d (omega arith)

pub returns : goal.returns
returns c =
    let row = row_in_lists c.args.self.now c.args.ty in
    let last = c.index-row-count.result in
    let n = length row - 1 in
    let same : length c.row-row.result.now ≡ length row = ap length c.row-row.ensures in
    let some : n + 1 ≡ length row = omega arith in
    let cut : (length c.row-row.result.now - 1) - 0 ≡ n = omega arith in
    let front = c.slice.ensures.row (omega arith) (omega arith) in
    let is : row_in_lists c.args.self.now c.slice.result ≡ take n row = front.0 ∙ ap (λ m. take m row) cut in
    let own : last ≡ get_or row n last = c.index-row-count.is
    ∙ ap (λ (xs : List ℕ). get_or xs (length xs - 1) last) c.row-row.ensures in (
      c.slice.ensures.shape,
      ap length is ∙ length-take-le n row (omega arith) ∙ sym cut ∙ sym front.1,
      whole row n last some ∙ ap (λ (xs : List ℕ). xs ++ get_or row n last ∷ []) (sym is)
          ∙ ap (λ (x : ℕ). row_in_lists c.args.self.now c.slice.result ++ x ∷ []) (sym own),
    )
