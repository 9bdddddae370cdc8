use Rattle.std.proofs.Common.{◌≡◌, ◌+◌, length, min, ap, arith, rules, refl, ◌∙◌}
use Rattle.nll_rules.proofs.RowListLemmas.{part_in}
use Rattle.nll_rules.proofs.type_row.RowLists.slice.Goals as goal

pub returns-clause-row : goal.returns-clause-row
returns-clause-row c l m =
    let body = c.args.self.now.body.now in
    let made = c.args.self.now.made.items in
    let n = ap length c.row-count.ensures in
    let e : c.min-end.result ≡ c.args.end = omega arith in
    let f : c.min-from.result ≡ c.args.from = omega arith in
    let g : c.min.result ≡ min c.args.ty.first (length body + length made) =
    (let s : c.len.result ≡ length made = search rules in
    c.min.ensures ∙ ap (λ m. min c.args.ty.first (length body + m)) s) in
    rw (e, f, g) (part_in body made c.args.shape c.args.ty c.args.from c.args.end l m, refl)
