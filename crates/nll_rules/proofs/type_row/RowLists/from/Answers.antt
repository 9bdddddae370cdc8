use Rattle.std.proofs.Common.{◌-◌, ◌∙◌, ap, drop, length, take}
use Rattle.std.proofs.lemmas.Bool.{cond_below}
use Rattle.std.proofs.lemmas.List.{take_rest}
use Rattle.nll_rules.proofs.type_row.RowLists.from.Goals as goal

pub returns-then-place-body : goal.returns-then-place-body
returns-then-place-body c n =
    let body = c.args.self.now.body.now in
    let place = c.args.place in
    ap (take n) (take_rest body place ∙ cond_below place (length body) (drop place body)
    (drop (place - length body) c.args.self.now.made.items) c.if-place-body.true)
