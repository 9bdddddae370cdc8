use Rattle.std.proofs.Common.{◌∙◌, map, arith}
use Rattle.std.proofs.lemmas.List.{length-map}
use Rattle.nll_live.specs.Live.{DropsAt, UsesAt}
use Rattle.nll_live.specs.declared.kind.Kind.TheVariants.{Use, Drop}
use Rattle.nll_live.proofs.AskLemmas.{ends_are, kept_within}
use Rattle.nll_live.proofs.VectorLemmas.{row_here}
use Rattle.nll_live.proofs.ways.Ways.ends.Goals as goal

pub returns-in-Use : goal.returns-in-Use
returns-in-Use c =
    let body = c.args.self.now.body.now in
    let lists = c.args.self.now.uses.items in
    let listed = c.requires.ways.uses in
    rw c.in-Use.is (ends_are body (UsesAt body) (map (λ list. list.items) lists) c.args.variable _
    c.requires.variable (kept_within Use body c.args.variable) listed
    (c.as_slice.ensures.value ∙ row_here (λ list. list.items) lists c.args.variable c.index.result.now
    (omega (arith, c.requires.variable, listed.counted, length-map lists (λ list. list.items))) c.index.ensures))

pub returns-in-Drop : goal.returns-in-Drop
returns-in-Drop c =
    let body = c.args.self.now.body.now in
    let lists = c.args.self.now.drops.items in
    let listed = c.requires.ways.drops in
    rw c.in-Drop.is (ends_are body (DropsAt body) (map (λ list. list.items) lists) c.args.variable _
    c.requires.variable (kept_within Drop body c.args.variable) listed
    (c.as_slice-in-Drop.ensures.value ∙ row_here (λ list. list.items) lists c.args.variable c.index-in-Drop.result.now
    (omega (arith, c.requires.variable, listed.counted, length-map lists (λ list. list.items)))
    c.index-in-Drop.ensures))
