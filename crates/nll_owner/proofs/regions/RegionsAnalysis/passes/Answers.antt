use Rattle.nll_owner.proofs.RegionLemmas.{passes_to, passes_from}
use Rattle.nll_owner.proofs.regions.RegionsAnalysis.passes.Goals as goal

pub returns : goal.returns
returns c =
    let o = c.args.part.now in
    let s = c.me.ensures.sound in (
      (λ t. passes_to o.problem o.cut (s.problem, s.cut) o.me c.args.from c.args.growth.now (c.passes.ensures.0 t)),
      (λ p. c.passes.ensures.1 (passes_from o.problem o.cut o.me c.args.from c.args.growth.now p)),
    )
