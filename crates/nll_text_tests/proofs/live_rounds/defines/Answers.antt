use Rattle.std.proofs.lemmas.Bool.{eq-eqb, eqb-true}
use Rattle.nll_live.proofs.GatheringLemmas.{definition_is}
use Rattle.nll_text_tests.proofs.live_rounds.defines.Goals as goal

pub returns-in-Some : goal.returns-in-Some
returns-in-Some c =
    let is =
    definition_is c.args.body.now c.args.point c.requires c.in-Some.defined c.in-Some.ensures c.args.variable in
    (λ h. is.0 (eqb-true c.in-Some.defined c.args.variable h), λ h. eq-eqb c.in-Some.defined c.args.variable (is.1 h))
