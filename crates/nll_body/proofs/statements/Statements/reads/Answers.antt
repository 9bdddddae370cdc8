use Rattle.std.proofs.Common.{◌++◌, map, ap, ◌∙◌}
use Rattle.std.proofs.lemmas.Result.{on_ok_weaker}
use Rattle.std.specs.List.{flat_map}
use Rattle.nll_body.specs.Effects.{place_in}
use Rattle.nll_body.specs.Flat.{operand_in}
use Rattle.nll_body.proofs.EffectLemmas.{operands_same}
use Rattle.nll_body.proofs.statements.Statements.reads.Goals as goal

pub returns-in-Some-call-clause-ok : goal.returns-in-Some-call-clause-ok
returns-in-Some-call-clause-ok c =
    rw (c.in-Call.is, c.in-Some-call.ensures)
    (on_ok_weaker c.push_arguments.result (λ told. told
    ∙ ap (λ ops. c.args.used.now.items ++ map (λ p. p.variable) (flat_map place_in ops))
    (ap (map (λ a. operand_in c.args.self.now a.0)) c.arguments.ensures
    ∙ operands_same (operand_in c.args.self.now) _)) c.push_arguments.ensures.ok)
