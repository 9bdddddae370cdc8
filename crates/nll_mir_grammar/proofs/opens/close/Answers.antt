use Rattle.std.proofs.Common.{◌++◌, ◌∷◌, [], ◌-◌, List, refl, ap, ◌∙◌, take}
use Rattle.std.proofs.lemmas.Result.{IfOk-weaker}
use Rattle.nll_mir_grammar.specs.declared.opens.Open.{Open}
use Rattle.nll_mir_grammar.specs.declared.opens.Open.TheVariants as opens
use Rattle.nll_mir_grammar.proofs.FurtherLemmas.{last_is, closed_tuple, closed_name, closed_inputs}
use Rattle.nll_mir_grammar.proofs.opens.close.Goals as goal

pub returns-in-Tuple : goal.returns-in-Tuple
returns-in-Tuple c =
    IfOk-weaker _ _ _ (λ s h. closed_tuple _ _ _ _ s
    (last_is _ _ _ _ _ c.as_slice.ensures c.len.ensures.value c.requires c.in-Tuple.is) h) c.end.ensures

pub returns-in-Arguments : goal.returns-in-Arguments
returns-in-Arguments c =
    IfOk-weaker _ _ _ (λ s h. closed_name _ _ _ _ _ s
    (last_is _ _ _ _ _ c.as_slice.ensures c.len.ensures.value c.requires c.in-Arguments.is) h)
    c.end-in-Arguments.ensures

pub returns-in_ok-push-in-Inputs : goal.returns-in_ok-push-in-Inputs
returns-in_ok-push-in-Inputs c =
    let left = c.truncate.ensures.items
    ∙ ap (λ n. take (n - 1) c.args.opened.now.items) c.len-in-Inputs.ensures.value in
    closed_inputs _ _ _ _ _ (last_is _ _ _ _ _ c.as_slice.ensures c.len.ensures.value c.requires refl) c.in-Inputs.is
    (refl, c.in_ok-push-in-Inputs.ensures.ok ∙ ap (λ (os : List Open). os ++ opens.Output ∷ []) left)
