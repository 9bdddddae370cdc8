use Rattle.std.proofs.Common.{refl}
use Rattle.std.proofs.lemmas.Result.{IfOk-weaker}
use Rattle.nll_mir_grammar.proofs.FurtherLemmas.{last_is, completed_part, completed_output}
use Rattle.nll_mir_grammar.proofs.opens.complete.Goals as goal

pub returns-in-Output : goal.returns-in-Output
returns-in-Output c =
    IfOk-weaker _ _ _ (λ s h. completed_output _ _ _ _ s
    (last_is _ _ _ _ _ c.as_slice.ensures c.len.ensures.value c.requires c.in-Output.is) h) c.end.ensures

pub returns-in-Tuple : goal.returns-in-Tuple
returns-in-Tuple c =
    IfOk-weaker _ _ _ (λ s h. completed_part _ _ _ _ s
    (last_is _ _ _ _ _ c.as_slice.ensures c.len.ensures.value c.requires refl) c.in-Tuple.is h) c.put.ensures
