use Rattle.std.proofs.lemmas.Result.{IfOk-weaker}
use Rattle.nll_mir_grammar.proofs.FurtherLemmas.{begun_int, begun_unit, begun_tuple, begun_reference, begun_generic, begun_name, begun_thunk, begun_function}
use Rattle.nll_mir_grammar.proofs.opens.begin.Goals as goal

pub returns-in-Int : goal.returns-in-Int
returns-in-Int c = IfOk-weaker _ _ _ (λ s h. begun_int _ _ _ _ s c.in-Int.is h) c.put.ensures

pub returns-in-Unit : goal.returns-in-Unit
returns-in-Unit c = IfOk-weaker _ _ _ (λ s h. begun_unit _ _ _ _ s c.in-Unit.is h) c.put_empty.ensures

pub returns-in-Tuple : goal.returns-in-Tuple
returns-in-Tuple c = IfOk-weaker _ _ _ (λ s h. begun_tuple _ _ _ _ _ s c.in-Tuple.is h) c.open_row.ensures

pub returns-in-Reference : goal.returns-in-Reference
returns-in-Reference c =
    IfOk-weaker _ _ _ (λ s h. begun_reference _ _ _ _ _ _ s c.in-Reference.is h) c.put-in-Reference.ensures

pub returns-in-Generic : goal.returns-in-Generic
returns-in-Generic c =
    IfOk-weaker _ _ _ (λ s h. begun_generic _ _ _ _ _ _ s c.in-Generic.is h) c.open_row-in-Generic.ensures

pub returns-in-Name : goal.returns-in-Name
returns-in-Name c = IfOk-weaker _ _ _ (λ s h. begun_name _ _ _ _ _ s c.in-Name.is h) c.put_empty-in-Name.ensures

pub returns-in-Thunk : goal.returns-in-Thunk
returns-in-Thunk c = IfOk-weaker _ _ _ (λ s h. begun_thunk _ _ _ _ _ s c.in-Thunk.is h) c.open_row-in-Thunk.ensures

pub returns-in-Function : goal.returns-in-Function
returns-in-Function c =
    IfOk-weaker _ _ _ (λ s h. begun_function _ _ _ _ _ s c.in-Function.is h) c.open_row-in-Function.ensures
