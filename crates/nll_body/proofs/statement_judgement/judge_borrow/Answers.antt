use Rattle.nll_types.specs.Declarations.{structs_of}
use Rattle.nll_types.specs.Places.{type_of, small_prefixes}
use Rattle.nll_types.proofs.NumberLemmas.{shapes_later}
use Rattle.nll_body.specs.Judging.{path_at}
use Rattle.nll_body.specs.TypePairs.{reference_to}
use Rattle.nll_body.proofs.MeetingLemmas.{found_later, judged_as}
use Rattle.nll_body.proofs.JudgedLemmas.{borrow_order, one_agrees}
use Rattle.nll_body.proofs.statement_judgement.judge_borrow.Goals as goal

pub returns-clause-judged : goal.returns-clause-judged
returns-clause-judged c = λ n types f g h w.
    let structs = structs_of c.args.table.now.structs in
    let borrowed = path_at c.args.places.now c.args.borrowed in
    let place = path_at c.args.places.now c.args.place in
    let r = f n in
    let first = c.in_ok-source.ensures.found types h in
    let second =
    (rw c.find_place.ensures.grows.structs at c.in_ok-target.ensures.found) types
    (shapes_later _ _ _ types c.find_place.ensures.grows.extends c.requires.variables h) in
    judged_as
    (one_agrees (reference_to r c.args.mutable (type_of structs types borrowed)) (type_of structs types place))
    (borrow_order (small_prefixes structs types borrowed) (small_prefixes structs types place))
    ((rw c.shapes.ensures at c.refers.ensures.judged) _ _ r _ _ (found_later _ _ _ _ _ _
    c.find_place-2.ensures.grows.extends c.in_ok-source.ensures.within first) second)
