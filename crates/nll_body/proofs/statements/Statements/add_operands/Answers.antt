use Rattle.std.proofs.Common.{◌≡◌, ◌∙◌, ap, subst, sym, length, map, arith}
use Rattle.std.proofs.lemmas.List.{length_push, take_all}
use Rattle.nll_types.specs.Operands.{operand_of}
use Rattle.nll_body.specs.Flat.{operand_in}
use Rattle.nll_body.specs.Within.{AddsPlaces, IsFlatOperand}
use Rattle.nll_body.specs.contracts.statements.Statements.{the_view}
use Rattle.nll_body.proofs.FlatLemmas.{grows_further, places_grow}
use Rattle.nll_body.proofs.AddedLemmas.{operand_added, grows_operand, items_all, taken_more, within_operand}
use Rattle.nll_body.proofs.statements.Statements.add_operands.Goals as goal

-- the operand that was put behind the list
is_flat : (c : goal.In_ok-push)
    → IsFlatOperand (the_view c.self-in-loop-operand.inside) (operand_of c.operand-item.result)
    c.in_ok-operand.operand
is_flat c =
    subst (λ l. IsFlatOperand l (operand_of c.operand-item.result) c.in_ok-operand.operand)
    (sym c.self-in-loop-operand.view_is) c.in_ok-operand.ensures.operand

pub loop-operand-preserved : goal.loop-operand-preserved
loop-operand-preserved c =
    let l = c.loop-operand.self in
    let m = the_view c.self-in-loop-operand.inside in
    let i = c.loop-operand.operand-index in
    let before = c.loop-operand.invariant in
    let within = c.self-in-loop-operand.invariant in
    let same_lists = sym c.self-in-loop-operand.view_is in
    let places : AddsPlaces l m = subst (AddsPlaces l) same_lists c.add_operand.ensures.places in
    let same : length m.operands ≡ length l.operands = ap (λ n. length n.operands) places.others in
    rw c.in_ok-push.ensures.items record {
      grows = grows_further _ _ _ before.grows
          (grows_further _ _ _ (places_grow l m places) (grows_operand m c.in_ok-operand.operand));
      within = within_operand m c.in_ok-operand.operand within (is_flat c).0;
      ends = rw length_push (omega arith);
      are = operand_added l m c.in_ok-operand.operand _ _ _ before.within within places
          (is_flat c) (omega arith) before.are
          ∙ taken_more operand_of c.args.operands.now i c.operand-item.result
          c.loop-operand-test.true c.operand-item.is;
    }

pub invariant_of-self : goal.invariant_of-self
invariant_of-self c =
    rw c.in_ok-push.ensures.items
    (within_operand (the_view c.self-in-loop-operand.inside) c.in_ok-operand.operand c.self-in-loop-operand.invariant
    (is_flat c).0)

pub returns-clause-operands : goal.returns-clause-operands
returns-clause-operands c =
    let l = c.loop-operand.self in (
      omega arith,
      items_all (operand_in l) l.operands _ _ _ (omega arith) c.loop-operand.invariant.are
          ∙ ap (map operand_of)
          (take_all c.loop-operand.operand-index c.args.operands.now c.loop-operand-test.false),
    )
