use Rattle.std.proofs.Common.{◌++◌, [], ◌∷◌, sym, ap, ◌∙◌, append_assoc, arith}
use Rattle.std.proofs.lemmas.List.FromFn.{map-range_with_len_more}
use Rattle.nll_owner.specs.Keeping.{growth_at, growths}
use Rattle.nll_owner.proofs.knowledge.push_growths.Goals as goal

pub loop-number-preserved : goal.loop-number-preserved
loop-number-preserved c =
    let before = growths c.args.region c.args.first c.args.clock c.loop-number.number in
    let next = growth_at c.args.region c.args.first c.args.clock c.loop-number.number in
    let more =
    map-range_with_len_more (growth_at c.args.region c.args.first c.args.clock) 0 c.loop-number.number
    c.loop-number.number (omega arith) in
    record {
      items = c.push_reserved.ensures.items
          ∙ (ap (λ xs. xs ++ next ∷ []) c.loop-number.invariant.items
          ∙ (append_assoc c.args.log.now.items before (next ∷ [])
          ∙ ap (λ xs. c.args.log.now.items ++ xs) (sym more)));
      room = omega (
        arith,
        c.loop-number.invariant.room,
        c.push_reserved.ensures.len,
        c.push_reserved.ensures.capacity,
        c.loop-number-test.true,
      );
    }
