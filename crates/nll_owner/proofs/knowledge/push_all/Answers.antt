use Rattle.std.proofs.Common.{◌++◌, ◌∷◌, [], ap, ◌∙◌, sym, append_assoc, arith}
use Rattle.fixpoint.proofs.ReceivingLemmas.{take_next}
use Rattle.nll_owner.proofs.ReceiptLemmas.{latest_more}
use Rattle.nll_owner.proofs.knowledge.push_all.Goals as goal

pub loop-growth-preserved : goal.loop-growth-preserved
loop-growth-preserved c =
    let next = take_next c.args.growths.now c.loop-growth.growth-index c.growth-item.result
    c.loop-growth-test.true c.growth-item.is in
    record {
      items = c.push_reserved.ensures.items
          ∙ (ap (λ xs. xs ++ c.growth-item.result ∷ []) c.loop-growth.invariant.items
          ∙ (append_assoc c.args.list.now.items _ (c.growth-item.result ∷ [])
          ∙ ap (λ xs. c.args.list.now.items ++ xs) (sym next)));
      latest = rw next (latest_more c.args.time _ c.loop-growth.clock _ c.growth-item.result c.max-clock.ensures
          c.loop-growth.invariant.latest);
      room = omega (
        arith,
        c.loop-growth.invariant.room,
        c.push_reserved.ensures.len,
        c.push_reserved.ensures.capacity,
        c.loop-growth-test.true,
      );
    }
