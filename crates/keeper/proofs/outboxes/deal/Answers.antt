use Rattle.std.proofs.Common.{arith, sym, ap, ◌∙◌}
use Rattle.std.proofs.lemmas.List.{length-map}
use Rattle.fixpoint.proofs.ListLemmas.{lists_pushed}
use Rattle.keeper.proofs.DealingLemmas.{dealt_push, dealt_pass}
use Rattle.keeper.proofs.outboxes.deal.Goals as goal
use Rattle.keeper.proofs.outboxes.deal.Goals.{then-reads+in_ok-push, else-reads}

pub loop-reader-preserved : goal.loop-reader-preserved
loop-reader-preserved g c = elim c.if-reads.branch [
  | then-reads+in_ok-push w ↦
      rw (
        w.lists-is,
        lists_pushed (λ list. list.items) c.loop-reader.lists.items c.loop-reader.reader w.index_mut-list.result.now
            (omega (
              arith,
              c.loop-reader-test.true,
              c.len-reader-end.ensures,
              c.loop-reader.invariant.counted,
              length-map c.loop-reader.lists.items (λ list. list.items),
              length-map c.args.lists.now.items (λ list. list.items),
            ))
            w.index_mut-list.ensures.value w.push.new.self c.args.growth w.in_ok-push.ensures.items,
      )
      (dealt_push g.E.Rules.rules c.args.engine.now c.args.growth _ _ c.loop-reader.reader c.loop-reader.invariant
      (omega (
        arith,
        c.loop-reader-test.true,
        c.len-reader-end.ensures,
        c.loop-reader.invariant.counted,
        length-map c.loop-reader.lists.items (λ list. list.items),
        length-map c.args.lists.now.items (λ list. list.items),
      ))
      (ap (g.E.Rules.rules.reads c.args.engine.now c.loop-reader.reader) (sym c.fact-fact.ensures)
      ∙ sym w.if-reads.ensures))
  | else-reads w ↦
      rw w.lists-is
      (dealt_pass g.E.Rules.rules c.args.engine.now c.args.growth _ _ c.loop-reader.reader c.loop-reader.invariant
      (omega (
        arith,
        c.loop-reader-test.true,
        c.len-reader-end.ensures,
        c.loop-reader.invariant.counted,
        length-map c.loop-reader.lists.items (λ list. list.items),
        length-map c.args.lists.now.items (λ list. list.items),
      ))
      (ap (g.E.Rules.rules.reads c.args.engine.now c.loop-reader.reader) (sym c.fact-fact.ensures)
      ∙ sym w.if-reads.ensures))
]
