use Rattle.keeper.proofs.FirstPartLemmas.{first_kept}
use Rattle.keeper.proofs.book.Book.new.Goals as goal

pub invariant_of-result : goal.invariant_of-result
invariant_of-result g c =
    rw (
      c.new.ensures.items,
      c.in_ok-received.ensures,
      c.in_ok-given.ensures.items_if_clones_equal (λ y e. e),
      c.parts-owners.ensures.count,
    )
    (first_kept g.E.Rules.rules
    g.met.E.Rules.lawful
    c.args.system.now c.parts-owners.ensures.valid c.args.me c.requires)
