use Rattle.std.proofs.Common.{inl, inr, take, sym, ◌∙◌}
use Rattle.std.proofs.lemmas.Bool.{eqb-true, eq-eqb, false≢true}
use Rattle.std.proofs.lemmas.List.{take_more}
use Rattle.std.proofs.lemmas.Result.{IfOk-from_err}
use Rattle.nll_owner.proofs.LinkingLemmas.{links_add, links_skip, place_below}
use Rattle.nll_owner.proofs.link_table.list_links.Goals as goal
use Rattle.nll_owner.proofs.link_table.list_links.Goals.{then-eq-via-then-eq, then-eq-via-else-eq+then-owner_of-me}

pub owner_of-requires : goal.owner_of-requires
owner_of-requires c = c.requires.sups c.k-item.result (c.loop-k.k-index, c.loop-k-test.true, sym c.k-item.is)

pub add_constraint-requires : goal.add_constraint-requires
add_constraint-requires c = record {
  later = place_below c.args.cut.now c.args.me c.args.sub c.loop-k.k-index c.args.constraints.now c.k-item.result
      c.loop-k.row.items
      c.requires.ascending c.loop-k-test.true (sym c.k-item.is) c.loop-k.invariant.links;
}

pub loop-k-preserved-then-eq : goal.loop-k-preserved-then-eq
loop-k-preserved-then-eq c =
    let skip = links_skip c.args.cut.now c.args.me c.args.sub (take c.loop-k.k-index c.args.constraints.now)
    c.k-item.result c.loop-k.row.items in
    record {
      links = rw (take_more c.args.constraints.now c.loop-k.k-index c.k-item.result c.loop-k-test.true, sym c.k-item.is)
          (elim c.then-eq.branch [
            | then-eq-via-then-eq b ↦ skip (inl (eqb-true _ _ (sym c.eq.ensures ∙ b.if-eq.true)))
                c.loop-k.invariant.links
            | then-eq-via-else-eq+then-owner_of-me b ↦ skip
                (inr (λ is. b.if-owner_of-me.true (b.owner_of.ensures.value ∙ is)))
                c.loop-k.invariant.links
          ]);
      fresh = c.loop-k.invariant.fresh;
    }

pub loop-k-preserved : goal.loop-k-preserved
loop-k-preserved c = record {
  links = rw (take_more c.args.constraints.now c.loop-k.k-index c.k-item.result c.loop-k-test.true, sym c.k-item.is)
      (links_add c.args.cut.now c.args.me c.args.sub (take c.loop-k.k-index c.args.constraints.now) c.k-item.result
      c.loop-k.row.items c.add_constraint.new.row.items
      (c.requires.subs c.k-item.result (c.loop-k.k-index, c.loop-k-test.true, sym c.k-item.is))
      (λ is. false≢true (c.if-eq.ensures ∙ eq-eqb _ _ is))
      (sym c.owner_of.ensures.value ∙ c.if-owner_of-me.false) c.in_ok-add_constraint.ensures c.loop-k.invariant.links);
  fresh = c.in_ok-add_constraint.ensures.fresh c.loop-k.invariant.fresh;
}

pub returns-in_err-add_constraint : goal.returns-in_err-add_constraint
returns-in_err-add_constraint c =
    let back = c.from_residual in
    record {
      links = IfOk-from_err back.result _ back.ensures.0;
      fresh = IfOk-from_err back.result _ back.ensures.0;
    }

pub returns-clause-fresh : goal.returns-clause-fresh
returns-clause-fresh c = c.loop-k.invariant.fresh
