use Rattle.std.proofs.Common.{◌∙◌, true, subst, sym}
use Rattle.std.proofs.lemmas.List.{length-set}
use Rattle.nll_core.specs.Order.{AreBelowCount}
use Rattle.nll_core.proofs.OrderLemmas.{below_more}
use Rattle.nll_core.proofs.order.enter.Goals as goal

pub returns : goal.returns
returns c =
    let d = c.requires.descent in
    record {
      next_sized = d.next_sized;
      seen_sized = length-set c.args.descent.now.seen.items c.args.region true ∙ d.seen_sized;
      path_within =
          subst (AreBelowCount c.args.regions) (sym c.in_ok-push.ensures.items)
          (below_more c.args.regions c.args.descent.now.path.items c.args.region c.requires.region d.path_within);
      left_within = d.left_within;
    }
