use Rattle.nll_types.proofs.SourceSetLemmas.{contains_inserted}
use Rattle.nll_types.proofs.DropLemmas.{adds_one}
use Rattle.nll_types.proofs.source.add.Goals as goal

pub returns : goal.returns
returns c = λ all. adds_one all c.args.new _ _ (λ x. rw c.in_ok-_added.ensures.keys (contains_inserted _ c.args.new x))
