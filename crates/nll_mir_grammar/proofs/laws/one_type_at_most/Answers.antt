use Rattle.std.proofs.Common.{sym, ◌∙◌}
use Rattle.nll_mir_grammar.proofs.OneTree.{one_tree}
use Rattle.nll_mir_grammar.proofs.laws.one_type_at_most.Goals as goal

pub returns : goal.returns
returns c = λ ts t u a b r s. one_tree t u a b r.names s.names r.free s.free (sym r.joined ∙ s.joined)
