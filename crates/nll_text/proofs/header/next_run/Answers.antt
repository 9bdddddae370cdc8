use Rattle.std.proofs.Common.{◌≡◌, ◌∙◌, rules, sym}
use Rattle.std.proofs.lemmas.Bool.{eqb-true}
use Rattle.std.specs.List.{prefix_len}
use Rattle.std.proofs.lemmas.Iterator.{YieldsList-from_slice}
use Rattle.std.proofs.lemmas.Iterator.Consumers.{count_from_yields_List}
use Rattle.std.proofs.lemmas.Iterator.Search.{YieldsList-from_take_while}
use Rattle.std.proofs.lemmas.List.Folds.{length-prefix_len}
use borrow.Author.Tests.{tests}
use Rattle.nll_text.proofs.ByteLemmas.{positive, splits_while}
use Rattle.nll_text.proofs.HeaderLemmas.{is_no_blank, no_runs, first_run}
use Rattle.nll_text.proofs.header.next_run.Goals as goal

pub returns-then-is_empty : goal.returns-then-is_empty
returns-then-is_empty c =
    no_runs c.args.line.now c.behind_gap-core.result.now c.behind_gap-core.ensures.cut
    (eqb-true _ _ (sym c.if-is_empty.ensures))

pub returns : goal.returns
returns c =
    let core = c.behind_gap-core.result.now in
    let counted : c.count-len.result ≡ prefix_len is_no_blank core =
    count_from_yields_List c.take_while.result c.count-len.result c.count-len.ensures.ran
    (YieldsList-from_take_while _ is_no_blank (YieldsList-from_slice core cc)
    c.take_while.ensures.closure c.take_while.ensures.done (λ x b q k. search (rules, tests)))
    ∙ length-prefix_len is_no_blank core in
    rw (c.split_at.ensures.front, c.split_at.ensures.back, counted)
    (first_run c.args.line.now core _ _ c.behind_gap-core.ensures.cut c.behind_gap-core.ensures.solid
    (positive _ (sym c.if-is_empty.ensures)) (splits_while is_no_blank core))
