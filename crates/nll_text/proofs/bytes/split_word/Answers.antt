use Rattle.std.proofs.Common.{◌≡◌, ◌∙◌, rules}
use Rattle.std.specs.List.{prefix_len}
use Rattle.std.proofs.lemmas.Iterator.{YieldsList-from_slice}
use Rattle.std.proofs.lemmas.Iterator.Consumers.{count_from_yields_List}
use Rattle.std.proofs.lemmas.Iterator.Search.{YieldsList-from_take_while}
use Rattle.std.proofs.lemmas.List.Folds.{length-prefix_len}
use borrow.Author.Tests.{tests}
use Rattle.nll_text.specs.Tokens.{is_word_byte}
use Rattle.nll_text.proofs.ByteLemmas.{splits_while}
use Rattle.nll_text.proofs.bytes.split_word.Goals as goal

pub returns : goal.returns
returns c =
    let counted : c.count-len.result ≡ prefix_len is_word_byte c.args.bytes.now =
    count_from_yields_List c.take_while.result c.count-len.result c.count-len.ensures.ran
    (YieldsList-from_take_while _ is_word_byte (YieldsList-from_slice c.args.bytes.now cc)
    c.take_while.ensures.closure c.take_while.ensures.done (λ x b q k. search (rules, tests)))
    ∙ length-prefix_len is_word_byte c.args.bytes.now in
    rw (c.split_at.ensures.front, c.split_at.ensures.back, counted)
    (splits_while is_word_byte c.args.bytes.now)
