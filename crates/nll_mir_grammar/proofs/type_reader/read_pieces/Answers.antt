use Rattle.std.proofs.Common.{◌≡◌, ℕ, List, rules, sym, ◌∙◌}
use Rattle.std.specs.Borrow.{Bor}
use Rattle.nll_text.specs.LineTokens.{tokens_in}
use Rattle.nll_mir_grammar.specs.WrittenTypes.{int}
use Rattle.nll_mir_grammar.specs.declared.opens.State.TheVariants.{Have}
use Rattle.nll_mir_grammar.proofs.StepLemmas.{none_here}
use Rattle.nll_mir_grammar.proofs.LoopLemmas.{at_end, whole_stuck, whole_pieces, whole_read, first_comes}
use Rattle.nll_mir_grammar.proofs.type_reader.read_pieces.Goals as goal

pub loop-opened-init : goal.loop-opened-init
loop-opened-init c = first_comes int (tokens_in c.args.line.now) _ _ c.requires.pieces c.requires.opened

pub returns-in_default-clause-reads : goal.returns-in_default-clause-reads
returns-in_default-clause-reads c =
    let from = c.loop-opened.invariant in
    none_here c.loop-opened.state from.frames' _ _ from.t' from.same
    (rw c.in_default.is at (c.in_ok-next.ensures from.frames' from.t' from.read))

pub returns-then-is_some-clause-reads : goal.returns-then-is_some-clause-reads
returns-then-is_some-clause-reads c =
    let have : c.loop-opened.state ≡ Have = search rules in
    let none_open = sym c.is_empty.ensures ∙ c.if-not-is_empty.false in
    whole_stuck c.after_sign.result (λ (rest : Bor (List ℕ)). tokens_in rest.now) _ _ _
    (at_end c.loop-opened.state _ _ _ _ have none_open c.loop-opened.invariant) c.after_sign.ensures
    (sym c.is_some.ensures ∙ c.if-is_some.true)

pub returns-clause-pieces : goal.returns-clause-pieces
returns-clause-pieces c =
    let have : c.loop-opened.state ≡ Have = search rules in
    let none_open = sym c.is_empty.ensures ∙ c.if-not-is_empty.false in
    whole_pieces _ _ _ (at_end c.loop-opened.state _ _ _ _ have none_open c.loop-opened.invariant)

pub returns-clause-reads : goal.returns-clause-reads
returns-clause-reads c =
    let have : c.loop-opened.state ≡ Have = search rules in
    let none_open = sym c.is_empty.ensures ∙ c.if-not-is_empty.false in
    whole_read c.after_sign.result (λ (rest : Bor (List ℕ)). tokens_in rest.now) _ _ _
    (at_end c.loop-opened.state _ _ _ _ have none_open c.loop-opened.invariant) c.after_sign.ensures
    (sym c.is_some.ensures ∙ c.if-is_some.false)
