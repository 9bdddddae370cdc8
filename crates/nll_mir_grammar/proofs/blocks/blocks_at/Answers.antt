use Rattle.std.proofs.Common.{◌≡◌, ◌==◌, ◌++◌, ap, arith, length, rules, sym, ◌∙◌, true}
use Rattle.std.specs.Prelude.{vec_len}
use Rattle.std.proofs.lemmas.Bool.{eqb-true}
use Rattle.std.proofs.lemmas.List.Concat.{flat_map_single}
use Rattle.nll_text.specs.Grammars.{Begins}
use Rattle.nll_text.specs.LineTokens.{tokens_in}
use Rattle.nll_text.proofs.ByteLemmas.{positive}
use Rattle.nll_mir_grammar.specs.Grammars.{many}
use Rattle.nll_mir_grammar.specs.MirForms.{block_word}
use Rattle.nll_mir_grammar.specs.Parts.{block_names}
use Rattle.nll_mir_grammar.proofs.GrammarLemmas.{fewer_left, many_found, nothing_read, read_more}
use Rattle.nll_mir_grammar.proofs.PartLemmas.{blocks_solid, no_blocks}
use Rattle.nll_mir_grammar.proofs.blocks.blocks_at.Goals as goal

pub loop-block-init : goal.loop-block-init
loop-block-init c = rw c.new-targets.ensures.items (nothing_read block_names _)

pub loop-block-smaller : goal.loop-block-smaller
loop-block-smaller c = fewer_left block_names _ _ c.in-Some.block (blocks_solid c.in-Some.block) c.in-Some.ensures

pub loop-block-preserved : goal.loop-block-preserved
loop-block-preserved c =
    rw c.in_ok-push.ensures.items (read_more block_names _ _ _ _ c.in-Some.block c.loop-block.invariant
    c.in-Some.ensures)

pub returns-then-is_empty : goal.returns-then-is_empty
returns-then-is_empty c =
    let y : (vec_len c.loop-block.targets == 0) ≡ true = sym c.is_empty.ensures ∙ c.if-is_empty.true in
    let z : vec_len c.loop-block.targets ≡ 0 = eqb-true _ _ y in
    let l : vec_len c.loop-block.targets ≡ length c.loop-block.targets.items = search rules in
    no_blocks _ c.loop-block.targets.items _ (sym l ∙ z)
    (many_found block_names _ _ _ c.loop-block.invariant c.in_default.ensures)

pub returns : goal.returns
returns c =
    let found : Begins (many block_names) (tokens_in c.args.line.now) c.loop-block.targets.items
    (tokens_in c.loop-block.rest.now) = many_found block_names _ _ _ c.loop-block.invariant c.in_default.ensures in
    let len : vec_len c.loop-block.targets ≡ length c.loop-block.targets.items = search rules in
    record {
      joined = found.joined
          ∙ ap (λ l. l ++ tokens_in c.loop-block.rest.now) (flat_map_single block_word c.loop-block.targets.items);
      allowed = (omega (arith, len, positive _ (sym c.is_empty.ensures ∙ c.if-is_empty.false)), found.allowed);
      follows = found.follows;
    }
