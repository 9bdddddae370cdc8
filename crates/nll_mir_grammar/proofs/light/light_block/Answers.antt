use Rattle.std.proofs.Common.{◌≡◌, ℕ, true, [], refl}
use Rattle.nll_text.proofs.TokenLemmas.{gap_has_none}
use Rattle.nll_mir_grammar.specs.MirForms.{block}
use Rattle.nll_mir_grammar.specs.Versions.{is_of_version}
use Rattle.nll_mir_grammar.specs.declared.version.Version.{Version}
use Rattle.nll_mir_grammar.specs.declared.version.Version.TheVariants.{First, Second}
use Rattle.nll_mir_grammar.proofs.MadeLemmas.{has_form}
use Rattle.nll_mir_grammar.proofs.light.light_block.Goals as goal

-- block lines are of each version
in_each : (n : ℕ) (v : Version) → is_of_version v (block n) ≡ true
in_each n First = refl
in_each n Second = refl

pub returns-then-is_gap : goal.returns-then-is_gap
returns-then-is_gap c v =
    let alone = rw (gap_has_none c.in_ok-number.rest.now (c.is_gap.ensures.0 c.if-is_gap.true)) at
    c.in_ok-number.ensures.joined in (
      has_form c.args.line.now (block c.in_ok-number.number) (record {
        callee = [];
        same = rw alone at c.in_ok-after_word.ensures.begins;
        writable = c.in_ok-number.ensures.allowed;
      }),
      in_each c.in_ok-number.number v,
    )
