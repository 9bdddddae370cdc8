use Rattle.std.proofs.Common.{◌≡◌, ℕ, true, List, [], refl}
use Rattle.nll_text.specs.LineTokens.{tokens_in}
use Rattle.nll_text.proofs.TokenLemmas.{gap_has_none}
use Rattle.nll_mir_grammar.specs.Lines.{statement_of_light}
use Rattle.nll_mir_grammar.specs.MirForms.{at_point, spelled_statement, IsWritableStatement}
use Rattle.nll_mir_grammar.specs.Versions.{is_of_version, HasFormIn}
use Rattle.nll_mir_grammar.specs.declared.light.Light.{Light}
use Rattle.nll_mir_grammar.specs.declared.light.Light.TheVariants.{Nop, Live, Dead}
use Rattle.nll_mir_grammar.specs.declared.version.Version.{Version}
use Rattle.nll_mir_grammar.specs.declared.version.Version.TheVariants.{First, Second}
use Rattle.nll_mir_grammar.proofs.MadeLemmas.{has_form}
use Rattle.nll_mir_grammar.proofs.light.light_line.Goals as goal

-- light statements are of each version
in_each : (l : Light) (v : Version) → is_of_version v (at_point (statement_of_light l)) ≡ true
in_each Nop First = refl
in_each (Live x) First = refl
in_each (Dead x) First = refl
in_each l Second = refl

-- a line of its tokens has its form
of_tokens : (line : List ℕ) (l : Light) → tokens_in line ≡ spelled_statement [] (statement_of_light l)
    → IsWritableStatement (statement_of_light l) → (v : Version)
    → HasFormIn v line (at_point (statement_of_light l))
of_tokens line l same writable v =
    (has_form line _ (record { callee = []; same = same; writable = writable }), in_each l v)

pub returns-then-is_gap : goal.returns-then-is_gap
returns-then-is_gap c = of_tokens c.args.line.now Nop
    (rw (gap_has_none c.in_ok-rest-in-110.rest.now (c.is_gap.ensures.0 c.if-is_gap.true)) at
    c.in_ok-rest-in-110.ensures.begins) tt

pub returns-in_ok-variable-in-108 : goal.returns-in_ok-variable-in-108
returns-in_ok-variable-in-108 c = of_tokens c.args.line.now (Live _)
    (rw c.in_ok-variable-in-108.ensures.alone at c.in_ok-after_word-in-108.ensures.begins)
    c.in_ok-variable-in-108.ensures.short

pub returns-in_ok-variable-in-100 : goal.returns-in_ok-variable-in-100
returns-in_ok-variable-in-100 c = of_tokens c.args.line.now (Dead _)
    (rw c.in_ok-variable-in-100.ensures.alone at c.in_ok-after_word-in-100.ensures.begins)
    c.in_ok-variable-in-100.ensures.short
