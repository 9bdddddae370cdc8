use Rattle.std.proofs.Common.{ℕ, List, refl, ap, rules, sym, ◌∙◌, inr}
use Rattle.std.proofs.lemmas.Result.{err_from_is_err_and}
use Rattle.nll_text.specs.Lines.{lines_left}
use Rattle.nll_problem.proofs.SameLemmas.{same_problem_chain}
use Rattle.nll_format.specs.Labels.{numbers}
use Rattle.nll_format.proofs.LinesLemmas.{body_short}
use Rattle.nll_facts.proofs.TextLemmas.{end_reached}
use Rattle.nll_facts.proofs.VersionLemmas.{refused_at_header, refused_uncut}
use Rattle.nll_facts.proofs.facts.read_facts.Goals as goal

pub returns-in_err-header-clause-fault : goal.returns-in_err-header-clause-fault
returns-in_err-header-clause-fault c =
    let p = err_from_is_err_and c.from_residual.result c.from_residual.ensures.1 in
    rw (p.1, p.2) (refused_uncut _ _ c.in_err-header.ensures.fault)

pub returns-in_default-clause-fault : goal.returns-in_default-clause-fault
returns-in_default-clause-fault c =
    inr (refused_at_header _ _ _ c.in_ok-header.ensures.cut c.in_ok-header.ensures.utf8 c.in_default.ensures)

pub read_lines-requires : goal.read_lines-requires
read_lines-requires c κs = (
  (refl, tt),
  (
    c.in-Ok.ensures.ready,
    (
      rw c.in-Ok.ensures.said search rules,
      (c.in_ok-header.ensures.few, body_short c.args.text.now _ _ c.in_ok-header.ensures.cut),
    ),
  ),
)

pub finish-problem-requires-clause-ended : goal.finish-problem-requires-clause-ended
finish-problem-requires-clause-ended c = let read = c.in_default-read_lines.ensures.read in
    sym read.3.reached ∙ end_reached read.0 read.2

pub returns-clause-ok : goal.returns-clause-ok
returns-clause-ok c =
    let read = c.in_default-read_lines.ensures.read in
    record {
      version = c.in-Some.version;
      forms = read.0;
      fits = record {
        body = lines_left c.in_ok-header.body;
        headed = record {
          header = c.in_ok-header.header.now;
          cut = c.in_ok-header.ensures.cut;
          utf8 = c.in_ok-header.ensures.utf8;
          is_header = c.in-Some.ensures;
        };
        fine = read.1;
        ended = read.2;
      };
      same_problem = same_problem_chain _ _ _ read.3.problem c.finish-problem.ensures.problem;
      same_labels =
          c.new-2.ensures ∙ ap (λ (ns : List (List ℕ)). record { names = ns; points = numbers })
          (c.finish-problem.ensures.names ∙ sym read.3.names);
    }
