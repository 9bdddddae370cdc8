use Rattle.std.proofs.Common.{inl, inr, refl}
use Rattle.std.proofs.lemmas.Result.{err_from_is_err_and}
use Rattle.clap.specs.Words.{found_of}
use Rattle.nll_command_line.proofs.GrammarLemmas.{line_of_found-None, line_of_found-Some, line_of_found-some}
use Rattle.nll_command_line.proofs.command_line.line_of_command.Goals as goal

pub returns-in_default-get_str-clause-err : goal.returns-in_default-get_str-clause-err
returns-in_default-get_str-clause-err c =
    inr (
      refl,
      line_of_found-None c.args.name.now
          (found_of c.args.found.now) c.in-Some.task c.in-Some.ensures c.in_default-get_str.ensures,
    )

pub returns-clause-ok : goal.returns-clause-ok
returns-clause-ok c =
    line_of_found-Some c.args.name.now (found_of c.args.found.now) c.in-Some.task c.in-Some-get_str.file.now _
    c.in-Some.ensures c.in-Some-get_str.ensures
    c.in_ok-file.ensures.ok

pub returns-in_err-file-clause-err : goal.returns-in_err-file-clause-err
returns-in_err-file-clause-err c =
    let p = err_from_is_err_and c.from_residual.result c.from_residual.ensures.1 in
    rw p.1 (inl (
      p.2,
      line_of_found-some c.args.name.now
          (found_of c.args.found.now) c.in-Some.task c.in-Some-get_str.file.now c.in-Some.ensures
          c.in-Some-get_str.ensures,
    ))
