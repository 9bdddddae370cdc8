use Rattle.std.proofs.Common.{length, ap, inl, inr, refl, arith}
use Rattle.nll_text.specs.Lines.{lines_left}
use Rattle.nll_text.proofs.LineLemmas.{length-lines_of-le}
use Rattle.nll_format.proofs.header.first_line.Goals as goal

pub returns-then-text-gt-MAX_TEXT-clause-fault : goal.returns-then-text-gt-MAX_TEXT-clause-fault
returns-then-text-gt-MAX_TEXT-clause-fault c = inl (refl, c.if-text-gt-MAX_TEXT.true)

pub returns-in-Ok-clause-cut : goal.returns-in-Ok-clause-cut
returns-in-Ok-clause-cut c = record { short = omega arith; cut = c.next_line.ensures }

pub returns-in-Ok-clause-few : goal.returns-in-Ok-clause-few
returns-in-Ok-clause-few c = omega (arith, ap length c.next_line.ensures, length-lines_of-le c.args.text.now)

pub returns-in-Err-clause-fault : goal.returns-in-Err-clause-fault
returns-in-Err-clause-fault c = inr (
  refl,
  c.next_line.result.0.now,
  lines_left c.next_line.result.1,
  record { short = omega arith; cut = c.next_line.ensures },
  c.in-Err.ensures.cases.0,
)
