use Rattle.std.proofs.Common.{◌-◌, ◌≤◌, ◌++◌, ◌∷◌, length, take, replicate, append-nil, ap, ◌∙◌, arith}
use Rattle.std.specs.Fmt.{decimal}
use Rattle.std.proofs.lemmas.Fmt.{decimal_nonempty, length-decimal-le}
use Rattle.std.proofs.lemmas.List.{get_or-replicate, take_all}
use Rattle.nll_answer.proofs.ReportLemmas.{signed}
use Rattle.nll_answer.proofs.values_report.push_number.Goals as goal

pub write_digits-start-requires : goal.write_digits-start-requires
write_digits-start-requires c = (
  omega (
    arith,
    length-decimal-le 10 c.args.number (omega arith) (omega (arith, c.ranges.number.fits))
        (omega (arith, c.ranges.number.fits)),
  ),
  omega arith,
)

pub overflow_sub-start : goal.overflow_sub-start
overflow_sub-start c =
    omega (
      arith,
      length-decimal-le 10 c.args.number (omega arith) (omega (arith, c.ranges.number.fits))
          (omega (arith, c.ranges.number.fits)),
      c.write_digits-start.ensures.start,
    )

pub returns : goal.returns
returns c =
    let start = c.write_digits-start.result in
    let size = c.write_digits-start.ensures.start in
    let long =
    length-decimal-le 10 c.args.number (omega arith) (omega (arith, c.ranges.number.fits))
    (omega (arith, c.ranges.number.fits)) in
    let some = decimal_nonempty c.args.number (omega (arith, c.ranges.number.fits)) in
    let text =
    signed c.args.sign start (replicate 11 c.args.sign) c.write_digits-start.new.buf (decimal c.args.number)
    (omega (arith, long, size)) some
    (get_or-replicate 11 (start - 1) c.args.sign 0 (omega (arith, size, some))) c.write_digits-start.ensures.before
    (c.write_digits-start.ensures.written ∙ append-nil _)
    in
    let fits : length (c.args.sign ∷ decimal c.args.number) ≤ 11 - (start - 1) = omega (arith, size, long) in
    c.in_ok-extend_from_slice.ensures.items
    ∙ ap (λ xs. c.args.out.now.items ++ xs)
    (ap (take (11 - (start - 1))) text ∙ take_all (11 - (start - 1)) (c.args.sign ∷ decimal c.args.number) fits)
