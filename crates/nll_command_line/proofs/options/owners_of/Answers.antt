use Rattle.std.proofs.Common.{◌≡◌, List, ℕ, length, get_or, ap, ◌∙◌, arith}
use Rattle.std.proofs.lemmas.Fmt.{parse-decimal}
use Rattle.nll_command_line.proofs.NumberLemmas.{begins, is_printed}
use Rattle.nll_command_line.proofs.options.owners_of.Goals as goal

pub returns-in_default : goal.returns-in_default
returns-in_default c = λ n is.
    omega (arith, (begins n is.0 is.1).0, ap length (c.as_bytes.ensures.value ∙ is.2))

pub returns-in_default-2 : goal.returns-in_default-2
returns-in_default-2 c = λ n is.
    let first = ap (λ (l : List ℕ). get_or l 0 0) (c.as_bytes.ensures.value ∙ is.2) in
    omega (arith, (begins n is.0 is.1).1, first)

pub returns-in_default-3 : goal.returns-in_default-3
returns-in_default-3 c = λ n is.
    let first = ap (λ (l : List ℕ). get_or l 0 0) (c.as_bytes.ensures.value ∙ is.2) in
    omega (arith, (begins n is.0 is.1).2, first)

pub returns-in-Ok : goal.returns-in-Ok
returns-in-Ok c =
    let first = ap (λ (l : List ℕ). get_or l 0 0) c.as_bytes.ensures.value in
    let number = is_printed c.args.value.now _ c.in-Ok.owners c.parse.ensures.value.0 c.in-Ok.is
    (omega (arith, first)) in
    (number.0, c.if-owners-le64.true, number.1)

pub returns-in_default-parse : goal.returns-in_default-parse
returns-in_default-parse c = λ n is.
    let read = parse-decimal 16 n c.args.value.now _ (omega (arith, is.1)) (omega (arith, is.1)) is.2
    c.parse.ensures.value.0 in
    let same : c.in-Ok.owners ≡ n = cc in
    omega (arith, is.1, same, c.if-owners-le64.false)

pub returns-in_default-parse-2 : goal.returns-in_default-parse-2
returns-in_default-parse-2 c = λ n is.
    let read = parse-decimal 16 n c.args.value.now _ (omega (arith, is.1)) (omega (arith, is.1)) is.2
    c.parse.ensures.value.0 in
    cc
