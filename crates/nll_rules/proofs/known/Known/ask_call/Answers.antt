use Rattle.std.proofs.Common.{◌≤◌, Some, get_or, length, refl, arith}
use Rattle.std.proofs.lemmas.List.Elements.{All-pop}
use Rattle.std.proofs.lemmas.Option.{slice_get-get_or}
use Rattle.nll_types.specs.Rows.{HasRow}
use Rattle.nll_types.specs.declared.typed.Typed.{Typed}
use Rattle.nll_body.specs.Flat.{operand_in}
use Rattle.nll_body.specs.declared.flat.FlatOperand.{FlatOperand}
use Rattle.nll_body.specs.declared.flat.FlatOperand.TheVariants.{Const}
use Rattle.nll_rules.specs.Flows.{InputsAgree, inputs_of, written_type}
use Rattle.nll_rules.proofs.FlowLemmas.{called_agrees, called_asks, called_inputs, input_is, input_row, inputs_count}
use Rattle.nll_rules.proofs.KnowingLemmas.{learns_then, type_known}
use Rattle.nll_rules.proofs.PairLemmas.{adds_same, adds_append, below_more, below_all}
use Rattle.nll_rules.proofs.StatementLemmas.{adds_list, input_at, inputs_within}
use Rattle.nll_rules.proofs.known.Known.ask_call.Goals as goal

-- an argument for each number, where the list has none
abbrev none : FlatOperand × Typed
none = (Const, record { shape = 0; first = 0 })

pub written-requires : goal.written-requires
written-requires c =
    let k = c.args.self.now in
    let n = c.loop-place.place in
    let args = c.arguments-arguments.result.now in
    let l = c.loop-place.invariant.learns in
    rw (l.shapes, l.regions) (input_row k args n (get_or args n none)
    (rw (c.arguments-arguments.ensures, c.statements-statements.ensures)
    (All-pop (HasRow k.shapes k.regions) _ _ (Some c.args.call.now.result) refl c.requires.rows).0)
    (slice_get-get_or args n none c.loop-place-test.true))

pub ask_from-requires : goal.ask_from-requires
ask_from-requires c =
    type_known c.written.new.self (written_type c.loop-place.self
    (get_or c.arguments-arguments.result.now c.loop-place.place none).1) c.in_ok-other.other c.in_ok-other.ensures.row

pub loop-place-preserved : goal.loop-place-preserved
loop-place-preserved c =
    let k = c.args.self.now in
    let n = c.loop-place.place in
    let args = c.arguments-arguments.result.now in
    let arg = get_or args n none in
    let on = c.loop-place.invariant in
    let l = on.learns in
    let w = c.written.ensures.learns in
    let agree : InputsAgree k.structs k.variables (inputs_of k args) =
    rw (c.arguments-arguments.ensures, c.statements-statements.ensures)
    (called_inputs k c.args.call.now c.requires.agree) in
    let here = input_is k args n arg (slice_get-get_or args n none c.loop-place-test.true) in
    let told = (rw (w.structs, w.variables, w.lists, l.structs, l.variables, l.lists, l.shapes, l.regions) at
    (c.in_ok-ask_from.ensures.asked (Some (written_type c.loop-place.self arg.1)) c.in_ok-other.ensures.row))
    (agree n (operand_in k.lists arg.0) (written_type k arg.1) here) in
    record {
      learns = learns_then k c.written.new.self c.ask_from.new.self
          (learns_then k c.loop-place.self c.written.new.self l w) c.ask_from.ensures.learns;
      asked = below_more _ _ n _ _ _ (λ x. input_at k.structs k.variables (inputs_of k args) n
          (operand_in k.lists arg.0) (written_type k arg.1) x here) on.asked told;
    }

pub returns-in_err-other-clause-learns : goal.returns-in_err-other-clause-learns
returns-in_err-other-clause-learns c =
    learns_then c.args.self.now c.loop-place.self c.written.new.self c.loop-place.invariant.learns
    c.written.ensures.learns

pub returns-in_err-ask_from-clause-learns : goal.returns-in_err-ask_from-clause-learns
returns-in_err-ask_from-clause-learns c =
    let k = c.args.self.now in
    learns_then k c.written.new.self c.ask_from.new.self (learns_then k c.loop-place.self c.written.new.self
    c.loop-place.invariant.learns c.written.ensures.learns) c.ask_from.ensures.learns

pub ask_result-requires : goal.ask_result-requires
ask_result-requires c =
    let k = c.args.self.now in
    let l = c.loop-place.invariant.learns in
    rw (l.shapes, l.regions)
    (All-pop (HasRow k.shapes k.regions) _ _ (Some c.args.call.now.result) refl c.requires.rows).1

pub returns-in_err-ask_result-clause-learns : goal.returns-in_err-ask_result-clause-learns
returns-in_err-ask_result-clause-learns c =
    learns_then c.args.self.now c.loop-place.self c.ask_result.new.self c.loop-place.invariant.learns
    c.ask_result.ensures.learns

pub returns-in_err-extend_from_slice-clause-learns : goal.returns-in_err-extend_from_slice-clause-learns
returns-in_err-extend_from_slice-clause-learns c =
    learns_then c.args.self.now c.loop-place.self c.ask_result.new.self c.loop-place.invariant.learns
    c.ask_result.ensures.learns

pub returns-clause-learns : goal.returns-clause-learns
returns-clause-learns c =
    learns_then c.args.self.now c.loop-place.self c.ask_result.new.self c.loop-place.invariant.learns
    c.ask_result.ensures.learns

pub returns-clause-asked : goal.returns-clause-asked
returns-clause-asked c =
    let k = c.args.self.now in
    let called = c.args.call.now in
    let l = c.loop-place.invariant.learns in
    let args = c.arguments-arguments.result.now in
    let past : length (inputs_of k args) ≤ c.loop-place.place =
    omega (arith, inputs_count k args, c.loop-place-test.false) in
    let inputs = rw (c.arguments-arguments.ensures, c.statements-statements.ensures) at
    (below_all _ c.loop-place.place _ _ (λ p x h.
    inputs_within k.structs k.variables (inputs_of k args) c.loop-place.place p x past h)
    c.loop-place.invariant.asked) in
    let result = (rw (l.structs, l.variables, l.lists, l.shapes, l.regions) at c.in_ok-ask_result.ensures.asked)
    (called_agrees k called c.requires.agree) in
    let items =
    rw (c.pairs-wheres.ensures, c.statements-statements.ensures) at c.in_ok-extend_from_slice.ensures.items in
    adds_same _ _ _ _ (called_asks k called)
    (adds_append _ _ _ _ _ (adds_append _ _ _ _ _ inputs result) (adds_list _ _ _ items))
