use Rattle.std.proofs.Common.{◌≤◌, get_or, length, map, arith}
use Rattle.std.proofs.lemmas.List.{length-map}
use Rattle.std.proofs.lemmas.Option.{slice_get-get_or}
use Rattle.std.proofs.lemmas.Result.{on_ok_weaker}
use Rattle.nll_body.specs.Flat.{operand_in}
use Rattle.nll_body.specs.declared.flat.FlatOperand.TheVariants.{Const}
use Rattle.nll_types.specs.Places.{behind}
use Rattle.nll_types.specs.declared.place.Projection.TheVariants.{Field}
use Rattle.nll_rules.specs.Flows.{PartsAgree, written_type}
use Rattle.nll_rules.proofs.FlowLemmas.{made_agrees, made_asks, made_parts}
use Rattle.nll_rules.proofs.KnowingLemmas.{at_hand_known, learns_then}
use Rattle.nll_rules.proofs.PairLemmas.{adds_same, adds_append, below_more, below_all}
use Rattle.nll_rules.proofs.StatementLemmas.{get_mapped, part_at, parts_within}
use Rattle.nll_rules.proofs.known.Known.ask_make.Goals as goal

pub written-requires : goal.written-requires
written-requires c =
    let l = c.loop-place.invariant.learns in
    rw (l.shapes, l.regions) c.requires.row

pub ask_from-requires : goal.ask_from-requires
ask_from-requires c =
    let t = written_type c.loop-place.self c.args.make.now.ty in
    at_hand_known c.part.new.self (behind c.written.new.self.structs (Field c.loop-place.place) t) c.in_ok-other.other
    (c.in_ok-other.ensures.row t c.in_ok-row.ensures.row)

pub loop-place-preserved : goal.loop-place-preserved
loop-place-preserved c =
    let k = c.args.self.now in
    let made = c.args.make.now.ty in
    let n = c.loop-place.place in
    let items = c.operands-operands.result.now in
    let ops = map (operand_in k.lists) items in
    let op = get_or items n Const in
    let on = c.loop-place.invariant in
    let l = on.learns in
    let w = c.written.ensures.learns in
    let q = c.part.ensures.learns in
    let t = written_type c.loop-place.self made in
    let agree : PartsAgree k.structs k.variables (written_type k made) ops =
    rw (c.operands-operands.ensures, c.statements.ensures) (made_parts k c.args.make.now c.requires.agree) in
    let here = get_mapped (operand_in k.lists) items n op (slice_get-get_or items n Const c.loop-place-test.true) in
    let told = (rw (
      q.structs,
      q.variables,
      q.lists,
      w.structs,
      w.variables,
      w.lists,
      l.structs,
      l.variables,
      l.lists,
      l.shapes,
      l.regions,
    ) at
    (c.in_ok-ask_from.ensures.asked (behind c.written.new.self.structs (Field n) t)
    (c.in_ok-other.ensures.row t c.in_ok-row.ensures.row)))
    (agree n (operand_in k.lists op) here) in
    record {
      learns = learns_then k c.part.new.self c.ask_from.new.self
          (learns_then k c.written.new.self c.part.new.self (learns_then k c.loop-place.self c.written.new.self l w) q)
          c.ask_from.ensures.learns;
      asked = below_more _ _ n _ _ _ (λ x. part_at k.structs k.variables (written_type k made) ops n
          (operand_in k.lists op) x here) on.asked told;
    }

pub returns-in_err-other-clause-learns : goal.returns-in_err-other-clause-learns
returns-in_err-other-clause-learns c =
    let k = c.args.self.now in
    learns_then k c.written.new.self c.part.new.self (learns_then k c.loop-place.self c.written.new.self
    c.loop-place.invariant.learns c.written.ensures.learns) c.part.ensures.learns

pub returns-in_err-ask_from-clause-learns : goal.returns-in_err-ask_from-clause-learns
returns-in_err-ask_from-clause-learns c =
    let k = c.args.self.now in
    learns_then k c.part.new.self c.ask_from.new.self (learns_then k c.written.new.self c.part.new.self
    (learns_then k c.loop-place.self c.written.new.self c.loop-place.invariant.learns c.written.ensures.learns)
    c.part.ensures.learns) c.ask_from.ensures.learns

pub ask_result-requires : goal.ask_result-requires
ask_result-requires c =
    let l = c.loop-place.invariant.learns in
    rw (l.shapes, l.regions) c.requires.row

pub returns-clause-asked : goal.returns-clause-asked
returns-clause-asked c =
    let k = c.args.self.now in
    let make = c.args.make.now in
    let l = c.loop-place.invariant.learns in
    let items = c.operands-operands.result.now in
    let ops = map (operand_in k.lists) items in
    let past : length ops ≤ c.loop-place.place =
    omega (arith, length-map items (operand_in k.lists), c.loop-place-test.false) in
    let parts = rw (c.operands-operands.ensures, c.statements.ensures) at (below_all _ c.loop-place.place _ _ (λ p x h.
    parts_within k.structs k.variables (written_type k make.ty) ops c.loop-place.place p x past h)
    c.loop-place.invariant.asked) in
    on_ok_weaker c.ask_result.result (λ h.
    let into = (rw (l.structs, l.variables, l.lists, l.shapes, l.regions) at h) (made_agrees k make c.requires.agree) in
    adds_same _ _ _ _ (made_asks k make) (adds_append _ _ _ _ _ parts into)) c.ask_result.ensures.asked
