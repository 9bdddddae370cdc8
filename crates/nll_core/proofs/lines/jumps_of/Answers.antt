use Rattle.std.proofs.Common.{◌≡◌, ◌<◌, ◌∙◌, ℕ, List, [], ◌∷◌, ◌++◌, length, ap, subst, sym, arith}
use Rattle.std.proofs.lemmas.Result.{IfOk-from_err}
use Rattle.nll_core.specs.Lines.{AreEndsTo, AreJumps}
use Rattle.nll_core.proofs.JumpLemmas.{jumps_first, jumps_more}
use Rattle.nll_core.proofs.LineLemmas.{ends_all, ends_none}
use Rattle.nll_core.proofs.lines.jumps_of.Goals as goal

pub loop-point-init : goal.loop-point-init
loop-point-init c =
    let starts : c.push.new.self.items ≡ 0 ∷ [] = c.in_ok-push.ensures.items
    ∙ ap (λ (xs : List ℕ). xs ++ 0 ∷ []) c.in_ok-starts.ensures.items in (
      subst (λ (xs : List ℕ). AreJumps c.args.graph.now 0 xs c.new-targets.result.items) (sym starts)
          (subst (λ (xs : List ℕ). AreJumps c.args.graph.now 0 (0 ∷ []) xs) (sym c.new-targets.ensures.items)
          (jumps_first c.args.graph.now)),
      subst (λ (xs : List ℕ). AreEndsTo c.args.graph.now 0 xs) (sym c.in_ok-ends.ensures.items)
          (ends_none c.args.graph.now),
    )

pub loop-point-preserved : goal.loop-point-preserved
loop-point-preserved c =
    let size : c.len.result ≡ length c.push_jumps.new.targets.items =
    omega (arith, c.len.ensures, c.push_jumps.new.targets.ok.0) in (
      rw (c.in_ok-push-2.ensures.items, size)
          (jumps_more c.args.graph.now c.loop-point.point _ _ _ c.loop-point.invariant.0 c.in_ok-goes_on.ensures.jumps),
      c.in_ok-pass_point.ensures,
    )

pub returns-clause-ends : goal.returns-clause-ends
returns-clause-ends c =
    ends_all c.args.graph.now c.loop-point.ends.items c.loop-point.point c.points-points.ensures.sound
    (omega (arith, c.points-points.ensures.value, c.loop-point-test.false)) c.loop-point.invariant.1

pub returns-in_err-starts : goal.returns-in_err-starts
returns-in_err-starts c =
    let back = c.from_residual in
    record { jumps = IfOk-from_err back.result _ back.ensures.0; ends = IfOk-from_err back.result _ back.ensures.0 }

pub returns-in_err-ends : goal.returns-in_err-ends
returns-in_err-ends c =
    let back = c.from_residual-in_err-ends in
    record { jumps = IfOk-from_err back.result _ back.ensures.0; ends = IfOk-from_err back.result _ back.ensures.0 }

pub returns-in_err-push : goal.returns-in_err-push
returns-in_err-push c =
    let back = c.from_residual-in_err-push in
    record { jumps = IfOk-from_err back.result _ back.ensures.0; ends = IfOk-from_err back.result _ back.ensures.0 }

pub returns-in_err-goes_on : goal.returns-in_err-goes_on
returns-in_err-goes_on c =
    let back = c.from_residual-in_err-goes_on in
    record { jumps = IfOk-from_err back.result _ back.ensures.0; ends = IfOk-from_err back.result _ back.ensures.0 }

pub returns-in_err-push-2 : goal.returns-in_err-push-2
returns-in_err-push-2 c =
    let back = c.from_residual-in_err-push-2 in
    record { jumps = IfOk-from_err back.result _ back.ensures.0; ends = IfOk-from_err back.result _ back.ensures.0 }

pub returns-in_err-pass_point : goal.returns-in_err-pass_point
returns-in_err-pass_point c =
    let back = c.from_residual-in_err-pass_point in
    record { jumps = IfOk-from_err back.result _ back.ensures.0; ends = IfOk-from_err back.result _ back.ensures.0 }

pub push_jumps-requires : goal.push_jumps-requires
push_jumps-requires c =
    subst (λ (n : ℕ). c.loop-point.point < n) c.points-points.ensures.value c.loop-point-test.true

pub pass_point-requires : goal.pass_point-requires
pass_point-requires c = record {
  point = subst (λ (n : ℕ). c.loop-point.point < n) c.points-points.ensures.value c.loop-point-test.true;
  before = c.loop-point.invariant.1;
  line = c.in_ok-goes_on.ensures.line;
}

pub returns-clause-jumps : goal.returns-clause-jumps
returns-clause-jumps c =
    let all : c.loop-point.point ≡ c.args.graph.now.points =
    omega (arith, c.points-points.ensures.value, c.loop-point-test.false, c.loop-point.auto.point-end) in
    subst (λ (n : ℕ). AreJumps c.args.graph.now n c.loop-point.starts.items c.loop-point.targets.items) all
    c.loop-point.invariant.0
