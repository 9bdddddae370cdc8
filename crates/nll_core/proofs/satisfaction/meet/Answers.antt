use Rattle.std.proofs.Common.{◌≡◌, ◌≢◌, ◌∙◌, ◌||◌, ℕ, ◌<◌, List, Bool, false, get_or, length, refl, inl, set, sym, subst, ap, arith}
use Rattle.std.proofs.lemmas.List.{get_or_read}
use Rattle.nll_core.specs.Search.{IsIn}
use Rattle.nll_core.specs.Values.{IsHeld}
use Rattle.nll_core.specs.Worklist.{Visits}
use Rattle.nll_core.proofs.GrowingLemmas.{tells_none}
use Rattle.nll_core.proofs.WorklistLemmas.{visits_pair, met_pair, met_self, met_within, eqb_is, eqb_false}
use Rattle.nll_core.proofs.satisfaction.meet.Goals as goal
use Rattle.nll_core.proofs.satisfaction.meet.Goals.{After-fill, then-eq-via-then-eq, then-eq-via-else-eq+then-is_seen_within}

pub returns-then-eq-clause-visits : goal.returns-then-eq-clause-visits
returns-then-eq-clause-visits c = record {
  advances =
      record {
        shaped = c.requires.shaped;
        kept = λ r e h. h;
        below = λ assignment sat under. under;
        tells = tells_none c.args.values.now;
      };
  width = refl;
  own = refl;
  marks = λ r. inl refl;
  stays = λ r h. h;
  quiet = λ _. refl;
}

pub returns-then-eq-clause-met : goal.returns-then-eq-clause-met
returns-then-eq-clause-met c = λ k h.
    let own = c.requires.pair k h in
    elim c.then-eq.branch [
      | then-eq-via-then-eq w ↦ met_self c.args.problem.now c.args.pair.now.sub k c.args.values.now
          (own.2 ∙ (eqb_is _ _ w.if-eq.ensures ∙ sym own.1))
      | then-eq-via-else-eq+then-is_seen_within w ↦
          met_within c.args.problem.now c.args.pair.now.sub k c.args.values.now
          (subst (λ (r : ℕ × ℕ). (e : ℕ) → IsHeld c.args.values.now r.0 e → IsHeld c.args.values.now r.1 e)
          (λ i. (sym own.1 i, sym own.2 i))
          (subst (λ (s : List Bool × List Bool). (e : ℕ) → IsIn s.0 e → IsIn s.1 e)
          (λ i. (w.set.ensures i, w.set-else-eq.ensures i)) (w.if-is_seen_within.ensures refl)))
    ]

apart : (c : After-fill) → c.args.pair.now.sup ≢ c.args.pair.now.sub
apart c = eqb_false _ _ c.if-eq.ensures

within : (c : After-fill) → c.args.pair.now.sup < length c.args.marks.now.items
within c = omega (arith, c.requires.sup, c.requires.width)

pub returns-clause-visits : goal.returns-clause-visits
returns-clause-visits c =
    let d = (goal.at.returns-clause-visits c).After-fill in
    let marks = c.args.marks.now.items in
    let sup = c.args.pair.now.sup in
    let at = c.sup.inside.0 in
    let is : at ≡ sup = c.sup.view_is in
    let read : c.index_mut.result.now ≡ get_or marks sup false =
    get_or_read marks at c.index_mut.result.now (omega (arith, is, within d)) c.index_mut.ensures.value false
    ∙ ap (λ (i : ℕ). get_or marks i false) is in
    let goes : (i : ℕ) → (b : Bool) → Type 0 =
    λ i b. Visits c.args.problem.now c.args.pair.now.sub c.args.values.now c.fill.new.values marks
    (set marks i (b || c.in_ok-new.new)) c.in_ok-new.new in
    subst (λ i. goes i c.index_mut.result.now) (sym is) (subst (λ b. goes sup b) (sym read)
    (visits_pair c.args.problem.now c.args.pair.now.sub sup c.args.pair.now.constraints.now c.args.values.now
    c.fill.new.values marks
    c.in_ok-new.new c.requires.pair (apart d)
    (within d) c.requires.shaped c.in_ok-new.ensures.gains c.in_ok-new.ensures.asks c.in_ok-new.ensures.tells))

pub returns-clause-met : goal.returns-clause-met
returns-clause-met c =
    let d = (goal.at.returns-clause-met c).After-fill in
    met_pair c.args.problem.now c.args.pair.now.sub c.args.pair.now.sup c.args.pair.now.constraints.now
    c.args.values.now c.fill.new.values
    c.args.marks.now.items c.in_ok-new.new c.requires.pair (apart d)
    (within d) c.requires.shaped c.in_ok-new.ensures.gains c.in_ok-new.ensures.asks c.in_ok-new.ensures.tells
