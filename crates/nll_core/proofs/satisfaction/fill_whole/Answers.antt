use Rattle.std.proofs.Common.{◌≡◌, ℕ, not, List, Bool, sym, subst}
use Rattle.std.proofs.lemmas.Bool.{not-true, not-false}
use Rattle.std.proofs.lemmas.Result.{on_ok_weaker}
use Rattle.nll_sets.specs.Runs.{MakeUp}
use Rattle.nll_sets.specs.declared.run.Run.{Run}
use Rattle.nll_core.specs.Growing.{Gains, Tells}
use Rattle.nll_core.specs.Search.{IsIn}
use Rattle.nll_core.specs.Values.{set_of, IsHeld}
use Rattle.nll_core.proofs.GrowingLemmas.{gains_weaker}
use Rattle.nll_core.proofs.RunValueLemmas.{gains_copied, covers_copied, tells_copied}
use Rattle.nll_core.proofs.satisfaction.fill_whole.Goals as goal
use Rattle.nll_core.proofs.satisfaction.fill_whole.Goals.{After-fill_all, Then-is_empty}

-- the region that is filled holds nothing
nothing : (c : Then-is_empty) → (e : ℕ) → IsHeld c.args.values.now c.args.sup e → ⊥
nothing c = subst (λ (s : List Bool). (e : ℕ) → IsIn s e → ⊥) c.set.ensures (c.is_empty.ensures.yes c.if-is_empty.true)

pub returns-then-is_empty-clause-gains : goal.returns-then-is_empty-clause-gains
returns-then-is_empty-clause-gains c =
    subst (λ (new : List (List Bool)). Gains
    (λ r e. (r ≡ c.args.sup) × IsHeld c.args.values.now c.args.sub e) c.args.values.now new)
    (sym c.in_ok-copy.ensures.ok)
    (gains_copied c.args.values.now c.args.sub c.args.sup c.requires.sup c.requires.widths
    (nothing (goal.at.returns-then-is_empty-clause-gains c).Then-is_empty))

pub returns-then-is_empty-clause-covers : goal.returns-then-is_empty-clause-covers
returns-then-is_empty-clause-covers c =
    subst (λ (new : List (List Bool)). (e : ℕ) → IsHeld c.args.values.now c.args.sub e → IsHeld new c.args.sup e)
    (sym c.in_ok-copy.ensures.ok)
    (covers_copied c.args.values.now c.args.sub c.args.sup c.requires.sup c.requires.widths
    (nothing (goal.at.returns-then-is_empty-clause-covers c).Then-is_empty))

pub returns-then-is_empty-clause-tells : goal.returns-then-is_empty-clause-tells
returns-then-is_empty-clause-tells c =
    let empty = c.is_empty-new.result in
    subst (λ (new : List (List Bool)). Tells (not empty) c.args.values.now new) (sym c.in_ok-copy.ensures.ok)
    (tells_copied c.args.values.now c.args.sub c.args.sup c.requires.sup c.requires.widths
    (nothing (goal.at.returns-then-is_empty-clause-tells c).Then-is_empty) (not empty)
    (λ h. subst (λ (s : List Bool). (e : ℕ) → IsIn s e → ⊥) c.set-then-is_empty.ensures
    (c.is_empty-new.ensures.yes (not-false empty h)))
    (λ h. subst (λ (s : List Bool). (e : ℕ) × IsIn s e) c.set-then-is_empty.ensures
    (c.is_empty-new.ensures.no (not-true empty h))))

-- the runs make up what the region has that is read
made_up : (c : After-fill_all) → MakeUp c.as_slice.result.now (set_of c.args.values.now c.args.sub)
made_up c =
    subst (λ (from : List Run × List Bool). MakeUp from.0 from.1)
    (λ i. (sym c.as_slice.ensures.value i, c.set-2.ensures i)) c.in_ok-list.ensures.make_up

pub returns-clause-gains : goal.returns-clause-gains
returns-clause-gains c =
    on_ok_weaker c.fill_all.result (λ gains. gains_weaker _ _ (λ r e h. (h.0, (made_up c e).0 h.1)) _ _ gains)
    c.fill_all.ensures.gains

pub returns-clause-covers : goal.returns-clause-covers
returns-clause-covers c =
    on_ok_weaker c.fill_all.result (λ covers e h. covers e ((made_up c e).1 h)) c.fill_all.ensures.covers
