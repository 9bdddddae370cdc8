use Rattle.std.proofs.Common.{◌≡◌, ℕ, ◌+◌, ◌-◌, ◌<◌, ◌≤◌, Bool, List, [], length, set, IfOk, OnOk, sym, ap, ◌∙◌, subst, arith}
use Rattle.std.proofs.lemmas.List.{get_or_read, set-get_or}
use Rattle.std.proofs.lemmas.Result.{on_err_weaker}
use Rattle.nll_sets.specs.Runs.{IsWithin}
use Rattle.nll_core.specs.Growing.{Gains, Tells, missing_pairs}
use Rattle.nll_core.specs.Values.{set_of, IsHeld}
use Rattle.nll_core.proofs.RunValueLemmas.{gains_filled, covers_filled, tells_filled, fewer_filled}
use Rattle.nll_core.proofs.values.Values.insert_run.Goals as goal

pub returns-clause-tells : goal.returns-clause-tells
returns-clause-tells c =
    let sets = c.self.inside.sets.items in
    let at = c.region.inside.0 in
    let within : at < length sets =
    omega (arith, c.requires.region, c.region.view_is, ap (λ (v : List (List Bool)). length v) c.self.view_is) in
    let is = get_or_read sets at c.index_mut.result.now within c.index_mut.ensures.value [] in
    subst (λ (old : List (List Bool)). IfOk c.insert_run.result
    (λ new. Tells new old (set sets at c.insert_run.new.self))) c.self.view_is
    (tells_filled sets at c.index_mut.result.now c.insert_run.new.self c.args.run c.insert_run.result within is
    c.insert_run.ensures.ok c.insert_run.ensures.same c.insert_run.ensures.fresh)

pub returns-clause-fewer : goal.returns-clause-fewer
returns-clause-fewer c =
    let sets = c.self.inside.sets.items in
    let at = c.region.inside.0 in
    let new = c.insert_run.new.self in
    let run = c.args.run in
    let within : at < length sets =
    omega (arith, c.requires.region, c.region.view_is, ap (λ (v : List (List Bool)). length v) c.self.view_is) in
    let is = get_or_read sets at c.index_mut.result.now within c.index_mut.ensures.value [] in
    let same : at ≡ c.args.region = omega (arith, c.region.view_is) in
    subst (λ (old : List (List Bool)). OnOk c.insert_run.result
    (((e : ℕ) → IsWithin run e → IsHeld old c.args.region e → ⊥)
    → missing_pairs (set sets at new) + (run.last + 1 - run.first) ≤ missing_pairs old)) c.self.view_is
    (subst (λ r. OnOk c.insert_run.result
    (((e : ℕ) → IsWithin run e → IsHeld sets r e → ⊥)
    → missing_pairs (set sets at new) + (run.last + 1 - run.first) ≤ missing_pairs sets)) same
    (fewer_filled sets at c.index_mut.result.now new run c.insert_run.result within c.requires.proper is
    c.insert_run.ensures.ok))

pub insert_run-requires : goal.insert_run-requires
insert_run-requires c =
    let sets = c.self.inside.sets.items in
    let at = c.region.inside.0 in
    let within : at < length sets =
    omega (arith, c.requires.region, c.region.view_is, ap (λ (v : List (List Bool)). length v) c.self.view_is) in
    let is = get_or_read sets at c.index_mut.result.now within c.index_mut.ensures.value [] in
    record {
      proper = c.requires.proper;
      below = subst (λ (set : List Bool). c.args.run.last < length set) (sym is)
          (subst (λ (r : ℕ). c.args.run.last < length (set_of sets r)) (sym c.region.view_is)
          (subst (λ (old : List (List Bool)). c.args.run.last < length (set_of old c.args.region))
          (sym c.self.view_is) c.requires.below));
    }

pub returns-clause-gains : goal.returns-clause-gains
returns-clause-gains c =
    let sets = c.self.inside.sets.items in
    let at = c.region.inside.0 in
    let within : at < length sets =
    omega (arith, c.requires.region, c.region.view_is, ap (λ (v : List (List Bool)). length v) c.self.view_is) in
    let new = c.insert_run.new.self in
    let run = c.args.run in
    let is = get_or_read sets at c.index_mut.result.now within c.index_mut.ensures.value [] in
    subst (λ (old : List (List Bool)). OnOk c.insert_run.result
    (Gains (λ r e. (r ≡ c.args.region) × IsWithin run e) old (set sets at new))) c.self.view_is
    (subst (λ (here : ℕ). OnOk c.insert_run.result
    (Gains (λ r e. (r ≡ here) × IsWithin run e) sets (set sets at new))) c.region.view_is
    (gains_filled sets at c.index_mut.result.now new run c.insert_run.result within is c.insert_run.ensures.ok))

pub returns-clause-covers : goal.returns-clause-covers
returns-clause-covers c =
    let sets = c.self.inside.sets.items in
    let at = c.region.inside.0 in
    let within : at < length sets =
    omega (arith, c.requires.region, c.region.view_is, ap (λ (v : List (List Bool)). length v) c.self.view_is) in
    let new = c.insert_run.new.self in
    subst (λ (here : ℕ). OnOk c.insert_run.result
    ((e : ℕ) → IsWithin c.args.run e → IsHeld (set sets at new) here e)) c.region.view_is
    (covers_filled sets at c.index_mut.result.now new c.args.run c.insert_run.result within c.insert_run.ensures.ok)

pub returns-clause-err : goal.returns-clause-err
returns-clause-err c =
    let sets = c.self.inside.sets.items in
    let at = c.region.inside.0 in
    let within : at < length sets =
    omega (arith, c.requires.region, c.region.view_is, ap (λ (v : List (List Bool)). length v) c.self.view_is) in
    let is = get_or_read sets at c.index_mut.result.now within c.index_mut.ensures.value [] in
    on_err_weaker c.insert_run.result
    (λ same. ap (λ (row : List Bool). set sets at row) (same ∙ is) ∙ set-get_or sets at [] ∙ c.self.view_is)
    c.insert_run.ensures.err
