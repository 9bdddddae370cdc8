use Rattle.std.proofs.Common.{◌≡◌, ◌<◌, ◌≤◌, ℕ, length, get_or, true, false, ltb, rules, sym, ap, ◌∙◌, subst, arith}
use Rattle.std.proofs.lemmas.Bool.{ltb-true, leb-true, le-leb}
use Rattle.std.proofs.lemmas.List.{get_or_default}
use Rattle.std.specs.List.Sorted.{IsPartitionPoint}
use Rattle.std.proofs.lemmas.List.Sorted.{IsPartitionPoint-from_clause, IsPartitionedBy-ltb}
use Rattle.nll_problem.specs.Graph.{Graph, IsReturn}
use Rattle.nll_core.specs.Lines.{AreReturns}
use Rattle.nll_core.proofs.ReturnLemmas.{returns_rise, return_found, return_least}
use Rattle.nll_core.proofs.frontiers.landings.Landings.has_return_in.Goals as goal
use Rattle.nll_core.proofs.frontiers.landings.Landings.has_return_in.Goals.{After-partition_point-at}

are : (c : After-partition_point-at) → AreReturns c.args.self.now c.deref.result.now
are c = subst (λ (g : Graph). AreReturns g c.deref.result.now) c.self.view_is
    (subst (AreReturns c.self.inside.graph.value) (sym c.deref.ensures.value) c.self.invariant.1)

parted : (c : After-partition_point-at)
    → IsPartitionPoint (λ (x : ℕ). ltb x c.args.run.first ≡ true)
    (λ (x : ℕ). ltb x c.args.run.first ≡ false) c.deref.result.now c.partition_point-at.result
parted c =
    IsPartitionPoint-from_clause (λ (x : ℕ). ltb x c.args.run.first) c.deref.result.now _
    c.partition_point-at.ensures.partitioned
    (IsPartitionedBy-ltb (λ (x : ℕ). x) c.deref.result.now c.args.run.first
    (returns_rise c.deref.result.now (are c).0)) (λ a r q k. search rules)

-- a return point from the first of the run on stands at the place or behind it
least : (c : After-partition_point-at) (x : ℕ) → IsReturn c.args.self.now x → c.args.run.first ≤ x
    → (c.partition_point-at.result < length c.deref.result.now)
    × (get_or c.deref.result.now c.partition_point-at.result 0 ≤ x)
least c x back low =
    return_least c.deref.result.now (are c).0 c.args.run.first _ (parted c) x (((are c).1 x).1 back) low

pub returns-then-at-len : goal.returns-then-at-len
returns-then-at-len c =
    let d = (goal.at.returns-then-at-len c).After-partition_point-at in
    let at = c.partition_point-at.result in
    let list = c.deref.result.now in
    let within : at < length list =
    omega (arith, c.if-at-len.true, c.len.ensures, c.deref.ensures.len, ap length c.deref.ensures.value) in
    let value : c.index.result.now ≡ get_or list at c.index.result.now =
    c.index.ensures ∙ ap (λ xs. get_or xs at c.index.result.now) (sym c.deref.ensures.value) in
    let here : c.index.result.now ≡ get_or list at 0 =
    value ∙ get_or_default list at c.index.result.now 0 within in (
      λ h. (
        c.index.result.now,
        (
          omega (arith, return_found list (are d).0 c.args.run.first at (parted d) within, here),
          omega (arith, leb-true _ _ h),
        ),
        ((are d).1 _).0 (at, within, sym value),
      ),
      λ w. le-leb _ _ (omega (arith, (least d w.0 w.2 w.1.0).1, here, w.1.1)),
    )

pub returns-else-at-len : goal.returns-else-at-len
returns-else-at-len c =
    let d = (goal.at.returns-else-at-len c).After-partition_point-at in (
      λ h. absurd (omega (arith, ltb-true _ _ h, c.if-at-len.false)),
      λ w. absurd (omega (
        arith,
        (least d w.0 w.2 w.1.0).0,
        c.if-at-len.false,
        c.len.ensures,
        c.deref.ensures.len,
        ap length c.deref.ensures.value,
      )),
    )
