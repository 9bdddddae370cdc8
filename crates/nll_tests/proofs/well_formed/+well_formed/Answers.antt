use Rattle.std.proofs.Common.{◌≡◌, ◌∙◌, ap, sym, subst, length, arith}
use Rattle.nll_types.specs.Structs.{IsWellFormed}
use Rattle.nll_types.specs.Views.{tree}
use Rattle.nll_types.proofs.ViewLemmas.{tree_named}
use Rattle.nll_tests.proofs.KeepingLemmas.{good_all, named_good}
use Rattle.nll_tests.proofs.well_formed.+well_formed.Goals as goal

pub are_well_formed-returns : goal.are_well_formed-returns
are_well_formed-returns t c =
    let whole : c.loop-ty.ty-index ≡ length c.args.types.now = omega arith in
    λ h. good_all _ _ _ c.args.types.now (rw whole at c.loop-ty.invariant)

pub is_well_formed-returns-then-are_below : goal.is_well_formed-returns-then-are_below
is_well_formed-returns-then-are_below t c =
    let own = c.len.ensures ∙ c.in-Named.own.ok.0 in
    let types = c.len-in-Named.ensures ∙ c.in-Named.types.ok.0 in
    let takes = c.takes.ensures c.if-not-takes.false in
    let below = rw c.as_slice-in-Named.ensures.value at c.are_below.ensures in
    let good = rw c.as_slice-then-are_below.ensures.value at c.are_well_formed-then-are_below.ensures in
    λ h. subst (IsWellFormed _ _ _) (sym (ap tree c.in-Named.is ∙ tree_named _ _ _))
    (named_good c.args.structs.now _ _ c.in-Named.number c.in-Named.own.items c.in-Named.types.items takes.0
    (sym own ∙ takes.1) (sym types ∙ takes.2) (below c.if-are_below.true) (good h))
