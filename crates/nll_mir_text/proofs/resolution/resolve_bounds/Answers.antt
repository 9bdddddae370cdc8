use Rattle.std.proofs.Common.{◌≡◌, ℕ, Bool, true, false, ap, sym, refl, append-nil, ◌∙◌, arith}
use Rattle.std.specs.Prelude.{◌&&◌}
use Rattle.std.specs.Cmp.Derive.{both_true}
use Rattle.std.specs.List.{list_all}
use Rattle.std.proofs.lemmas.List.{take_all, length-map}
use Rattle.std.proofs.lemmas.List.Folds.{list_all_at, list_all_more}
use Rattle.nll_body.proofs.AddedLemmas.{listed_behind}
use Rattle.nll_body.proofs.FlatLemmas.{grows_further}
use Rattle.nll_mir_text.specs.ResolvedStatements.{is_bound, bound_numbers}
use Rattle.nll_mir_text.proofs.CallLemmas.{behind_more}
use Rattle.nll_mir_text.proofs.ResolvedLemmas.{grows_same}
use Rattle.nll_mir_text.proofs.resolution.resolve_bounds.Goals as goal

pub loop-bound-init : goal.loop-bound-init
loop-bound-init c = record {
  grows = grows_same c.args.statements.now;
  known = refl;
  made = sym (append-nil _);
}

pub returns-in_err-add_pair-clause-grows : goal.returns-in_err-add_pair-clause-grows
returns-in_err-add_pair-clause-grows c =
    grows_further _ _ _ c.loop-bound.invariant.grows c.in_err-add_pair.ensures.grows

-- one of the names isn't among them
not_first : (a b : Bool) → a ≡ false → (a && b) ≡ false
not_first a b e = rw e refl

not_second : (a b : Bool) → a ≡ true → b ≡ false → (a && b) ≡ false
not_second a b e f = rw (e, f) refl

pub returns-in_default-clause-made : goal.returns-in_default-clause-made
returns-in_default-clause-made c =
    list_all_at (is_bound c.args.names.now) c.args.bounds.now c.loop-bound.bound-index _ c.loop-bound-test.true
    (not_first _ _ (rw c.in_default.is at c.resolve_region.ensures))

pub returns-in_default-resolve_region-clause-made : goal.returns-in_default-resolve_region-clause-made
returns-in_default-resolve_region-clause-made c =
    list_all_at (is_bound c.args.names.now) c.args.bounds.now c.loop-bound.bound-index _ c.loop-bound-test.true
    (not_second _ _ c.in-Some.ensures.0 (rw c.in_default-resolve_region.is at c.resolve_region-in-loop-bound.ensures))

same_pair : (a b m n : ℕ) → a ≡ m → b ≡ n → ◌≡◌ {A = ℕ × ℕ} (a, b) (m, n)
same_pair a b m n d e = rw (d, e) refl

pub loop-bound-preserved : goal.loop-bound-preserved
loop-bound-preserved c =
    let l = c.loop-bound in
    let e = c.in_ok-add_pair.ensures in
    let longer = c.in-Some.ensures in
    let shorter = c.in-Some-resolve_region.ensures in
    record {
      grows = grows_further _ _ _ l.invariant.grows e.grows;
      known = list_all_more (is_bound c.args.names.now) c.args.bounds.now l.bound-index _ c.loop-bound-test.true
          ∙ both_true l.invariant.known (both_true longer.0 shorter.0);
      made = behind_more (bound_numbers c.args.names.now) _ _ _ _ c.args.bounds.now l.bound-index _
          c.loop-bound-test.true e.added (same_pair _ _ _ _ longer.1 shorter.1) l.invariant.made;
    }

pub returns-clause-made : goal.returns-clause-made
returns-clause-made c =
    let i = c.loop-bound.invariant in
    let all = take_all c.loop-bound.bound-index c.args.bounds.now (omega arith) in (
      ap (list_all (is_bound c.args.names.now)) (sym all) ∙ i.known,
      rw (i.made, all) (listed_behind _ _ _ c.call_counts.ensures.pairs (sym (length-map _ _))),
    )
