use Rattle.std.proofs.Common.{◌≡◌, ◌<◌, ◌≤◌, ℕ, List, length, map, drop, refl, sym, arith}
use Rattle.nll_owner.specs.Following.{HasCaughtUp, IsLinkBehind, link_shape}
use Rattle.nll_owner.specs.RegionRuns.{IsToldByRuns}
use Rattle.nll_owner.specs.declared.link.Link.{Link}
use Rattle.nll_owner.proofs.OwnerLemmas.{grows_le, grows_none, grows_append}
use Rattle.nll_owner.proofs.RegionRunLemmas.{due_grows}
use Rattle.nll_owner.proofs.LinkLemmas.{before_next, behind_next, behind_grows, followed_grows, same_count, shapes_kept}
use Rattle.nll_owner.proofs.link.advance_all.Goals as goal

within : (n : ℕ) (old row : List Link) → n < length old → map link_shape row ≡ map link_shape old → n < length row
within n old row low same = omega (arith, low, same_count old row same)

pub loop-number-init : goal.loop-number-init
loop-number-init c = record {
  grows = grows_none _ c.requires.due.inside.sound;
  same = refl;
  done = λ k x low is. absurd (omega (arith, low));
  left = λ k x low high is. c.requires.behind x (k, high, is);
}

pub advance-requires-clause-due : goal.advance-requires-clause-due
advance-requires-clause-due c = due_grows _ _ c.loop-number.invariant.grows _ c.requires.due

pub advance-requires-clause-behind : goal.advance-requires-clause-behind
advance-requires-clause-behind c =
    c.loop-number.invariant.left c.loop-number.number c.index_mut-link.result.now (omega arith)
    (within _ c.args.row.now.items _ (omega (arith, c.loop-number-test.true, c.len-number-end.ensures))
    c.loop-number.invariant.same) (sym c.index_mut-link.ensures.value)

pub returns-in_err-advance-clause-same : goal.returns-in_err-advance-clause-same
returns-in_err-advance-clause-same c =
    shapes_kept c.args.row.now.items c.loop-number.row.items c.loop-number.number c.index_mut-link.result.now
    c.advance.new.link
    c.loop-number.invariant.same c.index_mut-link.ensures.value c.advance.ensures.same

pub loop-number-preserved : goal.loop-number-preserved
loop-number-preserved c =
    let in_row = within _ c.args.row.now.items _ (omega (arith, c.loop-number-test.true, c.len-number-end.ensures))
    c.loop-number.invariant.same in
    let n = c.advance.new.knowledge in
    let due = c.args.due.now in
    let low : due.place ≤ length c.loop-number.knowledge.log =
    omega (arith, c.requires.due.inside.place, grows_le _ _ c.loop-number.invariant.grows) in
    record {
      grows = grows_append _ _ _ c.loop-number.invariant.grows c.advance.ensures.grows;
      same = shapes_kept c.args.row.now.items c.loop-number.row.items c.loop-number.number c.index_mut-link.result.now
          c.advance.new.link
          c.loop-number.invariant.same c.index_mut-link.ensures.value c.advance.ensures.same;
      done = before_next (λ x. HasCaughtUp n due x) c.loop-number.row.items c.loop-number.number c.advance.new.link
          in_row
          (λ k x early is. followed_grows c.loop-number.knowledge n c.advance.ensures.grows due.place
          (IsToldByRuns (drop due.count due.runs.now)) due.region x low
          (c.loop-number.invariant.done k x early is)) c.in_ok-advance.ensures.followed;
      left = behind_next (λ x. IsLinkBehind n due x) c.loop-number.row.items c.loop-number.number c.advance.new.link
          in_row
          (λ k x early high is. behind_grows c.loop-number.knowledge n c.advance.ensures.grows due x low
          (c.loop-number.invariant.left k x early high is));
    }

pub returns-in_err-advance-clause-grows : goal.returns-in_err-advance-clause-grows
returns-in_err-advance-clause-grows c = grows_append _ _ _ c.loop-number.invariant.grows c.advance.ensures.grows

pub returns-clause-followed : goal.returns-clause-followed
returns-clause-followed c = λ l h.
    c.loop-number.invariant.done h.0 l (omega (
      arith,
      h.1,
      c.loop-number-test.false,
      c.len-number-end.ensures,
      same_count c.args.row.now.items c.loop-number.row.items c.loop-number.invariant.same,
    )) h.2
