use Rattle.std.proofs.Common.{map, refl, sym, ◌∙◌, subst}
use Rattle.worker.specs.Mailboxes.{HasEnds, Stays, Keeps, Both, through}
use Rattle.worker.specs.Turning.{IsAtRest}
use Rattle.worker.proofs.ListLemmas.{alike_refl, stays_on, keeps_on, both_refl, ends_kept}
use Rattle.worker.proofs.PostLemmas.{posts_first, posts_grown}
use Rattle.worker.proofs.TurnLemmas.{taken_all, rests_open}
use Rattle.worker.proofs.FinishLemmas.{is_given, is_grown, finishes_fail, finishes_stray, finishes_quiet, finishes_left}
use Rattle.worker.proofs.work_loop.work_on.Goals as goal
use Rattle.worker.proofs.work_loop.work_on.Goals.{in-Growths, in-Nothing}

pub loop-init : goal.loop-init
loop-init g c =
    let f = c.first_turn-heard in
    let fresh = c.requires.fresh in (
      tt,
      tt,
      record { system = f.ensures.grows.system; me = f.ensures.grows.me },
      f.ensures.sound,
      (
        f.ensures.still.of_book,
        f.ensures.still.book_is,
        f.ensures.still.number_is ∙ fresh.number_is,
        f.ensures.still.called_is ∙ fresh.called_is,
      ),
      f.ensures.comes _ c.requires.taken,
      posts_first g.A.Rules.rules _ _ (g.A.Analysis.state c.args.part.now)
          (g.A.Analysis.state f.new.part) _ c.requires.first f.ensures.grows c.requires.posts,
      alike_refl (Both (Stays g.M.Mail)) (both_refl (Stays g.M.Mail) (λ s r p. p)) c.args.senders.now.items,
      alike_refl (Both (Keeps g.M.Mail)) (both_refl (Keeps g.M.Mail) (λ r. ((λ s p. p), (λ s p. p), refl)))
          c.args.inbox.now.receivers.items,
    )

pub share_out-heard-requires-clause-ends : goal.share_out-heard-requires-clause-ends
share_out-heard-requires-clause-ends g c =
    let l = c.loop.invariant in
    subst (λ i. HasEnds i c.loop.senders.items) (sym l.2.me)
    (ends_kept (Stays g.M.Mail) (g.A.Analysis.state c.args.part.now).me _ _ l.7 c.requires.ends)

pub returns-in-Stray-clause-finishes : goal.returns-in-Stray-clause-finishes
returns-in-Stray-clause-finishes g c =
    let l = c.loop.invariant in
    let s = c.share_out-heard in
    let came = c.in-Stray.ensures.comes _ _ _ l.5 in
    finishes_stray g.A.Rules.rules _ _ (g.A.Analysis.state s.new.part) _ _ _ _
    (is_given g.A.Rules.rules _ _ (g.A.Analysis.state c.loop.part) (g.A.Analysis.state s.new.part) s.ensures.others
    l.2) s.ensures.posts s.ensures.sound came.0 came.1

pub returns-in-Memory-clause-finishes : goal.returns-in-Memory-clause-finishes
returns-in-Memory-clause-finishes g c =
    let l = c.loop.invariant in
    let s = c.share_out-heard in
    let came = c.in-Memory.ensures.comes _ _ _ l.5 in
    finishes_fail g.A.Rules.rules _ _ (g.A.Analysis.state s.new.part) _ _ _ _
    (is_given g.A.Rules.rules _ _ (g.A.Analysis.state c.loop.part) (g.A.Analysis.state s.new.part) s.ensures.others
    l.2) s.ensures.posts _ s.ensures.sound came (λ e. cc)
    (λ e. cc)

pub returns-in-Quiet-clause-finishes : goal.returns-in-Quiet-clause-finishes
returns-in-Quiet-clause-finishes g c =
    let l = c.loop.invariant in
    let s = c.share_out-heard in
    let rest : IsAtRest g.A.Rules.rules (g.A.Analysis.state s.new.part) (map
    (through g.M.Mail.received) c.loop.inbox.receivers.items)
    (g.L.Ledger.owed c.loop.account.share)
    (g.L.Ledger.cleared c.loop.account.share) s.new.tally = elim c.match-heard.branch [
      | in-Growths w ↦ w.in-Growths.ensures.comes _ _ _ l.5
      | in-Nothing w ↦ w.in-Nothing.ensures.comes _ _ _ l.5
    ] in
    finishes_left g.A.Rules.rules _ _ (g.A.Analysis.state s.new.part) _ _ _ _ _ _ _ c.in-Quiet.ensures.left.2
    c.in-Quiet.ensures.left.3
    (finishes_quiet g.A.Rules.rules _ _ (g.A.Analysis.state s.new.part) _ _ _ _
    (is_given g.A.Rules.rules _ _ (g.A.Analysis.state c.loop.part) (g.A.Analysis.state s.new.part) s.ensures.others
    l.2) s.ensures.posts s.new.tally rest
    c.in-Quiet.ensures.quiet.1)

pub returns-in-Stopped-clause-finishes : goal.returns-in-Stopped-clause-finishes
returns-in-Stopped-clause-finishes g c =
    let l = c.loop.invariant in
    let s = c.share_out-heard in
    let rest : IsAtRest g.A.Rules.rules (g.A.Analysis.state s.new.part) (map
    (through g.M.Mail.received) c.loop.inbox.receivers.items)
    (g.L.Ledger.owed c.loop.account.share)
    (g.L.Ledger.cleared c.loop.account.share) s.new.tally = elim c.match-heard.branch [
      | in-Growths w ↦ w.in-Growths.ensures.comes _ _ _ l.5
      | in-Nothing w ↦ w.in-Nothing.ensures.comes _ _ _ l.5
    ] in
    finishes_fail g.A.Rules.rules _ _ (g.A.Analysis.state s.new.part) _ _ _ _
    (is_given g.A.Rules.rules _ _ (g.A.Analysis.state c.loop.part) (g.A.Analysis.state s.new.part) s.ensures.others
    l.2) s.ensures.posts _ s.ensures.sound
    (taken_all g.A.Rules.rules (g.A.Analysis.state s.new.part) _ _ 0 rest.taking) (λ e. cc) (λ e. cc)

pub returns-in-Stray-clause-pairs : goal.returns-in-Stray-clause-pairs
returns-in-Stray-clause-pairs g c = stays_on g.M.Mail _ _ _ c.loop.invariant.7 c.share_out-heard.ensures.pairs

pub returns-in-Memory-clause-pairs : goal.returns-in-Memory-clause-pairs
returns-in-Memory-clause-pairs g c = stays_on g.M.Mail _ _ _ c.loop.invariant.7 c.share_out-heard.ensures.pairs

pub returns-in-Quiet-clause-pairs : goal.returns-in-Quiet-clause-pairs
returns-in-Quiet-clause-pairs g c = stays_on g.M.Mail _ _ _ c.loop.invariant.7 c.share_out-heard.ensures.pairs

pub returns-in-Stopped-clause-pairs : goal.returns-in-Stopped-clause-pairs
returns-in-Stopped-clause-pairs g c = stays_on g.M.Mail _ _ _ c.loop.invariant.7 c.share_out-heard.ensures.pairs

pub rounds-heard-requires-clause-rests : goal.rounds-heard-requires-clause-rests
rounds-heard-requires-clause-rests g c =
    let l = c.loop.invariant in
    let s = c.share_out-heard in
    let rest : IsAtRest g.A.Rules.rules (g.A.Analysis.state s.new.part) (map
    (through g.M.Mail.received) c.loop.inbox.receivers.items)
    (g.L.Ledger.owed c.loop.account.share)
    (g.L.Ledger.cleared c.loop.account.share) s.new.tally = elim c.match-heard.branch [
      | in-Growths w ↦ w.in-Growths.ensures.comes _ _ _ l.5
      | in-Nothing w ↦ w.in-Nothing.ensures.comes _ _ _ l.5
    ] in
    rests_open g.A.Rules.rules (g.A.Analysis.state s.new.part) _ _ _ _ _ s.new.tally c.in-Open.ensures.back.2
    c.in-Open.ensures.back.3 rest

pub loop-preserved : goal.loop-preserved
loop-preserved g c =
    let l = c.loop.invariant in
    let s = c.share_out-heard in
    let f = c.rounds-heard.ensures in
    let back = c.in-Open.ensures.back in (
      tt,
      tt,
      is_grown g.A.Rules.rules _ _ (g.A.Analysis.state s.new.part) (g.A.Analysis.state c.rounds-heard.new.part)
          f.stays.grows
          (is_given g.A.Rules.rules _ _ (g.A.Analysis.state c.loop.part)
          (g.A.Analysis.state s.new.part) s.ensures.others l.2),
      f.stays.sound,
      (
        f.stays.still.of_book,
        f.stays.still.book_is ∙ l.4.1,
        f.stays.still.number_is ∙ (back.1 ∙ l.4.2),
        f.stays.still.called_is ∙
            (back.4 ∙ l.4.3),
      ),
      f.comes,
      posts_grown g.A.Rules.rules (g.A.Analysis.state s.new.part) (g.A.Analysis.state c.rounds-heard.new.part) _
          f.stays.grows s.ensures.sound s.ensures.posts,
      stays_on g.M.Mail _ _ _ l.7 s.ensures.pairs,
      keeps_on g.M.Mail _ _ _ l.8 f.stays.keeps,
    )

pub share_out-heard-requires-clause-came : goal.share_out-heard-requires-clause-came
share_out-heard-requires-clause-came g c = (_, _, _, c.loop.invariant.5)
