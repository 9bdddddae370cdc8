use Rattle.std.proofs.Common.{refl, subst, sym, arith}
use Rattle.worker.specs.Mailboxes.{Stays, Both}
use Rattle.worker.specs.Turning.{WorkerGoesOn}
use Rattle.worker.proofs.ListLemmas.{alike_refl, both_refl}
use Rattle.worker.proofs.TurnLemmas.{comes_given, counted_on, counted_still, were_waiting}
use Rattle.worker.proofs.PostLemmas.{none_more}
use Rattle.worker.proofs.posts.share_out.Goals as goal
use Rattle.worker.proofs.posts.share_out.Goals.{in-Growths, in-Nothing}

pub returns-in-Stray-clause-pairs : goal.returns-in-Stray-clause-pairs
returns-in-Stray-clause-pairs g c =
    alike_refl (Both (Stays g.M.Mail)) (both_refl (Stays g.M.Mail) (λ s r p. p)) c.args.senders.now.items

pub returns-in-Memory-clause-pairs : goal.returns-in-Memory-clause-pairs
returns-in-Memory-clause-pairs g c =
    alike_refl (Both (Stays g.M.Mail)) (both_refl (Stays g.M.Mail) (λ s r p. p)) c.args.senders.now.items

pub returns-then-tally-eq0-clause-pairs : goal.returns-then-tally-eq0-clause-pairs
returns-then-tally-eq0-clause-pairs g c =
    alike_refl (Both (Stays g.M.Mail)) (both_refl (Stays g.M.Mail) (λ s r p. p)) c.args.senders.now.items

pub returns-then-tally-eq0-clause-many : goal.returns-then-tally-eq0-clause-many
returns-then-tally-eq0-clause-many g c = λ unbounded goes.
    let came = c.requires.came in
    none_more g.A.Rules.rules (g.A.Analysis.state c.args.part.now) c.args.tally.now c.args.most c.requires.sound
    (counted_still g.A.Rules.rules (g.A.Analysis.state c.args.part.now) came.0 came.1 came.2 c.args.tally.now
    c.args.heard goes came.3) c.if-tally-eq0.true

pub overflow_sub-tally : goal.overflow_sub-tally
overflow_sub-tally g c =
    let came = c.requires.came in
    let goes : WorkerGoesOn c.args.heard = elim c.match-heard.branch [
      | in-Growths w ↦ subst WorkerGoesOn (sym w.in-Growths.is) tt
      | in-Nothing w ↦ subst WorkerGoesOn (sym w.in-Nothing.is) tt
    ] in
    were_waiting g.A.Rules.rules (g.A.Analysis.state c.args.part.now) (g.A.Analysis.state c.post_all.new.part)
    c.in-Ok.posted c.post_all.ensures.others c.post_all.ensures.sound c.in-Ok.ensures.count c.args.tally.now
    (counted_still g.A.Rules.rules (g.A.Analysis.state c.args.part.now) came.0 came.1 came.2 c.args.tally.now
    c.args.heard goes came.3)

pub returns-in-Ok-clause-comes : goal.returns-in-Ok-clause-comes
returns-in-Ok-clause-comes g c = λ taken owed cleared came.
    let p = c.post_all.ensures in
    let old = g.A.Analysis.state c.args.part.now in
    let new = g.A.Analysis.state c.post_all.new.part in
    let goes : WorkerGoesOn c.args.heard = elim c.match-heard.branch [
      | in-Growths w ↦ subst WorkerGoesOn (sym w.in-Growths.is) tt
      | in-Nothing w ↦ subst WorkerGoesOn (sym w.in-Nothing.is) tt
    ] in
    let was =
    counted_still g.A.Rules.rules old taken owed cleared c.args.tally.now c.args.heard goes came in
    let few = were_waiting g.A.Rules.rules old new c.in-Ok.posted p.others p.sound c.in-Ok.ensures.count
    c.args.tally.now was in
    comes_given g.A.Rules.rules old new p.others taken owed cleared c.args.tally.now _ p.sound
    (counted_on g.A.Rules.rules old new c.in-Ok.posted p.others p.sound c.in-Ok.ensures.count c.args.tally.now was _
    (omega (arith, few)))
    (refl, refl) c.args.heard came
