use Rattle.std.proofs.Common.{◌<◌, List, [], sym, ap, ◌∙◌, subst, append-nil}
use Rattle.nll_mail.specs.declared.growth.Growth.{Growth}
use Rattle.nll_owner.specs.Logs.{IsPrefix}
use Rattle.nll_owner.specs.Keeping.{Receives}
use Rattle.nll_owner.specs.Outboxes.{TellsAs}
use Rattle.nll_owner.specs.Owner.{Owner}
use Rattle.nll_owner.proofs.OutboxLemmas.{queued_begins}
use Rattle.nll_owner.proofs.OwnerLemmas.{filled_from, read_region}
use Rattle.nll_owner.proofs.FollowingLemmas.{following_told}
use Rattle.fixpoint.proofs.ReceivingLemmas.{got_all}
use Rattle.nll_owner.proofs.calls.receive_and_queue.Goals as goal
use Rattle.nll_owner.proofs.calls.receive_and_queue.Goals.{After-follow_all}

pub follow_all-requires-clause-regions : goal.follow_all-requires-clause-regions
follow_all-requires-clause-regions c g at =
    subst (λ (o : Owner). g.region < o.problem.regions) (sym c.enter_all_received.ensures.others)
    (read_region _ c.requires.sound _ _ (c.requires.passes g at).read)

pub follow_all-requires-clause-has : goal.follow_all-requires-clause-has
follow_all-requires-clause-has c = c.in_ok-enter_all_received.ensures.has.here

pub follow_all-requires-clause-following : goal.follow_all-requires-clause-following
follow_all-requires-clause-following c =
    following_told _ _ _ _ c.enter_all_received.ensures.others c.in_ok-enter_all_received.ensures.has
    c.requires.following

-- Where receiving was refused, the log is as it was.
pub returns-in_err-enter_all_received-clause-receives : goal.returns-in_err-enter_all_received-clause-receives
returns-in_err-enter_all_received-clause-receives c =
    let mid = c.enter_all_received.new.self in
    let others = c.enter_all_received.ensures.others in
    let log = ap (λ (o : Owner). o.log) others in
    record {
      begins = ([], log ∙ sym (append-nil c.args.knowledge.now.log));
      others =
          others
          ∙ ap (λ log. record c.args.knowledge.now { log = log; received = mid.received; clock = mid.clock }) (sym log);
      perhaps = c.enter_all_received.ensures.perhaps;
      sound = c.enter_all_received.ensures.sound;
    }

-- What the log and the clock alone did since the growths were received.
receives : (c : After-follow_all)
    → Receives c.args.from c.args.growths.now c.args.knowledge.now c.follow_all.new.knowledge
receives c =
    let new = c.follow_all.new.knowledge in
    let grows = c.follow_all.ensures.grows in
    let received = ap (λ (o : Owner). o.received) grows.others in
    record {
      begins = subst (λ (log : List Growth). IsPrefix log new.log)
          (ap (λ (o : Owner). o.log) c.enter_all_received.ensures.others) grows.begins;
      others =
          grows.others
          ∙ (ap (λ (o : Owner). record o { log = new.log; clock = new.clock }) c.enter_all_received.ensures.others
          ∙ sym (ap (λ r. record c.args.knowledge.now { log = new.log; received = r; clock = new.clock }) received));
      perhaps = got_all c.args.knowledge.now.received c.args.from c.args.growths.now new.received
          (received ∙ c.in_ok-enter_all_received.ensures.received);
      sound = grows.sound;
    }

pub queue-requires-clause-tells : goal.queue-requires-clause-tells
queue-requires-clause-tells c =
    let w = receives (goal.at.queue-requires-clause-tells c).After-follow_all in
    subst (λ (o : Owner). TellsAs o c.tables.inside.readers) (sym w.others)
    (rw (← c.tables.view_is) at c.requires.tables.tells)

pub queue-requires-clause-queued : goal.queue-requires-clause-queued
queue-requires-clause-queued c =
    let w = receives (goal.at.queue-requires-clause-queued c).After-follow_all in
    queued_begins _ _ _ (ap (λ (o : Owner). o.problem) w.others) (ap (λ (o : Owner). o.cut) w.others)
    (ap (λ (o : Owner). o.given) w.others) w.begins.0 w.begins.1 c.requires.queued

pub returns-in_err-follow_all-clause-receives : goal.returns-in_err-follow_all-clause-receives
returns-in_err-follow_all-clause-receives c =
    receives (goal.at.returns-in_err-follow_all-clause-receives c).After-follow_all

pub returns-in_err-queue-clause-receives : goal.returns-in_err-queue-clause-receives
returns-in_err-queue-clause-receives c = receives (goal.at.returns-in_err-queue-clause-receives c).After-follow_all

pub returns-clause-receives : goal.returns-clause-receives
returns-clause-receives c = receives (goal.at.returns-clause-receives c).After-follow_all

pub returns-clause-received : goal.returns-clause-received
returns-clause-received c =
    ap (λ (o : Owner). o.received) c.follow_all.ensures.grows.others ∙ c.in_ok-enter_all_received.ensures.received

pub returns-clause-following : goal.returns-clause-following
returns-clause-following c = c.in_ok-follow_all.ensures.followed.0

pub returns-clause-done : goal.returns-clause-done
returns-clause-done c =
    let grows = c.follow_all.ensures.grows in
    filled_from c.follow_all.new.knowledge
    (grows.sound.based (ap (λ (o : Owner). o.loaded) grows.others
    ∙ (ap (λ (o : Owner). o.loaded) c.enter_all_received.ensures.others ∙ c.requires.loaded)))
    c.in_ok-follow_all.ensures.closed
