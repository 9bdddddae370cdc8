use Rattle.std.proofs.Common.{length, refl, sym, ap, ◌∙◌}
use Rattle.std.proofs.lemmas.Result.{IfOk-from_err}
use Rattle.mail.specs.declared.queue_mail.Known.{Known}
use Rattle.mail.specs.declared.queue_mail.Kept.{Kept}
use Rattle.mail.proofs.OrderLemmas.{begins, splits, poster_knows, taker_knows}
use Rattle.mail.proofs.queue_mail.QueueMailMail.pair.Goals as goal

pub with_rule-requires : goal.with_rule-requires
with_rule-requires g c = begins

pub another-taker-requires : goal.another-taker-requires
another-taker-requires g c =
    let pass = c.in_ok-queue.poster in
    let first = c.in_ok-queue.ensures.2 in
    record {
      queue = c.in_ok-queue.ensures.0;
      rule = splits pass.id pass.me.view.client (ap (λ (end : Known _). end.posts) first)
          (ap (λ (end : Known _). end.takes) first);
    }

pub returns-in_err-queue : goal.returns-in_err-queue
returns-in_err-queue g c =
    let back = c.from_residual in
    record {
      pair = IfOk-from_err back.result _ back.ensures.0;
      ends = IfOk-from_err back.result _ back.ensures.0;
      sent = IfOk-from_err back.result _ back.ensures.0;
      received = IfOk-from_err back.result _ back.ensures.0;
    }

pub returns-in_err-kept : goal.returns-in_err-kept
returns-in_err-kept g c =
    let back = c.from_residual-in_err-kept in
    record {
      pair = IfOk-from_err back.result _ back.ensures.0;
      ends = IfOk-from_err back.result _ back.ensures.0;
      sent = IfOk-from_err back.result _ back.ensures.0;
      received = IfOk-from_err back.result _ back.ensures.0;
    }

pub returns-in_err-other : goal.returns-in_err-other
returns-in_err-other g c =
    let back = c.from_residual-in_err-other in
    record {
      pair = IfOk-from_err back.result _ back.ensures.0;
      ends = IfOk-from_err back.result _ back.ensures.0;
      sent = IfOk-from_err back.result _ back.ensures.0;
      received = IfOk-from_err back.result _ back.ensures.0;
    }

pub invariant_of-sender : goal.invariant_of-sender
invariant_of-sender g c =
    record {
      fits = rw c.in_ok-kept.ensures.ok c.another-taker.ensures.queue.0;
      knows = poster_knows c.another-taker.new.pass.me.view.client c.in_ok-queue.poster.me.view.client.sent
          c.another-taker.ensures.rule.0;
    }

pub invariant_of-receiver : goal.invariant_of-receiver
invariant_of-receiver g c =
    let rule = c.another-taker.ensures.rule.1 in
    let first = c.in_ok-queue.ensures.2 in
    record {
      fits = rw (c.in_ok-other.ensures, c.in_ok-kept.ensures.ok) c.another-taker.ensures.queue.2;
      knows = taker_knows c.another-taker.result.me.view.client c.in_ok-queue.poster.me.view.client.received rule;
      counted =
          sym (ap (λ (end : Known _). length end.received) rule ∙ ap (λ (end : Known _). length end.received) first);
    }

pub returns : goal.returns
returns g c =
    let rule = c.another-taker.ensures.rule in
    let first = c.in_ok-queue.ensures.2 in
    record {
      pair = ap (λ (kept : Kept _). kept.queue) c.in_ok-other.ensures;
      ends = refl;
      sent = ap (λ (end : Known _). end.sent) rule.0 ∙ ap (λ (end : Known _). end.sent) first;
      received = ap (λ (end : Known _). end.received) rule.1 ∙ ap (λ (end : Known _). end.received) first;
    }
