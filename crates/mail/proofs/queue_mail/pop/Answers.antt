use Rattle.std.proofs.Common.{◌≡◌, ◌+◌, ◌<◌, [], ◌∷◌, ◌++◌, length, refl, sym, ap, ◌∙◌, length-append, arith}
use Rattle.mail.specs.Limits.{most_posts}
use Rattle.mail.specs.declared.queue_mail.Known.{Known}
use Rattle.mail.proofs.OrderLemmas.{takes, taker_knows, taker_goes_on}
use Rattle.mail.proofs.queue_mail.pop.Goals as goal

pub pop_as-requires-clause-queue : goal.pop_as-requires-clause-queue
pop_as-requires-clause-queue g c = rw c.deref.ensures c.args.receiver.now.fits

pub pop_as-requires-clause-rule : goal.pop_as-requires-clause-rule
pop_as-requires-clause-rule g c =
    let receiver = c.args.receiver.now in (
      takes receiver.pass.id receiver.pass.me.view.client (ap (λ (end : Known _). end.takes) receiver.knows),
      λ items views h at. tt,
    )

pub invariant_of-receiver : goal.invariant_of-receiver
invariant_of-receiver g c =
    let receiver = c.args.receiver.now in
    let old = receiver.pass.me.view.client in
    let new = c.pop_as.new.pass.me.view.client in
    let same : new ≡ old = c.in_err-message.ensures.rule.0 in
    record {
      fits = rw c.deref.ensures at c.pop_as.ensures.queue.0;
      knows = taker_knows new old.received (same ∙ receiver.knows);
      counted = receiver.counted ∙ sym (ap (λ (end : Known _). length end.received) same);
    }

pub returns-in_err-message : goal.returns-in_err-message
returns-in_err-message g c =
    let same : c.pop_as.new.pass.me.view.client ≡ c.args.receiver.now.pass.me.view.client =
    c.in_err-message.ensures.rule.0 in
    rw c.from_residual.ensures (record {
      some = tt;
      none = ap (λ (end : Known _). end.received) same;
      few = tt;
      ends = (refl, refl);
      queue = refl;
    })

pub overflow_add-receiver : goal.overflow_add-receiver
overflow_add-receiver g c =
    let receiver = c.args.receiver.now in
    let few : length receiver.pass.me.view.client.received < most_posts = c.in_ok-message.ensures.rule.0.1 in
    omega (arith, few, receiver.counted)

pub invariant_of-receiver-2 : goal.invariant_of-receiver-2
invariant_of-receiver-2 g c =
    let receiver = c.args.receiver.now in
    let old = receiver.pass.me.view.client in
    let more = old.received ++ c.in_ok-message.message ∷ [] in
    let step = c.in_ok-message.ensures.rule.0.0 in
    let long : length c.pop_as.new.pass.me.view.client.received ≡ length old.received + 1 =
    ap (λ (end : Known _). length end.received) step ∙ length-append old.received (c.in_ok-message.message ∷ []) in
    record {
      fits = rw c.deref.ensures at c.pop_as.ensures.queue.0;
      knows = taker_goes_on old c.pop_as.new.pass.me.view.client more receiver.knows step;
      counted = omega (arith, receiver.counted, long);
    }

pub returns : goal.returns
returns g c =
    let step = c.in_ok-message.ensures.rule.0 in
    record {
      some = ap (λ (end : Known _). end.received) step.0;
      none = tt;
      few = step.1;
      ends = (refl, refl);
      queue = refl;
    }
