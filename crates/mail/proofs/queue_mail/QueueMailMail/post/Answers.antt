use Rattle.std.proofs.Common.{ap}
use Rattle.mail.specs.declared.queue_mail.Known.{Known}
use Rattle.mail.proofs.OrderLemmas.{posts}
use Rattle.mail.proofs.queue_mail.QueueMailMail.post.Goals as goal

pub push_as-requires-clause-rule : goal.push_as-requires-clause-rule
push_as-requires-clause-rule g c =
    let sender = c.args.sender.now in
    λ n. posts n sender.pass.id sender.pass.me.view.client c.args.message
    (ap (λ (end : Known _). end.posts) sender.knows) c.requires
