use Rattle.std.proofs.Common.{refl, sym, subst, ◌∙◌}
use Rattle.worker.specs.Mailboxes.{Stays, Keeps, Both}
use Rattle.worker.specs.Finishing.{WasMade}
use Rattle.worker.proofs.ListLemmas.{alike_refl, shut_on, both_refl}
use Rattle.worker.proofs.StartLemmas.{unmade_error}
use Rattle.worker.proofs.worker.call_off.Goals as goal

pub returns-clause-ended : goal.returns-clause-ended
returns-clause-ended g c = λ a.
    let m = g.M.Mail in
    record {
      shuts = shut_on m _ _ _ (alike_refl (Both (Stays m)) (both_refl (Stays m) (λ s r p. p))
          c.args.worker.outbox.senders.items)
          c.close_all-closed.ensures;
      keeps = alike_refl (Both (Keeps m)) (both_refl (Keeps m) (λ r. ((λ s p. p), (λ s p. p), refl)))
          c.args.worker.receivers.items;
      finishes = λ made. absurd (c.requires.reason made);
      leaves = record {
        of_book = c.halt-left.ensures.left.0;
        number_is = c.halt-left.ensures.left.1 ∙ c.requires.given.1.fresh.number_is;
        quiet_is = λ e. absurd (c.requires.reason (subst (λ x. WasMade x) (sym e) tt));
        not_quiet = λ _. c.halt-left.ensures.stopped;
        called_is = λ _. unmade_error c.args.ending c.requires.reason;
      };
    }
