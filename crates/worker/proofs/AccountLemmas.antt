-- Shares that stay open, and workers that stay at work.
use Rattle.std.proofs.Common.{List, refl, ◌∙◌}
use Rattle.std.specs.Prelude.{Option}
use Rattle.mail.specs.declared.mail.Mail as Mail
use Rattle.ledger.specs.declared.ledger.Ledger as Ledger
use Rattle.fixpoint.specs.Rules.{Rules}
use Rattle.fixpoint.specs.State.{State, IsSoundPart}
use Rattle.worker.specs.Finishing.{IsOpenStill}
use Rattle.worker.specs.Mailboxes.{Both, Keeps}
use Rattle.worker.specs.Turning.{StaysAtWork}
use Rattle.worker.proofs.ListLemmas.{alike_refl, both_refl, keeps_on}
use Rattle.worker.proofs.TallyLemmas.{grown_self, grown_on}

module _ {L B H E : Type 0} (ledger : Ledger.Ghosts L B H E) where
  pub still_refl : (book : B) (share : H) → ledger.belongs book share → IsOpenStill ledger book share book share
  still_refl book share of_book = record { of_book = of_book; book_is = refl; number_is = refl; called_is = refl }

  pub still_on : (a b c : B) (x y z : H) → IsOpenStill ledger a x b y → IsOpenStill ledger b y c z
      → IsOpenStill ledger a x c z
  still_on a b c x y z first then = record {
    of_book = then.of_book;
    book_is = then.book_is ∙ first.book_is;
    number_is = then.number_is ∙ first.number_is;
    called_is = then.called_is ∙ first.called_is;
  }

  module _ {A F G : Type 0} (rules : Rules A F G) {M S R C P : Type 0} (mail : Mail.Ghosts M G S R C P) where
    pub stays_none : (o : State A G) (book : B) (share : H) (ends : List (Option R)) → IsSoundPart rules o
        → ledger.belongs book share → StaysAtWork rules ledger mail o o book share book share ends ends
    stays_none o book share ends sound of_book = record {
      grows = grown_self rules o o refl;
      sound = sound;
      still = still_refl book share of_book;
      keeps = alike_refl (Both (Keeps mail)) (both_refl (Keeps mail) (λ r. ((λ s p. p), (λ s p. p), refl))) ends;
    }

    pub stays_on : (o n m : State A G) (a b c : B) (x y z : H) (us vs ws : List (Option R))
        → StaysAtWork rules ledger mail o n a x b y us vs → StaysAtWork rules ledger mail n m b y c z vs ws
        → StaysAtWork rules ledger mail o m a x c z us ws
    stays_on o n m a b c x y z us vs ws first then = record {
      grows = grown_on rules o n m first.grows then.grows;
      sound = then.sound;
      still = still_on a b c x y z first.still then.still;
      keeps = keeps_on mail us vs ws first.keeps then.keeps;
    }
