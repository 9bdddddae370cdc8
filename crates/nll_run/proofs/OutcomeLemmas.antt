-- The outcome of a run of the regions' parts, in the words of regions.
use Rattle.std.proofs.Common.{◌↔◌, ℕ, Bool, List, [], arith}
use Rattle.std.proofs.lemmas.Option.{slice_get-get_or}
use Rattle.mail.specs.declared.mail.Mail as Mail
use Rattle.run.specs.Outcome as generic
use Rattle.nll_problem.specs.Problem.{Problem}
use Rattle.nll_core.specs.Values.{IsHeld, IsShaped}
use Rattle.nll_cut.specs.Partition.{Cut, owner_of}
use Rattle.nll_mail.specs.declared.growth.Growth.{Growth}
use Rattle.nll_owner.specs.Holding.{Holding}
use Rattle.nll_owner.specs.Logs.{IsTold, log_of, part}
use Rattle.nll_owner.specs.Regions.{YieldsValues, system_of, fact_of, rules}
use Rattle.nll_owner.proofs.RegionLemmas.{same_least, told_to, told_from, sound_from}
use Rattle.nll_run.specs.Holdings.{HaveValuesOf, holding_of}
use Rattle.nll_run.specs.Outcome.{IsRunOutcome, SayLeast}

module _ {M S R C P : Type 0} (mail : Mail.Ghosts M Growth S R C P) (q : Problem) (c : Cut)
    (logs : List (List Growth)) (holdings : List Holding) (posts : List P)
    (o : generic.IsOutcome rules YieldsValues mail (system_of q c) logs holdings posts) where
  pub have_values : HaveValuesOf q c logs holdings
  have_values = record {
    logs_counted = o.sound.counted;
    counted = o.yielded.counted;
    each = λ i low. o.yielded.each i (holding_of holdings i) low
        (slice_get-get_or holdings i (record { regions = []; sets = [] }) (omega (arith, low, o.yielded.counted)));
  }

  say_least : SayLeast q c logs
  say_least r e =
      let least = same_least (system_of q c) r e in
      let told = o.logged (fact_of r e) in (
        (λ t. least.0 (told.0 (told_to (log_of logs (owner_of c r)) r e t))),
        (λ l. told_from (log_of logs (owner_of c r)) r e (told.1 (least.1 l))),
      )

  pub is_outcome : (values : List (List Bool)) → IsShaped q values
      → ((r e : ℕ) → IsHeld values r e ↔ IsTold (log_of logs (owner_of c r)) r e)
      → IsRunOutcome mail q c values logs posts
  is_outcome values shaped held = record {
    delivered = record {
      pairs = o.delivered.pairs;
      whole_part = o.delivered.whole_part;
      all_of_it = o.delivered.all_of_it;
    };
    in_order = o.in_order;
    none_left = o.none_left;
    sound = sound_from q c logs (λ i j. part q c i (log_of logs j)) o.sound;
    ranked = record {
      next = o.ranked.next;
      low = λ i g l at. (let h = o.ranked.low i g l at in omega (arith, h));
    };
    shaped = shaped;
    least = λ r e. (
      (λ h. (say_least r e).0 ((held r e).0 h)),
      (λ l. (held r e).1 ((say_least r e).1 l)),
    );
    logged = say_least;
  }
