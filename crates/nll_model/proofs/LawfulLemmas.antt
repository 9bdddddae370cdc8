-- What holds of every sound state: its ranks are low, and its logs say only what is least.
use Rattle.std.proofs.Common.{◌≡◌, ℕ, ◌<◌, Contains, get_or, subst, arith}
use Rattle.std.proofs.lemmas.Option.{slice_get-get_or, slice_get_within}
use Rattle.nll_problem.specs.Problem.{Problem, IsSound as IsSoundProblem}
use Rattle.nll_cut.specs.Partition.{Cut}
use Rattle.nll_owner.specs.Logs.{IsCutOf}
use Rattle.fixpoint.proofs.RankLemmas.{ranks_low}
use Rattle.nll_owner.specs.Regions.{IsValid, system_of, part_of, rules}
use Rattle.nll_owner.specs.RegionsLawful.{regions_lawful}
use Rattle.nll_owner.proofs.RegionLemmas.{part_sound}
use Rattle.nll_model.specs.State.{Seat, WorldState, IsAt, first_seat}
use Rattle.nll_model.specs.Soundness.{IsOwner, IsOrderly, IsSoundState, AreRanksLow, IsLawful}
use Rattle.nll_model.proofs.LaneLemmas.{same_at}
use Rattle.nll_model.proofs.SoundLemmas.{still, says_least, said_least}
use Rattle.nll_model.proofs.OrderlyLemmas.{sound_is_orderly}

module _ (q : Problem) (c : Cut) (w : WorldState) (orderly : IsOrderly q c w) where
  abbrev seat_of : ℕ → Seat
  seat_of i = get_or w.seats i (first_seat q c i)

  at : (i : ℕ) → i < c.owners → IsAt w i (seat_of i)
  at i l = slice_get-get_or w.seats i (first_seat q c i) (omega (arith, l, orderly.count))

  is : (i : ℕ) → i < c.owners → IsOwner q c i (seat_of i).owner
  is i l = orderly.owners i (seat_of i) (at i l)

  same_system : (k : ℕ) → k < c.owners → (part_of (seat_of k).owner).system ≡ system_of q c
  same_system k lk j = system_of ((is k lk).problem j) ((is k lk).cut j)

  valid : (k : ℕ) → k < c.owners → IsValid (system_of q c)
  valid k lk = subst IsValid (same_system k lk) ((is k lk).sound.problem, (is k lk).sound.cut)

  pub ranks_are_low : AreRanksLow w
  ranks_are_low i s g here h =
      let within = slice_get_within w.seats i s here in
      let l : i < c.owners = omega (arith, within, orderly.count) in
      let same = same_at w.seats i s (seat_of i) here (at i l) in
      ranks_low rules regions_lawful (system_of q c) (valid i l) (λ k. part_of (seat_of k).owner)
      (λ k lk. part_sound (seat_of k).owner (is k lk).sound) same_system (λ k lk. (is k lk).me)
      (λ a b f la lb differ told. orderly.heard a b (seat_of a) (seat_of b) f differ (at a la) (at b lb) told)
      i g l (subst (λ (x : Seat). Contains x.owner.log g) same h)

module _ (q : Problem) (c : Cut) (w : WorldState) (sound : IsSoundState q c w) where
  pub lawful : IsSoundProblem q → IsCutOf q c → IsLawful q c w
  lawful problem cut = record {
    problem = problem;
    cut = cut;
    sound = sound;
    only_least = said_least q c w sound problem cut;
    still = λ none. still q c w sound none;
    least = λ none. says_least q c w sound none problem cut;
    ranks = ranks_are_low q c w (sound_is_orderly q c w sound);
  }
