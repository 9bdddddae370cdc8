-- A run of events keeps the world sound.
use Rattle.std.proofs.Common.{◌≡◌, ℕ, zero, suc, ◌+◌, ◌<◌, List, [], ◌∷◌, ◌++◌, length, replicate, get_or, slice_get, Some, None, refl, sym, ap, ◌∙◌, subst, arith}
use Rattle.std.specs.Prelude.{Option, sum_by}
use Rattle.std.proofs.lemmas.Bool.{false≢true}
use Rattle.std.proofs.lemmas.Option.{slice_get_within}
use Rattle.std.proofs.lemmas.List.{length-replicate}
use Rattle.std.proofs.lemmas.List.Sums.{sum_by-cons}
use Rattle.nll_problem.specs.Problem.{Problem, IsSound as IsSoundProblem}
use Rattle.nll_cut.specs.Partition.{Cut}
use Rattle.nll_owner.specs.Logs.{IsCutOf}
use Rattle.nll_owner.specs.Owner.{received_from, part_for}
use Rattle.nll_owner.proofs.FirstOwnerLemmas.{first_sound}
use Rattle.nll_model.specs.declared.event.Event.{Event}
use Rattle.nll_model.specs.declared.event.Event.TheVariants.{Load, Take, Owe, Clear, Push, Leave}
use Rattle.nll_model.specs.declared.outcome.Step.{Step}
use Rattle.nll_model.specs.declared.outcome.Step.TheVariants.{Done, Quiet, Open}
use Rattle.nll_model.specs.State.{Lane, empty_lane, Seat, WorldState, lane_to, first_seat, IsFirst}
use Rattle.nll_model.specs.Events.{Does, IsAnswerOf, AreSteps}
use Rattle.nll_model.specs.Soundness.{under_way, IsSoundSeat, IsSoundState}
use Rattle.nll_model.proofs.EventLemmas.{owe, clear, leave, push, load, take}

-- ---- the first world

all_at : {X : Type 0} (n j : ℕ) (x : X) → get_or (replicate n x) j x ≡ x
all_at zero j x = refl
all_at (suc n) zero x = refl
all_at (suc n) (suc j) x = all_at n j x

ones : {X : Type 0} (f : X → ℕ) (xs : List X) → ((j : ℕ) (x : X) → slice_get xs j ≡ Some x → f x ≡ 1)
    → sum_by f xs ≡ length xs
ones f [] h = refl
ones f (x ∷ xs) h =
    (let a = h 0 x refl in let b = ones f xs (λ j y p. h (suc j) y p) in omega (arith, a, b, sum_by-cons f x xs))

module _ (q : Problem) (c : Cut) (i : ℕ) (problem : IsSoundProblem q) (cut : IsCutOf q c) (me : i < c.owners) where
  no_lane : (j : ℕ) → lane_to (first_seat q c i) j ≡ empty_lane
  no_lane j = all_at c.owners j empty_lane

  first_is_sound : IsSoundSeat q c i (first_seat q c i)
  first_is_sound = record {
    problem = refl;
    cut = refl;
    me = refl;
    sound = first_sound q c i problem cut.cut cut.regions me;
    whole = refl;
    count = length-replicate c.owners empty_lane;
    given = λ j l. all_at {X = ℕ} c.owners j 0;
    done = λ h. absurd (false≢true h);
    unloaded = λ h. refl;
    own = no_lane i;
    fresh = λ h j. ap (λ (l : Lane). l.fresh) (no_lane j);
  }

owing_none : (n : ℕ) → sum_by (λ (l : Lane). length l.out + length l.box) (replicate n empty_lane) ≡ 0
owing_none zero = refl
owing_none (suc n) =
    (let r = owing_none n in omega (
      arith,
      r,
      sum_by-cons (λ (l : Lane). length l.out + length l.box) empty_lane (replicate n empty_lane),
    ))

pub first_sound_state : (q : Problem) (c : Cut) (w : WorldState) → IsSoundProblem q → IsCutOf q c → IsFirst q c w
    → IsSoundState q c w
first_sound_state q c w problem cut first = record {
  count = first.count;
  seats = λ i s at. subst (IsSoundSeat q c i) (sym (first.each i s at))
      (first_is_sound q c i problem cut (subst (λ n. i < n) first.count (slice_get_within w.seats i s at)));
  ways = λ i j s t differ hs ht.
      subst (λ (x : Seat). part_for x.owner j
      ≡ received_from t.owner i ++ ((lane_to x j).box ++ ((lane_to x j).out ++ (lane_to x j).fresh)))
      (sym (first.each i s hs))
      (subst (λ (x : Seat). [] ≡ received_from x.owner i ++
      ((lane_to (first_seat q c i) j).box ++
      ((lane_to (first_seat q c i) j).out ++ (lane_to (first_seat q c i) j).fresh))) (sym (first.each j t ht))
      (sym (ap (λ xs. xs ++ ((lane_to (first_seat q c i) j).box ++
      ((lane_to (first_seat q c i) j).out ++ (lane_to (first_seat q c i) j).fresh))) (all_at c.owners i [])
      ∙ ap (λ (l : Lane). l.box ++ (l.out ++ l.fresh)) (all_at c.owners j empty_lane))));
  balance =
      let each =
      ones under_way w.seats (λ j s at. ap under_way (first.each j s at)
      ∙ (let z = owing_none c.owners in omega (arith, z))) in
      omega (arith, each, first.balance, first.count);
}

-- ---- one event, and a run

pub step_sound : (q : Problem) (c : Cut) (w new : WorldState) (event : Event) (answer : Step) → IsSoundState q c w
    → Does w event answer new → IsSoundState q c new
step_sound q c w new (Load i) Done sound h =
    subst (IsSoundState q c) (sym h.6) (load q c w sound i h.0 h.2 h.1 h.4
    ((sound.seats i h.0 h.2).unloaded h.3) h.3 h.5)
step_sound q c w new (Load i) Quiet sound h = absurd h
step_sound q c w new (Load i) Open sound h = absurd h
step_sound q c w new (Take i j) Done sound
    (s, t, u, g, rest, differ, at, loaded, idle, stays, at_u, first, turns, same, is) =
    subst (IsSoundState q c) (sym is) (take q c w sound i s at t turns idle j u g rest differ loaded at_u first same)
step_sound q c w new (Take i j) Quiet sound h = absurd h
step_sound q c w new (Take i j) Open sound h = absurd h
step_sound q c w new (Owe i) Done sound (s, at, fresh, is) =
    subst (IsSoundState q c) (sym is) (owe q c w sound i s at fresh)
step_sound q c w new (Owe i) Quiet sound h = absurd h
step_sound q c w new (Owe i) Open sound h = absurd h
step_sound q c w new (Clear i) Done sound (s, at, owed, less, is) =
    subst (IsSoundState q c) (sym is) (clear q c w sound i s at new.balance owed less)
step_sound q c w new (Clear i) Quiet sound h = absurd h
step_sound q c w new (Clear i) Open sound h = absurd h
step_sound q c w new (Push i j) Done sound (s, g, rest, differ, at, within, first, is) =
    subst (IsSoundState q c) (sym is) (push q c w sound i s at j g rest differ within first)
step_sound q c w new (Push i j) Quiet sound h = absurd h
step_sound q c w new (Push i j) Open sound h = absurd h
step_sound q c w new (Leave i) Done sound h = absurd h
step_sound q c w new (Leave i) Quiet sound (s, at, none, loaded, idle, stays, outs, is) =
    subst (IsSoundState q c) (sym is) (leave q c w sound i s at)
step_sound q c w new (Leave i) Open sound (s, at, some, loaded, idle, stays, outs, is) =
    subst (IsSoundState q c) (sym is) sound

pub world_step_sound : (q : Problem) (c : Cut) (w new : WorldState) (event : Event) (answer : Option Step)
    → IsSoundState q c w → IsAnswerOf w event answer new → IsSoundState q c new
world_step_sound q c w new event (Some answer) sound h = step_sound q c w new event answer sound h
world_step_sound q c w new event None sound h = subst (IsSoundState q c) (sym h.1) sound

pub steps_sound : (q : Problem) (c : Cut) (w last : WorldState) (events : List Event) (answers : List (Option Step))
    → IsSoundState q c w → AreSteps w events answers last → IsSoundState q c last
steps_sound q c w last [] [] sound h = subst (IsSoundState q c) (sym h) sound
steps_sound q c w last [] (a ∷ rest) sound h = absurd h
steps_sound q c w last (e ∷ es) [] sound h = absurd h
steps_sound q c w last (e ∷ es) (a ∷ rest) sound h =
    steps_sound q c h.0 last es rest (world_step_sound q c w h.0 e a sound h.1) h.2
