-- What values say that are made of the owners' sets, region by region.
use Rattle.std.proofs.Common.{◌≡◌, ◌↔◌, true, ℕ, ◌+◌, ◌<◌, ◌≤◌, ⊎_elim, Bool, List, [], ◌∷◌, ◌++◌, length, sym, ap, ◌∙◌, subst, arith}
use Rattle.std.proofs.lemmas.Bool.{cases_lt, false≢true}
use Rattle.std.proofs.lemmas.List.{get_or_append_left, get_or_past, get_or_push, length-append}
use Rattle.std.proofs.lemmas.Option.{slice_get_within}
use Rattle.nll_sets.specs.ElementSet.{flag}
use Rattle.nll_core.specs.Search.{IsIn}
use Rattle.nll_core.specs.Values.{set_of, IsHeld}
use Rattle.nll_problem.specs.Graph.{element_count}
use Rattle.nll_problem.specs.Problem.{Problem}
use Rattle.nll_cut.specs.Partition.{Cut, owner_of}
use Rattle.nll_owner.specs.Logs.{IsCutOf, IsTold}
use Rattle.nll_model.specs.State.{Seat, WorldState, IsAt}
use Rattle.nll_model.specs.Soundness.{LogSays, IsSoundState}
use Rattle.nll_model.proofs.LaneLemmas.{same_at}

-- The sets are of the first regions, and have what the logs say of them.
pub record AreSaid (q : Problem) (c : Cut) (w : WorldState) (count : ℕ) (sets : List (List Bool)) : Type 0 where
  pub size : length sets ≡ count
  pub shaped : (r : ℕ) → r < count → length (set_of sets r) ≡ element_count q.graph
  pub told : (r e : ℕ) → r < count → IsIn (set_of sets r) e ↔ LogSays c w r e

-- the set of one region more, which its owner has
module _ (q : Problem) (c : Cut) (w : WorldState) (count : ℕ) (sets : List (List Bool))
    (said : AreSaid q c w count sets)
    (s : Seat) (at : IsAt w (owner_of c count) s) (xs : List Bool) (wide : length xs ≡ element_count q.graph)
    (tells : (e : ℕ) → IsIn xs e ↔ IsTold s.owner.log count e) where
  earlier : (r : ℕ) → r < count → set_of sets r ≡ set_of (sets ++ xs ∷ []) r
  earlier r low = sym (get_or_append_left sets (xs ∷ []) [] r (omega (arith, low, said.size)))

  last : (r : ℕ) → r < count + 1 → count ≤ r → (r ≡ count) × (xs ≡ set_of (sets ++ xs ∷ []) r)
  last r low past =
      let is : r ≡ count = omega (arith, low, past) in
      (is, sym (get_or_push sets xs [] r (omega (arith, is, said.size))))

  says_last : (e : ℕ) → IsIn xs e ↔ LogSays c w count e
  says_last e = (
    λ h. (s, at, (tells e).0 h),
    λ x. (tells e).1 (subst (λ (y : Seat). IsTold y.owner.log count e)
        (same_at w.seats (owner_of c count) x.0 s x.1 at) x.2),
  )

  pub said_more : AreSaid q c w (count + 1) (sets ++ xs ∷ [])
  said_more = record {
    size = length-append sets (xs ∷ []) ∙ ap (λ n. n + 1) said.size;
    shaped = λ r low. ⊎_elim
        (λ early. subst (λ ys. length ys ≡ element_count q.graph) (earlier r early) (said.shaped r early))
        (λ past. subst (λ ys. length ys ≡ element_count q.graph) (last r low past).1 wide)
        (cases_lt r count);
    told = λ r e low. ⊎_elim
        (λ early. subst (λ ys. IsIn ys e ↔ LogSays c w r e) (earlier r early) (said.told r e early))
        (λ past.
        let l = last r low past in
        subst (λ (y : ℕ × List Bool). IsIn y.1 e ↔ LogSays c w y.0 e) (λ j. (sym l.0 j, l.1 j)) (says_last e))
        (cases_lt r count);
  }

-- the sets of all regions
module _ (q : Problem) (c : Cut) (cut : IsCutOf q c) (w : WorldState) (sound : IsSoundState q c w)
    (sets : List (List Bool)) (said : AreSaid q c w q.regions sets) where
  none_held : (r e : ℕ) → q.regions ≤ r → IsHeld sets r e → ⊥
  none_held r e past h =
      false≢true (subst (λ ys. flag ys e ≡ true) (get_or_past sets r [] (omega (arith, past, said.size))) h)

  none_said : (r e : ℕ) → q.regions ≤ r → LogSays c w r e → ⊥
  none_said r e past x =
      let nobody : owner_of c r ≡ c.owners = get_or_past c.list r c.owners (omega (arith, past, cut.regions)) in
      let seated = slice_get_within w.seats (owner_of c r) x.0 x.1 in
      omega (arith, nobody, seated, sound.count)

  pub said_all : (r e : ℕ) → IsHeld sets r e ↔ LogSays c w r e
  said_all r e = ⊎_elim
      (λ (low : r < q.regions). said.told r e low)
      (λ (past : q.regions ≤ r). (λ h. absurd (none_held r e past h), λ x. absurd (none_said r e past x)))
      (cases_lt r q.regions)
