-- What a state has at a place, and after a change there.
use Rattle.std.proofs.Common.{◌≡◌, ◌≢◌, ℕ, zero, suc, ◌+◌, ◌^◌, ◌<◌, ◌≤◌, List, [], ◌∷◌, length, slice_get, Some, ⊎_elim, Contains, get_or, set, refl, sym, subst, ap, ◌∙◌, arith}
use Rattle.std.proofs.lemmas.Option.{slice_get_within, get_or_from_slice_get}
use Rattle.std.proofs.lemmas.List.{get_or-set_other}
use Rattle.nll_problem.specs.Problem.{Problem}
use Rattle.nll_cut.specs.Partition.{Cut}
use Rattle.nll_mail.specs.declared.growth.Growth.{Growth}
use Rattle.nll_owner.specs.Owner.{Owner, Passes}
use Rattle.nll_model.specs.declared.seat.Item.TheVariants.{Nothing, Fresh}
use Rattle.nll_model.specs.State.{Lane, Seat, WorldState, IsAt, with_lane, with_seat, lane_to}
use Rattle.nll_model.specs.Events.{IsFreeOwner, fresh_count}
use Rattle.nll_model.specs.Soundness.{IsOrderly, IsSoundState}
use Rattle.nll_model.specs.Working.{OwnerGoesOn, NoGrowth, IsGrowthFrom}
use Rattle.nll_model.proofs.LaneLemmas.{set_cases}
use Rattle.nll_model.proofs.EventLemmas.{owe}
use Rattle.nll_model.proofs.OrderlyLemmas.{sound_is_orderly, orderly_then, stays}
use Rattle.nll_model.proofs.LawfulLemmas.{ranks_are_low}
use Rattle.nll_model.proofs.BoundLemmas.{balance_small, limit, first_passes, first_logged}

-- the seat that stands at the place of another is that one
pub seat_is : (w : WorldState) (i : ℕ) (s t : Seat) → IsAt w i s → t ≡ get_or w.seats i t → t ≡ s
seat_is w i s t at is = is ∙ get_or_from_slice_get w.seats i s t at

pub place_in : (w : WorldState) (i : ℕ) (s : Seat) → IsAt w i s → i < length w.seats
place_in w i s at = slice_get_within w.seats i s at

module _ (q : Problem) (c : Cut) (w : WorldState) (sound : IsSoundState q c w) (i : ℕ) (s : Seat)
    (at : IsAt w i s) where
  pub owners_is : length w.seats ≡ s.owner.cut.owners
  owners_is = sound.count ∙ sym (ap (λ (x : Cut). x.owners) (sound.seats i s at).cut)

  pub lanes_is : length s.lanes ≡ length w.seats
  lanes_is = (sound.seats i s at).count ∙ sym sound.count

  pub seats_few : length w.seats ≤ 64
  seats_few = omega (arith, sound.count, limit q c w sound i s at)

  pub none_fresh : s.item ≡ Nothing → (j : ℕ) → (lane_to s j).fresh ≡ []
  none_fresh idle j = (sound.seats i s at).fresh (λ e. absurd (cc (e, idle))) j

  -- what is owed for leaves the balance small
  pub owe_small : s.item ≡ Fresh → w.balance + fresh_count s ≤ 2 ^ 51
  owe_small fresh = balance_small q c _ (owe q c w sound i s at fresh)

set_swap : {X : Type 0} (xs : List X) (i j : ℕ) (a b : X) → i ≢ j → set (set xs j a) i b ≡ set (set xs i b) j a
set_swap [] i j a b h = refl
set_swap (x ∷ xs) zero zero a b h = absurd (h refl)
set_swap (x ∷ xs) zero (suc j) a b h = refl
set_swap (x ∷ xs) (suc i) zero a b h = refl
set_swap (x ∷ xs) (suc i) (suc j) a b h = ap (λ ys. x ∷ ys) (set_swap xs i j a b (λ e. h (ap suc e)))

set_at_other : {X : Type 0} (xs : List X) (j i : ℕ) (y x : X) → i ≢ j → slice_get xs i ≡ Some x
    → slice_get (set xs j y) i ≡ Some x
set_at_other [] j i y x h at = absurd (let l = slice_get_within [] i x at in omega arith)
set_at_other (z ∷ xs) zero zero y x h at = absurd (h refl)
set_at_other (z ∷ xs) zero (suc i) y x h at = at
set_at_other (z ∷ xs) (suc j) zero y x h at = at
set_at_other (z ∷ xs) (suc j) (suc i) y x h at = set_at_other xs j i y x (λ e. h (ap suc e)) at

-- ---- a growth goes from one seat to another
module _ (q : Problem) (c : Cut) (w : WorldState) (sound : IsSoundState q c w) (i j : ℕ) (s u : Seat) (differ : i ≢ j)
    (at : IsAt w i s) (free : IsFreeOwner s) (at_u : IsAt w j u) where
  -- the seat at i after one at j was changed
  pub other_is : (v t : Seat) → t ≡ get_or (set w.seats j v) i t → t ≡ s
  other_is v t is = seat_is w i s t at (is ∙ get_or-set_other w.seats j i v t differ)

  pub passes : (g : Growth) (rest : List Growth) → (lane_to u i).box ≡ g ∷ rest
      → Passes s.owner.problem s.owner.cut s.owner.me j g
  passes g rest first =
      first_passes q c w sound i j s u g rest differ at at_u (ranks_are_low q c w (sound_is_orderly q c w sound)) first

  pub taken_is : (t : Seat) (v : Seat) (lane : Lane) → v ≡ with_lane u i lane
      → record { seats = set (set w.seats j v) i t; balance = w.balance }
      ≡ with_seat (with_seat w i t) j (with_lane u i lane)
  taken_is t v lane is = ap (λ (x : Seat). record { seats = set (set w.seats j x) i t; balance = w.balance }) is
      ∙ ap (λ (xs : List Seat). record { seats = xs; balance = w.balance })
      (set_swap w.seats i j (with_lane u i lane) t differ)

  -- where the other one refuses it, the owners are orderly still
  module _ (g : Growth) (rest : List Growth) (first : (lane_to u i).box ≡ g ∷ rest) (v t : Seat) (lane : Lane)
      (v_is : v ≡ with_lane u i lane) (on : OwnerGoesOn (IsGrowthFrom j g) s.owner t.owner) where
    same_owner : v.owner ≡ u.owner
    same_owner = ap (λ (x : Seat). x.owner) v_is

    pub taken_orderly : (p : Problem) (d : Cut) → IsOrderly p d w
        → IsOrderly p d (record { seats = set (set w.seats j v) i t; balance = w.balance })
    taken_orderly p d orderly = orderly_then p d (with_seat w j v)
        (orderly_then p d w orderly j u at_u v w.balance NoGrowth
        (stays u.owner v.owner same_owner (sound.seats j u at_u).sound) (λ k h x came _. absurd came))
        i s (set_at_other w.seats j i v s differ at) t w.balance (IsGrowthFrom j g) on
        (λ k h x came at_x. logged k h x came at_x)
      where
        logged : (k : ℕ) (h : Growth) (x : Seat) → IsGrowthFrom j g k h → IsAt (with_seat w j v) k x
            → Contains x.owner.log h
        logged k h x came at_x = ⊎_elim
            (λ (r : (k ≡ j) × (x ≡ v)). subst (λ (y : Growth). Contains x.owner.log y) (sym came.1)
            (subst (λ (o : Owner). Contains o.log g) (sym (ap (λ (y : Seat). y.owner) r.1 ∙ same_owner))
            (first_logged q c w sound i j s u g rest differ at at_u first)))
            (λ (r : (k ≢ j) × (slice_get w.seats k ≡ Some x)). absurd (r.0 came.0))
            (set_cases w.seats j v k x at_x)
