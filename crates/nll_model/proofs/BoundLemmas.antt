-- Bounds of the balance of a sound world.
use Rattle.std.proofs.Common.{◌≡◌, ◌≢◌, ℕ, suc, ◌+◌, ◌*◌, ◌^◌, ◌<◌, ◌≤◌, Bool, true, false, List, [], ◌∷◌, ◌++◌, length, Contains, get_or, slice_get, refl, sym, ap, ◌∙◌, subst, ⊎_elim, arith, length-append}
use Rattle.std.specs.Prelude.{sum_by}
use Rattle.std.proofs.lemmas.Bool.{cases_eq}
use Rattle.std.proofs.lemmas.Option.{slice_get_within, get_or_from_slice_get}
use Rattle.std.proofs.lemmas.List.Sums.{get_or-le-sum_by, sum_by-cons}
use Rattle.nll_problem.specs.Graph.{element_count}
use Rattle.nll_problem.specs.Problem.{Problem}
use Rattle.nll_cut.specs.Partition.{Cut, reads, owner_of}
use Rattle.nll_mail.specs.declared.growth.Growth.{Growth}
use Rattle.nll_owner.specs.Owner.{Passes, received_from}
use Rattle.fixpoint.proofs.ListLemmas.{filter_from, contains_head, filter_le}
use Rattle.nll_owner.proofs.OwnerLemmas.{pair_small}
use Rattle.std.proofs.lemmas.List.Elements.{Contains-append_left, Contains-append_right}
use Rattle.nll_model.specs.declared.seat.Item.{Item}
use Rattle.nll_model.specs.declared.seat.Item.TheVariants.{Nothing, Fresh, Owed}
use Rattle.nll_model.specs.State.{Lane, empty_lane, Seat, WorldState, lane_to, IsAt}
use Rattle.nll_model.specs.Soundness.{held_balance, under_way, IsSoundSeat, IsSoundState, AreRanksLow}
use Rattle.nll_model.proofs.SoundLemmas.{get_within}

sum_le : {X : Type 0} (f : X → ℕ) (m : ℕ) (d : X) (xs : List X) → ((j : ℕ) → j < length xs → f (get_or xs j d) ≤ m)
    → sum_by f xs ≤ length xs * m
sum_le f m d [] h = omega arith
sum_le f m d (x ∷ xs) h =
    let a = h 0 (omega arith) in let b = sum_le f m d xs (λ j l. h (suc j) (omega arith)) in
    omega (arith, a, b, sum_by-cons f x xs)

held_le : (loaded : Bool) (item : Item) → held_balance loaded item ≤ 1
held_le false item = omega arith
held_le true Nothing = omega arith
held_le true Fresh = omega arith
held_le true Owed = omega arith

module _ (q : Problem) (c : Cut) (w : WorldState) (sound : IsSoundState q c w) where
  lane_small : (i : ℕ) (s : Seat) → IsAt w i s → (j : ℕ) → j < length s.lanes
      → length (lane_to s j).out + length (lane_to s j).box ≤ 2 ^ 37
  lane_small i s at j l = ⊎_elim
      (λ same. (let none = ap (λ (x : Lane). length x.out + length x.box)
      (subst (λ k. lane_to s k ≡ empty_lane) (sym same) seat.own) in omega (arith, none)))
      (λ differs.
      let t = get_within w.seats j (omega (arith, l, seat.count, sound.count)) in
      let way = ap length (sound.ways i j s t.0 (λ e. differs (sym e)) at t.1) in
      let box = (lane_to s j).box in let out = (lane_to s j).out in let fresh = (lane_to s j).fresh in
      let few = filter_le (λ (g : Growth). reads s.owner.problem s.owner.cut j g.region) s.owner.log in
      omega (
        arith,
        way,
        length-append (received_from t.0.owner i) (box ++ (out ++ fresh)),
        length-append box (out ++ fresh),
        length-append out fresh,
        few,
        seat.sound.few,
        pair_small s.owner.problem seat.sound.problem,
      ))
      (cases_eq j i)
    where
      seat : IsSoundSeat q c i s
      seat = sound.seats i s at

  pub limit : (i : ℕ) (s : Seat) → IsAt w i s → c.owners ≤ 64
  limit i s at =
      (let seat = sound.seats i s at in let is = ap (λ (x : Cut). x.owners) seat.cut in
      omega (arith, is, seat.sound.cut.cut.owner_limit))

  seat_small : (i : ℕ) (s : Seat) → IsAt w i s → under_way s ≤ 2 ^ 44
  seat_small i s at =
      let lanes = sum_le (λ (l : Lane). length l.out + length l.box) (2 ^ 37) empty_lane s.lanes (lane_small i s at) in
      let one = held_le s.owner.loaded s.item in
      omega (arith, lanes, one, (sound.seats i s at).count, limit i s at)

  pub balance_small : w.balance ≤ 2 ^ 51
  balance_small = go w.seats refl
    where
      go : (seats : List Seat) → w.seats ≡ seats → w.balance ≤ 2 ^ 51
      go [] is = (let b = sound.balance in let n = ap (sum_by under_way) is in omega (arith, b, n))
      go (x ∷ xs) is =
          let at : IsAt w 0 x = ap (λ l. slice_get l 0) is in
          let all =
          sum_le under_way (2 ^ 44) x w.seats
          (λ j l. let s = get_within w.seats j l in
          subst (λ (y : Seat). under_way y ≤ 2 ^ 44) (sym (get_or_from_slice_get w.seats j s.0 x s.1))
          (seat_small j s.0 s.1)) in
          omega (arith, all, sound.balance, sound.count, limit 0 x at)

  -- where an item is held, the balance isn't 0
  pub balance_some : (i : ℕ) (s : Seat) → IsAt w i s → s.item ≡ Owed → 0 < w.balance
  balance_some i s at owed =
      let one = get_or-le-sum_by under_way w.seats i s (slice_get_within w.seats i s at) in
      let is = ap under_way (get_or_from_slice_get w.seats i s s at) in
      let h = held_some s.owner.loaded refl in
      omega (arith, one, is, h, sound.balance)
    where
      held_some : (b : Bool) → s.owner.loaded ≡ b → 0 < held_balance s.owner.loaded s.item
      held_some true l = (let a = ap (λ x. held_balance x s.item) l in let b =
          ap (held_balance true) owed in omega (arith, a, b))
      held_some false l = (let a = ap (λ x. held_balance x s.item) l in omega (arith, a))

  -- the first growth of a box stands in the log of its sender, and may be told
  first_from : (i j : ℕ) (s u : Seat) (g : Growth) (rest : List Growth) → i ≢ j → IsAt w i s → IsAt w j u
      → (lane_to u i).box ≡ g ∷ rest → Contains u.owner.log g × (reads u.owner.problem u.owner.cut i g.region ≡ true)
  first_from i j s u g rest differ at at_u first =
      let in_box = subst (λ xs. Contains xs g) (sym first) (contains_head g rest) in
      let in_lane = Contains-append_left (lane_to u i).box ((lane_to u i).out ++ (lane_to u i).fresh) g in_box in
      let in_way =
      Contains-append_right (received_from s.owner j)
      ((lane_to u i).box ++ ((lane_to u i).out ++ (lane_to u i).fresh)) g in_lane in
      let in_part = subst (λ xs. Contains xs g) (sym (sound.ways j i u s (λ e. differ (sym e)) at_u at)) in_way in
      filter_from _ u.owner.log g in_part

  pub first_logged : (i j : ℕ) (s u : Seat) (g : Growth) (rest : List Growth) → i ≢ j → IsAt w i s → IsAt w j u
      → (lane_to u i).box ≡ g ∷ rest → Contains u.owner.log g
  first_logged i j s u g rest differ at at_u first = (first_from i j s u g rest differ at at_u first).0

  pub first_passes : (i j : ℕ) (s u : Seat) (g : Growth) (rest : List Growth) → i ≢ j → IsAt w i s → IsAt w j u
      → AreRanksLow w → (lane_to u i).box ≡ g ∷ rest → Passes s.owner.problem s.owner.cut s.owner.me j g
  first_passes i j s u g rest differ at at_u low first =
      let seat = sound.seats i s at in
      let giver = sound.seats j u at_u in
      let from = first_from i j s u g rest differ at at_u first in
      let cut = giver.cut ∙ sym seat.cut in
      let problem = giver.problem ∙ sym seat.problem in
      record {
        sender = subst (λ (x : Cut). owner_of x g.region ≡ j) cut (giver.sound.well_formed.own g from.0 ∙ giver.me);
        read = subst (λ (x : Problem). reads x s.owner.cut s.owner.me g.region ≡ true) problem
            (subst (λ (x : Cut). reads u.owner.problem x s.owner.me g.region ≡ true) cut
            (subst (λ k. reads u.owner.problem u.owner.cut k g.region ≡ true) (sym seat.me) from.1));
        element = subst (λ (x : Problem). g.element < element_count x.graph) problem (giver.sound.elements g from.0);
        rank = (let l = low j u g at_u from.0 in omega (arith, l));
      }
