-- What a seat has that makes its lanes owed for, one after another.
use Rattle.std.proofs.Common.{◌≡◌, ℕ, suc, ◌+◌, ◌<◌, ◌≤◌, List, [], ◌∷◌, length, map, set, take, get_or, refl, sym, ap, ◌∙◌, subst, ⊎_elim, arith}
use Rattle.std.specs.Prelude.{sum_by}
use Rattle.std.proofs.Math.ListN.{get_or-map}
use Rattle.std.proofs.lemmas.Bool.{cases_eq}
use Rattle.std.proofs.lemmas.List.{length-map, length-set, get_or-set_same, get_or-set_other, get_or_default}
use Rattle.std.proofs.lemmas.List.Sums.{sum_by_more, sum_by_more_le}
use Rattle.nll_owner.specs.Owner.{Owner}
use Rattle.nll_model.specs.declared.seat.Item.{Item}
use Rattle.nll_model.specs.State.{Lane, Seat, empty_lane, lane_to}
use Rattle.nll_model.specs.Events.{owed_lane, fresh_count}

-- the first lanes are owed for, and so much was fresh in them
pub record Owes (old now : Seat) (count to : ℕ) : Type 0 where
  pub owner : now.owner ≡ old.owner
  pub item : now.item ≡ old.item
  pub left : now.left ≡ old.left
  pub lane_count : length now.lanes ≡ length old.lanes
  pub owed : (j : ℕ) → j < to → lane_to now j ≡ owed_lane (lane_to old j)
  pub others : (j : ℕ) → to ≤ j → lane_to now j ≡ lane_to old j
  pub counts : count ≡ sum_by (λ (l : Lane). length l.fresh) (take to old.lanes)

module _ (old now : Seat) (count to : ℕ) (h : Owes old now count to) (within : to < length now.lanes) (lane next : Lane)
    (more : ℕ) (is : lane ≡ get_or now.lanes to lane) (next_is : next ≡ owed_lane lane)
    (more_is : more ≡ length lane.fresh) where
  lane_is : lane ≡ lane_to old to
  lane_is = is ∙ (get_or_default now.lanes to lane empty_lane within ∙ h.others to (omega arith))

  pub owes_more : Owes old (record now { lanes = set now.lanes to next }) (count + more) (to + 1)
  owes_more = record {
    owner = h.owner;
    item = h.item;
    left = h.left;
    lane_count = length-set now.lanes to next ∙ h.lane_count;
    owed = λ j l. ⊎_elim
        (λ same. subst (λ k. get_or (set now.lanes to next) k empty_lane ≡ owed_lane (lane_to old k)) (sym same)
        (get_or-set_same now.lanes to next empty_lane within ∙ (next_is ∙ ap owed_lane lane_is)))
        (λ differs. get_or-set_other now.lanes to j next empty_lane differs ∙ h.owed j (omega arith))
        (cases_eq j to);
    others = λ j l. get_or-set_other now.lanes to j next empty_lane (λ e. absurd (omega arith))
        ∙ h.others j (omega arith);
    counts =
        let sum =
        sum_by_more (λ (l : Lane). length l.fresh) old.lanes to empty_lane (omega (arith, within, h.lane_count)) in
        let here = ap (λ (l : Lane). length l.fresh) lane_is in
        omega (arith, sum, here, more_is, h.counts);
  }

list_is : {X : Type 0} (d : X) (xs ys : List X) → length xs ≡ length ys
    → ((j : ℕ) → j < length ys → get_or xs j d ≡ get_or ys j d) → xs ≡ ys
list_is d [] [] l h = refl
list_is d [] (y ∷ ys) l h = absurd (omega arith)
list_is d (x ∷ xs) [] l h = absurd (omega arith)
list_is d (x ∷ xs) (y ∷ ys) l h = ap (λ z. z ∷ xs) (h 0 (omega arith))
    ∙ ap (λ zs. y ∷ zs) (list_is d xs ys (omega arith) (λ j k. h (suc j) (omega arith)))

pub owes_lanes : (old now : Seat) (count to : ℕ) → Owes old now count to → length now.lanes ≤ to
    → now.lanes ≡ map owed_lane old.lanes
owes_lanes old now count to h all =
    list_is empty_lane now.lanes (map owed_lane old.lanes) (h.lane_count ∙ sym (length-map old.lanes owed_lane))
    (λ j l. h.owed j (omega (arith, l, all, h.lane_count, length-map old.lanes owed_lane))
    ∙ sym (get_or-map owed_lane old.lanes j empty_lane))

pub owes_le : (old now : Seat) (count to : ℕ) → Owes old now count to → to < length old.lanes → (lane : Lane)
    → lane ≡ get_or now.lanes to lane → count + length lane.fresh ≤ fresh_count old
owes_le old now count to h within lane is =
    let here =
    ap (λ (l : Lane). length l.fresh) (is
    ∙ (get_or_default now.lanes to lane empty_lane (omega (arith, within, h.lane_count))
    ∙ h.others to (omega arith))) in
    let more = sum_by_more_le (λ (l : Lane). length l.fresh) old.lanes to empty_lane within in
    omega (arith, here, more, h.counts)

pub owes_seat : (old now : Seat) (count to : ℕ) → Owes old now count to → length now.lanes ≤ to → (item : Item)
    → record now { item = item } ≡ record old { item = item; lanes = map owed_lane old.lanes }
owes_seat old now count to h all item =
    ap (λ (ls : List Lane). record now { item = item; lanes = ls }) (owes_lanes old now count to h all)
    ∙ (ap (λ (o : Owner). record now { owner = o; item = item; lanes = map owed_lane old.lanes }) h.owner
    ∙ ap (λ b. record old { item = item; left = b; lanes = map owed_lane old.lanes }) h.left)
