-- What a sound world says, and where nothing is under way.
use Rattle.std.proofs.Common.{◌≡◌, ◌≢◌, ◌↔◌, ℕ, zero, suc, ◌+◌, ◌<◌, Bool, true, false, List, [], ◌∷◌, ◌++◌, length, map, Contains, get_or, slice_get, Some, None, refl, sym, ap, ◌∙◌, subst, ⊎_elim, arith, append-nil}
use Rattle.std.specs.Prelude.{Option}
use Rattle.std.proofs.lemmas.Bool.{cases_eq, cases_lt}
use Rattle.std.proofs.lemmas.Option.{slice_get_within, get_or_from_slice_get}
use Rattle.std.proofs.lemmas.List.{length-map, get_or_past}
use Rattle.std.proofs.lemmas.List.Elements.{Contains-append_left}
use Rattle.std.proofs.lemmas.List.Sums.{get_or-le-sum_by}
use Rattle.nll_problem.specs.Problem.{Problem, IsSound as IsSoundProblem}
use Rattle.nll_problem.specs.Solution.{Least}
use Rattle.nll_problem.proofs.AskLemmas.{asked_weaker}
use Rattle.nll_cut.specs.Partition.{Cut, owner_of}
use Rattle.nll_mail.specs.declared.growth.Growth.{Growth}
use Rattle.nll_owner.specs.Logs.{IsWellFormedLog, part, IsTold, list_of, IsWellSupported, IsSaturated, IsCutOf, log_of, AreSoundLogs, AreSettled}
use Rattle.nll_owner.specs.Owner.{IsDone, list_in, received_from, part_for}
use Rattle.nll_owner.proofs.LogLemmas.{list_own, list_other}
use Rattle.fixpoint.proofs.ListLemmas.{filter_from}
use Rattle.nll_owner.proofs.LawLemmas.{each_least, least_exact}
use Rattle.nll_owner.proofs.OwnerLemmas.{supported_in}
use Rattle.nll_model.specs.declared.seat.Item.{Item}
use Rattle.nll_model.specs.declared.seat.Item.TheVariants.{Nothing, Fresh, Owed}
use Rattle.nll_model.specs.State.{Lane, empty_lane, Seat, WorldState, lane_to, IsAt}
use Rattle.nll_model.specs.Soundness.{held_balance, under_way, IsSoundSeat, IsSoundState, IsStill, LogSays}

-- ---- reading lists

pub get_within : {X : Type 0} (xs : List X) (i : ℕ) → i < length xs → (x : X) × (slice_get xs i ≡ Some x)
get_within [] i l = absurd (omega arith)
get_within (x ∷ xs) zero l = (x, refl)
get_within (x ∷ xs) (suc i) l = get_within xs i (omega arith)

map_at : {X Y : Type 0} (f : X → Y) (xs : List X) (i : ℕ) (x : X) (d : Y) → slice_get xs i ≡ Some x
    → get_or (map f xs) i d ≡ f x
map_at f [] i x d h = absurd (let l = slice_get_within [] i x h in omega arith)
map_at f (y ∷ ys) zero x d h = ap f (get_or_from_slice_get (y ∷ ys) zero x y h)
map_at f (y ∷ ys) (suc i) x d h = map_at f ys i x d h

lane_is : (l : Lane) → l.fresh ≡ [] → l.out ≡ [] → l.box ≡ [] → l ≡ empty_lane
lane_is l f o b = ap (λ x. record l { fresh = x }) f
    ∙ (ap (λ x. record l { fresh = []; out = x }) o ∙ ap (λ x. record l { fresh = []; out = []; box = x }) b)

-- ---- one seat

module _ (q : Problem) (c : Cut) (i : ℕ) (s : Seat) (sound : IsSoundSeat q c i s) where
  pub seat_well_formed : IsWellFormedLog c i s.owner.log
  seat_well_formed =
      subst (λ x. IsWellFormedLog x i s.owner.log) sound.cut
      (subst (λ x. IsWellFormedLog s.owner.cut x s.owner.log) sound.me sound.sound.well_formed)

  seat_list : (b : ℕ) → list_in s.owner b ≡ list_of c i s.owner.log (received_from s.owner) b
  seat_list b = ap (λ x. list_of x s.owner.me s.owner.log (received_from s.owner) b) sound.cut
      ∙ ap (λ x. list_of c x s.owner.log (received_from s.owner) b) sound.me

  seat_supported : IsWellSupported q (list_of c i s.owner.log (received_from s.owner)) s.owner.log
  seat_supported =
      subst (λ x. IsWellSupported x (list_of c i s.owner.log (received_from s.owner)) s.owner.log) sound.problem
      (supported_in s.owner.problem (list_in s.owner) (list_of c i s.owner.log (received_from s.owner))
      (λ b g h. subst (λ xs. Contains xs g) (seat_list b) h) s.owner.log sound.sound.supported)

  seat_saturated : IsDone s.owner → IsSaturated q c i (list_of c i s.owner.log (received_from s.owner))
  seat_saturated done =
      subst (λ x. IsSaturated x c i list) sound.problem
      (subst (λ x. IsSaturated s.owner.problem x i list) sound.cut
      (subst (λ x. IsSaturated s.owner.problem s.owner.cut x list) sound.me here))
    where
      list : ℕ → List Growth
      list = list_of c i s.owner.log (received_from s.owner)

      here : IsSaturated s.owner.problem s.owner.cut s.owner.me (list_of c i s.owner.log (received_from s.owner))
      here = record {
        base = λ r e own b. subst (λ xs. IsTold xs r e) (seat_list r) (done.base r e own b);
        each = λ k there own e h. subst (λ xs. IsTold xs k.sup e) (seat_list k.sup)
            (done.each k there own e (asked_weaker s.owner.problem.graph _ k.at _
            (λ f t. subst (λ xs. IsTold xs k.sub f) (sym (seat_list k.sub)) t) e h));
      }

  seat_part : (j : ℕ) → part_for s.owner j ≡ part q c j s.owner.log
  seat_part j = ap (λ x. part x s.owner.cut j s.owner.log) sound.problem ∙ ap (λ x. part q x j s.owner.log) sound.cut

-- ---- all seats

abbrev pub logs_of : WorldState → List (List Growth)
logs_of w = map (λ (s : Seat). s.owner.log) w.seats

abbrev seat_received : Option Seat → ℕ → List Growth
seat_received (Some s) j = received_from s.owner j
seat_received None j = []

abbrev pub received_of : WorldState → ℕ → ℕ → List Growth
received_of w i j = seat_received (slice_get w.seats i) j

module _ (q : Problem) (c : Cut) (w : WorldState) (sound : IsSoundState q c w) where
  seat_at : (i : ℕ) → i < c.owners → (s : Seat) × IsAt w i s
  seat_at i l = get_within w.seats i (subst (λ n. i < n) (sym sound.count) l)

  log_at : (i : ℕ) (s : Seat) → IsAt w i s → log_of (logs_of w) i ≡ s.owner.log
  log_at i s at = map_at (λ (s : Seat). s.owner.log) w.seats i s [] at

  received_at : (i : ℕ) (s : Seat) → IsAt w i s → (j : ℕ) → received_of w i j ≡ received_from s.owner j
  received_at i s at j = ap (λ o. seat_received o j) at

  list_at : (i : ℕ) (s : Seat) → IsAt w i s → (b : ℕ)
      → list_of c i (log_of (logs_of w) i) (received_of w i) b ≡ list_of c i s.owner.log (received_from s.owner) b
  list_at i s at b = ⊎_elim
      (λ same. list_own c i (log_of (logs_of w) i) (received_of w i) b same
      ∙ (log_at i s at ∙ sym (list_own c i s.owner.log (received_from s.owner) b same)))
      (λ other. list_other c i (log_of (logs_of w) i) (received_of w i) b other
      ∙ (received_at i s at (owner_of c b) ∙ sym (list_other c i s.owner.log (received_from s.owner) b other)))
      (cases_eq (owner_of c b) i)

  pub world_sound : AreSoundLogs q c (logs_of w) (received_of w)
  world_sound = record {
    counted = length-map w.seats (λ (s : Seat). s.owner.log) ∙ sound.count;
    well_formed = λ i l. let s = seat_at i l in
        subst (IsWellFormedLog c i) (sym (log_at i s.0 s.1)) (seat_well_formed q c i s.0 (sound.seats i s.0 s.1));
    supported = λ i l.
        let s = seat_at i l in
        subst (IsWellSupported q (list_of c i (log_of (logs_of w) i) (received_of w i))) (sym (log_at i s.0 s.1))
        (supported_in q _ (list_of c i (log_of (logs_of w) i) (received_of w i))
        (λ b g h. subst (λ xs. Contains xs g) (sym (list_at i s.0 s.1 b)) h) s.0.owner.log
        (seat_supported q c i s.0 (sound.seats i s.0 s.1)));
    heard = λ i j li lj differ g h.
        let s = seat_at i li in
        let t = seat_at j lj in
        let got = subst (λ xs. Contains xs g) (received_at i s.0 s.1 j) h in
        let whole = Contains-append_left (received_from s.0.owner j) _ g got in
        let in_part = subst (λ xs. Contains xs g) (sym (sound.ways j i t.0 s.0 (λ x. differ (sym x)) t.1 s.1)) whole in
        subst (λ xs. Contains xs g) (sym (log_at j t.0 t.1)) (filter_from _ t.0.owner.log g in_part).0;
  }

  pub said : (r e : ℕ) → LogSays c w r e → IsTold (log_of (logs_of w) (owner_of c r)) r e
  said r e h = subst (λ xs. IsTold xs r e) (sym (log_at (owner_of c r) h.0 h.1)) h.2

  -- nothing is under way of any seat where the balance is 0
  module _ (none : w.balance ≡ 0) where
    at_rest : (i : ℕ) (s : Seat) → IsAt w i s → under_way s ≡ 0
    at_rest i s at =
        let l = slice_get_within w.seats i s at in
        let one = get_or-le-sum_by under_way w.seats i s l in
        let is = ap under_way (get_or_from_slice_get w.seats i s s at) in
        omega (arith, one, is, sound.balance, none)

    held_none : (loaded : Bool) (item : Item) → held_balance loaded item ≡ 0 → (loaded ≡ true) × (item ≡ Nothing)
    held_none false item h = absurd (omega arith)
    held_none true Nothing h = (refl, refl)
    held_none true Fresh h = absurd (omega arith)
    held_none true Owed h = absurd (omega arith)

    resting : (i : ℕ) (s : Seat) → IsAt w i s → (s.owner.loaded ≡ true) × (s.item ≡ Nothing)
    resting i s at = (let a = at_rest i s at in held_none s.owner.loaded s.item (omega (arith, a)))

    no_length : {X : Type 0} (xs : List X) → length xs ≡ 0 → xs ≡ []
    no_length [] h = refl
    no_length (x ∷ xs) h = absurd (omega arith)

    lane_rest : (i : ℕ) (s : Seat) → IsAt w i s → (j : ℕ) → length (lane_to s j).out + length (lane_to s j).box ≡ 0
    lane_rest i s at j = ⊎_elim
        (λ within. (let one = get_or-le-sum_by
        (λ (l : Lane). length l.out + length l.box) s.lanes j empty_lane within in let a = at_rest i s at in
        omega (arith, one, a)))
        (λ past. ap (λ (l : Lane). length l.out + length l.box) (get_or_past s.lanes j empty_lane past))
        (cases_lt j (length s.lanes))

    item_differs : {i : Item} → i ≡ Nothing → i ≢ Fresh
    item_differs is other = absurd (cc)

    pub still : IsStill w
    still i j s at =
        let seat = sound.seats i s at in
        let r = lane_rest i s at j in
        let fresh : (lane_to s j).fresh ≡ [] = seat.fresh (item_differs (resting i s at).1) j in
        let out : (lane_to s j).out ≡ [] = no_length (lane_to s j).out (omega (arith, r)) in
        let box : (lane_to s j).box ≡ [] = no_length (lane_to s j).box (omega (arith, r)) in
        lane_is (lane_to s j) fresh out box

    world_settled : AreSettled q c (logs_of w) (received_of w)
    world_settled = record {
      saturated = λ i l.
          let s = seat_at i l in
          let f = seat_saturated q c i s.0 (sound.seats i s.0 s.1)
          ((sound.seats i s.0 s.1).done (resting i s.0 s.1).0) in
          record {
            base = λ r e own b. subst (λ xs. IsTold xs r e) (sym (list_at i s.0 s.1 r)) (f.base r e own b);
            each = λ k there own e h. subst (λ xs. IsTold xs k.sup e) (sym (list_at i s.0 s.1 k.sup))
                (f.each k there own e (asked_weaker q.graph _ k.at _
                (λ x t. subst (λ xs. IsTold xs k.sub x) (list_at i s.0 s.1 k.sub) t) e h));
          };
      told = λ i j li lj differ.
          let s = seat_at i li in
          let t = seat_at j lj in
          let way = sound.ways j i t.0 s.0 (λ x. differ (sym x)) t.1 s.1 in
          let lane = still j i t.0 t.1 in
          let whole : part_for t.0.owner i ≡ received_from s.0.owner j = way
          ∙ (ap (λ (l : Lane). received_from s.0.owner j ++ (l.box ++ (l.out ++ l.fresh))) lane
          ∙ append-nil (received_from s.0.owner j)) in
          received_at i s.0 s.1 j ∙ (sym whole
          ∙ (seat_part q c j t.0 (sound.seats j t.0 t.1) i ∙ ap (part q c i) (sym (log_at j t.0 t.1))));
    }

    module _ (problem : IsSoundProblem q) (cut : IsCutOf q c) where
      says_from : (r e : ℕ) → IsTold (log_of (logs_of w) (owner_of c r)) r e → LogSays c w r e
      says_from r e h = ⊎_elim
          (λ within. let s = get_within w.seats (owner_of c r) within in
          (s.0, s.1, subst (λ xs. IsTold xs r e) (log_at (owner_of c r) s.0 s.1) h))
          (λ past.
          let empty : log_of (logs_of w) (owner_of c r) ≡ [] =
          get_or_past (logs_of w) (owner_of c r) []
          (omega (arith, past, length-map w.seats (λ (s : Seat). s.owner.log))) in
          absurd (let l = (subst (λ xs. IsTold xs r e) empty h).1.1 in omega arith))
          (cases_lt (owner_of c r) (length w.seats))

      pub says_least : (r e : ℕ) → LogSays c w r e ↔ Least q r e
      says_least r e =
          let x = least_exact q c (logs_of w) (received_of w) problem cut world_sound world_settled r e in
          (λ h. x.0 (said r e h), λ l. says_from r e (x.1 l))

  pub said_least : IsSoundProblem q → IsCutOf q c → (r e : ℕ) → LogSays c w r e → Least q r e
  said_least problem cut r e h =
      let s = said r e h in
      let l = slice_get_within w.seats (owner_of c r) h.0 h.1 in
      subst (λ x. Least q x e) s.2 (subst (λ f. Least q s.0.region f) s.3
      (each_least q c (logs_of w) (received_of w) problem cut world_sound (owner_of c r) s.0
      (subst (λ n. owner_of c r < n) sound.count l) s.1))
