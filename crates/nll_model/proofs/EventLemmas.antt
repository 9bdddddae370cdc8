-- Every event keeps the world sound.
use Rattle.std.proofs.Common.{◌≡◌, ◌≢◌, ℕ, ◌+◌, ◌<◌, Bool, true, false, List, [], ◌∷◌, ◌++◌, length, map, drop, Contains, get_or, set, slice_get, Some, refl, sym, ap, ◌∙◌, subst, inl, inr, ◌⊎◌, ⊎_elim, arith, append-nil, append_assoc, length-append}
use Rattle.std.specs.Prelude.{sum_by}
use Rattle.std.proofs.Math.ListN.{get_or-map}
use Rattle.std.proofs.lemmas.Bool.{cases_eq, false≢true}
use Rattle.std.proofs.lemmas.Option.{slice_get_within, get_or_from_slice_get}
use Rattle.std.proofs.lemmas.List.{length-map, length-set, get_or-set_same, get_or-set_other}
use Rattle.std.proofs.lemmas.List.Elements.{filter-append, Contains-append_right}
use Rattle.std.proofs.lemmas.List.Sums.{sum_by-set, sum_by-cons}
use Rattle.nll_problem.specs.Problem.{Problem}
use Rattle.nll_cut.specs.Partition.{Cut, owner_of}
use Rattle.nll_mail.specs.declared.growth.Growth.{Growth}
use Rattle.nll_owner.specs.Logs.{part}
use Rattle.nll_owner.specs.Owner.{received_from, part_for, given_to, with_growth}
use Rattle.nll_model.specs.declared.seat.Item.TheVariants.{Nothing, Fresh, Owed}
use Rattle.nll_model.specs.State.{Lane, empty_lane, Seat, WorldState, lane_to, IsAt, with_seat, with_lane}
use Rattle.nll_model.specs.Events.{owed_lane, fresh_count, TakesTurn}
use Rattle.nll_model.specs.Soundness.{held_balance, under_way, IsSoundSeat, IsSoundState}
use Rattle.nll_model.proofs.LaneLemmas.{drop_front, none_own, owing, set_cases, sum_same, whole}

-- ---- another seat for one owner

module _ (q : Problem) (c : Cut) (w : WorldState) (sound : IsSoundState q c w) (i : ℕ) (s : Seat)
    (at : IsAt w i s) where
  i_within : i < length w.seats
  i_within = slice_get_within w.seats i s at

  module _ (t : Seat) (seat : IsSoundSeat q c i t) (balance : ℕ)
      (to : (j : ℕ) (u : Seat) → i ≢ j → IsAt w j u
      → part_for t.owner j ≡ received_from u.owner i ++ whole (lane_to t j))
      (from : (j : ℕ) (u : Seat) → i ≢ j → IsAt w j u
      → part_for u.owner i ≡ received_from t.owner j ++ whole (lane_to u i))
      (balanced : balance + under_way s ≡ w.balance + under_way t) where
    pub one_seat : IsSoundState q c (record { seats = set w.seats i t; balance = balance })
    one_seat = record {
      count = length-set w.seats i t ∙ sound.count;
      seats = λ k u h. ⊎_elim
          (λ (p : (k ≡ i) × (u ≡ t)). subst (λ x. IsSoundSeat q c x u) (sym p.0)
          (subst (IsSoundSeat q c i) (sym p.1) seat))
          (λ (p : (k ≢ i) × (slice_get w.seats k ≡ Some u)). sound.seats k u p.1)
          (set_cases w.seats i t k u h);
      ways = λ a b u v differ hu hv. ⊎_elim
          (λ (p : (a ≡ i) × (u ≡ t)). ⊎_elim
          (λ (r : (b ≡ i) × (v ≡ t)). absurd (differ (p.0 ∙ sym r.0)))
          (λ (r : (b ≢ i) × (slice_get w.seats b ≡ Some v)).
          subst (λ x. part_for x.owner b ≡ received_from v.owner a ++ whole (lane_to x b)) (sym p.1)
          (subst (λ x. part_for t.owner b ≡ received_from v.owner x ++ whole (lane_to t b)) (sym p.0)
          (to b v (λ e. r.0 (sym e)) r.1)))
          (set_cases w.seats i t b v hv))
          (λ (p : (a ≢ i) × (slice_get w.seats a ≡ Some u)). ⊎_elim
          (λ (r : (b ≡ i) × (v ≡ t)).
          subst (λ x. part_for u.owner b ≡ received_from x.owner a ++ whole (lane_to u b)) (sym r.1)
          (subst (λ x. part_for u.owner x ≡ received_from t.owner a ++ whole (lane_to u x)) (sym r.0)
          (from a u (λ e. p.0 (sym e)) p.1)))
          (λ (r : (b ≢ i) × (slice_get w.seats b ≡ Some v)). sound.ways a b u v differ p.1 r.1)
          (set_cases w.seats i t b v hv))
          (set_cases w.seats i t a u hu);
      balance =
          let sum = sum_by-set under_way w.seats i t s i_within in
          let is = ap under_way (get_or_from_slice_get w.seats i s s at) in
          omega (arith, sum, is, sound.balance, balanced);
    }

  -- where the owner stays and each lane has the same growths
  module _ (t : Seat) (seat : IsSoundSeat q c i t) (balance : ℕ) (owner : t.owner ≡ s.owner)
      (lanes : (j : ℕ) → whole (lane_to t j) ≡ whole (lane_to s j))
      (balanced : balance + under_way s ≡ w.balance + under_way t) where
    pub same_owner : IsSoundState q c (record { seats = set w.seats i t; balance = balance })
    same_owner = one_seat t seat balance
        (λ j u differ hu. subst (λ x. part_for x j ≡ received_from u.owner i ++ whole (lane_to t j)) (sym owner)
        (sound.ways i j s u differ at hu ∙ ap (λ x. received_from u.owner i ++ x) (sym (lanes j))))
        (λ j u differ hu. subst (λ x. part_for u.owner i ≡ received_from x j ++ whole (lane_to u i)) (sym owner)
        (sound.ways j i u s (λ e. differ (sym e)) hu at))
        balanced

  seat : IsSoundSeat q c i s
  seat = sound.seats i s at

  -- ---- Owe

  pub owe : s.item ≡ Fresh → IsSoundState q c
      (record {
        seats = set w.seats i (record s { item = Owed; lanes = map owed_lane s.lanes });
        balance = w.balance + fresh_count s;
      })
  owe fresh = same_owner t new (w.balance + fresh_count s) refl lanes (omega (arith, weight s.lanes, held_s, held_t))
    where
      t : Seat
      t = record s { item = Owed; lanes = map owed_lane s.lanes }

      lanes : (j : ℕ) → whole (lane_to t j) ≡ whole (lane_to s j)
      lanes j =
          ap whole (get_or-map owed_lane s.lanes j empty_lane)
          ∙ ap (λ x. (lane_to s j).box ++ x) (append-nil ((lane_to s j).out ++ (lane_to s j).fresh))

      loaded : s.owner.loaded ≡ true
      loaded = go s.owner.loaded refl
        where
          go : (b : Bool) → s.owner.loaded ≡ b → b ≡ true
          go true h = refl
          go false h = absurd (cc (seat.unloaded h, fresh))

      held_s : held_balance s.owner.loaded s.item ≡ 1
      held_s = ap (λ b. held_balance b s.item) loaded ∙ ap (held_balance true) fresh

      held_t : held_balance s.owner.loaded Owed ≡ 1
      held_t = ap (λ b. held_balance b Owed) loaded

      new : IsSoundSeat q c i t
      new = record {
        problem = seat.problem;
        cut = seat.cut;
        me = seat.me;
        sound = seat.sound;
        whole = seat.whole;
        count = length-map s.lanes owed_lane ∙ seat.count;
        given = seat.given;
        done = seat.done;
        unloaded = λ h. absurd (false≢true (sym h ∙ loaded));
        own = get_or-map owed_lane s.lanes i empty_lane ∙ ap owed_lane seat.own;
        fresh = λ h j. ap (λ (l : Lane). l.fresh) (get_or-map owed_lane s.lanes j empty_lane);
      }

      weight : (ls : List Lane) → sum_by owing (map owed_lane ls)
          ≡ sum_by owing ls + sum_by (λ (l : Lane). length l.fresh) ls
      weight [] = refl
      weight (l ∷ ls) =
          omega (
            arith,
            weight ls,
            length-append l.out l.fresh,
            sum_by-cons owing (owed_lane l) (map owed_lane ls),
            sum_by-cons owing l ls,
            sum_by-cons (λ (l : Lane). length l.fresh) l ls,
          )

  -- ---- Clear

  pub clear : (balance : ℕ) → s.item ≡ Owed → w.balance ≡ balance + 1
      → IsSoundState q c (record { seats = set w.seats i (record s { item = Nothing }); balance = balance })
  clear balance owed less =
      same_owner (record s { item = Nothing }) new balance refl (λ j. refl) (omega (arith, less, held_s, held_t))
    where
      loaded : s.owner.loaded ≡ true
      loaded = go s.owner.loaded refl
        where
          go : (b : Bool) → s.owner.loaded ≡ b → b ≡ true
          go true h = refl
          go false h = absurd (cc (seat.unloaded h, owed))

      held_s : held_balance s.owner.loaded s.item ≡ 1
      held_s = ap (λ b. held_balance b s.item) loaded ∙ ap (held_balance true) owed

      held_t : held_balance s.owner.loaded Nothing ≡ 0
      held_t = ap (λ b. held_balance b Nothing) loaded

      new : IsSoundSeat q c i (record s { item = Nothing })
      new = record {
        problem = seat.problem;
        cut = seat.cut;
        me = seat.me;
        sound = seat.sound;
        whole = seat.whole;
        count = seat.count;
        given = seat.given;
        done = seat.done;
        unloaded = λ h. refl;
        own = seat.own;
        fresh = λ h j. seat.fresh (λ e. absurd (cc (e, owed))) j;
      }

  -- ---- Leave

  pub leave : IsSoundState q c (record { seats = set w.seats i (record s { left = true }); balance = w.balance })
  leave = same_owner (record s { left = true }) (record {
    problem = seat.problem;
    cut = seat.cut;
    me = seat.me;
    sound = seat.sound;
    whole = seat.whole;
    count = seat.count;
    given = seat.given;
    done = seat.done;
    unloaded = seat.unloaded;
    own = seat.own;
    fresh = seat.fresh;
  }) w.balance refl (λ j. refl) refl

  -- ---- Push

  pub push : (j : ℕ) (g : Growth) (rest : List Growth) → i ≢ j → j < length s.lanes → (lane_to s j).out ≡ g ∷ rest
      → IsSoundState q c (record {
        seats = set w.seats i
            (with_lane s j (record (lane_to s j) { out = rest; box = (lane_to s j).box ++ g ∷ [] }));
        balance =
            w.balance;
      })
  push j g rest differ within first =
      same_owner t new w.balance refl lanes (omega (arith, sum, ap length first, length-append l.box (g ∷ [])))
    where
      l : Lane
      l = lane_to s j

      m : Lane
      m = record (lane_to s j) { out = rest; box = (lane_to s j).box ++ g ∷ [] }

      t : Seat
      t = with_lane s j (record (lane_to s j) { out = rest; box = (lane_to s j).box ++ g ∷ [] })

      same_whole : whole m ≡ whole l
      same_whole = append_assoc (lane_to s j).box (g ∷ []) (rest ++ (lane_to s j).fresh)
          ∙ ap (λ x. (lane_to s j).box ++ (x ++ (lane_to s j).fresh)) (sym first)

      here : lane_to t j ≡ m
      here = get_or-set_same s.lanes j m empty_lane within

      lanes : (k : ℕ) → whole (lane_to t k) ≡ whole (lane_to s k)
      lanes k = ⊎_elim
          (λ same. subst (λ x. whole (lane_to t x) ≡ whole (lane_to s x)) (sym same) (ap whole here ∙ same_whole))
          (λ differs. ap whole (get_or-set_other s.lanes j k m empty_lane differs))
          (cases_eq k j)

      sum : sum_by owing (set s.lanes j m) + owing (lane_to s j) ≡ sum_by owing s.lanes + owing m
      sum = sum_by-set owing s.lanes j m empty_lane within

      new : IsSoundSeat q c i t
      new = record {
        problem = seat.problem;
        cut = seat.cut;
        me = seat.me;
        sound = seat.sound;
        whole = seat.whole;
        count = length-set s.lanes j m ∙ seat.count;
        given = seat.given;
        done = seat.done;
        unloaded = seat.unloaded;
        own = get_or-set_other s.lanes j i m empty_lane differ ∙ seat.own;
        fresh = λ h k. ⊎_elim
            (λ same. subst (λ x. (lane_to t x).fresh ≡ []) (sym same)
            (ap (λ (l : Lane). l.fresh) here ∙ seat.fresh h j))
            (λ differs. ap (λ (l : Lane). l.fresh) (get_or-set_other s.lanes j k m empty_lane differs) ∙ seat.fresh h k)
            (cases_eq k j);
      }

  owner_in : (j : ℕ) (u : Seat) → IsAt w j u → j < c.owners
  owner_in j u h = subst (λ n. j < n) sound.count (slice_get_within w.seats j u h)

  -- ---- an owner's turn

  module _ (t : Seat) (turns : TakesTurn s t) (idle : s.item ≡ Nothing) where
    owners_is : t.owner.cut.owners ≡ c.owners
    owners_is = ap (λ (x : Cut). x.owners) (turns.cut ∙ seat.cut)

    part_more : (j : ℕ) → part_for t.owner j ≡ part_for s.owner j ++ part s.owner.problem s.owner.cut j turns.begins.0
    part_more j =
        ap (λ x. part x t.owner.cut j t.owner.log) turns.problem
        ∙ (ap (λ x. part s.owner.problem x j t.owner.log) turns.cut
        ∙ (ap (λ x. part s.owner.problem s.owner.cut j x) turns.begins.1
        ∙ filter-append _ s.owner.log turns.begins.0))

    -- what is fresh is what the log grew
    fresh_is : (j : ℕ) → j < c.owners → drop (given_to s.owner j) (part_for t.owner j)
        ≡ part s.owner.problem s.owner.cut j turns.begins.0
    fresh_is j l = ap (λ x. drop x (part_for t.owner j)) (seat.given j l)
        ∙ (ap (λ x. drop (length (part_for s.owner j)) x) (part_more j)
        ∙ drop_front (part_for s.owner j) (part s.owner.problem s.owner.cut j turns.begins.0))

    lane_is : (j : ℕ) → j < c.owners → lane_to t j
        ≡ record (lane_to s j) { fresh = part s.owner.problem s.owner.cut j turns.begins.0 }
    lane_is j l = turns.lanes j (subst (λ n. j < n) (sym owners_is) l)
        ∙ ap (λ x. record (lane_to s j) { fresh = x }) (fresh_is j l)

    none_fresh : (j : ℕ) → (lane_to s j).fresh ≡ []
    none_fresh j = seat.fresh (λ e. absurd (cc (e, idle))) j

    turn_to : (j : ℕ) (got : List Growth) → j < c.owners → part_for s.owner j ≡ got ++ whole (lane_to s j)
        → part_for t.owner j ≡ got ++ whole (lane_to t j)
    turn_to j got l way =
        let m = part s.owner.problem s.owner.cut j turns.begins.0 in
        let box = (lane_to s j).box in
        let out = (lane_to s j).out in
        let short : part_for s.owner j ≡ got ++ (box ++ out) = way
        ∙ (ap (λ x. got ++ (box ++ (out ++ x))) (none_fresh j) ∙ ap (λ x. got ++ (box ++ x)) (append-nil out)) in
        part_more j ∙ (ap (λ x. x ++ m) short
        ∙ (append_assoc got (box ++ out) m ∙
        (ap (λ x. got ++ x) (append_assoc box out m) ∙ ap (λ (l : Lane). got ++ whole l) (sym (lane_is j l)))))

    own_part : part s.owner.problem s.owner.cut i turns.begins.0 ≡ []
    own_part =
        none_own s.owner.problem s.owner.cut i turns.begins.0
        (λ g h. subst (λ x. owner_of s.owner.cut g.region ≡ x) (turns.me ∙ seat.me)
        (subst (λ x. owner_of x g.region ≡ t.owner.me) turns.cut
        (turns.sound.well_formed.own g (subst (λ xs. Contains xs g) (sym turns.begins.1)
        (Contains-append_right s.owner.log turns.begins.0 g h)))))

    own_turned : lane_to t i ≡ empty_lane
    own_turned = lane_is i (owner_in i s at)
        ∙ (ap (λ x. record (lane_to s i) { fresh = x }) own_part ∙ ap (λ (l : Lane). record l { fresh = [] }) seat.own)

    turned_seat : IsSoundSeat q c i t
    turned_seat = record {
      problem = turns.problem ∙ seat.problem;
      cut = turns.cut ∙ seat.cut;
      me = turns.me ∙ seat.me;
      sound = turns.sound;
      whole = turns.whole;
      count = turns.count ∙ seat.count;
      given = λ j l. turns.given j (subst (λ n. j < n) (sym owners_is) l);
      done = λ h. turns.done;
      unloaded = λ h. absurd (false≢true (sym h ∙ turns.loaded));
      own = own_turned;
      fresh = λ h. absurd (h turns.item);
    }

    same_owing : sum_by owing t.lanes ≡ sum_by owing s.lanes
    same_owing =
        sum_same owing empty_lane t.lanes s.lanes turns.count
        (λ j l. ap owing (lane_is j (subst (λ n. j < n) seat.count l)))

    turned_way : under_way t ≡ 1 + sum_by owing s.lanes
    turned_way =
        let h : held_balance t.owner.loaded t.item ≡ 1 =
        ap (λ b. held_balance b t.item) turns.loaded ∙ ap (held_balance true) turns.item in
        omega (arith, h, same_owing)

    -- ---- Load

    pub load : s.owner.loaded ≡ false → t.owner.received ≡ s.owner.received
        → IsSoundState q c (record { seats = set w.seats i t; balance = w.balance })
    load unloaded same = one_seat t turned_seat w.balance
        (λ j u differ hu. turn_to j (received_from u.owner i) (owner_in j u hu) (sound.ways i j s u differ at hu))
        (λ j u differ hu. subst (λ x. part_for u.owner i ≡ get_or x j [] ++ whole (lane_to u i)) (sym same)
        (sound.ways j i u s (λ e. differ (sym e)) hu at))
        (let h : held_balance s.owner.loaded s.item ≡ 1 =
        ap (λ b. held_balance b s.item) unloaded in omega (arith, h, turned_way))

    -- ---- Take

    module _ (j : ℕ) (u : Seat) (g : Growth) (left : List Growth) (differ : i ≢ j) (loaded : s.owner.loaded ≡ true)
        (at_u : IsAt w j u) (first : (lane_to u i).box ≡ g ∷ left)
        (same : t.owner.received ≡ with_growth s.owner.received j g) where
      popped : Lane
      popped = record (lane_to u i) { box = left }

      abbrev giver : Seat
      giver = with_lane u i (record (lane_to u i) { box = left })

      abbrev taken : WorldState
      taken = with_seat (with_seat w i t) j giver

      i_in : i < c.owners
      i_in = owner_in i s at

      j_in : j < c.owners
      j_in = owner_in j u at_u

      lanes_u : length u.lanes ≡ c.owners
      lanes_u = (sound.seats j u at_u).count

      lane_here : lane_to giver i ≡ record (lane_to u i) { box = left }
      lane_here =
          get_or-set_same u.lanes i (record (lane_to u i) { box = left }) empty_lane (omega (arith, i_in, lanes_u))

      lane_other : (k : ℕ) → k ≢ i → lane_to giver k ≡ lane_to u k
      lane_other k h = get_or-set_other u.lanes i k (record (lane_to u i) { box = left }) empty_lane h

      received_here : received_from t.owner j ≡ received_from s.owner j ++ g ∷ []
      received_here = ap (λ x. get_or x j []) same
          ∙ get_or-set_same s.owner.received j (received_from s.owner j ++ g ∷ []) []
          (omega (arith, seat.sound.senders, j_in, ap (λ (x : Cut). x.owners) seat.cut))

      received_other : (k : ℕ) → k ≢ j → received_from t.owner k ≡ received_from s.owner k
      received_other k h = ap (λ x. get_or x k []) same
          ∙ get_or-set_other s.owner.received j k (received_from s.owner j ++ g ∷ []) [] h

      given_way : part_for u.owner i ≡ received_from t.owner j ++ whole (lane_to giver i)
      given_way =
          let tail = left ++ ((lane_to u i).out ++ (lane_to u i).fresh) in
          sound.ways j i u s (λ e. differ (sym e)) at_u at
          ∙ (ap (λ x. received_from s.owner j ++ (x ++ ((lane_to u i).out ++ (lane_to u i).fresh))) first
          ∙ (sym (append_assoc (received_from s.owner j) (g ∷ []) tail)
          ∙ (ap (λ x. x ++ tail) (sym received_here)
          ∙ ap (λ (l : Lane). received_from t.owner j ++ whole l) (sym lane_here))))

      giver_seat : IsSoundSeat q c j giver
      giver_seat = let old = sound.seats j u at_u in record {
        problem = old.problem;
        cut = old.cut;
        me = old.me;
        sound = old.sound;
        whole = old.whole;
        count = length-set u.lanes i (record (lane_to u i) { box = left }) ∙ old.count;
        given = old.given;
        done = old.done;
        unloaded = old.unloaded;
        own = lane_other j (λ e. differ (sym e)) ∙ old.own;
        fresh = λ h k. ⊎_elim
            (λ same. subst (λ x. (lane_to giver x).fresh ≡ []) (sym same)
            (ap (λ (l : Lane). l.fresh) lane_here ∙ old.fresh h i))
            (λ differs. ap (λ (l : Lane). l.fresh) (lane_other k differs) ∙ old.fresh h k)
            (cases_eq k i);
      }

      giver_owing : sum_by owing giver.lanes + 1 ≡ sum_by owing u.lanes
      giver_owing =
          (let sum = sum_by-set owing u.lanes i (record (lane_to u i) { box = left }) empty_lane
          (omega (arith, i_in, lanes_u)) in omega (arith, sum, ap length first))

      Where : ℕ → Seat → Type 0
      Where k z = ((k ≡ j) × (z ≡ giver)) ⊎ ((k ≢ j) × (((k ≡ i) × (z ≡ t)) ⊎ ((k ≢ i) × IsAt w k z)))

      where_is : (k : ℕ) (z : Seat) → IsAt taken k z
          → ((k ≡ j) × (z ≡ giver)) ⊎ ((k ≢ j) × (((k ≡ i) × (z ≡ t)) ⊎ ((k ≢ i) × IsAt w k z)))
      where_is k z h =
          ⊎_elim (λ p. inl p) (λ (p : (k ≢ j) × (slice_get (set w.seats i t) k ≡ Some z)).
          inr (p.0, set_cases w.seats i t k z p.1)) (set_cases (set w.seats i t) j giver k z h)

      -- the ways from the giver, from the taker and from another
      from_giver : (b : ℕ) (v : Seat) → b ≢ j → IsAt taken b v
          → part_for giver.owner b ≡ received_from v.owner j ++ whole (lane_to giver b)
      from_giver b v differs h = ⊎_elim
          (λ (p : (b ≡ j) × (v ≡ giver)). absurd (differs p.0))
          (λ (p : (b ≢ j) × (((b ≡ i) × (v ≡ t)) ⊎ ((b ≢ i) × IsAt w b v))). ⊎_elim
          (λ (r : (b ≡ i) × (v ≡ t)). subst (λ x. part_for u.owner x
          ≡ received_from v.owner j ++ whole (lane_to giver x)) (sym r.0)
          (subst (λ (x : Seat). part_for u.owner i ≡ received_from x.owner j ++ whole (lane_to giver i))
          (sym r.1) given_way))
          (λ (r : (b ≢ i) × IsAt w b v). sound.ways j b u v (λ e. differs (sym e)) at_u r.1
          ∙ ap (λ (l : Lane). received_from v.owner j ++ whole l) (sym (lane_other b r.0)))
          p.1)
          (where_is b v h)

      from_taker : (b : ℕ) (v : Seat) → b ≢ i → IsAt taken b v
          → part_for t.owner b ≡ received_from v.owner i ++ whole (lane_to t b)
      from_taker b v differs h = ⊎_elim
          (λ (p : (b ≡ j) × (v ≡ giver)). subst
          (λ x. part_for t.owner x ≡ received_from v.owner i ++ whole (lane_to t x)) (sym p.0)
          (subst (λ (x : Seat). part_for t.owner j ≡ received_from x.owner i ++ whole (lane_to t j)) (sym p.1)
          (turn_to j (received_from u.owner i) j_in (sound.ways i j s u differ at at_u))))
          (λ (p : (b ≢ j) × (((b ≡ i) × (v ≡ t)) ⊎ ((b ≢ i) × IsAt w b v))). ⊎_elim
          (λ (r : (b ≡ i) × (v ≡ t)). absurd (differs r.0))
          (λ (r : (b ≢ i) × IsAt w b v). turn_to b (received_from v.owner i) (owner_in b v r.1)
          (sound.ways i b s v (λ e. differs (sym e)) at r.1))
          p.1)
          (where_is b v h)

      from_other : (a b : ℕ) (x v : Seat) → a ≢ i → a ≢ j → a ≢ b → IsAt w a x → IsAt taken b v
          → part_for x.owner b ≡ received_from v.owner a ++ whole (lane_to x b)
      from_other a b x v not_i not_j differs hx h = ⊎_elim
          (λ (p : (b ≡ j) × (v ≡ giver)). subst
          (λ y. part_for x.owner y ≡ received_from v.owner a ++ whole (lane_to x y)) (sym p.0)
          (subst (λ (y : Seat). part_for x.owner j ≡ received_from y.owner a ++ whole (lane_to x j)) (sym p.1)
          (sound.ways a j x u not_j hx at_u)))
          (λ (p : (b ≢ j) × (((b ≡ i) × (v ≡ t)) ⊎ ((b ≢ i) × IsAt w b v))). ⊎_elim
          (λ (r : (b ≡ i) × (v ≡ t)). subst (λ y. part_for x.owner y ≡ received_from v.owner a ++ whole (lane_to x y))
          (sym r.0) (subst (λ (y : Seat). part_for x.owner i ≡ received_from y.owner a ++ whole (lane_to x i))
          (sym r.1)
          (sound.ways a i x s not_i hx at ∙ ap (λ xs. xs ++ whole (lane_to x i)) (sym (received_other a not_j)))))
          (λ (r : (b ≢ i) × IsAt w b v). sound.ways a b x v differs hx r.1)
          p.1)
          (where_is b v h)

      taken_balance : w.balance ≡ sum_by under_way taken.seats
      taken_balance =
          let one = sum_by-set under_way w.seats i t s i_within in
          let is_s = ap under_way (get_or_from_slice_get w.seats i s s at) in
          let two =
          sum_by-set under_way (set w.seats i t) j giver u
          (omega (arith, j_in, sound.count, length-set w.seats i t)) in
          let is_u =
          ap under_way (get_or-set_other w.seats i j t u (λ e. differ (sym e))
          ∙ get_or_from_slice_get w.seats j u u at_u) in
          let idle_s : held_balance s.owner.loaded s.item ≡ 0 =
          ap (λ b. held_balance b s.item) loaded ∙ ap (held_balance true) idle in
          omega (arith, one, is_s, two, is_u, idle_s, giver_owing, turned_way, sound.balance)

      pub take : IsSoundState q c taken
      take = record {
        count = length-set (set w.seats i t) j giver ∙ (length-set w.seats i t ∙ sound.count);
        seats = λ k z h. ⊎_elim
            (λ (p : (k ≡ j) × (z ≡ giver)). subst (λ x. IsSoundSeat q c x z) (sym p.0)
            (subst (IsSoundSeat q c j) (sym p.1) giver_seat))
            (λ (p : (k ≢ j) × (((k ≡ i) × (z ≡ t)) ⊎ ((k ≢ i) × IsAt w k z))). ⊎_elim
            (λ (r : (k ≡ i) × (z ≡ t)). subst (λ x. IsSoundSeat q c x z) (sym r.0)
            (subst (IsSoundSeat q c i) (sym r.1) turned_seat))
            (λ (r : (k ≢ i) × IsAt w k z). sound.seats k z r.1)
            p.1)
            (where_is k z h);
        ways = λ a b x v differs hx hv. ⊎_elim
            (λ (p : (a ≡ j) × (x ≡ giver)).
            subst (λ y. part_for x.owner b ≡ received_from v.owner y ++ whole (lane_to x b)) (sym p.0)
            (subst (λ (y : Seat). part_for y.owner b ≡ received_from v.owner j ++ whole (lane_to y b)) (sym p.1)
            (from_giver b v (λ e. differs (p.0 ∙ sym e)) hv)))
            (λ (p : (a ≢ j) × (((a ≡ i) × (x ≡ t)) ⊎ ((a ≢ i) × IsAt w a x))). ⊎_elim
            (λ (r : (a ≡ i) × (x ≡ t)).
            subst (λ y. part_for x.owner b ≡ received_from v.owner y ++ whole (lane_to x b)) (sym r.0)
            (subst (λ (y : Seat). part_for y.owner b ≡ received_from v.owner i ++ whole (lane_to y b)) (sym r.1)
            (from_taker b v (λ e. differs (r.0 ∙ sym e)) hv)))
            (λ (r : (a ≢ i) × IsAt w a x). from_other a b x v r.0 p.0 differs r.1 hv)
            p.1)
            (where_is a x hx);
        balance = taken_balance;
      }
