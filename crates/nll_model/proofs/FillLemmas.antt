-- What filling the lanes of a seat adds up to.
use Rattle.std.proofs.Common.{◌≡◌, ◌≢◌, ℕ, ◌+◌, ◌<◌, true, false, List, [], ◌++◌, length, drop, set, get_or, refl, sym, ap, ◌∙◌, subst, ⊎_elim, arith}
use Rattle.std.proofs.lemmas.Bool.{cases_eq}
use Rattle.std.proofs.lemmas.List.{length-set, get_or-set_same, get_or-set_other, get_or_default}
use Rattle.nll_owner.specs.Logs.{IsPrefix}
use Rattle.nll_owner.specs.Owner.{Owner, IsSoundOwner, IsDone, part_for, given_to}
use Rattle.nll_model.specs.declared.seat.Item.TheVariants.{Fresh}
use Rattle.nll_model.specs.State.{Lane, empty_lane, Seat, lane_to}
use Rattle.nll_model.specs.Events.{TakesTurn}
use Rattle.nll_model.specs.Working.{FillsLanes}

pub fills_none : (s : Seat) → IsSoundOwner s.owner → FillsLanes s s 0
fills_none s sound = record {
  sound = sound;
  owner = refl;
  item = refl;
  left = refl;
  lane_count = refl;
  given = λ j l. absurd (omega arith);
  lanes = λ j l. absurd (omega arith);
  other_given = λ j l. refl;
  other_lanes = λ j l. refl;
}

module _ (first now : Seat) (count : ℕ) (f : FillsLanes first now count) (old new : Lane) (owner : Owner)
    (within : count < length now.lanes) (old_is : old ≡ get_or now.lanes count old)
    (new_is : new ≡ record old { fresh = old.fresh ++ drop (given_to now.owner count) (part_for now.owner count) })
    (given : given_to owner count ≡ length (part_for now.owner count))
    (others : owner ≡ record now.owner { given = owner.given })
    (other_given : (j : ℕ) → j ≢ count → given_to owner j ≡ given_to now.owner j) (sound : IsSoundOwner owner) where
  abbrev pub next : Seat
  next = record now { owner = owner; lanes = set now.lanes count new }

  lane_is : old ≡ lane_to now count
  lane_is = old_is ∙ get_or_default now.lanes count old empty_lane within

  lane_first : old ≡ lane_to first count
  lane_first = lane_is ∙ f.other_lanes count (omega arith)

  part_same : (j : ℕ) → part_for now.owner j ≡ part_for first.owner j
  part_same j = ap (λ (o : Owner). part_for o j) f.owner

  given_first : given_to now.owner count ≡ given_to first.owner count
  given_first = f.other_given count (omega arith)

  here : lane_to next count ≡ record (lane_to first count)
      { fresh = (lane_to first count).fresh ++ drop (given_to first.owner count) (part_for first.owner count) }
  here =
      get_or-set_same now.lanes count new empty_lane within
      ∙ (new_is
      ∙ (ap (λ (l : Lane). record l { fresh = l.fresh ++ drop (given_to now.owner count) (part_for now.owner count) })
      lane_first
      ∙ (ap (λ n. record (lane_to first count)
      { fresh = (lane_to first count).fresh ++ drop n (part_for now.owner count) }) given_first
      ∙ ap (λ xs. record (lane_to first count)
      { fresh = (lane_to first count).fresh ++ drop (given_to first.owner count) xs }) (part_same count))))

  there : (j : ℕ) → j ≢ count → lane_to next j ≡ lane_to now j
  there j differs = get_or-set_other now.lanes count j new empty_lane differs

  pub fills_more : FillsLanes first next (count + 1)
  fills_more = record {
    sound = sound;
    owner = others ∙ ap (λ (o : Owner). record o { given = owner.given }) f.owner;
    item = f.item;
    left = f.left;
    lane_count = length-set now.lanes count new ∙ f.lane_count;
    given = λ j l. ⊎_elim
        (λ same. subst (λ k. given_to owner k ≡ length (part_for first.owner k)) (sym same)
        (given ∙ ap length (part_same count)))
        (λ differs. other_given j differs ∙ f.given j (omega arith))
        (cases_eq j count);
    lanes = λ j l. ⊎_elim
        (λ same. subst (λ k. lane_to next k
        ≡ record (lane_to first k) {
          fresh = (lane_to first k).fresh ++ drop (given_to first.owner k)
              (part_for first.owner k);
        }) (sym same) here)
        (λ differs. there j differs ∙ f.lanes j (omega arith))
        (cases_eq j count);
    other_given = λ j l. other_given j (λ e. absurd (omega arith)) ∙ f.other_given j (omega arith);
    other_lanes = λ j l. there j (λ e. absurd (omega arith)) ∙ f.other_lanes j (omega arith);
  }

-- ---- a load, or a receipt, and then the lanes

module _ (old middle new : Seat) (count : ℕ) (begins : IsPrefix old.owner.log middle.owner.log)
    (problem : middle.owner.problem ≡ old.owner.problem) (cut : middle.owner.cut ≡ old.owner.cut)
    (me : middle.owner.me ≡ old.owner.me)
    (given : middle.owner.given ≡ old.owner.given) (left : middle.left ≡ old.left) (lanes : middle.lanes ≡ old.lanes)
    (done : IsDone middle.owner) (whole : middle.owner.broken ≡ false) (loaded : middle.owner.loaded ≡ true)
    (none_fresh : (j : ℕ) → (lane_to old j).fresh ≡ []) (owners : count ≡ middle.owner.cut.owners)
    (f : FillsLanes middle new count) where
  lane_old : (j : ℕ) → lane_to middle j ≡ lane_to old j
  lane_old j = ap (λ ls. get_or ls j empty_lane) lanes

  in_count : (j : ℕ) → j < new.owner.cut.owners → j < count
  in_count j l = subst (λ n. j < n) (ap (λ (o : Owner). o.cut.owners) f.owner ∙ sym owners) l

  part_new : (j : ℕ) → part_for new.owner j ≡ part_for middle.owner j
  part_new j = ap (λ (o : Owner). part_for o j) f.owner

  fresh_is : (j : ℕ) → (lane_to middle j).fresh ++ drop (given_to middle.owner j) (part_for middle.owner j)
      ≡ drop (given_to old.owner j) (part_for new.owner j)
  fresh_is j =
      ap (λ xs. xs ++ drop (given_to middle.owner j) (part_for middle.owner j))
      (ap (λ (l : Lane). l.fresh) (lane_old j) ∙ none_fresh j)
      ∙ (ap (λ (g : List ℕ). drop (get_or g j 0) (part_for middle.owner j)) given
      ∙ ap (drop (given_to old.owner j)) (sym (part_new j)))

  pub turned : TakesTurn old (record new { item = Fresh })
  turned = record {
    begins = (begins.0, ap (λ (o : Owner). o.log) f.owner ∙ begins.1);
    problem = ap (λ (o : Owner). o.problem) f.owner ∙ problem;
    cut = ap (λ (o : Owner). o.cut) f.owner ∙ cut;
    me = ap (λ (o : Owner). o.me) f.owner ∙ me;
    sound = f.sound;
    whole = ap (λ (o : Owner). o.broken) f.owner ∙ whole;
    done = subst IsDone (sym f.owner) done;
    loaded = ap (λ (o : Owner). o.loaded) f.owner ∙ loaded;
    item = refl;
    left = f.left ∙ left;
    count = f.lane_count ∙ ap length lanes;
    given = λ j l. f.given j (in_count j l) ∙ ap length (sym (part_new j));
    lanes = λ j l. f.lanes j (in_count j l)
        ∙ (ap (λ (m : Lane). record m {
          fresh = (lane_to middle j).fresh ++ drop (given_to middle.owner j)
              (part_for middle.owner j);
        }) (lane_old j) ∙ ap (λ xs. record (lane_to old j) { fresh = xs }) (fresh_is j));
  }
