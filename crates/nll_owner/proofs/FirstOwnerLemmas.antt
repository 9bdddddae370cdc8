-- An owner that has done nothing yet.
use Rattle.std.proofs.Common.{◌≡◌, ℕ, min, ◌+◌, ◌<◌, ◌≤◌, false, List, [], length, map, replicate, Contains, get_or, take, refl, sym, ap, ◌∙◌, subst, inl, ⊎_elim, arith}
use Rattle.std.specs.List.{sum_by}
use Rattle.std.proofs.lemmas.Bool.{cases_eq, cases_lt, false≢true}
use Rattle.std.proofs.lemmas.List.{get_or-map, length-map, get_or-replicate, get_or_past, length-replicate}
use Rattle.std.proofs.lemmas.List.Sums.{sum_by_more, count_by-le-length}
use Rattle.std.proofs.lemmas.List.Folds.{sum_by-replicate}
use Rattle.std.proofs.lemmas.Nat.{mul-le}
use Rattle.nll_problem.specs.Graph.{element_count}
use Rattle.nll_problem.specs.Problem.{Problem, IsSound as IsSoundProblem}
use Rattle.nll_core.specs.Growing.{missing_pairs}
use Rattle.nll_core.proofs.GrowingLemmas.{nothing_held}
use Rattle.nll_cut.specs.Partition.{Cut, owner_of, IsSoundCut}
use Rattle.nll_mail.specs.declared.growth.Growth.{Growth}
use Rattle.nll_owner.specs.Owner.{received_from, Has, pair_count, IsSoundOwner, first_owner}
use Rattle.nll_owner.specs.Keeping.{AreValuesKept, AreSlotted, held_regions}
use Rattle.nll_owner.proofs.LogLemmas.{list_own, list_other}
use Rattle.nll_owner.proofs.SlotLemmas.{held_short}
use Rattle.nll_owner.proofs.OwnGrowthLemmas.{count}

-- ---- an owner that has done nothing yet

-- so many empty sets are one for each region that it holds
pub first_slotted : (q : Problem) (c : Cut) (i n : ℕ) → n ≡ length (held_regions (first_owner q c i))
    → AreSlotted (first_owner q c i) (replicate n (replicate (element_count q.graph) false))
first_slotted q c i n count = grind (arith, length-replicate, count, get_or-replicate)

module _ (q : Problem) (c : Cut) (i : ℕ) where
  no_growth : (g : Growth) → Contains [] g → ⊥
  no_growth g h = omega (arith, h.1)

  none_received : (j : ℕ) → received_from (first_owner q c i) j ≡ []
  none_received j = grind (arith, get_or-replicate, get_or_past, length-replicate, cases_lt)

  none_heard : (j : ℕ) (g : Growth) → Contains (received_from (first_owner q c i) j) g → ⊥
  none_heard j g h = no_growth g (subst (λ (xs : List Growth). Contains xs g) (none_received j) h)

  zero_at : (j : ℕ) → ◌≡◌ {A = ℕ} (get_or (replicate c.owners 0) j 0) 0
  zero_at j = grind (arith, get_or-replicate, get_or_past, length-replicate, cases_lt)

  -- it has nothing
  pub has_nothing : (r e : ℕ) → Has (first_owner q c i) r e → ⊥
  has_nothing r e h = ⊎_elim
      (λ own. no_growth h.0 (subst (λ (xs : List Growth). Contains xs h.0)
      (list_own c i [] (received_from (first_owner q c i)) r own) h.1))
      (λ other. none_heard (owner_of c r) h.0
      (subst (λ (xs : List Growth). Contains xs h.0)
      (list_other c i [] (received_from (first_owner q c i)) r other) h.1))
      (cases_eq (owner_of c r) i)

  module _ (problem : IsSoundProblem q) (cut : IsSoundCut c) (regions : length c.list ≡ q.regions)
      (me : i < c.owners) where
    pub first_sound : IsSoundOwner (first_owner q c i)
    first_sound = record {
      problem = problem;
      cut = record { cut = cut; regions = regions };
      me = me;
      well_formed =
          record {
            own = λ g h. absurd (no_growth g h);
            once = λ j k d l h. absurd (omega (arith, h));
            rising = λ j k d l h. absurd (omega (arith, h));
            from_one = λ g h. absurd (no_growth g h);
          };
      supported = λ g h. absurd (no_growth g h);
      based = λ h. absurd (false≢true h);
      elements = λ g h. absurd (no_growth g h);
      few = omega arith;
      senders = length-replicate c.owners [];
      heard = λ j g h. absurd (none_heard j g h);
      own_ranks = λ g h. absurd (no_growth g h);
      heard_ranks = λ j g h. absurd (none_heard j g h);
      early = λ j g h. absurd (none_heard j g h);
      paced = λ n all. omega arith;
      top = inl refl;
      steps = λ g h. absurd (no_growth g h);
      receivers = length-replicate c.owners 0;
      given = λ j. omega (arith, zero_at j);
    }

    pub first_kept : (slots : List ℕ) → slots ≡ held_regions (first_owner q c i)
        → AreValuesKept (first_owner q c i) slots (replicate (length slots) (replicate (element_count q.graph) false))
    first_kept slots same = record {
      sound = first_sound;
      same_slots = same;
      shaped = first_slotted q c i (length slots) (ap length same);
      held = λ s r e here. (
        λ h. absurd (nothing_held (length slots) (element_count q.graph) s e h),
        λ h. absurd (has_nothing r e h),
      );
      room = omega (arith, most);
    }
      where
        most : missing_pairs (replicate (length slots) (replicate (element_count q.graph) false)) ≤ pair_count q
        most = grind (arith, sum_by-replicate, count_by-le-length, length-replicate, held_short, mul-le)

-- one more list is counted
pub count_more : {V : Type 0} (f : V → List Growth) (lists : List V) (i : ℕ) (v : V) (count : ℕ) → i < length lists
    → v ≡ get_or lists i v → count ≡ min (sum_by length (take i (map f lists))) 18446744073709551615
    → min (count + length (f v)) 18446744073709551615
    ≡ min (sum_by length (take (i + 1) (map f lists))) 18446744073709551615
count_more {V} f lists i v count within is so_far =
    let more = sum_by_more {X = List Growth} length (map f lists) i (f v) (omega (arith, within, length-map lists f)) in
    let item : length (get_or (map f lists) i (f v)) ≡ length (f v) = ap length (get_or-map f lists i v (f v) within)
    ∙ ap (λ (w : V). length (f w)) (sym is) in
    omega (arith, so_far, more, item)
