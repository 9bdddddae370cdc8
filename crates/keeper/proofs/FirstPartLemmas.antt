-- A part that has done nothing yet.
use Rattle.std.proofs.Common.{◌≡◌, ℕ, ◌<◌, false, List, [], replicate, Contains, get_or, refl, subst, inl, ⊎_elim, arith}
use Rattle.std.proofs.lemmas.Bool.{cases_eq, cases_lt, false≢true}
use Rattle.std.proofs.lemmas.List.{get_or-replicate, get_or_past, length-replicate}
use Rattle.fixpoint.specs.Rules.{Rules, AreLawful}
use Rattle.fixpoint.specs.State.{State, list_in, received_from, first_state}
use Rattle.fixpoint.proofs.LogLemmas.{list_own, list_other, tells_from}
use Rattle.keeper.specs.Keeping.{IsKept, has}
use Rattle.keeper.proofs.ListLemmas.{same_truth}

-- ---- a part that has done nothing yet

module _ {A F G : Type 0} (rules : Rules A F G) (lawful : AreLawful rules) where
  module _ (a : A) (ok : rules.valid a) (i : ℕ) (me : i < rules.parts a) where
    abbrev first : State A G
    first = first_state rules a i

    no_growth : (g : G) → Contains [] g → ⊥
    no_growth g h = omega (arith, h.1)

    none_heard : (j : ℕ) (g : G) → Contains (received_from first j) g → ⊥
    none_heard j g h = no_growth g (subst (λ (xs : List G). Contains xs g) none h)
      where
        none : received_from first j ≡ []
        none = grind (arith, ⊎_elim, get_or-replicate, get_or_past, replicate, length-replicate, cases_lt)

    zero_at : (j : ℕ) → ◌≡◌ {A = ℕ} (get_or (replicate (rules.parts a) 0) j 0) 0
    zero_at j = grind (arith, ⊎_elim, get_or-replicate, get_or_past, replicate, length-replicate, cases_lt)

    pub first_kept : IsKept rules first 0
    first_kept = record {
      sound = record {
        valid = ok;
        me = me;
        well_formed = grind (arith, no_growth);
        supported = λ g h. absurd (no_growth g h);
        proper = λ g h. absurd (no_growth g h);
        few = omega arith;
        senders = length-replicate (rules.parts a) [];
        heard = λ j g h. absurd (none_heard j g h);
        steps = λ g h. absurd (no_growth g h);
        receivers = length-replicate (rules.parts a) 0;
        given = λ j. omega (arith, zero_at j);
      };
      own_ranks = λ g h. absurd (no_growth g h);
      heard_ranks = λ j g h. absurd (none_heard j g h);
      top = inl refl;
      early = omega arith;
    }

    pub first_has : (f : F) → has rules first f ≡ false
    first_has f = same_truth (has rules first f) false
        (λ h. let t = tells_from rules lawful.same_tells (list_in rules first f) f h in
        absurd (⊎_elim
        (λ own. no_growth t.0 (subst (λ (xs : List G). Contains xs t.0)
        (list_own rules a i [] (received_from first) f own) t.1))
        (λ other. none_heard (rules.owner a f) t.0 (subst (λ (xs : List G). Contains xs t.0)
        (list_other rules a i [] (received_from first) f other) t.1))
        (cases_eq (rules.owner a f) i)))
        (λ h. absurd (false≢true h))
