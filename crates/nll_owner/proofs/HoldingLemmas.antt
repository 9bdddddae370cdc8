-- The sets that an owner hands out.
use Rattle.std.proofs.Common.{◌≡◌, ◌↔◌, ℕ, ◌<◌, Bool, List, [], length, Contains, sym, ap, ◌∙◌, subst, arith}
use Rattle.std.proofs.lemmas.Option.{get_or_from_slice_get, slice_get-get_or, slice_get_read, slice_get_within}
use Rattle.nll_core.specs.Search.{IsIn}
use Rattle.nll_core.specs.Values.{set_of}
use Rattle.nll_problem.specs.Problem.{Problem}
use Rattle.nll_cut.specs.Partition.{Cut, owner_of}
use Rattle.nll_mail.specs.declared.growth.Growth.{Growth}
use Rattle.nll_owner.specs.Logs.{IsTold}
use Rattle.nll_owner.specs.Owner.{Owner, Has, received_from}
use Rattle.nll_owner.specs.Keeping.{AreValuesKept, IsSlot, IsSlotIn}
use Rattle.nll_owner.specs.Holding.{Holding, HasSet, AreValuesOf}
use Rattle.nll_owner.proofs.LogLemmas.{list_own}
use Rattle.nll_owner.proofs.SlotLemmas.{own_held, slot_of, slot_region}

-- ---- which they are

-- a region has the set that stands at its slot
pub set_at : (h : Holding) (s r : ℕ) → length h.sets ≡ length h.regions → IsSlotIn h.regions s r
    → HasSet h r (set_of h.sets s)
set_at h s r same at = grind (arith, slice_get_read, slice_get-get_or)

slot_in : (h : Holding) (r : ℕ) (xs : List Bool) (has : HasSet h r xs) → IsSlotIn h.regions has.0 r
slot_in h r xs has = grind (arith, slice_get_within, get_or_from_slice_get)

set_is : (h : Holding) (r : ℕ) (xs : List Bool) (has : HasSet h r xs) → set_of h.sets has.0 ≡ xs
set_is h r xs has = get_or_from_slice_get h.sets has.0 xs [] has.2

-- an owner has in an own region what its log tells
pub own_told : (o : Owner) (r e : ℕ) → owner_of o.cut r ≡ o.me → Has o r e ↔ IsTold o.log r e
own_told o r e own =
    let is = list_own o.cut o.me o.log (received_from o) r own in
    (λ h. subst (λ xs. IsTold xs r e) is h, λ h. subst (λ xs. IsTold xs r e) (sym is) h)

module _ (o : Owner) (slots : List ℕ) (sets : List (List Bool)) (kept : AreValuesKept o slots sets) where
  abbrev handed : Holding
  handed = record { regions = slots; sets = sets }

  pub as_many : length sets ≡ length slots
  as_many = kept.shaped.slots ∙ sym (ap length kept.same_slots)

  pub kept_region : (r : ℕ) → Contains slots r → r < length o.cut.list
  kept_region r h = grind (arith, slot_region)

  slot_here : (r : ℕ) (xs : List Bool) (has : HasSet handed r xs) → IsSlot o has.0 r
  slot_here r xs has = subst (λ ys. IsSlotIn ys has.0 r) kept.same_slots (slot_in handed r xs has)

  pub kept_values : AreValuesOf o.problem o.cut o.me o.log (record { regions = slots; sets = sets })
  kept_values = record {
    whole = λ r low own.
        let t = slot_of o r low (own_held o r own) in
        let at = subst (λ ys. IsSlotIn ys t.0 r) (sym kept.same_slots) t.1 in
        (set_of sets t.0, set_at handed t.0 r as_many at);
    shaped = λ r xs own has.
        ap length (sym (set_is handed r xs has)) ∙ kept.shaped.elements has.0 (slot_here r xs has).0;
    told = λ r e xs own has.
        let is = set_is handed r xs has in
        let tells = kept.held has.0 r e (slot_here r xs has) in
        let own_list = own_told o r e own in (
          λ h. own_list.0 (tells.0 (subst (λ ys. IsIn ys e) (sym is) h)),
          λ h. subst (λ ys. IsIn ys e) is (tells.1 (own_list.1 h)),
        );
  }

-- ---- what stays once the copies are let go

-- the sets at the slots of own regions are as they were
abbrev pub KeepsOwn : Cut → ℕ → List ℕ → List (List Bool) → List (List Bool) → Type 0
KeepsOwn c i slots old new =
    (length new ≡ length old)
    × ((s r : ℕ) → IsSlotIn slots s r → owner_of c r ≡ i → set_of new s ≡ set_of old s)

-- a holding in which each own region has what it had has the same values
pub same_values : (q : Problem) (c : Cut) (i : ℕ) (log : List Growth) (old new : Holding) → AreValuesOf q c i log old
    → ((r : ℕ) (xs : List Bool) → owner_of c r ≡ i → HasSet new r xs ↔ HasSet old r xs) → AreValuesOf q c i log new
same_values q c i log old new values same = record {
  whole = λ r low own. let w = values.whole r low own in (w.0, (same r w.0 own).1 w.1);
  shaped = λ r xs own has. values.shaped r xs own ((same r xs own).0 has);
  told = λ r e xs own has. values.told r e xs own ((same r xs own).0 has);
}
