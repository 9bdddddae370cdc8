-- The slots of the regions that an owner holds.
use Rattle.std.proofs.Common.{◌≡◌, ◌≢◌, ℕ, zero, suc, ◌+◌, ◌<◌, ◌≤◌, Bool, true, false, cond, ◌||◌, List, [], ◌∷◌, ◌++◌, length, get_or, slice_index, AllPairs, Contains, refl, sym, ap, ◌∙◌, subst, ⊎_elim, arith}
use Rattle.std.specs.Prelude.{Option, Some, None, IfNone, IsSome}
use Rattle.std.specs.List.{filter, range_with_len}
use Rattle.std.proofs.lemmas.Bool.{cases_eq, cases_lt, eq-eqb, eqb-true}
use Rattle.std.proofs.lemmas.List.{get_or_default}
use Rattle.std.proofs.lemmas.List.Elements.{filter-append}
use Rattle.std.proofs.lemmas.List.FromFn.{length-range_with_len, get_or-range_with_len}
use Rattle.nll_core.specs.Growing.{Gains}
use Rattle.nll_cut.specs.Partition.{Cut, owner_of, reads}
use Rattle.nll_owner.specs.Owner.{Owner, Has, IsSoundOwner, received_from}
use Rattle.nll_owner.specs.Keeping.{holds_region, held_below, held_regions, IsSlot, IsSlotIn, AreSlotted}
use Rattle.nll_owner.proofs.LogLemmas.{list_other}
use Rattle.fixpoint.proofs.ListLemmas.{filter_from, filter_to}

-- ---- numbers that follow each other

range_within : (a n x : ℕ) → Contains (range_with_len a n) x → (a ≤ x) × (x < a + n)
range_within a n x h = grind (arith, length-range_with_len, get_or-range_with_len)

range_has : (n x : ℕ) → x < n → Contains (range_with_len 0 n) x
range_has n x low = (x, omega (arith, low, length-range_with_len 0 n), omega (arith, get_or-range_with_len 0 n x x low))

range_push : (a n : ℕ) → range_with_len a (suc n) ≡ range_with_len a n ++ (a + n) ∷ []
range_push a zero = let on : a ≡ a + 0 = omega arith in ap (λ x. x ∷ []) on
range_push a (suc n) = let on : a + 1 + n ≡ a + suc n = omega arith in
    ap (λ xs. a ∷ xs) (range_push (a + 1) n) ∙ ap (λ x. a ∷ (range_with_len (a + 1) n ++ x ∷ [])) on

-- ---- those of them that pass a test

pub held_more : (n : ℕ) (c : Cut) (i : ℕ) (reading : ℕ → Bool)
    → held_below (n + 1) c i reading ≡ held_below n c i reading ++ cond (holds_region c i reading n) (n ∷ []) []
held_more n c i reading =
    let on : n + 1 ≡ suc n = omega arith in
    let at : 0 + n ≡ n = omega arith in
    ap (λ m. held_below m c i reading) on
    ∙ (ap (filter (holds_region c i reading)) (range_push 0 n ∙ ap (λ x. range_with_len 0 n ++ x ∷ []) at)
    ∙ filter-append (holds_region c i reading) (range_with_len 0 n) (n ∷ []))

ascends_cons : (x : ℕ) (xs : List ℕ) → ((y : ℕ) → Contains xs y → x < y) → AllPairs {X = ℕ} (λ r s. r < s) xs
    → (j k d : ℕ) → j < k → k < length (x ∷ xs) → get_or (x ∷ xs) j d < get_or (x ∷ xs) k d
ascends_cons x xs low up j zero d l m = absurd (omega (arith, l))
ascends_cons x xs low up zero (suc k) d l m =
    low (get_or xs k d) (k, omega (arith, m), get_or_default xs k (get_or xs k d) d (omega (arith, m)))
ascends_cons x xs low up (suc j) (suc k) d l m = up j k d (omega (arith, l)) (omega (arith, m))

filter_ascends : (p : ℕ → Bool) (a n : ℕ) → AllPairs {X = ℕ} (λ r s. r < s) (filter p (range_with_len a n))
filter_ascends p a zero = λ j k d l m. absurd (omega (arith, m))
filter_ascends p a (suc n) = go (p a) (filter_ascends p (a + 1) n)
  where
    rest : List ℕ
    rest = filter p (range_with_len (a + 1) n)

    go : (b : Bool) → AllPairs {X = ℕ} (λ r s. r < s) rest → AllPairs {X = ℕ} (λ r s. r < s) (cond b (a ∷ rest) rest)
    go true up =
        ascends_cons a rest (λ y h. (let w =
        (range_within (a + 1) n y (filter_from p (range_with_len (a + 1) n) y h).0).0 in omega (arith, w))) up
    go false up = up

pub held_ascends : (n : ℕ) (c : Cut) (i : ℕ) (reading : ℕ → Bool)
    → AllPairs {X = ℕ} (λ r s. r < s) (held_below n c i reading)
held_ascends n c i reading = filter_ascends (holds_region c i reading) 0 n

filter_short : (p : ℕ → Bool) (xs : List ℕ) → length (filter p xs) ≤ length xs
filter_short p [] = omega arith
filter_short p (x ∷ xs) = go (p x) (filter_short p xs)
  where
    go : (b : Bool) → length (filter p xs) ≤ length xs
        → length (cond b (x ∷ filter p xs) (filter p xs)) ≤ suc (length xs)
    go true h = omega (arith, h)
    go false h = omega (arith, h)

pub held_short : (n : ℕ) (c : Cut) (i : ℕ) (reading : ℕ → Bool) → length (held_below n c i reading) ≤ n
held_short n c i reading =
    omega (arith, filter_short (holds_region c i reading) (range_with_len 0 n), length-range_with_len 0 n)

pub held_within : (n : ℕ) (c : Cut) (i : ℕ) (reading : ℕ → Bool) (s r : ℕ) → IsSlotIn (held_below n c i reading) s r
    → r < n
held_within n c i reading s r at = let w =
    (range_within 0 n r (filter_from (holds_region c i reading) (range_with_len 0 n) r (s, at.0, at.1)).0).1 in
    omega (arith, w)

-- ---- slots

-- a slot is of one region
pub slot_same : (o : Owner) (s r q : ℕ) → IsSlot o s r → IsSlot o s q → r ≡ q
slot_same o s r q a b = sym a.1 ∙ (get_or_default (held_regions o) s r q a.0 ∙ b.1)

-- and a region has one slot
pub slots_apart : (o : Owner) (s t r : ℕ) → IsSlot o s r → IsSlot o t r → s ≡ t
slots_apart o s t r a b = grind (arith, held_ascends, cases_lt, cases_eq)

-- each region that is held has one
pub slot_of : (o : Owner) (r : ℕ) → r < o.problem.regions
    → holds_region o.cut o.me (reads o.problem o.cut o.me) r ≡ true → (s : ℕ) × IsSlot o s r
slot_of o r low holds =
    let h = filter_to (holds_region o.cut o.me (reads o.problem o.cut o.me)) (range_with_len 0 o.problem.regions) r
    (range_has o.problem.regions r low) holds in
    (h.0, (h.1, h.2))

pub slot_region : (o : Owner) (s r : ℕ) → IsSlot o s r → r < o.problem.regions
slot_region o s r h = let w =
    (range_within 0 o.problem.regions r
    (filter_from (holds_region o.cut o.me (reads o.problem o.cut o.me)) (range_with_len 0 o.problem.regions) r
    (s, h.0, h.1)).0).1 in omega (arith, w)

-- a region that stands in the list is found
pub find_some : (slots : List ℕ) (r : ℕ) (found : Option ℕ) → IfNone found (Contains slots r → ⊥) → Contains slots r
    → IsSome found
find_some slots r (Some s) none h = refl
find_some slots r None none h = absurd (none h)

or_left : (a b : Bool) → a ≡ true → (a || b) ≡ true
or_left a b h = ap (λ x. x || b) h

or_right : (a b : Bool) → b ≡ true → (a || b) ≡ true
or_right true b h = refl
or_right false b h = h

or_other : (a b : Bool) → (a ≡ true → ⊥) → (a || b) ≡ true → b ≡ true
or_other true b h w = absurd (h refl)
or_other false b h w = w

pub own_held : (o : Owner) (r : ℕ) → owner_of o.cut r ≡ o.me
    → holds_region o.cut o.me (reads o.problem o.cut o.me) r ≡ true
own_held o r own = or_left _ (reads o.problem o.cut o.me r) (eq-eqb _ _ own)

pub read_held : (o : Owner) (r : ℕ) → reads o.problem o.cut o.me r ≡ true
    → holds_region o.cut o.me (reads o.problem o.cut o.me) r ≡ true
read_held o r reading = or_right _ _ reading

-- of the regions of others, those that it holds are read
pub other_read : (o : Owner) (r : ℕ) → Contains (held_regions o) r → owner_of o.cut r ≢ o.me
    → reads o.problem o.cut o.me r ≡ true
other_read o r h other =
    or_other _ (reads o.problem o.cut o.me r) (λ own. other (eqb-true _ _ own))
    (filter_from (holds_region o.cut o.me (reads o.problem o.cut o.me)) (range_with_len 0 o.problem.regions) r h).1

-- what the owner has of a region of another is of one that it reads
pub has_read : (o : Owner) → IsSoundOwner o → (r e : ℕ) → Has o r e → owner_of o.cut r ≢ o.me
    → reads o.problem o.cut o.me r ≡ true
has_read o sound r e h other =
    let heard =
    sound.heard (owner_of o.cut r) h.0 (subst (λ xs. Contains xs h.0)
    (list_other o.cut o.me o.log (received_from o) r other) h.1) in
    subst (λ x. reads o.problem o.cut o.me x ≡ true) h.2 heard.1

-- so what it has is of regions that it holds
pub has_held : (o : Owner) → IsSoundOwner o → (r e : ℕ) → Has o r e
    → holds_region o.cut o.me (reads o.problem o.cut o.me) r ≡ true
has_held o sound r e h =
    ⊎_elim (own_held o r) (λ other. read_held o r (has_read o sound r e h other)) (cases_eq (owner_of o.cut r) o.me)

pub slotted_gains : (o : Owner) (kind : ℕ → ℕ → Type 0) (old new : List (List Bool)) → AreSlotted o old
    → Gains kind old new → AreSlotted o new
slotted_gains o kind old new w g =
    record { slots = g.width ∙ w.slots; elements = λ s low. g.widths s ∙ w.elements s low }

-- ---- a table of slots

-- the slots of the regions at the places before `count` are told
abbrev pub TellsTo : List ℕ → List ℕ → ℕ → Type 0
TellsTo regions table count = (s r : ℕ) → IsSlotIn regions s r → s < count → slice_index table r ≡ s
