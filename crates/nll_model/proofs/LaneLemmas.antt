-- Lists of seats, and what a lane holds.
use Rattle.std.proofs.Common.{◌≡◌, ◌≢◌, ℕ, zero, suc, ◌+◌, ◌<◌, Bool, true, false, List, [], ◌∷◌, ◌++◌, length, drop, cond, Contains, get_or, set, slice_get, Some, refl, sym, ap, ◌∙◌, inl, inr, ◌⊎◌, ⊎_elim, arith}
use Rattle.std.specs.Prelude.{sum_by}
use Rattle.std.proofs.lemmas.Option.{slice_get_within, get_or_from_slice_get}
use Rattle.std.proofs.lemmas.List.Sums.{sum_by-cons}
use Rattle.nll_problem.specs.Problem.{Problem}
use Rattle.nll_cut.specs.Partition.{Cut, owner_of, reads}
use Rattle.nll_cut.proofs.ReadLemmas.{reads_tells}
use Rattle.fixpoint.proofs.ListLemmas.{contains_head, contains_tail}
use Rattle.nll_mail.specs.declared.growth.Growth.{Growth}
use Rattle.nll_owner.specs.Logs.{part}
use Rattle.nll_model.specs.State.{Lane}

-- ---- lists

pub set_cases : {X : Type 0} (xs : List X) (i : ℕ) (y : X) (k : ℕ) (z : X) → slice_get (set xs i y) k ≡ Some z
    → ((k ≡ i) × (z ≡ y)) ⊎ ((k ≢ i) × (slice_get xs k ≡ Some z))
set_cases [] i y k z h = absurd (let l = slice_get_within [] k z h in omega arith)
set_cases (x ∷ xs) zero y zero z h = inl (refl, sym (cc h))
set_cases (x ∷ xs) zero y (suc k) z h = inr ((λ e. absurd (omega arith)), h)
set_cases (x ∷ xs) (suc i) y zero z h = inr ((λ e. absurd (omega arith)), h)
set_cases (x ∷ xs) (suc i) y (suc k) z h =
    ⊎_elim (λ (p : (k ≡ i) × (z ≡ y)). inl (ap suc p.0, p.1))
    (λ (p : (k ≢ i) × (slice_get xs k ≡ Some z)). inr ((λ e. p.0 (omega arith)), p.1)) (set_cases xs i y k z h)

pub same_at : {X : Type 0} (xs : List X) (i : ℕ) (x y : X) → slice_get xs i ≡ Some x → slice_get xs i ≡ Some y → x ≡ y
same_at xs i x y h k = sym (get_or_from_slice_get xs i x x h) ∙ get_or_from_slice_get xs i y x k

pub sum_same : {X : Type 0} (f : X → ℕ) (d : X) (xs ys : List X) → length xs ≡ length ys
    → ((j : ℕ) → j < length ys → f (get_or xs j d) ≡ f (get_or ys j d)) → sum_by f xs ≡ sum_by f ys
sum_same f d [] [] l h = refl
sum_same f d [] (y ∷ ys) l h = absurd (omega arith)
sum_same f d (x ∷ xs) [] l h = absurd (omega arith)
sum_same f d (x ∷ xs) (y ∷ ys) l h =
    let first : f x ≡ f y = h 0 (omega arith) in
    let rest = sum_same f d xs ys (omega arith) (λ j p. h (suc j) (omega arith)) in
    omega (arith, first, rest, sum_by-cons f x xs, sum_by-cons f y ys)

pub drop_front : {X : Type 0} (xs ys : List X) → drop (length xs) (xs ++ ys) ≡ ys
drop_front [] ys = refl
drop_front (x ∷ xs) ys = drop_front xs ys

-- all of a lane, the oldest first
abbrev pub whole : Lane → List Growth
whole l = l.box ++ (l.out ++ l.fresh)

-- what is owed for and not yet received
abbrev pub owing : Lane → ℕ
owing l = length l.out + length l.box

-- an owner is told nothing of its own regions
pub none_own : (q : Problem) (c : Cut) (i : ℕ) (log : List Growth)
    → ((g : Growth) → Contains log g → owner_of c g.region ≡ i) → part q c i log ≡ []
none_own q c i [] own = refl
none_own q c i (g ∷ log) own =
    ap (λ b. cond b (g ∷ part q c i log) (part q c i log)) (unread (own g (contains_head g log)))
    ∙ none_own q c i log (λ h k. own h (contains_tail g log h k))
  where
    unread : owner_of c g.region ≡ i → reads q c i g.region ≡ false
    unread is = go (reads q c i g.region) refl
      where
        go : (b : Bool) → reads q c i g.region ≡ b → b ≡ false
        go false h = refl
        go true h = absurd (((reads_tells q c i g.region).0 h).0 is)
