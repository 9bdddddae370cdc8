-- Arguments that are put in.
use Rattle.std.proofs.Common.{◌≡◌, ℕ, zero, suc, List, [], ◌∷◌, map, refl, sym, ap, ◌∙◌, subst, arith, inl, inr, ⊎_elim, ◌⊎◌, Contains}
use Rattle.std.specs.Prelude.{slice_get, Some}
use Rattle.nll_types.specs.Types.{TypeTree, TypeTrees, int, none, more, type_at, HasRegion, AnyHasRegion}
use Rattle.nll_types.specs.Structs.{region_in, argument, put_in, put_in_all}

-- a region of a field whose regions are put in, and then these
pub region_twice : (rs qs : List ℕ) (q : ℕ) → region_in (map (region_in rs) qs) q ≡ region_in rs (region_in qs q)
region_twice rs qs zero = refl
region_twice rs [] (suc k) = refl
region_twice rs (x ∷ qs) (suc zero) = refl
region_twice rs (x ∷ qs) (suc (suc k)) = region_twice rs qs (suc k)

pub argument_put : (rs : List ℕ) (ts us : TypeTrees) (k : ℕ)
    → argument (put_in_all rs ts us) k ≡ put_in rs ts (argument us k)
argument_put rs ts none k = refl
argument_put rs ts (more u us) zero = refl
argument_put rs ts (more u us) (suc k) = argument_put rs ts us k

-- the argument is the type at its place, or `int`
pub argument_cases : (us : TypeTrees) (k : ℕ) → (type_at us k ≡ Some (argument us k)) ⊎ (argument us k ≡ int)
argument_cases none k = inr refl
argument_cases (more u us) zero = inl refl
argument_cases (more u us) (suc k) = argument_cases us k

pub argument_there : (us : TypeTrees) (k : ℕ) (u : TypeTree) → type_at us k ≡ Some u → argument us k ≡ u
argument_there none k u e = absurd cc
argument_there (more v us) zero u e = cc
argument_there (more v us) (suc k) u e = argument_there us k u e

pub type_at_put : (rs : List ℕ) (ts us : TypeTrees) (k : ℕ) (u : TypeTree) → type_at us k ≡ Some u
    → type_at (put_in_all rs ts us) k ≡ Some (put_in rs ts u)
type_at_put rs ts none k u e = absurd cc
type_at_put rs ts (more v us) zero u e = (let h : v ≡ u = cc in cc)
type_at_put rs ts (more v us) (suc k) u e = type_at_put rs ts us k u e

pub type_at_put_back : (rs : List ℕ) (ts us : TypeTrees) (k : ℕ) (w : TypeTree)
    → type_at (put_in_all rs ts us) k ≡ Some w → (u : TypeTree) × (type_at us k ≡ Some u) × (w ≡ put_in rs ts u)
type_at_put_back rs ts none k w e = absurd cc
type_at_put_back rs ts (more v us) zero w e = (v, refl, (let h : put_in rs ts v ≡ w = cc in sym h))
type_at_put_back rs ts (more v us) (suc k) w e = type_at_put_back rs ts us k w e

-- a region is written in a row where it is in a type of the row
pub any_has : (us : TypeTrees) (k : ℕ) (u : TypeTree) (r : ℕ) → type_at us k ≡ Some u → HasRegion u r
    → AnyHasRegion us r
any_has none k u r e h = absurd cc
any_has (more v us) zero u r e h = inl (let s : u ≡ v = cc in subst (λ z. HasRegion z r) s h)
any_has (more v us) (suc k) u r e h = inr (any_has us k u r e h)

pub has_any : (us : TypeTrees) (r : ℕ) → AnyHasRegion us r
    → (k : ℕ) × (u : TypeTree) × (type_at us k ≡ Some u) × HasRegion u r
has_any none r h = absurd h
has_any (more v us) r h = ⊎_elim
    (λ a. (0, v, refl, a))
    (λ a. let x = has_any us r a in (suc x.0, x.1, x.2, x.3)) h

-- a region is in a mapped list where it is what an element becomes
pub contains_mapped : (f : ℕ → ℕ) (xs : List ℕ) (y : ℕ) → Contains (map f xs) y
    → (k : ℕ) × (x : ℕ) × (slice_get xs k ≡ Some x) × (f x ≡ y)
contains_mapped f [] y c = absurd (omega (arith, c.1))
contains_mapped f (x ∷ xs) y (zero, l, e) = (0, x, refl, e)
contains_mapped f (x ∷ xs) y (suc k, l, e) =
    (let r = contains_mapped f xs y (k, omega arith, e) in (suc r.0, r.1, r.2, r.3))

pub contains_map : (f : ℕ → ℕ) (xs : List ℕ) (k x y : ℕ) → slice_get xs k ≡ Some x → f x ≡ y → Contains (map f xs) y
contains_map f [] k x y e h = absurd cc
contains_map f (z ∷ xs) zero x y e h = (0, omega arith, (let s : z ≡ x = cc in ap f s ∙ h))
contains_map f (z ∷ xs) (suc k) x y e h = (let r = contains_map f xs k x y e h in (suc r.0, omega (arith, r.1), r.2))
