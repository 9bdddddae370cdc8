-- The regions among the sources of a type without parameters are the wanted ones.
use Rattle.std.proofs.Common.{◌≡◌, ◌≢◌, ℕ, zero, suc, ◌+◌, ◌<◌, ◌≤◌, List, [], ◌∷◌, ◌++◌, map, refl, sym, ap, ◌∙◌, subst, arith, false, inr, ⊎_elim, ◌↔◌, Contains, append-nil, get_or}
use Rattle.std.specs.Prelude.{All, AllPairs}
use Rattle.std.specs.List.{IsDistinct, AllByRecursion}
use Rattle.std.proofs.lemmas.Bool.{false≢true}
use Rattle.std.proofs.lemmas.List.Elements.{Contains-get_or}
use Rattle.nll_types.specs.Types.{TypeTree, TypeTrees, int, parameter, reference, tuple, named, function, none, more}
use Rattle.nll_types.specs.Structs.{Struct, region_in, put_in, put_in_all, IsWellFormed, AreWellFormed}
use Rattle.nll_types.specs.Sources.{OneYields, IsWanted, IsWantedOf, AddsSources}
use Rattle.nll_types.specs.Collecting.{regions_among}
use Rattle.nll_types.specs.declared.source.Source.{Source}
use Rattle.nll_types.specs.declared.source.Source.TheVariants.{Region, AnyOf, DropOf}
use Rattle.nll_types.specs.contracts.source.SourcePartialEq.TheImpl as derived
use Rattle.nll_types.proofs.SourceSetLemmas.{eq_source}
use Rattle.nll_types.proofs.DropLemmas.{no_drop_int}

-- ---- arguments that change nothing

-- the numbers after k, n of them
abbrev after : ℕ → ℕ → List ℕ
after k zero = []
after k (suc n) = suc k ∷ after (suc k) n

at_after : (k n j : ℕ) → j < n → get_or (after k n) j 0 ≡ suc (k + j)
at_after k zero j h = absurd (omega arith)
at_after k (suc n) zero h = omega arith
at_after k (suc n) (suc j) h = at_after (suc k) n j (omega arith) ∙ (omega arith)

same_region : (n q : ℕ) → q ≤ n → region_in (after 0 n) q ≡ q
same_region n zero h = refl
same_region n (suc j) h = at_after 0 n j (omega arith) ∙ (omega arith)

same_regions : (n bound : ℕ) (rs : List ℕ) → bound ≤ n + 1 → All (λ r. r < bound) rs
    → map (region_in (after 0 n)) rs ≡ rs
same_regions n bound [] h all = refl
same_regions n bound (r ∷ rs) h all =
    let b : r < bound = all 0 0 (omega arith) in
    let here = same_region n r (omega arith) in
    let rest = same_regions n bound rs h (λ k d l. all (suc k) d (omega arith)) in
    cc

mutual
  put_same : (structs : List Struct) (n bound : ℕ) (t : TypeTree) → bound ≤ n + 1 → IsWellFormed structs bound 0 t
      → put_in (after 0 n) none t ≡ t
  put_same structs n bound int h w = refl
  put_same structs n bound (parameter k) h w = absurd (omega arith)
  put_same structs n bound (reference r m t) h w =
      let b : r < bound = w.0 in
      let here = same_region n r (omega arith) in
      let rest = put_same structs n bound t h w.1 in
      cc
  put_same structs n bound (tuple ts) h w = ap tuple (put_all_same structs n bound ts h w)
  put_same structs n bound (named s rs ts) h w =
      let here = same_regions n bound rs h w.3 in
      let rest = put_all_same structs n bound ts h w.4 in
      cc
  put_same structs n bound (function ts t) h w =
      let here = put_all_same structs n bound ts h w.0 in
      let rest = put_same structs n bound t h w.1 in
      cc

  put_all_same : (structs : List Struct) (n bound : ℕ) (ts : TypeTrees) → bound ≤ n + 1
      → AreWellFormed structs bound 0 ts → put_in_all (after 0 n) none ts ≡ ts
  put_all_same structs n bound none h w = refl
  put_all_same structs n bound (more t ts) h w =
      let here = put_same structs n bound t h w.0 in
      let rest = put_all_same structs n bound ts h w.1 in
      cc

-- ---- regions among sources

pub among_push : (xs : List Source) (x : Source)
    → regions_among (xs ++ x ∷ []) ≡ regions_among xs ++ regions_among (x ∷ [])
among_push [] x = refl
among_push (Region q ∷ xs) x = ap (λ (l : List ℕ). q ∷ l) (among_push xs x)
among_push (AnyOf k ∷ xs) x = among_push xs x
among_push (DropOf k ∷ xs) x = among_push xs x

pub among_skip : (xs : List Source) (x : Source) → ((q : ℕ) → x ≡ Region q → ⊥)
    → regions_among (xs ++ x ∷ []) ≡ regions_among xs
among_skip xs (Region q) not = absurd (not q refl)
among_skip xs (AnyOf k) not = among_push xs (AnyOf k) ∙ append-nil _
among_skip xs (DropOf k) not = among_push xs (DropOf k) ∙ append-nil _

later : {X : Type 0} (y x : X) (xs : List X) → Contains xs x → Contains (y ∷ xs) x
later y x xs c = (suc c.0, (let l = c.1 in omega arith), c.2)

among_to : (xs : List Source) (q : ℕ) → Contains (regions_among xs) q → Contains xs (Region q)
among_to [] q c = absurd (let l = c.1 in omega arith)
among_to (Region p ∷ xs) q (zero, l, e) = (zero, omega arith, ap Region e)
among_to (Region p ∷ xs) q (suc k, l, e) = later (Region p) (Region q) xs (among_to xs q (k, omega arith, e))
among_to (AnyOf k ∷ xs) q c = later (AnyOf k) (Region q) xs (among_to xs q c)
among_to (DropOf k ∷ xs) q c = later (DropOf k) (Region q) xs (among_to xs q c)

among_from : (xs : List Source) (q : ℕ) → Contains xs (Region q) → Contains (regions_among xs) q
among_from [] q c = absurd (let l = c.1 in omega arith)
among_from (Region p ∷ xs) q (zero, l, e) = (zero, omega arith, (let h : Region p ≡ Region q = e in cc))
among_from (Region p ∷ xs) q (suc k, l, e) = later p q (regions_among xs) (among_from xs q (k, omega arith, e))
among_from (AnyOf j ∷ xs) q (zero, l, e) = absurd (let h : AnyOf j ≡ Region q = e in cc)
among_from (AnyOf j ∷ xs) q (suc k, l, e) = among_from xs q (k, omega arith, e)
among_from (DropOf j ∷ xs) q (zero, l, e) = absurd (let h : DropOf j ≡ Region q = e in cc)
among_from (DropOf j ∷ xs) q (suc k, l, e) = among_from xs q (k, omega arith, e)

not_later : (x : Source) (xs : List Source) → AllByRecursion (λ y. (derived.eq-value).it x y ≡ false) xs → Contains xs x
    → ⊥
not_later x [] all c = (let l = c.1 in absurd (omega arith))
not_later x (y ∷ xs) all (zero, l, e) = false≢true (sym all.0 ∙ ap ((derived.eq-value).it x) e ∙ eq_source x)
not_later x (y ∷ xs) all (suc k, l, e) = not_later x xs all.1 (k, omega arith, e)

pub among_once : (xs : List Source) → IsDistinct (derived.eq-value).it xs → AllPairs (λ q r. q ≢ r) (regions_among xs)
unfolding IsDistinct
among_once [] distinct i j d less h = absurd (omega arith)
among_once (Region q ∷ xs) distinct i zero d less h = absurd (omega arith)
among_once (Region q ∷ xs) distinct zero (suc j) d less h = λ e.
    not_later (Region q) xs distinct.0 (among_to xs q
    (subst (Contains (regions_among xs)) (sym e) (Contains-get_or (regions_among xs) j d (omega arith))))
among_once (Region q ∷ xs) distinct (suc i) (suc j) d less h =
    among_once xs distinct.1 i j d (omega arith) (omega arith)
among_once (AnyOf k ∷ xs) distinct i j d less h = among_once xs distinct.1 i j d less h
among_once (DropOf k ∷ xs) distinct i j d less h = among_once xs distinct.1 i j d less h

number_of : Source → ℕ
number_of (Region p) = p
number_of (AnyOf k) = 0
number_of (DropOf k) = 0

bound_more : (x : Source) (xs : List Source) (n : ℕ) → ((q : ℕ) → Contains xs (Region q) → q ≤ n) → (q : ℕ)
    → Contains (x ∷ xs) (Region q) → q ≤ number_of x + n
unfolding number_of
bound_more x xs n rest q (zero, l, e) = (let f : number_of x ≡ q = ap number_of e in omega arith)
bound_more x xs n rest q (suc k, l, e) = (let f = rest q (k, omega arith, e) in omega arith)

bound_of : (xs : List Source) → (n : ℕ) × ((q : ℕ) → Contains xs (Region q) → q ≤ n)
bound_of [] = (0, λ q c. absurd (let l = c.1 in omega arith))
bound_of (x ∷ xs) = (let rest = bound_of xs in (number_of x + rest.0, bound_more x xs rest.0 rest.1))

-- ---- what is found

one_region : (structs : List Struct) (n : ℕ) (keys : List Source) (r : ℕ) → ((q : ℕ) → Contains keys (Region q) → q ≤ n)
    → OneYields structs (after 0 n) none keys r → Contains keys (Region r)
one_region structs n keys r small (Region q, c, y) =
    (let s : q ≡ r = sym (same_region n q (small q c)) ∙ y in subst (λ z. Contains keys (Region z)) s c)
one_region structs n keys r small (AnyOf k, c, y) = absurd y
one_region structs n keys r small (DropOf k, c, y) = absurd (no_drop_int structs r y)

found_at : (structs : List Struct) (bound : ℕ) (w d : Type 0) (t : TypeTree) (keys : List Source) (n : ℕ)
    → bound ≤ n + 1 → ((q : ℕ) → Contains keys (Region q) → q ≤ n) → IsWellFormed structs bound 0 t
    → AddsSources structs (IsWantedOf structs w d t) [] keys → (r : ℕ)
    → Contains keys (Region r) ↔ IsWanted structs w d t r
found_at structs bound w d t keys n h small good adds r =
    let e = adds.each (after 0 n) none r in
    let same = put_same structs n bound t h good in (
      λ c. ⊎_elim
          (λ x. absurd (let l = x.1.1 in omega arith))
          (λ x. subst (λ z. IsWanted structs w d z r) same x)
          (e.0 (Region r, c, same_region n r (small r c))),
      λ x. one_region structs n keys r small (e.1 (inr (subst (λ z. IsWanted structs w d z r) (sym same) x))),
    )

pub found : (structs : List Struct) (bound : ℕ) (w d : Type 0) (t : TypeTree) (keys : List Source)
    → IsWellFormed structs bound 0 t
    → AddsSources (structs ++ []) (IsWantedOf (structs ++ []) w d t) [] keys → (r : ℕ)
    → Contains (regions_among keys) r ↔ IsWanted structs w d t r
found structs bound w d t keys good adds r =
    let b = bound_of keys in
    let e = found_at structs bound w d t keys (b.0 + bound) (omega arith) (λ q c. (let l = b.1 q c in omega arith)) good
    (subst (λ z. AddsSources z (IsWantedOf z w d t) [] keys) (append-nil structs) adds) r in
    (λ c. e.0 (among_to keys r c), λ x. among_from keys r (e.1 x))
