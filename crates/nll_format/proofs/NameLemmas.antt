-- The declared names, and the set that holds them.
use Rattle.std.proofs.Common.{◌≡◌, ℕ, zero, suc, one-add, ◌+◌, ◌-◌, ◌<◌, ◌≤◌, Bool, true, false, not, cond, List, [], ◌∷◌, ◌++◌, Option, Some, None, slice_get, length, get_or, refl, sym, ap, ◌∙◌, subst, map, ⊎_elim, arith, length-append}
use Rattle.std.specs.Prelude.{◌||◌, ◌↔◌, nat_lt, position, take, decimal, IfSome, MatchOption}
use Rattle.std.specs.List.{position_or_len, list_any, AllByRecursion, IsDistinct}
use Rattle.std.specs.Str.{bytes_eq, IsUtf8}
use Rattle.std.proofs.lemmas.Bool.{cases_lt, ltb-false, ltb-true, false≢true}
use Rattle.std.proofs.lemmas.Slice.Eq.{bytes_eq-Decides}
use Rattle.std.proofs.lemmas.Map.Keys.{IsDistinct-head, IsDistinct-tail}
use Rattle.std.proofs.lemmas.List.{get_or_append_left, get_or_at, map_push, get_or-map, length-map}
use Rattle.std.proofs.lemmas.List.Sums.{prefix_len-le-length}
use Rattle.std.proofs.lemmas.Option.{get_or_from_slice_get, slice_get_cases}
use Rattle.nll_format.specs.Names.{number_of, AreTexts, IsNumbered, HasPlace, IsSeries}
use Rattle.nll_format.specs.declared.series.Series.{Series}

bytes_eq_at : (xs ys : List ℕ) → xs ≡ ys → bytes_eq xs ys ≡ true
bytes_eq_at xs ys e = (bytes_eq-Decides xs ys).1 e

bytes_differ : (xs ys : List ℕ) → bytes_eq xs ys ≡ false → bytes_eq ys xs ≡ false
bytes_differ xs ys differ = by (bytes_eq ys xs) refl
  where
    by : (b : Bool) → bytes_eq ys xs ≡ b → b ≡ false
    by true t = absurd (false≢true (sym differ ∙ bytes_eq_at xs ys (sym ((bytes_eq-Decides ys xs).0 t))))
    by false t = refl

-- one more text
pub texts_push : (names : List (List ℕ)) (name : List ℕ) → AreTexts names → IsUtf8 name → AreTexts (names ++ name ∷ [])
texts_push names name texts text k within = ⊎_elim
    (λ low. subst IsUtf8 (sym (get_or_append_left names (name ∷ []) [] k low)) (texts k low))
    (λ high. subst IsUtf8 (sym (get_or_at names name [] [] k (omega (arith, length-append names (name ∷ []))))) text)
    (cases_lt k (length names))

-- a name's number is at most the number of names
pub number_of_within : (names : List (List ℕ)) (name : List ℕ) → number_of names name ≤ length names
number_of_within names name = prefix_len-le-length (λ x. not (bytes_eq name x)) names

module _ {V : Type 0} (f : V → List ℕ) (name : List ℕ) where
  -- the place of a name among what holds the names
  pub number_mapped : (ks : List V) → position_or_len (λ k. bytes_eq name (f k)) ks ≡ number_of (map f ks) name
  number_mapped [] = refl
  number_mapped (k ∷ ks) = ap (λ n. cond (not (bytes_eq name (f k))) (1 + n) 0) (number_mapped ks)

-- nothing that passes stands in a list whose first place of that is its length
none_in_front : (t : Bool) (n m : ℕ) (rest : Bool) → (n ≡ m → rest ≡ false) → cond (not t) (1 + n) 0 ≡ suc m
    → (t || rest) ≡ false
none_in_front true n m rest later e = absurd (omega arith)
none_in_front false n m rest later e = later (omega arith)

pub none_passes : {X : Type 0} (p : X → Bool) (xs : List X) → position_or_len p xs ≡ length xs → list_any p xs ≡ false
none_passes p [] e = refl
none_passes p (x ∷ xs) e = none_in_front (p x) (position_or_len p xs) (length xs) (list_any p xs) (none_passes p xs) e

-- where a search finds a name among what holds the names
pub position_mapped : {V : Type 0} (f : V → List ℕ) (name : List ℕ) (ks : List V)
    → position (λ k. bytes_eq name (f k)) ks ≡ position (bytes_eq name) (map f ks)
position_mapped f name ks = rw (number_mapped f name ks) (rw (length-map ks f) refl)

-- what a search by place answers
pub number_found : (names : List (List ℕ)) (name : List ℕ) (o : Option ℕ) → o ≡ position (bytes_eq name) names
    → MatchOption o (number_of names name ≡ length names) (λ n. (n ≡ number_of names name) × (n < length names))
number_found names name o e = rw e (by (nat_lt (number_of names name) (length names)) refl)
  where
    by : (b : Bool) → nat_lt (number_of names name) (length names) ≡ b
        → MatchOption (cond b (Some (number_of names name)) None) (number_of names name ≡ length names)
        (λ n. (n ≡ number_of names name) × (n < length names))
    by true t = (refl, ltb-true _ _ t)
    by false t = let past : length names ≤ number_of names name = ltb-false _ _ t in
        omega (arith, past, number_of_within names name)

-- the keys after a name that isn't among them is inserted
pub names_inserted : {V : Type 0} (f : V → List ℕ) (ks : List V) (v : V) (name : List ℕ) → f v ≡ name
    → number_of (map f ks) name ≡ length (map f ks)
    → map f (cond (list_any (λ k. bytes_eq (f v) (f k)) ks) ks (ks ++ v ∷ [])) ≡ map f ks ++ name ∷ []
names_inserted f ks v name is absent =
    let last : position_or_len (λ k. bytes_eq (f v) (f k)) ks ≡ length ks =
    ap (λ n. position_or_len (λ k. bytes_eq n (f k)) ks) is ∙ (number_mapped f name ks ∙ (absent ∙ length-map ks f)) in
    rw (none_passes (λ k. bytes_eq (f v) (f k)) ks last) (map_push f ks v ∙ ap (λ n. map f ks ++ n ∷ []) is)

-- a name read at a place
pub name_at : {V : Type 0} (f : V → List ℕ) (ks : List V) (i : ℕ) (v : V) → slice_get ks i ≡ Some v
    → f v ≡ get_or (map f ks) i []
name_at f ks i v e = ⊎_elim
    (λ there. sym (get_or-map f ks i v [] there.1 ∙ ap f (get_or_from_slice_get ks i v v e)))
    (λ past. absurd (none_is_some (sym past.1 ∙ e)))
    (slice_get_cases ks i).1
  where
    none_is_some : {X : Type 0} {x : X} → None ≡ Some x → ⊥
    none_is_some h = cc

-- ---- the name at a place

module _ {V : Type 0} (f : V → List ℕ) where
  -- whether two that hold names hold the same
  abbrev pub same_name : V → V → Bool
  same_name a b = bytes_eq (f a) (f b)

  none_is : (k : V) (ks : List V) (i : ℕ) → AllByRecursion (λ y. same_name k y ≡ false) ks → i < length ks
      → bytes_eq (f k) (get_or (map f ks) i []) ≡ false
  none_is k [] i h lt = absurd (omega (arith, lt))
  none_is k (y ∷ ks) zero h lt = h.0
  none_is k (y ∷ ks) (suc i) h lt = none_is k ks i h.1 (omega (arith, lt))

  -- among distinct names the one at a place stands nowhere before it
  pub place_of : (ks : List V) (i : ℕ) (name : List ℕ) → IsDistinct same_name ks → i < length ks
      → get_or (map f ks) i [] ≡ name → number_of (map f ks) name ≡ i
  place_of [] i name d lt e = absurd (omega (arith, lt))
  place_of (k ∷ ks) zero name d lt e = rw (bytes_eq_at name (f k) (sym e)) refl
  place_of (k ∷ ks) (suc i) name d lt e =
      let before : bytes_eq (f k) name ≡ false = ap (bytes_eq (f k)) (sym e)
      ∙ none_is k ks i (IsDistinct-head same_name k ks d) (omega (arith, lt)) in
      let later = place_of ks i name (IsDistinct-tail same_name k ks d) (omega (arith, lt)) e in
      rw (bytes_differ (f k) name before) (omega (arith, later))

-- a name that has a place stands there
pub name_there : (names : List (List ℕ)) (name : List ℕ) → number_of names name < length names
    → get_or names (number_of names name) [] ≡ name
name_there [] name lt = absurd (omega (arith, lt))
name_there (x ∷ names) name lt = by (bytes_eq name x) refl (name_there names name)
  where
    by : (b : Bool) → bytes_eq name x ≡ b
        → (number_of names name < length names → get_or names (number_of names name) [] ≡ name)
        → get_or (x ∷ names) (number_of (x ∷ names) name) [] ≡ name
    by true t later = rw t (sym ((bytes_eq-Decides name x).0 t))
    by false t later = grind (arith, one-add)

-- what a comparison with what stands at a place tells
pub at_place : {V : Type 0} (f : V → List ℕ) (ks : List V) (i : ℕ) (known v : V) (name : List ℕ) (b : Bool)
    → IsDistinct (same_name f) ks → i < length ks → known ≡ get_or ks i v → b ≡ bytes_eq (f known) name
    → (b ≡ true) ↔ ((number_of (map f ks) name ≡ i) × (i < length (map f ks)))
at_place f ks i known v name b d lt is told =
    let within : i < length (map f ks) = omega (arith, lt, length-map ks f) in
    let here : get_or (map f ks) i [] ≡ f known = get_or-map f ks i v [] lt ∙ ap f (sym is) in (
      λ yes. (place_of f ks i name d lt (here ∙ (bytes_eq-Decides (f known) name).0 (sym told ∙ yes)), within),
      λ at. told ∙ bytes_eq_at (f known) name
          (sym here ∙ ap (λ (k : ℕ). get_or (map f ks) k []) (sym at.0)
          ∙ name_there (map f ks) name (omega (arith, at.0, at.1))),
    )

-- ---- names that are numbered one after another

-- a name with a place in the series, below the number of names, stands there
pub place_in_series : {V : Type 0} (f : V → List ℕ) (ks : List V) (s : Series) (name : List ℕ) (i : ℕ)
    → IsDistinct (same_name f) ks → IsSeries (map f ks) s → HasPlace (map f ks) s name i → i < length ks
    → number_of (map f ks) name ≡ i
place_in_series f ks s name i d all at lt =
    place_of f ks i name d lt ((all i at.after (omega (arith, lt, length-map ks f))).numbered ∙ sym at.numbered)

-- the same for what a search by the first name of the series answers
pub place_numbers : {V : Type 0} (f : V → List ℕ) (ks : List V) (s : Series) (known v : V) (first name : List ℕ)
    (o : Option ℕ) → IsDistinct (same_name f) ks → IsSeries (map f ks) s → s.at < length ks
    → known ≡ get_or ks s.at v → first ≡ f known
    → IfSome o (λ i. (s.at ≤ i) × IsNumbered s.front first name (s.number + (i - s.at)))
    → IfSome o (λ i. i < length ks → number_of (map f ks) name ≡ i)
place_numbers f ks s known v first name None d all lt is view at = tt
place_numbers f ks s known v first name (Some i) d all lt is view at =
    place_in_series f ks s name i d all (record {
      begun = omega (arith, lt, length-map ks f);
      after = at.0;
      numbered = at.1 ∙ ap (λ xs. take s.front xs ++ decimal (s.number + (i - s.at)))
          (view ∙ (ap f is ∙ sym (get_or-map f ks s.at v [] lt)));
    })

-- the name at an index of the names and one more
pushed : (names : List (List ℕ)) (name : List ℕ) (i : ℕ) → i < length names
    → get_or (names ++ name ∷ []) i [] ≡ get_or names i []
pushed names name i lt = get_or_append_left names (name ∷ []) [] i lt

-- a series goes on with the name that would be the next one
pub series_on : (names : List (List ℕ)) (s : Series) (name : List ℕ) → IsSeries names s
    → HasPlace names s name (length names) → IsSeries (names ++ name ∷ []) s
series_on names s name all at i after lt = record {
  begun = omega (arith, at.begun, length-append names (name ∷ []));
  after = after;
  numbered = rw (pushed names name s.at at.begun) (⊎_elim
      (λ low. pushed names name i low ∙ (all i after low).numbered)
      (λ high. let is : i ≡ length names = omega (arith, high, lt, length-append names (name ∷ [])) in
      rw is (get_or_at names name [] [] (length names) (omega arith) ∙ at.numbered))
      (cases_lt i (length names)));
}

-- a series begins with a name that has a number at its end
pub series_of : (names : List (List ℕ)) (s : Series) (name : List ℕ) → s.at ≡ length names
    → IsNumbered s.front name name s.number → IsSeries (names ++ name ∷ []) s
series_of names s name at numbered i after lt =
    let is : i ≡ s.at = omega (arith, at, after, lt, length-append names (name ∷ [])) in
    let here : get_or (names ++ name ∷ []) s.at [] ≡ name = get_or_at names name [] [] s.at (omega (arith, at)) in
    record {
      begun = omega (arith, at, length-append names (name ∷ []));
      after = after;
      numbered = rw (is, here) (rw (sub_self s.at) numbered);
    }
  where
    sub_self : (n : ℕ) → s.number + (n - n) ≡ s.number
    sub_self n = omega arith
