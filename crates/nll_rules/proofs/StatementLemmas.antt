-- What statements ask, form by form.
use Rattle.std.proofs.Common.{◌≡◌, ℕ, zero, suc, ◌<◌, ◌≤◌, Bool, List, [], ◌∷◌, ◌++◌, length, map, refl, sym, ap, ◌∙◌, subst, arith, ⊎_elim, inl, inr, ◌↔◌, ◌⊎◌, Contains, Option, Some, None}
use Rattle.std.specs.Prelude.{slice_get, option_map}
use Rattle.std.proofs.lemmas.List.Elements.{Contains-push, Contains-push_cases, Contains-append_left, Contains-append_right, Contains-append_cases}
use Rattle.nll_types.specs.Types.{TypeTree, int, reference}
use Rattle.nll_types.specs.Structs.{Struct}
use Rattle.nll_types.specs.Places.{PlacePath, type_of, behind}
use Rattle.nll_types.specs.Operands.{Operand, operand_type, reference_to}
use Rattle.nll_types.specs.declared.place.Projection.TheVariants.{Field}
use Rattle.nll_body.specs.Statements.{Statement, assign, borrow, make, switch, call}
use Rattle.nll_body.proofs.TypePairLemmas.{Meet, pairs_meet}
use Rattle.nll_rules.specs.Positions.{Turn, own, HasRegionAt}
use Rattle.nll_rules.specs.Subtyping.{SubtypeAsks}
use Rattle.nll_rules.specs.Reborrows.{RestsOn}
use Rattle.nll_rules.specs.Asking.{AsksPair, AsksInAll}
use Rattle.nll_rules.specs.Pairs.{AddsPairs, AtOne, BothAsk, PartAsks, InputAsks, OneOutlives}
use Rattle.nll_rules.proofs.PairLemmas.{adds_same}
use Rattle.nll_rules.proofs.SubtypeLemmas.{get_below}

some_is : {X : Type 0} (a b : X) → Some a ≡ Some b → a ≡ b
some_is a b e = cc

-- ---- the types that meet, form by form

-- it asks the pair by types that meet, or by itself
abbrev AsksByForm : List Struct → List TypeTree → Statement ℕ TypeTree → ℕ × ℕ → Type 0
AsksByForm structs variables i x =
    ((t u : TypeTree) × Meet structs variables i t u × SubtypeAsks structs t u x) ⊎ AsksPair structs variables i x

asks_by_form : (structs : List Struct) (variables : List TypeTree) (i : Statement ℕ TypeTree) (x : ℕ × ℕ)
    → AsksByForm structs variables i x ↔ AsksInAll structs variables i x
asks_by_form structs variables i x = grind (arith, pairs_meet)

both_ways : {A B C : Type 0} → A ↔ B → B ↔ C → A ↔ C
both_ways f g = (λ a. g.0 (f.0 a), λ c. f.1 (g.1 c))

-- what no types meet in, and asks no pair by itself, asks nothing
pub asks_nothing : (structs : List Struct) (variables : List TypeTree) (i : Statement ℕ TypeTree) (x : ℕ × ℕ)
    → (AsksByForm structs variables i x → ⊥) → AsksInAll structs variables i x → ⊥
asks_nothing structs variables i x none h = none ((asks_by_form structs variables i x).1 h)

pub asks_assign : (structs : List Struct) (variables : List TypeTree) (p : PlacePath) (op : Operand) (x : ℕ × ℕ)
    → BothAsk structs (operand_type structs variables op) (type_of structs variables p) x
    ↔ AsksInAll structs variables (assign p op) x
asks_assign structs variables p op x = both_ways
    (λ b. inl (b.0, b.1, (b.2, b.3), b.4), ⊎_elim (λ w. (w.0, w.1, w.2.0, w.2.1, w.3)) (λ h. absurd h))
    (asks_by_form structs variables (assign p op) x)

no_region_in_int : (way : List Turn) (r : ℕ) → HasRegionAt int way r → ⊥
no_region_in_int [] r h = h
no_region_in_int (own ∷ way) r h = h
no_region_in_int (turn ∷ way) r h = h

-- a constant is an `int`
pub constant_asks : (structs : List Struct) (other : Option TypeTree) (x : ℕ × ℕ) → BothAsk structs (Some int) other x
    → ⊥
constant_asks structs other x b = grind (arith, no_region_in_int, some_is)

inner_of : (r : ℕ) (m : Bool) (o : Option TypeTree) (t : TypeTree) → reference_to r m o ≡ Some t
    → (inner : TypeTree) × (o ≡ Some inner) × (t ≡ reference r m inner)
inner_of r m None t e = absurd cc
inner_of r m (Some inner) t e = (inner, refl, cc)

pub asks_borrow : (structs : List Struct) (variables : List TypeTree) (p : PlacePath) (r : ℕ) (m : Bool) (q : PlacePath)
    (x : ℕ × ℕ)
    → (BothAsk structs (reference_to r m (type_of structs variables q)) (type_of structs variables p) x
    ⊎ (RestsOn structs variables q x.0 × (x.1 ≡ r))) ↔ AsksInAll structs variables (borrow p r m q) x
asks_borrow structs variables p r m q x =
    both_ways (⊎_elim there inr, ⊎_elim back inr) (asks_by_form structs variables (borrow p r m q) x)
  where
    there : BothAsk structs (reference_to r m (type_of structs variables q)) (type_of structs variables p) x
        → AsksByForm structs variables (borrow p r m q) x
    there b = (let i = inner_of r m (type_of structs variables q) b.0 b.2 in inl (b.0, b.1, (i.0, i.1, i.2, b.3), b.4))

    back : ((t u : TypeTree) × ((inner : TypeTree) × (type_of structs variables q ≡ Some inner)
        × (t ≡ reference r m inner) × (type_of structs variables p ≡ Some u)) × SubtypeAsks structs t u x)
        → BothAsk structs (reference_to r m (type_of structs variables q)) (type_of structs variables p) x
        ⊎ (RestsOn structs variables q x.0 × (x.1 ≡ r))
    back w = (let i = w.2 in inl (w.0, w.1, ap (reference_to r m) i.1 ∙ ap Some (sym i.2), i.3, w.3))

-- the regions on which a reborrow rests, one by one
pub outlives_rests : (structs : List Struct) (variables : List TypeTree) (q : PlacePath) (regions : List ℕ) (r : ℕ)
    (a b : List (ℕ × ℕ)) → ((s : ℕ) → Contains regions s ↔ RestsOn structs variables q s)
    → AddsPairs (OneOutlives regions r) a b → AddsPairs (λ x. RestsOn structs variables q x.0 × (x.1 ≡ r)) a b
outlives_rests structs variables q regions r a b rests =
    adds_same _ _ a b (λ x. (λ w. ((rests x.0).0 w.0, w.1), λ w. ((rests x.0).1 w.0, w.1)))

pub asks_make : (structs : List Struct) (variables : List TypeTree) (p : PlacePath) (made : TypeTree)
    (ops : List Operand) (x : ℕ × ℕ)
    → (AtOne (PartAsks structs variables made ops) x ⊎ BothAsk structs (Some made) (type_of structs variables p) x)
    ↔ AsksInAll structs variables (make p made ops) x
asks_make structs variables p made ops x = both_ways (
  ⊎_elim (λ w. (let k = w.1 in let b = k.2 in inl (b.0, b.1, inl (w.0, k.0, k.1, b.2, b.3), b.4)))
      (λ b. inl (b.0, b.1, inr (sym (some_is made b.0 b.2), b.3), b.4)),
  ⊎_elim (λ w. ⊎_elim (λ k. inl (k.0, (k.1, k.2, (w.0, w.1, k.3, k.4, w.3))))
      (λ k. inr (w.0, w.1, ap Some (sym k.0), k.1, w.3)) w.2) (λ h. absurd h),
) (asks_by_form structs variables (make p made ops) x)

pub asks_call : (structs : List Struct) (variables : List TypeTree) (p : PlacePath) (args : List (Operand × TypeTree))
    (result : TypeTree) (wheres : List (ℕ × ℕ)) (b : ℕ) (unwind : Option ℕ) (x : ℕ × ℕ)
    → ((AtOne (InputAsks structs variables args) x ⊎ BothAsk structs (Some result) (type_of structs variables p) x)
    ⊎ Contains wheres x) ↔ AsksInAll structs variables (call p args result wheres b unwind) x
asks_call structs variables p args result wheres b unwind x = both_ways (
  ⊎_elim (⊎_elim input (λ b. inl (b.0, b.1, inr (sym (some_is result b.0 b.2), b.3), b.4))) inr,
  ⊎_elim (λ w. inl (⊎_elim (λ k. inl (k.0, (k.1, w.1, k.2, (w.0, w.1, k.3, refl, w.3))))
      (λ k. inr (w.0, w.1, ap Some (sym k.0), k.1, w.3)) w.2)) inr,
) (asks_by_form structs variables (call p args result wheres b unwind) x)
  where
    input : AtOne (InputAsks structs variables args) x
        → AsksByForm structs variables (call p args result wheres b unwind) x
    input w = grind (arith, some_is)

-- no region stands in an `int`, so what is switched on asks nothing
pub asks_switch : (structs : List Struct) (variables : List TypeTree) (op : Operand) (bs : List ℕ) (x : ℕ × ℕ)
    → AsksInAll structs variables (switch op bs) x → ⊥
asks_switch structs variables op bs x = asks_nothing structs variables (switch op bs) x
    (⊎_elim (λ w. (let b = w.3 in no_region_in_int b.0 b.2 (subst (λ (z : TypeTree). HasRegionAt z b.0 b.2) w.2.1 b.4)))
    (λ h. h))

-- ---- places of operands

-- what an operand asks is what its place asks
pub part_at : (structs : List Struct) (variables : List TypeTree) (made : TypeTree) (ops : List Operand) (n : ℕ)
    (op : Operand) (x : ℕ × ℕ) → slice_get ops n ≡ Some op
    → BothAsk structs (operand_type structs variables op) (behind structs (Field n) made) x
    ↔ PartAsks structs variables made ops n x
part_at structs variables made ops n op x e = grind (arith, some_is)

pub parts_within : (structs : List Struct) (variables : List TypeTree) (made : TypeTree) (ops : List Operand) (n k : ℕ)
    (x : ℕ × ℕ) → length ops ≤ n → PartAsks structs variables made ops k x → k < n
parts_within structs variables made ops n k x le p = (let l = get_below ops k p.0 p.1 in omega arith)

pub input_at : (structs : List Struct) (variables : List TypeTree) (args : List (Operand × TypeTree)) (n : ℕ)
    (op : Operand) (u : TypeTree) (x : ℕ × ℕ) → slice_get args n ≡ Some (op, u)
    → BothAsk structs (operand_type structs variables op) (Some u) x ↔ InputAsks structs variables args n x
input_at structs variables args n op u x e = grind (arith, some_is)

pub inputs_within : (structs : List Struct) (variables : List TypeTree) (args : List (Operand × TypeTree)) (n k : ℕ)
    (x : ℕ × ℕ) → length args ≤ n → InputAsks structs variables args k x → k < n
inputs_within structs variables args n k x le p = (let l = get_below args k (p.0, p.1) p.2 in omega arith)

-- ---- pairs of a row

pub both_there : (structs : List Struct) (t u : TypeTree) (x : ℕ × ℕ)
    → SubtypeAsks structs t u x ↔ BothAsk structs (Some t) (Some u) x
both_there structs t u x = grind (arith, some_is)

-- the pairs that are appended are those
pub adds_list : (old new pairs : List (ℕ × ℕ)) → new ≡ old ++ pairs → AddsPairs (Contains pairs) old new
adds_list old new pairs e =
    rw e (record {
      each = λ x. (
        Contains-append_cases old pairs x,
        ⊎_elim (Contains-append_left old pairs x) (Contains-append_right old pairs x),
      );
    })

pub outlives_more : (xs : List ℕ) (y r : ℕ) (old now next : List (ℕ × ℕ)) → next ≡ now ++ (y, r) ∷ []
    → AddsPairs (OneOutlives xs r) old now → AddsPairs (OneOutlives (xs ++ y ∷ []) r) old next
outlives_more xs y r old now next e h = rw e (record {
  each = λ x. (
    λ c. ⊎_elim (λ d. ⊎_elim inl (λ o. inr (Contains-append_left xs (y ∷ []) x.0 o.0, o.1)) ((h.each x).0 d))
        (λ p. inr (here x p)) (Contains-push_cases now (y, r) x c),
    ⊎_elim (λ o. Contains-append_left now ((y, r) ∷ []) x ((h.each x).1 (inl o)))
        (λ o. ⊎_elim (λ d. Contains-append_left now ((y, r) ∷ []) x ((h.each x).1 (inr (d, o.1)))) (λ p. last x p o.1)
        (Contains-push_cases xs y x.0 o.0)),
  );
})
  where
    here : (x : ℕ × ℕ) → (y, r) ≡ x → OneOutlives (xs ++ y ∷ []) r x
    here x p = subst (OneOutlives (xs ++ y ∷ []) r) p (Contains-push xs y, refl)

    last : (x : ℕ × ℕ) → y ≡ x.0 → x.1 ≡ r → Contains (now ++ (y, r) ∷ []) x
    last x p q =
        subst (Contains (now ++ (y, r) ∷ [])) (let d : (y, r) ≡ (x.0, x.1) = cc in d) (Contains-push now (y, r))

-- ---- the code's calls

pub get_mapped : {X Y : Type 0} (f : X → Y) (xs : List X) (k : ℕ) (x : X) → slice_get xs k ≡ Some x
    → slice_get (map f xs) k ≡ Some (f x)
get_mapped f [] k x e = absurd cc
get_mapped {X} f (y ∷ xs) zero x e = ap (λ o. option_map f o) e
get_mapped f (y ∷ xs) (suc k) x e = get_mapped f xs k x e

pub pairs_seen : (ws : List (ℕ × ℕ)) → ws ≡ map {B = ℕ × ℕ} (λ w. (w.0, w.1)) ws
pairs_seen [] = refl
pairs_seen (w ∷ ws) = ap (λ zs. w ∷ zs) (pairs_seen ws)
