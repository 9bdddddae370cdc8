-- The parts of types, one after another.
use Rattle.std.proofs.Common.{◌≡◌, ℕ, zero, suc, ◌+◌, ◌<◌, ◌≤◌, ◌↔◌, Bool, true, false, List, [], ◌∷◌, ◌++◌, length, map, drop, get_or, refl, sym, ap, ◌∙◌, arith, Option, Some, None}
use Rattle.std.specs.Prelude.{option_map, ◌&&◌, nat_lt, IsTrue}
use Rattle.std.proofs.lemmas.List.{length-map, drop_all}
use Rattle.std.specs.List.{list_all, flat_map}
use Rattle.std.proofs.Math.Seq.{drop-cons}
use Rattle.std.proofs.lemmas.Bool.{false_from_ne_true, and_parts}
use Rattle.std.proofs.lemmas.List.Folds.{list_all-append}
use Rattle.nll_types.specs.Types.{TypeTree, TypeTrees, int, parameter, reference, tuple, named, function, none, more, type_at, type_count}
use Rattle.nll_types.specs.Structs.{Struct, struct_at, put_in, put_in_all}
use Rattle.nll_types.specs.Places.{PlacePath, behind, part_count, small_prefixes}
use Rattle.nll_types.specs.Tables.{HaveShapes}
use Rattle.nll_body.specs.Judging.{IsJudged, have_variables}
use Rattle.nll_types.specs.Operands.{Operand, operand_type, place_in}
use Rattle.nll_types.specs.Rows.{shape_numbers}
use Rattle.nll_types.specs.Shapes.{is_small, shape_of, behind_shape}
use Rattle.nll_types.specs.Table.{AreBelow, shape_in}
use Rattle.nll_body.specs.declared.judgement.Judgement.{Judgement}
use Rattle.nll_types.specs.declared.node.Node.{Node}
use Rattle.nll_types.specs.declared.typed.Typed.{Typed}
use Rattle.nll_types.specs.declared.place.Projection.TheVariants.{Field}
use Rattle.nll_types.proofs.ShapeLemmas.{behind_agrees}
use Rattle.nll_body.specs.TypePairs.{beside, beside_parts, operand_types, parts_of_type}
use Rattle.nll_body.specs.Typing.{agree, pairs_agree, are_small}
use Rattle.std.proofs.Math.Bool.{and-true}
use Rattle.nll_body.proofs.JudgedLemmas.{and_assoc, and_swap, IsSoFar, so_far_more, so_far_all, so_far_as}

-- operands agree with the parts that stand beside them
abbrev pub all_agree : List (Option TypeTree) → TypeTrees → Bool
all_agree os ts = pairs_agree (beside os ts)

abbrev pub makes : List (Option TypeTree) → Option TypeTrees → Bool
makes os parts = pairs_agree (beside_parts os parts)

count_put : (rs : List ℕ) (ts us : TypeTrees) → type_count (put_in_all rs ts us) ≡ type_count us
count_put rs ts none = refl
count_put rs ts (more u us) = ap (λ (n : ℕ). n + 1) (count_put rs ts us)

-- a type has so many parts
pub parts_there : (structs : List Struct) (t : TypeTree) (n : ℕ) → part_count structs t ≡ Some n
    → (ts : TypeTrees) × (parts_of_type structs t ≡ Some ts) × (type_count ts ≡ n)
parts_there structs int n e = absurd cc
parts_there structs (parameter k) n e = absurd cc
parts_there structs (reference r m t) n e = absurd cc
parts_there structs (function ts t) n e = absurd cc
parts_there structs (tuple ts) n e = (ts, refl, (let z : type_count ts ≡ n = cc in z))
parts_there structs (named s rs ts) n e = (
  put_in_all rs ts (struct_at structs s).fields,
  refl,
  count_put rs ts (struct_at structs s).fields
      ∙ (let z : type_count (struct_at structs s).fields ≡ n = cc in z),
)

all_agree_count : (os : List (Option TypeTree)) (ts : TypeTrees) → all_agree os ts ≡ true → type_count ts ≡ length os
all_agree_count [] none h = refl
all_agree_count [] (more t ts) h = absurd (let e : false ≡ true = h in cc)
all_agree_count (None ∷ os) none h = absurd (let e : false ≡ true = h in cc)
all_agree_count (Some t ∷ os) none h = absurd (let e : false ≡ true = h in cc)
all_agree_count (o ∷ os) (more t ts) h =
    (let e = all_agree_count os ts (and_parts (agree o (Some t)) (all_agree os ts) h).1 in omega arith)

makes_count : (structs : List Struct) (t : TypeTree) (os : List (Option TypeTree))
    → makes os (parts_of_type structs t) ≡ true → part_count structs t ≡ Some (length os)
makes_count structs int os h = absurd (let e : false ≡ true = h in cc)
makes_count structs (parameter k) os h = absurd (let e : false ≡ true = h in cc)
makes_count structs (reference r m t) os h = absurd (let e : false ≡ true = h in cc)
makes_count structs (function ts t) os h = absurd (let e : false ≡ true = h in cc)
makes_count structs (tuple ts) os h = ap Some (all_agree_count os ts h)
makes_count structs (named s rs ts) os h = grind (arith, count_put, all_agree_count)

pub makes_not : (structs : List Struct) (t : TypeTree) (os : List (Option TypeTree))
    → (part_count structs t ≡ Some (length os) → ⊥) → makes os (parts_of_type structs t) ≡ false
makes_not structs t os h = false_from_ne_true _ (λ e. h (makes_count structs t os e))

-- the part at a place is the type behind that projection
pub part_behind : (structs : List Struct) (t : TypeTree) (ts : TypeTrees) (k : ℕ) (u : TypeTree)
    → parts_of_type structs t ≡ Some ts → type_at ts k ≡ Some u → behind structs (Field k) t ≡ Some u
part_behind structs int ts k u e is = absurd cc
part_behind structs (parameter j) ts k u e is = absurd cc
part_behind structs (reference r m t) ts k u e is = absurd cc
part_behind structs (function us t) ts k u e is = absurd cc
part_behind structs (tuple us) ts k u e is = (let z : us ≡ ts = cc in ap (λ (v : TypeTrees). type_at v k) z ∙ is)
part_behind structs (named s rs us) ts k u e is =
    let fields = (struct_at structs s).fields in
    let z : put_in_all rs us fields ≡ ts = cc in
    field_put rs us fields k u (ap (λ (v : TypeTrees). type_at v k) z ∙ is) where
      field_put : (rs : List ℕ) (ts us : TypeTrees) (k : ℕ) (u : TypeTree) → type_at (put_in_all rs ts us) k ≡ Some u
          → option_map (put_in rs ts) (type_at us k) ≡ Some u
      field_put rs ts none k u e = absurd cc
      field_put rs ts (more v us) zero u e = e
      field_put rs ts (more v us) (suc k) u e = field_put rs ts us k u e

-- ---- what is left of a row

-- the row without its first types
abbrev pub row_after : ℕ → TypeTrees → TypeTrees
row_after zero ts = ts
row_after (suc k) none = none
row_after (suc k) (more t ts) = row_after k ts

pub row_next : (ts : TypeTrees) (k : ℕ) → k < type_count ts
    → (t : TypeTree) × (type_at ts k ≡ Some t) × (row_after k ts ≡ more t (row_after (suc k) ts))
row_next none k l = absurd (omega arith)
row_next (more t ts) zero l = (t, refl, refl)
row_next (more t ts) (suc k) l = row_next ts k (omega arith)

pub row_past : (ts : TypeTrees) (k : ℕ) → type_count ts ≤ k → row_after k ts ≡ none
row_past none zero l = refl
row_past none (suc k) l = refl
row_past (more t ts) zero l = absurd (omega arith)
row_past (more t ts) (suc k) l = row_past ts k (omega arith)

pub parts_counted : (structs : List Struct) (t : TypeTree) (n : ℕ) (ts : TypeTrees) → part_count structs t ≡ Some n
    → parts_of_type structs t ≡ Some ts → type_count ts ≡ n
parts_counted structs t n ts e is =
    (let w = parts_there structs t n e in let a = w.1 in let b = w.2 in
    let z : w.0 ≡ ts = some_is w.0 ts (sym a ∙ is) in ap type_count (sym z) ∙ b)
  where
    some_is : (a b : TypeTrees) → Some a ≡ Some b → a ≡ b
    some_is a b e = cc

-- ---- the shape of a part

pub part_shape : (structs : List Struct) (ns later : List Node) (shape part k : ℕ) (t u : TypeTree)
    → Some (shape_in later part) ≡ behind_shape structs (Field k) (shape_in ns shape)
    → shape_in ns shape ≡ shape_of t → behind structs (Field k) t ≡ Some u → shape_in later part ≡ shape_of u
part_shape structs ns later shape part k t u at e is =
    let z : Some (shape_in later part) ≡ Some (shape_of u) = at ∙ ap (behind_shape structs (Field k)) e
    ∙ sym (behind_agrees structs (Field k) t) ∙ ap (option_map shape_of) is in
    cc

pub no_part : (structs : List Struct) (ns : List Node) (shape k : ℕ) (t u : TypeTree)
    → None ≡ behind_shape structs (Field k) (shape_in ns shape)
    → shape_in ns shape ≡ shape_of t → behind structs (Field k) t ≡ Some u → ⊥
no_part structs ns shape k t u at e is =
    let z : None ≡ Some (shape_of u) = at ∙ ap (behind_shape structs (Field k)) e
    ∙ sym (behind_agrees structs (Field k) t) ∙ ap (option_map shape_of) is in
    cc

-- ---- operands and parts

pub makes_none : {X : Type 0} (structs : List Struct) (types : List TypeTree) (t : TypeTree) (op : X → Operand)
    (xs : List X) (r : Bool) → IsTrue r ↔ (part_count structs t ≡ Some (length xs)) → r ≡ false
    → makes (operand_types structs types (map op xs)) (parts_of_type structs t) ≡ false
makes_none structs types t op xs r w e = makes_not structs t _ (λ n. not_both (w.1 (n ∙ ap Some counted)))
  where
    counted : length (operand_types structs types (map op xs)) ≡ length xs
    counted = length-map (map op xs) (operand_type structs types) ∙ length-map xs op

    not_both : r ≡ true → ⊥
    not_both h = (let d = e in cc)

pub rest_next : {X : Type 0} (xs : List X) (k : ℕ) (x : X) → k < length xs → x ≡ get_or xs k x
    → drop k xs ≡ x ∷ drop (k + 1) xs
rest_next {X} xs k x l is =
    let e : k + 1 ≡ suc k = omega arith in
    drop-cons xs k x l ∙ ap (λ (z : X). z ∷ drop (suc k) xs) (sym is) ∙ ap (λ (z : ℕ). x ∷ drop z xs) (sym e)

-- ---- variables of operands

variables_of_both : (count : ℕ) (ps qs : List PlacePath)
    → have_variables count (ps ++ qs) ≡ (have_variables count ps && have_variables count qs)
variables_of_both count [] qs = refl
variables_of_both count (p ∷ ps) qs =
    ap (λ (z : Bool). nat_lt p.variable count && z) (variables_of_both count ps qs)
    ∙ and_assoc (nat_lt p.variable count) (have_variables count ps) (have_variables count qs)

module _ {X : Type 0} (op : X → Operand) (count : ℕ) (xs : List X) where
  -- the variables of the operands behind the first k are declared
  abbrev pub left_declared : ℕ → Bool
  left_declared k = have_variables count (flat_map place_in (map op (drop k xs)))

  -- one more operand's variable is looked at
  pub declared_more : (k : ℕ) (x : X) (before one after whole : Bool) → k < length xs → x ≡ get_or xs k x
      → (before && left_declared k) ≡ whole → one ≡ have_variables count (place_in (op x)) → after ≡ (before && one)
      → (after && left_declared (k + 1)) ≡ whole
  declared_more k x before one after whole l is far told a = grind (arith, map, and_assoc, variables_of_both, rest_next)

  -- all are
  pub declared_all : (k : ℕ) (judged whole : Bool) → length xs ≤ k → (judged && left_declared k) ≡ whole
      → judged ≡ whole
  declared_all k judged whole l far = grind (arith, and-true, map, drop_all)

-- ---- operands and parts, one after another

module _ {X : Type 0} (structs : List Struct) (types : List TypeTree) (op : X → Operand) where
  -- what is left of operands and parts behind the first k
  abbrev pub left_fits : List X → TypeTrees → ℕ → Bool
  left_fits xs ts k = all_agree (operand_types structs types (map op (drop k xs))) (row_after k ts)

  abbrev pub left_small : List X → TypeTrees → ℕ → Bool
  left_small xs ts k =
      list_all (small_prefixes structs types) (flat_map place_in (map op (drop k xs))) && are_small (row_after k ts)

  fits_next : (xs : List X) (ts : TypeTrees) (k : ℕ) (x : X) (u : TypeTree)
      → drop k xs ≡ x ∷ drop (k + 1) xs → row_after k ts ≡ more u (row_after (suc k) ts)
      → left_fits xs ts k ≡ (agree (operand_type structs types (op x)) (Some u) && left_fits xs ts (k + 1))
  fits_next xs ts k x u a b =
      let e : k + 1 ≡ suc k = omega arith in
      ap (λ (z : List X). all_agree (operand_types structs types (map op z)) (row_after k ts)) a
      ∙ ap (λ (z : TypeTrees). all_agree (operand_type structs types (op x) ∷ operand_types structs types
      (map op (drop (k + 1) xs))) z) b
      ∙ ap (λ (n : ℕ). agree (operand_type structs types (op x)) (Some u) && all_agree
      (operand_types structs types (map op (drop (k + 1) xs))) (row_after n ts)) (sym e)

  small_next : (xs : List X) (ts : TypeTrees) (k : ℕ) (x : X) (u : TypeTree)
      → drop k xs ≡ x ∷ drop (k + 1) xs → row_after k ts ≡ more u (row_after (suc k) ts)
      → left_small xs ts k ≡ ((list_all (small_prefixes structs types) (place_in (op x)) && is_small u)
      && left_small xs ts (k + 1))
  small_next xs ts k x u a b =
      let e : k + 1 ≡ suc k = omega arith in
      let rest = flat_map place_in (map op (drop (k + 1) xs)) in
      ap (λ (z : List X). list_all (small_prefixes structs types) (flat_map place_in (map op z))
      && are_small (row_after k ts)) a
      ∙ ap (λ (z : TypeTrees). list_all (small_prefixes structs types) (place_in (op x) ++ rest) && are_small z) b
      ∙ ap (λ (z : Bool). z && (is_small u && are_small (row_after (suc k) ts)))
      (list_all-append (small_prefixes structs types) (place_in (op x)) rest)
      ∙ and_swap (list_all (small_prefixes structs types) (place_in (op x)))
      (list_all (small_prefixes structs types) rest) (is_small u) (are_small (row_after (suc k) ts))
      ∙ ap (λ (n : ℕ). (list_all (small_prefixes structs types) (place_in (op x)) && is_small u) &&
      (list_all (small_prefixes structs types) rest && are_small (row_after n ts))) (sym e)

  -- one more operand is judged against its part
  pub parts_more : (xs : List X) (ts : TypeTrees) (k : ℕ) (x : X) (u : TypeTree)
      (j part next : Judgement) (f s : Bool)
      → k < length xs → x ≡ get_or xs k x → row_after k ts ≡ more u (row_after (suc k) ts)
      → IsSoFar j (left_fits xs ts k) (left_small xs ts k) f s
      → IsJudged (agree (operand_type structs types (op x)) (Some u))
      (list_all (small_prefixes structs types) (place_in (op x)) && is_small u) part
      → next.fits ≡ (j.fits && part.fits) → next.small ≡ (j.small && part.small)
      → IsSoFar next (left_fits xs ts (k + 1)) (left_small xs ts (k + 1)) f s
  parts_more xs ts k x u j part next f s l is row far judged a b =
      let d = rest_next xs k x l is in
      so_far_more j part next _ _ _ _ _ _ f s far judged (fits_next xs ts k x u d row)
      (small_next xs ts k x u d row) a b

  -- all operands are judged
  pub parts_all : (xs : List X) (ts : TypeTrees) (k : ℕ) (j : Judgement) (f s : Bool) → length xs ≤ k
      → type_count ts ≡ length xs
      → IsSoFar j (left_fits xs ts k) (left_small xs ts k) f s → IsJudged f s j
  parts_all xs ts k j f s l count far = grind (arith, drop_all, row_past, map, so_far_all, so_far_as)

-- ---- operands of a call

-- the type that is written beside an operand
pub argument_below : {W : Type 0} (n : ℕ) (xs : List (W × Typed)) (k : ℕ) (x : W × Typed) → k < length xs
    → x ≡ get_or xs k x → AreBelow n (shape_numbers (map (λ a. a.1) xs)) → x.1.shape < n
argument_below n [] k x l is b = absurd (omega arith)
argument_below n (y ∷ xs) zero x l is b = rw is (b 0 (omega arith))
argument_below n (y ∷ xs) (suc k) x l is b =
    argument_below n xs k x (omega arith) is (λ j m. b (suc j) (omega arith))

pub argument_shape : {W : Type 0} (ns : List Node) (h : Typed → TypeTree) (xs : List (W × Typed)) (k : ℕ)
    (x : W × Typed) → k < length xs → x ≡ get_or xs k x
    → HaveShapes ns (shape_numbers (map (λ a. a.1) xs)) (map (λ a. h a.1) xs) → shape_in ns x.1.shape ≡ shape_of (h x.1)
argument_shape ns h [] k x l is e = absurd (omega arith)
argument_shape ns h (y ∷ xs) zero x l is e = rw is (let z : shape_in ns y.1.shape ≡ shape_of (h y.1) = cc in z)
argument_shape ns h (y ∷ xs) (suc k) x l is e =
    let rest : HaveShapes ns (shape_numbers (map (λ a. a.1) xs)) (map (λ a. h a.1) xs) = cc in
    argument_shape ns h xs k x (omega arith) is rest

module _ {X : Type 0} (structs : List Struct) (types : List TypeTree) (op : X → Operand) (h : X → TypeTree) where
  abbrev pub rest_fits : List X → Bool
  rest_fits xs = list_all (λ a. agree (operand_type structs types (op a)) (Some (h a))) xs

  abbrev pub rest_small : List X → Bool
  rest_small xs =
      list_all (small_prefixes structs types) (flat_map place_in (map op xs)) && list_all is_small (map h xs)

  -- one more operand is judged against its type
  pub arguments_more : (xs : List X) (k : ℕ) (x : X) (j one next : Judgement) (f s : Bool) → k < length xs
      → x ≡ get_or xs k x
      → IsSoFar j (rest_fits (drop k xs)) (rest_small (drop k xs)) f s
      → IsJudged (agree (operand_type structs types (op x)) (Some (h x)))
      (list_all (small_prefixes structs types) (place_in (op x)) && is_small (h x)) one
      → next.fits ≡ (j.fits && one.fits) → next.small ≡ (j.small && one.small)
      → IsSoFar next (rest_fits (drop (k + 1) xs)) (rest_small (drop (k + 1) xs)) f s
  arguments_more xs k x j one next f s l is far judged a b =
      grind (arith, rest_next, map, so_far_more, list_all-append, and_swap)

  -- all operands are judged
  pub arguments_all : (xs : List X) (k : ℕ) (j : Judgement) (f s : Bool) → length xs ≤ k
      → IsSoFar j (rest_fits (drop k xs)) (rest_small (drop k xs)) f s → IsJudged f s j
  arguments_all xs k j f s l far = grind (arith, drop_all, so_far_all, so_far_as)
