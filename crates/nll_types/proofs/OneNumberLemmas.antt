-- Equal types have one number.
use Rattle.std.proofs.Common.{◌≡◌, ℕ, zero, suc, ◌<◌, ◌≤◌, List, [], ◌∷◌, length, get_or, refl, sym, ◌∙◌, arith, Bool, true, false, ⊎_elim}
use Rattle.std.specs.Prelude.{slice_index, ◌==◌, ◌&&◌, nat_eq}
use Rattle.std.specs.Cmp.Lexicographic.{pointwise}
use Rattle.std.specs.Bool.{beq}
use Rattle.std.specs.List.{IsDistinct, AllByRecursion}
use Rattle.std.proofs.lemmas.Bool.{eq-eqb, cases_order, false≢true}
use Rattle.std.proofs.lemmas.Bool.Decides.{Decides-eqb}
use Rattle.std.proofs.lemmas.Slice.Eq.{slice_eq-Decides}
use Rattle.nll_types.specs.Shapes.{Shape}
use Rattle.nll_types.specs.Table.{at, all_at, shape_over, shapes_in, shape_in, IsOver, IsTable, HasOneNumber}
use Rattle.nll_types.specs.declared.node.Node.{Node}
use Rattle.nll_types.specs.declared.node.Node.TheVariants as nodes
use Rattle.nll_types.specs.contracts.node.NodePartialEq.TheImpl as derived
use Rattle.nll_types.proofs.TableLemmas.{at_node}

-- below n, numbers of one type are one number
abbrev IsOneBelow : List Shape → ℕ → ℕ → Type 0
IsOneBelow known limit n = (i j : ℕ) → i < n → j < limit → at known i ≡ at known j → i ≡ j

all_one : (known : List Shape) (limit n : ℕ) → IsOneBelow known limit n → (is js : List ℕ)
    → ((k : ℕ) → k < length is → slice_index is k < n) → ((k : ℕ) → k < length js → slice_index js k < limit)
    → all_at known is ≡ all_at known js → is ≡ js
all_one known limit n one [] [] a b e = refl
all_one known limit n one [] (j ∷ js) a b e = absurd cc
all_one known limit n one (i ∷ is) [] a b e = absurd cc
all_one known limit n one (i ∷ is) (j ∷ js) a b e =
    let h : at known i ≡ at known j = cc in
    let t : all_at known is ≡ all_at known js = cc in
    let x = one i j (a 0 (omega arith)) (b 0 (omega arith)) h in
    let y = all_one known limit n one is js (λ k l. a (suc k) (omega arith)) (λ k l. b (suc k) (omega arith)) t in
    cc

items_eq : (xs ys : List ℕ) → xs ≡ ys → pointwise nat_eq xs ys ≡ true
items_eq xs ys e = (slice_eq-Decides {E = nat_eq} (λ a b. Decides-eqb a b) xs ys (pointwise nat_eq xs ys) refl).1 e

both_true : (a b : Bool) → a ≡ true → b ≡ true → (a && b) ≡ true
both_true true true h k = refl
both_true true false h k = k
both_true false b h k = h

beq-same : (a b : Bool) → a ≡ b → beq a b ≡ true
beq-same true true e = refl
beq-same false false e = refl
beq-same true false e = absurd cc
beq-same false true e = absurd cc

-- nodes of one type are equal
node_one : (known : List Shape) (limit n : ℕ) → IsOneBelow known limit n → (a b : Node) → IsOver n a → IsOver limit b
    → shape_over known a ≡ shape_over known b → (derived.eq-value).it a b ≡ true
node_one known limit n one nodes.Int nodes.Int oa ob e = refl
node_one known limit n one nodes.Int (nodes.Parameter j) oa ob e = absurd cc
node_one known limit n one nodes.Int (nodes.Reference b j) oa ob e = absurd cc
node_one known limit n one nodes.Int (nodes.Tuple b) oa ob e = absurd cc
node_one known limit n one nodes.Int (nodes.Named j q b) oa ob e = absurd cc
node_one known limit n one nodes.Int (nodes.Function b j) oa ob e = absurd cc
node_one known limit n one (nodes.Parameter i) nodes.Int oa ob e = absurd cc
node_one known limit n one (nodes.Parameter i) (nodes.Parameter j) oa ob e = (let k : i ≡ j = cc in eq-eqb i j k)
node_one known limit n one (nodes.Parameter i) (nodes.Reference b j) oa ob e = absurd cc
node_one known limit n one (nodes.Parameter i) (nodes.Tuple b) oa ob e = absurd cc
node_one known limit n one (nodes.Parameter i) (nodes.Named j q b) oa ob e = absurd cc
node_one known limit n one (nodes.Parameter i) (nodes.Function b j) oa ob e = absurd cc
node_one known limit n one (nodes.Reference a i) nodes.Int oa ob e = absurd cc
node_one known limit n one (nodes.Reference a i) (nodes.Parameter j) oa ob e = absurd cc
node_one known limit n one (nodes.Reference a i) (nodes.Reference b j) oa ob e =
    (let k : a ≡ b = cc in let t : at known i ≡ at known j = cc in
    both_true (beq a b) (i == j) (beq-same a b k) (eq-eqb i j (one i j (oa 0 (omega arith)) (ob 0 (omega arith)) t)))
node_one known limit n one (nodes.Reference a i) (nodes.Tuple b) oa ob e = absurd cc
node_one known limit n one (nodes.Reference a i) (nodes.Named j q b) oa ob e = absurd cc
node_one known limit n one (nodes.Reference a i) (nodes.Function b j) oa ob e = absurd cc
node_one known limit n one (nodes.Tuple a) nodes.Int oa ob e = absurd cc
node_one known limit n one (nodes.Tuple a) (nodes.Parameter j) oa ob e = absurd cc
node_one known limit n one (nodes.Tuple a) (nodes.Reference b j) oa ob e = absurd cc
node_one known limit n one (nodes.Tuple a) (nodes.Tuple b) oa ob e =
    (let t : all_at known a.items ≡ all_at known b.items = cc in
    items_eq a.items b.items (all_one known limit n one a.items b.items oa ob t))
node_one known limit n one (nodes.Tuple a) (nodes.Named j q b) oa ob e = absurd cc
node_one known limit n one (nodes.Tuple a) (nodes.Function b j) oa ob e = absurd cc
node_one known limit n one (nodes.Named i p a) nodes.Int oa ob e = absurd cc
node_one known limit n one (nodes.Named i p a) (nodes.Parameter j) oa ob e = absurd cc
node_one known limit n one (nodes.Named i p a) (nodes.Reference b j) oa ob e = absurd cc
node_one known limit n one (nodes.Named i p a) (nodes.Tuple b) oa ob e = absurd cc
node_one known limit n one (nodes.Named i p a) (nodes.Named j q b) oa ob e =
    (let k : i ≡ j = cc in let l : p ≡ q = cc in let t : all_at known a.items ≡ all_at known b.items = cc in
    both_true (i == j) ((p == q) && pointwise nat_eq a.items b.items) (eq-eqb i j k)
    (both_true (p == q) (pointwise nat_eq a.items b.items) (eq-eqb p q l)
    (items_eq a.items b.items (all_one known limit n one a.items b.items oa ob t))))
node_one known limit n one (nodes.Named i p a) (nodes.Function b j) oa ob e = absurd cc
node_one known limit n one (nodes.Function a i) nodes.Int oa ob e = absurd cc
node_one known limit n one (nodes.Function a i) (nodes.Parameter j) oa ob e = absurd cc
node_one known limit n one (nodes.Function a i) (nodes.Reference b j) oa ob e = absurd cc
node_one known limit n one (nodes.Function a i) (nodes.Tuple b) oa ob e = absurd cc
node_one known limit n one (nodes.Function a i) (nodes.Named j q b) oa ob e = absurd cc
node_one known limit n one (nodes.Function a i) (nodes.Function b j) oa ob e =
    (let t : all_at known a.items ≡ all_at known b.items = cc in let u : at known i ≡ at known j = cc in
    both_true (pointwise nat_eq a.items b.items) (i == j)
    (items_eq a.items b.items (all_one known limit n one a.items b.items (λ k l. oa (suc k) (omega arith))
    (λ k l. ob (suc k) (omega arith)) t)) (eq-eqb i j (one i j (oa 0 (omega arith)) (ob 0 (omega arith)) u)))

each_later : {K : Type 0} (e : K → K → Bool) (d x : K) (xs : List K) → AllByRecursion (λ y. e x y ≡ false) xs → (k : ℕ)
    → k < length xs → e x (get_or xs k d) ≡ false
each_later e d x [] all k h = absurd (omega arith)
each_later e d x (y ∷ ys) all zero h = all.0
each_later e d x (y ∷ ys) all (suc k) h = each_later e d x ys all.1 k (omega arith)

apart : {K : Type 0} (e : K → K → Bool) (d : K) (ks : List K) → IsDistinct e ks → (i j : ℕ) → i < j → j < length ks
    → e (get_or ks i d) (get_or ks j d) ≡ false
unfolding IsDistinct
apart e d [] distinct i j less h = absurd (omega arith)
apart e d (k ∷ ks) distinct i zero less h = absurd (omega arith)
apart e d (k ∷ ks) distinct zero (suc j) less h = each_later e d k ks distinct.0 j (omega arith)
apart e d (k ∷ ks) distinct (suc i) (suc j) less h = apart e d ks distinct.1 i j (omega arith) (omega arith)

fewer : (known : List Shape) (limit n m : ℕ) → m ≤ n → IsOneBelow known limit n → IsOneBelow known limit m
fewer known limit n m le one = λ i j a b e. one i j (omega arith) b e

-- i comes before j and has another type
differ : (ns : List Node) → IsTable ns → IsDistinct derived.eq-value.it ns → (i j : ℕ) → i < j → j < length ns
    → IsOneBelow (shapes_in ns) (length ns) i → shape_in ns i ≡ shape_in ns j → ⊥
differ ns table distinct i j less h one e =
    let t = node_one (shapes_in ns) (length ns) i one (get_or ns i nodes.Int) (get_or ns j nodes.Int)
    (table i (omega arith)) (λ k b. let x = table j h k b in omega arith)
    (sym (at_node ns table i (omega arith)) ∙ e ∙ at_node ns table j h) in
    let f = apart derived.eq-value.it nodes.Int ns distinct i j less h in
    false≢true (sym f ∙ t)

one_below : (ns : List Node) → IsTable ns → IsDistinct derived.eq-value.it ns → (n : ℕ) → n ≤ length ns
    → IsOneBelow (shapes_in ns) (length ns) n
one_below ns table distinct zero le = λ i j a b e. absurd (omega arith)
one_below ns table distinct (suc n) le = λ i j a b e.
    ⊎_elim (λ s. s)
    (⊎_elim
    (λ l. absurd (differ ns table distinct i j l b
    (fewer (shapes_in ns) (length ns) n i (omega arith) (one_below ns table distinct n (omega arith))) e))
    (λ l. absurd (differ ns table distinct j i l (omega arith)
    (fewer (shapes_in ns) (length ns) n j (omega arith) (one_below ns table distinct n (omega arith))) (sym e))))
    (cases_order i j)

-- equal types have one number
pub one_number : (ns : List Node) → IsTable ns → IsDistinct derived.eq-value.it ns → HasOneNumber ns
one_number ns table distinct = λ i j a b e. one_below ns table distinct (length ns) (omega arith) i j a b e
