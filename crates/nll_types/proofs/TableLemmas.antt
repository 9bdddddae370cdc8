-- What a table's numbers stand for.
use Rattle.std.proofs.Common.{◌≡◌, ℕ, zero, suc, ◌+◌, ◌<◌, List, [], ◌∷◌, ◌++◌, length, get_or, refl, sym, ap, ◌∙◌, subst, arith, Bool, true, false, ⊎_elim}
use Rattle.std.proofs.lemmas.Bool.{cases_Bool, cases_lt, eqb-true, false≢true, true≢false}
use Rattle.std.proofs.lemmas.Slice.Eq.{slice_eq-Decides}
use Rattle.std.proofs.lemmas.Bool.Decides.{Decides-eqb}
use Rattle.std.proofs.lemmas.List.Sums.{sum_by-cons}
use Rattle.std.proofs.lemmas.Option.{get_or_from_slice_get}
use Rattle.std.specs.Prelude.{slice_get, Some, not, min, sum_by, slice_index, ◌==◌, ◌&&◌, nat_eq}
use Rattle.std.specs.List.{list_any}
use Rattle.std.specs.Cmp.Lexicographic.{pointwise}
use Rattle.std.specs.Bool.{beq}
use Rattle.indexmap.specs.IndexSet.{insert_key}
use Rattle.std.proofs.Math.Seq.{get_or-append_seam}
use Rattle.std.proofs.lemmas.List.{get_or_append_left, length-append}
use Rattle.nll_types.specs.Shapes.{Shape, int_shape as int, parameter_shape as parameter, reference_shape as reference, tuple_shape as tuple, named_shape as named, shape_nodes as count_nodes, shape_nodes_of_all as nodes_of_all}
use Rattle.nll_problem.specs.Limits.{most_nodes}
use Rattle.nll_types.specs.Table.{at, all_at, shape_over, shapes_from, shapes_in, shape_in, parts_of, IsOver, Extends, IsTable, IsShapeTable, HasOneNumber, size_over}
use Rattle.nll_types.specs.declared.node.Node.{Node}
use Rattle.nll_types.specs.declared.node.Node.TheVariants as nodes
use Rattle.nll_types.specs.contracts.node.NodePartialEq.TheImpl as derived

and_true : (a b : Bool) → (a && b) ≡ true → (a ≡ true) × (b ≡ true)
and_true true b h = (refl, h)
and_true false b h = absurd (let e : false ≡ true = h in cc)

beq-true : (a b : Bool) → beq a b ≡ true → a ≡ b
beq-true true true h = refl
beq-true false false h = refl
beq-true true false h = absurd (let e : false ≡ true = h in cc)
beq-true false true h = absurd (let e : false ≡ true = h in cc)

pub length_from : (known : List Shape) (ns : List Node) → length (shapes_from known ns) ≡ length known + length ns
length_from known [] = omega arith
length_from known (n ∷ ns) =
    omega (arith, length_from (known ++ shape_over known n ∷ []) ns, length-append known (shape_over known n ∷ []))

pub shapes_push : (known : List Shape) (ns : List Node) (n : Node)
    → shapes_from known (ns ++ n ∷ []) ≡ shapes_from known ns ++ shape_over (shapes_from known ns) n ∷ []
shapes_push known [] n = refl
shapes_push known (m ∷ ns) n = shapes_push (known ++ shape_over known m ∷ []) ns n

-- the types that are known stay
pub from_keeps : (known : List Shape) (ns : List Node) (i : ℕ) → i < length known
    → at (shapes_from known ns) i ≡ at known i
from_keeps known [] i h = refl
from_keeps known (n ∷ ns) i h =
    let l : i < length (known ++ shape_over known n ∷ []) =
    omega (arith, length-append known (shape_over known n ∷ [])) in
    from_keeps (known ++ shape_over known n ∷ []) ns i l ∙ get_or_append_left known (shape_over known n ∷ []) int i h

pub all_kept : (old new : List Shape) (n : ℕ) → ((i : ℕ) → i < n → at new i ≡ at old i) → (is : List ℕ)
    → ((k : ℕ) → k < length is → slice_index is k < n) → all_at new is ≡ all_at old is
all_kept old new n keeps [] over = refl
all_kept old new n keeps (i ∷ is) over =
    let here = keeps i (over 0 (omega arith)) in
    let rest = all_kept old new n keeps is (λ k h. over (suc k) (omega arith)) in
    cc

pub shape_kept : (old new : List Shape) (n : ℕ) → ((i : ℕ) → i < n → at new i ≡ at old i) → (node : Node)
    → IsOver n node → shape_over new node ≡ shape_over old node
shape_kept old new n keeps nodes.Int over = refl
shape_kept old new n keeps (nodes.Parameter i) over = refl
shape_kept old new n keeps (nodes.Reference m t) over = ap (reference m) (keeps t (over 0 (omega arith)))
shape_kept old new n keeps (nodes.Tuple ts) over = ap tuple (all_kept old new n keeps ts.items over)
shape_kept old new n keeps (nodes.Named s c ts) over = ap (named s c) (all_kept old new n keeps ts.items over)
shape_kept old new n keeps (nodes.Function ts t) over =
    let rest = all_kept old new n keeps ts.items (λ k h. over (suc k) (omega arith)) in
    let last = keeps t (over 0 (omega arith)) in
    cc

-- each number's type is that of its node
pub at_from : (known : List Shape) (ns : List Node)
    → ((i : ℕ) → i < length ns → IsOver (length known + i) (get_or ns i nodes.Int)) → (i : ℕ) → i < length ns
    → at (shapes_from known ns) (length known + i) ≡ shape_over (shapes_from known ns) (get_or ns i nodes.Int)
at_from known [] table i h = absurd (omega arith)
at_from known (n ∷ ns) table zero h =
    let more = known ++ shape_over known n ∷ [] in
    let l : length known < length more = omega (arith, length-append known (shape_over known n ∷ [])) in
    let kept =
    shape_kept known (shapes_from more ns) (length known) (λ i b. from_keeps known (n ∷ ns) i b) n
    (subst (λ (z : ℕ). IsOver z n) (omega arith) (table 0 (omega arith))) in
    let z : length known + 0 ≡ length known = omega arith in
    rw z (from_keeps more ns (length known) l ∙ get_or-append_seam known (shape_over known n) [] int ∙ sym kept)
at_from known (n ∷ ns) table (suc i) h =
    let more = known ++ shape_over known n ∷ [] in
    let e : length more ≡ length known + 1 = length-append known (shape_over known n ∷ []) in
    let z : length known + suc i ≡ length more + i = omega arith in
    rw z (at_from more ns (λ j b. subst (λ (z : ℕ). IsOver z (get_or ns j nodes.Int)) (omega arith)
    (table (suc j) (omega arith))) i (omega arith))

pub at_node : (ns : List Node) → IsTable ns → (i : ℕ) → i < length ns
    → shape_in ns i ≡ shape_over (shapes_in ns) (get_or ns i nodes.Int)
at_node ns table i h =
    subst (λ (z : ℕ). shape_in ns z ≡ shape_over (shapes_in ns) (get_or ns i nodes.Int)) (omega arith)
    (at_from [] ns (λ j b. subst (λ (z : ℕ). IsOver z (get_or ns j nodes.Int)) (omega arith) (table j b)) i h)

pub extends_push : (ns : List Node) (n : Node) → Extends ns (ns ++ n ∷ [])
extends_push ns n = grind (arith, length-append, shapes_push, get_or_append_left, length_from)

pub extends_same : (ns : List Node) → Extends ns ns
extends_same ns = record { longer = omega arith; kept = λ i h. refl }

pub at_last : (ns : List Node) (n : Node) → shape_in (ns ++ n ∷ []) (length ns) ≡ shape_over (shapes_in ns) n
at_last ns n =
    rw (shapes_push [] ns n) (subst (λ (z : ℕ). at (shapes_in ns ++ shape_over (shapes_in ns) n ∷ []) z
    ≡ shape_over (shapes_in ns) n) (length_from [] ns ∙ (omega arith))
    (get_or-append_seam (shapes_in ns) (shape_over (shapes_in ns) n) [] int))

pub table_push : (ns : List Node) (n : Node) → IsTable ns → IsOver (length ns) n → IsTable (ns ++ n ∷ [])
table_push ns n table over i h =
    ⊎_elim
    (λ b. subst (IsOver i) (sym (get_or_append_left ns (n ∷ []) nodes.Int i b)) (table i b))
    (λ b. let e : i ≡ length ns = omega (arith, length-append ns (n ∷ [])) in
    subst (λ (z : ℕ). IsOver z (get_or (ns ++ n ∷ []) z nodes.Int)) (sym e)
    (subst (IsOver (length ns)) (sym (get_or-append_seam ns n [] nodes.Int)) over))
    (cases_lt i (length ns))

pub table_insert : (eq : Node → Node → Bool) (ns : List Node) (n : Node) → IsTable ns → IsOver (length ns) n
    → IsTable (insert_key eq ns n)
table_insert eq ns n table over =
    ⊎_elim (λ e. rw e table) (λ e. rw e (table_push ns n table over)) (cases_Bool (list_any (eq n) ns))

-- a node that isn't there goes last, and of one that is there nothing changes
pub inserted_new : (eq : Node → Node → Bool) (ns : List Node) (n : Node) → not (list_any (eq n) ns) ≡ true
    → insert_key eq ns n ≡ ns ++ n ∷ []
inserted_new eq ns n h =
    ⊎_elim (λ e. absurd (false≢true (sym (ap not e) ∙ h))) (λ e. rw e refl) (cases_Bool (list_any (eq n) ns))

pub inserted_known : (eq : Node → Node → Bool) (ns : List Node) (n : Node) → not (list_any (eq n) ns) ≡ false
    → insert_key eq ns n ≡ ns
inserted_known eq ns n h =
    ⊎_elim (λ e. rw e refl) (λ e. absurd (true≢false (sym (ap not e) ∙ h))) (cases_Bool (list_any (eq n) ns))

pub extends_insert : (eq : Node → Node → Bool) (ns : List Node) (n : Node) → Extends ns (insert_key eq ns n)
extends_insert eq ns n =
    ⊎_elim (λ e. rw e (extends_same ns)) (λ e. rw e (extends_push ns n)) (cases_Bool (list_any (eq n) ns))

items_same : (xs ys : List ℕ) → pointwise nat_eq xs ys ≡ true → xs ≡ ys
items_same xs ys h = (slice_eq-Decides {E = nat_eq} (λ a b. Decides-eqb a b) xs ys true (sym h)).0 refl

-- equal nodes make one type
pub same : (known : List Shape) (m n : Node) → (derived.eq-value).it m n ≡ true
    → (shape_over known m ≡ shape_over known n) × (parts_of m ≡ parts_of n)
same known nodes.Int nodes.Int h = (refl, refl)
same known nodes.Int (nodes.Parameter j) h = absurd (let e : false ≡ true = h in cc)
same known nodes.Int (nodes.Reference b j) h = absurd (let e : false ≡ true = h in cc)
same known nodes.Int (nodes.Tuple b) h = absurd (let e : false ≡ true = h in cc)
same known nodes.Int (nodes.Named j q b) h = absurd (let e : false ≡ true = h in cc)
same known nodes.Int (nodes.Function b j) h = absurd (let e : false ≡ true = h in cc)
same known (nodes.Parameter i) nodes.Int h = absurd (let e : false ≡ true = h in cc)
same known (nodes.Parameter i) (nodes.Parameter j) h = (ap parameter (eqb-true i j h), refl)
same known (nodes.Parameter i) (nodes.Reference b j) h = absurd (let e : false ≡ true = h in cc)
same known (nodes.Parameter i) (nodes.Tuple b) h = absurd (let e : false ≡ true = h in cc)
same known (nodes.Parameter i) (nodes.Named j q b) h = absurd (let e : false ≡ true = h in cc)
same known (nodes.Parameter i) (nodes.Function b j) h = absurd (let e : false ≡ true = h in cc)
same known (nodes.Reference a i) nodes.Int h = absurd (let e : false ≡ true = h in cc)
same known (nodes.Reference a i) (nodes.Parameter j) h = absurd (let e : false ≡ true = h in cc)
same known (nodes.Reference a i) (nodes.Reference b j) h = let e = and_true (beq a b) (i == j) h in
    let x : a ≡ b = beq-true a b e.0 in let y : i ≡ j = eqb-true i j e.1 in (cc, cc)
same known (nodes.Reference a i) (nodes.Tuple b) h = absurd (let e : false ≡ true = h in cc)
same known (nodes.Reference a i) (nodes.Named j q b) h = absurd (let e : false ≡ true = h in cc)
same known (nodes.Reference a i) (nodes.Function b j) h = absurd (let e : false ≡ true = h in cc)
same known (nodes.Tuple a) nodes.Int h = absurd (let e : false ≡ true = h in cc)
same known (nodes.Tuple a) (nodes.Parameter j) h = absurd (let e : false ≡ true = h in cc)
same known (nodes.Tuple a) (nodes.Reference b j) h = absurd (let e : false ≡ true = h in cc)
same known (nodes.Tuple a) (nodes.Tuple b) h = let x : a.items ≡ b.items = items_same a.items b.items h in (cc, x)
same known (nodes.Tuple a) (nodes.Named j q b) h = absurd (let e : false ≡ true = h in cc)
same known (nodes.Tuple a) (nodes.Function b j) h = absurd (let e : false ≡ true = h in cc)
same known (nodes.Named i p a) nodes.Int h = absurd (let e : false ≡ true = h in cc)
same known (nodes.Named i p a) (nodes.Parameter j) h = absurd (let e : false ≡ true = h in cc)
same known (nodes.Named i p a) (nodes.Reference b j) h = absurd (let e : false ≡ true = h in cc)
same known (nodes.Named i p a) (nodes.Tuple b) h = absurd (let e : false ≡ true = h in cc)
same known (nodes.Named i p a) (nodes.Named j q b) h = let e =
    and_true (i == j) ((p == q) && pointwise nat_eq a.items b.items) h in
    let f = and_true (p == q) (pointwise nat_eq a.items b.items) e.1 in let y : i ≡ j = eqb-true i j e.0 in
    let z : p ≡ q = eqb-true p q f.0 in let x : a.items ≡ b.items = items_same a.items b.items f.1 in (cc, x)
same known (nodes.Named i p a) (nodes.Function b j) h = absurd (let e : false ≡ true = h in cc)
same known (nodes.Function a i) nodes.Int h = absurd (let e : false ≡ true = h in cc)
same known (nodes.Function a i) (nodes.Parameter j) h = absurd (let e : false ≡ true = h in cc)
same known (nodes.Function a i) (nodes.Reference b j) h = absurd (let e : false ≡ true = h in cc)
same known (nodes.Function a i) (nodes.Tuple b) h = absurd (let e : false ≡ true = h in cc)
same known (nodes.Function a i) (nodes.Named j q b) h = absurd (let e : false ≡ true = h in cc)
same known (nodes.Function a i) (nodes.Function b j) h = let e =
    and_true (pointwise nat_eq a.items b.items) (i == j) h in
    let x : a.items ≡ b.items = items_same a.items b.items e.0 in let y : i ≡ j = eqb-true i j e.1 in (cc, cc)

pub at_added : (ns ms : List Node) (n k : Node) (r : ℕ) → IsTable ms → Extends ns ms → IsOver (length ns) n
    → r < length ms → slice_get ms r ≡ Some k → (derived.eq-value).it n k ≡ true
    → shape_in ms r ≡ shape_over (shapes_in ns) n
at_added ns ms n k r table extends over within is eq =
    at_node ms table r within ∙ ap (shape_over (shapes_in ms)) (get_or_from_slice_get ms r k nodes.Int is)
    ∙ sym (same (shapes_in ms) n k eq).0 ∙ shape_kept (shapes_in ns) (shapes_in ms) (length ns) extends.kept n over

-- the sizes of the parts give the size of the whole
parts_measured : (known : List Shape) (counts : List ℕ) (n : ℕ)
    → ((i : ℕ) → i < n → slice_index counts i ≡ min (most_nodes + 1) (count_nodes (at known i))) → (is : List ℕ)
    → ((k : ℕ) → k < length is → slice_index is k < n) → (extra : ℕ)
    → min (most_nodes + 1) (sum_by (λ p. slice_index counts p) is + extra)
    ≡ min (most_nodes + 1) (nodes_of_all (all_at known is) + extra)
parts_measured known counts n measured [] over extra = refl
parts_measured known counts n measured (i ∷ is) over extra =
    let here = measured i (over 0 (omega arith)) in
    let rest =
    parts_measured known counts n measured is (λ k h. over (suc k) (omega arith))
    (extra + count_nodes (at known i)) in
    let e = sum_by-cons (λ p. slice_index counts p) i is in
    omega arith

pub size_measured : (known : List Shape) (counts : List ℕ) (n : ℕ)
    → ((i : ℕ) → i < n → slice_index counts i ≡ min (most_nodes + 1) (count_nodes (at known i))) → (node : Node)
    → IsOver n node → size_over counts node ≡ min (most_nodes + 1) (count_nodes (shape_over known node))
size_measured known counts n measured nodes.Int over = refl
size_measured known counts n measured (nodes.Parameter i) over = refl
size_measured known counts n measured (nodes.Reference m t) over = let here = measured t (over 0 (omega arith)) in
    omega arith
size_measured known counts n measured (nodes.Tuple ts) over = parts_measured known counts n measured ts.items over 1
size_measured known counts n measured (nodes.Named s c ts) over = parts_measured known counts n measured ts.items over 1
size_measured known counts n measured (nodes.Function ts t) over =
    let last = measured t (over 0 (omega arith)) in
    let rest = parts_measured known counts n measured ts.items (λ k h. over (suc k) (omega arith)) 1 in
    omega arith

pub kept_push : (ns : List Node) (counts : List ℕ) (n : Node) → IsShapeTable ns counts → HasOneNumber (ns ++ n ∷ [])
    → IsOver (length ns) n → IsShapeTable (ns ++ n ∷ []) (counts ++ size_over counts n ∷ [])
kept_push ns counts n kept one over = record {
  one = one;
  table = table_push ns n kept.table over;
  counted = grind (arith, length-append);
  measured = λ i h. ⊎_elim
      (λ b. get_or_append_left counts (size_over counts n ∷ []) 0 i (let c = kept.counted in omega arith)
      ∙ kept.measured i b ∙ ap (λ (s : Shape). min (most_nodes + 1) (count_nodes s))
      (sym ((extends_push ns n).kept i b)))
      (λ b. let e : i ≡ length ns = omega (arith, length-append ns (n ∷ [])) in
      subst (λ (z : ℕ). slice_index (counts ++ size_over counts n ∷ []) z
      ≡ min (most_nodes + 1) (count_nodes (shape_in (ns ++ n ∷ []) z))) (sym e)
      (subst (λ (z : ℕ). slice_index (counts ++ size_over counts n ∷ []) z
      ≡ min (most_nodes + 1) (count_nodes (shape_in (ns ++ n ∷ []) (length ns)))) kept.counted
      (get_or-append_seam counts (size_over counts n) [] 0
      ∙ size_measured (shapes_in ns) counts (length ns) kept.measured n over
      ∙ ap (λ (s : Shape). min (most_nodes + 1) (count_nodes s)) (sym (at_last ns n)))))
      (cases_lt i (length ns));
}
