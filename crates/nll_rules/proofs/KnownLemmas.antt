-- What is found of types at hand.
use Rattle.std.proofs.Common.{◌≡◌, ℕ, ◌<◌, Bool, true, false, List, [], ◌∷◌, ◌++◌, length, take, drop, ◌≤◌, refl, sym, ap, ◌∙◌, subst, arith, Option, Some, None, ◌↔◌}
use Rattle.std.specs.Prelude.{◌-◌, MatchOption, if◌then◌else◌, nat_lt, option_map, slice_get}
use Rattle.std.specs.Global.{Vec}
use Rattle.std.proofs.Math.Seq.{take-append_seam}
use Rattle.std.proofs.lemmas.List.{length-append, length-drop, nil_from_length, same_from_push}
use Rattle.std.proofs.lemmas.Option.{get_or_from_slice_get, slice_get_within}
use Rattle.nll_types.specs.Rows.{region_row, region_rows, HasRow, tree_at}
use Rattle.nll_types.specs.Shapes.{Shape, ShapeList, reference_shape, tuple_shape, named_shape, shape_at, shape_of, shapes_of, behind_shape}
use Rattle.nll_types.specs.Structs.{Struct, field_type}
use Rattle.nll_types.specs.Table.{Extends, IsOver, all_at, at, shape_in, shape_over, shapes_in}
use Rattle.nll_types.specs.Types.{TypeTree, TypeTrees, int, parameter, reference, tuple, named, function, type_at, type_count}
use Rattle.nll_types.specs.declared.node.Node.{Node}
use Rattle.nll_types.specs.declared.node.Node.TheVariants as nodes
use Rattle.nll_types.specs.declared.parameter.Sign.{Sign}
use Rattle.nll_types.specs.declared.parameter.Sign.TheVariants.{Covariant}
use Rattle.nll_types.specs.declared.place.Projection.TheVariants.{Field}
use Rattle.nll_types.specs.declared.typed.Typed.{Typed}
use Rattle.nll_types.proofs.ProjectLemmas.{count_tuple, shape_at_all}
use Rattle.nll_types.proofs.ShapeLemmas.{behind_agrees, shape_at_of}
use Rattle.nll_types.proofs.TableLemmas.{length_from}
use Rattle.nll_rules.specs.Knowing.{AsksAt, IsFieldIn, IsTypeOfRow, KnownTypes, known_row}
use Rattle.nll_rules.specs.Pairs.{AddsPairs}
use Rattle.nll_rules.specs.Signs.{RowsAsk, row_signs_of}
use Rattle.nll_rules.specs.Subtyping.{SubtypeAsks}
use Rattle.nll_rules.specs.TypeRows.{AreSigns, AreSignsOf, IsRowIn, IsRowOf, IsUseRow, IsWholeRow, first_parts, row_from, row_in, row_length, starts_from}
use Rattle.nll_rules.specs.declared.field_rows.UseRow.{UseRow}
use Rattle.nll_rules.specs.declared.fields.FieldRow.{FieldRow}
use Rattle.nll_rules.specs.declared.row_signs.ShapeSigns.{ShapeSigns}
use Rattle.nll_rules.specs.declared.type_row.TypeRow.{TypeRow}
use Rattle.nll_rules.proofs.PairLemmas.{adds_same}
use Rattle.nll_rules.proofs.RowSignLemmas.{row_length_of, rows_asked, signs_length}

-- ---- more shapes

-- a copy of a table has its shapes
pub extends_copy : (ns later : List Node) → shapes_in later ≡ shapes_in ns → Extends ns later
extends_copy ns later e = record {
  longer = (let a = length_from [] ns in let b = length_from [] later in omega (arith, ap length e));
  kept = λ i l. ap (λ (known : List Shape). at known i) e;
}

-- ---- types that are written

-- a row that the body's list has
written_in : (body made : List ℕ) (shape first n : ℕ) (row rest : List ℕ) → drop first body ≡ row ++ rest
    → n ≡ length row
    → row_in body made (record { shape = shape; first = first; count = n }) ≡ row
written_in body made shape first n row rest e is = by (nat_lt first (length body)) refl
  where
    one : take n (drop first body) ≡ row
    one = ap (take n) e ∙ ap (λ (m : ℕ). take m (row ++ rest)) is ∙ take-append_seam row rest

    by : (b : Bool) → nat_lt first (length body) ≡ b
        → take n (if b then drop first body else drop (first - length body) made) ≡ row
    by true l = one
    by false l =
        let none : length row ≡ 0 = omega (arith, length-drop first body, ap length e, length-append row rest, past l)
        in
        let empty : row ≡ [] = nil_from_length row none in
        let zero : n ≡ 0 = is ∙ none in
        rw (zero, empty) refl
      where
        past : nat_lt first (length body) ≡ false → length body ≤ first
        past l = search (arith)

pub written_row : (ns old new : List Node) (body made : List ℕ) (v : Typed) (n : ℕ) → HasRow ns body v
    → Extends ns old → Extends old new → n ≡ row_length (shape_in old v.shape)
    → IsRowOf new body made (tree_at ns body v) (record { shape = v.shape; first = v.first; count = n })
written_row ns old new body made v n h e f is =
    let t = tree_at ns body v in
    let count : n ≡ length (region_row t) =
    is ∙ ap row_length (e.kept v.shape h.within ∙ h.shape) ∙ row_length_of t in
    let row = written_in body made v.shape v.first n (region_row t) h.row.0 h.row.1 count in record {
      within = (let l = h.within in let a = e.longer in let b = f.longer in omega arith);
      shape = f.kept v.shape (let l = h.within in let a = e.longer in omega arith) ∙ e.kept v.shape h.within ∙ h.shape;
      row = row;
      whole = ap length row ∙ sym count;
    }

-- ---- signs

pub no_signs : (structs : List Struct) (ns : List Node) (known : List (Option ShapeSigns)) → known ≡ []
    → AreSigns structs ns known
no_signs structs ns known none k e found = grind arith

-- what is known of a shape has as many signs as the rows of its types have regions
pub known_count : (structs : List Struct) (ns : List Node) (known : List (Option ShapeSigns)) (shape n : ℕ)
    (e : ShapeSigns) → AreSigns structs ns known → slice_get known shape ≡ Some (Some e) → n ≡ length e.signs.items
    → n ≡ row_length (shape_in ns shape)
known_count structs ns known shape n e are found is =
    is ∙ ap length (are shape e found).1.signs ∙ signs_length structs Covariant (shape_in ns shape)

swap : {A B : Type 0} → A ↔ B → B ↔ A
swap e = (e.1, e.0)

-- what two types ask that meet is what the rows ask by the signs of their shape
pub met_types : (k : KnownTypes) (t u : TypeTree) (one other : TypeRow) (old new : List (ℕ × ℕ)) → IsTypeOfRow k t one
    → IsTypeOfRow k u other → shape_of t ≡ shape_of u → AddsPairs (AsksAt k (record { one = one; other = other })) old
    new
    → AddsPairs (SubtypeAsks k.structs t u) old new
met_types k t u one other old new h i same adds =
    let is : row_signs_of k.structs Covariant (shape_in k.table other.shape) ≡ row_signs_of k.structs Covariant
    (shape_of t) =
    ap (row_signs_of k.structs Covariant) (i.shape ∙ sym same) in
    adds_same _ _ old new (λ x. swap (rows_asked k.structs t u x same))
    (subst (λ (rs : List ℕ). AddsPairs (RowsAsk (row_signs_of k.structs Covariant (shape_of t))
    (region_row t) rs) old new)
    i.row
    (subst (λ (rs : List ℕ).
    AddsPairs (RowsAsk (row_signs_of k.structs Covariant (shape_of t)) rs (known_row k other)) old new) h.row
    (subst (λ (ss : List Sign). AddsPairs (RowsAsk ss (known_row k one) (known_row k other)) old new) is adds)))

-- ---- references

-- the shape of a node that is a reference
pub reference_node : (ns : List Node) (i target : ℕ) (m : Bool) (node : Node) → i < length ns
    → shape_in ns i ≡ shape_over (shapes_in ns) node → IsOver i node → node ≡ nodes.Reference m target
    → (shape_in ns i ≡ reference_shape m (shape_in ns target)) × (target < length ns)
reference_node ns i target m node l at over is = grind arith

pub reference_row : (ns : List Node) (body made : List ℕ) (t : TypeTree) (c r : TypeRow) (m : Bool) (target q : ℕ)
    → IsRowOf ns body made t c → shape_in ns c.shape ≡ reference_shape m (shape_in ns target) → target < length ns
    → r.shape ≡ target → IsWholeRow (row_in body made r) r
    → row_in body made c ≡ row_in body made r ++ q ∷ []
    → (u : TypeTree) × (t ≡ reference q m u) × IsRowOf ns body made u r
reference_row ns body made (reference p n u) c r m target q h is l at whole row =
    grind (arith, same_from_push)
reference_row ns body made int c r m target q h is l at whole row = absurd (let e = sym h.shape ∙ is in cc)
reference_row ns body made (parameter k) c r m target q h is l at whole row = absurd (let e = sym h.shape ∙ is in cc)
reference_row ns body made (tuple ts) c r m target q h is l at whole row = absurd (let e = sym h.shape ∙ is in cc)
reference_row ns body made (named s rs ts) c r m target q h is l at whole row = absurd (let e = sym h.shape ∙ is in cc)
reference_row ns body made (function ts t) c r m target q h is l at whole row = absurd (let e = sym h.shape ∙ is in cc)

-- ---- parts of tuples

-- what is found of the part at a place of a tuple is its type
pub tuple_row : (ns : List Node) (body made : List ℕ) (ts : TypeTrees) (c : TypeRow) (k : ℕ) (parts : Vec ℕ)
    (starts : List ℕ) (o : Option TypeRow) → IsRowOf ns body made (tuple ts) c
    → shape_in ns c.shape ≡ shape_over (shapes_in ns) (nodes.Tuple parts) → IsOver c.shape (nodes.Tuple parts)
    → starts ≡ starts_from 0 (first_parts (shape_in ns c.shape))
    → ((ts : TypeTrees) → starts ≡ starts_from 0 (shapes_of ts) → length parts.items ≡ type_count ts
    → row_in body made c ≡ region_rows ts → MatchOption o (type_at ts k ≡ None)
    (λ r. (t : TypeTree) × (type_at ts k ≡ Some t) × (slice_get parts.items k ≡ Some r.shape)
    × (row_in body made r ≡ region_row t) × IsWholeRow (row_in body made r) r))
    → IsRowIn ns body made (type_at ts k) o
tuple_row ns body made ts c k parts starts o h node over begun row =
    there o (row ts (begun ∙ ap (λ (s : Shape). starts_from 0 (first_parts s)) h.shape) count h.row)
  where
    known : List Shape
    known = shapes_in ns

    same : shapes_of ts ≡ all_at known parts.items
    same = (let e : tuple_shape (shapes_of ts) ≡ tuple_shape (all_at known parts.items) = sym h.shape ∙ node in cc)

    count : length parts.items ≡ type_count ts
    count = (let e = count_tuple [] known parts (tuple ts) (ap tuple_shape same) in cc)

    at_part : (i : ℕ) (t : TypeTree) → slice_get parts.items k ≡ Some i → type_at ts k ≡ Some t
        → at known i ≡ shape_of t
    at_part i t e f =
        let d : Some (at known i) ≡ Some (shape_of t) =
        ap (option_map (at known)) (sym e) ∙ shape_at_all known parts.items k
        ∙ ap (λ (ss : ShapeList). shape_at ss k) (sym same) ∙ sym (shape_at_of ts k) ∙ ap (option_map shape_of) f in cc

    there : (o : Option TypeRow) → MatchOption o (type_at ts k ≡ None)
        (λ r. (t : TypeTree) × (type_at ts k ≡ Some t) × (slice_get parts.items k ≡ Some r.shape)
        × (row_in body made r ≡ region_row t) × IsWholeRow (row_in body made r) r) → IsRowIn ns body made (type_at ts
        k) o
    there None m = subst (λ (p : Option TypeTree). IsRowIn ns body made p None) (sym m) refl
    there (Some r) m =
        let below = over k (slice_get_within parts.items k r.shape m.2) in
        let is = get_or_from_slice_get parts.items k r.shape 0 m.2 in
        subst (λ (p : Option TypeTree). IsRowIn ns body made p (Some r)) (sym m.1) (record {
          within = (let l = h.within in omega arith);
          shape = at_part r.shape m.0 m.2 m.1;
          row = m.3;
          whole = m.4;
        })

-- ---- fields of structs

-- where there is no shape of a field there is no field
pub no_field : (structs : List Struct) (ns later : List Node) (shape s k : ℕ) (rs : List ℕ) (ts : TypeTrees)
    → shape_of (named s rs ts) ≡ shape_in ns shape → None ≡ behind_shape structs (Field k) (shape_in ns shape)
    → IsFieldIn later (named s rs ts) (field_type structs s rs ts k) None
no_field structs ns later shape s k rs ts e none =
    there (field_type structs s rs ts k)
    (behind_agrees structs (Field k) (named s rs ts) ∙ ap (behind_shape structs (Field k)) e ∙ sym none)
  where
    there : (o : Option TypeTree) → option_map shape_of o ≡ None → IsFieldIn later (named s rs ts) o None
    there None e = refl
    there (Some u) e = absurd cc

-- what the row of a declaration makes is the row of the field's type
pub template_is : (structs : List Struct) (ns : List Node) (shape s j n k : ℕ) (rs : List ℕ) (ts : TypeTrees)
    (is : ShapeList) (e : ShapeSigns) (u : UseRow) (o : Option (Vec ℕ))
    → shape_of (named s rs ts) ≡ shape_in ns shape → shape_in ns shape ≡ named_shape j n is
    → AreSignsOf structs (shape_in ns shape) e
    → ((row rs : List ℕ) (ts : TypeTrees) → length row ≡ length e.signs.items
    → e.starts.items ≡ starts_from 0 (shapes_of ts) → row ≡ region_rows ts ++ rs → IsUseRow u row rs ts)
    → ((row rs : List ℕ) (ts : TypeTrees) → IsUseRow u row rs ts
    → option_map (λ v. row_from row v.items) o ≡ option_map region_row (field_type structs j rs ts k))
    → option_map (λ v. row_from (region_row (named s rs ts)) v.items) o
    ≡ option_map region_row (field_type structs s rs ts k)
template_is structs ns shape s j n k rs ts is e u o same node row_signs_of used row =
    row (region_row (named s rs ts)) rs ts (used (region_row (named s rs ts)) rs ts count begun refl)
    ∙ ap (λ (z : ℕ). option_map region_row (field_type structs z rs ts k)) own
  where
    own : j ≡ s
    own = (let d : named_shape j n is ≡ shape_of (named s rs ts) = sym node ∙ sym same in cc)

    begun : e.starts.items ≡ starts_from 0 (shapes_of ts)
    begun = row_signs_of.starts ∙ ap (λ (z : Shape). starts_from 0 (first_parts z)) (sym same)

    count : length (region_row (named s rs ts)) ≡ length e.signs.items
    count = sym (ap length row_signs_of.signs ∙ signs_length structs Covariant (shape_in ns shape)
        ∙ ap row_length (sym same) ∙ row_length_of (named s rs ts))

-- with the shape of the field it is what is to be known of the field
pub made_field : (structs : List Struct) (ns later new : List Node) (shape made s k : ℕ) (rs : List ℕ) (ts : TypeTrees)
    (o : Option (Vec ℕ)) → shape_of (named s rs ts) ≡ shape_in ns shape → Extends later new → made < length later
    → Some (shape_in later made) ≡ behind_shape structs (Field k) (shape_in ns shape)
    → option_map (λ v. row_from (region_row (named s rs ts)) v.items) o
    ≡ option_map region_row (field_type structs s rs ts k)
    → IsFieldIn new (named s rs ts) (field_type structs s rs ts k)
    (option_map (λ v. record { shape = made; template = v }) o)
made_field structs ns later new shape made s k rs ts o same x within is row =
    there o (field_type structs s rs ts k) row
    (behind_agrees structs (Field k) (named s rs ts) ∙ ap (behind_shape structs (Field k)) same ∙ sym is)
  where
    there : (o : Option (Vec ℕ)) (p : Option TypeTree)
        → option_map (λ v. row_from (region_row (named s rs ts)) v.items) o ≡ option_map region_row p
        → option_map shape_of p ≡ Some (shape_in later made)
        → IsFieldIn new (named s rs ts) p (option_map (λ v. record { shape = made; template = v }) o)
    there o None r d = absurd cc
    there None (Some v) r d = absurd cc
    there (Some v) (Some z) r d = grind arith

-- the type of a field, whose row is made of that of the struct
pub field_row : (later : List Node) (body made : List ℕ) (t : TypeTree) (o : Option TypeTree) (row : List ℕ)
    (c : TypeRow)
    (f : FieldRow) → region_row t ≡ row → IsFieldIn later t o (Some f) → c.shape ≡ f.shape
    → c.count ≡ length (row_from row f.template.items) → row_in body made c ≡ row_from row f.template.items
    → IsRowIn later body made o (Some c)
field_row later body made t None row c f is h shape count made_row = absurd (let e : Some f ≡ None = h in cc)
field_row later body made t (Some u) row c f is h shape count made_row = grind (arith, count)

-- ---- what is there

pub row_there : (ns : List Node) (body made : List ℕ) (o : Option TypeTree) (c : TypeRow)
    → IsRowIn ns body made o (Some c) → (t : TypeTree) × (o ≡ Some t) × IsRowOf ns body made t c
row_there ns body made None c h = absurd (let e : Some c ≡ None = h in cc)
row_there ns body made (Some t) c h = (t, refl, h)

pub row_none : (ns : List Node) (body made : List ℕ) (o : Option TypeTree) → IsRowIn ns body made o None → o ≡ None
row_none ns body made None h = refl
row_none ns body made (Some t) h = absurd h
