-- What a statement means stays while its shapes and rows do.
use Rattle.std.proofs.Common.{◌≡◌, ℕ, List, [], ◌∷◌, ◌++◌, map, ap, refl}
use Rattle.nll_sets.specs.Prefix.{IsPrefix}
use Rattle.nll_types.specs.Table.{Extends}
use Rattle.nll_types.specs.Rows.{tree_at}
use Rattle.nll_types.specs.Operands.{Operand}
use Rattle.nll_types.specs.declared.node.Node.{Node}
use Rattle.nll_types.specs.declared.typed.Typed.{Typed}
use Rattle.nll_types.proofs.RowLemmas.{trees_later, rows_later}
use Rattle.nll_body.specs.Meant.{HasRows, meant_by}
use Rattle.nll_body.specs.Statements.{Statement, map_statement, types_written, assign, borrow, make, read, live, dead, nop, goto, switch, drop, call, return, stop}

arguments_as : {T U : Type 0} (g h : T → U) (args : List (Operand × T)) (t : T)
    → map g (map (λ (a : Operand × T). a.1) args ++ t ∷ []) ≡ map h (map (λ (a : Operand × T). a.1) args ++ t ∷ [])
    → ◌≡◌ {A = List (Operand × U) × U} (map (λ a. (a.0, g a.1)) args, g t) (map (λ a. (a.0, h a.1)) args, h t)
arguments_as g h [] t e = (let s : g t ≡ h t = cc in cc)
arguments_as {U = U} g h (a ∷ args) t e =
    let s : g a.1 ≡ h a.1 = cc in
    let rest = arguments_as g h args t cc in
    rw s (ap (λ (x : List (Operand × U) × U). ((a.0, h a.1) ∷ x.0, x.1)) rest)

-- the types that are written in a statement say what it means
pub mapped_as : {R S T U : Type 0} (f : R → S) (g h : T → U) (i : Statement R T)
    → map g (types_written i) ≡ map h (types_written i) → map_statement f g i ≡ map_statement f h i
mapped_as f g h (assign p op) e = refl
mapped_as f g h (borrow p r m q) e = refl
mapped_as f g h (make p t ops) e = (let s : g t ≡ h t = cc in ap (λ u. make p u ops) s)
mapped_as f g h (read p) e = refl
mapped_as f g h (live x) e = refl
mapped_as f g h (dead x) e = refl
mapped_as f g h nop e = refl
mapped_as f g h (goto b) e = refl
mapped_as f g h (switch op bs) e = refl
mapped_as f g h (drop x b unwind) e = refl
mapped_as {S = S} {U = U} f g h (call p args t wheres b unwind) e =
    ap (λ (x : List (Operand × U) × U). call p x.0 x.1 (map (λ w. (f w.0, f w.1)) wheres) b unwind)
    (arguments_as g h args t e)
mapped_as f g h return e = refl
mapped_as f g h stop e = refl

module _ (ns later : List Node) (regions longer : List ℕ) (e : Extends ns later) (p : IsPrefix regions longer)
    (i : Statement ℕ Typed) where
  -- more shapes and more regions leave what a statement means
  pub meant_later : HasRows ns regions i → meant_by later longer i ≡ meant_by ns regions i
  meant_later h = mapped_as (λ r. r) (tree_at later longer) (tree_at ns regions) i
      (trees_later ns later regions longer e p (types_written i) h)

  pub has_rows_later : HasRows ns regions i → HasRows later longer i
  has_rows_later h = rows_later ns later regions longer e p (types_written i) h
