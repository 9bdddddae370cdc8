-- The shapes of types by numbers, while the table grows.
use Rattle.std.proofs.Common.{◌≡◌, ℕ, zero, suc, ◌<◌, List, [], ◌∷◌, length, map, get_or, refl, ◌∙◌, arith, Some}
use Rattle.std.specs.Prelude.{slice_get}
use Rattle.nll_types.specs.Types.{TypeTree}
use Rattle.nll_types.specs.Rows.{shape_numbers}
use Rattle.nll_types.specs.Shapes.{shape_of}
use Rattle.nll_types.specs.Table.{Extends, AreBelow, shape_in}
use Rattle.nll_types.specs.Tables.{HaveShapes}
use Rattle.nll_types.specs.declared.node.Node.{Node}
use Rattle.nll_types.specs.declared.typed.Typed.{Typed}

-- ---- numbers of shapes, while the table grows

pub below_later : (old new : List Node) (is : List ℕ) → Extends old new → AreBelow (length old) is
    → AreBelow (length new) is
below_later old new is e b = λ k h. (let l = b k h in let m = e.longer in omega arith)

same_later : (old new : List Node) (is : List ℕ) → Extends old new → AreBelow (length old) is
    → map (shape_in new) is ≡ map (shape_in old) is
same_later old new [] e b = refl
same_later old new (i ∷ is) e b =
    let here = e.kept i (b 0 (omega arith)) in
    let rest = same_later old new is e (λ k h. b (suc k) (omega arith)) in
    cc

pub shapes_later : (old new : List Node) (is : List ℕ) (ts : List TypeTree) → Extends old new → AreBelow (length old) is
    → HaveShapes old is ts → HaveShapes new is ts
shapes_later old new is ts e b h = same_later old new is e b ∙ h

pub shape_later : (old new : List Node) (i : ℕ) (t : TypeTree) → Extends old new → i < length old
    → shape_in old i ≡ shape_of t → shape_in new i ≡ shape_of t
shape_later old new i t e b h = e.kept i b ∙ h

-- ---- variables by the numbers of their types

-- where there is no variable
abbrev pub no_variable : Typed
no_variable = record { shape = 0; first = 0 }

pub variable_below : (n : ℕ) (vs : List Typed) (k : ℕ) → AreBelow n (shape_numbers vs) → k < length vs
    → (get_or vs k no_variable).shape < n
variable_below n [] k b l = absurd (omega arith)
variable_below n (v ∷ vs) zero b l = b 0 (omega arith)
variable_below n (v ∷ vs) (suc k) b l = variable_below n vs k (λ j m. b (suc j) (omega arith)) (omega arith)

-- a variable has a type, and the type has the variable's shape
pub variable_there : (ns : List Node) (vs : List Typed) (ts : List TypeTree) (k : ℕ)
    → HaveShapes ns (shape_numbers vs) ts → k < length vs
    → (t : TypeTree) × (slice_get ts k ≡ Some t) × (shape_in ns (get_or vs k no_variable).shape ≡ shape_of t)
variable_there ns [] ts k h l = absurd (omega arith)
variable_there ns (v ∷ vs) [] k h l =
    absurd (let z : shape_in ns v.shape ∷ map (shape_in ns) (shape_numbers vs) ≡ [] = h in cc)
variable_there ns (v ∷ vs) (t ∷ ts) zero h l =
    let z : shape_in ns v.shape ∷ map (shape_in ns) (shape_numbers vs) ≡ shape_of t ∷ map shape_of ts = h in
    (t, refl, cc)
variable_there ns (v ∷ vs) (t ∷ ts) (suc k) h l =
    let z : shape_in ns v.shape ∷ map (shape_in ns) (shape_numbers vs) ≡ shape_of t ∷ map shape_of ts = h in
    let rest : map (shape_in ns) (shape_numbers vs) ≡ map shape_of ts = cc in
    variable_there ns vs ts k rest (omega arith)
