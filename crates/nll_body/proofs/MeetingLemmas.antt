-- What is found of places and operands, and what is judged of two types that meet.
use Rattle.std.proofs.Common.{◌≡◌, ℕ, ◌<◌, Bool, true, false, Option, Some, None, List, length, refl, sym, ap, ◌∙◌, subst, ◌↔◌}
use Rattle.std.specs.Prelude.{◌&&◌, IsTrue, IfSome, slice_get, option_map, option_and_then, unwrap_or, nat_le, is_some}
use Rattle.std.specs.Bool.{beq}
use Rattle.nll_problem.specs.Limits.{most_nodes}
use Rattle.nll_types.specs.Types.{TypeTree, reference}
use Rattle.nll_types.specs.Structs.{Struct}
use Rattle.nll_types.specs.Operands.{reference_to}
use Rattle.nll_types.specs.Places.{PlacePath, type_of, behind_all, small_behind, small_prefixes}
use Rattle.nll_types.specs.Shapes.{Shape, shape_of, same_shape, is_small, is_small_shape, reference_shape}
use Rattle.nll_types.specs.Table.{Extends, shape_in}
use Rattle.nll_body.specs.Judging.{agree, IsJudged}
use Rattle.nll_body.specs.Found.{IsShapeFound}
use Rattle.nll_types.specs.declared.node.Node.{Node}
use Rattle.nll_body.specs.declared.judgement.Judgement.{Judgement}
use Rattle.nll_types.proofs.ShapeLemmas.{same_nodes}
use Rattle.nll_types.proofs.SameShapeLemmas.{same_shape_decides}

-- ---- what is found

pub found_later : (old new : List Node) (o : Option ℕ) (t : Option TypeTree) (f small : Bool) → Extends old new
    → IfSome o (λ s. s < length old) → IsShapeFound old o f t small → IsShapeFound new o f t small
found_later old new None t f small e b h = record { shape = h.shape; small = h.small }
found_later old new (Some s) t f small e b h = record { shape = ap Some (e.kept s b) ∙ h.shape; small = h.small }

pub place_is : (structs : List Struct) (ns : List Node) (ts : List TypeTree) (p : PlacePath) (t : TypeTree)
    (o : Option ℕ) (f : Bool) → slice_get ts p.variable ≡ Some t
    → option_map (shape_in ns) o ≡ option_map shape_of (behind_all structs p.projections t)
    → IfSome o (λ _. f ≡ small_behind structs p.projections t)
    → IsShapeFound ns o f (type_of structs ts p) (small_prefixes structs ts p)
place_is structs ns ts p t o f e same small = record {
  shape = same ∙ ap (λ (o : Option TypeTree).
      option_map shape_of (option_and_then (behind_all structs p.projections) o)) (sym e);
  small = subst (λ (z : Option TypeTree).
      IfSome o (λ _. f ≡ unwrap_or (option_map (small_behind structs p.projections) z) true)) (sym e) small;
}

pub no_reference : (ns : List Node) (t : Option TypeTree) (f small m : Bool) (r : ℕ)
    → IsShapeFound ns None f t small → IsShapeFound ns None f (reference_to r m t) small
no_reference ns None f small m r h = record { shape = refl; small = tt }
no_reference ns (Some t) f small m r h = absurd (let z = h.shape in cc)

pub small_agrees : (t : TypeTree) (s : Shape) → s ≡ shape_of t → is_small_shape s ≡ is_small t
small_agrees t s e = ap is_small_shape e ∙ sym (ap (λ (n : ℕ). nat_le n most_nodes) (same_nodes t))

pub is_none : (ns : List Node) (t : Option TypeTree) (f small : Bool) → IsShapeFound ns None f t small
    → is_some t ≡ false
is_none ns None f small h = refl
is_none ns (Some t) f small h = absurd (let z = h.shape in cc)

-- ---- what is judged

pub same_bool : (a b : Bool) → (IsTrue a → IsTrue b) → (IsTrue b → IsTrue a) → a ≡ b
same_bool true true f g = refl
same_bool true false f g = absurd (let e : false ≡ true = f refl in cc)
same_bool false true f g = absurd (let e : false ≡ true = g refl in cc)
same_bool false false f g = refl

-- the same judgement, where it is of another order
pub judged_as : {f g s t : Bool} {j : Judgement} → f ≡ g → s ≡ t → IsJudged f s j → IsJudged g t j
judged_as {f} {g} {s} {t} {j} e d h =
    record { fits = h.fits ∙ e; fits_small = h.fits_small ∙ ap (λ (z : Bool). z && s) e ∙ ap (λ (z : Bool). g && z) d }

-- ---- two types

shapes_agree : (t u : TypeTree) (s r : Shape) (same : Bool) → s ≡ shape_of t → r ≡ shape_of u → IsTrue same ↔ (s ≡ r)
    → same ≡ same_shape t u
shapes_agree t u s r same a b w =
    same_bool same (same_shape t u) (λ h. (same_shape_decides t u).1 (sym a ∙ w.0 h ∙ b))
    (λ h. w.1 (a ∙ (same_shape_decides t u).0 h ∙ sym b))

pub agree_found : (ns : List Node) (a b : ℕ) (f g : Bool) (t u : Option TypeTree) (p q same : Bool)
    → IsShapeFound ns (Some a) f t p → IsShapeFound ns (Some b) g u q
    → IsTrue same ↔ (shape_in ns a ≡ shape_in ns b) → (j : Judgement) → j.fits ≡ same
    → j.small ≡ (same && (f && g)) → IsJudged (agree t u) (p && q) j
agree_found ns a b f g None u p q same x y w j e d = absurd (let z = x.shape in cc)
agree_found ns a b f g (Some t) None p q same x y w j e d = absurd (let z = y.shape in cc)
agree_found ns a b f g (Some t) (Some u) p q same x y w j e d =
    let s : shape_in ns a ≡ shape_of t = (let z = x.shape in cc) in
    let r : shape_in ns b ≡ shape_of u = (let z = y.shape in cc) in
    let same_is = shapes_agree t u _ _ same s r w in
    record {
      fits = e ∙ same_is;
      fits_small = d ∙ ap (λ (z : Bool). z && (f && g)) same_is ∙ rw (x.small, y.small) refl;
    }

pub unfit_left : (ns : List Node) (t u : Option TypeTree) (f p : Bool) → IsShapeFound ns None f t p
    → agree t u ≡ false
unfit_left ns None u f p x = refl
unfit_left ns (Some t) u f p x = absurd (let z = x.shape in cc)

pub unfit_right : (ns : List Node) (t u : Option TypeTree) (f q : Bool) → IsShapeFound ns None f u q
    → agree t u ≡ false
unfit_right ns None u f q y = refl
unfit_right ns (Some t) None f q y = refl
unfit_right ns (Some t) (Some u) f q y = absurd (let z = y.shape in cc)

-- a type against a reference to another
pub reference_found : (ns : List Node) (a b : ℕ) (f g : Bool) (t u : Option TypeTree) (r : ℕ) (m p q fits : Bool)
    → IsShapeFound ns (Some a) f t p → IsShapeFound ns (Some b) g u q
    → IsTrue fits ↔ (reference_shape m (shape_in ns a) ≡ shape_in ns b) → (j : Judgement) → j.fits ≡ fits
    → j.small ≡ (fits && (f && g)) → IsJudged (agree (reference_to r m t) u) (p && q) j
reference_found ns a b f g None u r m p q fits x y w j e d = absurd (let z = x.shape in cc)
reference_found ns a b f g (Some t) None r m p q fits x y w j e d = absurd (let z = y.shape in cc)
reference_found ns a b f g (Some t) (Some u) r m p q fits x y w j e d =
    let s : shape_in ns a ≡ shape_of t = (let z = x.shape in cc) in
    let n : shape_in ns b ≡ shape_of u = (let z = y.shape in cc) in
    let fits_is = shapes_agree (reference r m t) u _ _ fits (ap (reference_shape m) s) n w in
    record {
      fits = e ∙ fits_is;
      fits_small = d ∙ ap (λ (z : Bool). z && (f && g)) fits_is ∙ rw (x.small, y.small) refl;
    }

pub same_reference : (s t u : Shape) (m n same : Bool) → s ≡ reference_shape n t → IsTrue same ↔ (t ≡ u)
    → IsTrue (beq n m && same) ↔ (reference_shape m u ≡ s)
same_reference s t u true true same e w = (λ h. (let z = w.0 h in cc), λ h. w.1 (let z = sym e in cc))
same_reference s t u false false same e w = (λ h. (let z = w.0 h in cc), λ h. w.1 (let z = sym e in cc))
same_reference s t u true false same e w = (λ h. absurd cc, λ h. absurd cc)
same_reference s t u false true same e w = (λ h. absurd cc, λ h. absurd cc)
