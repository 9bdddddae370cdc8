-- What is remembered of parts and fields stays right.
use Rattle.std.proofs.Common.{◌≡◌, ℕ, ◌<◌, Bool, true, false, List, [], ◌∷◌, ◌++◌, length, Contains, refl, sym, ap, ◌∙◌, subst, arith, Some, None, ⊎_elim}
use Rattle.std.specs.Prelude.{◌&&◌, Option, IfSome}
use Rattle.std.proofs.lemmas.Bool.{eqb-true}
use Rattle.std.proofs.lemmas.Map.Views.{Contains-from_lookup}
use Rattle.std.specs.Map.{lookup}
use Rattle.std.proofs.lemmas.List.Elements.{Contains-push_cases}
use Rattle.nll_types.specs.Structs.{Struct}
use Rattle.nll_types.specs.Shapes.{behind_shape}
use Rattle.nll_types.specs.Table.{Extends, shape_in}
use Rattle.nll_types.specs.Memo.{AreRemembered}
use Rattle.nll_types.specs.declared.node.Node.{Node}
use Rattle.nll_types.specs.declared.type_table.FieldUse.{FieldUse}
use Rattle.nll_types.specs.declared.place.Projection.TheVariants.{Field}
use Rattle.nll_types.specs.contracts.type_table.FieldUsePartialEq.TheImpl as derived

and_true : (a b : Bool) → (a && b) ≡ true → (a ≡ true) × (b ≡ true)
and_true true b h = (refl, h)
and_true false b h = absurd (let e : false ≡ true = h in cc)

pub same_use : (x y : FieldUse) → (derived.eq-value).it x y ≡ true → x ≡ y
same_use x y h = grind (arith, and_true, eqb-true)

-- also where the table has grown
pub remembered_stay : (structs : List Struct) (old new : List Node) (fields : List (FieldUse × ℕ))
    → AreRemembered structs old fields → Extends old new → AreRemembered structs new fields
remembered_stay structs old new fields r e = record {
  each = λ x v c.
      let h = r.each x v c in
      let l = e.longer in
      let a : x.shape < length old = h.0 in
      let b : v < length old = h.1 in (
        omega arith,
        omega arith,
        ap Some (e.kept v b) ∙ h.2
            ∙ ap (behind_shape structs (Field x.place)) (sym (e.kept x.shape a)),
      );
}

pub remembered_more : (structs : List Struct) (old new : List Node) (fields : List (FieldUse × ℕ)) (x : FieldUse)
    (v : ℕ) → AreRemembered structs old fields → Extends old new → x.shape < length old → v < length new
    → Some (shape_in new v) ≡ behind_shape structs (Field x.place) (shape_in old x.shape)
    → AreRemembered structs new (fields ++ (x, v) ∷ [])
remembered_more structs old new fields x v r e a b is = record {
  each = λ y w c. ⊎_elim
      (λ c. (remembered_stay structs old new fields r e).each y w c)
      (λ s. let sx : x ≡ y = ap (λ (p : FieldUse × ℕ). p.0) s in
      let sv : v ≡ w = ap (λ (p : FieldUse × ℕ). p.1) s in
      let l = e.longer in
      let here : (x.shape < length new) × (v < length new)
      × (Some (shape_in new v) ≡ behind_shape structs (Field x.place) (shape_in new x.shape)) =
      (omega arith, b, is ∙ ap (behind_shape structs (Field x.place)) (sym (e.kept x.shape a))) in
      subst (λ (z : ℕ). (y.shape < length new) × (z < length new)
      × (Some (shape_in new z) ≡ behind_shape structs (Field y.place) (shape_in new y.shape))) sv
      (subst (λ (z : FieldUse). (z.shape < length new) × (v < length new)
      × (Some (shape_in new v) ≡ behind_shape structs (Field z.place) (shape_in new z.shape))) sx here))
      (Contains-push_cases fields (x, v) (y, w) c);
}

pub found_entry : (es : List (FieldUse × ℕ)) (x : FieldUse) (o : Option ℕ) → o ≡ lookup ((derived.eq-value).it x) es
    → IfSome o (λ v. Contains es (x, v))
found_entry es x None e = tt
found_entry es x (Some v) e = Contains-from_lookup same_use x v es (sym e)
