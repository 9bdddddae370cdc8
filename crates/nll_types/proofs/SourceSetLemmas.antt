-- Sources in a set of them.
use Rattle.std.proofs.Common.{◌≡◌, ◌⊎◌, ◌↔◌, Bool, true, false, zero, suc, List, [], ◌∷◌, ◌++◌, Contains, arith, refl, ap, subst, inl, ⊎_elim}
use Rattle.std.specs.List.{list_any}
use Rattle.std.proofs.lemmas.Bool.{cases_Bool, eqb-true, eq-eqb}
use Rattle.std.proofs.lemmas.List.Elements.{Contains-append_left, Contains-push, Contains-push_cases}
use Rattle.indexmap.specs.IndexSet.{insert_key}
use Rattle.indexmap.proofs.CallerLemmas.{Contains-list_any}
use Rattle.nll_types.specs.declared.source.Source.{Source}
use Rattle.nll_types.specs.declared.source.Source.TheVariants.{Region, AnyOf, DropOf}
use Rattle.nll_types.specs.contracts.source.SourcePartialEq.TheImpl as derived

pub same_source : (x y : Source) → (derived.eq-value).it x y ≡ true → x ≡ y
same_source (Region a) (Region b) h = ap Region (eqb-true a b h)
same_source (Region a) (AnyOf b) h = absurd (let e : false ≡ true = h in cc)
same_source (Region a) (DropOf b) h = absurd (let e : false ≡ true = h in cc)
same_source (AnyOf a) (Region b) h = absurd (let e : false ≡ true = h in cc)
same_source (AnyOf a) (AnyOf b) h = ap AnyOf (eqb-true a b h)
same_source (AnyOf a) (DropOf b) h = absurd (let e : false ≡ true = h in cc)
same_source (DropOf a) (Region b) h = absurd (let e : false ≡ true = h in cc)
same_source (DropOf a) (AnyOf b) h = absurd (let e : false ≡ true = h in cc)
same_source (DropOf a) (DropOf b) h = ap DropOf (eqb-true a b h)

pub eq_source : (x : Source) → (derived.eq-value).it x x ≡ true
eq_source (Region a) = eq-eqb a a refl
eq_source (AnyOf a) = eq-eqb a a refl
eq_source (DropOf a) = eq-eqb a a refl

-- a source that is inserted is there, and so is each that was there
pub contains_inserted : (ks : List Source) (new x : Source)
    → Contains (insert_key (derived.eq-value).it ks new) x ↔ (Contains ks x ⊎ (new ≡ x))
contains_inserted ks new x = by (list_any ((derived.eq-value).it new) ks) refl
  where
    by : (b : Bool) → list_any ((derived.eq-value).it new) ks ≡ b
        → Contains (insert_key (derived.eq-value).it ks new) x ↔ (Contains ks x ⊎ (new ≡ x))
    by true e =
        rw e (
          inl,
          ⊎_elim (λ h. h) (λ s. subst (Contains ks) s
              (Contains-list_any (derived.eq-value).it same_source ks new e)),
        )
    by false e =
        rw e (
          Contains-push_cases ks new x,
          ⊎_elim (Contains-append_left ks (new ∷ []) x)
              (λ s. subst (Contains (ks ++ new ∷ [])) s (Contains-push ks new)),
        )

found_source : (ks : List Source) (x : Source) → Contains ks x → list_any ((derived.eq-value).it x) ks ≡ true
found_source [] x c = absurd (omega (arith, c.1))
found_source (y ∷ ys) x (zero, l, e) = rw (e, eq_source x)
found_source (y ∷ ys) x (suc k, l, e) = ⊎_elim
    (λ h. rw h)
    (λ h. rw h (found_source ys x (k, omega arith, e)))
    (cases_Bool ((derived.eq-value).it x y))

-- a search finds just the sources that are there
pub contains_found : (ks : List Source) (x : Source) → (list_any ((derived.eq-value).it x) ks ≡ true) ↔ Contains ks x
contains_found ks x = (Contains-list_any (derived.eq-value).it same_source ks x, found_source ks x)
