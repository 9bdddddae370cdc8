-- The regions of a type that keeps to what is declared are in range, and so are its drop regions.
use Rattle.std.proofs.Common.{◌≡◌, ℕ, ◌<◌, List, [], ◌∷◌, Some, inl, inr, ap, subst, ⊎_elim}
use Rattle.std.specs.Prelude.{option_and_then}
use Rattle.std.proofs.lemmas.Option.{slice_get_within, get_or_from_slice_get}
use Rattle.std.proofs.lemmas.List.Elements.{All-contains, All-nil, All-cons}
use Rattle.nll_types.specs.Types.{TypeTree, TypeTrees, int, parameter, reference, tuple, named, function, none, more, HasRegion, AnyHasRegion}
use Rattle.nll_types.specs.Structs.{Struct, IsWellFormed, AreWellFormed, AreInOrder}
use Rattle.nll_types.specs.Places.{behind, behind_all}
use Rattle.nll_types.specs.DropRegions.{Drops, LeadsToType, IsDropRegion}
use Rattle.nll_types.specs.declared.place.Projection.TheVariants.{Field}
use Rattle.nll_types.proofs.WellFormedLemmas.{well_formed_at, place_good}

mutual
  pub region_within : (structs : List Struct) (n : ℕ) (t : TypeTree) → IsWellFormed structs n 0 t → (r : ℕ)
      → HasRegion t r → r < n
  region_within structs n int w r h = absurd h
  region_within structs n (parameter k) w r h = absurd h
  region_within structs n (reference q m t) w r (inl h) = subst (λ x. x < n) h w.0
  region_within structs n (reference q m t) w r (inr h) = region_within structs n t w.1 r h
  region_within structs n (tuple ts) w r h = any_within structs n ts w r h
  region_within structs n (named s rs ts) w r (inl h) = All-contains (λ x. x < n) rs r w.3 h
  region_within structs n (named s rs ts) w r (inr h) = any_within structs n ts w.4 r h
  region_within structs n (function ts t) w r (inl h) = any_within structs n ts w.0 r h
  region_within structs n (function ts t) w r (inr h) = region_within structs n t w.1 r h

  any_within : (structs : List Struct) (n : ℕ) (ts : TypeTrees) → AreWellFormed structs n 0 ts → (r : ℕ)
      → AnyHasRegion ts r → r < n
  any_within structs n none w r h = absurd h
  any_within structs n (more t ts) w r (inl h) = region_within structs n t w.0 r h
  any_within structs n (more t ts) w r (inr h) = any_within structs n ts w.1 r h

module _ (structs : List Struct) (order : AreInOrder structs) (n : ℕ) (some : 0 < n) where
  pub part_good : (t u : TypeTree) (k : ℕ) → IsWellFormed structs n 0 t → behind structs (Field k) t ≡ Some u
      → IsWellFormed structs n 0 u
  part_good t u k w h =
      place_good structs order n 0 some (t ∷ [])
      (All-cons (IsWellFormed structs n 0) t [] w (All-nil (IsWellFormed structs n 0)))
      (record { variable = 0; projections = Field k ∷ [] }) u (ap (option_and_then (behind_all structs [])) h)

  drops_good : (t u : TypeTree) → IsWellFormed structs n 0 t → Drops structs t u → IsWellFormed structs n 0 u
  drops_good int u w h = absurd h
  drops_good (parameter k) u w h = absurd h
  drops_good (reference r m t) u w h = absurd h
  drops_good (function ts t) u w h = absurd h
  drops_good (tuple ts) u w h = part_good (tuple ts) u h.0 w h.1
  drops_good (named s rs ts) u w h = part_good (named s rs ts) u h.0 w h.1

  leads_good : (t : TypeTree) (way : List TypeTree) (u : TypeTree) → IsWellFormed structs n 0 t
      → LeadsToType structs t way u → IsWellFormed structs n 0 u
  leads_good t [] u w h = subst (IsWellFormed structs n 0) h w
  leads_good t (next ∷ way) u w h = leads_good next way u (drops_good t next w h.0) h.1

  pub drop_region_within : (t : TypeTree) → IsWellFormed structs n 0 t → (r : ℕ) → IsDropRegion structs t r → r < n
  drop_region_within t w r h =
      let good = leads_good t h.0 (named h.1 h.2 h.3) w h.4 in
      ⊎_elim
      (λ own. subst (λ x. x < n) (get_or_from_slice_get h.2 own.0 r r own.1)
      (good.3 own.0 r (slice_get_within h.2 own.0 r own.1)))
      (λ own. region_within structs n own.1 (well_formed_at structs n 0 h.3 own.0 own.1 good.4 own.2) r own.4)
      h.5.1
