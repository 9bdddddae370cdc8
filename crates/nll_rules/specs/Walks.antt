-- How the code finds the references on which a reborrow rests.
-- Source: project's choice. Only private contracts cite this file.
use Rattle.std.specs.Prelude.{ℕ, Bool, true, false, List, [], ◌∷◌, ◌++◌, option_map, unwrap_or}
use Rattle.nll_types.specs.Types.{TypeTree, reference}
use Rattle.nll_types.specs.Structs.{Struct}
use Rattle.nll_types.specs.Places.{behind}
use Rattle.nll_types.specs.declared.place.Projection.{Projection}
use Rattle.nll_types.specs.declared.place.Projection.TheVariants.{Deref}

-- the regions behind a reference of this region: behind a shared one it alone is left
abbrev pub cross : ℕ → Bool → List ℕ → List ℕ
cross a true regions = regions ++ a ∷ []
cross a false regions = a ∷ []

-- the regions behind a projection from a type
abbrev pub past : Projection → TypeTree → List ℕ → List ℕ
past Deref (reference a m t) regions = cross a m regions
past _ t regions = regions

-- the regions behind all projections from a type, as far as there are types, one after another
abbrev pub rests : List Struct → List Projection → TypeTree → List ℕ → List ℕ
rests structs [] t regions = regions
rests structs (p ∷ ps) t regions = unwrap_or
    (option_map (λ u. rests structs ps u (past p t regions)) (behind structs p t))
    (past p t regions)
