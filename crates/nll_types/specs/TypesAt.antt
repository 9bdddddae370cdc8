-- What types mean where they are kept.
-- Source: project's choice.
use Rattle.std.specs.Prelude.{Option, None, Some, drop}
use Rattle.nll_types.specs.Types.{TypeTree, TypeTrees, int, parameter, reference, tuple, named}
use Rattle.nll_types.specs.Types.{function, none, more}
use Rattle.nll_types.specs.Rows.{all_filled, tree_at}
use Rattle.nll_types.specs.Table.{all_at, shapes_in}
use Rattle.nll_types.specs.declared.type_at.TypeAt.{TypeAt}
use Rattle.nll_types.specs.declared.type_at.TypesAt.{TypesAt}
use Rattle.nll_types.specs.declared.type_at.TypeForm.{TypeForm}
use Rattle.nll_types.specs.declared.type_at.TypeForm.TheVariants as forms

-- the type that is kept there
abbrev pub meant_type : TypeAt → TypeTree
meant_type v = tree_at v.types.now.table.shapes v.types.now.regions.items v.ty

-- the types that are kept there, one after another
abbrev pub meant_types : TypesAt → TypeTrees
meant_types v = (all_filled (all_at (shapes_in v.types.now.table.shapes) v.shapes.now)
    (drop v.first v.types.now.regions.items)).0

-- the type of this form, over its parts as they are kept
abbrev pub meant_form : TypeForm → TypeTree
meant_form forms.Int = int
meant_form (forms.Parameter k) = parameter k
meant_form (forms.Reference r m t) = reference r m (meant_type t)
meant_form (forms.Tuple ts) = tuple (meant_types ts)
meant_form (forms.Named s rs ts) = named s rs.now (meant_types ts)
meant_form (forms.Function ts t) = function (meant_types ts) (meant_type t)

-- no types, or the first one and the others
abbrev pub meant_split : Option (TypeAt × TypesAt) → TypeTrees
meant_split None = none
meant_split (Some p) = more (meant_type p.0) (meant_types p.1)
