-- A type of the code as a tree: what it says, without where it lies in memory.
use Rattle.std.specs.Prelude.{List, [], ◌∷◌, map}
use Rattle.nll_types.specs.Types.{TypeTree, TypeTrees, int, parameter, reference, tuple, named}
use Rattle.nll_types.specs.Types.{function, none, more}
use Rattle.nll_types.specs.declared.ty.Ty.{Ty}
use Rattle.nll_types.specs.declared.ty.Ty.TheOpen.{Ty-F, Int, Parameter, Reference, Tuple, Named}
use Rattle.nll_types.specs.declared.ty.Ty.TheOpen.{Function}
use Rattle.nll_types.specs.declared.ty.Ty.TheFolds.{fold-Ty}

-- a list of trees as a row
abbrev pub row_of_trees : List TypeTree → TypeTrees
row_of_trees [] = none
row_of_trees (t ∷ ts) = more t (row_of_trees ts)

-- one layer of a type, over its parts as trees
abbrev pub layer : Ty-F TypeTree → TypeTree
layer Int = int
layer (Parameter k) = parameter k
layer (Reference r m b) = reference r m b.value
layer (Tuple parts) = tuple (row_of_trees parts.items)
layer (Named s rs ts) = named s rs.items (row_of_trees ts.items)
layer (Function ts b) = function (row_of_trees ts.items) b.value

-- the type as a tree
abbrev pub tree : Ty → TypeTree
tree = fold-Ty TypeTree layer

-- the types as a row of trees
abbrev pub trees : List Ty → TypeTrees
trees ts = row_of_trees (map tree ts)
