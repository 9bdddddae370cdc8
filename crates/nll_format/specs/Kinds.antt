-- The kinds of fault of a text, in the order in which they are reported. Source: project's choice;
-- docs/FORMATS.md has the table.
use Rattle.std.specs.Prelude.{List, [], ◌∷◌}
use Rattle.nll_problem.specs.declared.error.Kind.TheVariants.{Text, Points, Edges, Universals}
use Rattle.nll_problem.specs.declared.error.Kind.TheVariants.{Regions, Constraints, Variables}
use Rattle.nll_problem.specs.declared.error.Kind.TheVariants.{Structs}
use Rattle.nll_format.specs.declared.error.TextKind.{TextKind}
use Rattle.nll_problem.specs.declared.error.BuildError.{BuildError}
use Rattle.nll_problem.specs.declared.error.BuildError.TheVariants as build
use Rattle.nll_format.specs.declared.error.TextKind.TheVariants.{NotUtf8, Header, Syntax, Unknown}
use Rattle.nll_format.specs.declared.error.TextKind.TheVariants.{Duplicate, Range, Shape, TypeSize}
use Rattle.nll_format.specs.declared.error.TextKind.TheVariants.{Limit, End, Memory}

-- all kinds that a text can have, in the order in which they are reported
abbrev pub kinds : List TextKind
kinds =
    NotUtf8 ∷ Header ∷ Syntax ∷ Unknown ∷ Duplicate ∷ Range ∷ Shape ∷ TypeSize
    ∷ Limit Text ∷ Limit Points ∷ Limit Edges ∷ Limit Universals ∷ Limit Regions
    ∷ Limit Constraints ∷ Limit Variables ∷ Limit Structs ∷ End ∷ []

-- the kind for an error of the builder, whose regions come from names
abbrev pub kind_of : BuildError → TextKind
kind_of build.PointRange = Range
kind_of build.RegionRange = Unknown
kind_of (build.Limit what) = Limit what
kind_of build.Memory = Memory
