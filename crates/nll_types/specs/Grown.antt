-- The types of a body while it is read.
-- Source: project's choice.
use Rattle.nll_sets.specs.Prefix.{IsPrefix}
use Rattle.nll_types.specs.Tables.{AddsShapes}
use Rattle.nll_types.specs.declared.body_types.BodyTypes.{BodyTypes}

-- The types have what they had: so has their table, and their list of regions goes on from what it
-- was.
pub record AddsTypes (old new : BodyTypes) : Type 0 where
  pub table : AddsShapes old.table new.table
  pub regions : IsPrefix old.regions.items new.regions.items
