-- The tables that an owner has. Only private contracts cite this file.
use Rattle.nll_owner.specs.Tables.{OwnerTables}
use Rattle.nll_owner.specs.declared.tables.HeldTables.{HeldTables}
use Rattle.nll_owner.specs.declared.tables.HeldTables.TheVariants.{Own, Lent}

-- the tables, its own or borrowed ones
abbrev pub held : HeldTables → OwnerTables
held (Own tables) = tables
held (Lent tables) = tables.now
