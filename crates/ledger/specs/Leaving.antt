-- How a share left, by cases.
-- Source: project's choice.
use Rattle.std.specs.Prelude.{⊤}
use Rattle.ledger.specs.declared.ledger.Leave.{Leave}
use Rattle.ledger.specs.declared.ledger.Leave.TheVariants.{Quiet, Stopped, Open}

module _ {L S : Type 0} where
  -- if the share left on quiet, what is left of it is as said
  abbrev pub IfQuiet : Leave L S → (L → Type 0) → Type 0
  IfQuiet (Quiet left) Says = Says left
  IfQuiet (Stopped left) Says = ⊤
  IfQuiet (Open share) Says = ⊤

  -- if it left since all are to stop, what is left of it is as said
  abbrev pub IfStopped : Leave L S → (L → Type 0) → Type 0
  IfStopped (Quiet left) Says = ⊤
  IfStopped (Stopped left) Says = Says left
  IfStopped (Open share) Says = ⊤

  -- if it left, on quiet or since all are to stop, what is left of it is as said
  abbrev pub IfLeft : Leave L S → (L → Type 0) → Type 0
  IfLeft (Quiet left) Says = Says left
  IfLeft (Stopped left) Says = Says left
  IfLeft (Open share) Says = ⊤

  -- if it may not leave yet, the share that comes back is as said
  abbrev pub IfOpen : Leave L S → (S → Type 0) → Type 0
  IfOpen (Quiet left) Says = ⊤
  IfOpen (Stopped left) Says = ⊤
  IfOpen (Open share) Says = Says share
