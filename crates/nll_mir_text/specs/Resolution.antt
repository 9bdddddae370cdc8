-- What it means that a written type is resolved.
-- Source: project's choice.
use Rattle.std.specs.Prelude.{◌≡◌, ◌<◌, ◌^◌, true, length, map}
use Rattle.nll_types.specs.Rows.{IsTyped}
use Rattle.nll_types.specs.declared.body_types.BodyTypes.{BodyTypes}
use Rattle.nll_types.specs.declared.typed.Typed.{Typed}
use Rattle.nll_mir_grammar.specs.WrittenTypes.{WrittenType}
use Rattle.nll_mir_text.specs.Naming.{Scope, meant, is_known}
use Rattle.nll_mir_text.specs.declared.scope.Scope.{Scope as Kept}

-- the code's scope, without where its tables lie in memory
abbrev pub scope_of : Kept → Scope
scope_of s = record {
  regions = s.regions.now;
  parameters = s.parameters.now;
  structs = s.structs.now;
  kinds = map (λ ks. ks.items) s.kinds.now;
}

-- the regions' numbers have room in 32 bits
abbrev pub HasRoom : Kept → Type 0
HasRoom s = length s.regions.now < 2 ^ 32

-- Each name in the written type is known, and the shape and the row are those of the type that it
-- means.
pub record IsResolved (s : Scope) (t : WrittenType) (types : BodyTypes) (v : Typed) : Type 0 where
  pub known : is_known s t ≡ true
  pub typed : IsTyped types.table.shapes types.regions.items v (meant s t)
