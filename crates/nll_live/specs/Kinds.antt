-- What keeps a variable live, and what it asks for there: a use or a drop. Source: RFC 2094,
-- "Liveness" and "Drop". Only private contracts cite this file.
use Rattle.std.specs.Prelude.{ℕ}
use Rattle.nll_types.specs.Types.{TypeTree, HasRegion}
use Rattle.nll_types.specs.DropRegions.{IsDropRegion}
use Rattle.nll_body.specs.Bodies.{BodyText, HasType}
use Rattle.nll_live.specs.Live.{DropsAt, IsLive, UsesAt}
use Rattle.nll_live.specs.declared.kind.Kind.{Kind}
use Rattle.nll_live.specs.declared.kind.Kind.TheVariants.{Use, Drop}

-- the point p uses x, or drops it
abbrev pub KeepsAt : Kind → BodyText → ℕ → ℕ → Type 0
KeepsAt Use body x p = UsesAt body x p
KeepsAt Drop body x p = DropsAt body x p

-- r occurs in the type, or is a drop region of it
abbrev pub IsWantedOfType : Kind → BodyText → TypeTree → ℕ → Type 0
IsWantedOfType Use body t r = HasRegion t r
IsWantedOfType Drop body t r = IsDropRegion body.structs t r

-- x is live at p, by uses or by drops, and asks for r there
abbrev pub AsksFor : Kind → BodyText → ℕ → ℕ → ℕ → Type 0
AsksFor kind body x r p =
    (t : TypeTree) × HasType body x t × IsLive body (KeepsAt kind body x) x p
    × IsWantedOfType kind body t r
