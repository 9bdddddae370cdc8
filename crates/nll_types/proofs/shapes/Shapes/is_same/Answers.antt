use Rattle.std.proofs.Common.{◌≡◌, ap, List}
use Rattle.std.specs.Prelude.{ℕ, IsTrue, ◌==◌, ◌↔◌, ◌<◌, length}
use Rattle.std.proofs.lemmas.Bool.{eqb-true, eq-eqb}
use Rattle.nll_types.specs.declared.node.Node.{Node}
use Rattle.nll_types.specs.Table.{shape_in, HasOneNumber}
use Rattle.nll_types.proofs.shapes.Shapes.is_same.Goals as goal

same : (ns : List Node) → HasOneNumber ns → (a b : ℕ) → a < length ns → b < length ns
    → IsTrue (a == b) ↔ (shape_in ns a ≡ shape_in ns b)
same ns one a b p q = (λ h. ap (shape_in ns) (eqb-true a b h), λ h. eq-eqb a b (one a b p q h))

pub returns : goal.returns
returns c =
    let a = rw (← c.self.view_is) at c.requires.a in
    let b = rw (← c.self.view_is) at c.requires.b in
    rw (← c.self.view_is) (same _ c.self.invariant.one c.args.a c.args.b a b)
