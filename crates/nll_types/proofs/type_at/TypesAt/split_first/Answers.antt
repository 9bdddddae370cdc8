use Rattle.std.proofs.Common.{ℕ, suc, List, [], ◌∷◌, drop, arith}
use Rattle.std.proofs.lemmas.List.{take_rest}
use Rattle.nll_types.specs.Table.{AreBelow}
use Rattle.nll_types.proofs.type_at.TypesAt.split_first.Goals as goal

later_below : (n : ℕ) (xs : List ℕ) → AreBelow n xs → AreBelow n (drop 1 xs)
later_below n [] h k l = absurd (omega arith)
later_below n (x ∷ xs) h k l = h (suc k) (omega arith)

pub invariant_of-others : goal.invariant_of-others
invariant_of-others c = record {
  within = rw (take_rest c.args.self.shapes.now 1)
      (later_below _ c.args.self.shapes.now c.args.self.within);
}
