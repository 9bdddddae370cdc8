use Rattle.std.proofs.Common.{◌≡◌, ◌≤◌, length, map, take, vec_len, vec_capacity}
use Rattle.nll_types.specs.Views.{tree}
use Rattle.nll_types.proofs.copies.+copies.Given as goal

abbrev pub invariant-copy_all-loop-ty : goal.invariant-copy_all-loop-ty
invariant-copy_all-loop-ty l = (map tree l.copies.items ≡ map tree (take l.ty-index l.types))
    × (vec_len l.copies ≡ l.ty-index) × (length l.types ≤ vec_capacity l.copies)
