use Rattle.std.proofs.Common.{◌≡◌, ◌≤◌, length, map, take, vec_len, vec_capacity}
use Rattle.nll_types.specs.Structs.{put_in}
use Rattle.nll_types.specs.Views.{tree, trees}
use Rattle.nll_types.proofs.substitution.+substitution.Given as goal

abbrev pub invariant-put_in_all-loop-part : goal.invariant-put_in_all-loop-part
invariant-put_in_all-loop-part l =
    (map tree l.put.items ≡ map (λ t. put_in l.regions (trees l.types) (tree t)) (take l.part-index l.parts))
    × (vec_len l.put ≡ l.part-index) × (length l.parts ≤ vec_capacity l.put)
