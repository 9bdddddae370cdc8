use Rattle.std.proofs.Common.{◌≡◌, ℕ, ◌<◌, ◌≤◌, length, map, get_or}
use Rattle.nll_owner.specs.Keeping.{OwnerGrows}
use Rattle.nll_owner.specs.Following.{HasCaughtUp, IsLinkBehind, link_shape}
use Rattle.nll_owner.specs.declared.link.Link.{Link}
use Rattle.nll_owner.proofs.link.advance_all.Given as goal

-- The links before the number were handed the first runs, and those behind it are due them.
abbrev pub invariant-loop-number : goal.invariant-loop-number
invariant-loop-number l = record {
  grows : OwnerGrows l.fn.knowledge l.knowledge;
  same : map link_shape l.row.items ≡ map link_shape l.fn.row.items;
  done : (k : ℕ) (x : Link) → k < l.number → get_or l.row.items k x ≡ x → HasCaughtUp l.knowledge l.due x;
  left : (k : ℕ) (x : Link) → l.number ≤ k → k < length l.row.items → get_or l.row.items k x ≡ x
      → IsLinkBehind l.knowledge l.due x;
}
