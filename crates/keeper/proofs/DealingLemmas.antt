-- What the lists for other owners have.
use Rattle.std.proofs.Common.{◌≡◌, ℕ, ◌+◌, ◌<◌, Bool, true, false, cond, List, [], ◌∷◌, ◌++◌, length, take, get_or, ap, subst, ⊎_elim, arith, append-nil}
use Rattle.std.proofs.lemmas.Bool.{cases_eq}
use Rattle.std.proofs.lemmas.List.{get_or-set_same, get_or-set_other, length-set}
use Rattle.std.proofs.Math.Seq.{take-append_seam}
use Rattle.fixpoint.specs.Rules.{Rules}
use Rattle.fixpoint.specs.Logs.{part}
use Rattle.keeper.specs.Keeping.{AreDealt, AreParts, with_heard}

module _ {A F G : Type 0} (rules : Rules A F G) (a : A) (g : G) where
  part_one : (j : ℕ) (b : Bool) → rules.reads a j (rules.fact g) ≡ b → part rules a j (g ∷ []) ≡ cond b (g ∷ []) []
  part_one j b is = ap (λ t. cond t (g ∷ []) []) is

  module _ (old new : List (List G)) (i : ℕ) (dealt : AreDealt rules a g i old new) (low : i < length
      old) where
    -- owner i reads the growth and gets it
    pub dealt_push : rules.reads a i (rules.fact g) ≡ true → AreDealt rules a g (i + 1) old (with_heard new i g)
    dealt_push reads = grind (arith, length-set, get_or, ⊎_elim, get_or-set_same, part_one, get_or-set_other, cases_eq)

    -- owner i doesn't read it
    pub dealt_pass : rules.reads a i (rules.fact g) ≡ false → AreDealt rules a g (i + 1) old new
    dealt_pass reads = grind (arith, ⊎_elim, get_or, append-nil, part_one, cases_eq)

module _ {A F G : Type 0} (rules : Rules A F G) (b a : A) (system : a ≡ b) (lists : List (List G)) where
  -- what the lists had of the log they have of the beginning of a longer one
  pub parts_front : (old log rest : List G) (place : ℕ) → log ≡ old ++ rest → place ≡ length old
      → AreParts rules b old lists → AreParts rules a (take place log) lists
  parts_front old log rest place more all parts = grind (arith, take-append_seam)

  pub parts_same : (log : List G) → AreParts rules a log lists → AreParts rules b log lists
  parts_same log parts = subst (λ x. AreParts rules x log lists) system parts
