-- The order of groups.
use Rattle.std.proofs.Common.{◌≡◌, ◌⊎◌, ℕ, ◌+◌, ◌<◌, ◌≤◌, Bool, true, not, max, List, [], ◌∷◌, ◌++◌, Option, None, inl, inr, refl, ⊎_elim, arith}
use Rattle.std.specs.Prelude.{◌&&◌, nat_le}
use Rattle.std.specs.List.{filter_map}
use Rattle.std.proofs.lemmas.Bool.{and_parts, not-true, leb-true, leb-false, le-leb, eqb-true, cases_lt}
use Rattle.nll_mir_grammar.specs.MirForms.{Form, universal, outlives, further, assert_line, struct_line, variable, blocks, block, at_point, end}
use Rattle.nll_mir_text.specs.declared.groups.Group.{Group}
use Rattle.nll_mir_text.specs.MirSaid.{Said, group, reached}
use Rattle.nll_mir_text.specs.MirSteps.{rank, has_reached}
use Rattle.nll_mir_text.specs.MirFaults.{is_in_body, is_in_order}

-- ---- what is reached

pub reached_at : (s : Said) (g : Group) → has_reached s g ≡ true → rank g ≤ s.reached
reached_at s g e = leb-true (rank g) s.reached e

pub is_reached : (s : Said) (g : Group) → rank g ≤ s.reached → has_reached s g ≡ true
is_reached s g l = le-leb (rank g) s.reached l

pub in_body : (s : Said) → is_in_body s ≡ true → (7 ≤ s.reached) × (s.reached ≤ 8)
in_body s e = grind (arith, and_parts, leb-true, leb-false, not-true)

abbrev Follows : Said → Form → Type 0
Follows s f = (s.reached ≤ group f) × (s.reached < 9)

behind : (s : Said) (f : Form) (n : ℕ) → n < 9 → group f ≡ n → nat_le s.reached (group f) ≡ true → Follows s f
behind s f n few is e =
    let l : s.reached ≤ group f = leb-true s.reached (group f) e in
    (l, omega (arith, few, is, l))

in_blocks : (s : Said) (f : Form) (b : Bool) → 8 ≤ group f → is_in_body s && b ≡ true → Follows s f
in_blocks s f b late e =
    let l = (in_body s (and_parts (is_in_body s) b e).0).1 in
    (omega (arith, l, late), omega (arith, l))

-- a `blocks` line stands in front of all blocks
pub before_blocks : (s : Said) (n : ℕ) → is_in_order s (blocks n) ≡ true → s.reached < 7
before_blocks s n e = let same : s.reached + 1 ≡ 7 = eqb-true (s.reached + 1) 7 e in omega (arith, same)

-- a line that stands in order is of no group before that reached, and the text hasn't ended
pub follows : (s : Said) (f : Form) → is_in_order s f ≡ true → Follows s f
follows s (universal a) e = behind s (universal a) 1 (omega arith) refl e
follows s (outlives a b) e = behind s (outlives a b) 2 (omega arith) refl e
follows s (further x) e = behind s (further x) 3 (omega arith) refl e
follows s (assert_line a b) e = behind s (assert_line a b) 4 (omega arith) refl e
follows s (struct_line n ps has_drop fields) e = behind s (struct_line n ps has_drop fields) 5 (omega arith) refl e
follows s (variable x t) e = behind s (variable x t) 6 (omega arith) refl e
follows s (blocks n) e = let l = before_blocks s n e in (omega (arith, l), omega (arith, l))
follows s (block n) e = in_blocks s (block n) (not s.owes) (omega arith) e
follows s (at_point i) e = in_blocks s (at_point i) s.owes (omega arith) e
follows s end e = in_blocks s end (not s.owes) (omega arith) e

-- ---- the last group that has a line

pub group_reached : (f : Form) (forms : List Form) → group f ≤ reached (f ∷ forms)
group_reached f forms = omega arith

pub reached_more : (f : Form) (forms : List Form) → reached forms ≤ reached (f ∷ forms)
reached_more f forms = omega arith

which : (m n : ℕ) → (max m n ≡ m) ⊎ (max m n ≡ n)
which m n = ⊎_elim (λ less. inr (omega (arith, less))) (λ more. inl (omega (arith, more))) (cases_lt m n)

pub of_first_or_later : (f : Form) (forms : List Form)
    → (reached (f ∷ forms) ≡ group f) ⊎ (reached (f ∷ forms) ≡ reached forms)
of_first_or_later f forms = which (group f) (reached forms)

-- behind a line of no earlier group its group is the last
pub last_push : (forms : List Form) (f : Form) → reached forms ≤ group f → reached (forms ++ f ∷ []) ≡ group f
last_push [] f h = omega arith
last_push (x ∷ forms) f h = let same = last_push forms f (omega (arith, h, reached_more x forms)) in
    omega (arith, same, h, group_reached x forms)

-- nothing is said by lines of later groups
pub none_before : {X : Type 0} (g : Form → Option X) (n : ℕ) → ((f : Form) → group f ≤ n → g f ≡ None)
    → (forms : List Form) → reached forms ≤ n → filter_map g forms ≡ []
none_before g n early [] h = refl
none_before g n early (f ∷ forms) h =
    rw (early f (omega (arith, h, group_reached f forms)))
    (none_before g n early forms (omega (arith, h, reached_more f forms)))

group_most : (f : Form) → group f ≤ 9
group_most (universal a) = omega arith
group_most (outlives a b) = omega arith
group_most (further x) = omega arith
group_most (assert_line a b) = omega arith
group_most (struct_line n ps has_drop fields) = omega arith
group_most (variable x t) = omega arith
group_most (blocks n) = omega arith
group_most (block n) = omega arith
group_most (at_point i) = omega arith
group_most end = omega arith

pub reached_most : (forms : List Form) → reached forms ≤ 9
reached_most [] = omega arith
reached_most (f ∷ forms) = omega (arith, group_most f, reached_most forms)
