-- Types as lists of steps that build them, by which antt distinguishes two types. Source: project's
-- choice. Only what contracts see of a body cites this file.
use Rattle.std.specs.Prelude.{◌≡◌, ℕ, Bool, List, [], ◌∷◌}
use Rattle.std.proofs.Common.{refl, ap, ◌∙◌}
use Rattle.std.specs.Coded.{Coded, code_by, coded_list}
use Rattle.nll_types.specs.Types.{TypeTree, TypeTrees, int, parameter, reference, tuple, named}
use Rattle.nll_types.specs.Types.{function, none, more}

-- A step makes a type or a row of types, of those that were made last.
pub data Step : Type 0 where
  make_int : Step
  make_parameter : ℕ → Step
  make_reference : ℕ → Bool → Step
  make_tuple : Step
  make_named : ℕ → List ℕ → Step
  make_function : Step
  make_none : Step
  make_more : Step

-- what is made so far, the newest first: types, and rows of types
abbrev pub Made : Type 0
Made = List TypeTree × List TypeTrees

-- the steps that make a type, and then others
abbrev mutual
  pub steps : TypeTree → List Step → List Step
  steps int rest = make_int ∷ rest
  steps (parameter k) rest = make_parameter k ∷ rest
  steps (reference r m t) rest = steps t (make_reference r m ∷ rest)
  steps (tuple ts) rest = steps_all ts (make_tuple ∷ rest)
  steps (named s rs ts) rest = steps_all ts (make_named s rs ∷ rest)
  steps (function ts t) rest = steps_all ts (steps t (make_function ∷ rest))

  pub steps_all : TypeTrees → List Step → List Step
  steps_all none rest = make_none ∷ rest
  steps_all (more t ts) rest = steps t (steps_all ts (make_more ∷ rest))

-- the newest type; an `int` where there is none
abbrev pub top : List TypeTree → TypeTree
top [] = int
top (t ∷ xs) = t

-- the newest row of types; an empty one where there is none
abbrev pub top_row : List TypeTrees → TypeTrees
top_row [] = none
top_row (ts ∷ ys) = ts

-- what lies below the newest
abbrev pub below : {X : Type 0} → List X → List X
below [] = []
below (x ∷ xs) = xs

-- what is made after a step
abbrev pub after : Step → Made → Made
after make_int m = (int ∷ m.0, m.1)
after (make_parameter k) m = (parameter k ∷ m.0, m.1)
after (make_reference r b) m = (reference r b (top m.0) ∷ below m.0, m.1)
after make_tuple m = (tuple (top_row m.1) ∷ m.0, below m.1)
after (make_named s rs) m = (named s rs (top_row m.1) ∷ m.0, below m.1)
after make_function m = (function (top_row m.1) (top m.0) ∷ below m.0, below m.1)
after make_none m = (m.0, none ∷ m.1)
after make_more m = (below m.0, more (top m.0) (top_row m.1) ∷ below m.1)

-- what is made after steps
abbrev pub run : List Step → Made → Made
run [] m = m
run (k ∷ ks) m = run ks (after k m)

mutual
  -- the steps of a type make it
  pub run_steps : (t : TypeTree) (rest : List Step) (xs : List TypeTree) (ys : List TypeTrees)
      → run (steps t rest) (xs, ys) ≡ run rest (t ∷ xs, ys)
  run_steps int rest xs ys = refl
  run_steps (parameter k) rest xs ys = refl
  run_steps (reference r m t) rest xs ys = run_steps t (make_reference r m ∷ rest) xs ys
  run_steps (tuple ts) rest xs ys = run_steps_all ts (make_tuple ∷ rest) xs ys
  run_steps (named s rs ts) rest xs ys = run_steps_all ts (make_named s rs ∷ rest) xs ys
  run_steps (function ts t) rest xs ys =
      run_steps_all ts (steps t (make_function ∷ rest)) xs ys
      ∙ run_steps t (make_function ∷ rest) xs (ts ∷ ys)

  -- the steps of types in a row make the row
  pub run_steps_all : (ts : TypeTrees) (rest : List Step) (xs : List TypeTree)
      (ys : List TypeTrees) → run (steps_all ts rest) (xs, ys) ≡ run rest (xs, ts ∷ ys)
  run_steps_all none rest xs ys = refl
  run_steps_all (more t ts) rest xs ys =
      run_steps t (steps_all ts (make_more ∷ rest)) xs ys
      ∙ run_steps_all ts (make_more ∷ rest) (t ∷ xs) ys

-- a type is stored as its steps, where steps can be stored
abbrev pub tree_code : Coded Step → Coded TypeTree
tree_code step = code_by (List Step) (coded_list step) (λ t. steps t [])
    (λ ks. top (run ks ([], [])).0) (λ t. ap (λ (m : Made). top m.0) (run_steps t [] [] []))

-- and a row of types is
abbrev pub trees_code : Coded Step → Coded TypeTrees
trees_code step = code_by (List Step) (coded_list step) (λ ts. steps_all ts [])
    (λ ks. top_row (run ks ([], [])).1)
    (λ ts. ap (λ (m : Made). top_row m.1) (run_steps_all ts [] [] []))
