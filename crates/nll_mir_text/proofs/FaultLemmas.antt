-- A line without a fault has none of each kind.
use Rattle.std.proofs.Common.{◌≡◌, Bool, true, false, cond, List, [], ◌∷◌, Option, Some, None, refl}
use Rattle.std.specs.Prelude.{find}
use Rattle.std.specs.List.{AllByRecursion}
use Rattle.nll_problem.specs.declared.error.Kind.TheVariants.{Points, Edges, Universals, Regions, Variables, Structs}
use Rattle.nll_format.specs.Kinds.{kinds}
use Rattle.nll_format.specs.declared.error.TextKind.TheVariants.{Syntax, Unknown, Duplicate, Range, Shape, TypeSize, Limit}
use Rattle.nll_mir_grammar.specs.MirForms.{Form}
use Rattle.nll_mir_text.specs.MirSaid.{Said}
use Rattle.nll_mir_text.specs.MirFaults.{has_fault, first_fault}

here : {A : Type 0} (b : Bool) (x : A) (o : Option A) → cond b (Some x) o ≡ None → b ≡ false
here true x o e = absurd cc
here false x o e = refl

past : {A : Type 0} (b : Bool) (x : A) (o : Option A) → cond b (Some x) o ≡ None → o ≡ None
past true x o e = absurd cc
past false x o e = e

nothing_found : {A : Type 0} (p : A → Bool) (xs : List A) → find p xs ≡ None → AllByRecursion (λ x. p x ≡ false) xs
nothing_found p [] e = tt
nothing_found p (x ∷ xs) e = (here (p x) x (find p xs) e, nothing_found p xs (past (p x) x (find p xs) e))

-- The line has no fault of any kind that a line of a form can have.
pub record HasNone (s : Said) (f : Form) : Type 0 where
  pub syntax' : has_fault s f Syntax ≡ false
  pub unknown : has_fault s f Unknown ≡ false
  pub duplicate : has_fault s f Duplicate ≡ false
  pub range : has_fault s f Range ≡ false
  pub shape : has_fault s f Shape ≡ false
  pub size : has_fault s f TypeSize ≡ false
  pub points : has_fault s f (Limit Points) ≡ false
  pub edges : has_fault s f (Limit Edges) ≡ false
  pub universals : has_fault s f (Limit Universals) ≡ false
  pub regions : has_fault s f (Limit Regions) ≡ false
  pub variables : has_fault s f (Limit Variables) ≡ false
  pub structs : has_fault s f (Limit Structs) ≡ false

pub faultless : (s : Said) (f : Form) → first_fault s f ≡ None → HasNone s f
faultless s f e =
    let no = nothing_found (has_fault s f) kinds e in
    record {
      syntax' = no.1.1.0;
      unknown = no.1.1.1.0;
      duplicate = no.1.1.1.1.0;
      range = no.1.1.1.1.1.0;
      shape = no.1.1.1.1.1.1.0;
      size = no.1.1.1.1.1.1.1.0;
      points = no.1.1.1.1.1.1.1.1.1.0;
      edges = no.1.1.1.1.1.1.1.1.1.1.0;
      universals = no.1.1.1.1.1.1.1.1.1.1.1.0;
      regions = no.1.1.1.1.1.1.1.1.1.1.1.1.0;
      variables = no.1.1.1.1.1.1.1.1.1.1.1.1.1.1.0;
      structs = no.1.1.1.1.1.1.1.1.1.1.1.1.1.1.1.0;
    }
