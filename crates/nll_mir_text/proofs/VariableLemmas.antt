-- The first fault of a line that declares a variable.
use Rattle.std.proofs.Common.{◌≡◌, ℕ, ◌<◌, ◌≤◌, true, false, Some, None, length, refl}
use Rattle.std.specs.Prelude.{◌==◌}
use Rattle.std.proofs.lemmas.Bool.{le-leb, lt-leb, ne_eqb}
use Rattle.nll_problem.specs.Limits.{most_variables}
use Rattle.nll_problem.specs.declared.error.Kind.TheVariants.{Variables}
use Rattle.nll_format.specs.declared.error.TextKind.TheVariants.{Unknown, Range, Shape, TypeSize, Limit}
use Rattle.nll_types.specs.Shapes.{is_small}
use Rattle.nll_mir_grammar.specs.WrittenTypes.{WrittenType}
use Rattle.nll_mir_grammar.specs.MirForms.{variable}
use Rattle.nll_mir_text.specs.Naming.{is_known, has_arguments, meant}
use Rattle.nll_mir_text.specs.MirSaid.{Said}
use Rattle.nll_mir_text.specs.MirFaults.{is_in_order, first_fault}

module _ (s : Said) (x : ℕ) (t : WrittenType) (order : is_in_order s (variable x t) ≡ true) where
  pub type_unknown : is_known s.scope t ≡ false → first_fault s (variable x t) ≡ Some Unknown
  type_unknown known = rw (order, known) refl

  module _ (known : is_known s.scope t ≡ true) where
    pub other_variable : (x == length s.variables) ≡ false → first_fault s (variable x t) ≡ Some Range
    other_variable next = rw (order, known, next) refl

    pub other_number : (x ≡ length s.variables → ⊥) → first_fault s (variable x t) ≡ Some Range
    other_number other = other_variable (ne_eqb x (length s.variables) other)

    module _ (next : (x == length s.variables) ≡ true) where
      pub type_unfit : has_arguments s.scope t ≡ false → first_fault s (variable x t) ≡ Some Shape
      type_unfit fit = rw (order, known, next, fit) refl

      module _ (fit : has_arguments s.scope t ≡ true) where
        pub type_too_large : is_small (meant s.scope t) ≡ false → first_fault s (variable x t) ≡ Some TypeSize
        type_too_large small = rw (order, known, next, fit, small) refl

        module _ (small : is_small (meant s.scope t) ≡ true) where
          pub too_many_variables : most_variables ≤ length s.variables
              → first_fault s (variable x t) ≡ Some (Limit Variables)
          too_many_variables many = rw (order, known, next, fit, small, le-leb _ _ many) refl

          pub variable_fine : length s.variables < most_variables → first_fault s (variable x t) ≡ None
          variable_fine few = rw (order, known, next, fit, small, lt-leb _ _ few) refl
