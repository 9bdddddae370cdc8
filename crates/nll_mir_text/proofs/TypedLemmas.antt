-- What the lines of a text that fits say is a well-typed body.
use Rattle.std.proofs.Common.{◌≡◌, ℕ, ◌<◌, ◌≤◌, true, Bool, List, [], ◌∷◌, ◌++◌, Some, None, length, sym, subst, ⊎_elim, arith, length-append, slice_get}
use Rattle.std.specs.Prelude.{All}
use Rattle.std.specs.List.{list_all}
use Rattle.std.proofs.lemmas.Bool.{and_parts, not-false, leb-false}
use Rattle.std.proofs.lemmas.List.Elements.{All-push}
use Rattle.nll_problem.specs.Limits.{most_structs}
use Rattle.nll_types.specs.Types.{TypeTree}
use Rattle.nll_types.specs.Structs.{Struct}
use Rattle.nll_types.specs.Shapes.{is_small}
use Rattle.nll_mir_grammar.specs.WrittenTypes.{WrittenName, WrittenType, WrittenTypes}
use Rattle.nll_body.specs.Statements.{Statement, types_written}
use Rattle.nll_body.specs.Typing.{types_agree, types_are_small, are_small}
use Rattle.nll_mir_text.specs.Naming.{meant, has_arguments}
use Rattle.nll_format.specs.Text.{Says, IsText}
use Rattle.nll_mir_grammar.specs.MirForms.{Form, WrittenParameter, universal, outlives, further, assert_line, struct_line, variable, blocks, block, at_point, end}
use Rattle.nll_mir_grammar.specs.declared.version.Version.{Version}
use Rattle.nll_mir_text.specs.MirSaid.{Said, said}
use Rattle.nll_mir_text.specs.MirSteps.{says, nothing_said, declared_struct, statement_meant}
use Rattle.nll_mir_text.specs.MirFaults.{first_fault, shapes_fit}
use Rattle.nll_body.specs.WellTyped.{IsWellTyped}
use Rattle.nll_mir_text.specs.MirText.{mir, body_said}
use Rattle.nll_mir_text.proofs.FaultLemmas.{faultless}
use Rattle.nll_mir_text.proofs.LineLemmas.{nothing_at, pushed_at}
use Rattle.nll_mir_text.proofs.GroupLemmas.{follows, before_blocks}
use Rattle.nll_mir_text.proofs.SaidLemmas.{in_order, said_push, behind_all}

abbrev IsSmall : TypeTree → Type 0
IsSmall t = is_small t ≡ true

abbrev HasSmallFields : Struct → Type 0
HasSmallFields d = are_small d.fields ≡ true

-- What holds of what lines say: no point stands before the blocks.
record IsTyped (s : Said) : Type 0 where
  few_structs : length s.structs ≤ most_structs
  fields : All HasSmallFields s.structs
  variables : All IsSmall s.variables
  none_yet : s.reached < 8 → length s.points ≡ 0
  agree : (p : ℕ) (i : Statement ℕ TypeTree) → slice_get s.points p ≡ Some i
      → types_agree s.structs s.variables i ≡ true
  small : (p : ℕ) (i : Statement ℕ TypeTree) → slice_get s.points p ≡ Some i
      → types_are_small s.structs s.variables i ≡ true

typed_nothing : IsTyped nothing_said
typed_nothing = grind (arith, nothing_at)

-- ---- one more line

module _ (s : Said) (w : IsTyped s) where
  typed_universal : (a : WrittenName) → first_fault s (universal a) ≡ None → IsTyped (says s (universal a))
  typed_universal a e = grind (arith, follows, in_order)

  typed_outlives : (a b : WrittenName) → first_fault s (outlives a b) ≡ None → IsTyped (says s (outlives a b))
  typed_outlives a b e = grind (arith, follows, in_order)

  typed_further : (x : WrittenName) → first_fault s (further x) ≡ None → IsTyped (says s (further x))
  typed_further x e = grind (arith, follows, in_order)

  typed_assert : (a b : WrittenName) → first_fault s (assert_line a b) ≡ None → IsTyped (says s (assert_line a b))
  typed_assert a b e = grind (arith, follows, in_order)

  typed_struct : (n : WrittenName) (ps : List WrittenParameter) (has_drop : Bool) (fields : WrittenTypes)
      → first_fault s (struct_line n ps has_drop fields) ≡ None → IsTyped (says s (struct_line n ps has_drop fields))
  typed_struct n ps has_drop fields e =
      let no = faultless s (struct_line n ps has_drop fields) e in
      let le : s.reached ≤ 5 =
      (follows s (struct_line n ps has_drop fields) (in_order s (struct_line n ps has_drop fields) e)).0 in
      let few : length s.structs < most_structs = leb-false most_structs (length s.structs) no.structs in
      let none : length s.points ≡ 0 = w.none_yet (omega (arith, le)) in
      let more = declared_struct s ps has_drop fields in
      record {
        few_structs = omega (arith, few, length-append s.structs (more ∷ []));
        fields = All-push HasSmallFields s.structs more w.fields (not-false _ no.size);
        variables = w.variables;
        none_yet = λ _. none;
        agree = λ p i at. absurd (nothing_at s.points p i none at);
        small = λ p i at. absurd (nothing_at s.points p i none at);
      }

  typed_variable : (x : ℕ) (t : WrittenType) → first_fault s (variable x t) ≡ None → IsTyped (says s (variable x t))
  typed_variable x t e =
      let no = faultless s (variable x t) e in
      let le : s.reached ≤ 6 = (follows s (variable x t) (in_order s (variable x t) e)).0 in
      let none : length s.points ≡ 0 = w.none_yet (omega (arith, le)) in
      record {
        few_structs = w.few_structs;
        fields = w.fields;
        variables = All-push IsSmall s.variables (meant s.scope t) w.variables (not-false _ no.size);
        none_yet = λ _. none;
        agree = λ p i at. absurd (nothing_at s.points p i none at);
        small = λ p i at. absurd (nothing_at s.points p i none at);
      }

  typed_blocks : (n : ℕ) → first_fault s (blocks n) ≡ None → IsTyped (says s (blocks n))
  typed_blocks n e = grind (arith, before_blocks, in_order)

  typed_block : (n : ℕ) → IsTyped (says s (block n))
  typed_block n = grind arith

  typed_at_point : (i : Statement WrittenName WrittenType) → first_fault s (at_point i) ≡ None
      → IsTyped (says s (at_point i))
  typed_at_point i e =
      let no = faultless s (at_point i) e in
      let j = statement_meant s i in
      let fit : shapes_fit s i ≡ true = not-false (shapes_fit s i) no.shape in
      let agrees : types_agree s.structs s.variables j ≡ true =
      (and_parts (list_all (has_arguments s.scope) (types_written i))
      (types_agree s.structs s.variables j) fit).1 in
      let keeps : types_are_small s.structs s.variables j ≡ true = not-false _ no.size in
      record {
        few_structs = w.few_structs;
        fields = w.fields;
        variables = w.variables;
        none_yet = λ l. absurd (omega (arith, l));
        agree = λ p k at. ⊎_elim (w.agree p k)
            (λ new. subst (λ x. types_agree s.structs s.variables x ≡ true) (sym new.1) agrees)
            (pushed_at s.points j p k at);
        small = λ p k at. ⊎_elim (w.small p k)
            (λ new. subst (λ x. types_are_small s.structs s.variables x ≡ true) (sym new.1) keeps)
            (pushed_at s.points j p k at);
      }

  typed_end : IsTyped (says s end)
  typed_end = grind arith

  typed_says : (f : Form) → first_fault s f ≡ None → IsTyped (says s f)
  typed_says (universal a) e = typed_universal a e
  typed_says (outlives a b) e = typed_outlives a b e
  typed_says (further x) e = typed_further x e
  typed_says (assert_line a b) e = typed_assert a b e
  typed_says (struct_line n ps has_drop fields) e = typed_struct n ps has_drop fields e
  typed_says (variable x t) e = typed_variable x t e
  typed_says (blocks n) e = typed_blocks n e
  typed_says (block n) e = typed_block n
  typed_says (at_point i) e = typed_at_point i e
  typed_says end e = typed_end

-- ---- all lines

typed_push : (forms : List Form) (f : Form) → first_fault (said forms) f ≡ None → IsTyped (said forms)
    → IsTyped (said (forms ++ f ∷ []))
typed_push forms f fine w = subst IsTyped (sym (said_push forms f fine)) (typed_says (said forms) w f fine)

typed_said : (v : Version) (lines : List (List ℕ)) (forms : List Form) → Says (mir v) [] lines forms
    → IsTyped (said forms)
typed_said v lines forms h = behind_all (λ fs. IsTyped (said fs)) typed_push v [] lines forms h typed_nothing

typed_body : (s : Said) → IsTyped s → IsWellTyped (body_said s)
typed_body s w = grind arith

-- the body that a text that fits says is well typed
pub typed_text : (v : Version) (text : List ℕ) (forms : List Form) → IsText (mir v) text forms
    → IsWellTyped (body_said (said forms))
typed_text v text forms fits = typed_body (said forms) (typed_said v fits.body forms fits.fine)
