use Rattle.std.proofs.Common.{◌≡◌, ◌∙◌, ℕ, Bool, [], ◌∷◌, ◌++◌, Some, true, false, length, map, ap, refl, sym, subst, inr, arith, length-append}
use Rattle.std.specs.Prelude.{◌==◌, All, vec_len}
use Rattle.std.proofs.lemmas.Bool.{eq-eqb}
use Rattle.std.proofs.lemmas.List.{length-map, map_push}
use Rattle.std.proofs.lemmas.List.Elements.{All-push}
use Rattle.nll_format.specs.declared.error.TextKind.{TextKind}
use Rattle.nll_types.specs.Grown.{AddsTypes}
use Rattle.nll_types.specs.Rows.{HasRow, tree_at}
use Rattle.nll_types.specs.Types.{TypeTree}
use Rattle.nll_types.specs.declared.body_types.BodyTypes.{BodyTypes}
use Rattle.nll_types.specs.declared.typed.Typed.{Typed}
use Rattle.nll_types.proofs.RowLemmas.{has_row, tree_is}
use Rattle.nll_mir_grammar.specs.MirForms.{variable}
use Rattle.nll_mir_grammar.specs.TypeTexts.{written}
use Rattle.nll_mir_grammar.specs.WrittenTypes.{WrittenType}
use Rattle.nll_mir_text.specs.Naming.{Scope, has_arguments, is_known, meant}
use Rattle.nll_mir_text.specs.Resolution.{IsResolved}
use Rattle.nll_mir_text.specs.MirFaults.{first_fault, is_in_order}
use Rattle.nll_mir_text.specs.MirReading.{IsReady, IsRefused, IsTaken, said_by, scope_in}
use Rattle.nll_mir_text.specs.MirSaid.{Said}
use Rattle.nll_mir_text.specs.ResolvedLines.{IsOfVariable}
use Rattle.nll_mir_text.specs.declared.groups.Group.TheVariants as groups
use Rattle.nll_mir_text.specs.declared.reader.Reader.{Reader}
use Rattle.nll_mir_text.specs.declared.type_resolution.Resolving.{Resolving}
use Rattle.nll_mir_text.proofs.GroupLemmas.{follows}
use Rattle.nll_mir_text.proofs.GrownLemmas.{grown, is_grown, said_grown}
use Rattle.nll_mir_text.proofs.ShapeLemmas.{small_of_shape}
use Rattle.nll_mir_text.proofs.VariableLemmas.{other_number, type_unfit, type_unknown, type_too_large, too_many_variables, variable_fine}
use Rattle.nll_mir_text.proofs.reader.Reader.add_variable.Goals as goal
use Rattle.nll_mir_text.proofs.reader.Reader.add_variable.Goals.{In-Some}

pub resolve-requires : goal.resolve-requires
resolve-requires c =
    omega (arith, ap (λ (s : Scope). length s.regions) c.scope_in-scope.ensures, c.requires.ready.few_regions)

-- as many types are said as are kept
counted : (r : Reader) → length (said_by r).variables ≡ length r.variables.typed.items
counted r = length-map r.variables.typed.items
    (tree_at r.variables.types.table.shapes r.variables.types.regions.items)

next_is : (r : Reader) (x n : ℕ) → n ≡ vec_len r.variables.typed → x ≡ n
    → (x == length (said_by r).variables) ≡ true
next_is r x n e same =
    eq-eqb x (length (said_by r).variables) (omega (arith, counted r, e, same, r.variables.typed.ok.0))

-- the reader with more types, the variable of the type that was made, and what is refused
module _ (r : Reader) (t : BodyTypes) (m : Resolving) (x : ℕ) (w : WrittenType) (adds : AddsTypes r.variables.types t)
    (ready : IsReady r) where
  abbrev later : Reader
  later = grown r t r.points.statements m

  said : said_by later ≡ said_by r
  said = said_grown r t r.points.statements m adds refl ready

  of_variable : (ty : Typed) (fits : Bool) (kept : Scope) → is_in_order (said_by r) (variable x w) ≡ true
      → kept ≡ scope_in r.regions r.structs → IsResolved kept w t ty → fits ≡ has_arguments kept w
      → IsOfVariable later x w ty fits
  of_variable ty fits kept due same of fit = record {
    order = ap (λ (s : Said). is_in_order s (variable x w)) said ∙ due;
    of = subst (λ (s : Scope). IsResolved s w t ty) same of;
    fits = subst (λ (s : Scope). fits ≡ has_arguments s w) same fit;
  }

  refused : (kind : TextKind) → first_fault (said_by later) (variable x w) ≡ Some kind
      → IsRefused (said_by r) (variable x w) kind
  refused kind fault = subst (λ s. IsRefused s (variable x w) kind) said (inr fault)

-- the reader with the type that is resolved, and the variable of that type
abbrev with_type : (c : In-Some) → Reader
with_type c = later c.args.self.now c.resolve.new.types c.resolve.new.made c.args.number (written c.args.text.now)
    c.in_ok-ty.ensures.adds c.requires.ready

of_line : (c : In-Some)
    → IsOfVariable (with_type c) c.args.number (written c.args.text.now) c.in-Some.ty c.resolve.new.fits
of_line c =
    let e = rw c.in-Some.is at c.in_ok-ty.ensures in
    of_variable c.args.self.now _ _ c.args.number (written c.args.text.now) e.adds c.requires.ready c.in-Some.ty
    c.resolve.new.fits _ c.requires.order c.scope_in-scope.ensures e.resolved e.fits

refuse : (c : In-Some) (kind : TextKind)
    → first_fault (said_by (with_type c)) (variable c.args.number (written c.args.text.now)) ≡ Some kind
    → IsRefused (said_by c.args.self.now) (variable c.args.number (written c.args.text.now)) kind
refuse c kind fault = refused c.args.self.now _ c.resolve.new.made c.args.number (written c.args.text.now)
    c.in_ok-ty.ensures.adds c.requires.ready kind fault

pub returns-in_default-clause-refused : goal.returns-in_default-clause-refused
returns-in_default-clause-refused c =
    let t = written c.args.text.now in
    inr (type_unknown (said_by c.args.self.now) c.args.number t c.requires.order
    (subst (λ (s : Scope). is_known s t ≡ false) c.scope_in-scope.ensures
    (rw c.in_default.is at c.in_ok-ty.ensures.resolved)))

pub returns-then-number-len-clause-refused : goal.returns-then-number-len-clause-refused
returns-then-number-len-clause-refused c =
    let d = (goal.at.returns-then-number-len-clause-refused c).In-Some in
    let of = of_line d in
    let r = with_type d in
    let t = written c.args.text.now in
    refuse d _ (other_number (said_by r) c.args.number t of.order of.of.known
    (λ e. c.if-number-len.true (omega (arith, e, c.len.ensures, r.variables.typed.ok.0, counted r))))

pub returns-then-not-fits-clause-refused : goal.returns-then-not-fits-clause-refused
returns-then-not-fits-clause-refused c =
    let d = (goal.at.returns-then-not-fits-clause-refused c).In-Some in
    let of = of_line d in
    let r = with_type d in
    let t = written c.args.text.now in
    let next = next_is r c.args.number _ c.len.ensures c.if-number-len.false in
    refuse d _ (type_unfit (said_by r) c.args.number t of.order of.of.known next (sym of.fits ∙ c.if-not-fits.true))

pub returns-then-not-is_small-clause-refused : goal.returns-then-not-is_small-clause-refused
returns-then-not-is_small-clause-refused c =
    let d = (goal.at.returns-then-not-is_small-clause-refused c).In-Some in
    let of = of_line d in
    let r = with_type d in
    let t = written c.args.text.now in
    let next = next_is r c.args.number _ c.len.ensures c.if-number-len.false in
    refuse d _ (type_too_large (said_by r) c.args.number t of.order of.of.known next (sym of.fits ∙ c.if-not-fits.false)
    (sym (small_of_shape (meant (said_by r).scope t) _ of.of.typed.shape)
    ∙ (sym (rw c.shapes.ensures at c.is_small.ensures) ∙ c.if-not-is_small.true)))

pub returns-then-len-ge-MAX_VARIABLES-clause-refused : goal.returns-then-len-ge-MAX_VARIABLES-clause-refused
returns-then-len-ge-MAX_VARIABLES-clause-refused c =
    let d = (goal.at.returns-then-len-ge-MAX_VARIABLES-clause-refused c).In-Some in
    let of = of_line d in
    let r = with_type d in
    let t = written c.args.text.now in
    let next = next_is r c.args.number _ c.len.ensures c.if-number-len.false in
    refuse d _ (too_many_variables (said_by r) c.args.number t of.order of.of.known next
    (sym of.fits ∙ c.if-not-fits.false)
    (sym (small_of_shape (meant (said_by r).scope t) _ of.of.typed.shape)
    ∙ (sym (rw c.shapes.ensures at c.is_small.ensures) ∙ c.if-not-is_small.false))
    (omega (arith, c.if-len-ge-MAX_VARIABLES.true, c.len-2.ensures, r.variables.typed.ok.0, counted r)))

pub returns-clause-taken : goal.returns-clause-taken
returns-clause-taken c =
    let d = (goal.at.returns-clause-taken c).In-Some in
    let of = of_line d in
    let old = with_type d in
    let t = written c.args.text.now in
    let r = (is_grown c.args.self.now _ _ c.resolve.new.made c.in_ok-ty.ensures.adds refl c.requires.ready).ready in
    let types = old.variables.types in
    let typed = old.variables.typed.items in
    let tree = tree_at types.table.shapes types.regions.items in
    let next = next_is old c.args.number _ c.len.ensures c.if-number-len.false in
    let last : tree c.in-Some.ty ≡ meant (said_by old).scope t = tree_is _ _ c.in-Some.ty _ of.of.typed in
    let stand = ap (map tree) c.in_ok-push.ensures.items ∙ (map_push tree typed c.in-Some.ty
    ∙ ap (λ (u : TypeTree). map tree typed ++ u ∷ []) last) in
    let taken : Reader = record old {
      reached = groups.Variables;
      variables = record old.variables { typed = c.push.new.self };
    } in
    subst (λ s. IsTaken s (variable c.args.number t) taken)
    (said c.args.self.now _ c.resolve.new.made c.args.number t c.in_ok-ty.ensures.adds c.requires.ready) record {
      fine = variable_fine (said_by old) c.args.number t of.order of.of.known next
          (sym of.fits ∙ c.if-not-fits.false)
          (sym (small_of_shape (meant (said_by old).scope t) _ of.of.typed.shape)
          ∙ (sym (rw c.shapes.ensures at c.is_small.ensures) ∙ c.if-not-is_small.false))
          (omega (arith, c.if-len-ge-MAX_VARIABLES.false, c.len-2.ensures, old.variables.typed.ok.0, counted old));
      says = rw stand refl;
      ready = record {
        static = r.static;
        universals = r.universals;
        few_universals = r.few_universals;
        few_regions = r.few_regions;
        no_parameter = r.no_parameter;
        named_structs = r.named_structs;
        counted_kinds = r.counted_kinds;
        kinds = r.kinds;
        few_structs = r.few_structs;
        few_variables =
            omega (
              arith,
              ap length c.in_ok-push.ensures.items,
              length-append typed (c.in-Some.ty ∷ []),
              c.if-len-ge-MAX_VARIABLES.false,
              c.len-2.ensures,
              old.variables.typed.ok.0,
            );
        rows = record {
          variables = subst (All (HasRow types.table.shapes types.regions.items)) (sym c.in_ok-push.ensures.items)
              (All-push (HasRow types.table.shapes types.regions.items) typed c.in-Some.ty r.rows.variables
              (has_row _ _ c.in-Some.ty _ of.of.typed));
          points = r.rows.points;
        };
        few_blocks = r.few_blocks;
        no_start = λ h. r.no_start (omega (arith, (follows (said_by old) (variable c.args.number t) of.order).0));
        starts = r.starts;
        few_points = r.few_points;
        edges = r.edges;
        few_edges = r.few_edges;
      };
    }
