-- What the lines of a text that fits say is a sound body.
use Rattle.std.proofs.Common.{◌≡◌, ℕ, ◌+◌, ◌<◌, ◌≤◌, true, false, not, List, [], ◌∷◌, ◌++◌, Some, None, Contains, length, map, refl, sym, ap, ◌∙◌, subst, ⊎_elim, arith, length-append, slice_get}
use Rattle.std.specs.Prelude.{All}
use Rattle.std.specs.List.{list_all}
use Rattle.std.proofs.lemmas.Bool.{and_parts, not-true, not-false, leb-false, ltb-false}
use Rattle.std.proofs.lemmas.List.Elements.{All-cons, All-push, All-weaker, All-nil, All-contains}
use Rattle.std.proofs.lemmas.List.Sums.{sum_by_push}
use Rattle.nll_format.specs.Names.{number_of}
use Rattle.nll_problem.specs.Limits.{most_points, most_edges}
use Rattle.nll_types.specs.Types.{TypeTree}
use Rattle.nll_types.specs.Structs.{IsWellFormed}
use Rattle.nll_mir_grammar.specs.WrittenTypes.{WrittenName, WrittenType}
use Rattle.nll_body.specs.Statements.{Statement, is_terminator, types_written}
use Rattle.nll_body.specs.Effects.{targets}
use Rattle.nll_body.specs.Written.{regions_written, variables_written}
use Rattle.nll_body.proofs.MapLemmas.{regions_mapped, types_mapped, same_edges, same_targets, same_terminator}
use Rattle.nll_mir_grammar.specs.MirForms.{Form, universal, outlives, further, assert_line, struct_line, variable, blocks, block, at_point, end}
use Rattle.nll_mir_text.specs.Naming.{meant, is_name_among, has_arguments, is_known}
use Rattle.nll_format.specs.Text.{Says, IsText}
use Rattle.nll_body.specs.Edges.{edges_from, edge_count}
use Rattle.nll_body.specs.Sound.{IsSoundBody}
use Rattle.nll_body.specs.WellTyped.{IsWellTyped}
use Rattle.nll_mir_text.specs.MirSaid.{Said, said}
use Rattle.nll_mir_text.specs.MirSteps.{says, statement_meant}
use Rattle.nll_mir_text.specs.MirFaults.{first_fault, has_targets, shapes_fit, knows, knows_variables, is_in_body}
use Rattle.nll_body.specs.Typing.{types_agree}
use Rattle.nll_mir_grammar.specs.declared.version.Version.{Version}
use Rattle.nll_mir_text.specs.MirText.{mir, body_said}
use Rattle.nll_mir_text.proofs.FaultLemmas.{faultless}
use Rattle.nll_mir_text.proofs.LineLemmas.{three, below_all, numbers_below, pushed_at, all_at, rise_push, first_pushed}
use Rattle.nll_mir_text.proofs.GoodFieldLemmas.{well_formed}
use Rattle.nll_mir_text.proofs.GroupLemmas.{in_body}
use Rattle.nll_mir_text.proofs.SaidLemmas.{in_order, said_push, behind_all, reached_at_end}
use Rattle.nll_mir_text.proofs.TypedLemmas.{typed_text}
use Rattle.nll_mir_text.proofs.WellLemmas.{ends, ends_past, ends_behind, ArePlaced, AreWritten, IsWell, well_nothing, declares_late}
use Rattle.nll_mir_text.proofs.WellHeadLemmas.{unnamed, well_universal, well_outlives, well_further, well_assert, well_struct, well_variable, well_blocks}

module _ (s : Said) (w : IsWell s) where
  -- a block begins where no terminator is owed
  begins : s.owes ≡ false → 7 ≤ s.reached → ArePlaced 8 s.blocks (s.starts ++ length s.points ∷ []) s.points true
  begins done late =
      let p = w.places in
      let here_ends : ends s.points s.owes ≡ length s.points = rw done refl in
      record {
        some_block = λ _. p.some_block late;
        none_yet = λ l. absurd (omega (arith, l));
        begun = λ none. absurd (omega (arith, none, length-append s.starts (length s.points ∷ [])));
        within =
            All-push (λ q. q < length s.points + 1) s.starts (length s.points)
            (All-weaker (λ q. q < ends s.points s.owes) (λ q. q < length s.points + 1)
            (λ q l. omega (arith, l, here_ends)) s.starts p.within) (omega arith);
        rise = rise_push s.starts (length s.points) p.rise
            (All-weaker (λ q. q < ends s.points s.owes) (λ q. q < length s.points)
            (λ q l. omega (arith, l, here_ends)) s.starts p.within);
        at_zero = λ _. first_pushed s.starts (length s.points) (λ none. sym here_ends ∙ p.begun none) p.at_zero;
        whole = λ e. absurd (omega (arith, e));
        few_points = p.few_points;
        few_edges = p.few_edges;
        goes_on = λ q i stands plain. (let l = p.goes_on q i stands plain in omega (arith, l, here_ends));
        leads = p.leads;
      }

  well_block : (n : ℕ) → first_fault s (block n) ≡ None → IsWell (says s (block n))
  well_block n e =
      let order = and_parts (is_in_body s) (not s.owes) (in_order s (block n) e) in
      record {
        plain = w.plain;
        asserted = w.asserted;
        declares = declares_late _ _ _ _ _ _ _ _ 8 w.declares (omega arith);
        places = begins (not-true s.owes order.1) (in_body s order.0).0;
        written = w.written;
      }

  -- a statement or terminator stands where a terminator is owed
  stands : (i : Statement WrittenName WrittenType) → 7 ≤ s.reached → s.owes ≡ true → has_targets s i ≡ true
      → length s.points < most_points → edge_count s.points + edges_from i ≤ most_edges
      → ArePlaced 8 s.blocks s.starts (s.points ++ statement_meant s i ∷ []) (not (is_terminator i))
  stands i at owed targeted few_points few_edges =
      let p = w.places in
      let j = statement_meant s i in
      let before : ends s.points s.owes ≡ length s.points + 1 = rw owed refl in
      let after = ends_past s.points j (is_terminator i) in
      record {
        some_block = λ _. p.some_block (omega (arith, at));
        none_yet = λ l. absurd (omega (arith, l));
        begun = λ none. absurd (omega (arith, p.begun none, before));
        within =
            All-weaker (λ q. q < ends s.points s.owes) (λ q. q < ends (s.points ++ j ∷ []) (not (is_terminator i)))
            (λ q l. omega (arith, l, before, after)) s.starts p.within;
        rise = p.rise;
        at_zero = p.at_zero;
        whole = λ e. absurd (omega (arith, e));
        few_points = omega (arith, few_points, length-append s.points (j ∷ []));
        few_edges =
            omega (
              arith,
              few_edges,
              sum_by_push edges_from s.points j,
              same_edges (number_of s.scope.regions) (meant s.scope) i,
            );
        goes_on = λ q k at plain. ⊎_elim
            (λ old. (let l = p.goes_on q k old plain in omega (arith, l, before, after)))
            (λ new. (let l = ends_behind s.points j (is_terminator i)
            (sym (same_terminator (number_of s.scope.regions) (meant s.scope) i)
            ∙ (ap is_terminator (sym new.1) ∙ plain))
            in omega (arith, new.0, l)))
            (pushed_at s.points j q k at);
        leads = λ q b k at leads. ⊎_elim
            (λ old. p.leads q b k old leads)
            (λ new. All-contains (λ c. c < s.blocks) (targets i) b (below_all s.blocks (targets i) targeted)
            (subst (λ (bs : List ℕ). Contains bs b)
            (ap targets new.1 ∙ same_targets (number_of s.scope.regions) (meant s.scope) i) leads))
            (pushed_at s.points j q k at);
      }

  -- types whose names are known and have arguments keep to what is declared
  types_good : (ts : List WrittenType) → list_all (is_known s.scope) ts ≡ true
      → list_all (has_arguments s.scope) ts ≡ true
      → All (IsWellFormed s.structs (length s.scope.regions) 0) (map (meant s.scope) ts)
  types_good [] k h = All-nil (IsWellFormed s.structs (length s.scope.regions) 0)
  types_good (t ∷ ts) k h =
      let known = and_parts (is_known s.scope t) (list_all (is_known s.scope) ts) k in
      let has = and_parts (has_arguments s.scope t) (list_all (has_arguments s.scope) ts) h in
      let d = w.declares in
      let first : IsWellFormed s.structs (length s.scope.regions) 0 (meant s.scope t) =
      unnamed s w t (well_formed s.scope s.structs d.takes d.named t known.0 has.0) in
      All-cons (IsWellFormed s.structs (length s.scope.regions) 0) (meant s.scope t)
      (map (meant s.scope) ts) first (types_good ts known.1 has.1)

  -- what is written in one more statement keeps to what is declared
  writes : (i : Statement WrittenName WrittenType) → knows s i ≡ true → shapes_fit s i ≡ true
      → AreWritten s.scope.regions s.structs (s.points ++ statement_meant s i ∷ [])
  writes i known fit =
      let j = statement_meant s i in
      let names =
      three (knows_variables s (variables_written i)) (list_all (is_name_among s.scope.regions) (regions_written i))
      (list_all (is_known s.scope) (types_written i)) known in
      let args =
      and_parts (list_all (has_arguments s.scope) (types_written i))
      (types_agree s.structs s.variables j) fit in
      record {
        regions = λ p r k at h. ⊎_elim
            (λ old. w.written.regions p r k old h)
            (λ new. All-contains (λ q. q < length s.scope.regions)
            (map (number_of s.scope.regions) (regions_written i)) r
            (numbers_below s.scope.regions (regions_written i) names.1)
            (subst (λ (rs : List ℕ). Contains rs r)
            (ap regions_written new.1 ∙ regions_mapped (number_of s.scope.regions) (meant s.scope) i) h))
            (pushed_at s.points j p k at);
        types = λ p t k at h. ⊎_elim
            (λ old. w.written.types p t k old h)
            (λ new. All-contains (IsWellFormed s.structs (length s.scope.regions) 0)
            (map (meant s.scope) (types_written i)) t (types_good (types_written i) names.2 args.0)
            (subst (λ (ts : List TypeTree). Contains ts t)
            (ap types_written new.1 ∙ types_mapped (number_of s.scope.regions) (meant s.scope) i) h))
            (pushed_at s.points j p k at);
      }

  well_at_point : (i : Statement WrittenName WrittenType) → first_fault s (at_point i) ≡ None
      → IsWell (says s (at_point i))
  well_at_point i e =
      let no = faultless s (at_point i) e in
      let order = and_parts (is_in_body s) s.owes (in_order s (at_point i) e) in
      let few_points : length s.points < most_points = leb-false most_points (length s.points) no.points in
      let few_edges : edge_count s.points + edges_from i ≤ most_edges =
      ltb-false most_edges (edge_count s.points + edges_from i) no.edges in
      let at : 7 ≤ s.reached = (in_body s order.0).0 in
      record {
        plain = w.plain;
        asserted = w.asserted;
        declares = declares_late _ _ _ _ _ _ _ _ 8 w.declares (omega arith);
        places = stands i at order.1 (not-false (has_targets s i) no.range) few_points few_edges;
        written = writes i (not-false (knows s i) no.unknown) (not-false (shapes_fit s i) no.shape);
      }

  well_end : first_fault s end ≡ None → IsWell (says s end)
  well_end e =
      let no = faultless s end e in
      let order = and_parts (is_in_body s) (not s.owes) (in_order s end e) in
      let p = w.places in
      let late : 7 ≤ s.reached = (in_body s order.0).0 in
      let done : s.owes ≡ false = not-true s.owes order.1 in
      let enough : s.blocks ≤ length s.starts = ltb-false (length s.starts) s.blocks no.range in
      record {
        plain = w.plain;
        asserted = w.asserted;
        declares = declares_late _ _ _ _ _ _ _ _ 9 w.declares (omega arith);
        places = grind arith;
        written = w.written;
      }

  well_says : (f : Form) → first_fault s f ≡ None → IsWell (says s f)
  well_says (universal a) e = well_universal s w a e
  well_says (outlives a b) e = well_outlives s w a b e
  well_says (further x) e = well_further s w x e
  well_says (assert_line a b) e = well_assert s w a b e
  well_says (struct_line n ps has_drop fields) e = well_struct s w n ps has_drop fields e
  well_says (variable x t) e = well_variable s w x t e
  well_says (blocks n) e = well_blocks s w n e
  well_says (block n) e = well_block n e
  well_says (at_point i) e = well_at_point i e
  well_says end e = well_end e

-- ---- all lines

well_push : (forms : List Form) (f : Form) → first_fault (said forms) f ≡ None → IsWell (said forms)
    → IsWell (said (forms ++ f ∷ []))
well_push forms f fine w = subst IsWell (sym (said_push forms f fine)) (well_says (said forms) w f fine)

well_said : (v : Version) (lines : List (List ℕ)) (forms : List Form) → Says (mir v) [] lines forms
    → IsWell (said forms)
well_said v lines forms h = behind_all (λ fs. IsWell (said fs)) well_push v [] lines forms h well_nothing

-- ---- the body

module _ (s : Said) (w : IsWell s) (at_end : s.reached ≡ 9) where
  done : ends s.points s.owes ≡ length s.points
  done = let e = (w.places.whole at_end).0 in rw e refl

  some_start : 0 < length s.starts
  some_start = let p = w.places in omega (arith, p.some_block (omega (arith, at_end)), (p.whole at_end).1)

  first : slice_get s.starts 0 ≡ Some 0
  first = w.places.at_zero some_start

  sound_said : IsWellTyped (body_said s) → IsSoundBody (body_said s)
  sound_said typed =
      let d = w.declares in
      let p = w.places in
      record {
        some_point = omega (arith, done, all_at (λ q. q < ends s.points s.owes) s.starts 0 0 p.within first);
        point_limit = p.few_points;
        edge_limit = p.few_edges;
        some_universal = d.some;
        universal_limit = d.few;
        all_universals = d.all;
        region_limit = d.few_names;
        variable_limit = d.few_variables;
        known_universals = d.known;
        known_asserts = w.asserted;
        first_points = record { rise = p.rise; at_zero = first };
        in_range = λ q r goes. ⊎_elim
            (λ plain. (let l = p.goes_on q goes.0 goes.1 plain.0 in omega (arith, l, plain.1, done)))
            (λ led. omega (arith, done, all_at (λ n. n < ends s.points s.owes) s.starts led.0 r p.within led.2))
            goes.2;
        blocks = λ q b i at leads. (let l = p.leads q b i at leads in omega (arith, l, (p.whole at_end).1));
        in_order = d.order;
        types = d.keep;
        written_regions = w.written.regions;
        written_types = w.written.types;
        well_typed = typed;
      }

-- the body that a text that fits says is sound
pub sound_text : (v : Version) (text : List ℕ) (forms : List Form) → IsText (mir v) text forms
    → IsSoundBody (body_said (said forms))
sound_text v text forms fits =
    sound_said (said forms) (well_said v fits.body forms fits.fine) (reached_at_end forms fits.ended)
    (typed_text v text forms fits)
