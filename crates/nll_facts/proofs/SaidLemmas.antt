-- What lines say once there is one more line.
use Rattle.std.proofs.Common.{◌≡◌, ℕ, suc, ◌+◌, ◌<◌, ◌≤◌, Bool, true, false, not, cond, eqb, ltb, List, [], ◌∷◌, ◌++◌, Option, Some, None, Contains, length, max, ◌⊎◌, inl, inr, refl, sym, ap, ◌∙◌, subst, ⊎_elim, arith, length-append, append_assoc}
use Rattle.std.specs.Prelude.{codes, ◌&&◌, ◌||◌, nat_lt}
use Rattle.std.specs.List.{filter_map, list_any}
use Rattle.std.specs.Str.{bytes_eq}
use Rattle.std.proofs.lemmas.List.{append-nil}
use Rattle.std.proofs.lemmas.List.Elements.{filter_map-append, Contains-push, Contains-push_cases, Contains-append_left}
use Rattle.std.proofs.lemmas.Bool.{cases_Bool, false≢true, ltb-true}
use Rattle.std.proofs.lemmas.Bool.Decides.{nat_tests, same_from_decides}
use Rattle.indexmap.specs.IndexSet.{insert_all, insert_key}
use Rattle.nll_problem.specs.Problem.{Problem, SameProblem, SameSet}
use Rattle.nll_problem.specs.Building.{AddsFact, same_pair, same_constraint}
use Rattle.nll_problem.specs.declared.constraint.Constraint.{Constraint}
use Rattle.nll_problem.proofs.SameLemmas.{same_problem}
use Rattle.nll_problem.proofs.FactLemmas.{pair_found, constraint_found, adds_pair, adds_constraint}
use Rattle.nll_format.specs.Names.{number_of}
use Rattle.nll_format.specs.Parts.{Name}
use Rattle.nll_facts.specs.FactsForms.{FactsForm, points, universal, outlives, further, next, return, base, constraint, end}
use Rattle.nll_facts.specs.FactsSaid.{SaidFacts, facts_said, is_universal_name, first_facts_fault, is_fact_in_order, facts_group, last_fact_group, points_in, universal_fact_in, further_fact_in, outlives_fact_in, edge_in, return_in, base_in, constraint_in, first_or_zero, facts_universals_said, facts_names_said, problem_said}
use Rattle.nll_facts.specs.FactsReading.{bare, AddsFacts, SameSaid}
use Rattle.nll_format.specs.declared.error.TextKind.{TextKind}
use Rattle.nll_format.specs.declared.error.TextKind.TheVariants.{Syntax, Unknown}

-- ---- the same is said

edges_test : (s t : Problem) → SameSet s.graph.edges t.graph.edges → (p q : ℕ)
    → list_any (same_pair (p, q)) s.graph.edges ≡ list_any (same_pair (p, q)) t.graph.edges
edges_test s t same p q = same_from_decides _ _
    (pair_found s.graph.edges p q) (
      λ h. (same (p, q)).1 ((pair_found t.graph.edges p q).0 h),
      λ h. (pair_found t.graph.edges p q).1 ((same (p, q)).0 h),
    )

constraints_test : (s t : Problem) → SameSet s.constraints t.constraints → (c : Constraint)
    → list_any (same_constraint c) s.constraints ≡ list_any (same_constraint c) t.constraints
constraints_test s t same c = same_from_decides _ _
    (constraint_found s.constraints c)
    (λ h. (same c).1 ((constraint_found t.constraints c).0 h), λ h. (constraint_found t.constraints c).1 ((same c).0 h))

-- where the same is said, a line has the same fault
pub same_fault : (s t : SaidFacts) → SameSaid s t → (f : FactsForm) → first_facts_fault s f ≡ first_facts_fault t f
same_fault s t h (points n) = rw h.reached refl
same_fault s t h (universal a) = rw (h.reached, h.names, h.problem.universals) refl
same_fault s t h (outlives a b) = rw (h.reached, h.names, h.problem.universals) refl
same_fault s t h (further x) = rw (h.reached, h.names) refl
same_fault s t h (next p q) =
    rw (h.reached, h.problem.points, edges_test s.problem t.problem h.problem.edges p q, h.edge_count) refl
same_fault s t h (return p) = rw (h.reached, h.problem.points) refl
same_fault s t h (base x p) = rw (h.reached, h.names, h.problem.points) refl
same_fault s t h (constraint a b p) = grind (arith, constraints_test)
same_fault s t h end = rw h.reached refl

-- ---- one more fact

-- where old lists are the same, so are the lists that got the same fact
same_added : {X : Type 0} (xs ys : List X) (x : X) (ys' : List X) → SameSet xs ys → AddsFact ys ys' x
    → SameSet (xs ++ x ∷ []) ys'
same_added xs ys x ys' same adds z = (
  λ h. (adds.each z).1 (⊎_elim (λ old. inl ((same z).0 old)) inr (Contains-push_cases xs x z h)),
  λ h. ⊎_elim (λ old. Contains-append_left xs (x ∷ []) z ((same z).1 old))
      (λ is. subst (Contains (xs ++ x ∷ [])) is (Contains-push xs x)) ((adds.each z).0 h),
)

same_grown : {X : Type 0} (xs ys : List X) (x : X) (xs' ys' : List X) → SameSet xs ys → AddsFact xs xs' x
    → AddsFact ys ys' x → SameSet xs' ys'
same_grown xs ys x xs' ys' same adds adds' z = (
  λ h. (adds'.each z).1 (⊎_elim (λ old. inl ((same z).0 old)) inr ((adds.each z).0 h)),
  λ h. (adds.each z).1 (⊎_elim (λ old. inl ((same z).1 old)) inr ((adds'.each z).0 h)),
)

length_grown : {X : Type 0} (xs ys : List X) (x : X) (xs' ys' : List X) → SameSet xs ys → length xs ≡ length ys
    → AddsFact xs xs' x → AddsFact ys ys' x → Contains xs x ⊎ (Contains xs x → ⊥) → length xs' ≡ length ys'
length_grown xs ys x xs' ys' same count adds adds' known = ⊎_elim
    (λ there. ap length (adds.repeated there) ∙ (count ∙ sym (ap length (adds'.repeated ((same x).0 there)))))
    (λ absent. adds.counted absent ∙ (ap (λ n. n + 1) count ∙ sym (adds'.counted (λ h. absent ((same x).1 h)))))
    known

-- one more element is inserted last
insert_all_push : {X : Type 0} (e : X → X → Bool) (ks xs : List X) (x : X)
    → insert_all e ks (xs ++ x ∷ []) ≡ insert_key e (insert_all e ks xs) x
insert_all_push e ks [] x = refl
insert_all_push e ks (y ∷ xs) x = insert_all_push e (insert_key e ks y) xs x

pair_known : (ks : List (ℕ × ℕ)) (x : ℕ × ℕ) → Contains ks x ⊎ (Contains ks x → ⊥)
pair_known ks x = ⊎_elim
    (λ t. inl ((pair_found ks x.0 x.1).0 t))
    (λ f. inr (λ h. false≢true (sym f ∙ (pair_found ks x.0 x.1).1 h)))
    (cases_Bool (list_any (same_pair x) ks))

constraint_known : (ks : List Constraint) (c : Constraint) → Contains ks c ⊎ (Contains ks c → ⊥)
constraint_known ks c = ⊎_elim
    (λ t. inl ((constraint_found ks c).0 t))
    (λ f. inr (λ h. false≢true (sym f ∙ (constraint_found ks c).1 h)))
    (cases_Bool (list_any (same_constraint c) ks))

-- ---- one more line

-- a line that adds nothing
kept_by : {X : Type 0} (g : FactsForm → Option X) (forms : List FactsForm) (f : FactsForm) → g f ≡ None
    → filter_map g (forms ++ f ∷ []) ≡ filter_map g forms
kept_by g forms f none = filter_map-append g forms (f ∷ []) ∙ rw none (append-nil (filter_map g forms))

-- a line that adds one
added_by : {X : Type 0} (g : FactsForm → Option X) (forms : List FactsForm) (f : FactsForm) (x : X) → g f ≡ Some x
    → filter_map g (forms ++ f ∷ []) ≡ filter_map g forms ++ x ∷ []
added_by g forms f x some = filter_map-append g forms (f ∷ []) ∙ rw some refl

reached_push : (forms : List FactsForm) (f : FactsForm)
    → last_fact_group (forms ++ f ∷ []) ≡ max (last_fact_group forms) (facts_group f)
reached_push [] f = omega arith
reached_push (x ∷ forms) f = omega (arith, reached_push forms f)

-- nothing is said by lines of later groups
none_before : {X : Type 0} (g : FactsForm → Option X) (n : ℕ) → ((f : FactsForm) → facts_group f ≤ n → g f ≡ None)
    → (forms : List FactsForm)
    → last_fact_group forms ≤ n → filter_map g forms ≡ []
none_before g n early [] h = refl
none_before g n early (f ∷ forms) h = rw (early f (omega arith)) (none_before g n early forms (omega arith))

outlives_early : (names : List Name) (f : FactsForm) → facts_group f ≤ 2 → outlives_fact_in names f ≡ None
outlives_early names (outlives a b) h = absurd (omega arith)
outlives_early names _ h = refl

further_early : (f : FactsForm) → facts_group f ≤ 3 → further_fact_in f ≡ None
further_early (further x) h = absurd (omega arith)
further_early _ h = refl

edge_early : (f : FactsForm) → facts_group f ≤ 4 → edge_in f ≡ None
edge_early (next p q) h = absurd (omega arith)
edge_early _ h = refl

return_early : (f : FactsForm) → facts_group f ≤ 4 → return_in f ≡ None
return_early (return p) h = absurd (omega arith)
return_early _ h = refl

base_early : (names : List Name) (f : FactsForm) → facts_group f ≤ 4 → base_in names f ≡ None
base_early names (base x p) h = absurd (omega arith)
base_early names _ h = refl

constraint_early : (names : List Name) (f : FactsForm) → facts_group f ≤ 4 → constraint_in names f ≡ None
constraint_early names (constraint a b p) h = absurd (omega arith)
constraint_early names _ h = refl

none_yet : (forms : List FactsForm) → last_fact_group forms ≡ 0 → forms ≡ []
none_yet [] e = refl
none_yet (f ∷ forms) e = absurd (no_group f (omega arith))
  where
    no_group : (f : FactsForm) → facts_group f ≡ 0 → ⊥
    no_group end h = omega arith
    no_group _ h = omega arith

-- ---- the order of lines

guard : {A : Type 0} (b : Bool) (x : A) (o : Option A) → cond b (Some x) o ≡ None → b ≡ false
guard true x o e = absurd cc
guard false x o e = refl

not_false : (b : Bool) → not b ≡ false → b ≡ true
not_false true e = refl
not_false false e = absurd cc

-- a line without a fault stands in order
pub in_order : (s : SaidFacts) (f : FactsForm) → first_facts_fault s f ≡ None → is_fact_in_order s f ≡ true
in_order s end e = not_false _ (guard _ _ _ e)
in_order s _ e = not_false _ (guard _ _ _ e)

ordered : (r g : ℕ) (rep : Bool) → (ltb r g || (eqb r g && rep)) && (ltb 0 r || eqb g 1) ≡ true → r ≤ g
ordered r g rep e = grind (arith, nat_tests)

first_points : (r : ℕ) → (ltb r 1 || (eqb r 1 && false)) && (ltb 0 r || true) ≡ true → r ≡ 0
first_points r e = grind (arith, nat_tests)

-- ---- what is said by the universal regions alone

universals_alone : (forms : List FactsForm) → last_fact_group forms ≤ 2
    → facts_names_said forms ≡ facts_universals_said forms
universals_alone forms h = grind (arith, none_before, further_early, append-nil)

abbrev points_said : List FactsForm → ℕ
points_said forms = first_or_zero (filter_map points_in forms)

bare_said : (forms : List FactsForm) → last_fact_group forms ≤ 2
    → problem_said forms ≡ bare (points_said forms) (length (facts_universals_said forms))
bare_said forms h =
    grind (
      arith,
      none_before,
      edge_early,
      return_early,
      base_early,
      constraint_early,
      outlives_early,
      further_early,
      append-nil,
    )

-- where the problem is the very one that is said
exact : (forms : List FactsForm) (t : SaidFacts) → t.reached ≡ last_fact_group forms → t.names ≡ facts_names_said forms
    → t.problem ≡ problem_said forms → SameSaid (facts_said forms) t
exact forms t r n q = record {
  reached = sym r;
  names = sym n;
  problem = same_problem (problem_said forms) t.problem (sym q);
  edge_count = ap (λ (p : Problem). length p.graph.edges) (sym q);
  constraint_count = ap (λ (p : Problem). length p.constraints) (sym q);
}

-- the names stay where a line declares none
names_kept : (forms : List FactsForm) (f : FactsForm) → universal_fact_in f ≡ None → further_fact_in f ≡ None
    → facts_names_said (forms ++ f ∷ []) ≡ facts_names_said forms
names_kept forms f u x = rw (kept_by universal_fact_in forms f u, kept_by further_fact_in forms f x) refl

-- ---- one more line, by its form

kept_set : {X : Type 0} (g : FactsForm → Option X) (forms : List FactsForm) (f : FactsForm) (ys zs : List X)
    → g f ≡ None
    → SameSet (filter_map g forms) ys → zs ≡ ys → SameSet (filter_map g (forms ++ f ∷ [])) zs
kept_set g forms f ys zs none same e =
    subst (λ xs. SameSet xs zs) (sym (kept_by g forms f none)) (subst (SameSet (filter_map g forms)) (sym e) same)

added_set : {X : Type 0} (g : FactsForm → Option X) (forms : List FactsForm) (f : FactsForm) (x : X)
    (ys ys' : List X) → g f ≡ Some x
    → SameSet (filter_map g forms) ys → AddsFact ys ys' x → SameSet (filter_map g (forms ++ f ∷ [])) ys'
added_set g forms f x ys ys' some same adds =
    subst (λ xs. SameSet xs ys') (sym (added_by g forms f x some)) (same_added (filter_map g forms) ys x ys' same adds)

-- the edges and the constraints that are said
abbrev edges_said : List FactsForm → List (ℕ × ℕ)
edges_said forms = insert_all same_pair [] (filter_map edge_in forms)

abbrev constraints_said : List Name → List FactsForm → List Constraint
constraints_said names forms = insert_all same_constraint [] (filter_map (constraint_in names) forms)

-- the edges and constraints stay where a line has none
kept_edges : (forms : List FactsForm) (f : FactsForm) → edge_in f ≡ None
    → edges_said (forms ++ f ∷ []) ≡ edges_said forms
kept_edges forms f none = ap (insert_all same_pair []) (kept_by edge_in forms f none)

kept_constraints : (names : List Name) (forms : List FactsForm) (f : FactsForm) → constraint_in names f ≡ None
    → constraints_said names (forms ++ f ∷ []) ≡ constraints_said names forms
kept_constraints names forms f none = ap (insert_all same_constraint []) (kept_by (constraint_in names) forms f none)

both : {A : Type 0} (xs ys xs' ys' : List A) → xs' ≡ xs → ys' ≡ ys → SameSet xs ys → SameSet xs' ys'
both xs ys xs' ys' e k same = subst (λ zs. SameSet zs ys') (sym e) (subst (SameSet xs) (sym k) same)

-- the same facts, and as many
abbrev SameFacts : {X : Type 0} → List X → List X → Type 0
SameFacts xs ys = SameSet xs ys × (length xs ≡ length ys)

-- Where s says what the lines say, and one more line declares no name, its facts are what is left to look at.
module _ (forms : List FactsForm) (f : FactsForm) (s : SaidFacts) (h : SameSaid (facts_said forms) s) where
  edges_kept : edge_in f ≡ None → SameFacts (edges_said (forms ++ f ∷ [])) s.problem.graph.edges
  edges_kept none =
      let e = kept_edges forms f none in (both _ _ _ _ e refl h.problem.edges, ap length e ∙ h.edge_count)

  constraints_kept : constraint_in (facts_names_said forms) f ≡ None
      → SameFacts (constraints_said (facts_names_said forms) (forms ++ f ∷ [])) s.problem.constraints
  constraints_kept none =
      let e = kept_constraints (facts_names_said forms) forms f none in
      (both _ _ _ _ e refl h.problem.constraints, ap length e ∙ h.constraint_count)

  returns_kept : return_in f ≡ None → SameSet (filter_map return_in (forms ++ f ∷ [])) s.problem.graph.returns
  returns_kept none = kept_set return_in forms f _ _ none h.problem.returns refl

  bases_kept : base_in (facts_names_said forms) f ≡ None
      → SameSet (filter_map (base_in (facts_names_said forms)) (forms ++ f ∷ [])) s.problem.bases
  bases_kept none = kept_set (base_in (facts_names_said forms)) forms f _ _ none h.problem.bases refl

  outlives_kept : outlives_fact_in (facts_universals_said forms) f ≡ None
      → SameSet (filter_map (outlives_fact_in (facts_universals_said forms)) (forms ++ f ∷ [])) s.problem.outlives
  outlives_kept none = kept_set (outlives_fact_in (facts_universals_said forms)) forms f _ _ none h.problem.outlives
      refl

  same_after : (t : SaidFacts) (r : Problem) → t.problem ≡ r → universal_fact_in f ≡ None → further_fact_in f ≡ None
      → points_in f ≡ None → t.reached ≡ last_fact_group (forms ++ f ∷ []) → t.names ≡ s.names
      → r.graph.points ≡ s.problem.graph.points
      → r.graph.universals ≡ s.problem.graph.universals → r.regions ≡ s.problem.regions
      → SameFacts (edges_said (forms ++ f ∷ [])) r.graph.edges
      → SameSet (filter_map return_in (forms ++ f ∷ [])) r.graph.returns
      → SameSet (filter_map (base_in (facts_names_said forms)) (forms ++ f ∷ [])) r.bases
      → SameFacts (constraints_said (facts_names_said forms) (forms ++ f ∷ [])) r.constraints
      → SameSet (filter_map (outlives_fact_in (facts_universals_said forms)) (forms ++ f ∷ [])) r.outlives
      → SameSaid (facts_said (forms ++ f ∷ [])) t
  same_after t r q u x p reach names count universals regions edges returns bases constraints longer =
      let named : facts_names_said (forms ++ f ∷ []) ≡ facts_names_said forms = names_kept forms f u x in
      let all : facts_universals_said (forms ++ f ∷ []) ≡ facts_universals_said forms =
      ap (λ xs. codes "static" ∷ xs) (kept_by universal_fact_in forms f u) in
      let of_names = subst (λ ns. SameFacts (constraints_said ns (forms ++ f ∷ [])) r.constraints) (sym named)
      constraints in
      record {
        reached = sym reach;
        names = named ∙ (h.names ∙ sym names);
        problem = subst (SameProblem (facts_said (forms ++ f ∷ [])).problem) (sym q) (record {
          points = ap first_or_zero (kept_by points_in forms f p) ∙ (h.problem.points ∙ sym count);
          universals = ap length all ∙ (h.problem.universals ∙ sym universals);
          regions = ap length named ∙ (h.problem.regions ∙ sym regions);
          edges = edges.0;
          returns = returns;
          bases = subst (λ ns. SameSet (filter_map (base_in ns) (forms ++ f ∷ [])) r.bases) (sym named) bases;
          constraints = of_names.0;
          outlives = subst (λ us. SameSet (filter_map (outlives_fact_in us) (forms ++ f
              ∷ [])) r.outlives) (sym all) longer;
        });
        edge_count = edges.1 ∙ sym (ap (λ (z : Problem). length z.graph.edges) q);
        constraint_count = of_names.1 ∙ sym (ap (λ (z : Problem). length z.constraints) q);
      }

-- a name's number among the universal regions, which stand in front
front_step : (b : Bool) (n m l : ℕ) → (n < l → n ≡ m) → cond (not b) (1 + n) 0 < suc l
    → cond (not b) (1 + n) 0 ≡ cond (not b) (1 + m) 0
front_step true n m l later h = refl
front_step false n m l later h = ap (λ k. 1 + k) (later (omega arith))

number_front : (us fs : List Name) (a : Name) → number_of (us ++ fs) a < length us
    → number_of (us ++ fs) a ≡ number_of us a
number_front [] fs a h = absurd (omega arith)
number_front (u ∷ us) fs a h =
    front_step (bytes_eq a u) (number_of (us ++ fs) a) (number_of us a) (length us) (number_front us fs a) h

-- the regions of an outlives fact that has no fault are universal
both_universal : (b u v : Bool) (o : Option TextKind)
    → cond (not b) (Some Syntax) (cond (not (u && v)) (Some Unknown) o) ≡ None → (u ≡ true) × (v ≡ true)
both_universal false u v o e = absurd cc
both_universal true true true o e = (refl, refl)
both_universal true true false o e = absurd cc
both_universal true false v o e = absurd cc

-- One more line without a fault is said.
pub adds_said : (forms : List FactsForm) (s t : SaidFacts) (f : FactsForm) → SameSaid (facts_said forms) s
    → first_facts_fault s f ≡ None
    → AddsFacts s f t → SameSaid (facts_said (forms ++ f ∷ [])) t
adds_said forms s t (points n) h fine a =
    let none : forms ≡ [] = none_yet forms (h.reached ∙ first_points s.reached (in_order s (points n) fine)) in
    let named : s.names ≡ codes "static" ∷ [] = sym h.names ∙ ap facts_names_said none in
    subst (λ fs. SameSaid (facts_said (fs ++ points n ∷ [])) t) (sym none)
    (exact (points n ∷ []) t a.group (a.takes.0 ∙ named)
    (a.takes.1 ∙ ap (λ (ns : List Name). bare n (length ns)) named))
adds_said forms s t (universal x) h fine a =
    let before : last_fact_group forms ≤ 2 =
    omega (arith, ordered s.reached 2 true (in_order s (universal x) fine), h.reached) in
    let late : last_fact_group (forms ++ universal x ∷ []) ≡ 2 = omega (arith, reached_push forms (universal x)) in
    let one : facts_universals_said (forms ++ universal x ∷ []) ≡ facts_universals_said forms ++ x ∷ [] =
    ap (λ xs. codes "static" ∷ xs) (added_by universal_fact_in forms (universal x) x refl) in
    let named : s.names ≡ facts_universals_said forms = sym h.names ∙ universals_alone forms before in
    exact (forms ++ universal x ∷ []) t (a.group ∙ sym late)
    (a.takes.0 ∙ (ap (λ ns. ns ++ x ∷ []) named
    ∙ (sym one ∙ sym (universals_alone (forms ++ universal x ∷ []) (omega arith)))))
    (a.takes.1 ∙ (same_bare _ _ _ _
    (sym h.problem.points ∙ sym (ap first_or_zero (kept_by points_in forms (universal x) refl)))
    (omega (arith, ap length named, ap length one, length-append (facts_universals_said forms) (x ∷ [])))
    ∙ sym (bare_said (forms ++ universal x ∷ []) (omega arith))))
  where
    same_bare : (p u q v : ℕ) → p ≡ q → u ≡ v → bare p u ≡ bare q v
    same_bare p u q v e k = cc
adds_said forms s t (outlives x y) h fine a =
    let before : last_fact_group forms ≤ 3 =
    omega (arith, ordered s.reached 3 true (in_order s (outlives x y) fine), h.reached) in
    let regions = both_universal (is_fact_in_order s (outlives x y)) (is_universal_name s x)
    (is_universal_name s y) None fine in
    let number : (z : Name) → nat_lt (number_of s.names z) s.problem.graph.universals ≡ true
    → number_of s.names z ≡ number_of (facts_universals_said forms) z = λ z is.
    subst (λ ns. number_of ns z ≡ number_of (facts_universals_said forms) z) h.names
    (number_front (facts_universals_said forms) (filter_map further_fact_in forms) z
    (subst (λ ns. number_of ns z < length (facts_universals_said forms)) (sym h.names)
    (subst (λ k. number_of s.names z < k) (sym h.problem.universals) (ltb-true _ _ is)))) in
    let adds : AddsFact s.problem.outlives t.problem.outlives
    (number_of (facts_universals_said forms) x, number_of (facts_universals_said forms) y) =
    subst (λ (k : ℕ). AddsFact s.problem.outlives t.problem.outlives (k, number_of (facts_universals_said forms) y))
    (number x regions.0)
    (subst (λ (k : ℕ). AddsFact s.problem.outlives t.problem.outlives (number_of s.names x, k))
    (number y regions.1) a.takes.2) in
    same_after forms (outlives x y) s h t _ a.takes.1 refl refl refl
    (a.group ∙ omega (arith, reached_push forms (outlives x y))) a.takes.0 refl refl refl
    (edges_kept forms (outlives x y) s h refl) (returns_kept forms (outlives x y) s h refl)
    (bases_kept forms (outlives x y) s h refl) (constraints_kept forms (outlives x y) s h refl)
    (added_set (outlives_fact_in (facts_universals_said forms)) forms (outlives x y) _ _ _ refl h.problem.outlives adds)
adds_said forms s t (further x) h fine a =
    let before : last_fact_group forms ≤ 4 = omega (
      arith,
      ordered s.reached 4 true (in_order s
          (further x) fine),
      h.reached,
    ) in
    let after : last_fact_group (forms ++ further x ∷ []) ≤ 4 = omega (arith, reached_push forms (further x)) in
    let all : facts_universals_said (forms ++ further x ∷ []) ≡ facts_universals_said forms =
    ap (λ xs. codes "static" ∷ xs) (kept_by universal_fact_in forms (further x) refl) in
    let others = added_by further_fact_in forms (further x) x refl in
    let named : facts_names_said (forms ++ further x ∷ []) ≡ facts_names_said forms ++ x ∷ [] =
    ap (λ us. us ++ filter_map further_fact_in (forms ++ further x ∷ [])) all
    ∙ (ap (λ xs. facts_universals_said forms ++ xs) others
    ∙ sym (append_assoc (facts_universals_said forms) (filter_map further_fact_in forms) (x ∷ []))) in
    let old : List Name = facts_names_said forms in
    let new : List Name = facts_names_said (forms ++ further x ∷ []) in
    let bases : filter_map (base_in new) (forms ++ further x ∷ []) ≡ filter_map (base_in old) forms =
    none_before (base_in new) 4 (base_early new) (forms ++ further x ∷ []) after
    ∙ sym (none_before (base_in old) 4 (base_early old) forms before) in
    let constraints : constraints_said new (forms ++ further x ∷ []) ≡ constraints_said old forms =
    ap (insert_all same_constraint [])
    (none_before (constraint_in new) 4 (constraint_early new) (forms ++ further x ∷ []) after
    ∙ sym (none_before (constraint_in old) 4 (constraint_early old) forms before)) in
    let edges = edges_kept forms (further x) s h refl in
    record {
      reached = omega (arith, a.group, reached_push forms (further x));
      names = named ∙ (ap (λ ns. ns ++ x ∷ []) h.names ∙ sym a.takes.0);
      problem = subst (SameProblem (facts_said (forms ++ further x ∷ [])).problem) (sym a.takes.1) (record {
        points = ap first_or_zero (kept_by points_in forms (further x) refl) ∙ h.problem.points;
        universals = ap length all ∙ h.problem.universals;
        regions = omega (arith, ap length named, length-append old (x ∷ []), h.problem.regions);
        edges = edges.0;
        returns = returns_kept forms (further x) s h refl;
        bases = both _ _ _ _ bases refl h.problem.bases;
        constraints = both _ _ _ _ constraints refl h.problem.constraints;
        outlives =
            subst (λ us. SameSet (filter_map (outlives_fact_in us) (forms ++ further x
            ∷ [])) s.problem.outlives) (sym all)
            (outlives_kept forms (further x) s h refl);
      });
      edge_count = edges.1 ∙ sym (ap (λ (z : Problem). length z.graph.edges) a.takes.1);
      constraint_count =
          ap length constraints ∙ (h.constraint_count ∙ sym (ap (λ (z : Problem). length z.constraints) a.takes.1));
    }
adds_said forms s t (next p q) h fine a =
    let before : last_fact_group forms ≤ 5 = omega (
      arith,
      ordered s.reached 5 true (in_order s
          (next p q) fine),
      h.reached,
    ) in
    let more : edges_said (forms ++ next p q ∷ []) ≡ insert_key same_pair (edges_said forms) (p, q) =
    ap (insert_all same_pair []) (added_by edge_in forms (next p q) (p, q) refl)
    ∙ insert_all_push same_pair [] (filter_map edge_in forms) (p, q) in
    same_after forms (next p q) s h t _ a.takes.1 refl refl refl
    (a.group ∙ omega (arith, reached_push forms (next p q))) a.takes.0 refl refl refl (
      subst (λ xs. SameSet xs t.problem.graph.edges) (sym more)
          (same_grown _ _ (p, q) _ _ h.problem.edges (adds_pair (edges_said forms) (p, q)) a.takes.2),
      ap length more ∙ length_grown _ _ (p, q) _ _ h.problem.edges h.edge_count
          (adds_pair (edges_said forms) (p, q)) a.takes.2 (pair_known (edges_said forms) (p, q)),
    )
    (returns_kept forms (next p q) s h refl) (bases_kept forms (next p q) s h refl)
    (constraints_kept forms (next p q) s h refl) (outlives_kept forms (next p q) s h refl)
adds_said forms s t (return p) h fine a =
    let before : last_fact_group forms ≤ 5 = omega (
      arith,
      ordered s.reached 5 true (in_order s
          (return p) fine),
      h.reached,
    ) in
    same_after forms (return p) s h t _ a.takes.1 refl refl refl
    (a.group ∙ omega (arith, reached_push forms (return p))) a.takes.0 refl refl refl
    (edges_kept forms (return p) s h refl)
    (added_set return_in forms (return p) p _ _ refl h.problem.returns a.takes.2)
    (bases_kept forms (return p) s h refl) (constraints_kept forms (return p) s h refl)
    (outlives_kept forms (return p) s h refl)
adds_said forms s t (base x p) h fine a =
    let before : last_fact_group forms ≤ 5 = omega (
      arith,
      ordered s.reached 5 true (in_order s
          (base x p) fine),
      h.reached,
    ) in
    same_after forms (base x p) s h t _ a.takes.1 refl refl refl
    (a.group ∙ omega (arith, reached_push forms (base x p))) a.takes.0 refl refl refl
    (edges_kept forms (base x p) s h refl) (returns_kept forms (base x p) s h refl)
    (added_set (base_in (facts_names_said forms)) forms (base x p) _ _ _ refl h.problem.bases
    (subst (λ ns. AddsFact s.problem.bases t.problem.bases (number_of ns x, p)) (sym h.names) a.takes.2))
    (constraints_kept forms (base x p) s h refl) (outlives_kept forms (base x p) s h refl)
adds_said forms s t (constraint x y p) h fine a =
    let before : last_fact_group forms ≤ 5 =
    omega (arith, ordered s.reached 5 true (in_order s (constraint x y p) fine), h.reached) in
    let c : Constraint =
    record { sup = number_of (facts_names_said forms) x; sub = number_of (facts_names_said forms) y; at = p } in
    let old : List Constraint = constraints_said (facts_names_said forms) forms in
    let more : constraints_said (facts_names_said forms) (forms ++ constraint x y p
    ∷ []) ≡ insert_key same_constraint old c =
    ap (insert_all same_constraint []) (added_by (constraint_in (facts_names_said forms)) forms
    (constraint x y p) c refl)
    ∙ insert_all_push same_constraint [] (filter_map (constraint_in (facts_names_said forms)) forms) c in
    let adds : AddsFact s.problem.constraints t.problem.constraints c =
    subst (λ ns. AddsFact s.problem.constraints t.problem.constraints
    (record { sup = number_of ns x; sub = number_of ns y; at = p })) (sym h.names) a.takes.2 in
    same_after forms (constraint x y p) s h t _ a.takes.1 refl refl refl
    (a.group ∙ omega (arith, reached_push forms (constraint x y p))) a.takes.0 refl refl refl
    (edges_kept forms (constraint x y p) s h refl) (returns_kept forms (constraint x y p) s h refl)
    (bases_kept forms (constraint x y p) s h refl) (
      subst (λ zs. SameSet zs t.problem.constraints) (sym more)
          (same_grown _ _ c _ _ h.problem.constraints (adds_constraint old c) adds),
      ap length more ∙ length_grown _ _ c _ _ h.problem.constraints h.constraint_count (adds_constraint old c) adds
          (constraint_known old c),
    )
    (outlives_kept forms (constraint x y p) s h refl)
adds_said forms s t (end) h fine a =
    let before : last_fact_group forms ≤ 6 = omega (
      arith,
      ordered s.reached 6 false (in_order s
          (end) fine),
      h.reached,
    ) in
    same_after forms (end) s h t _ a.takes.1 refl refl refl
    (a.group ∙ omega (arith, reached_push forms (end))) a.takes.0 refl refl refl (edges_kept forms (end) s h refl)
    (returns_kept forms (end) s h refl)
    (bases_kept forms (end) s h refl) (constraints_kept forms (end) s h refl) (outlives_kept forms (end) s h refl)
