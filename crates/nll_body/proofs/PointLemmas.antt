-- What a point adds to the graph.
use Rattle.std.proofs.Common.{◌≡◌, ℕ, ◌+◌, true, false, List, [], ◌++◌, Contains, inl, inr, refl, sym, ap, ◌∙◌, subst, ⊎_elim, arith}
use Rattle.std.proofs.lemmas.Bool.{false≢true}
use Rattle.nll_problem.specs.Answers.{AddsFact}
use Rattle.nll_problem.specs.Graph.{Graph}
use Rattle.nll_body.specs.Statements.{Statement, is_terminator, return, assign, borrow, make, read, live, dead, nop, goto, switch, drop, call, stop}
use Rattle.nll_body.specs.Effects.{targets}
use Rattle.nll_body.specs.Edges.{LeadsToBlock}
use Rattle.nll_body.specs.Making.{AddsTargets, AddsEdges, AddsPoint}
use Rattle.nll_body.proofs.EdgeLemmas.{one_more, pair, pair_left, pair_right}

-- a statement has no targets
pub no_targets : {R T : Type 0} (i : Statement R T) → is_terminator i ≡ false → targets i ≡ []
no_targets (assign p op) h = refl
no_targets (borrow p r m q) h = refl
no_targets (make p t ops) h = refl
no_targets (read p) h = refl
no_targets (live x) h = refl
no_targets (dead x) h = refl
no_targets nop h = refl
no_targets (goto b) h = absurd (false≢true (sym h))
no_targets (switch op bs) h = absurd (false≢true (sym h))
no_targets (drop x b unwind) h = absurd (false≢true (sym h))
no_targets (call p args t wheres b unwind) h = absurd (false≢true (sym h))
no_targets return h = refl
no_targets stop h = refl

nowhere : (starts : List ℕ) (q : ℕ) → LeadsToBlock starts [] q → ⊥
nowhere starts q led = none_there led.1
  where
    none_there : Contains [] led.0 → ⊥
    none_there h = absurd (omega (arith, h.1))

-- the edge behind a statement
pub statement_edge : {R T : Type 0} (starts : List ℕ) (p : ℕ) (i : Statement R T) (old new : Graph)
    → is_terminator i ≡ false → AddsFact old.edges new.edges (p, p + 1) → new ≡ record old { edges = new.edges }
    → AddsEdges starts p i old new
statement_edge starts p i old new plain adds same = record {
  others = same;
  next = λ r q. (
    λ h. ⊎_elim inl (λ is. inr (pair_left p (p + 1) r q is, inl (plain, sym (pair_right p (p + 1) r q is))))
        ((adds.each (r, q)).0 h),
    λ h. (adds.each (r, q)).1 (⊎_elim inl (λ leaves. inr (⊎_elim
        (λ behind. pair p (p + 1) r q (sym leaves.0) (sym behind.1))
        (λ led. absurd (nowhere starts q (subst (λ bs. LeadsToBlock starts bs q) (no_targets i plain) led)))
        leaves.1)) h),
  );
  counted = rw plain (one_more old.edges new.edges (p, p + 1) adds);
}

-- the edges behind a terminator
pub terminator_edges : {R T : Type 0} (starts : List ℕ) (p : ℕ) (i : Statement R T) (old new : Graph)
    → is_terminator i ≡ true → AddsTargets starts p (targets i) old new → AddsEdges starts p i old new
terminator_edges starts p i old new ends adds = record {
  others = adds.others;
  next = λ r q. (
    λ h. ⊎_elim inl (λ led. inr (led.0, inr led.1)) ((adds.next r q).0 h),
    λ h. (adds.next r q).1 (⊎_elim inl (λ leaves. ⊎_elim
        (λ behind. absurd (false≢true (sym behind.0 ∙ ends)))
        (λ led. inr (leaves.0, led))
        leaves.1) h),
  );
  counted = rw ends adds.counted;
}

-- a return point
pub return_point : {R T : Type 0} (starts : List ℕ) (p : ℕ) (i : Statement R T) (old mid new : Graph)
    → AddsEdges starts p i old mid → i ≡ return → AddsFact mid.returns new.returns p
    → new ≡ record mid { returns = new.returns } → AddsPoint starts p i old new
return_point starts p i old mid new adds is returned same =
    let edges : new.edges ≡ mid.edges = ap (λ (g : Graph). g.edges) same in
    let before : mid.returns ≡ old.returns = ap (λ (g : Graph). g.returns) adds.others in
    record {
      points = ap (λ (g : Graph). g.points) same ∙ ap (λ (g : Graph). g.points) adds.others;
      universals = ap (λ (g : Graph). g.universals) same ∙ ap (λ (g : Graph). g.universals) adds.others;
      next = λ r q. rw edges (adds.next r q);
      returns = λ r. (
        λ h. ⊎_elim (λ there. inl (subst (λ xs. Contains xs r) before there)) (λ here. inr (sym here, is))
            ((returned.each r).0 h),
        λ h. (returned.each r).1 (⊎_elim (λ there. inl (subst (λ xs. Contains xs r) (sym before) there))
            (λ here. inr (sym here.0)) h),
      );
      counted = rw edges adds.counted;
    }

-- any other point
pub other_point : {R T : Type 0} (starts : List ℕ) (p : ℕ) (i : Statement R T) (old new : Graph)
    → AddsEdges starts p i old new → (i ≡ return → ⊥) → AddsPoint starts p i old new
other_point starts p i old new adds isnt = grind (arith, ⊎_elim)

-- the targets, put into an empty list
pub targets_listed : {R T : Type 0} (i : Statement R T) (empty filled listed : List ℕ) → listed ≡ filled
    → filled ≡ empty ++ targets i → empty ≡ [] → listed ≡ targets i
targets_listed i empty filled listed same put none = same ∙ put ∙ ap (λ (xs : List ℕ). xs ++ targets i) none
