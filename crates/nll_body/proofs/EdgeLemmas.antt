-- What adding an edge answers, and how many targets there are.
use Rattle.std.proofs.Common.{◌≡◌, ◌⊎◌, ℕ, ◌+◌, ◌<◌, ◌≤◌, Bool, true, false, cond, List, [], ◌∷◌, ◌++◌, Contains, length, Some, inl, inr, refl, sym, ap, ◌∙◌, subst, ⊎_elim, arith, length-append, suc, nat_eq, get_or, take, drop}
use Rattle.std.specs.Prelude.{◌==◌, slice_get}
use Rattle.std.specs.List.{fold, list_any}
use Rattle.std.proofs.lemmas.Bool.{false≢true}
use Rattle.std.proofs.lemmas.List.{get_or_default, take-append-drop, take_more}
use Rattle.std.proofs.lemmas.Option.{slice_get-get_or}
use Rattle.std.proofs.lemmas.List.Sums.{fold-append}
use Rattle.std.proofs.lemmas.List.Elements.{Contains-push, Contains-push_cases, Contains-append_left}
use Rattle.indexmap.specs.IndexSet.{insert_key, insert_all}
use Rattle.nll_problem.specs.Answers.{AddsFact}
use Rattle.nll_problem.specs.Limits.{most_edges}
use Rattle.nll_problem.specs.Graph.{Graph, IsNext}
use Rattle.nll_problem.specs.GraphBuilding.{same_pair}
use Rattle.nll_problem.proofs.FactLemmas.{adds_number, number_found, pair_found}
use Rattle.nll_body.specs.Edges.{LeadsToBlock}
use Rattle.nll_body.specs.Making.{AddsTargets}

-- blocks, each once
abbrev pub once : List ℕ → List ℕ
once blocks = insert_all (λ b c. b == c) [] blocks

abbrev put : List ℕ → ℕ → List ℕ
put ks k = insert_key (λ b c. b == c) ks k

-- inserting keeps what is there
grows_key : (ks : List ℕ) (k : ℕ) → length ks ≤ length (put ks k)
grows_key ks k = by (list_any (λ c. k == c) ks)
  where
    by : (b : Bool) → length ks ≤ length (cond b ks (ks ++ k ∷ []))
    by true = omega arith
    by false = omega (arith, length-append ks (k ∷ []))

grows : (ks xs : List ℕ) → length ks ≤ length (fold (λ ys y. put ys y) ks xs)
grows ks [] = omega arith
grows ks (x ∷ xs) = omega (arith, grows_key ks x, grows (put ks x) xs)

here : (b : ℕ) (xs : List ℕ) → Contains (b ∷ xs) b
here b xs = (0, omega arith, refl)

later : (x : ℕ) (xs : List ℕ) (b : ℕ) → Contains xs b → Contains (x ∷ xs) b
later x xs b h = (suc h.0, omega (arith, h.1), h.2)

-- and puts nothing else there
kept : (ks xs : List ℕ) (b : ℕ) → Contains (fold (λ ys y. put ys y) ks xs) b → Contains ks b ⊎ Contains xs b
kept ks [] b h = inl h
kept ks (x ∷ xs) b h = ⊎_elim
    (λ there. ⊎_elim inl (λ is. inr (subst (λ y. Contains (y ∷ xs) b) (sym is) (here b xs)))
    (((adds_number ks x).each b).0 there))
    (λ more. inr (later x xs b more))
    (kept (put ks x) xs b h)

-- one more block is one more, where it isn't among them
once_push : (front : List ℕ) (b : ℕ) → once (front ++ b ∷ []) ≡ put (once front) b
once_push front b = fold-append (λ ys y. put ys y) [] front (b ∷ [])

pub once_more : (front : List ℕ) (b : ℕ) → (Contains front b → ⊥)
    → length (once (front ++ b ∷ [])) ≡ length (once front) + 1
once_more front b absent =
    rw (once_push front b) ((adds_number (once front) b).counted
    (λ h. ⊎_elim (λ none. none_there none) absent (kept [] front b h)))
  where
    none_there : Contains [] b → ⊥
    none_there h = absurd (omega (arith, h.1))

pub once_less : (front : List ℕ) (b : ℕ) → length (once front) ≤ length (once (front ++ b ∷ []))
once_less front b = rw (once_push front b) (grows_key (once front) b)

pub once_front : (front back : List ℕ) → length (once front) ≤ length (once (front ++ back))
once_front front back = rw (fold-append (λ ys y. put ys y) [] front back) (grows (once front) back)

-- an edge that is added is one more at most
pub one_more : (old new : List (ℕ × ℕ)) (x : ℕ × ℕ) → AddsFact old new x → length new ≤ length old + 1
one_more old new x adds = by (list_any (same_pair x) old) refl
  where
    by : (b : Bool) → list_any (same_pair x) old ≡ b → length new ≤ length old + 1
    by true h = rw (adds.repeated ((pair_found old x.0 x.1).0 h)) (omega arith)
    by false h = omega (arith, adds.counted (λ n. false≢true (sym h ∙ (pair_found old x.0 x.1).1 n)))

some_same : (q r : ℕ) → Some q ≡ Some r → q ≡ r
some_same q r h = cc

-- equal pairs have equal parts
pub pair_left : (a c d e : ℕ) → ◌≡◌ {A = ℕ × ℕ} (a, c) (d, e) → d ≡ a
pair_left a c d e h = sym (ap (λ (x : ℕ × ℕ). x.0) h)

pub pair_right : (a c d e : ℕ) → ◌≡◌ {A = ℕ × ℕ} (a, c) (d, e) → c ≡ e
pair_right a c d e h = ap (λ (x : ℕ × ℕ). x.1) h

pub pair : (a c d e : ℕ) → a ≡ d → c ≡ e → ◌≡◌ {A = ℕ × ℕ} (a, c) (d, e)
pair a c d e h k = cc

-- the edge to one more block
pub targets_step : (starts : List ℕ) (p : ℕ) (front : List ℕ) (b q : ℕ) (old mid new : Graph)
    → AddsTargets starts p front old mid → AddsFact mid.edges new.edges (p, q) → new ≡ record mid { edges = new.edges }
    → slice_get starts b ≡ Some q → AddsTargets starts p (front ++ b ∷ []) old new
targets_step starts p front b q old mid new before adds same at = record {
  others = same ∙ ap (λ (g : Graph). record g { edges = new.edges }) before.others;
  next = λ r s. (
    λ h. ⊎_elim
        (λ there. ⊎_elim inl (λ led. inr (
          led.0,
          (led.1.0, Contains-append_left front (b ∷ []) led.1.0 led.1.1, led.1.2),
        )) ((before.next r s).0 there))
        (λ is. inr (pair_left p q r s is, (b, Contains-push front b, at ∙ ap Some (pair_right p q r s is))))
        ((adds.each (r, s)).0 h),
    λ h. (adds.each (r, s)).1 (⊎_elim
        (λ there. inl ((before.next r s).1 (inl there)))
        (λ led. ⊎_elim
        (λ in_front. inl ((before.next r s).1 (inr (led.0, (led.1.0, in_front, led.1.2)))))
        (λ is. inr (pair p q r s (sym led.0) (some_same q s (sym at ∙ (ap (slice_get starts) is ∙ led.1.2)))))
        (Contains-push_cases front b led.1.0 led.1.1))
        h),
  );
  counted = by (list_any (λ c. nat_eq b c) front) refl;
}
  where
    by : (t : Bool) → list_any (λ c. nat_eq b c) front ≡ t
        → length new.edges ≤ length old.edges + length (once (front ++ b ∷ []))
    by true h =
        let there : IsNext mid p q = (before.next p q).1 (inr (refl, (b, (number_found front b).0 h, at))) in
        rw (adds.repeated there) (omega (arith, before.counted, once_less front b))
    by false h =
        omega (
          arith,
          before.counted,
          one_more mid.edges new.edges (p, q) adds,
          once_more front b (λ n. false≢true (sym h ∙ (number_found front b).1 n)),
        )

-- there is room for the edge to one more block
pub targets_room : (starts : List ℕ) (p : ℕ) (front back : List ℕ) (b q : ℕ) (old mid : Graph)
    → AddsTargets starts p front old mid → slice_get starts b ≡ Some q
    → length old.edges + length (once ((front ++ b ∷ []) ++ back)) ≤ most_edges → (IsNext mid p q → ⊥)
    → length mid.edges < most_edges
targets_room starts p front back b q old mid before at room absent =
    omega (
      arith,
      room,
      before.counted,
      once_front (front ++ b ∷ []) back,
      once_more front b (λ h. absent ((before.next p q).1 (inr (refl, (b, h, at))))),
    )

-- what stands at a place of a list is in it
pub item_in : (xs : List ℕ) (k : ℕ) → k < length xs → Contains xs (get_or xs k 0)
item_in xs k within = (k, within, get_or_default xs k (get_or xs k 0) 0 within)

-- a loop over the blocks: the first point of the next one
pub next_led : (starts blocks : List ℕ) (k : ℕ) → k < length blocks → get_or blocks k 0 < length starts
    → LeadsToBlock starts blocks (get_or starts (get_or blocks k 0) 0)
next_led starts blocks k within start =
    (get_or blocks k 0, item_in blocks k within, slice_get-get_or starts (get_or blocks k 0) 0 start)

-- and its edge
pub next_room : (starts : List ℕ) (p : ℕ) (blocks : List ℕ) (k : ℕ) (old mid : Graph) → k < length blocks
    → get_or blocks k 0 < length starts → AddsTargets starts p (take k blocks) old mid
    → length old.edges + length (once blocks) ≤ most_edges → (IsNext mid p (get_or starts (get_or blocks k 0) 0) → ⊥)
    → length mid.edges < most_edges
next_room starts p blocks k old mid within start before room =
    targets_room starts p (take k blocks) (drop (k + 1) blocks) (get_or blocks k 0)
    (get_or starts (get_or blocks k 0) 0) old mid before (slice_get-get_or starts (get_or blocks k 0) 0 start)
    (subst (λ (xs : List ℕ). length old.edges + length (once xs) ≤ most_edges)
    (sym (ap (λ (xs : List ℕ). xs ++ drop (k + 1) blocks) (sym (take_more blocks k 0 within))
    ∙ take-append-drop (k + 1) blocks)) room)

pub next_step : (starts : List ℕ) (p : ℕ) (blocks : List ℕ) (k : ℕ) (old mid new : Graph) → k < length blocks
    → get_or blocks k 0 < length starts → AddsTargets starts p (take k blocks) old mid
    → AddsFact mid.edges new.edges (p, get_or starts (get_or blocks k 0) 0) → new ≡ record mid { edges = new.edges }
    → AddsTargets starts p (take (k + 1) blocks) old new
next_step starts p blocks k old mid new within start before adds same =
    subst (λ (xs : List ℕ). AddsTargets starts p xs old new) (sym (take_more blocks k 0 within))
    (targets_step starts p (take k blocks) (get_or blocks k 0)
    (get_or starts (get_or blocks k 0) 0) old mid new before adds same
    (slice_get-get_or starts (get_or blocks k 0) 0 start))
