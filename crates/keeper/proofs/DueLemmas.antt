-- What is due.
use Rattle.std.proofs.Common.{◌≡◌, ⊎_elim, inl, inr, ℕ, Bool, false, ◌||◌, IsTrue, List, [], ◌∷◌, ◌++◌, Contains, refl, sym, ap, ◌∙◌, subst, arith}
use Rattle.std.proofs.lemmas.Bool.{false≢true}
use Rattle.std.proofs.lemmas.List.Elements.{Contains-append_left, Contains-push_cases}
use Rattle.fixpoint.specs.Rules.{Rules, AreLawful}
use Rattle.fixpoint.specs.State.{State, IsDone}
use Rattle.fixpoint.proofs.LogLemmas.{tells_from}
use Rattle.keeper.specs.Engine.{MayEnter, Finds, with_fact, nothing}
use Rattle.keeper.specs.Keeping.{ListsDue, has}
use Rattle.keeper.proofs.KeepingLemmas.{derives_more}
use Rattle.keeper.proofs.ListLemmas.{or_cases, or_right, same_truth}

module _ {A F G : Type 0} (rules : Rules A F G) (lawful : AreLawful rules) (a : A) (ok : rules.valid a) (i : ℕ) where
  -- what was found by some facts is found by more
  found_more : (known more : F → Bool) → ((f : F) → IsTrue (known f) → IsTrue (more f)) → (f : F)
      → MayEnter rules a i known f → MayEnter rules a i more f
  found_more known more each f h = grind (arith, derives_more)

  -- a fact that was due was entered, and with it what follows
  pub due_entered : (known more : F → Bool) (list new : List F) (fact : F)
      → ListsDue rules a i known (list ++ fact ∷ []) → ((f : F) → more f ≡ with_fact rules fact known f)
      → Finds rules a i more (λ f. rules.derives a known f) list new → ListsDue rules a i more new
  due_entered known more list new fact due is finds = record {
    each = λ f h. ⊎_elim
        (λ old. found_more known more kept f (due.each f (Contains-append_left list (fact ∷ []) f old)))
        (λ found. found)
        (finds.each f h);
    all = λ f own follows. ⊎_elim
        (λ before. ⊎_elim (λ k. inl (kept f k))
        (λ h. ⊎_elim (λ old. inr (finds.kept f old)) (λ same. inl (subst (λ x. IsTrue (more x)) same here))
        (Contains-push_cases list fact f h))
        (due.all f own before))
        (λ h. inr h)
        (finds.all f own follows);
  }
    where
      kept : (f : F) → IsTrue (known f) → IsTrue (more f)
      kept f k = is f ∙ or_right (rules.same fact f) (known f) k

      here : IsTrue (more fact)
      here = is fact ∙ ap (λ b. b || known fact) ((lawful.same_tells fact fact).1 refl)

  -- a fact came from outside, and with it what follows
  pub due_received : (known more : F → Bool) (list new : List F) (fact : F)
      → ListsDue rules a i known list → ((f : F) → more f ≡ with_fact rules fact known f)
      → Finds rules a i more (λ f. rules.derives a known f) list new → ListsDue rules a i more new
  due_received known more list new fact due is finds = record {
    each = grind (arith, ⊎_elim, found_more);
    all = λ f own follows. ⊎_elim
        (λ before. ⊎_elim (λ k. inl (kept f k)) (λ old. inr (finds.kept f old)) (due.all f own before))
        (λ h. inr h)
        (finds.all f own follows);
  }
    where
      kept : (f : F) → IsTrue (known f) → IsTrue (more f)
      kept f k = is f ∙ or_right (rules.same fact f) (known f) k

  -- the same facts are due where the same are known
  pub due_same : (known more : F → Bool) (list : List F) → ((f : F) → more f ≡ known f) → ListsDue rules a i known list
      → ListsDue rules a i more list
  due_same known more list is due = record {
    each = λ f h. found_more known more (λ g k. is g ∙ k) f (due.each f h);
    all = λ f own follows. ⊎_elim (λ k. inl (is f ∙ k)) (λ h. inr h)
        (due.all f own (derives_more rules lawful a ok more known (λ g k. sym (is g) ∙ k) f follows));
  }

  -- what follows from nothing is due where nothing is known
  pub due_first : (known : F → Bool) (old list : List F) → ((f : F) → known f ≡ false) → old ≡ []
      → Finds rules a i (nothing rules) (λ _. ⊥) old list → ListsDue rules a i known list
  due_first known old list none empty finds = record {
    each = λ f h. ⊎_elim
        (λ before. absurd (let l = (subst (λ xs. Contains xs f) empty before).1 in omega (arith, l)))
        (λ found. found_more (nothing rules) known (λ g k. absurd (false≢true k)) f found) (finds.each f h);
    all = λ f own follows. ⊎_elim (λ never. absurd never) (λ h. inr h)
        (finds.all f own (derives_more rules lawful a ok known (nothing rules) (λ g k. sym (none g) ∙ k) f follows));
  }

-- a fact more that is known already is none
pub already : {A F G : Type 0} (rules : Rules A F G) (lawful : AreLawful rules) (known : F → Bool) (fact : F)
    → IsTrue (known fact) → (f : F) → with_fact rules fact known f ≡ known f
already rules lawful known fact is f = grind (arith, same_truth, ⊎_elim, or_cases, or_right)

-- the same facts are due at the same owner of the same system
pub due_at : {A F G : Type 0} (rules : Rules A F G) (a b : A) (i j : ℕ) (known : F → Bool) (list : List F) → a ≡ b
    → i ≡ j → ListsDue rules b j known list → ListsDue rules a i known list
due_at rules a b i j known list system me due =
    subst (λ x. ListsDue rules x i known list) (sym system) (subst (λ k. ListsDue rules b k known list) (sym me) due)

-- nothing is left to do where nothing is due
pub done_now : {A F G : Type 0} (rules : Rules A F G) (lawful : AreLawful rules) (o : State A G) (list : List F)
    → ListsDue rules o.system o.me (has rules o) list → list ≡ [] → IsDone rules o
done_now rules lawful o list due none f own follows = grind (arith, ⊎_elim, tells_from)

-- ---- what an engine finds

module _ {A F G : Type 0} (rules : Rules A F G) (lawful : AreLawful rules) (b : A) (ok : rules.valid b) (i : ℕ) where
  pub finds_same : (a : A) (j : ℕ) → a ≡ b → j ≡ i → (known more known' more' : F → Bool)
      → ((f : F) → known' f ≡ known f) → ((f : F) → more' f ≡ more f) → (old new : List F)
      → Finds rules a j more (λ f. rules.derives a known f) old new
      → Finds rules b i more' (λ f. rules.derives b known' f) old new
  finds_same a j system me known more known' more' same_known same_more old new finds = here
      (subst (λ x. Finds rules x i more (λ f. rules.derives x known f) old new) system
      (subst (λ k. Finds rules a k more (λ f. rules.derives a known f) old new) me finds))
    where
      here : Finds rules b i more (λ f. rules.derives b known f) old new
          → Finds rules b i more' (λ f. rules.derives b known' f) old new
      here h = record {
        kept = h.kept;
        each = grind (arith, ⊎_elim, derives_more);
        all = λ f own follows. ⊎_elim
            (λ before. inl (derives_more rules lawful b ok known known' (λ g k. same_known g ∙ k) f before))
            inr
            (h.all f own (derives_more rules lawful b ok more' more (λ g k. sym (same_more g) ∙ k) f follows));
      }

  pub begins_same : (a : A) (j : ℕ) → a ≡ b → j ≡ i → (old new : List F)
      → Finds rules a j (nothing rules) (λ _. ⊥) old new → Finds rules b i (nothing rules) (λ _. ⊥) old new
  begins_same a j system me old new finds = grind arith
