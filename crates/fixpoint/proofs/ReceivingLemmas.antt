-- Lists of what was received, after growths of one owner.
use Rattle.std.proofs.Common.{◌≡◌, ◌⊎◌, ⊎_elim, ℕ, ◌+◌, ◌<◌, List, [], ◌∷◌, ◌++◌, length, set, get_or, take, drop, refl, sym, ap, ◌∙◌, inl, inr, arith, append-nil, append_assoc}
use Rattle.std.proofs.lemmas.Bool.{cases_lt}
use Rattle.std.proofs.lemmas.List.{get_or-set_same, length-set, set-get_or, set-set, set_past, take-append-drop, take_more}
use Rattle.fixpoint.specs.State.{State, with_growths, GotBeginning}

module _ {G : Type 0} where
  -- with no growths more the lists are as they were
  pub with_none : (lists : List (List G)) (j : ℕ) → with_growths lists j [] ≡ lists
  with_none lists j = ap (λ xs. set lists j xs) (append-nil (get_or lists j [])) ∙ set-get_or lists j []

  -- with growths, and then with one more
  pub with_more : (lists : List (List G)) (j : ℕ) (gs : List G) (g : G)
      → with_growths (with_growths lists j gs) j (g ∷ []) ≡ with_growths lists j (gs ++ g ∷ [])
  with_more lists j gs g =
      let old : List G = get_or lists j [] in
      ⊎_elim
      (λ within.
      ap (λ xs. set (with_growths lists j gs) j (xs ++ g ∷ [])) (get_or-set_same lists j (old ++ gs) [] within)
      ∙ (set-set lists j (old ++ gs) ((old ++ gs) ++ g ∷ [])
      ∙ ap (λ xs. set lists j xs) (append_assoc old gs (g ∷ []))))
      (λ past.
      set_past (with_growths lists j gs) j (get_or (with_growths lists j gs) j [] ++ g ∷ [])
      (omega (arith, past, length-set lists j (old ++ gs)))
      ∙ (set_past lists j (old ++ gs) past ∙ sym (set_past lists j (old ++ (gs ++ g ∷ [])) past)))
      (cases_lt j (length lists))

  -- what comes before a place, and what stands there
  pub take_next : (gs : List G) (i : ℕ) (g : G) → i < length gs → g ≡ get_or gs i g
      → take (i + 1) gs ≡ take i gs ++ g ∷ []
  take_next gs i g low is = take_more gs i g low ∙ ap (λ x. take i gs ++ x ∷ []) (sym is)

  pub got_first : (lists : List (List G)) (j n : ℕ) (gs : List G) (new : List (List G))
      → new ≡ with_growths lists j (take n gs) → GotBeginning lists j gs new
  got_first lists j n gs new is = (take n gs, (drop n gs, sym (take-append-drop n gs)), is)

  pub got_none : (lists : List (List G)) (j : ℕ) (gs : List G) (new : List (List G)) → new ≡ lists
      → GotBeginning lists j gs new
  got_none lists j gs new is = ([], (gs, refl), is ∙ sym (with_none lists j))

  pub got_all : (lists : List (List G)) (j : ℕ) (gs : List G) (new : List (List G)) → new ≡ with_growths lists j gs
      → GotBeginning lists j gs new
  got_all lists j gs new is = (gs, ([], sym (append-nil gs)), is)

  -- a beginning of one growth is none, or that one
  first_of_one : (some rest : List G) (g : G) → g ∷ [] ≡ some ++ rest → (some ≡ []) ⊎ (some ≡ g ∷ [])
  first_of_one [] rest g is = inl refl
  first_of_one (x ∷ []) rest g is = inr cc
  first_of_one (x ∷ y ∷ more) rest g is = absurd (omega (arith, ap length is))

  pub got_one : (lists : List (List G)) (j : ℕ) (g : G) (new : List (List G)) → GotBeginning lists j (g ∷ []) new
      → (new ≡ lists) ⊎ (new ≡ with_growths lists j (g ∷ []))
  got_one lists j g new got = ⊎_elim
      (λ none. inl (got.2 ∙ (ap (with_growths lists j) none ∙ with_none lists j)))
      (λ all. inr (got.2 ∙ ap (with_growths lists j) all))
      (first_of_one got.0 got.1.0 g got.1.1)

  -- some growths were received, and then perhaps the next one
  pub got_next : (lists middle new : List (List G)) (j i : ℕ) (gs : List G) (g : G) → i < length gs
      → g ≡ get_or gs i g → middle ≡ with_growths lists j (take i gs) → GotBeginning middle j (g ∷ []) new
      → GotBeginning lists j gs new
  got_next lists middle new j i gs g low at is got = ⊎_elim
      (λ none. got_first lists j i gs new
      (got.2 ∙ (ap (with_growths middle j) none ∙ (with_none middle j ∙ is))))
      (λ all. got_first lists j (i + 1) gs new
      (got.2 ∙ (ap (with_growths middle j) all
      ∙ (ap (λ xs. with_growths xs j (g ∷ [])) is
      ∙ (with_more lists j (take i gs) g ∙ ap (with_growths lists j) (sym (take_next gs i g low at)))))))
      (first_of_one got.0 got.1.0 g got.1.1)

-- the lists alone, in two steps
pub received_on : {A G : Type 0} (old middle new : State A G) → middle ≡ record old { received = middle.received }
    → new ≡ record middle { received = new.received } → new ≡ record old { received = new.received }
received_on {A} {G} old middle new first then =
    then ∙ ap (λ (o : State A G). record o { received = new.received }) first
