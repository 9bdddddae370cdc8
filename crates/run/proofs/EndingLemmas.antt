-- What the workers give back is tied as what they were given was.
use Rattle.std.proofs.Common.{◌≡◌, ◌<◌, ◌≤◌, ℕ, zero, suc, List, [], ◌∷◌, length, map, slice_index_or, slice_get, Some, refl, ap, sym, ◌∙◌, subst, ⊎_elim, arith}
use Rattle.mail.specs.declared.mail.Mail as Mail
use Rattle.run.specs.Table.{list_at, AreEnds, AreNewEnds, IsCell, IsEndTable}
use Rattle.std.specs.Prelude.{Bool, false, true, Result, Ok, Err, IfOk, Option, None}
use Rattle.worker.specs.Finishing.{WasStarted, IsAnswered}
use Rattle.fixpoint.specs.declared.ending.Ending.{Ending}
use Rattle.fixpoint.specs.declared.ending.Ending.TheVariants as endings
use Rattle.std.proofs.lemmas.Bool.{cases_lt}
use Rattle.worker.specs.Mailboxes.{Alike, Both, HasEnds, Keeps, through}
use Rattle.run.proofs.PlaceLemmas.{place, within, same_place, mapped, map_size, alike_place}
use Rattle.worker.proofs.ListLemmas.{alike_length}

-- ends that were tied before their workers had them are tied after
ends_then : {M T S R C P : Type 0} (m : Mail.Ghosts M T S R C P) (i j : ℕ) (s : Option S) (r : Option R) (z : Option C)
    (y : Option R) → AreEnds (AreNewEnds m) m.ends i j s r → Both (λ s z. (r : R) → m.pairs s r → m.closes z r) s z
    → Both (Keeps m) r y → AreEnds m.closes m.ends i j z y
ends_then m i j None None None None t a b = t
ends_then m i j (Some s) (Some r) (Some z) (Some y) t a b = (t.0, b.1 z (a r t.1.0), b.2 ∙ t.2)
ends_then m i j None (Some r) z y t a b = absurd t
ends_then m i j (Some s) None z y t a b = absurd t
ends_then m i j None None (Some z) y t a b = absurd a
ends_then m i j None None None (Some y) t a b = absurd b
ends_then m i j (Some s) (Some r) None y t a b = absurd a
ends_then m i j (Some s) (Some r) (Some z) None t a b = absurd b

module _ {W D M T S R C P : Type 0} (m : Mail.Ghosts M T S R C P)
    (senders : W → List (Option S)) (receivers : W → List (Option R)) (closed : D → List (Option C))
    (kept : D → List (Option R)) (ws : List W) (ds : List D) (owners : ℕ) (size : length ds ≡ length ws)
    (shuts : (k : ℕ) (w : W) (d : D) → slice_get ws k ≡ Some w → slice_get ds k ≡ Some d
    → Alike (Both (λ s z. (r : R) → m.pairs s r → m.closes z r)) (senders w) (closed d))
    (keeps : (k : ℕ) (w : W) (d : D) → slice_get ws k ≡ Some w → slice_get ds k ≡ Some d
    → Alike (Both (Keeps m)) (receivers w) (kept d))
    (table : IsEndTable (AreEnds (AreNewEnds m) m.ends) owners owners (map senders ws) (map receivers ws)) where
  count : length ws ≡ owners
  count = sym (map_size senders ws) ∙ table.row_count

  worker : (k : ℕ) → k < owners → (w : W) × (slice_get ws k ≡ Some w)
  worker k l = place ws k (omega (arith, l, count))

  ended : (k : ℕ) → k < owners → (d : D) × (slice_get ds k ≡ Some d)
  ended k l = place ds k (omega (arith, l, count, size))

  row_is : (k : ℕ) (d : D) → slice_get ds k ≡ Some d → list_at (map closed ds) k ≡ closed d
  row_is k d e = mapped closed ds k d [] e

  column_is : (k : ℕ) (d : D) → slice_get ds k ≡ Some d → list_at (map kept ds) k ≡ kept d
  column_is k d e = mapped kept ds k d [] e

  cell_then : (i j : ℕ) → i < owners → j < owners
      → IsCell (AreEnds m.closes m.ends) i j (list_at (map closed ds) i) (list_at (map kept ds) j)
  cell_then i j li lj =
      let x = table.cell i j li lj in
      let w = worker i li in let v = worker j lj in let d = ended i li in let e = ended j lj in
      let row = subst (λ l. slice_get l j ≡ Some x.0) (mapped senders ws i w.0 [] w.1) x.2 in
      let column = subst (λ l. slice_get l i ≡ Some x.1) (mapped receivers ws j v.0 [] v.1) x.3 in
      let z = alike_place (Both (λ s z. (r : R) → m.pairs s r → m.closes z r)) (senders w.0) (closed d.0)
      (shuts i w.0 d.0 w.1 d.1) j x.0 row in
      let y = alike_place (Both (Keeps m)) (receivers v.0) (kept e.0) (keeps j v.0 e.0 v.1 e.1) i x.1 column in (
        z.0,
        y.0,
        subst (λ l. slice_get l j ≡ Some z.0) (sym (row_is i d.0 d.1)) z.1,
        subst (λ l. slice_get l i ≡ Some y.0) (sym (column_is j e.0 e.1)) y.1,
        ends_then m i j x.0 x.1 z.0 y.0 x.4 z.2 y.2,
      )

  pub table_then : IsEndTable (AreEnds m.closes m.ends) owners owners (map closed ds) (map kept ds)
  table_then = record {
    row_count = map_size closed ds ∙ (size ∙ count);
    column_count = map_size kept ds ∙ (size ∙ count);
    width = λ i l.
        let w = worker i l in let d = ended i l in
        ap length (row_is i d.0 d.1) ∙ (alike_length (Both (λ s z. (r : R) → m.pairs s r → m.closes z r)) (senders w.0)
        (closed d.0) (shuts i w.0 d.0 w.1 d.1)
        ∙ (ap length (sym (mapped senders ws i w.0 [] w.1)) ∙ table.width i l));
    height = λ j l.
        let w = worker j l in let d = ended j l in
        ap length (column_is j d.0 d.1) ∙ (alike_length (Both (Keeps m)) (receivers w.0) (kept d.0)
        (keeps j w.0 d.0 w.1 d.1)
        ∙ (ap length (sym (mapped receivers ws j w.0 [] w.1)) ∙ table.height j l));
    cell = cell_then;
  }

-- ---- before the workers are started

past_end : {X Y : Type 0} (f : X → List Y) (xs : List X) (j : ℕ) → length xs ≤ j → slice_index_or (map f xs) j [] ≡ []
past_end f [] j l = refl
past_end f (x ∷ xs) zero l = absurd (omega (arith, l))
past_end f (x ∷ xs) (suc j) l = past_end f xs j (omega (arith, l))

module _ {M T S R C P : Type 0} (m : Mail.Ghosts M T S R C P) where
  none_sent : (i j : ℕ) (s : Option S) (r : Option R) → AreEnds (AreNewEnds m) m.ends i j s r → through m.sent s ≡ []
  none_sent i j None r t = refl
  none_sent i j (Some s) (Some r) t = t.1.1
  none_sent i j (Some s) None t = absurd t

  none_received : (i j : ℕ) (s : Option S) (r : Option R) → AreEnds (AreNewEnds m) m.ends i j s r
      → through m.received r ≡ []
  none_received i j s None t = refl
  none_received i j (Some s) (Some r) t = t.1.2
  none_received i j None (Some r) t = absurd t

  own_place : (i j : ℕ) (s : Option S) (r : Option R) → AreEnds (AreNewEnds m) m.ends i j s r → s ≡ None → j ≡ i
  own_place i j None None t e = sym t
  own_place i j None (Some r) t e = absurd t
  own_place i j (Some s) r t e = absurd (cc)

  module _ (owners : ℕ) (rows : List (List (Option S))) (columns : List (List (Option R)))
      (table : IsEndTable (AreEnds (AreNewEnds m) m.ends) owners owners rows columns) where
    pub empty_row : (i : ℕ) (row : List (Option S)) → i < owners → list_at rows i ≡ row
        → (length (map (through m.sent) row) ≡ owners)
        × ((j : ℕ) → slice_index_or (map (through m.sent) row) j [] ≡ [])
    empty_row i row l is = (
      map_size (through m.sent) row ∙ (ap length (sym is) ∙ table.width i l),
      λ j. ⊎_elim
          (λ (h : j < owners). let x = table.cell i j l h in
          mapped (through m.sent) row j x.0 [] (subst (λ r. slice_get r j ≡ Some x.0) is x.2)
          ∙ none_sent i j x.0 x.1 x.4)
          (λ (h : owners ≤ j). past_end (through m.sent) row j
          (let w = ap length is in let v = table.width i l in omega (arith, h, w, v)))
          (cases_lt j owners),
    )

    -- a row has an end for each other owner
    pub whole_row : (i : ℕ) (row : List (Option S)) → i < owners → list_at rows i ≡ row → HasEnds i row
    whole_row i row l is j e =
        let h : j < owners = (let k = within row j None e in let w = ap length is in let v = table.width i l in
        omega (arith, k, w, v)) in
        let x = table.cell i j l h in
        own_place i j x.0 x.1 x.4 (same_place row j x.0 None (subst (λ r. slice_get r j ≡ Some x.0) is x.2) e)

    pub empty_column : (j : ℕ) (column : List (Option R)) → j < owners → list_at columns j ≡ column
        → (length (map (through m.received) column) ≡ owners)
        × ((i : ℕ) → slice_index_or (map (through m.received) column) i [] ≡ [])
    empty_column j column l is = (
      map_size (through m.received) column ∙ (ap length (sym is) ∙ table.height j l),
      λ i. ⊎_elim
          (λ (h : i < owners). let x = table.cell i j h l in
          mapped (through m.received) column i x.1 [] (subst (λ r. slice_get r i ≡ Some x.1) is x.3)
          ∙ none_received i j x.0 x.1 x.4)
          (λ (h : owners ≤ i). past_end (through m.received) column i
          (let w = ap length is in let v = table.height j l in omega (arith, h, w, v)))
          (cases_lt i owners),
    )

pub if_ok_map : {T E : Type 0} (r : Result T E) (P Q : T → Type 0) → ((v : T) → P v → Q v) → IfOk r P → IfOk r Q
if_ok_map (Ok v) P Q f h = f v h
if_ok_map (Err e) P Q f h = tt

-- the permit lets each worker be started that was started
pub started_answer : (P : Bool → Type 0) (e : Ending) → WasStarted e → IsAnswered P e → P true
started_answer P endings.Quiet t a = a
started_answer P endings.Stopped t a = a
started_answer P endings.Stray t a = a
started_answer P endings.Memory t a = a
started_answer P endings.NoOwner t a = a
started_answer P endings.Forbidden t a = absurd t
started_answer P endings.Unstarted t a = absurd t

-- the permit answered something of each worker
pub answer_of : (P : Bool → Type 0) (e : Ending) → IsAnswered P e → (answer : Bool) × P answer
answer_of P endings.Forbidden a = (false, a)
answer_of P endings.Quiet a = (true, a)
answer_of P endings.Stopped a = (true, a)
answer_of P endings.Stray a = (true, a)
answer_of P endings.Memory a = (true, a)
answer_of P endings.NoOwner a = (true, a)
answer_of P endings.Unstarted a = (true, a)
