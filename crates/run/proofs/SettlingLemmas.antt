-- Settled mailboxes, one by one and row by row.
use Rattle.std.proofs.Common.{◌≡◌, ◌≢◌, ◌+◌, ◌<◌, ℕ, zero, suc, List, [], ◌∷◌, ◌++◌, map, drop, slice_get, Option, Some, None, Contains, AllPairs, refl, ap, sym, ◌∙◌, subst, inl, inr, ◌⊎◌, ⊎_elim, append_assoc, arith}
use Rattle.std.proofs.lemmas.List.Elements.{Contains-append_left, Contains-append_right, Contains-append_cases}
use Rattle.mail.specs.declared.mail.Mail as Mail
use Rattle.nll_sets.specs.Prefix.{IsPrefix}
use Rattle.fixpoint.specs.Logs.{log_of}
use Rattle.worker.specs.Mailboxes.{through}
use Rattle.run.specs.Table.{list_at, AreEnds, IsEndTable}
use Rattle.run.specs.Settling.{IsPostOf, ArePostsOf, AddsPost, AddsPosts, AreNext, InRow, InRows, ComeBefore}
use Rattle.std.proofs.lemmas.List.Quantifiers.{all_pairs_push}
use Rattle.run.specs.Delivery.{IsPairBefore}
use Rattle.run.proofs.PlaceLemmas.{place, same_place, drop_front, drop_at, mapped, map_push, map_size, contained}

pub cases_last : (k n : ℕ) → k < n + 1 → (k < n) ⊎ (k ≡ n)
cases_last k n l = grind arith

-- what one list contains
in_one : {X : Type 0} (x y : X) → Contains (x ∷ []) y → x ≡ y
in_one x y (zero, l, e) = e
in_one x y (suc k, l, e) = absurd (omega (arith, l))

module _ {M T S R C P : Type 0} (m : Mail.Ghosts M T S R C P) (out into : ℕ → ℕ → List T) where
  pub settled_none : (done : ℕ → ℕ → Type 0) → ((i j : ℕ) → done i j → ⊥) → ArePostsOf m out into done []
  settled_none done none = grind arith

  pub settled_join : (first second both : ℕ → ℕ → Type 0) (posts more : List P)
      → ((i j : ℕ) → both i j → first i j ⊎ second i j) → ((i j : ℕ) → first i j → both i j)
      → ((i j : ℕ) → second i j → both i j)
      → ArePostsOf m out into first posts → ArePostsOf m out into second more
      → ArePostsOf m out into both (posts ++ more)
  settled_join first second both posts more split left right a b = record {
    prefix = λ i j d. ⊎_elim (λ (h : first i j). a.prefix i j h) (λ (h : second i j). b.prefix i j h) (split i j d);
    each = λ i j d apart. ⊎_elim
        (λ (h : first i j). let x = a.each i j h apart in (x.0, Contains-append_left posts more x.0 x.1, x.2))
        (λ (h : second i j). let x = b.each i j h apart in (x.0, Contains-append_right posts more x.0 x.1, x.2))
        (split i j d);
    only = λ p h. ⊎_elim
        (λ (t : Contains posts p). let x = a.only p t in (x.0, x.1, left x.0 x.1 x.2, x.3))
        (λ (t : Contains more p). let x = b.only p t in (x.0, x.1, right x.0 x.1 x.2, x.3))
        (Contains-append_cases posts more p h);
  }

  -- one mailbox between two owners
  pub settled_one : (i j : ℕ) (p : P) → IsPrefix (into i j) (out i j) → IsPostOf m out into i j p
      → ArePostsOf m out into (λ a b. (a ≡ i) × (b ≡ j)) (p ∷ [])
  settled_one i j p prefix says = record {
    prefix = λ a b d. subst (λ (y : ℕ × ℕ). IsPrefix (into y.0 y.1) (out y.0 y.1)) (λ k. (sym d.0 k, sym d.1 k)) prefix;
    each = λ a b d apart. (p, (0, omega arith, refl), says.ends_are ∙ (λ k. (sym d.0 k, sym d.1 k)));
    only = λ x h. (i, j, (refl, refl), subst (IsPostOf m out into i j) (in_one p x h) says);
  }

  -- one more mailbox of a row
  row_split : (from made i j : ℕ) → InRow from (made + 1) i j → InRow from made i j ⊎ ((i ≡ from) × (j ≡ made))
  row_split from made i j d =
      ⊎_elim (λ (h : j < made). inl (d.0, h)) (λ (h : j ≡ made). inr (d.0, h)) (cases_last j made d.1)

  pub row_post : (from made : ℕ) (more : List P) (p : P) → ArePostsOf m out into (InRow from made) more
      → IsPrefix (into from made) (out from made) → IsPostOf m out into from made p
      → ArePostsOf m out into (InRow from (made + 1)) (more ++ p ∷ [])
  row_post from made more p a prefix says =
      settled_join (InRow from made) (λ i j. (i ≡ from) × (j ≡ made)) (InRow from (made + 1)) more (p ∷ [])
      (row_split from made)
      (λ i j d. (d.0, omega (arith, d.1))) (λ i j d. (d.0, omega (arith, d.1))) a (settled_one from made p prefix says)

  pub row_own : (from made : ℕ) (more : List P) → ArePostsOf m out into (InRow from made) more
      → IsPrefix (into from made) (out from made) → from ≡ made
      → ArePostsOf m out into (InRow from (made + 1)) more
  row_own from made more a prefix same = record {
    prefix =
        λ i j d. ⊎_elim (λ (h : InRow from made i j). a.prefix i j h)
        (λ (h : (i ≡ from) × (j ≡ made)). subst (λ (y : ℕ × ℕ). IsPrefix (into y.0 y.1) (out y.0 y.1))
        (λ k. (sym h.0 k, sym h.1 k)) prefix) (row_split from made i j d);
    each = λ i j d apart. ⊎_elim (λ (h : InRow from made i j). a.each i j h apart)
        (λ (h : (i ≡ from) × (j ≡ made)). absurd (apart (h.0 ∙ (same ∙ sym h.1)))) (row_split from made i j d);
    only = λ p h. let x = a.only p h in (x.0, x.1, (x.2.0, omega (arith, x.2.1)), x.3);
  }

  -- one more row
  pub rows_more : (made owners : ℕ) (posts more : List P) → ArePostsOf m out into (InRows made owners) posts
      → ArePostsOf m out into (InRow made owners) more
      → ArePostsOf m out into (InRows (made + 1) owners) (posts ++ more)
  rows_more made owners posts more a b = grind (arith, settled_join, ⊎_elim, cases_last)

-- the same with other words for what was sent and received
pub settled_as : {M T S R C P : Type 0} (m : Mail.Ghosts M T S R C P) (out into out' into' : ℕ → ℕ → List T)
    (done : ℕ → ℕ → Type 0) (posts : List P)
    → ((i j : ℕ) → done i j → out i j ≡ out' i j) → ((i j : ℕ) → done i j → into i j ≡ into' i j)
    → ArePostsOf m out into done posts → ArePostsOf m out' into' done posts
settled_as {M} {T} {S} {R} {C} {P} m out into out' into' done posts same_out same_into a = record {
  prefix = grind arith;
  each = a.each;
  only = λ p h. let x = a.only p h in (
    x.0,
    x.1,
    x.2,
    record {
      apart = x.3.apart;
      ends_are = x.3.ends_are;
      sent_is = x.3.sent_is ∙ same_out x.0 x.1 x.2;
      received_is = x.3.received_is ∙ same_into x.0 x.1 x.2;
      whole = x.3.whole;
    },
  );
}

pub read_dropped : {R T : Type 0} (f : R → List T) (xs : List R) (m : ℕ)
    → log_of (map f (drop m xs)) 0 ≡ log_of (map f xs) m
read_dropped f [] zero = refl
read_dropped f [] (suc m) = refl
read_dropped f (x ∷ xs) zero = refl
read_dropped f (x ∷ xs) (suc m) = read_dropped f xs m

drop_drop_suc : {R : Type 0} (xs : List R) (m : ℕ) → drop 1 (drop m xs) ≡ drop (suc m) xs
drop_drop_suc [] zero = refl
drop_drop_suc [] (suc m) = refl
drop_drop_suc (x ∷ xs) zero = refl
drop_drop_suc (x ∷ xs) (suc m) = drop_drop_suc xs m

pub drop_drop : {R : Type 0} (xs : List R) (m : ℕ) → drop 1 (drop m xs) ≡ drop (m + 1) xs
drop_drop xs m = let n : suc m ≡ m + 1 = omega arith in drop_drop_suc xs m ∙ ap (λ k. drop k xs) n

-- what row m has for j, and the first of column j once m were taken off
pub head_of : {C R : Type 0} (paired : ℕ → ℕ → C → R → Type 0) (owners m j : ℕ) (rows : List (List C))
    (columns : List (List R)) (row : List C) (column : List R)
    → IsEndTable paired owners owners rows columns → m < owners → j < owners → row ≡ list_at rows m
    → column ≡ drop m (list_at columns j) → AreNext paired m j row column
head_of paired owners m j rows columns row column t lm lj row_is column_is =
    let x = t.cell m j lm lj in (
      x.0,
      x.1,
      drop (m + 1) (list_at columns j),
      subst (λ l. slice_get l j ≡ Some x.0) (sym row_is) x.2,
      column_is
          ∙ drop_at (list_at columns j) m x.1 x.3,
      x.4,
    )

-- what is known of the two ends that are settled, once they were taken
pub settle_cell : {C R : Type 0} (paired : ℕ → ℕ → C → R → Type 0) (from to : ℕ) (row row_rest : List C)
    (column column_rest : List R) (z : C) (r : R)
    → AreNext paired from to row column → drop to row ≡ z ∷ row_rest → column ≡ r ∷ column_rest
    → (slice_get row to ≡ Some z) × paired from to z r × (row_rest ≡ drop (to + 1) row) × (column_rest ≡ drop 1 column)
settle_cell {C} {R} paired from to row row_rest column column_rest z r h row_is column_is =
    let front = drop_front row to z row_rest row_is in
    let same_z : h.0 ≡ z = same_place row to h.0 z h.3 front.0 in
    let same_r : h.1 ≡ r = first_same h.1 r h.2 column_rest (sym h.4 ∙ column_is) in (
      front.0,
      subst (λ (y : C × R). paired from to y.0 y.1) (λ i. (same_z i, same_r i)) h.5,
      front.1,
      sym (ap (drop 1) column_is ∙ drop_one r column_rest),
    )
  where
    first_same : {R : Type 0} (x y : R) (xs ys : List R) → x ∷ xs ≡ y ∷ ys → x ≡ y
    first_same x y xs ys e = cc

    drop_one : {R : Type 0} (x : R) (xs : List R) → drop 1 (x ∷ xs) ≡ xs
    drop_one x [] = refl
    drop_one x (y ∷ ys) = refl

module _ {M T S R C P : Type 0} (m : Mail.Ghosts M T S R C P) (from to : ℕ) (row : List (Option C))
    (columns : List (List (Option R))) where
  abbrev out : ℕ → ℕ → List T
  out _ j = log_of (map (through m.all_sent) row) j

  abbrev into : ℕ → ℕ → List T
  into _ j = log_of (map (through m.received) (list_at columns j)) 0

  module _ (z : C) (r : R) (column_rest : List (Option R)) (p : P) (place_z : slice_get row to ≡ Some (Some z))
      (column_is : list_at columns to ≡ Some r ∷ column_rest)
      (ends_are : m.post_ends p ≡ (from, to)) (sent_is : m.post_sent p ≡ m.all_sent z)
      (received_is : m.post_received p ≡ m.received r)
      (whole : m.post_sent p ≡ m.post_received p ++ m.post_rest p) where
    out_is : m.post_sent p ≡ log_of (map (through m.all_sent) row) to
    out_is = sent_is ∙ sym (mapped (through m.all_sent) row to (Some z) [] place_z)

    into_is : m.post_received p ≡ log_of (map (through m.received) (list_at columns to)) 0
    into_is = received_is ∙ sym (ap (λ l. log_of (map (through m.received) l) 0) column_is)

    prefix_is : IsPrefix (into from to) (out from to)
    prefix_is = (m.post_rest p, sym out_is ∙ (whole ∙ ap (λ l. l ++ m.post_rest p) into_is))

    pub settle_post : (old now : List P) → from ≢ to → AddsPosts m out into (InRow from to) old now
        → AddsPosts m out into (InRow from (to + 1)) old (now ++ p ∷ [])
    settle_post old now apart a = (
      a.0 ++ p ∷ [],
      ap (λ l. l ++ p ∷ []) a.1 ∙ append_assoc old a.0 (p ∷ []),
      row_post m out into from to a.0 p a.2 prefix_is
          (record { apart = apart; ends_are = ends_are; sent_is = out_is; received_is = into_is; whole = whole }),
    )

  pub settle_own : (column_rest : List (Option R)) → slice_get row to ≡ Some None
      → list_at columns to ≡ None ∷ column_rest → (old now : List P) → from ≡ to
      → AddsPosts m out into (InRow from to) old now → AddsPosts m out into (InRow from (to + 1)) old now
  settle_own column_rest place_z column_is old now same a =
      let none_out : out from to ≡ [] = mapped (through m.all_sent) row to None [] place_z in
      let none_into : into from to ≡ [] = ap (λ l. log_of (map (through m.received) l) 0) column_is in (
        a.0,
        a.1,
        row_own m out into from to a.0 a.2 ([], none_out ∙ sym (ap (λ l. l ++ []) none_into)) same,
      )

  -- whatever the two ends are
  pub posts_more : (z : Option C) (r : Option R) (column_rest : List (Option R)) → slice_get row to ≡ Some z
      → list_at columns to ≡ r ∷ column_rest → AreEnds m.closes m.ends from to z r → (old now next : List P)
      → AddsPost m z r now next → AddsPosts m out into (InRow from to) old now
      → AddsPosts m out into (InRow from (to + 1)) old next
  posts_more None None column_rest place_z column_is t old now next add a =
      subst (λ ps. AddsPosts m out into (InRow from (to + 1)) old ps) (sym add)
      (settle_own column_rest place_z column_is old now t a)
  posts_more (Some z) (Some r) column_rest place_z column_is t old now next add a =
      subst (λ ps. AddsPosts m out into (InRow from (to + 1)) old ps) (sym add.1)
      (settle_post z r column_rest add.0 place_z column_is (add.2 ∙ t.2) add.3 add.4 add.5 old now t.0 a)
  posts_more None (Some r) column_rest place_z column_is t old now next add a = absurd t
  posts_more (Some z) None column_rest place_z column_is t old now next add a = absurd t

-- ---- the order of the posts

pub come_later : {P : Type 0} (ends : P → ℕ × ℕ) (posts : List P) (pair later : ℕ × ℕ)
    → ((x : ℕ × ℕ) → IsPairBefore x pair → IsPairBefore x later) → ComeBefore ends posts pair
    → ComeBefore ends posts later
come_later ends posts pair later weaker c =
    record { in_order = c.in_order; before = λ p h. weaker (ends p) (c.before p h) }

-- a pair before (i, j) comes before (i, j + 1), and before (i + 1, 0) where j is above all that count
pub next_in_row : (i j : ℕ) (x : ℕ × ℕ) → IsPairBefore x (i, j) → IsPairBefore x (i, j + 1)
next_in_row i j x b = ⊎_elim (λ (l : x.0 < i). inl l) (λ (r : (x.0 ≡ i) × (x.1 < j)). inr (r.0, omega (arith, r.1))) b

pub next_row : (i j : ℕ) (x : ℕ × ℕ) → IsPairBefore x (i, j) → IsPairBefore x (i + 1, 0)
next_row i j x b =
    ⊎_elim (λ (l : x.0 < i). inl (omega (arith, l))) (λ (r : (x.0 ≡ i) × (x.1 < j)). inl (omega (arith, r.0))) b

pub come_push : {P : Type 0} (ends : P → ℕ × ℕ) (posts : List P) (i j : ℕ) (p : P) → ends p ≡ (i, j)
    → ComeBefore ends posts (i, j) → ComeBefore ends (posts ++ p ∷ []) (i, j + 1)
come_push {P} ends posts i j p is c = record {
  in_order =
      subst (AllPairs IsPairBefore) (sym (map_push ends posts p))
      (all_pairs_push IsPairBefore (map ends posts) (ends p) c.in_order (λ k d l.
      let at = place posts k (omega (arith, l, map_size ends posts)) in
      subst (λ (y : (ℕ × ℕ) × (ℕ × ℕ)). IsPairBefore y.0 y.1) (λ n. (sym (mapped ends posts k at.0 d at.1) n, sym is n))
      (c.before at.0 (contained posts k at.0 at.1))));
  before = λ q h. ⊎_elim
      (λ (old : Contains posts q). next_in_row i j (ends q) (c.before q old))
      (λ (new : Contains (p ∷ []) q). subst (λ (y : ℕ × ℕ). IsPairBefore y (i, j + 1))
      (sym is ∙ ap ends (in_one p q new)) (inr (refl, omega arith)))
      (Contains-append_cases posts (p ∷ []) q h);
}

pub order_more : {M T S R C P : Type 0} (m : Mail.Ghosts M T S R C P) (from to : ℕ) (z : Option C) (r : Option R)
    (now next : List P) → AreEnds m.closes m.ends from to z r → AddsPost m z r now next
    → ComeBefore m.post_ends now (from, to) → ComeBefore m.post_ends next (from, to + 1)
order_more m from to None r now next t add c =
    subst (λ ps. ComeBefore m.post_ends ps (from, to + 1)) (sym add)
    (come_later m.post_ends now (from, to) (from, to + 1) (next_in_row from to) c)
order_more m from to (Some z) (Some r) now next t add c =
    subst (λ ps. ComeBefore m.post_ends ps (from, to + 1)) (sym add.1)
    (come_push m.post_ends now from to add.0 (add.2 ∙ t.2) c)
order_more m from to (Some z) None now next t add c = absurd t
