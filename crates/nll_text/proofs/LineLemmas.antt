-- Cutting off the first line of a text.
use Rattle.std.proofs.Common.{◌≡◌, ⊎_elim, ℕ, zero, suc, subst, ◌+◌, ◌-◌, ◌<◌, ◌≤◌, Bool, true, false, cond, eqb, ltb, List, [], ◌∷◌, ◌++◌, length, get_or, take, drop, refl, sym, ap, ◌∙◌, arith, All, Option, Some, None}
use Rattle.std.specs.List.{slice_split, position, position_or_len}
use Rattle.std.proofs.lemmas.List.{take_rest, get_or-take, get_or_default, length-take, take-append-drop, drop_more, nil_from_length}
use Rattle.std.proofs.lemmas.List.Splits.{length-slice_split, slice_split_at, slice_split_none}
use Rattle.std.proofs.lemmas.List.Sums.{count_by-le-length, fails_before_first, position_or_len_is}
use Rattle.std.proofs.lemmas.List.Quantifiers.{position-Some}
use Rattle.std.proofs.lemmas.Bool.{ltb-false, eqb-true, lt-ltb, le-ltb, false_from_ne_true, false≢true, cases_eq}
use Rattle.std.specs.Prelude.{MatchOption, IfSome, slice_index}
use Rattle.memchr.specs.Find.{IsFirstByte, IsFirst, Nowhere, Passes, TakesFirst, places, places_from}
use Rattle.std.proofs.lemmas.List.Elements.{All-head, All-tail}
use Rattle.nll_text.specs.Lines.{lines_of, without_last_feed}

abbrev is_feed : ℕ → Bool
is_feed b = eqb b 10

abbrev HasNoFeed : List ℕ → Type 0
HasNoFeed bs = All (λ b. is_feed b ≡ false) bs

-- ---- a text without its last line feed

without_last_feed-none : (bs : List ℕ) → HasNoFeed bs → without_last_feed bs ≡ bs
without_last_feed-none [] clear = refl
without_last_feed-none (b ∷ []) clear = rw (All-head (λ b. is_feed b ≡ false) b [] clear) refl
without_last_feed-none (b ∷ c ∷ bs) clear =
    ap (λ (xs : List ℕ). b ∷ xs)
    (without_last_feed-none (c ∷ bs) (All-tail (λ b. is_feed b ≡ false) b (c ∷ bs) clear))

without_last_feed-last : (front : List ℕ) → without_last_feed (front ++ 10 ∷ []) ≡ front
without_last_feed-last [] = refl
without_last_feed-last (b ∷ []) = refl
without_last_feed-last (b ∷ c ∷ bs) =
    ap (λ (xs : List ℕ). b ∷ xs) (without_last_feed-last (c ∷ bs))

feed_inside : (front : List ℕ) (b : ℕ) (bs : List ℕ)
    → without_last_feed (front ++ 10 ∷ b ∷ bs) ≡ front ++ 10 ∷ without_last_feed (b ∷ bs)
feed_inside [] b bs = refl
feed_inside (x ∷ []) b bs = refl
feed_inside (x ∷ y ∷ front) b bs = ap (λ (xs : List ℕ). x ∷ xs) (feed_inside (y ∷ front) b bs)

without_last_feed-inside : (front rest : List ℕ) → 0 < length rest
    → without_last_feed (front ++ 10 ∷ rest) ≡ front ++ 10 ∷ without_last_feed rest
without_last_feed-inside front [] some = absurd (omega arith)
without_last_feed-inside front (b ∷ bs) some = feed_inside front b bs

-- ---- what the first line feed's place says of the text

not_some : (t : Bool) (n : ℕ) → cond t (Some n) None ≡ None → t ≡ false
not_some true n e = absurd cc
not_some false n e = refl

no_feed : (text : List ℕ) → position is_feed text ≡ None → HasNoFeed text
no_feed text e = grind (arith, ltb-false, not_some, ltb, fails_before_first)

-- the text is the bytes before i, which hold no line feed, one at i, and the bytes behind it
pub record IsCutAt (text : List ℕ) (i : ℕ) : Type 0 where
  clear : HasNoFeed (take i text)
  joined : text ≡ take i text ++ 10 ∷ drop (i + 1) text

cut_at : (text : List ℕ) (i : ℕ) → position is_feed text ≡ Some i → IsCutAt text i
cut_at text i e =
    let p = position-Some is_feed text i 0 e in
    let feed : get_or text i 0 ≡ 10 = eqb-true _ _ p.1 in
    record {
      clear = grind (arith, length-take, get_or-take, get_or_default);
      joined = grind (arith, take-append-drop, drop_more);
    }

-- ---- what the code's branches need

-- the bytes from i on, as a slice gives them
abbrev from : List ℕ → ℕ → List ℕ
from text i = take (length text - i) (drop i text)

pub one_line : (text : List ℕ) → position is_feed text ≡ None → lines_of text ≡ text ∷ []
one_line text e = grind (arith, no_feed, without_last_feed-none, slice_split_none)

pub last_line : (text : List ℕ) (i : ℕ) → position is_feed text ≡ Some i
    → length (from text (i + 1)) ≡ 0 → lines_of text ≡ take i text ∷ []
last_line text i e nothing =
    let p = cut_at text i e in
    let front : List ℕ = take i text in
    let none : drop (i + 1) text ≡ [] = nil_from_length _ (rw take_rest at nothing) in
    let cut : text ≡ front ++ 10 ∷ [] = p.joined ∙ ap (λ (xs : List ℕ). front ++ 10 ∷ xs) none in
    ap lines_of cut ∙ ap (slice_split is_feed) (without_last_feed-last front)
    ∙ slice_split_none is_feed front p.clear

pub first_line : (text : List ℕ) (i : ℕ) → position is_feed text ≡ Some i
    → 0 < length (from text (i + 1))
    → lines_of text ≡ take i text ∷ lines_of (from text (i + 1))
first_line text i e something =
    let p = cut_at text i e in
    let front : List ℕ = take i text in
    let rest : List ℕ = drop (i + 1) text in
    let some : 0 < length rest = rw take_rest at something in
    rw take_rest
    (ap lines_of p.joined ∙ ap (slice_split is_feed) (without_last_feed-inside front rest some)
    ∙ slice_split_at is_feed front 10 (without_last_feed rest) p.clear refl)

-- ---- how many lines there are

length-picked : (t : Bool) (b : ℕ) → length (cond t [] (b ∷ [])) ≤ 1
length-picked true b = omega arith
length-picked false b = omega arith

length-without_last_feed-le : (bs : List ℕ) → length (without_last_feed bs) ≤ length bs
length-without_last_feed-le [] = omega arith
length-without_last_feed-le (b ∷ []) = length-picked (eqb b 10) b
length-without_last_feed-le (b ∷ c ∷ bs) = omega (arith, length-without_last_feed-le (c ∷ bs))

-- a text has at most one line more than it has bytes
pub length-lines_of-le : (text : List ℕ) → length (lines_of text) ≤ length text + 1
length-lines_of-le text = grind (arith, length-slice_split, count_by-le-length, length-without_last_feed-le)

-- ---- the first line feed

-- the first byte that passes a test stands at its position
first_place : (test : ℕ → Bool) (bytes : List ℕ) (found : Option ℕ) → IsFirstByte test bytes found
    → found ≡ position test bytes
first_place test bytes None nowhere =
    let none : position_or_len test bytes ≡ length bytes =
    position_or_len_is test bytes (length bytes) 0 (omega arith)
    (λ k below. false_from_ne_true _ (nowhere k (omega arith) below)) (λ below. absurd (omega arith)) in
    rw (none, le-ltb (length bytes) (length bytes) (omega arith)) refl
first_place test bytes (Some k) first = grind (arith, position_or_len_is, false_from_ne_true, lt-ltb)

-- ---- the first of all places

nowhere_more : (P : ℕ → Type 0) (i j : ℕ) → (P i → ⊥) → Nowhere P (i + 1) j → Nowhere P i j
nowhere_more P i j none later = grind (arith, ⊎_elim, cases_eq)

module _ (test : ℕ → Bool) (hay : List ℕ) where
  one_place : (i n : ℕ) (r : Option ℕ) (rest later : List ℕ) (t : Bool) → test (slice_index hay i) ≡ t
      → MatchOption r (cond t (i ∷ rest) rest ≡ []) (λ k. cond t (i ∷ rest) rest ≡ k ∷ later)
      → (MatchOption r (rest ≡ []) (λ k. rest ≡ k ∷ later) → IsFirst (Passes test hay) (i + 1) (i + 1 + n) r)
      → IsFirst (Passes test hay) i (i + suc n) r
  one_place i n None rest later true e h more = absurd cc
  one_place i n (Some k) rest later true e h more = grind arith
  one_place i n None rest later false e h more = grind (arith, nowhere_more, false≢true)
  one_place i n (Some k) rest later false e h more =
      let f = more h in (
        record {
          low = omega (arith, f.0.low);
          high = omega (arith, f.0.high);
          before = nowhere_more (Passes test hay) i k (λ p. false≢true (sym e ∙ p)) f.0.before;
        },
        f.1,
      )

  first_of : (i n : ℕ) (r : Option ℕ) (later : List ℕ)
      → MatchOption r (places_from test hay i n ≡ []) (λ k. places_from test hay i n ≡ k ∷ later)
      → IsFirst (Passes test hay) i (i + n) r
  unfolding places_from
  first_of i zero None later h = λ k low high. absurd (omega (arith, low, high))
  first_of i zero (Some k) later h = absurd cc
  first_of i (suc n) r later h =
      one_place i n r (places_from test hay (i + 1) n) later (test (slice_index hay i)) refl h
      (first_of (i + 1) n r later)

  from_start : (r : Option ℕ) → IsFirst (Passes test hay) 0 (0 + length hay) r → IsFirstByte test hay r
  from_start r h =
      (let e : 0 + length hay ≡ length hay = omega arith in subst (λ (j : ℕ). IsFirst (Passes test hay) 0 j r) e h)

  -- the first of all places of bytes that pass is the first such place
  first_yielded : (r : Option ℕ) (s later : List ℕ) → s ≡ places test hay
      → MatchOption r ((s ≡ []) × (later ≡ [])) (λ k. s ≡ k ∷ later) → IsFirstByte test hay r
  first_yielded r s later e h = by r (e ∙ ap (places_from test hay 0) (omega arith)) h
    where
      by : (found : Option ℕ) → s ≡ places_from test hay 0 (length hay)
          → MatchOption found ((s ≡ []) × (later ≡ [])) (λ k. s ≡ k ∷ later) → IsFirstByte test hay found
      by None all none = from_start None (first_of 0 (length hay) None later (sym all ∙ none.0))
      by (Some k) all some = from_start (Some k) (first_of 0 (length hay) (Some k) later (sym all ∙ some))

-- the first place of a line feed among all is its position
pub first_feed : (text : List ℕ) (r : Option ℕ) (s later : List ℕ) → s ≡ places is_feed text → TakesFirst s r later
    → (position is_feed text ≡ r) × IfSome r (λ i. i < length text)
first_feed text r s later e h =
    let first = first_yielded is_feed text r s later e h in (sym (first_place is_feed text r first), within r first)
  where
    within : (found : Option ℕ) → IsFirstByte is_feed text found → IfSome found (λ i. i < length text)
    within None f = tt
    within (Some k) f = f.0.high
