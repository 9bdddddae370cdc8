-- What single tokens at the front of the rest of a line are read from.
use Rattle.std.proofs.Common.{◌≡◌, ℕ, ◌-◌, ◌<◌, ◌≤◌, true, false, List, [], ◌∷◌, ◌++◌, length, take, drop, get_or, refl, sym, ap, ◌∙◌, arith, append_assoc, Option, Some, None, MatchOption, one-add}
use Rattle.std.specs.Borrow.{Bor}
use Rattle.std.specs.List.{IsSplitAt, prefix_len}
use Rattle.std.specs.Prelude.{IfSome}
use Rattle.std.specs.Fmt.{decimal}
use Rattle.std.proofs.lemmas.Bool.{false≢true}
use Rattle.std.proofs.Math.Seq.{take-append_seam, drop-append_seam}
use Rattle.std.proofs.lemmas.List.{length-append, length-drop, length-take, take-append-drop, take_all}
use Rattle.nll_text.specs.Lines.{is_blank, without_front_blanks}
use Rattle.nll_text.specs.Tokens.{Token, word, region, arrow, sign, is_word_byte, is_arrow, IsWord, first_passes}
use Rattle.nll_text.specs.Lexing.{SplitsWhile}
use Rattle.nll_text.proofs.ByteLemmas.{Passes, first_fails}
use Rattle.nll_text.proofs.NumberLemmas.{number_form}
use Rattle.nll_text.specs.LineTokens.{tokens_in}
use Rattle.nll_text.specs.Grammars.{Begins, HasNone, IsNotNext, any_words, regions, prefixed}
use Rattle.nll_text.proofs.TokenLemmas.{core_tokens, word_in_front, region_in_front, first_token}
use Rattle.nll_text.proofs.DigitLemmas.{IsNoNumber, IsNumberIn}

-- ---- the first bytes and the others

-- what stands behind so many
abbrev pub others : ℕ → List ℕ → List ℕ
others count core = take (length core - count) (drop count core)

all_others : (count : ℕ) (core : List ℕ) → others count core ≡ drop count core
all_others count core = take_all (length core - count) (drop count core) (omega (arith, length-drop count core))

pub by_first : (core : List ℕ) (b : ℕ) → 0 < length core → get_or core 0 0 ≡ b → core ≡ b ∷ others 1 core
by_first core b some e = first core some e ∙ ap (λ (l : List ℕ). b ∷ l) (sym (all_others 1 core))
  where
    first : (bs : List ℕ) → 0 < length bs → get_or bs 0 0 ≡ b → bs ≡ b ∷ drop 1 bs
    first [] some e = absurd (omega arith)
    first (x ∷ xs) some e = ap (λ (y : ℕ). y ∷ xs) e

-- what stands behind a blank has the same bytes behind its blanks, and the same tokens
pub past_blank : (line rest : List ℕ) → 0 < length rest → is_blank (get_or rest 0 0) ≡ true
    → without_front_blanks rest ≡ without_front_blanks line
    → (without_front_blanks (others 1 rest) ≡ without_front_blanks line)
    × (tokens_in (others 1 rest) ≡ tokens_in line)
past_blank line rest some blank same =
    let cut : without_front_blanks (others 1 rest) ≡ without_front_blanks line =
    sym (ap without_front_blanks (by_first rest _ some refl) ∙ rw (blank, one-add) refl) ∙ same in
    (cut, sym (core_tokens (others 1 rest)) ∙ ap tokens_in cut ∙ core_tokens line)

pub by_second : (core : List ℕ) (b c : ℕ) → 1 < length core → get_or core 0 0 ≡ b → get_or core 1 0 ≡ c
    → core ≡ b ∷ c ∷ others 2 core
by_second core b c some e f = second core some e f ∙ ap (λ (l : List ℕ). b ∷ c ∷ l) (sym (all_others 2 core))
  where
    second : (bs : List ℕ) → 1 < length bs → get_or bs 0 0 ≡ b → get_or bs 1 0 ≡ c → bs ≡ b ∷ c ∷ drop 2 bs
    second [] some e f = absurd (omega arith)
    second (x ∷ []) some e f = absurd (omega arith)
    second (x ∷ y ∷ xs) some e f = ap (λ (z : ℕ). z ∷ y ∷ xs) e ∙ ap (λ (z : ℕ). b ∷ z ∷ xs) f

-- ---- signs

-- the bytes begin with the sign, and not with an arrow in its place
pub record HasSign (core : List ℕ) (c : ℕ) : Type 0 where
  pub some : 0 < length core
  pub byte : get_or core 0 0 ≡ c
  pub whole : first_passes (is_arrow c) (others 1 core) ≡ false

pub sign_there : (core : List ℕ) → first_passes is_blank core ≡ false → (c : ℕ) (ts : List Token)
    → tokens_in core ≡ sign c ∷ ts → HasSign core c
sign_there core solid c ts e =
    let h = first_token core solid (sign c) ts e in
    record {
      some = omega (arith, ap length h.joined);
      byte = ap (λ (l : List ℕ). get_or l 0 0) h.joined;
      whole =
          ap (first_passes (is_arrow c)) (all_others 1 core ∙ ap (λ (l : List ℕ). drop 1 l) h.joined) ∙ h.first.1;
    }

-- the bytes begin with `->`
pub record HasArrow (core : List ℕ) : Type 0 where
  pub some : 1 < length core
  pub dash : get_or core 0 0 ≡ 45
  pub head : get_or core 1 0 ≡ 62

pub arrow_there : (core : List ℕ) → first_passes is_blank core ≡ false → (ts : List Token)
    → tokens_in core ≡ arrow ∷ ts → HasArrow core
arrow_there core solid ts e =
    let h = first_token core solid arrow ts e in
    record {
      some = omega (arith, ap length h.joined);
      dash = ap (λ (l : List ℕ). get_or l 0 0) h.joined;
      head = ap (λ (l : List ℕ). get_or l 1 0) h.joined;
    }

-- ---- regions

-- the bytes begin with `'`
pub record HasQuote (core : List ℕ) : Type 0 where
  pub some : 0 < length core
  pub quote : get_or core 0 0 ≡ 39

pub region_there : (core : List ℕ) → first_passes is_blank core ≡ false → (w : List ℕ) (ts : List Token)
    → tokens_in core ≡ region w ∷ ts → HasQuote core
region_there core solid w ts e =
    let h = first_token core solid (region w) ts e in
    record {
      some = omega (arith, ap length h.joined);
      quote = ap (λ (l : List ℕ). get_or l 0 0) h.joined;
    }

pub region_found : (core bs name rest : List ℕ) (ts : List Token) → tokens_in core ≡ ts → core ≡ 39 ∷ bs
    → SplitsWhile is_word_byte bs name rest → 0 < length name → Begins regions ts name (tokens_in rest)
region_found core bs name rest ts e there s long = grind (arith, region_in_front)

-- ---- words

pub word_tokens : (core w rest : List ℕ) → SplitsWhile is_word_byte core w rest → 0 < length w
    → tokens_in core ≡ word w ∷ tokens_in rest
word_tokens core w rest s long = ap tokens_in s.joined ∙ word_in_front w rest (long, s.each) s.stops

pub word_found : (core w rest : List ℕ) (ts : List Token) → tokens_in core ≡ ts
    → SplitsWhile is_word_byte core w rest → 0 < length w → Begins any_words ts w (tokens_in rest)
word_found core w rest ts e s long =
    record { joined = sym e ∙ word_tokens core w rest s long; allowed = tt; follows = tt }

-- the word bytes in front are the word
pub record HasWord (core w : List ℕ) : Type 0 where
  pub rest : List ℕ
  pub splits : SplitsWhile is_word_byte core w rest
  pub is : IsWord w

pub word_there : (core : List ℕ) → first_passes is_blank core ≡ false → (w : List ℕ) (ts : List Token)
    → tokens_in core ≡ word w ∷ ts → HasWord core w
word_there core solid w ts e =
    let h = first_token core solid (word w) ts e in
    record {
      rest = h.rest;
      splits = record { joined = h.joined; each = h.first.0.1; stops = h.first.1 };
      is = h.first.0;
    }

begins_word : (w rest : List ℕ) → IsWord w → first_passes is_word_byte (w ++ rest) ≡ true
begins_word [] rest is = absurd (omega (arith, is.0))
begins_word (b ∷ w) rest is = is.1.0

pub no_word : (core front rest : List ℕ) (ts : List Token) → tokens_in core ≡ ts → first_passes is_blank core ≡ false
    → SplitsWhile is_word_byte core front rest → length front ≡ 0 → HasNone any_words ts
no_word core front rest ts e solid s none w r b =
    let h = word_there core solid w r (e ∙ b.joined) in
    let yes : first_passes is_word_byte core ≡ true =
    ap (first_passes is_word_byte) h.splits.joined ∙ begins_word w h.rest h.is in
    false≢true (sym (first_fails is_word_byte core front rest s none) ∙ yes)

-- ---- numbers

same_tail : {X : Type 0} (x y : X) (xs ys : List X) → x ∷ xs ≡ y ∷ ys → xs ≡ ys
same_tail x y xs ys e = cc

pub behind_front : (p v w : List ℕ) → p ++ v ≡ p ++ w → v ≡ w
behind_front [] v w e = e
behind_front (x ∷ p) v w e = behind_front p v w (same_tail _ _ _ _ e)

passes_behind : (p w : List ℕ) → Passes is_word_byte (p ++ w) → Passes is_word_byte w
passes_behind [] w h = h
passes_behind (x ∷ p) w h = passes_behind p w h.1

passes_both : (p w : List ℕ) → Passes is_word_byte p → Passes is_word_byte w → Passes is_word_byte (p ++ w)
passes_both [] w hp hw = hw
passes_both (x ∷ p) w hp hw = (hp.0, passes_both p w hp.1 hw)

longer : (p w : List ℕ) → 0 < length w → 0 < length (p ++ w)
longer [] w long = long
longer (x ∷ p) w long = omega arith

-- a number behind these bytes in one word, where the bytes are in front
pub prefixed_read : (p bytes core : List ℕ) (ts : List Token) → Passes is_word_byte p → core ≡ p ++ bytes
    → first_passes is_blank core ≡ false → tokens_in core ≡ ts → (o : Option (ℕ × Bor (List ℕ)))
    → MatchOption o (IsNoNumber bytes) (λ q. IsNumberIn bytes q.0 q.1.now)
    → MatchOption o (HasNone (prefixed p) ts) (λ q. Begins (prefixed p) ts q.0 (tokens_in q.1.now))
prefixed_read p bytes core ts passes there solid e None none = λ n r b. (
    let h = word_there core solid (p ++ decimal n) r (e ∙ b.joined) in
    let same : p ++ bytes ≡ p ++ (decimal n ++ h.rest) =
    sym there ∙ h.splits.joined ∙ append_assoc p (decimal n) h.rest in
    none (decimal n) h.rest n
    (record {
      joined = behind_front p _ _ same;
      each = passes_behind p (decimal n) h.splits.each;
      stops = h.splits.stops;
    })
    (record { small = b.allowed; printed = refl }))
prefixed_read p bytes core ts passes there solid e (Some q) found =
    let w = found.0 in
    let s = found.1 in
    let is = found.2 in
    let whole : core ≡ (p ++ w) ++ q.1.now =
    there ∙ ap (λ (l : List ℕ). p ++ l) s.joined ∙ sym (append_assoc p w q.1.now) in
    let tokens : tokens_in core ≡ word (p ++ w) ∷ tokens_in q.1.now =
    ap tokens_in whole
    ∙ word_in_front (p ++ w) q.1.now (longer p w (number_form w q.0 is).some, passes_both p w passes s.each) s.stops in
    record {
      joined = sym e ∙ tokens ∙ ap (λ (l : List ℕ). word (p ++ l) ∷ tokens_in q.1.now) is.printed;
      allowed = is.small;
      follows = tt;
    }

-- ---- a word that is looked for

module _ (core : List ℕ) (solid : first_passes is_blank core ≡ false) (w : List ℕ) where
  pub too_short : length core < length w → IsNotNext (word w) (tokens_in core)
  too_short short ts e =
      let h = word_there core solid w ts e in omega (arith, short, ap length h.splits.joined, length-append w h.rest)

  module _ (front rest : List ℕ) (split : IsSplitAt core (length w) front rest) where
    pub another_word : (front ≡ w → ⊥) → IsNotNext (word w) (tokens_in core)
    another_word differs ts e =
        let h = word_there core solid w ts e in
        differs (split.1 ∙ ap (take (length w)) h.splits.joined ∙ take-append_seam w h.rest)

    pub longer_word : true ≡ first_passes is_word_byte rest → IsNotNext (word w) (tokens_in core)
    longer_word on ts e =
        let h = word_there core solid w ts e in
        let same : rest ≡ h.rest = split.2 ∙ ap (drop (length w)) h.splits.joined ∙ drop-append_seam w h.rest in
        false≢true (sym (on ∙ ap (first_passes is_word_byte) same ∙ h.splits.stops))

    pub this_word : IsWord w → front ≡ w → false ≡ first_passes is_word_byte rest
        → tokens_in core ≡ word w ∷ tokens_in rest
    this_word is same off =
        let joined : core ≡ w ++ rest = sym (take-append-drop (length w) core)
        ∙ rw (sym split.1, sym split.2, same) refl in
        ap tokens_in joined ∙ word_in_front w rest is (sym off)

-- ---- what is left is shorter

module _ (line core : List ℕ) (cut : core ≡ without_front_blanks line) where
  core_within : length core ≤ length line
  core_within = omega (arith, ap length cut, length-drop (prefix_len is_blank line) line)

  pub shorter_split : (front rest : List ℕ) → SplitsWhile is_word_byte core front rest → 0 < length front
      → length rest < length line
  shorter_split front rest s some = omega (arith, core_within, ap length s.joined, length-append front rest)

  pub shorter_region : (bs name rest : List ℕ) → core ≡ 39 ∷ bs → SplitsWhile is_word_byte bs name rest
      → length rest < length line
  shorter_region bs name rest e s =
      omega (arith, core_within, ap length e, ap length s.joined, length-append name rest)

  pub shorter_word : (w front rest : List ℕ) → 0 < length w → IsSplitAt core (length w) front rest → front ≡ w
      → length rest < length line
  shorter_word w front rest some split same = grind (arith, core_within, length-take, length-drop)

  pub shorter_number : (o : Option (ℕ × Bor (List ℕ)))
      → MatchOption o (IsNoNumber core) (λ q. IsNumberIn core q.0 q.1.now)
      → IfSome o (λ q. length q.1.now < length line)
  shorter_number None none = tt
  shorter_number (Some q) found = shorter_split found.0 q.1.now found.1 (number_form found.0 q.0 found.2).some
