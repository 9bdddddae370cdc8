-- The tokens of bytes: with which token they begin, what stands behind it, and the lines that they make.
use Rattle.std.proofs.Common.{◌≡◌, ⊎_elim, ℕ, Bool, true, false, ◌&&◌, eqb, List, [], ◌∷◌, ◌++◌, take, drop, length, refl, sym, ap, ◌∙◌, subst, arith, one-add}
use Rattle.std.specs.List.{AllByRecursion, prefix_len}
use Rattle.std.proofs.lemmas.Bool.{cases_Bool, eqb-true}
use Rattle.std.proofs.lemmas.Bool.Decides.{nat_tests}
use Rattle.std.proofs.lemmas.List.{append-nil}
use Rattle.nll_text.specs.Lines.{is_blank, without_front_blanks, is_empty_or_remark}
use Rattle.nll_text.specs.Tokens.{Token, word, region, arrow, sign, spelling, is_word_byte, is_sign, is_arrow, IsWord, IsGap, IsToken, AreTokens, IsWhole, IsMadeOf, first_passes}
use Rattle.nll_text.specs.LineTokens.{lengthened, marked, tokens_in}
use Rattle.nll_text.proofs.ByteLemmas.{splits_while}
use Rattle.nll_text.proofs.DecisionLemmas.{same_first, same_rest}

-- ---- the tokens where some stand in front

-- blanks in front change nothing
pub past_blanks : (gap core : List ℕ) → IsGap gap → tokens_in (gap ++ core) ≡ tokens_in core
past_blanks [] core g = refl
past_blanks (b ∷ gap) core g = rw g.0 (past_blanks gap core g.1)

-- blanks alone have no token
pub gap_has_none : (gap : List ℕ) → IsGap gap → tokens_in gap ≡ []
gap_has_none [] g = refl
gap_has_none (b ∷ gap) g = rw g.0 (gap_has_none gap g.1)

-- a byte of a word is no blank
pub word_byte_solid : (b : ℕ) → is_word_byte b ≡ true → is_blank b ≡ false
word_byte_solid b w = grind (arith, nat_tests)

word_grows : (b : ℕ) (bs : List ℕ) → is_word_byte b ≡ true → first_passes is_word_byte bs ≡ true
    → tokens_in (b ∷ bs) ≡ lengthened b (tokens_in bs)
word_grows b bs w more = let solid = word_byte_solid b w in rw (solid, w, more) refl

word_ends : (b : ℕ) (bs : List ℕ) → is_word_byte b ≡ true → first_passes is_word_byte bs ≡ false
    → tokens_in (b ∷ bs) ≡ word (b ∷ []) ∷ tokens_in bs
word_ends b bs w stop = let solid = word_byte_solid b w in rw (solid, w, stop) refl

pub word_in_front : (w rest : List ℕ) → IsWord w → first_passes is_word_byte rest ≡ false
    → tokens_in (w ++ rest) ≡ word w ∷ tokens_in rest
word_in_front [] rest is stop = absurd (omega (arith, is.0))
word_in_front (b ∷ []) rest is stop = word_ends b rest is.1.0 stop
word_in_front (b ∷ c ∷ w) rest is stop =
    word_grows b (c ∷ w ++ rest) is.1.0 is.1.1.0
    ∙ ap (lengthened b) (word_in_front (c ∷ w) rest (omega arith, is.1.1) stop)

first_of_word : (w rest : List ℕ) → IsWord w → first_passes is_word_byte (w ++ rest) ≡ true
first_of_word [] rest is = absurd (omega (arith, is.0))
first_of_word (b ∷ w) rest is = is.1.0

pub region_in_front : (w rest : List ℕ) → IsWord w → first_passes is_word_byte rest ≡ false
    → tokens_in (39 ∷ w ++ rest) ≡ region w ∷ tokens_in rest
region_in_front w rest is stop =
    quoted (w ++ rest) (first_of_word w rest is) ∙ ap marked (word_in_front w rest is stop)
  where
    quoted : (bs : List ℕ) → first_passes is_word_byte bs ≡ true → tokens_in (39 ∷ bs) ≡ marked (tokens_in bs)
    quoted bs f = rw f refl

pub arrow_in_front : (rest : List ℕ) → tokens_in (45 ∷ 62 ∷ rest) ≡ arrow ∷ tokens_in rest
arrow_in_front [] = refl
arrow_in_front (b ∷ rest) = refl

-- a byte that begins no word, no region and no arrow
pub byte_in_front : (c : ℕ) (rest : List ℕ) → is_blank c ≡ false → is_word_byte c ≡ false
    → (eqb c 39 && first_passes is_word_byte rest) ≡ false → first_passes (is_arrow c) rest ≡ false
    → tokens_in (c ∷ rest) ≡ sign c ∷ tokens_in rest
byte_in_front c rest solid other quote stop = rw (solid, other, quote, stop) refl

pub sign_in_front : (c : ℕ) (rest : List ℕ) → is_sign c ≡ true → first_passes (is_arrow c) rest ≡ false
    → tokens_in (c ∷ rest) ≡ sign c ∷ tokens_in rest
sign_in_front c rest is stop =
    let solid : is_blank c ≡ false = grind (arith, nat_tests) in
    let other : is_word_byte c ≡ false = grind (arith, nat_tests) in
    let quote : eqb c 39 ≡ false = grind (arith, nat_tests) in
    byte_in_front c rest solid other (rw quote refl) stop

-- any token that stands whole in front
pub token_in_front : (t : Token) (rest : List ℕ) → IsToken t → IsWhole t rest
    → tokens_in (spelling t ++ rest) ≡ t ∷ tokens_in rest
token_in_front (word w) rest is whole = word_in_front w rest is whole
token_in_front (region w) rest is whole = region_in_front w rest is whole
token_in_front arrow rest is whole = arrow_in_front rest
token_in_front (sign c) rest is whole = sign_in_front c rest is whole

-- ---- the first token of bytes that begin with no blank

-- What is known of the first token, behind which these bytes stand: a sign may be any byte that
-- begins no other token.
abbrev pub IsFirst : Token → List ℕ → Type 0
IsFirst (word w) rest = IsWord w × (first_passes is_word_byte rest ≡ false)
IsFirst (region w) rest = IsWord w × (first_passes is_word_byte rest ≡ false)
IsFirst arrow rest = Unit {0}
IsFirst (sign c) rest = (is_word_byte c ≡ false) × (first_passes (is_arrow c) rest ≡ false)

-- The bytes begin with the token, behind which others are the tokens of the rest.
pub record BeginsIn (bytes : List ℕ) (t : Token) (ts : List Token) : Type 0 where
  pub rest : List ℕ
  pub joined : bytes ≡ spelling t ++ rest
  pub first : IsFirst t rest
  pub left : ts ≡ tokens_in rest

-- the bytes begin with some token
record HasFirst (bytes : List ℕ) : Type 0 where
  token : Token
  rest : List ℕ
  joined : bytes ≡ spelling token ++ rest
  first : IsFirst token rest
  tokens : tokens_in bytes ≡ token ∷ tokens_in rest

some_word : (bytes : List ℕ) → first_passes is_word_byte bytes ≡ true
    → (w rest : List ℕ) × (bytes ≡ w ++ rest) × IsWord w × (first_passes is_word_byte rest ≡ false)
some_word [] f = cc
some_word (b ∷ bs) f =
    let s = splits_while is_word_byte bs in
    let w : List ℕ = take (prefix_len is_word_byte bs) bs in
    let rest : List ℕ = drop (prefix_len is_word_byte bs) bs in
    (b ∷ w, rest, ap (λ (l : List ℕ). b ∷ l) s.joined, (omega arith, (f, s.each)), s.stops)

first_word : (b : ℕ) (bs : List ℕ) → is_word_byte b ≡ true → HasFirst (b ∷ bs)
first_word b bs w =
    let s = some_word (b ∷ bs) w in
    record {
      token = word s.0;
      rest = s.1;
      joined = s.2;
      first = (s.3, s.4);
      tokens = ap tokens_in s.2 ∙ word_in_front s.0 s.1 s.3 s.4;
    }

first_region : (b : ℕ) (bs : List ℕ) → (eqb b 39 && first_passes is_word_byte bs) ≡ true → HasFirst (b ∷ bs)
first_region b bs q =
    let both = both_true (eqb b 39) (first_passes is_word_byte bs) q in
    let s = some_word bs both.1 in
    let same : b ∷ bs ≡ 39 ∷ s.0 ++ s.1 =
    ap (λ (x : ℕ). x ∷ bs) (eqb-true b 39 both.0) ∙ ap (λ (l : List ℕ). 39 ∷ l) s.2 in
    record {
      token = region s.0;
      rest = s.1;
      joined = same;
      first = (s.3, s.4);
      tokens = ap tokens_in same ∙ region_in_front s.0 s.1 s.3 s.4;
    }
  where
    both_true : (x y : Bool) → (x && y) ≡ true → (x ≡ true) × (y ≡ true)
    both_true true y e = (refl, e)
    both_true false y e = cc

first_arrow : (b : ℕ) (bs : List ℕ) → first_passes (is_arrow b) bs ≡ true → HasFirst (b ∷ bs)
first_arrow b [] f = cc
first_arrow b (c ∷ bs) f = grind (arith, nat_tests, arrow_in_front)

has_first : (b : ℕ) (bs : List ℕ) → is_blank b ≡ false → HasFirst (b ∷ bs)
has_first b bs solid = ⊎_elim (first_word b bs)
    (λ other. ⊎_elim (first_region b bs)
    (λ quote. ⊎_elim (first_arrow b bs)
    (λ stop. record {
      token = sign b;
      rest = bs;
      joined = refl;
      first = (other, stop);
      tokens = byte_in_front b bs solid other quote stop;
    })
    (cases_Bool (first_passes (is_arrow b) bs)))
    (cases_Bool (eqb b 39 && first_passes is_word_byte bs)))
    (cases_Bool (is_word_byte b))

pub first_token : (bytes : List ℕ) → first_passes is_blank bytes ≡ false → (t : Token) (ts : List Token)
    → tokens_in bytes ≡ t ∷ ts → BeginsIn bytes t ts
first_token [] solid t ts e = cc
first_token (b ∷ bs) solid t ts e =
    let h = has_first b bs solid in
    let both : h.token ∷ tokens_in h.rest ≡ t ∷ ts = sym h.tokens ∙ e in
    let same : h.token ≡ t = same_first both in
    record {
      rest = h.rest;
      joined = h.joined ∙ ap (λ (u : Token). spelling u ++ h.rest) same;
      first = subst (λ (u : Token). IsFirst u h.rest) same h.first;
      left = sym (same_rest both);
    }

-- bytes that begin with no blank have a token if there are any
pub some_token : (bytes : List ℕ) → first_passes is_blank bytes ≡ false → tokens_in bytes ≡ [] → bytes ≡ []
some_token [] solid e = refl
some_token (b ∷ bs) solid e = (let h = has_first b bs solid in let f = sym h.tokens ∙ e in cc)

-- ---- the bytes behind the blanks

pub core_tokens : (line : List ℕ) → tokens_in (without_front_blanks line) ≡ tokens_in line
core_tokens line =
    let s = splits_while is_blank line in
    sym (ap tokens_in s.joined ∙ past_blanks (take (prefix_len is_blank line) line) (without_front_blanks line) s.each)

pub behind_front : (gap core : List ℕ) → IsGap gap → first_passes is_blank core ≡ false
    → without_front_blanks (gap ++ core) ≡ core
behind_front [] [] g f = refl
behind_front [] (b ∷ core) g f = rw f refl
behind_front (b ∷ gap) core g f = rw (g.0, one-add) (behind_front gap core g.1 f)

-- a line of blanks alone has nothing behind them
pub gap_alone : (line : List ℕ) → length (without_front_blanks line) ≡ 0 → IsGap line
gap_alone line e =
    let s = splits_while is_blank line in by_core (without_front_blanks line) e s.joined
  where
    by_core : (core : List ℕ) → length core ≡ 0 → line ≡ take (prefix_len is_blank line) line ++ core → IsGap line
    by_core [] none same =
        subst IsGap (sym (same ∙ append-nil (take (prefix_len is_blank line) line))) (splits_while is_blank line).each
    by_core (b ∷ core) none same = absurd (omega arith)

pub gap_ends : (line : List ℕ) → IsGap line → eqb (length (without_front_blanks line)) 0 ≡ true
gap_ends [] g = refl
gap_ends (b ∷ line) g = rw (g.0, one-add) (gap_ends line g.1)

-- ---- lines that tokens make

-- tokens that make a line are those of its bytes
pub made_are_in : (line : List ℕ) (ts : List Token) → IsMadeOf line ts → tokens_in line ≡ ts
made_are_in line [] h = gap_has_none line h
made_are_in line (t ∷ ts) h =
    ap tokens_in h.2 ∙ past_blanks h.0 (spelling t ++ h.1) h.3 ∙ token_in_front t h.1 h.4 h.5
    ∙ ap (λ (us : List Token). t ∷ us) (made_are_in h.1 ts h.6)

-- ---- the tokens of bytes make them, where their signs are signs

-- a sign is one of the signs
abbrev pub IsReal : Token → Type 0
IsReal (word name) = Unit {0}
IsReal (region name) = Unit {0}
IsReal arrow = Unit {0}
IsReal (sign b) = is_sign b ≡ true

abbrev pub AreReal : List Token → Type 0
AreReal ts = AllByRecursion IsReal ts

is_token : (t : Token) (rest : List ℕ) → IsReal t → IsFirst t rest → IsToken t
is_token (word name) rest h f = f.0
is_token (region name) rest h f = f.0
is_token arrow rest h f = tt
is_token (sign b) rest h f = h

is_whole : (t : Token) (rest : List ℕ) → IsFirst t rest → IsWhole t rest
is_whole (word name) rest f = f.1
is_whole (region name) rest f = f.1
is_whole arrow rest f = tt
is_whole (sign b) rest f = f.1

pub in_make : (ts : List Token) (line : List ℕ) → tokens_in line ≡ ts → AreReal ts → IsMadeOf line ts
in_make [] line e h =
    let gap : List ℕ = take (prefix_len is_blank line) line in
    let s = splits_while is_blank line in
    let nothing : without_front_blanks line ≡ [] = some_token _ s.stops (core_tokens line ∙ e) in
    subst IsGap (sym (s.joined ∙ (ap (λ (l : List ℕ). gap ++ l) nothing ∙ append-nil gap))) s.each
in_make (t ∷ ts) line e h =
    let gap : List ℕ = take (prefix_len is_blank line) line in
    let s = splits_while is_blank line in
    let b = first_token (without_front_blanks line) s.stops t ts (core_tokens line ∙ e) in (
      gap,
      b.rest,
      s.joined ∙ ap (λ (l : List ℕ). gap ++ l) b.joined,
      s.each,
      is_token t b.rest h.0 b.first,
      is_whole t b.rest b.first,
      in_make ts b.rest (sym b.left) h.1,
    )

pub made_of_tokens : (line : List ℕ) (ts : List Token) → IsMadeOf line ts → AreTokens ts
made_of_tokens line [] h = tt
made_of_tokens line (t ∷ ts) h = (h.4, made_of_tokens h.1 ts h.6)

pub tokens_make : (line : List ℕ) → AreTokens (tokens_in line) → IsMadeOf line (tokens_in line)
tokens_make line are = in_make (tokens_in line) line refl (real_tokens (tokens_in line) are)
  where
    real_tokens : (ts : List Token) → AreTokens ts → AreReal ts
    real_tokens [] h = tt
    real_tokens (word name ∷ ts) h = (tt, real_tokens ts h.1)
    real_tokens (region name ∷ ts) h = (tt, real_tokens ts h.1)
    real_tokens (arrow ∷ ts) h = (tt, real_tokens ts h.1)
    real_tokens (sign b ∷ ts) h = (h.0, real_tokens ts h.1)

pub one_token_list_lem : (line : List ℕ) (ts us : List Token) → IsMadeOf line ts → IsMadeOf line us → ts ≡ us
one_token_list_lem line ts us h k = sym (made_are_in line ts h) ∙ made_are_in line us k

-- ---- a token begins with no blank and with no `#`

pub token_solid : (t : Token) (rest : List ℕ) → IsToken t → first_passes is_blank (spelling t ++ rest) ≡ false
token_solid (word []) rest h = absurd (omega (arith, h.0))
token_solid (word (b ∷ bs)) rest h = word_byte_solid b h.1.0
token_solid (region name) rest h = refl
token_solid arrow rest h = refl
token_solid (sign b) rest h = grind (arith, nat_tests)

pub spells_no_remark : (t : Token) (rest : List ℕ) → IsToken t → is_empty_or_remark (spelling t ++ rest) ≡ false
spells_no_remark (word []) rest h = absurd (omega (arith, h.0))
spells_no_remark (word (b ∷ bs)) rest h = (let w = h.1.0 in grind (arith, nat_tests))
spells_no_remark (region name) rest h = refl
spells_no_remark arrow rest h = refl
spells_no_remark (sign b) rest h = grind (arith, nat_tests)
