-- Which bytes the parts of a line are spelled by.
use Rattle.std.proofs.Common.{◌≡◌, ◌⊎◌, inl, inr, ⊎_elim, ℕ, ◌<◌, ◌^◌, List, [], ◌∷◌, false, sym, ap, ◌∙◌, subst, map, arith}
use Rattle.std.specs.List.{AllByRecursion}
use Rattle.std.specs.Str.{IsUtf8, bytes_eq}
use Rattle.std.specs.Str.Parse.{digits_value}
use Rattle.std.specs.Fmt.{decimal}
use Rattle.std.proofs.lemmas.Bool.{cases_lt, false≢true}
use Rattle.std.proofs.lemmas.Fmt.{decimal_is_IsNumeral}
use Rattle.std.proofs.lemmas.Slice.Eq.{bytes_eq-Decides}
use Rattle.nll_text.specs.Lines.{is_skipped}
use Rattle.nll_text.specs.Tokens.{Token, word}
use Rattle.nll_text.specs.LineTokens.{tokens_in}
use Rattle.nll_text.specs.Grammars.{HasNone, IsNotNext, numbers, regions}
use Rattle.nll_text.proofs.DecisionLemmas.{same_first, same_rest, tokens_or_not}
use Rattle.nll_text.proofs.SkippedLemmas.{kept_tokens}
use Rattle.nll_text.proofs.TokenLemmas.{AreReal, in_make, made_are_in, one_token_list_lem}
use Rattle.nll_text.proofs.Utf8Lemmas.{made_is_utf8}
use Rattle.nll_format.specs.Parts.{Name, Part, keyword, number, region, token_of, IsSmall, Spells, AreSpelled}

-- ---- the tokens in bytes, and the parts that they spell

real_parts : (these : List Part) → AreReal (map token_of these)
real_parts [] = tt
real_parts (keyword w ∷ these) = (tt, real_parts these)
real_parts (number n ∷ these) = (tt, real_parts these)
real_parts (region x ∷ these) = (tt, real_parts these)

spelled_in : (bytes : List ℕ) (these : List Part) → Spells bytes these → AreSpelled (tokens_in bytes) these
spelled_in bytes these h = record { same = made_are_in bytes (map token_of these) h.made; small = h.small }

in_spell : (bytes : List ℕ) (these : List Part) → AreSpelled (tokens_in bytes) these → Spells bytes these
in_spell bytes these h =
    record { made = in_make (map token_of these) bytes h.same (real_parts these); small = h.small }

-- ---- one part after another

-- a part in front of what the rest spells
pub spells_more : (bytes rest : List ℕ) (p : Part) (these : List Part) → tokens_in bytes ≡ token_of p ∷ tokens_in rest
    → IsSmall p → Spells rest these → Spells bytes (p ∷ these)
spells_more bytes rest p these begins is h =
    let s = spelled_in rest these h in
    in_spell bytes (p ∷ these)
    (record { same = begins ∙ ap (λ (ts : List Token). token_of p ∷ ts) s.same; small = (is, s.small) })

-- behind the first token stands what the other parts spell
pub spells_rest : (bytes rest : List ℕ) (t : Token) (p : Part) (these : List Part)
    → tokens_in bytes ≡ t ∷ tokens_in rest → Spells bytes (p ∷ these) → (token_of p ≡ t) × Spells rest these
spells_rest bytes rest t p these begins h =
    let s = spelled_in bytes (p ∷ these) h in
    let both : token_of p ∷ map token_of these ≡ t ∷ tokens_in rest = sym s.same ∙ begins in
    (same_first both, in_spell rest these (record { same = sym (same_rest both); small = s.small.1 }))

-- bytes that don't begin with a part spell nothing that begins with it
pub none_first : (bytes : List ℕ) (p : Part) (these : List Part) → IsNotNext (token_of p) (tokens_in bytes)
    → Spells bytes (p ∷ these) → ⊥
none_first bytes p these none h = none (map token_of these) (spelled_in bytes (p ∷ these) h).same

pub no_number_first : (bytes : List ℕ) (n : ℕ) (these : List Part) → HasNone numbers (tokens_in bytes)
    → Spells bytes (number n ∷ these) → ⊥
no_number_first bytes n these none h =
    let s = spelled_in bytes (number n ∷ these) h in
    none n (map token_of these) (record { joined = s.same; allowed = s.small.0; follows = tt })

pub no_region_first : (bytes : List ℕ) (x : Name) (these : List Part) → HasNone regions (tokens_in bytes)
    → Spells bytes (region x ∷ these) → ⊥
no_region_first bytes x these none h =
    none x (map token_of these)
    (record { joined = (spelled_in bytes (region x ∷ these) h).same; allowed = tt; follows = tt })

same_word : {v w : List ℕ} → word v ≡ word w → v ≡ w
same_word e = cc

-- words that differ are other tokens
pub other_word : (v w : List ℕ) → bytes_eq v w ≡ false → word v ≡ word w → ⊥
other_word v w differ e = false≢true (sym differ ∙ (bytes_eq-Decides v w).1 (same_word e))

-- ---- what holds of a line of parts

-- it is UTF-8
pub spelled_utf8 : (line : List ℕ) (these : List Part) → Spells line these → IsUtf8 line
spelled_utf8 line these h = made_is_utf8 line (map token_of these) h.made

-- it is not skipped
pub spelled_kept : (line : List ℕ) (p : Part) (these : List Part) → Spells line (p ∷ these) → is_skipped line ≡ false
spelled_kept line p these h = kept_tokens line (token_of p) (map token_of these) h.made

-- ---- a number is read as it is printed

pub printed : (n : ℕ) → n < 10 ^ 9 → digits_value 10 (decimal n) ≡ n
printed n small = (decimal_is_IsNumeral n (omega (arith, small))).1

-- ---- a line has one form, or none

small_or_not : (these : List Part) → AllByRecursion IsSmall these ⊎ (AllByRecursion IsSmall these → ⊥)
small_or_not [] = inl tt
small_or_not (x ∷ these) = ⊎_elim
    (λ h. ⊎_elim (λ k. inl (h, k)) (λ no. inr (λ k. no k.1)) (small_or_not these))
    (λ h. inr (λ k. h k.0))
    (part_small_or_not x)
  where
    part_small_or_not : (x : Part) → IsSmall x ⊎ (IsSmall x → ⊥)
    part_small_or_not (keyword w) = inl tt
    part_small_or_not (number n) = ⊎_elim inl (λ h. inr (λ k. omega (arith, h, k))) (cases_lt n (10 ^ 9))
    part_small_or_not (region x) = inl tt

-- Forms whose parts tell them: `unspelled` gives the form that tokens spell, where they spell one.
module _ (Form : Type 0) (parts : Form → List Part) (unspelled : List Token → Form)
    (own : (f : Form) → AllByRecursion IsSmall (parts f) → unspelled (map token_of (parts f)) ≡ f) where
  pub one_form : (line : List ℕ) (f g : Form) → Spells line (parts f) → Spells line (parts g) → f ≡ g
  one_form line f g h k = grind (arith, one_token_list_lem, map)

  -- the form that tokens have is the one that they spell
  spelled_or_none : (ts : List Token)
      → ((f : Form) × AreSpelled ts (parts f)) ⊎ ((f : Form) → AreSpelled ts (parts f) → ⊥)
  spelled_or_none ts =
      let told : (f : Form) → AreSpelled ts (parts f) → unspelled ts ≡ f = λ f h. ap unspelled h.same ∙ own f h.small in
      ⊎_elim
      (λ same. ⊎_elim
      (λ small. inl (unspelled ts, record { same = same; small = small }))
      (λ no. inr (λ f h. no (subst (λ (g : Form). AllByRecursion IsSmall (parts g)) (sym (told f h)) h.small)))
      (small_or_not (parts (unspelled ts))))
      (λ no. inr (λ f h. no (h.same ∙ sym (ap (λ (g : Form). map token_of (parts g)) (told f h)))))
      (tokens_or_not ts (map token_of (parts (unspelled ts))))

  pub form_or_none : (line : List ℕ) → ((f : Form) × Spells line (parts f)) ⊎ ((f : Form) → Spells line (parts f) → ⊥)
  form_or_none line = ⊎_elim
      (λ h. inl (h.0, in_spell line (parts h.0) h.1))
      (λ no. inr (λ f h. no f (spelled_in line (parts f) h)))
      (spelled_or_none (tokens_in line))
