-- What words and numbers at the front of the rest of a line are read from.
use Rattle.std.proofs.Common.{◌≡◌, ℕ, ◌<◌, false, List, [], ◌∷◌, ◌++◌, length, get_or, refl, sym, ap, ◌∙◌, arith}
use Rattle.std.specs.Prelude.{codes}
use Rattle.std.specs.Fmt.{decimal}
use Rattle.nll_text.specs.Lines.{is_blank}
use Rattle.nll_text.specs.Tokens.{Token, word, sign, first_passes}
use Rattle.nll_text.specs.LineTokens.{tokens_in}
use Rattle.nll_text.specs.Grammars.{Begins, HasNone}
use Rattle.nll_text.proofs.TokenLemmas.{first_token}
use Rattle.nll_mir_grammar.specs.Grammars.{behind_token}
use Rattle.nll_mir_grammar.specs.Parts.{variables, block_names, places}
use Rattle.nll_mir_grammar.specs.Kinds.{HasNoKeyword, keyword_name, lines, rights}
use Rattle.nll_mir_grammar.specs.declared.keyword.Keyword.{Keyword}
use Rattle.nll_mir_grammar.specs.declared.keyword.Keyword.TheVariants as words
use Rattle.nll_mir_grammar.proofs.GrammarLemmas.{pair_none}
use Rattle.nll_mir_grammar.proofs.PartLemmas.{no_place}
use Rattle.nll_mir_grammar.proofs.KindLemmas.{rights_join}
use Rattle.nll_mir_grammar.proofs.LineLemmas.{no_assignment}

-- the first byte of a word that comes next is the first byte of all
pub word_first : (core : List ℕ) → first_passes is_blank core ≡ false → (w : List ℕ) (rest : List Token)
    → tokens_in core ≡ word w ∷ rest → (0 < length core) × (get_or core 0 0 ≡ get_or w 0 0)
word_first core solid [] rest e = absurd (omega (arith, (first_token core solid (word []) rest e).first.0.0))
word_first core solid (b ∷ w) rest e =
    let h = first_token core solid (word (b ∷ w)) rest e in
    (omega (arith, ap length h.joined), ap (λ (l : List ℕ). get_or l 0 0) h.joined)

-- the first byte is `_`
pub variable_there : (core : List ℕ) → first_passes is_blank core ≡ false → (ts : List Token) → tokens_in core ≡ ts
    → (n : ℕ) (r : List Token) → Begins variables ts n r → (0 < length core) × (get_or core 0 0 ≡ 95)
variable_there core solid ts e n r b = word_first core solid (codes "_" ++ decimal n) r (e ∙ b.joined)

-- the first bytes are `bb`
pub block_there : (core : List ℕ) → first_passes is_blank core ≡ false → (ts : List Token) → tokens_in core ≡ ts
    → (n : ℕ) (r : List Token) → Begins block_names ts n r
    → (1 < length core) × (get_or core 0 0 ≡ 98) × (get_or core 1 0 ≡ 98)
block_there core solid ts e n r b =
    let h = first_token core solid (word (codes "bb" ++ decimal n)) r (e ∙ b.joined) in (
      omega (arith, ap length h.joined),
      ap (λ (l : List ℕ). get_or l 0 0) h.joined,
      ap (λ (l : List ℕ). get_or l 1 0) h.joined,
    )

-- no keyword begins with `_`
no_marked : (k : Keyword) (more : List ℕ) → get_or (keyword_name k ++ more) 0 0 ≡ 95 → ⊥
no_marked words.End more e = absurd (omega (arith, e))
no_marked _ more e = absurd (omega (arith, e))

-- bytes that begin with `_` begin with no keyword
pub marked : (core : List ℕ) → first_passes is_blank core ≡ false → get_or core 0 0 ≡ 95 → HasNoKeyword (tokens_in core)
marked core solid first k rest e =
    let h = first_token core solid (word (keyword_name k)) rest e in
    no_marked k h.rest (sym (ap (λ (l : List ℕ). get_or l 0 0) h.joined) ∙ first)

-- bytes that don't begin with `_`, nor with a keyword, begin no line
pub unmarked : (core : List ℕ) → first_passes is_blank core ≡ false
    → ((0 < length core) × (get_or core 0 0 ≡ 95) → ⊥) → HasNoKeyword (tokens_in core)
    → HasNone lines (tokens_in core)
unmarked core solid other none = no_assignment _ none (pair_none places (behind_token (sign 61) rights) rights_join _
    (no_place _ (λ n r b. other (variable_there core solid _ refl n r b))))
