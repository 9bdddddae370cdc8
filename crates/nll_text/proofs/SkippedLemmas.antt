-- Lines of tokens, which are not skipped.
use Rattle.std.proofs.Common.{◌≡◌, ℕ, false, List, ◌∷◌, ◌++◌, ap, ◌∙◌}
use Rattle.nll_text.specs.Lines.{is_skipped, is_empty_or_remark}
use Rattle.nll_text.specs.Tokens.{Token, spelling, IsMadeOf}
use Rattle.nll_text.proofs.TokenLemmas.{behind_front, token_solid, spells_no_remark}

-- a line that is made of some token is not skipped
pub kept_tokens : (line : List ℕ) (t : Token) (ts : List Token)
    → IsMadeOf line (t ∷ ts) → is_skipped line ≡ false
kept_tokens line t ts h =
    ap is_skipped h.2
    ∙ ap is_empty_or_remark (behind_front h.0 (spelling t ++ h.1) h.3 (token_solid t h.1 h.4))
    ∙ spells_no_remark t h.1 h.4
