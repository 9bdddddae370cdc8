-- The header, a text's first line, which names the kind of text and its version.
-- Source: project's choice.
use Rattle.std.specs.Prelude.{◌≡◌, ℕ, List, [], ◌∷◌, ◌==◌, not, length, filter}
use Rattle.std.specs.List.{slice_split}
use Rattle.nll_text.specs.Lines.{is_blank}

-- The runs of a line are the pieces between its blanks that aren't empty.
abbrev pub runs : List ℕ → List (List ℕ)
runs line = filter (λ run. not (length run == 0)) (slice_split is_blank line)

-- The line is two runs, the kind and the version.
abbrev pub IsHeader : List ℕ → List ℕ → List ℕ → Type 0
IsHeader kind version line = runs line ≡ kind ∷ version ∷ []
