-- What a line of a text of any format does to what a reader holds.
-- Source: project's choice. Only private contracts cite this file.
use Rattle.std.specs.Prelude.{◌≡◌, ℕ, List, [], ◌∷◌}
use Rattle.nll_format.specs.Text.{Format, Fits}

-- t is held after a line without a fault: the line is skipped and t is s, or its form is added.
pub data ReadsLine (format : Format) (Adds : format.Said → format.Form → format.Said → Type 0)
    (s : format.Said) (line : List ℕ) (t : format.Said) : Type 0 where
  skips : Fits format s line [] → t ≡ s → ReadsLine format Adds s line t
  reads : (f : format.Form) → Fits format s line (f ∷ []) → Adds s f t
      → ReadsLine format Adds s line t
