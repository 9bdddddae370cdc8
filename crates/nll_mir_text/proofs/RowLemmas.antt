-- The arguments in the newest row, and their kinds: whether each is a region.
use Rattle.std.proofs.Common.{◌≡◌, ℕ, suc, ◌-◌, Bool, true, false, List, [], ◌∷◌, length, map, drop, take, reverse, refl, sym, ap, ◌∙◌}
use Rattle.std.proofs.Math.Seq.{take-length}
use Rattle.std.proofs.lemmas.List.{length-drop, reverse-reverse}
use Rattle.nll_mir_text.specs.Naming.{same_kinds}
use Rattle.nll_mir_text.specs.Resolving.{is_region_entry, newest}
use Rattle.nll_mir_text.specs.declared.rows.Mark.{Mark}

-- the newest row, in order, is what stands behind its beginning
pub behind_beginning : (ms rows : List Mark) (p : ℕ) → ms ≡ rows → reverse (drop p rows) ≡ newest (reverse rows)
    → take (length ms - p) (drop p ms) ≡ reverse (newest (reverse rows))
behind_beginning ms rows p same f =
    ap (λ n. take n (drop p ms)) (sym (length-drop p ms))
    ∙ (take-length (drop p ms) ∙ (ap (drop p) same ∙ (sym (reverse-reverse (drop p rows)) ∙ ap reverse f)))

-- kinds in rows of two lengths aren't the same
pub kinds_differ : (kinds ks : List Bool) → (length kinds ≡ length ks → ⊥) → false ≡ same_kinds kinds ks
kinds_differ [] [] h = absurd (h refl)
kinds_differ [] (k ∷ ks) h = refl
kinds_differ (true ∷ kinds) [] h = refl
kinds_differ (false ∷ kinds) [] h = refl
kinds_differ (true ∷ kinds) (true ∷ ks) h = kinds_differ kinds ks (λ e. h (ap suc e))
kinds_differ (false ∷ kinds) (false ∷ ks) h = kinds_differ kinds ks (λ e. h (ap suc e))
kinds_differ (true ∷ kinds) (false ∷ ks) h = refl
kinds_differ (false ∷ kinds) (true ∷ ks) h = refl

pub length_kinds : (ms : List Mark) → length (map is_region_entry ms) ≡ length ms
length_kinds [] = refl
length_kinds (m ∷ ms) = ap suc (length_kinds ms)
