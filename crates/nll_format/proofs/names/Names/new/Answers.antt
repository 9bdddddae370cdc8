use Rattle.std.proofs.Common.{◌≡◌, ◌∙◌, ap, map, [], ◌∷◌, refl, codes, arith}
use Rattle.nll_format.proofs.NameLemmas.{texts_push, names_inserted}
use Rattle.nll_format.proofs.names.Names.new.Goals as goal
use Rattle.nll_format.proofs.names.Names.new.Goals.{In_ok-insert}

-- the names after the insert
after : (c : In_ok-insert) → map (λ name. name.items) c.insert.new.self.keys ≡ codes "static" ∷ []
after c =
    ap (map (λ name. name.items)) c.in_ok-insert.ensures.keys
    ∙ rw c.new-set.ensures.empty (names_inserted (λ name. name.items) [] c.in_ok-from_slice.field-0
    (codes "static") c.in_ok-from_slice.ensures.ok refl)

pub invariant_of-result : goal.invariant_of-result
unfolding lib.Utf8.encode
invariant_of-result c =
    rw (after (goal.at.invariant_of-result c).In_ok-insert)
    (texts_push [] (codes "static") (λ k low. absurd (omega (arith, low))) (codes "static", (refl, refl)), tt)
