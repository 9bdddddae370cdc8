use Rattle.std.proofs.Common.{◌≡◌, ◌∙◌, ap, map, [], ◌∷◌, ◌++◌}
use Rattle.nll_format.proofs.NameLemmas.{texts_push, names_inserted}
use Rattle.nll_format.proofs.names.Names.add.Goals as goal
use Rattle.nll_format.proofs.names.Names.add.Goals.{In_ok-insert}

pub invariant_of-self : goal.invariant_of-self
invariant_of-self c = rw c.in_err-insert.ensures.err c.self.invariant

-- the names after the insert
after : (c : In_ok-insert) → map (λ name. name.items) c.insert.new.self.keys
    ≡ map (λ name. name.items) c.self.inside.set.keys ++ c.args.name.now ∷ []
after c =
    ap (map (λ name. name.items)) c.in_ok-insert.ensures.keys
    ∙ names_inserted (λ name. name.items) c.self.inside.set.keys c.in_ok-name.name c.args.name.now
    c.in_ok-name.ensures.ok (rw (← c.self.view_is) at c.requires.absent)

pub invariant_of-self-2 : goal.invariant_of-self-2
invariant_of-self-2 c =
    rw (after (goal.at.invariant_of-self-2 c).In_ok-insert)
    (texts_push _ c.args.name.now c.self.invariant.0 c.requires.text, c.series_with-series.ensures)

pub returns-clause-ok : goal.returns-clause-ok
returns-clause-ok c = rw (← c.self.view_is) (after (goal.at.returns-clause-ok c).In_ok-insert)
