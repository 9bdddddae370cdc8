use Rattle.std.proofs.Common.{ap, ◌∙◌}
use Rattle.nll_types.specs.Places.{path_of}
use Rattle.nll_body.specs.Flat.{path_in}
use Rattle.nll_body.specs.Statements.{borrow}
use Rattle.nll_body.proofs.FlatLemmas.{number_kept, places_grow}
use Rattle.nll_body.proofs.statements.Statements.add_borrow.Goals as goal

pub returns-clause-flat : goal.returns-clause-flat
returns-clause-flat c =
    let l = c.add_place.new.self in
    let m = c.add_place-2.new.self in
    let target = number_kept l m c.add_place.ensures.within (places_grow l m c.add_place-2.ensures.places).lists
    (path_of c.args.target.now) c.in_ok-target.target c.in_ok-target.ensures.number in
    let source = c.in_ok-source.ensures.number in (
      (target.0, source.0),
      ap (λ p. borrow p c.args.region c.args.mutable (path_in m c.in_ok-source.source)) target.1
          ∙ ap (borrow (path_of c.args.target.now) c.args.region c.args.mutable) source.1,
    )
