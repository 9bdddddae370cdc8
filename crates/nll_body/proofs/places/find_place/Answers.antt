use Rattle.std.proofs.Common.{◌<◌, length, sym, arith}
use Rattle.nll_types.specs.Declarations.{structs_of}
use Rattle.nll_body.specs.Judging.{path_at}
use Rattle.nll_body.proofs.MeetingLemmas.{place_is}
use Rattle.nll_types.proofs.NumberLemmas.{variable_below, variable_there}
use Rattle.nll_body.proofs.places.find_place.Goals as goal

pub place_shape-requires : goal.place_shape-requires
place_shape-requires c =
    variable_below _ c.args.places.now.variables.now _ c.requires (omega (arith, c.variable-variable.ensures))

pub returns-in-Some-clause-found : goal.returns-in-Some-clause-found
returns-in-Some-clause-found c = λ types h.
    let p = path_at c.args.places.now c.args.place in
    let vs = c.args.places.now.variables.now in
    let within : p.variable < length vs = omega (arith, c.variable-variable.ensures) in
    let t = variable_there c.args.table.now.shapes vs types p.variable h within in
    let at = rw (c.in-Some.is, c.projections.ensures, c.variable-variable.ensures) at c.in_ok-shape.ensures.at in
    let small = rw (c.in-Some.is, c.projections.ensures, c.variable-variable.ensures) at c.in_ok-shape.ensures.small in
    place_is (structs_of c.args.table.now.structs) _ types p t.0 _ _ t.1 (at t.0 (sym t.2)) (small t.0 (sym t.2))

pub returns-in-None-clause-found : goal.returns-in-None-clause-found
returns-in-None-clause-found c = λ types h.
    let p = path_at c.args.places.now c.args.place in
    let vs = c.args.places.now.variables.now in
    let within : p.variable < length vs = omega (arith, c.variable-variable.ensures) in
    let t = variable_there c.args.table.now.shapes vs types p.variable h within in
    let at = rw (c.in-None.is, c.projections.ensures, c.variable-variable.ensures) at c.in_ok-shape.ensures.at in
    place_is (structs_of c.args.table.now.structs) _ types p t.0 _ _ t.1 (at t.0 (sym t.2)) tt
