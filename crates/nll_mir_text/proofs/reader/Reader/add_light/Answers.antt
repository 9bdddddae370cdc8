use Rattle.std.proofs.Common.{◌≡◌, ◌+◌, ◌<◌, length, ap, inr, not, refl, sym, ◌∙◌, true, arith}
use Rattle.std.specs.Prelude.{◌&&◌}
use Rattle.std.proofs.lemmas.Bool.{and_parts}
use Rattle.nll_problem.specs.Limits.{most_points}
use Rattle.nll_body.specs.Flat.{statements_in}
use Rattle.nll_mir_grammar.specs.Lines.{statement_of_light}
use Rattle.nll_mir_text.specs.MirFaults.{is_in_body}
use Rattle.nll_mir_text.specs.MirReading.{said_by}
use Rattle.nll_mir_text.proofs.LightLemmas.{plain}
use Rattle.nll_mir_text.proofs.PointLemmas.{too_many_edges, no_fault, counted, same_count}
use Rattle.nll_mir_text.proofs.StandLemmas.{stands}
use Rattle.nll_mir_text.proofs.reader.Reader.add_light.Goals as goal

pub returns-then-self-ge-MAX_EDGES-clause-refused : goal.returns-then-self-ge-MAX_EDGES-clause-refused
returns-then-self-ge-MAX_EDGES-clause-refused c =
    let r = c.args.self.now in
    let s = said_by r in
    let p = plain s c.args.light in
    inr (too_many_edges s (statement_of_light c.args.light)
    (rw (sym c.is_in_body.ensures) c.if-not-is_in_body-self.false)
    (sym c.flat_light-statement.ensures.declared ∙ c.if-not-declared.false) p.blocks p.fits p.small
    (omega (arith, counted r, c.len.ensures, c.if-len.false))
    (omega (arith, c.requires.edges, same_count r, p.edges, c.if-self-ge-MAX_EDGES.true)))

pub returns-clause-taken : goal.returns-clause-taken
returns-clause-taken c =
    let r = c.args.self.now in
    let s = said_by r in
    let p = plain s c.args.light in
    let order : (is_in_body s && s.owes) ≡ true = rw (sym c.is_in_body.ensures) c.if-not-is_in_body-self.false in
    let few : length (statements_in r.points.statements) < most_points = omega (arith, c.len.ensures, c.if-len.false) in
    stands r (statement_of_light c.args.light) _ c.requires c.flat_light-statement.ensures.flat
    (no_fault s (statement_of_light c.args.light) order
    (sym c.flat_light-statement.ensures.declared ∙ c.if-not-declared.false) p.blocks p.fits p.small
    (omega (arith, counted r, few))
    (omega (arith, c.requires.edges, same_count r, p.edges, c.if-self-ge-MAX_EDGES.false)))
    few c.push.new.self (r.points.edges + 1) r.points.owes c.in_ok-push.ensures.ok
    (ap (λ n. r.points.edges + n) (sym p.edges)) (omega (arith, c.if-self-ge-MAX_EDGES.false))
    ((and_parts _ _ order).1 ∙ sym (ap not p.ends)) s refl
