use Rattle.std.proofs.Common.{subst}
use Rattle.std.proofs.lemmas.Result.{on_ok_weaker, IfErr-weaker}
use Rattle.nll_body.proofs.FlatLemmas.{statements_same}
use Rattle.nll_mir_grammar.specs.MirForms.{at_point}
use Rattle.nll_mir_text.specs.MirReading.{IsRefused, IsTaken}
use Rattle.nll_mir_grammar.specs.Lines.{statement_of}
use Rattle.nll_mir_text.proofs.GrownLemmas.{is_grown, placed_of}
use Rattle.nll_mir_text.proofs.reader.Reader.add_statement.Goals as goal

pub add_resolved-requires-clause-ready : goal.add_resolved-requires-clause-ready
add_resolved-requires-clause-ready c =
    let e = c.in_ok-resolved.ensures in
    let same = statements_same _ _ c.call_counts.ensures.within e.grows.lists e.grows.points in
    (is_grown c.args.self.now _ _ c.resolve_statement.new.made e.adds same c.requires.ready).ready

pub returns-in-Some-clause-taken : goal.returns-in-Some-clause-taken
returns-in-Some-clause-taken c =
    let i = statement_of c.args.statement.now in
    let e = rw (c.scope_in-scope.ensures, c.in-Some.is) at c.in_ok-resolved.ensures in
    let same = statements_same _ _ c.call_counts.ensures.within e.grows.lists e.grows.points in
    on_ok_weaker c.add_resolved.result
    (λ h. subst (λ s. IsTaken s (at_point i) c.add_resolved.new.self)
    (is_grown c.args.self.now _ _ c.resolve_statement.new.made e.adds same c.requires.ready).said
    (h i (placed_of c.args.self.now _ _ _ i _ _ e.adds same c.requires.ready c.requires.order e.made e.fits)))
    c.add_resolved.ensures.taken

pub returns-in-Some-clause-refused : goal.returns-in-Some-clause-refused
returns-in-Some-clause-refused c =
    let i = statement_of c.args.statement.now in
    let e = rw (c.scope_in-scope.ensures, c.in-Some.is) at c.in_ok-resolved.ensures in
    let same = statements_same _ _ c.call_counts.ensures.within e.grows.lists e.grows.points in
    IfErr-weaker c.add_resolved.result _ _
    (λ kind h. subst (λ s. IsRefused s (at_point i) kind)
    (is_grown c.args.self.now _ _ c.resolve_statement.new.made e.adds same c.requires.ready).said
    (h i (placed_of c.args.self.now _ _ _ i _ _ e.adds same c.requires.ready c.requires.order e.made e.fits)))
    c.add_resolved.ensures.refused
