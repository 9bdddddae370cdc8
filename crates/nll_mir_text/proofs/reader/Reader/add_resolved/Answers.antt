use Rattle.std.proofs.Common.{◌≡◌, ℕ, ◌+◌, not, ap, refl, sym, subst}
use Rattle.std.proofs.lemmas.Result.{err_from_is_err_and}
use Rattle.nll_types.specs.Rows.{tree_at}
use Rattle.nll_types.specs.Tables.{AddsShapes, Tables}
use Rattle.nll_types.proofs.RowLemmas.{below_rows, have_shapes}
use Rattle.nll_body.specs.Statements.{Statement}
use Rattle.nll_body.specs.declared.judgement.Judgement.{Judgement}
use Rattle.nll_format.specs.declared.error.TextKind.{TextKind}
use Rattle.nll_mir_grammar.specs.MirForms.{at_point}
use Rattle.nll_mir_grammar.specs.WrittenTypes.{WrittenName, WrittenType}
use Rattle.nll_mir_text.specs.MirReading.{said_by, IsReady, IsRefused}
use Rattle.nll_mir_text.specs.ResolvedStatements.{IsOfPoint}
use Rattle.nll_mir_text.specs.declared.reader.Reader.{Reader}
use Rattle.nll_mir_text.proofs.GrownLemmas.{adds_table, grown, is_grown, placed_grown, said_grown}
use Rattle.nll_mir_text.proofs.PointLemmas.{point_judged}
use Rattle.nll_mir_text.proofs.StandLemmas.{stands}
use Rattle.nll_mir_text.proofs.reader.Reader.add_resolved.Goals as goal

-- the reader with more shapes says what it said
module _ (r : Reader) (t : Tables) (grows : AddsShapes r.variables.types.table t) (ready : IsReady r) where
  abbrev later : Reader
  later = grown r (record r.variables.types { table = t }) r.points.statements r.resolving

  said : said_by later ≡ said_by r
  said = said_grown r _ r.points.statements r.resolving (adds_table r.variables.types t grows) refl ready

  refused_before : (i : Statement WrittenName WrittenType) (kind : TextKind)
      → IsRefused (said_by later) (at_point i) kind
      → IsRefused (said_by r) (at_point i) kind
  refused_before i kind h = subst (λ s. IsRefused s (at_point i) kind) said h

  of_later : (i : Statement WrittenName WrittenType) (j : Judgement) → IsOfPoint (said_by r) i j
      → IsOfPoint (said_by later) i j
  of_later i j h = subst (λ s. IsOfPoint s i j) (sym said) h

pub judge_statement-requires-clause-variables : goal.judge_statement-requires-clause-variables
judge_statement-requires-clause-variables c =
    rw c.as_slice.ensures.value (below_rows _ _ _ c.requires.ready.rows.variables)

pub judge_statement-requires-clause-written : goal.judge_statement-requires-clause-written
judge_statement-requires-clause-written c = below_rows _ _ _ c.requires.rows

pub admit-requires-clause-ready : goal.admit-requires-clause-ready
admit-requires-clause-ready c =
    let adds = adds_table c.args.self.now.variables.types _ c.in_ok-judged.ensures.grows in
    (is_grown c.args.self.now _ _ _ adds refl c.requires.ready).ready

pub returns-in_err-admit-clause-refused : goal.returns-in_err-admit-clause-refused
returns-in_err-admit-clause-refused c =
    let p = err_from_is_err_and c.from_residual-in_err-admit.result c.from_residual-in_err-admit.ensures.1 in
    rw (p.1, p.2) (λ i placed.
    let r = c.args.self.now in
    let ready = c.requires.ready in
    let e = rw c.as_slice.ensures.value at c.in_ok-judged.ensures in
    let tree = tree_at r.variables.types.table.shapes r.variables.types.regions.items in
    let judged = e.judged _ (λ (r : ℕ). r) tree (have_shapes _ _ _ ready.rows.variables)
    (have_shapes _ _ _ c.requires.rows) in
    let placed_later = placed_grown r _ (adds_table r.variables.types _ e.grows) ready i c.args.statement c.args.fits
    placed in
    refused_before r _ e.grows ready i _
    (c.in_err-admit.ensures.refused i c.args.fits placed_later (of_later r _ e.grows ready i _
    (point_judged r i c.args.statement c.args.fits placed c.in_ok-judged.judged _ refl refl refl e.declared judged))))

pub returns-clause-taken : goal.returns-clause-taken
returns-clause-taken c = λ i placed.
    let r = c.args.self.now in
    let e = rw c.as_slice.ensures.value at c.in_ok-judged.ensures in
    let tree = tree_at r.variables.types.table.shapes r.variables.types.regions.items in
    let judged = e.judged _ (λ (r : ℕ). r) tree (have_shapes _ _ _ c.requires.ready.rows.variables)
    (have_shapes _ _ _ c.requires.rows) in
    let adds = adds_table r.variables.types _ e.grows in
    let old = later r _ e.grows c.requires.ready in
    let p = placed_grown r _ adds c.requires.ready i c.args.statement c.args.fits placed in
    let h = c.in_ok-admit.ensures.admitted i c.args.fits p (of_later r _ e.grows c.requires.ready i _
    (point_judged r i c.args.statement c.args.fits placed c.in_ok-judged.judged _ refl refl refl e.declared judged)) in
    stands old i c.args.statement h.ready p.of h.fine h.few c.push.new.self _ _ c.in_ok-push.ensures.ok
    (ap (λ n. old.points.edges + n) h.counted) h.few_edges (ap not h.ends) (said_by r)
    (said r _ e.grows c.requires.ready)
