use Rattle.std.proofs.Common.{refl, sym, ◌∙◌, inr, arith}
use Rattle.std.proofs.lemmas.Bool.{not-true, not-false}
use Rattle.nll_mir_text.specs.MirReading.{said_by, scope_in}
use Rattle.nll_mir_text.proofs.PointLemmas.{undeclared, out_of_range, unfit, too_large, too_many_points, too_many_edges, no_fault, counted, same_count, targets_are, edges_resolved, ends_resolved}
use Rattle.nll_mir_text.proofs.reader.Reader.admit.Goals as goal

pub returns-then-not-judgement-clause-refused : goal.returns-then-not-judgement-clause-refused
returns-then-not-judgement-clause-refused c = λ i fits placed told.
    let s = said_by c.args.self.now in
    inr (undeclared s i placed.order (sym told.known ∙ (not-true _ c.if-not-judgement.true)))

pub returns-then-not-targets_are_blocks-clause-refused : goal.returns-then-not-targets_are_blocks-clause-refused
returns-then-not-targets_are_blocks-clause-refused c = λ i fits placed told.
    let s = said_by c.args.self.now in
    let known = sym told.known ∙ (not-false _ c.if-not-judgement.false) in
    let blocks = sym (targets_are s i _ _ placed.of.of _ c.targets_are_blocks.ensures)
    ∙ c.if-not-targets_are_blocks.true in
    inr (out_of_range s i placed.order known blocks)

pub returns-then-not-judgement-2-clause-refused : goal.returns-then-not-judgement-2-clause-refused
returns-then-not-judgement-2-clause-refused c = λ i fits placed told.
    let s = said_by c.args.self.now in
    let known = sym told.known ∙ (not-false _ c.if-not-judgement.false) in
    let blocks = sym (targets_are s i _ _ placed.of.of _ c.targets_are_blocks.ensures)
    ∙ c.if-not-targets_are_blocks.false in
    inr (unfit s i placed.order known blocks (sym told.fits ∙ (not-true _ c.if-not-judgement-2.true)))

pub returns-then-not-judgement-3-clause-refused : goal.returns-then-not-judgement-3-clause-refused
returns-then-not-judgement-3-clause-refused c = λ i fits placed told.
    let s = said_by c.args.self.now in
    let known = sym told.known ∙ (not-false _ c.if-not-judgement.false) in
    let blocks = sym (targets_are s i _ _ placed.of.of _ c.targets_are_blocks.ensures)
    ∙ c.if-not-targets_are_blocks.false in
    inr (too_large s i placed.order known blocks (sym told.fits ∙ (not-false _ c.if-not-judgement-2.false))
    (sym (told.fits_small (not-false _ c.if-not-judgement-2.false)) ∙ (not-true _ c.if-not-judgement-3.true)))

pub returns-then-len-clause-refused : goal.returns-then-len-clause-refused
returns-then-len-clause-refused c = λ i fits placed told.
    let s = said_by c.args.self.now in
    let known = sym told.known ∙ (not-false _ c.if-not-judgement.false) in
    let blocks = sym (targets_are s i _ _ placed.of.of _ c.targets_are_blocks.ensures)
    ∙ c.if-not-targets_are_blocks.false in
    inr (too_many_points s i placed.order known blocks (sym told.fits ∙ (not-false _ c.if-not-judgement-2.false))
    (sym (told.fits_small (not-false _ c.if-not-judgement-2.false)) ∙ (not-false _ c.if-not-judgement-3.false))
    (omega (arith, counted c.args.self.now, c.len.ensures, c.if-len.true)))

pub returns-then-edges-gt-MAX_EDGES-clause-refused : goal.returns-then-edges-gt-MAX_EDGES-clause-refused
returns-then-edges-gt-MAX_EDGES-clause-refused c = λ i fits placed told.
    let s = said_by c.args.self.now in
    let known = sym told.known ∙ (not-false _ c.if-not-judgement.false) in
    let blocks = sym (targets_are s i _ _ placed.of.of _ c.targets_are_blocks.ensures)
    ∙ c.if-not-targets_are_blocks.false in
    let edges =
    edges_resolved (scope_in c.args.self.now.regions c.args.self.now.structs) i _
    _ placed.of.of in
    inr (too_many_edges s i placed.order known blocks (sym told.fits ∙ (not-false _ c.if-not-judgement-2.false))
    (sym (told.fits_small (not-false _ c.if-not-judgement-2.false)) ∙ (not-false _ c.if-not-judgement-3.false))
    (omega (arith, counted c.args.self.now, c.len.ensures, c.if-len.false))
    (omega (
      arith,
      c.requires.exits.edges,
      edges,
      c.requires.ready.edges,
      same_count c.args.self.now,
      c.if-edges-gt-MAX_EDGES.true,
    )))

pub returns-clause-admitted : goal.returns-clause-admitted
returns-clause-admitted c = λ i fits placed told.
    let s = said_by c.args.self.now in
    let known = sym told.known ∙ (not-false _ c.if-not-judgement.false) in
    let blocks = sym (targets_are s i _ _ placed.of.of _ c.targets_are_blocks.ensures)
    ∙ c.if-not-targets_are_blocks.false in
    let edges =
    edges_resolved (scope_in c.args.self.now.regions c.args.self.now.structs) i _
    _ placed.of.of in
    record {
      fine = no_fault s i placed.order known blocks (sym told.fits ∙ (not-false _ c.if-not-judgement-2.false))
          (sym (told.fits_small (not-false _ c.if-not-judgement-2.false)) ∙ (not-false _ c.if-not-judgement-3.false))
          (omega (
            arith,
            counted c.args.self.now,
            c.len.ensures,
            c.if-len.false,
          ))
          (omega (
            arith,
            c.requires.exits.edges,
            edges,
            c.requires.ready.edges,
            same_count c.args.self.now,
            c.if-edges-gt-MAX_EDGES.false,
          ));
      same = refl;
      ready = c.requires.ready;
      few = omega (arith, c.len.ensures, c.if-len.false);
      counted = c.requires.exits.edges ∙ edges;
      few_edges = omega (arith, c.if-edges-gt-MAX_EDGES.false);
      ends = c.requires.exits.ends
          ∙ ends_resolved (scope_in c.args.self.now.regions c.args.self.now.structs) i _
          _ placed.of.of;
    }
