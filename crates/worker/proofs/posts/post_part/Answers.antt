use Rattle.std.proofs.Common.{◌≡◌, ◌+◌, ◌<◌, slice_set, sym, ap, ◌∙◌, subst, arith}
use Rattle.fixpoint.specs.State.{State, given_to}
use Rattle.worker.proofs.PostingLemmas.{posting_more, posted_few, fewer}
use Rattle.worker.proofs.PostLemmas.{gives_next, one_more, given_most, given_rest}
use Rattle.worker.proofs.posts.post_part.Goals as goal

pub post-requires : goal.post-requires
post-requires g c = posted_few g.A.Rules.rules _ _ _ _ c.loop-growth.invariant.posting

gives : (g : _) (c : goal.After-outgoing g)
    → (g.A.Analysis.state c.outgoing.new.part) ≡ record (g.A.Analysis.state c.loop-growth.part) {
      given = slice_set (g.A.Analysis.state c.loop-growth.part).given c.args.to (given_to
          (g.A.Analysis.state c.loop-growth.part) c.args.to + 1);
    }
gives g c =
    let p = c.loop-growth.invariant.posting in
    gives_next g.A.Rules.rules (g.A.Analysis.state c.loop-growth.part) (g.A.Analysis.state c.outgoing.new.part)
    c.args.to c.outgoing.result c.in-Some.growth
    (ap (λ (o : State _ _). o.broken) p.others ∙ c.requires.whole)
    (subst (λ (o : State _ _). c.args.to < (g.A.Rules.rules.parts o.system)) (sym p.others) c.requires.to)
    c.in-Some.ensures.some.1 c.outgoing.ensures.some c.outgoing.ensures.none

pub loop-growth-smaller : goal.loop-growth-smaller
loop-growth-smaller g c =
    fewer g.A.Rules.rules _ _ _ _ _ c.loop-growth.invariant.posting c.requires.to c.in-Some.growth
    c.in-Some.ensures.some.1
    (gives g c) c.outgoing.ensures.sound

pub loop-growth-preserved : goal.loop-growth-preserved
loop-growth-preserved g c = record {
  posting =
      rw c.in-Ok.ensures.ok (posting_more g.A.Rules.rules _ _ _ _ _ c.loop-growth.invariant.posting c.requires.to
      c.in-Some.growth
      c.in-Some.ensures.some.1 (gives g c) c.outgoing.ensures.sound);
  count =
      let one =
      one_more g.A.Rules.rules _ _ _ _ _ c.loop-growth.invariant.posting c.requires.to (gives g c) in
      omega (arith, one, c.loop-growth.invariant.count);
  few = omega (arith, c.if-posted-most.false);
  pair = λ r h. c.post.ensures.pair r (c.loop-growth.invariant.pair r h);
}

pub returns-then-posted-most-clause-many : goal.returns-then-posted-most-clause-many
returns-then-posted-most-clause-many g c = λ unbounded.
    given_most g.A.Rules.rules (g.A.Analysis.state c.args.part.now) (g.A.Analysis.state c.loop-growth.part)
    c.args.to c.loop-growth.posted c.args.most c.in-Some.growth
    c.loop-growth.invariant.posting.others c.loop-growth.invariant.count c.loop-growth.invariant.few
    c.if-posted-most.true c.in-Some.ensures.some.1

pub returns-clause-many : goal.returns-clause-many
returns-clause-many g c = λ unbounded.
    let p = c.loop-growth.invariant.posting in
    given_rest g.A.Rules.rules (g.A.Analysis.state c.args.part.now) (g.A.Analysis.state c.loop-growth.part)
    c.args.to c.loop-growth.posted c.args.most p.others
    c.loop-growth.invariant.count c.loop-growth.invariant.few
    (c.in_default.ensures.none (ap (λ (o : State _ _). o.broken) p.others ∙ c.requires.whole)
    (subst (λ (o : State _ _). c.args.to < (g.A.Rules.rules.parts o.system)) (sym p.others) c.requires.to))
