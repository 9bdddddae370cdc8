use Rattle.std.proofs.Common.{◌∙◌, ap, arith, length, subst, sym}
use Rattle.std.proofs.lemmas.Bool.{false≢true}
use Rattle.nll_format.specs.Lines.{AreShort}
use Rattle.nll_format.proofs.LinesLemmas.{amid_all, amid_end, amid_fault, amid_more}
use Rattle.nll_format.proofs.lines.read_lines.Goals as goal

pub loop-rest-preserved : goal.loop-rest-preserved
loop-rest-preserved g c =
    let before = rw c.in-Some.is at c.loop-rest.invariant in
    record {
      ready = c.in-Ok.ensures.ready;
      short = (subst AreShort c.next_line.ensures before.short).1;
      counted = omega (arith, ap length c.next_line.ensures, before.counted);
      read =
          amid_more (g.R.LineReader.format_of c.args.format.now) _ _ _ _ _ _ c.next_line.ensures c.in-Ok.ensures.taken _
          before.read;
    }

pub returns-in-Err-clause-fault : goal.returns-in-Err-clause-fault
returns-in-Err-clause-fault g c =
    amid_fault (g.R.LineReader.format_of c.args.format.now) _ _ _ _ _ c.next_line.ensures c.in-Err.kind
    c.in-Err.ensures.refused _ c.at.ensures.fault _ (rw c.in-Some.is at c.loop-rest.invariant.read)

pub returns-then-not-has_ended-clause-fault : goal.returns-then-not-has_ended-clause-fault
returns-then-not-has_ended-clause-fault g c =
    amid_end (g.R.LineReader.format_of c.args.format.now)
    (λ forms. g.R.LineReader.holds c.args.format.now forms c.loop-rest.reader) c.loop-rest.number
    (λ forms held has. false≢true (sym c.if-not-has_ended.true ∙ (c.has_ended.ensures forms held).1 has)) _
    (rw c.in_default.is at c.loop-rest.invariant.read)

pub returns-clause-read : goal.returns-clause-read
returns-clause-read g c =
    let done = amid_all (g.R.LineReader.format_of c.args.format.now) _ _ _
    (rw c.in_default.is at c.loop-rest.invariant.read) in
    (done.0, done.1, (c.has_ended.ensures done.0 done.2).0 c.if-not-has_ended.false, done.2)
