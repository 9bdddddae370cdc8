use Rattle.std.proofs.Common.{refl, arith}
use Rattle.nll_facts.proofs.reader.Reader.new.Goals as goal

pub returns-clause-said : goal.returns-clause-said
returns-clause-said c = rw c.in_ok-new.ensures refl

pub returns-clause-ready : goal.returns-clause-ready
returns-clause-ready c = rw c.in_ok-new.ensures (record {
  some_name = omega arith;
  few = omega arith;
  regions = refl;
  universals = omega arith;
  waiting = λ _. omega arith;
  numbered = λ _ begun. absurd (omega arith);
  early = λ _. refl;
  late = λ after. absurd (omega arith);
})
