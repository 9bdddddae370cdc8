use Rattle.nll_rules.specs.Flows.{inputs_of}
use Rattle.nll_rules.specs.Knowing.{Learns}
use Rattle.nll_rules.specs.Pairs.{AddsPairs, InputAsks}
use Rattle.nll_rules.proofs.PairLemmas.{AtOneBelow}
use Rattle.nll_rules.proofs.known.Known.ask_call.Given as goal

abbrev pub invariant-loop-place : goal.invariant-loop-place
invariant-loop-place l = record {
  learns : Learns l.fn.self l.self;
  asked : AddsPairs (AtOneBelow l.place (InputAsks l.fn.self.structs l.fn.self.variables
      (inputs_of l.fn.self l.arguments))) l.fn.asked.pairs.items l.asked.pairs.items;
}
