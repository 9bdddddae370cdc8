use Rattle.std.proofs.Common.{map}
use Rattle.nll_body.specs.Flat.{operand_in}
use Rattle.nll_rules.specs.Flows.{written_type}
use Rattle.nll_rules.specs.Knowing.{Learns}
use Rattle.nll_rules.specs.Pairs.{AddsPairs, PartAsks}
use Rattle.nll_rules.proofs.PairLemmas.{AtOneBelow}
use Rattle.nll_rules.proofs.known.Known.ask_make.Given as goal

abbrev pub invariant-loop-place : goal.invariant-loop-place
invariant-loop-place l = record {
  learns : Learns l.fn.self l.self;
  asked : AddsPairs (AtOneBelow l.place (PartAsks l.fn.self.structs l.fn.self.variables
      (written_type l.fn.self l.make.ty) (map (operand_in l.fn.self.lists) l.operands)))
      l.fn.asked.pairs.items l.asked.pairs.items;
}
