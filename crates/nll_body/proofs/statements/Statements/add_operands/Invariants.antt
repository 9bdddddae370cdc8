use Rattle.std.proofs.Common.{◌≡◌, ◌+◌, length, map, take, drop}
use Rattle.nll_types.specs.Operands.{operand_of}
use Rattle.nll_body.specs.Flat.{operand_in}
use Rattle.nll_body.specs.Within.{AreWithin, ListsGrow}
use Rattle.nll_body.proofs.statements.Statements.add_operands.Given as goal

abbrev pub invariant-loop-operand : goal.invariant-loop-operand
invariant-loop-operand l =
    record {
      grows : ListsGrow l.fn.self l.self;
      within : AreWithin l.self;
      ends : l.slice.first + l.operand-index ≡ length l.self.operands;
      are : map (operand_in l.self) (drop l.slice.first l.self.operands)
          ≡ map operand_of (take l.operand-index l.operands);
    }
