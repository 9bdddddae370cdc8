use Rattle.std.proofs.Common.{map, arith}
use Rattle.nll_mir_text.specs.Resolving.{is_region_entry}
use Rattle.nll_mir_text.proofs.RowLemmas.{kinds_differ, length_kinds}
use Rattle.nll_mir_text.proofs.rows.are_of.Goals as goal

pub returns-then-arguments-kinds : goal.returns-then-arguments-kinds
returns-then-arguments-kinds c =
    kinds_differ (map is_region_entry c.args.arguments.now) c.args.kinds.now
    (λ e. c.if-arguments-kinds.true (omega (arith, length_kinds c.args.arguments.now, e)))
