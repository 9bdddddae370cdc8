use Rattle.nll_types.specs.Declarations.{structs_of}
use Rattle.nll_rules.proofs.KnownFieldLemmas.{no_fields, no_uses, none_met}
use Rattle.nll_rules.proofs.KnownLemmas.{extends_copy, no_signs}
use Rattle.nll_rules.proofs.known.Known.new.Goals as goal

pub invariant_of-result : goal.invariant_of-result
invariant_of-result c =
    let structs = structs_of c.args.body.types.now.table.structs in (
      c.requires,
      extends_copy _ _ (rw c.shapes.ensures at c.in_ok-shapes.ensures),
      rw c.new-2.ensures.empty (no_fields structs c.in_ok-shapes.shapes),
      no_signs structs c.in_ok-shapes.shapes _ c.new-3.ensures.items,
      c.as_slice.ensures.value,
      rw c.new-4.ensures.empty (no_uses structs c.in_ok-shapes.shapes c.as_slice.result.now c.new.result.items),
      rw c.new-5.ensures.empty (none_met structs c.in_ok-shapes.shapes c.as_slice.result.now c.new.result.items),
    )
