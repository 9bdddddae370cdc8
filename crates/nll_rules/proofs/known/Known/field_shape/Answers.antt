use Rattle.std.proofs.Common.{[], sym}
use Rattle.std.proofs.lemmas.List.{append-nil}
use Rattle.nll_types.specs.Declarations.{structs_of}
use Rattle.nll_types.proofs.ShapingLemmas.{extends_then}
use Rattle.nll_rules.proofs.KnownFieldLemmas.{fields_later, kept_later}
use Rattle.nll_rules.proofs.RowSignLemmas.{signs_later}
use Rattle.nll_rules.proofs.known.Known.field_shape.Goals as goal

pub invariant_of-self : goal.invariant_of-self
invariant_of-self c =
    let structs = structs_of c.self.inside.body.types.now.table.structs in
    let x = c.part.ensures.extends in
    let made = c.self.inside.lists.made.items in
    let kept = kept_later structs _ _ _ made made _ _ x ([], sym (append-nil made)) c.self.invariant.5
    c.self.invariant.6 in (
      c.self.invariant.0,
      extends_then _ _ _ c.self.invariant.1 x,
      fields_later structs _ _ _ x c.self.invariant.2,
      signs_later structs _ _ _ x c.self.invariant.3,
      c.self.invariant.4,
      kept.0,
      kept.1,
    )
