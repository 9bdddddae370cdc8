use Rattle.std.proofs.lemmas.List.{map_push}
use Rattle.nll_types.proofs.DeclareLemmas.{kept_push}
use Rattle.nll_types.proofs.structs.Structs.declare.Goals as goal

pub invariant_of-self-2 : goal.invariant_of-self-2
invariant_of-self-2 c =
    let fields = rw (← c.self.view_is) at c.requires.fields in
    let right = rw (← c.self.view_is) at c.in_ok-sources.ensures in
    rw (c.in_ok-push.ensures.items, map_push, map_push)
    (kept_push _ _ c.args.declaration _ c.self.invariant fields right)

pub sources_of-requires-clause-fields : goal.sources_of-requires-clause-fields
sources_of-requires-clause-fields c = c.requires.fields

pub sources_of-requires-clause-few : goal.sources_of-requires-clause-few
sources_of-requires-clause-few c = c.requires.few
