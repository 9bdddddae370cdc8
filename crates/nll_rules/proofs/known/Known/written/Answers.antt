use Rattle.std.proofs.Common.{◌∙◌, arith}
use Rattle.nll_types.proofs.TableLemmas.{extends_same}
use Rattle.nll_types.specs.Declarations.{structs_of}
use Rattle.nll_rules.proofs.KnownLemmas.{known_count, written_row}
use Rattle.nll_rules.proofs.KnownFieldLemmas.{fourth_is, learns_none}
use Rattle.nll_rules.proofs.known.Known.written.Goals as goal

pub learn-requires-clause-within : goal.learn-requires-clause-within
learn-requires-clause-within c =
    let l = c.self.invariant.1.longer in
    let w = (rw (← c.self.view_is) at c.requires).within in omega arith

pub returns-clause-row : goal.returns-clause-row
returns-clause-row c = rw (← c.self.view_is) (
    let k = c.self.inside in
    let count = known_count (structs_of c.structs-structs.result.now) _ _ c.args.ty.shape c.len.result _
    c.learn.ensures.right c.in-Some.ensures.found (c.len.ensures ∙ c.in-Some.known.now.signs.ok.0) in
    written_row k.body.types.now.table.shapes k.shapes k.shapes k.body.types.now.regions.items k.lists.made.items
    c.args.ty c.len.result (rw (← c.self.view_is) at c.requires) c.self.invariant.1 (extends_same k.shapes) count)

pub returns-in_err-learn-clause-learns : goal.returns-in_err-learn-clause-learns
returns-in_err-learn-clause-learns c = rw (← c.self.view_is) (learns_none _)

pub returns-clause-learns : goal.returns-clause-learns
returns-clause-learns c = rw (← c.self.view_is) (learns_none _)

pub invariant_of-self : goal.invariant_of-self
invariant_of-self c = fourth_is c.self.invariant (rw c.structs-structs.ensures at c.learn.ensures.right)

pub invariant_of-self-2 : goal.invariant_of-self-2
invariant_of-self-2 c = fourth_is c.self.invariant (rw c.structs-structs.ensures at c.learn.ensures.right)
