use Rattle.std.proofs.Common.{◌≡◌, ◌++◌, ◌∷◌, [], ◌∙◌, sym}
use Rattle.nll_types.specs.Table.{IsTable, Extends}
use Rattle.nll_types.specs.contracts.node.NodePartialEq.TheImpl as derived
use Rattle.nll_types.proofs.FailLemmas.{failed}
use Rattle.nll_types.proofs.TableLemmas.{extends_insert, extends_push, extends_same, inserted_new, inserted_known, kept_push, table_insert, table_push, at_added}
use Rattle.nll_types.proofs.OneNumberLemmas.{one_number}
use Rattle.nll_types.proofs.shapes.intern.Goals as goal

keys_new : (c : goal.After-push_reserved) → c.insert_full.new.self.keys ≡ c.args.nodes.now.keys ++ c.args.node ∷ []
keys_new c = c.in_ok-place.ensures.keys
    ∙ inserted_new derived.eq-value.it _ c.args.node (sym c.in_ok-place.ensures.added ∙ c.if-new.true)

pub returns-in_err-reserve-clause-table : goal.returns-in_err-reserve-clause-table
returns-in_err-reserve-clause-table c = rw c.in_err-reserve.ensures.items c.requires.table

pub returns-in_err-reserve-clause-extends : goal.returns-in_err-reserve-clause-extends
returns-in_err-reserve-clause-extends c = extends_same _

pub returns-in_err-reserve-clause-within : goal.returns-in_err-reserve-clause-within
returns-in_err-reserve-clause-within c = failed c.from_residual.result _ _ c.from_residual.ensures.1

pub returns-in_err-reserve-clause-at : goal.returns-in_err-reserve-clause-at
returns-in_err-reserve-clause-at c = failed c.from_residual.result _ _ c.from_residual.ensures.1

pub returns-in_err-place-clause-within : goal.returns-in_err-place-clause-within
returns-in_err-place-clause-within c =
    failed c.from_residual-in_err-place.result _ _ c.from_residual-in_err-place.ensures.1

pub returns-in_err-place-clause-at : goal.returns-in_err-place-clause-at
returns-in_err-place-clause-at c = failed c.from_residual-in_err-place.result _ _ c.from_residual-in_err-place.ensures.1

pub returns-then-new-clause-table : goal.returns-then-new-clause-table
returns-then-new-clause-table c =
    let over = c.requires.over in
    let one =
    one_number _ (table_push _ c.args.node c.requires.table.table over)
    (rw (keys_new c) at c.in_ok-place.ensures.unique) in
    rw (
      keys_new c,
      c.push_reserved.ensures.items,
      c.in_ok-reserve.ensures.items,
      c.size_over-size.ensures,
      c.as_slice.ensures.value,
    )
    (kept_push _ _ c.args.node c.requires.table one over)

pub returns-then-new-clause-extends : goal.returns-then-new-clause-extends
returns-then-new-clause-extends c = rw (keys_new c) (extends_push _ c.args.node)

pub returns-then-new-clause-within : goal.returns-then-new-clause-within
returns-then-new-clause-within c = c.in_ok-place.ensures.within

pub returns-then-new-clause-at : goal.returns-then-new-clause-at
returns-then-new-clause-at c =
    let s = c.in_ok-place.ensures.stored in
    let table : IsTable c.insert_full.new.self.keys =
    rw c.in_ok-place.ensures.keys (table_insert derived.eq-value.it _ c.args.node c.requires.table.table
    c.requires.over) in
    let extends : Extends c.args.nodes.now.keys c.insert_full.new.self.keys =
    rw c.in_ok-place.ensures.keys (extends_insert derived.eq-value.it _ c.args.node) in
    at_added _ _ c.args.node s.0 _ table extends c.requires.over c.in_ok-place.ensures.within s.1 s.2

pub returns-else-new-clause-table : goal.returns-else-new-clause-table
returns-else-new-clause-table c =
    let same = c.in_ok-place.ensures.keys
    ∙ inserted_known derived.eq-value.it _ c.args.node (sym c.in_ok-place.ensures.added ∙ c.if-new.false) in
    rw (same, c.in_ok-reserve.ensures.items) c.requires.table

pub returns-else-new-clause-extends : goal.returns-else-new-clause-extends
returns-else-new-clause-extends c =
    let same = c.in_ok-place.ensures.keys
    ∙ inserted_known derived.eq-value.it _ c.args.node (sym c.in_ok-place.ensures.added ∙ c.if-new.false) in
    rw same (extends_same _)

pub returns-else-new-clause-within : goal.returns-else-new-clause-within
returns-else-new-clause-within c = c.in_ok-place.ensures.within

pub returns-else-new-clause-at : goal.returns-else-new-clause-at
returns-else-new-clause-at c =
    let s = c.in_ok-place.ensures.stored in
    let table : IsTable c.insert_full.new.self.keys =
    rw c.in_ok-place.ensures.keys (table_insert derived.eq-value.it _ c.args.node c.requires.table.table
    c.requires.over) in
    let extends : Extends c.args.nodes.now.keys c.insert_full.new.self.keys =
    rw c.in_ok-place.ensures.keys (extends_insert derived.eq-value.it _ c.args.node) in
    at_added _ _ c.args.node s.0 _ table extends c.requires.over c.in_ok-place.ensures.within s.1 s.2
