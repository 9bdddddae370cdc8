use Rattle.std.proofs.Common.{Some, sym, ◌∙◌}
use Rattle.nll_rules.proofs.KnowingLemmas.{learns_then}
use Rattle.nll_rules.proofs.KnownLemmas.{made_field, no_field}
use Rattle.nll_rules.proofs.known.Known.make_field.Goals as goal

pub returns-in_default-clause-field : goal.returns-in_default-clause-field
returns-in_default-clause-field c s rs ts same =
    let k = c.args.self.now in
    no_field k.structs k.table _ c.args.shape s c.args.place rs ts same
    (rw c.in_default.is at c.in_ok-made.ensures.at)

pub returns-in-Some-2-clause-field : goal.returns-in-Some-2-clause-field
returns-in-Some-2-clause-field c s rs ts same =
    let k = c.args.self.now in
    let l = c.field_shape.ensures.learns in
    let row = rw (c.in-Some-2.is, l.structs) at c.in_ok-template.ensures.row in
    made_field k.structs k.table c.field_shape.new.self.table c.template.new.self.table c.args.shape c.in-Some.made s
    c.args.place rs ts (Some c.in-Some-2.template) same c.template.ensures.learns.table
    (rw c.in-Some.is at c.in_ok-made.ensures.within) (rw c.in-Some.is at c.in_ok-made.ensures.at)
    (row s rs ts (same ∙ sym (l.table.kept c.args.shape c.requires)))

pub returns-in_err-template-clause-learns : goal.returns-in_err-template-clause-learns
returns-in_err-template-clause-learns c = learns_then _ _ _ c.field_shape.ensures.learns c.template.ensures.learns

pub returns-in-Some-2-clause-learns : goal.returns-in-Some-2-clause-learns
returns-in-Some-2-clause-learns c = learns_then _ _ _ c.field_shape.ensures.learns c.template.ensures.learns

pub returns-in-None-clause-learns : goal.returns-in-None-clause-learns
returns-in-None-clause-learns c = learns_then _ _ _ c.field_shape.ensures.learns c.template.ensures.learns
