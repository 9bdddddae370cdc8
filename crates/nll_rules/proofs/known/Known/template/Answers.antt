use Rattle.std.proofs.Common.{ℕ, Option, ap, arith, ◌∙◌, sym}
use Rattle.std.specs.Prelude.{unwrap_or}
use Rattle.std.proofs.lemmas.Option.{unwrap_or-slice_get}
use Rattle.std.proofs.lemmas.Result.{IfOk-weaker}
use Rattle.nll_types.specs.Declarations.{structs_of}
use Rattle.nll_types.specs.Table.{shape_over, shapes_in}
use Rattle.nll_rules.proofs.FieldLemmas.{is_use_row}
use Rattle.nll_rules.proofs.KnownFieldLemmas.{fourth_is, learns_none}
use Rattle.nll_rules.proofs.KnownLemmas.{template_is}
use Rattle.nll_rules.proofs.known.Known.template.Goals as goal

pub returns-clause-row : goal.returns-clause-row
returns-clause-row c = rw (← c.self.view_is) (IfOk-weaker c.field_template.result _ _ (λ o row s rs ts same.
    let structs = structs_of c.self.inside.body.types.now.table.structs in
    let ns = c.self.inside.shapes in
    let known = c.in-Some.known.now in
    let right = rw c.structs-structs.ensures at c.learn.ensures.right in
    template_is structs ns c.args.shape s c.in-Named.named _ c.args.place rs ts _ known _ o
    same (c.node.ensures.at ∙ ap (shape_over (shapes_in ns)) c.in-Named.is)
    (right c.args.shape known c.in-Some.ensures.found).1
    (λ row rs ts count begun is. is_use_row _ row rs ts 0 (count ∙ sym (c.len.ensures ∙ known.signs.ok.0)) is
    (c.as_slice-starts.ensures.value ∙ begun)
    (c.unwrap_or.ensures ∙ ap (λ (o : Option ℕ). unwrap_or o 0) (c.copied.ensures ∙ c.last.ensures.value)
    ∙ unwrap_or-slice_get c.as_slice-starts.result.now _ 0))
    (rw c.structs-structs.ensures at row)) c.field_template.ensures)

pub returns-in_err-learn-clause-learns : goal.returns-in_err-learn-clause-learns
returns-in_err-learn-clause-learns c = rw (← c.self.view_is) (learns_none _)

pub returns-clause-learns : goal.returns-clause-learns
returns-clause-learns c = rw (← c.self.view_is) (learns_none _)

pub returns-in_default : goal.returns-in_default
returns-in_default c =
    record { learns = rw (← c.self.view_is) (learns_none _); row = grind arith }

pub invariant_of-self : goal.invariant_of-self
invariant_of-self c = fourth_is c.self.invariant (rw c.structs-structs.ensures at c.learn.ensures.right)

pub invariant_of-self-2 : goal.invariant_of-self-2
invariant_of-self-2 c = fourth_is c.self.invariant (rw c.structs-structs.ensures at c.learn.ensures.right)

pub invariant_of-self-in_default : goal.invariant_of-self-in_default
invariant_of-self-in_default c = fourth_is c.self.invariant (rw c.structs-structs.ensures at c.learn.ensures.right)
