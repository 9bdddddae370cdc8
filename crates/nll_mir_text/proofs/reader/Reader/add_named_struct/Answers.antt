use Rattle.std.proofs.Common.{◌∙◌, inr, map, refl, sym, ap, subst}
use Rattle.std.proofs.lemmas.Result.{on_ok_weaker}
use Rattle.nll_mir_grammar.specs.TypeTexts.{written}
use Rattle.nll_mir_grammar.specs.Lines.{parameter_of}
use Rattle.nll_mir_grammar.specs.Tuples.{parts}
use Rattle.nll_mir_text.specs.Naming.{is_known}
use Rattle.nll_mir_text.specs.StructLines.{own_scope}
use Rattle.nll_mir_text.specs.MirReading.{IsTaken, said_by, struct_form}
use Rattle.nll_mir_text.proofs.GrownLemmas.{due_grown, is_grown}
use Rattle.nll_mir_text.proofs.OwnLemmas.{own_known}
use Rattle.nll_mir_text.proofs.StructLemmas.{struct_unknown}
use Rattle.nll_mir_text.proofs.reader.Reader.add_named_struct.Goals as goal

pub add_resolved_struct-requires-clause-due : goal.add_resolved_struct-requires-clause-due
add_resolved_struct-requires-clause-due c =
    due_grown _ _ _
    (is_grown c.args.self.now _ _ c.resolve.new.made c.in_ok-fields.ensures.adds refl c.requires.due.ready)
    c.requires.due

pub returns-in-Some-clause-taken : goal.returns-in-Some-clause-taken
returns-in-Some-clause-taken c = on_ok_weaker c.add_resolved_struct.result
    (subst (λ s. IsTaken s (struct_form c.args.text.now) c.add_resolved_struct.new.self)
    (is_grown c.args.self.now _ _ c.resolve.new.made c.in_ok-fields.ensures.adds refl c.requires.due.ready).said)
    c.add_resolved_struct.ensures.taken

pub returns-in-None-clause-refused : goal.returns-in-None-clause-refused
returns-in-None-clause-refused c =
    let s = said_by c.args.self.now in
    let text = c.args.text.now in
    let ps = map parameter_of text.parameters.items in
    let fields = parts (written text.fields) in
    inr (struct_unknown s text.name.now ps text.has_drop fields c.requires.due.order
    (sym (own_known s ps c.args.own.now c.args.self.now.structs fields c.requires.own refl)
    ∙ (sym (ap (is_known (own_scope c.args.own.now c.args.self.now.structs)) c.as_type-fields.ensures.tuple)
    ∙ (rw (c.as_slice.ensures.value, c.as_type-fields.ensures.value, c.in-None.is)
    at c.in_ok-fields.ensures.resolved))))
