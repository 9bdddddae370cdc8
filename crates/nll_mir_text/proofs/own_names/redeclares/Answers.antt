use Rattle.std.proofs.Common.{◌∙◌, ◌∷◌, map, sym}
use Rattle.std.proofs.lemmas.Bool.{or_parts}
use Rattle.nll_mir_grammar.specs.Lines.{parameter_of}
use Rattle.nll_mir_text.specs.Naming.{is_name_among}
use Rattle.nll_mir_text.specs.MirFaults.{has_repeats}
use Rattle.nll_mir_text.specs.StructLines.{region_names, type_names}
use Rattle.nll_mir_text.proofs.OwnLemmas.{none_redeclared, not_among, taken_any}
use Rattle.nll_mir_text.proofs.own_names.redeclares.Goals as goal

pub returns : goal.returns
returns c =
    let ps = map parameter_of c.args.parameters.now in
    let once =
    or_parts (has_repeats (region_names ps)) (has_repeats (type_names ps))
    (sym c.requires.repeats ∙ c.if-own.false) in
    none_redeclared (is_name_among c.args.structs.now c.args.name.now) (has_repeats (region_names ps))
    (has_repeats (type_names ps)) _ _
    (not_among c.args.structs.now c.args.name.now c.number_of.result c.number_of.ensures.number
    (sym c.is_some.ensures ∙ c.if-is_some.false))
    once.0
    once.1
    (c.any_taken.ensures ∙ taken_any (c.args.name.now ∷ c.args.structs.now) c.args.parameters.now)
