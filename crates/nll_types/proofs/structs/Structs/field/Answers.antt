use Rattle.std.proofs.Common.{◌≡◌, ◌∙◌, None, Some, ap, map, refl, subst, sym}
use Rattle.std.specs.Prelude.{MatchOption, option_map}
use Rattle.std.proofs.lemmas.Option.{slice_get_read, slice_get-map}
use Rattle.nll_types.specs.Types.{type_at}
use Rattle.nll_types.specs.Structs.{Struct, no_struct}
use Rattle.nll_types.specs.Views.{tree}
use Rattle.nll_types.specs.Declarations.{declared}
use Rattle.nll_types.proofs.ViewLemmas.{type_got}
use Rattle.nll_types.proofs.DeclareLemmas.{get_mapped}
use Rattle.nll_types.proofs.structs.Structs.field.Goals as goal

pub returns : goal.returns
returns c =
    let entries = c.self.inside.entries.items in
    let entry = c.in_ok-entry.entry.now in
    let read = rw c.deref.ensures.value at c.in_ok-entry.ensures.lookup in
    let item = slice_get_read entries _ c.args.number entry refl read.3.0 read.1 in
    let there = slice_get-map (λ entry. entry.declaration) entries c.args.number
    ∙ ap (option_map (λ entry. entry.declaration)) item in
    let is =
    get_mapped declared (map (λ entry. entry.declaration) entries) c.args.number entry.declaration no_struct there in
    let field = rw c.deref-2.ensures.value at c.get-2.ensures.lookup in
    rw (← c.self.view_is) (subst (λ (z : Struct). MatchOption c.get-2.result (type_at z.fields c.args.place ≡ None)
    (λ t. type_at z.fields c.args.place ≡ Some (tree t.now))) (sym is)
    (type_got entry.declaration.fields.items c.args.place c.get-2.result field))
