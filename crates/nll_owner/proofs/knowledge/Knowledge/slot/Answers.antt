use Rattle.std.proofs.Common.{ℕ, Contains, sym, subst, ap, ◌∙◌}
use Rattle.std.specs.Prelude.{Option, IfSome}
use Rattle.nll_owner.specs.Keeping.{IsSlotIn, held_regions}
use Rattle.nll_owner.proofs.SlotLemmas.{slot_of, find_some}
use Rattle.nll_owner.proofs.knowledge.Knowledge.slot.Goals as goal

pub unwrap-requires : goal.unwrap-requires
unwrap-requires c =
    let same = c.self.invariant.same_slots ∙ ap held_regions c.self.view_is in
    let t = slot_of c.args.self.now c.args.region c.requires.region c.requires.held in
    find_some c.self.inside.slots c.args.region c.find.result c.find.ensures.none
    (subst (λ xs. Contains xs c.args.region) (sym same) (t.0, t.1.0, t.1.1))

pub returns : goal.returns
returns c =
    let same = c.self.invariant.same_slots ∙ ap held_regions c.self.view_is in
    subst (λ xs. IsSlotIn xs c.unwrap.result c.args.region) same
    (subst (λ (r : Option ℕ). IfSome r (λ slot. IsSlotIn c.self.inside.slots slot c.args.region)) c.unwrap.ensures
    c.find.ensures.some)
