use Rattle.std.proofs.Common.{sym, ◌∙◌, subst, arith}
use Rattle.nll_rules.specs.Knowing.{AreUses, KnownTypes}
use Rattle.nll_rules.proofs.KnownFieldLemmas.{uses_more}
use Rattle.nll_rules.proofs.known.Known.add_use.Goals as goal

pub invariant_of-self-in-Some : goal.invariant_of-self-in-Some
invariant_of-self-in-Some c =
    let k = c.self.invariant in
    let old = c.args.self.now in
    let new = c.make_part.new.self in
    let l = c.make_part.ensures.learns in
    let within = c.requires in
    let longer = l.table.longer in
    let row = rw (c.in-Some.is, c.as_slice.ensures.value) at c.in_ok-part.ensures.row in
    let uses = c.self.inside.uses.entries in
    let known = subst (λ (v : KnownTypes). AreUses v.structs v.table v.regions v.made uses) c.self.view_is
    (rw k.4 at k.5) in
    let more = uses_more new.structs new.table new.regions new.made uses c.insert.new.self.entries c.args.used
    c.in-Some.part known c.in_ok-insert-in-Some.ensures.entries (omega arith)
    (λ s rs ts is row'. rw (← l.structs) at row s rs ts (is ∙ l.table.kept c.args.used.shape within) row') in (
      k.0,
      k.1,
      k.2,
      k.3,
      k.4,
      rw k.4 (subst (λ (v : KnownTypes). AreUses v.structs v.table v.regions v.made c.insert.new.self.entries)
          (sym c.self.view_is) more),
      k.6,
    )
