use Rattle.std.proofs.Common.{⊎_elim, inl, inr, Some}
use Rattle.nll_types.specs.Declarations.{structs_of}
use Rattle.nll_types.specs.Table.{shape_in}
use Rattle.nll_rules.specs.TypeRows.{AreSignsOf}
use Rattle.nll_rules.proofs.RowSignLemmas.{found_one, set_here, set_kept, set_other, signs_put}
use Rattle.nll_rules.proofs.SubtypeLemmas.{some_is}
use Rattle.nll_rules.proofs.row_signs.SignTable.learn.Goals as goal

pub returns-then-is_some-clause-known : goal.returns-then-is_some-clause-known
returns-then-is_some-clause-known c =
    let found = found_one c.get.result _ _ _ c.is_some.ensures c.if-is_some.true c.get.ensures.found in
    (found.0.now, found.1)

pub returns-clause-right : goal.returns-clause-right
returns-clause-right c =
    let right : AreSignsOf (structs_of c.args.structs.now) (shape_in c.args.shapes.now c.args.shape)
    c.push_top.new.made =
    record {
      signs = rw c.new.ensures.items at c.in_ok-push_top.ensures.signs;
      starts = rw (c.new-2.ensures.items, c.new.ensures.items) at c.in_ok-push_top.ensures.starts;
    } in
    signs_put (structs_of c.args.structs.now) c.args.shapes.now _ _ c.args.shape c.push_top.new.made c.requires.within
    right c.requires.right (λ k e h. ⊎_elim
    (λ p. inl ((c.make_place.ensures.same k e).0 p))
    (λ p. inr (p.0, some_is e c.push_top.new.made p.1))
    (set_other c.make_place.new.known.items c.args.shape k (Some c.push_top.new.made) (Some e) h))

pub returns-clause-known : goal.returns-clause-known
returns-clause-known c = (
  c.push_top.new.made,
  set_here c.make_place.new.known.items c.args.shape (Some c.push_top.new.made) c.in_ok-make_place.ensures.within,
)

pub returns-clause-kept : goal.returns-clause-kept
returns-clause-kept c k h = ⊎_elim
    (λ p. (h.0, p))
    (λ p. (c.push_top.new.made, p))
    (set_kept c.make_place.new.known.items c.args.shape k (Some c.push_top.new.made) (Some h.0)
    ((c.make_place.ensures.same k h.0).1 h.1))

pub returns-in_err-make_place-clause-right : goal.returns-in_err-make_place-clause-right
returns-in_err-make_place-clause-right c k e h = c.requires.right k e ((c.make_place.ensures.same k e).0 h)

pub returns-in_err-make_place-clause-kept : goal.returns-in_err-make_place-clause-kept
returns-in_err-make_place-clause-kept c k h = (h.0, (c.make_place.ensures.same k h.0).1 h.1)

pub returns-in_err-push_top-clause-right : goal.returns-in_err-push_top-clause-right
returns-in_err-push_top-clause-right c k e h = c.requires.right k e ((c.make_place.ensures.same k e).0 h)

pub returns-in_err-push_top-clause-kept : goal.returns-in_err-push_top-clause-kept
returns-in_err-push_top-clause-kept c k h = (h.0, (c.make_place.ensures.same k h.0).1 h.1)
