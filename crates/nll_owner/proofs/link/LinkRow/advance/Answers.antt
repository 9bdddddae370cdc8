use Rattle.std.proofs.Common.{[], Contains, sym, ap, ◌∙◌, subst, arith}
use Rattle.std.proofs.lemmas.Result.{on_ok_weaker}
use Rattle.nll_owner.specs.Keeping.{OwnerGrows}
use Rattle.nll_owner.specs.Following.{HasCaughtUp}
use Rattle.nll_owner.specs.LinkRows.{Row, row_of_links}
use Rattle.nll_owner.specs.declared.link.Link.{Link}
use Rattle.fixpoint.proofs.ListLemmas.{contains_head, contains_only}
use Rattle.nll_owner.proofs.OwnerLemmas.{grows_none}
use Rattle.nll_owner.proofs.link.LinkRow.advance.Goals as goal
use Rattle.nll_owner.proofs.link.LinkRow.advance.Goals.{in-None, in-One, in-Many}

pub advance-requires-clause-behind : goal.advance-requires-clause-behind
advance-requires-clause-behind c =
    c.requires.behind c.in-One.link
    (subst (λ (row : Row). Contains row.items c.in-One.link) (ap row_of_links (sym c.in-One.is) ∙ c.self.view_is)
    (contains_head c.in-One.link []))

pub advance_all-requires-clause-behind : goal.advance_all-requires-clause-behind
advance_all-requires-clause-behind c l h =
    c.requires.behind l
    (subst (λ (row : Row). Contains row.items l) (ap row_of_links (sym c.in-Many.is) ∙ c.self.view_is) h)

pub returns-clause-grows : goal.returns-clause-grows
returns-clause-grows c = elim c.match-self.branch [
  | in-None w ↦ subst (OwnerGrows c.args.knowledge.now) (sym w.knowledge-is) (grows_none _ c.requires.due.inside.sound)
  | in-One w ↦ subst (OwnerGrows c.args.knowledge.now) (sym w.knowledge-is) w.advance.ensures.grows
  | in-Many w ↦ subst (OwnerGrows c.args.knowledge.now) (sym w.knowledge-is) w.advance_all.ensures.grows
]

pub returns-clause-followed : goal.returns-clause-followed
returns-clause-followed c = elim c.match-self.branch [
  | in-None w ↦ rw (w.result-is, w.knowledge-is, w.self-inside-is, w.in-None.is)
      (λ l h. absurd (let n = h.1 in omega arith))
  | in-One w ↦ rw (w.result-is, w.knowledge-is, w.self-inside-is) (on_ok_weaker w.advance.result
      (λ up l h. subst (λ (x : Link). HasCaughtUp w.advance.new.knowledge c.args.due.now x)
      (contains_only w.advance.new.link l h) up)
      w.advance.ensures.followed)
  | in-Many w ↦ rw (w.result-is, w.knowledge-is, w.self-inside-is) w.advance_all.ensures.followed
]
