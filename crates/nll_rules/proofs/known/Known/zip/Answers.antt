use Rattle.std.proofs.lemmas.Result.{on_ok_weaker}
use Rattle.nll_rules.proofs.KnownFieldLemmas.{fourth_is, learns_none}
use Rattle.nll_rules.proofs.known.Known.zip.Goals as goal

pub returns-clause-asked : goal.returns-clause-asked
returns-clause-asked c = rw (← c.self.view_is) (on_ok_weaker c.ask_rows.result
    (λ adds.
    let known = ((rw c.structs-structs.ensures at c.learn.ensures.right) c.args.meeting.other.shape c.in-Some.known.now
    c.in-Some.ensures.found).1 in
    rw (c.as_slice.ensures.value, known.signs, c.row-one.ensures, c.row-other.ensures, c.self.invariant.4) at adds)
    c.ask_rows.ensures)

pub returns-in_err-learn-clause-learns : goal.returns-in_err-learn-clause-learns
returns-in_err-learn-clause-learns c = rw (← c.self.view_is) (learns_none _)

pub returns-clause-learns : goal.returns-clause-learns
returns-clause-learns c = rw (← c.self.view_is) (learns_none _)

pub invariant_of-self : goal.invariant_of-self
invariant_of-self c = fourth_is c.self.invariant (rw c.structs-structs.ensures at c.learn.ensures.right)

pub invariant_of-self-2 : goal.invariant_of-self-2
invariant_of-self-2 c = fourth_is c.self.invariant (rw c.structs-structs.ensures at c.learn.ensures.right)
