use Rattle.std.proofs.Common.{sym, ap, ◌∙◌, subst, arith}
use Rattle.worker.proofs.TurnLemmas.{first_counted, first_grows, first_takes, first_due, none_taken}
use Rattle.worker.specs.Tallies.{IsTallied}
use Rattle.worker.specs.declared.tally.Tally.{Tally}
use Rattle.worker.proofs.AccountLemmas.{still_refl}
use Rattle.worker.proofs.turn.first_turn.Goals as goal

pub returns-in-Err-clause-grows : goal.returns-in-Err-clause-grows
returns-in-Err-clause-grows g c =
    first_grows g.A.Rules.rules _ _ (g.A.Analysis.state c.args.part.now)
    (g.A.Analysis.state c.load.new.part) c.requires.first c.load.ensures.others c.load.ensures.begins

pub returns-in-Err-clause-sound : goal.returns-in-Err-clause-sound
returns-in-Err-clause-sound g c = c.load.ensures.sound

pub returns-in-Err-clause-still : goal.returns-in-Err-clause-still
returns-in-Err-clause-still g c = still_refl g.L.Ledger _ _ c.requires.fresh.of_book

pub returns-in-Err-clause-comes : goal.returns-in-Err-clause-comes
returns-in-Err-clause-comes g c = λ taken none. none_taken g.A.Rules.rules _ _ (g.A.Analysis.state c.args.part.now)
    (g.A.Analysis.state c.load.new.part) c.requires.first c.load.ensures.others taken

pub keep_book-requires-clause-grew : goal.keep_book-requires-clause-grew
keep_book-requires-clause-grew g c = (
  (g.A.Analysis.state c.args.part.now),
  first_grows g.A.Rules.rules _ _ (g.A.Analysis.state c.args.part.now) (g.A.Analysis.state c.load.new.part)
      c.requires.first c.load.ensures.others c.load.ensures.begins,
  subst (λ (t : Tally). IsTallied g.A.Rules.rules (g.A.Analysis.state c.args.part.now) t) (sym c.requires.uncounted)
      (first_counted g.A.Rules.rules _ _ (g.A.Analysis.state c.args.part.now) c.requires.first),
  (let none = first_due g.A.Rules.rules _ _ (g.A.Analysis.state c.args.part.now) c.requires.first in omega (
    arith,
    none,
    c.requires.fresh.owed_is,
  )),
)

pub returns-clause-grows : goal.returns-clause-grows
returns-clause-grows g c =
    first_grows g.A.Rules.rules _ _ (g.A.Analysis.state c.args.part.now)
    (g.A.Analysis.state c.load.new.part) c.requires.first c.load.ensures.others c.load.ensures.begins

pub returns-clause-comes : goal.returns-clause-comes
returns-clause-comes g c = λ taken none. record {
  working = record {
    sound = c.load.ensures.sound;
    whole = c.in-Ok.ensures.ok.2;
    loaded = c.in-Ok.ensures.ok.1;
    done = c.in-Ok.ensures.done;
    owes = c.keep_book.ensures.owes;
  };
  taking = first_takes g.A.Rules.rules _ _ (g.A.Analysis.state c.args.part.now)
      (g.A.Analysis.state c.load.new.part) c.requires.first c.load.ensures.others taken _
      none (omega (arith, c.keep_book.ensures.clears, c.requires.fresh.cleared_is));
  counted = c.keep_book.ensures.counted;
  cleared_is = c.keep_book.ensures.cleared;
  turns = let none = ap (λ (t : Tally). t.turns) c.requires.uncounted in
      omega (arith, none, c.keep_book.ensures.turns, c.keep_book.ensures.clears);
}

pub keep_book-requires-clause-cleared : goal.keep_book-requires-clause-cleared
keep_book-requires-clause-cleared g c =
    ap (λ (t : Tally). t.cleared) c.requires.uncounted ∙ sym c.requires.fresh.cleared_is

pub keep_book-requires-clause-turns : goal.keep_book-requires-clause-turns
keep_book-requires-clause-turns g c = let none = ap (λ (t : Tally). t.turns) c.requires.uncounted in
    omega (arith, none)
