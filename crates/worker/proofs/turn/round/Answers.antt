use Rattle.std.proofs.Common.{◌+◌, ◌<◌, Contains, length, length-append, refl, subst, sym, ap, ◌∙◌, arith}
use Rattle.std.proofs.lemmas.List.Elements.{Contains-append_right}
use Rattle.fixpoint.specs.State.{IsSoundPart}
use Rattle.worker.proofs.AccountLemmas.{stays_none, stays_on, still_refl}
use Rattle.worker.proofs.TallyLemmas.{grown_self}
use Rattle.worker.proofs.TurnLemmas.{cleared_small, taken_same, taken_lost, grown_some, grown_lost, some_works, some_take, rests_same, stray_same}
use Rattle.worker.proofs.turn.round.Goals as goal
use Rattle.worker.proofs.turn.round.Goals.{After-hear_from, in-Nothing, in-Growths+else-is_last}

low : (g : _) (c : After-hear_from g)
    → c.owner_behind-from.result < g.A.Rules.rules.parts (g.A.Analysis.state c.loop-step.part).system
low g c =
    let same = ap g.A.Rules.rules.parts c.loop-step.invariant.stays.grows.system in
    omega (arith, c.owner_behind-from.ensures, c.owners-owners.ensures.value, same)

pub loop-step-init : goal.loop-step-init
loop-step-init g c = record {
  stays = stays_none g.L.Ledger g.A.Rules.rules g.M.Mail _ _ _ c.args.inbox.now.receivers.items
      c.requires.rests.working.sound c.requires.book;
  rests = c.requires.rests;
  single = λ _. refl;
}

pub overflow_add-turn : goal.overflow_add-turn
overflow_add-turn g c =
    let lawful = g.met.A.Rules.lawful in
    let rests = c.loop-step.invariant.rests in
    let few = cleared_small g.A.Rules.rules (g.A.Analysis.state c.loop-step.part) _ _ 0
    (lawful.few _ rests.working.sound.valid).1 rests.taking in
    omega (arith, few, rests.turns)

pub keep_book-requires-clause-grew : goal.keep_book-requires-clause-grew
keep_book-requires-clause-grew g c =
    let h = c.in-Growths.ensures.hears in
    let old = g.A.Analysis.state c.loop-step.part in let rests = c.loop-step.invariant.rests in (
      old,
      grown_some g.A.Rules.rules old (g.A.Analysis.state c.hear_from.new.part) h.1.1 h.1.4,
      rests.counted,
      rests.working.owes,
    )

pub keep_book-requires-clause-small : goal.keep_book-requires-clause-small
keep_book-requires-clause-small g c =
    let lawful = g.met.A.Rules.lawful in
    let rests = c.loop-step.invariant.rests in
    let h = c.in-Growths.ensures.hears in
    let cleared = cleared_small g.A.Rules.rules (g.A.Analysis.state c.loop-step.part) _ _ 0
    (lawful.few _ rests.working.sound.valid).1 rests.taking in
    let few = c.hear_from.ensures.few
    (rests.taking.few _ (low g (goal.at.keep_book-requires-clause-small g c).After-hear_from)) in
    let more = ap length h.0 ∙ length-append _ c.hear_from.new.inbox.batch.items in
    (omega (arith, cleared), omega (arith, few, more, c.len.ensures, c.hear_from.new.inbox.batch.ok.0))

pub returns-in-Stray-clause-stays : goal.returns-in-Stray-clause-stays
returns-in-Stray-clause-stays g c =
    let h = c.in-Stray.ensures.hears in let inv = c.loop-step.invariant in
    stays_on g.L.Ledger g.A.Rules.rules g.M.Mail _ _ _ _ _ _ _ _ _ _ _ _ inv.stays (record {
      grows = grown_self g.A.Rules.rules (g.A.Analysis.state c.loop-step.part)
          (g.A.Analysis.state c.hear_from.new.part) h.1.1;
      sound = subst (IsSoundPart g.A.Rules.rules) (sym h.1.1) inv.stays.sound;
      still = still_refl g.L.Ledger _ _ inv.stays.still.of_book;
      keeps = c.hear_from.ensures.keeps;
    })

pub returns-in-Stray-clause-comes : goal.returns-in-Stray-clause-comes
returns-in-Stray-clause-comes g c =
    let h = c.in-Stray.ensures.hears in
    let old = g.A.Analysis.state c.loop-step.part in let new = g.A.Analysis.state c.hear_from.new.part in
    let gs = c.hear_from.new.inbox.batch.items in
    let stray = h.1.0 in (
      stray_same g.A.Rules.rules old new _ h.1.1 (
        _,
        stray.0,
        low g (goal.at.returns-in-Stray-clause-comes g c).After-hear_from,
        subst (λ xs. Contains xs stray.0) (sym h.0) (Contains-append_right _ gs stray.0 stray.1),
        stray.2,
      ),
      taken_same g.A.Rules.rules old _ _ _ _ c.loop-step.invariant.rests _ _ gs h.0 c.hear_from.ensures.others new
          h.1.1,
    )

pub returns-in-Memory-clause-stays : goal.returns-in-Memory-clause-stays
returns-in-Memory-clause-stays g c =
    let h = c.in-Memory.ensures.hears in let inv = c.loop-step.invariant in
    stays_on g.L.Ledger g.A.Rules.rules g.M.Mail _ _ _ _ _ _ _ _ _ _ _ _ inv.stays (record {
      grows = grown_lost g.A.Rules.rules (g.A.Analysis.state c.loop-step.part)
          (g.A.Analysis.state c.hear_from.new.part) _ _ h.1;
      sound = h.1.1;
      still = still_refl g.L.Ledger _ _ inv.stays.still.of_book;
      keeps = c.hear_from.ensures.keeps;
    })

pub returns-in-Memory-clause-comes : goal.returns-in-Memory-clause-comes
returns-in-Memory-clause-comes g c =
    let h = c.in-Memory.ensures.hears in
    taken_lost g.A.Rules.rules (g.A.Analysis.state c.loop-step.part) _ _ _ _ c.loop-step.invariant.rests _ _
    c.hear_from.new.inbox.batch.items h.0 c.hear_from.ensures.others (g.A.Analysis.state c.hear_from.new.part)
    (low g (goal.at.returns-in-Memory-clause-comes g c).After-hear_from) h.1

-- after a turn by growths
pub returns-then-is_last-clause-stays : goal.returns-then-is_last-clause-stays
returns-then-is_last-clause-stays g c =
    let h = c.in-Growths.ensures.hears in
    stays_on g.L.Ledger g.A.Rules.rules g.M.Mail _ _ _ _ _ _ _ _ _ _ _ _ c.loop-step.invariant.stays (record {
      grows = grown_some g.A.Rules.rules (g.A.Analysis.state c.loop-step.part)
          (g.A.Analysis.state c.hear_from.new.part) h.1.1 h.1.4;
      sound = h.1.2;
      still = c.keep_book.ensures.still;
      keeps = c.hear_from.ensures.keeps;
    })

pub returns-then-is_last-clause-comes : goal.returns-then-is_last-clause-comes
returns-then-is_last-clause-comes g c =
    let from_in = low g (goal.at.returns-then-is_last-clause-comes g c).After-hear_from in
    let h = c.in-Growths.ensures.hears in
    let k = c.keep_book.ensures in
    let old = g.A.Analysis.state c.loop-step.part in let new = g.A.Analysis.state c.hear_from.new.part in
    let rests = c.loop-step.invariant.rests in let fits = c.hear_from.new.inbox.batch.ok.0 in
    record {
      working = some_works g.A.Rules.rules old _ _ _ _ rests new h.1.4 _ h.1.2 h.1.3 k.owes;
      taking = some_take g.A.Rules.rules old _ _ _ _ rests new h.1.4 _ c.hear_from.new.inbox.batch.items _ from_in
          h.1.0 h.0 c.hear_from.ensures.others (c.hear_from.ensures.few (rests.taking.few _ from_in)) _
          (omega (arith, k.clears, c.len.ensures, fits));
      counted = k.counted;
      cleared_is = k.cleared;
      turns = omega (arith, k.turns, k.clears, rests.turns, h.1.5, c.len.ensures, fits);
    }

pub loop-step-preserved : goal.loop-step-preserved
loop-step-preserved g c =
    let old = g.A.Analysis.state c.loop-step.part in let new = g.A.Analysis.state c.hear_from.new.part in
    let inv = c.loop-step.invariant in let rests = inv.rests in let fits = c.hear_from.new.inbox.batch.ok.0 in
    let from_in = low g (goal.at.loop-step-preserved g c).After-hear_from in
    elim c.match-hear_from.branch [
      | in-Nothing w ↦ let h = w.in-Nothing.ensures.hears in rw w.account-is (record {
        stays = stays_on g.L.Ledger g.A.Rules.rules g.M.Mail _ _ _ _ _ _ _ _ _ _ _ _ inv.stays (record {
          grows = grown_self g.A.Rules.rules old new h.0;
          sound = subst (IsSoundPart g.A.Rules.rules) (sym h.0) inv.stays.sound;
          still = still_refl g.L.Ledger _ _ inv.stays.still.of_book;
          keeps = c.hear_from.ensures.keeps;
        });
        rests = rests_same g.A.Rules.rules old _ _ _ _ rests new _ _ h.0 h.1 c.hear_from.ensures.others;
        single = inv.single;
      })
      | in-Growths+else-is_last w ↦
          let h = w.in-Growths.ensures.hears in let k = w.keep_book.ensures in rw w.account-is (record {
            stays = stays_on g.L.Ledger g.A.Rules.rules g.M.Mail _ _ _ _ _ _ _ _ _ _ _ _ inv.stays (record {
              grows = grown_some g.A.Rules.rules old new h.1.1 h.1.4;
              sound = h.1.2;
              still = k.still;
              keeps = c.hear_from.ensures.keeps;
            });
            rests = record {
              working = some_works g.A.Rules.rules old _ _ _ _ rests new h.1.4 _ h.1.2 h.1.3 k.owes;
              taking = some_take g.A.Rules.rules old _ _ _ _ rests new h.1.4 _ c.hear_from.new.inbox.batch.items _
                  from_in h.1.0 h.0 c.hear_from.ensures.others (c.hear_from.ensures.few (rests.taking.few _ from_in)) _
                  (omega (arith, k.clears, w.len.ensures, fits));
              counted = k.counted;
              cleared_is = k.cleared;
              turns = omega (arith, k.turns, k.clears, rests.turns, h.1.5, w.len.ensures, fits);
            };
            single = λ one. absurd (w.if-is_last.false one);
          })
    ]

pub returns-then-is_last-clause-single : goal.returns-then-is_last-clause-single
returns-then-is_last-clause-single g c =
    λ one. omega (arith, c.loop-step.invariant.single one, c.keep_book.ensures.turns)

pub returns-in-Stray-clause-single : goal.returns-in-Stray-clause-single
returns-in-Stray-clause-single g c = λ one. omega (arith, c.loop-step.invariant.single one)

pub returns-in-Memory-clause-single : goal.returns-in-Memory-clause-single
returns-in-Memory-clause-single g c = λ one. omega (arith, c.loop-step.invariant.single one)
