use Rattle.std.proofs.Common.{◌≡◌, ◌∙◌, ℕ, List, None, Some, Bor, refl, sym, ap, option_map}
use Rattle.std.proofs.lemmas.Result.{IfErr-weaker, on_ok_weaker}
use Rattle.nll_command_line.specs.Options.{owners, deal, cut, mail, schedule}
use Rattle.nll_command_line.proofs.OptionLemmas.{there_or_none, given_is, more_owners, more_deal, more_cut, more_mail, more_schedule, no_more_owners, no_more_deal, no_more_cut, no_more_mail, no_more_schedule}
use Rattle.nll_command_line.proofs.options.Options.give.Goals as goal

pub returns-in-Owners-clause-ok : goal.returns-in-Owners-clause-ok
returns-in-Owners-clause-ok c = on_ok_weaker c.fill.result
    (λ h given says.
    let n = given_is c.owners_of.result _ h.1 c.owners_of.ensures h.2 in
    (owners h.1, sym c.in-Owners.is, sym n.2, (n.0, n.1), rw h.3 (more_owners given _ says h.1 h.0)))
    c.fill.ensures.ok

pub returns-in-Owners-clause-err : goal.returns-in-Owners-clause-err
returns-in-Owners-clause-err c = IfErr-weaker c.fill.result _ _
    (λ e h. (
      h.0,
      λ given says. rw c.in-Owners.is (no_more_owners given _ says c.args.value.now
          (there_or_none c.owners_of.result _ _ c.owners_of.ensures h.1)),
    ))
    c.fill.ensures.err

pub returns-in-Deal-clause-ok : goal.returns-in-Deal-clause-ok
returns-in-Deal-clause-ok c = on_ok_weaker c.fill-in-Deal.result
    (λ h given says. (
      deal h.1,
      sym c.in-Deal.is,
      sym (given_is c.deal_of.result _ h.1 c.deal_of.ensures h.2),
      tt,
      rw h.3 (more_deal given _ says h.1 h.0),
    ))
    c.fill-in-Deal.ensures.ok

pub returns-in-Deal-clause-err : goal.returns-in-Deal-clause-err
returns-in-Deal-clause-err c = IfErr-weaker c.fill-in-Deal.result _ _
    (λ e h. (
      h.0,
      λ given says. rw c.in-Deal.is (no_more_deal given _ says c.args.value.now
          (there_or_none c.deal_of.result _ _ c.deal_of.ensures h.1)),
    ))
    c.fill-in-Deal.ensures.err

pub returns-in-Mail-clause-ok : goal.returns-in-Mail-clause-ok
returns-in-Mail-clause-ok c = on_ok_weaker c.fill-in-Mail.result
    (λ h given says. (
      mail h.1,
      sym c.in-Mail.is,
      sym (given_is c.mail_of.result _ h.1 c.mail_of.ensures h.2),
      tt,
      rw h.3 (more_mail given _ says h.1 h.0),
    ))
    c.fill-in-Mail.ensures.ok

pub returns-in-Mail-clause-err : goal.returns-in-Mail-clause-err
returns-in-Mail-clause-err c = IfErr-weaker c.fill-in-Mail.result _ _
    (λ e h. (
      h.0,
      λ given says. rw c.in-Mail.is (no_more_mail given _ says c.args.value.now
          (there_or_none c.mail_of.result _ _ c.mail_of.ensures h.1)),
    ))
    c.fill-in-Mail.ensures.err

pub returns-in-Cut-clause-ok : goal.returns-in-Cut-clause-ok
returns-in-Cut-clause-ok c = on_ok_weaker c.fill-in-Cut.result
    (λ h given says.
    let none : c.args.self.now.cut ≡ None = h.0 in
    let is : c.fill-in-Cut.new.place ≡ Some c.args.value = h.3 ∙ sym h.2 in (
      cut c.args.value.now,
      sym c.in-Cut.is,
      refl,
      tt,
      rw is (more_cut given _ says c.args.value.now (ap (option_map (λ file. file.now)) none)),
    ))
    c.fill-in-Cut.ensures.ok

pub returns-in-Cut-clause-err : goal.returns-in-Cut-clause-err
returns-in-Cut-clause-err c = IfErr-weaker c.fill-in-Cut.result _ _
    (λ e h. (
      h.0,
      λ given says.
          let there : (y : Bor (List ℕ)) × (c.args.self.now.cut ≡ Some y) = h.1 c.args.value refl in
          rw c.in-Cut.is (no_more_cut given _ says c.args.value.now _ (ap (option_map (λ file. file.now)) there.1)),
    ))
    c.fill-in-Cut.ensures.err

pub returns-in-Schedule-clause-ok : goal.returns-in-Schedule-clause-ok
returns-in-Schedule-clause-ok c = on_ok_weaker c.fill-in-Schedule.result
    (λ h given says.
    let none : c.args.self.now.schedule ≡ None = h.0 in
    let is : c.fill-in-Schedule.new.place ≡ Some c.args.value = h.3 ∙ sym h.2 in (
      schedule c.args.value.now,
      sym c.in-Schedule.is,
      refl,
      tt,
      rw is (more_schedule given _ says c.args.value.now (ap (option_map (λ file. file.now)) none)),
    ))
    c.fill-in-Schedule.ensures.ok

pub returns-in-Schedule-clause-err : goal.returns-in-Schedule-clause-err
returns-in-Schedule-clause-err c = IfErr-weaker c.fill-in-Schedule.result _ _
    (λ e h. (
      h.0,
      λ given says.
          let there : (y : Bor (List ℕ)) × (c.args.self.now.schedule ≡ Some y) = h.1 c.args.value refl in
          rw c.in-Schedule.is
          (no_more_schedule given _ says c.args.value.now _ (ap (option_map (λ file. file.now)) there.1)),
    ))
    c.fill-in-Schedule.ensures.err
