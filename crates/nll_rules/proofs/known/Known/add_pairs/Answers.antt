use Rattle.std.proofs.Common.{sym, subst}
use Rattle.nll_rules.specs.Knowing.{IsRightMeeting, KnownTypes}
use Rattle.nll_rules.proofs.KnownFieldLemmas.{learns_none, met_more}
use Rattle.nll_rules.proofs.MeetingLemmas.{adds_listed}
use Rattle.nll_rules.proofs.known.Known.add_pairs.Goals as goal

pub invariant_of-self-2 : goal.invariant_of-self-2
invariant_of-self-2 c =
    let k = c.self.invariant in
    let is : IsRightMeeting c.args.self.now.structs c.args.self.now.table c.args.self.now.regions c.args.self.now.made
    c.args.meeting c.args.pairs.items = record {
      within = c.requires.other.within;
      one = c.requires.one.whole;
      other = c.requires.other.whole;
      asks = c.requires.pairs;
    } in
    let here : IsRightMeeting _ c.self.inside.shapes c.self.inside.lists.body.now c.self.inside.lists.made.items
    c.args.meeting
    c.args.pairs.items = rw k.4 (subst (λ (v : KnownTypes). IsRightMeeting v.structs v.table v.regions v.made
    c.args.meeting
    c.args.pairs.items) (sym c.self.view_is) is) in (
      k.0,
      k.1,
      k.2,
      k.3,
      k.4,
      k.5,
      met_more _ _ _ _ _ _ c.args.meeting c.args.pairs k.6 c.in_ok-insert.ensures.entries
          here,
    )

pub returns-clause-learns : goal.returns-clause-learns
returns-clause-learns c = rw (← c.self.view_is) (learns_none _)

pub returns-clause-asked : goal.returns-clause-asked
returns-clause-asked c =
    adds_listed _ _ _ _ (rw c.as_slice.ensures.value at c.in_ok-extend_from_slice.ensures.items) c.requires.pairs
