use Rattle.std.proofs.Common.{◌≡◌, ℕ, ◌+◌, map, set, ◌<◌, get_or, sym, ap, ◌∙◌, arith}
use Rattle.std.proofs.lemmas.List.{get_or_default}
use Rattle.nll_owner.specs.declared.knowledge.Knowledge.TheInside.{Inside}
use Rattle.nll_owner.specs.Owner.{Owner}
use Rattle.nll_cut.specs.Partition.{reads}
use Rattle.nll_mail.specs.declared.growth.Growth.{Growth}
use Rattle.nll_owner.proofs.OwnerLemmas.{get_at, pair_small, given_kept, given_sound}
use Rattle.fixpoint.proofs.ListLemmas.{filter_le}
use Rattle.nll_owner.proofs.knowledge.Knowledge.give.Goals as goal
use Rattle.nll_owner.proofs.knowledge.Knowledge.give.Goals.{After-index_mut}

-- the owner after k + 1 growths were given to the owner
abbrev given_up : Inside → ℕ → ℕ → Owner
given_up o to k =
    record {
      problem = o.problem.now;
      cut = o.cut.now;
      me = o.me;
      log = o.log.items;
      received = map (λ list. list.items) o.received.items;
      given = set o.given.items to (k + 1);
      clock = o.clock;
      loaded = o.loaded;
      broken = o.broken;
    }

to_in : (c : After-index_mut) → c.args.to < c.self.inside.cut.now.owners
to_in c = rw (← c.self.view_is) at c.requires.to

n_is : (c : After-index_mut) → get_or c.self.inside.given.items c.args.to 0 ≡ c.index_mut.result.now
n_is c =
    get_or_default c.self.inside.given.items c.args.to 0 c.index_mut.result.now
    (omega (arith, to_in c, c.self.invariant.sound.receivers)) ∙ sym c.index_mut.ensures.value

pub overflow_add-index_mut : goal.overflow_add-index_mut
overflow_add-index_mut c =
    let more = rw (← c.self.view_is) at c.requires.more in
    let low =
    filter_le (λ (g : Growth). reads c.self.inside.problem.now c.self.inside.cut.now c.args.to g.region)
    c.self.inside.log.items in
    let small = pair_small c.self.inside.problem.now c.self.invariant.sound.problem in
    omega (arith, n_is (goal.at.overflow_add-index_mut c).After-index_mut, more, low, small, c.self.invariant.sound.few)

pub returns-clause-growth : goal.returns-clause-growth
returns-clause-growth c =
    rw (← c.self.view_is) (get_at c.self.inside.log.items c.args.place c.index.result.now
    (rw (← c.self.view_is) at c.requires.place) (sym c.index.ensures))

pub returns-clause-given : goal.returns-clause-given
returns-clause-given c =
    let d = (goal.at.returns-clause-given c).After-index_mut in
    rw (← c.self.view_is) (ap (given_up c.self.inside c.args.to) (sym (n_is d)))

pub invariant_of-self : goal.invariant_of-self
invariant_of-self c =
    let d = (goal.at.invariant_of-self c).After-index_mut in
    given_kept _ _ _ c.self.invariant c.args.to c.index_mut.result.now (to_in d) (n_is d)
    (rw (← c.self.view_is) at c.requires.more)

pub returns-clause-sound : goal.returns-clause-sound
returns-clause-sound c =
    let d = (goal.at.returns-clause-sound c).After-index_mut in
    given_sound _ _ _ c.self.invariant c.args.to c.index_mut.result.now (to_in d) (n_is d)
    (rw (← c.self.view_is) at c.requires.more)
