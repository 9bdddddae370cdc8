use Rattle.std.proofs.Common.{◌≡◌, ◌≢◌, ◌+◌, ◌<◌, ℕ, List, Option, [], Some, length, map, slice_set, false, refl, sym, ap, ◌∙◌, subst, arith}
use Rattle.fixpoint.specs.Rules.{Rules}
use Rattle.fixpoint.specs.State.{State, IsSoundPart, given_to}
use Rattle.worker.specs.Mailboxes.{Alike, HasEnds, Stays, Both, through}
use Rattle.worker.specs.Tallies.{given_of}
use Rattle.worker.specs.Turning.{HasPosted, HasGivenOn}
use Rattle.worker.proofs.ListLemmas.{alike_refl, alike_set, stays_on, both_refl, ends_kept, item_at, map_length, map_set, read_set, set_own}
use Rattle.worker.proofs.TurnLemmas.{few_given, more_given}
use Rattle.worker.proofs.PostLemmas.{given_behind, given_more, given_own, posted_on}
use Rattle.worker.proofs.posts.post_all.Goals as goal
use Rattle.worker.proofs.posts.post_all.Goals.{Joined-index_mut, in-Some+in_ok-posted-in-Some, in-None}

-- what was posted to one owner
record Gives {A F G S : Type 0} (rules : Rules A F G) (sent : S → List G) (stays : S → S → Type 0)
    (unbounded : Type 0) (most to posted : ℕ) (old new : State A G) (xs ys : List (Option S)) : Type 0 where
  sound : IsSoundPart rules new
  others : new ≡ record old { given = new.given }
  other_given : (j : ℕ) → j ≢ to → given_to new j ≡ given_to old j
  count : given_to new to ≡ given_to old to + posted
  many : unbounded → HasGivenOn rules most to old new
  posts : HasPosted rules new (map (through sent) ys)
  pairs : Alike (Both stays) xs ys

pub loop-to-init : goal.loop-to-init
loop-to-init g c = record {
  sound = c.requires.sound;
  others = refl;
  many = λ unbounded j l. absurd (omega (arith, l));
  count = omega arith;
  rest = λ j l. refl;
  posts = c.requires.posts;
  pairs = alike_refl (Both (Stays g.M.Mail)) (both_refl (Stays g.M.Mail) (λ s r p. p)) c.args.senders.now.items;
}

pub returns-in_err-posted-in-Some-clause-posts : goal.returns-in_err-posted-in-Some-clause-posts
returns-in_err-posted-in-Some-clause-posts g c =
    let f = through g.M.Mail.sent in let xs = c.loop-to.senders.items in
    let lt : c.loop-to.to < length xs =
    omega (
      arith,
      map_length f xs,
      c.loop-to.invariant.posts.count,
      c.loop-to-test.true,
      c.owners-to-end.ensures.value,
      ap (λ (o : State _ _). g.A.Rules.rules.parts o.system) c.loop-to.invariant.others,
    ) in
    let at = read_set f xs c.loop-to.to (Some c.post_part.new.sender) [] lt in
    posted_on g.A.Rules.rules (g.A.Analysis.state c.loop-to.part) (g.A.Analysis.state c.post_part.new.part) _ _
    c.loop-to.to c.loop-to.invariant.posts c.post_part.ensures.others c.post_part.ensures.other_given
    (at ∙ c.post_part.ensures.sent)
    (map_set f xs c.loop-to.to (Some c.post_part.new.sender) ∙ ap (slice_set (map f xs) c.loop-to.to) (sym at))

pub returns-in_err-posted-in-Some-clause-pairs : goal.returns-in_err-posted-in-Some-clause-pairs
returns-in_err-posted-in-Some-clause-pairs g c =
    stays_on g.M.Mail _ _ _ c.loop-to.invariant.pairs
    (alike_set (Both (Stays g.M.Mail)) (both_refl (Stays g.M.Mail) (λ s r p. p)) c.loop-to.senders.items c.loop-to.to
    c.index_mut.result.now (Some c.post_part.new.sender) c.index_mut.ensures.value
    (subst (λ end. Both (Stays g.M.Mail) end (Some c.post_part.new.sender)) (sym c.in-Some.is)
    c.post_part.ensures.pair))

gives : (g : _) (c : Joined-index_mut g) → Gives g.A.Rules.rules g.M.Mail.sent (Stays g.M.Mail)
    (g.M.Mail.is_bounded ≡ false) c.args.most c.loop-to.to c.match-index_mut.posted (g.A.Analysis.state c.loop-to.part)
    (g.A.Analysis.state c.match-index_mut.part) c.loop-to.senders.items c.match-index_mut.senders.items
gives g c =
    let f = through g.M.Mail.sent in let xs = c.loop-to.senders.items in let to = c.loop-to.to in
    let inv = c.loop-to.invariant in let x = c.index_mut.result.now in
    let same = both_refl (Stays g.M.Mail) (λ s r p. p) in
    let lt : to < length xs =
    omega (
      arith,
      map_length f xs,
      inv.posts.count,
      c.loop-to-test.true,
      c.owners-to-end.ensures.value,
      ap (λ (o : State _ _). g.A.Rules.rules.parts o.system) inv.others,
    ) in
    elim c.match-index_mut.branch [
      | in-Some+in_ok-posted-in-Some w ↦
          let p = w.post_part.ensures in let s = w.post_part.new.sender in
          let at = read_set f xs to (Some s) [] lt in
          rw (w.part-is, w.senders-is, w.posted-is) (record {
            sound = p.sound;
            others = p.others;
            other_given = p.other_given;
            count = w.in_ok-posted-in-Some.ensures.count;
            many = w.in_ok-posted-in-Some.ensures.many;
            posts = posted_on g.A.Rules.rules (g.A.Analysis.state c.loop-to.part)
                (g.A.Analysis.state w.post_part.new.part) _ _ to inv.posts p.others p.other_given (at ∙ p.sent)
                (map_set f xs to (Some s) ∙ ap (slice_set (map f xs) to) (sym at));
            pairs = alike_set (Both (Stays g.M.Mail)) same xs to x (Some s) c.index_mut.ensures.value
                (subst (λ end. Both (Stays g.M.Mail) end (Some s)) (sym w.in-Some.is) p.pair);
          })
      | in-None w ↦
          let own = ap (slice_set xs to) c.index_mut.ensures.value ∙ set_own xs to x in
          rw (w.part-is, w.senders-is, w.posted-is) (record {
            sound = inv.sound;
            others = refl;
            other_given = λ j d. refl;
            count = omega arith;
            many = λ unbounded. given_own g.A.Rules.rules g.met.A.Rules.lawful (g.A.Analysis.state c.loop-to.part) to
                c.args.most inv.sound (subst (λ (o : State _ _). HasEnds o.me xs) (sym inv.others)
                (ends_kept (Stays g.M.Mail) (g.A.Analysis.state c.args.part.now).me _ _ inv.pairs c.requires.ends)
                to (item_at xs to x lt c.index_mut.ensures.value ∙ ap Some w.in-None.is));
            posts = subst (λ ys. HasPosted g.A.Rules.rules (g.A.Analysis.state c.loop-to.part) (map f ys)) (sym own)
                inv.posts;
            pairs = alike_set (Both (Stays g.M.Mail)) same xs to x x c.index_mut.ensures.value (same x);
          })
    ]

one_more : (g : _) (c : Joined-index_mut g)
    → given_of g.A.Rules.rules (g.A.Analysis.state c.match-index_mut.part)
    ≡ given_of g.A.Rules.rules (g.A.Analysis.state c.loop-to.part) + c.match-index_mut.posted
one_more g c =
    let s = gives g c in
    let same = ap (λ (o : State _ _). g.A.Rules.rules.parts o.system) c.loop-to.invariant.others in
    more_given g.A.Rules.rules (g.A.Analysis.state c.loop-to.part) (g.A.Analysis.state c.match-index_mut.part)
    c.match-index_mut.posted s.others c.loop-to.to
    (omega (arith, c.loop-to-test.true, c.owners-to-end.ensures.value, same)) s.count s.other_given

pub overflow_add-count : goal.overflow_add-count
overflow_add-count g c =
    let lawful = g.met.A.Rules.lawful in
    let at = (goal.at.overflow_add-count g c).Joined-index_mut in let s = gives g at in
    let small =
    few_given g.A.Rules.rules (g.A.Analysis.state c.loop-to.part) (g.A.Analysis.state c.match-index_mut.part)
    c.match-index_mut.posted s.others s.sound (one_more g at) (lawful.few _ s.sound.valid).1 in
    omega (arith, small, c.loop-to.invariant.count)

pub loop-to-preserved : goal.loop-to-preserved
loop-to-preserved g c =
    let at = (goal.at.loop-to-preserved g c).Joined-index_mut in let s = gives g at in
    let first = g.A.Analysis.state c.args.part.now in let old = g.A.Analysis.state c.loop-to.part in
    let new = g.A.Analysis.state c.match-index_mut.part in let inv = c.loop-to.invariant in
    record {
      sound = s.sound;
      others = s.others ∙ ap (λ (o : State _ _). record o { given = new.given }) inv.others;
      many = λ unbounded. given_more g.A.Rules.rules first old new c.loop-to.to c.args.most
          inv.others s.other_given inv.rest (inv.many unbounded) (s.many unbounded);
      count = let one = one_more g at in omega (arith, one, inv.count);
      rest = given_behind g.A.Rules.rules first old new c.loop-to.to c.args.most inv.others s.other_given inv.rest;
      posts = s.posts;
      pairs = stays_on g.M.Mail _ _ _ inv.pairs s.pairs;
    }
