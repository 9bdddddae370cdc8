-- How far a search has come.
use Rattle.std.proofs.Common.{◌≡◌, ◌↔◌, ℕ, ◌+◌, ◌<◌, ◌≤◌, List, [], length, sym, subst, arith, Contains, ⊎_elim, ◌∙◌}
use Rattle.std.specs.Prelude.{slice_index}
use borrow.Author.Count.{below_more}
use Rattle.std.proofs.lemmas.Bool.{cases_lt}
use Rattle.std.proofs.lemmas.List.Elements.{Contains-get_or}
use Rattle.std.proofs.lemmas.Option.{slice_get_within}
use Rattle.nll_problem.specs.Graph.{Graph, IsNext}
use Rattle.nll_body.specs.Bodies.{BodyText, IsFollowedBy, IsGraphOf}
use Rattle.nll_live.specs.Live.{GoesOnUndefined, IsLive}
use Rattle.nll_live.specs.Chains.{HaveStarts, IsChain}
use Rattle.nll_live.specs.Lows.{AreDefinitions, IsLow}
use Rattle.nll_live.specs.Marks.{IsMarked, IsUnderMark, IsUnderNewMark, AreFound, ReachesMore}
use Rattle.nll_live.proofs.MarkLemmas.{reaches_append, reaches_weaker, reached_kept, at_each, contains_at}
use Rattle.nll_live.proofs.ChainLemmas.{follows, live_along}
use Rattle.nll_live.proofs.WalkLemmas.{live_end, live_before, live_inside, live_within}

-- A stretch of points at which the variable is live, and of which each but the first follows the one before it alone.
pub record IsLiveStretch (body : BodyText) (x : ℕ) (ends : List ℕ) (low height : ℕ) : Type 0 where
  pub proper : low ≤ height
  pub chain : IsChain (IsFollowedBy body) low height
  pub live : (p : ℕ) → low ≤ p → p ≤ height → IsLive body (Contains ends) x p

-- What is reached are such stretches; the ends are among it, and so is what goes on to the low points looked at.
pub record Searching (body : BodyText) (x turn : ℕ) (ends first tops marks heights lows : List ℕ)
    (place : ℕ) : Type 0 where
  pub more : ReachesMore (λ low p. IsLiveStretch body x ends low p) turn first tops [] marks heights lows
  pub found : AreFound marks heights turn lows
  pub within : place ≤ length lows
  pub begun : (p : ℕ) → Contains ends p → IsUnderNewMark marks heights turn p
  pub closed : (k : ℕ) → k < place → (q : ℕ) → GoesOnUndefined body x q (slice_index lows k)
      → IsUnderNewMark marks heights turn q

module _ (body : BodyText) (x turn : ℕ) (ends first tops starts definitions : List ℕ)
    (all : (k : ℕ) → k < length ends → slice_index ends k < length body.points)
    (fresh : (p : ℕ) → slice_index first p < turn) (are : HaveStarts (IsFollowedBy body) (length body.points) starts)
    (defined : AreDefinitions body x definitions) where
  ends_within : (p : ℕ) → Contains ends p → p < length body.points
  ends_within = at_each (λ p. p < length body.points) ends all

  -- a search that comes to a point where the variable is live gets such a stretch
  stretch : (low p : ℕ) → IsLive body (Contains ends) x p → IsLow (slice_index starts p) definitions p low
      → IsLiveStretch body x ends low p
  stretch low p live is =
      let within = live_within body (Contains ends) x ends_within p live in
      record {
        proper = is.before;
        chain = follows body (Contains ends) x starts definitions are defined p low within is;
        live = live_along body (Contains ends) x starts definitions are defined p low within is live;
      }

  pub search_first : (marks heights lows : List ℕ)
      → ReachesMore (λ low p. Contains ends p × IsLow (slice_index starts p) definitions p low) turn first tops
      [] marks heights lows → AreFound marks heights turn lows
      → ((k : ℕ) → k < length ends → IsUnderNewMark marks heights turn (slice_index ends k))
      → Searching body x turn ends first tops marks heights lows 0
  search_first marks heights lows put found covers = record {
    more = reaches_weaker _ (λ low p. IsLiveStretch body x ends low p) turn first tops [] marks heights lows
        (λ low p c. stretch low p (live_end body (Contains ends) x p c.0) c.1) put;
    found = found;
    within = omega arith;
    begun = at_each (IsUnderNewMark marks heights turn) ends covers;
    closed = λ k h. absurd (omega arith);
  }

  -- what is marked is the low end of such a stretch
  marked_stretch : (marks heights lows : List ℕ) (place : ℕ)
      → Searching body x turn ends first tops marks heights lows place → (low : ℕ) → IsMarked marks turn low
      → IsLiveStretch body x ends low (slice_index heights low)
  marked_stretch marks heights lows place s low m = ⊎_elim
      (λ old. absurd (omega (arith, fresh low, old.0)))
      (λ one. subst (IsLiveStretch body x ends low) (sym one.2) one.1)
      (s.more.cause low m)

  pub search_step : (marks heights lows : List ℕ) (place : ℕ) (next raised longer : List ℕ) → place < length lows
      → Searching body x turn ends first tops marks heights lows place
      → ReachesMore (λ low p. GoesOnUndefined body x p (slice_index lows place)
      × IsLow (slice_index starts p) definitions p low) turn marks heights lows next raised longer
      → AreFound next raised turn longer
      → ((p : ℕ) → GoesOnUndefined body x p (slice_index lows place) → IsUnderNewMark next raised turn p)
      → Searching body x turn ends first tops next raised longer (place + 1)
  search_step marks heights lows place next raised longer h s put found covers =
      let here = marked_stretch marks heights lows place s (slice_index lows place) (s.found.marked place h) in
      let live = here.live (slice_index lows place) (omega arith) here.proper in
      record {
        more = reaches_append _ turn first tops [] marks heights lows next raised longer s.more
            (reaches_weaker _ (λ low p. IsLiveStretch body x ends low p) turn marks heights lows next raised longer
            (λ low p c. stretch low p (live_before body (Contains ends) x p (slice_index lows place) c.0 live) c.1)
            put);
        found = found;
        within = omega (arith, put.longer);
        begun = λ p c. reached_kept _ turn marks heights lows next raised longer put p (s.begun p c);
        closed =
            below_more (λ k. (q : ℕ) → GoesOnUndefined body x q (slice_index longer k)
            → IsUnderNewMark next raised turn q)
            place
            (λ k b q c. reached_kept _ turn marks heights lows next raised longer put q
            (s.closed k b q (subst (GoesOnUndefined body x q) (put.front k (omega arith)) c)))
            (λ q c. covers q (subst (GoesOnUndefined body x q) (put.front place h) c));
      }

  module _ (marks heights lows : List ℕ) (place : ℕ) (done : length lows ≤ place)
      (s : Searching body x turn ends first tops marks heights lows place) where
    stretch_at : (low : ℕ) → Contains lows low → IsLiveStretch body x ends low (slice_index heights low)
    stretch_at low c =
        marked_stretch marks heights lows place s low (at_each (IsMarked marks turn) lows s.found.marked low c)

    -- what goes on to a point that is reached, and doesn't define the variable, is reached
    reached_before : (q r : ℕ) → IsUnderNewMark marks heights turn r → GoesOnUndefined body x q r
        → IsUnderNewMark marks heights turn q
    reached_before q r m step = ⊎_elim
        (λ above.
        let next : q + 1 ≡ r = ((marked_stretch marks heights lows place s m.0 m.1).chain r above m.3 q).0 step.1 in
        (m.0, m.1, omega (arith, above, next), omega (arith, m.3, next)))
        (λ upto.
        let is : m.0 ≡ r = omega (arith, upto, m.2) in
        let at = s.found.listed m.0 m.1 in
        s.closed at.0 (omega (arith, at.1, done)) q (subst (GoesOnUndefined body x q) (sym (at.2 ∙ is)) step))
        (cases_lt m.0 r)

    pub search_last : (p : ℕ) → IsUnderMark heights lows p ↔ IsLive body (Contains ends) x p
    search_last p = (
      λ c. (stretch_at c.0 c.1).live p c.2 c.3,
      λ live.
          let r = live_inside body (Contains ends) x (IsUnderNewMark marks heights turn) s.begun reached_before p live
          in
          (r.0, contains_at lows r.0 (s.found.listed r.0 r.1), r.2, r.3),
    )

    pub search_proper : (low : ℕ) → Contains lows low → low ≤ slice_index heights low
    search_proper low c = (stretch_at low c).proper

-- ---- points that go on to a point

module _ (body : BodyText) (graph : Graph) (shown : IsGraphOf body graph) (q : ℕ) (points : List ℕ)
    (each : (p : ℕ) → Contains points p ↔ IsNext graph p q) where
  -- they are those that go on to it
  pub going_on : (p : ℕ) → Contains points p ↔ IsFollowedBy body p q
  going_on p = (λ h. (shown.next p q).0 ((each p).0 h), λ h. (each p).1 ((shown.next p q).1 h))

  -- they are points
  pub going_within : (k : ℕ) → k < length points → slice_index points k < length body.points
  going_within k low =
      let on = (going_on (slice_index points k)).0 (Contains-get_or points k 0 low) in
      slice_get_within body.points (slice_index points k) on.0 on.1
