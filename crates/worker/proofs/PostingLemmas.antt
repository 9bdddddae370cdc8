-- What an owner gives out to another, one growth after the other, and what is posted of it.
use Rattle.std.proofs.Common.{if◌then◌else◌, ◌≡◌, ◌≢◌, ℕ, suc, ◌+◌, ◌-◌, ◌^◌, ◌<◌, List, [], ◌∷◌, ◌++◌, length, take, set, slice_get, Some, Bool, false, Contains, refl, sym, ap, ◌∙◌, subst, arith}
use Rattle.std.proofs.lemmas.Option.{slice_get_within}
use Rattle.std.proofs.lemmas.List.{get_or-set_same, get_or-set_other}
use Rattle.fixpoint.specs.State.{State, IsSoundPart, part_for, given_to}
use Rattle.fixpoint.proofs.ListLemmas.{filter_le, take_length, take_more}
use Rattle.fixpoint.specs.Rules.{Rules}
use Rattle.std.specs.List.{filter}

pub filter_none : {X : Type 0} (p : X → Bool) (xs : List X) → ((x : X) → Contains xs x → p x ≡ false) → filter p xs ≡ []
filter_none p [] all = refl
filter_none {X} p (x ∷ xs) all =
    subst (λ (b : Bool). (if b then x ∷ filter p xs else filter p xs) ≡ []) (sym (all x (0, omega arith, refl)))
    (filter_none p xs (λ y h. all y (suc h.0, (let l = h.1 in omega arith), h.2)))

module _ {A F G : Type 0} (rules : Rules A F G) where
  -- The owner gave out more to `to`, and just that was posted.
  pub record Posting (first now : State A G) (to : ℕ) (sent : List G) : Type 0 where
    pub sound : IsSoundPart rules now
    pub others : now ≡ record first { given = now.given }
    pub other_given : (j : ℕ) → j ≢ to → given_to now j ≡ given_to first j
    pub posted : sent ≡ take (given_to now to) (part_for rules first to)

  -- the owner after one more was given out
  pub record Given (first next : State A G) (to : ℕ) : Type 0 where
    pub sound : IsSoundPart rules next
    pub others : next ≡ record first { given = next.given }
    pub other_given : (j : ℕ) → j ≢ to → given_to next j ≡ given_to first j

  module _ (first now next : State A G) (to : ℕ) (sent : List G) (p : Posting first now to sent)
      (to_in : to < (rules.parts first.system)) (g : G)
      (next_is : slice_get (part_for rules now to) (given_to now to) ≡ Some g)
      (gives : next ≡ record now { given = set now.given to (given_to now to + 1) })
      (sound : IsSoundPart rules next) where
    part_same : part_for rules now to ≡ part_for rules first to
    part_same = ap (λ (o : State A G). part_for rules o to) p.others

    in_given : to < length now.given
    in_given = subst (λ n. to < n) (sym p.sound.receivers) (subst (λ (o : State A G). to < (rules.parts o.system))
        (sym p.others) to_in)

    given_is : next.given ≡ set now.given to (given_to now to + 1)
    given_is = ap (λ (o : State A G). o.given) gives

    one_more : given_to next to ≡ given_to now to + 1
    one_more = ap (λ (o : State A G). given_to o to) gives ∙ get_or-set_same now.given to
        (given_to now to + 1) 0 in_given

    pub given_one : Given first next to
    given_one = grind (arith, sound, given_is, get_or-set_other)

    pub posting_more : Posting first next to (sent ++ g ∷ [])
    posting_more = grind (arith, sound, given_one, take_more, slice_get, part_same, one_more)

    -- fewer are left
    pub fewer : length (part_for rules next to) - given_to next to < length (part_for rules now to) - given_to now to
    fewer = grind (arith, slice_get_within, one_more)

  module _ (first now : State A G) (to : ℕ) (sent : List G) (p : Posting first now to sent) where
    part_same_now : part_for rules now to ≡ part_for rules first to
    part_same_now = ap (λ (o : State A G). part_for rules o to) p.others

    -- fewer than 2 ^ 37 were posted
    pub posted_few : length sent < 2 ^ 37
    posted_few = grind (arith, take_length, part_same_now, filter_le)
