-- What the queues of an owner say as its log grows, is looked through, and is given out.
use Rattle.std.proofs.Common.{◌≡◌, ℕ, zero, suc, ◌+◌, ◌-◌, ◌<◌, ◌≤◌, Bool, true, false, List, [], ◌∷◌, ◌++◌, length, map, set, if◌then◌else◌, replicate, Contains, get_or, take, drop, refl, sym, ap, ◌∙◌, subst, ⊎_elim, arith, append-nil, length-append}
use Rattle.std.specs.List.{filter, range_with_len}
use Rattle.std.specs.Prelude.{Option, None, Some, is_some, slice_get}
use Rattle.std.proofs.lemmas.Bool.{cases_eq, cases_lt, false≢true}
use Rattle.std.proofs.lemmas.List.{length-take-le, map-append, get_or-take, get_or-drop, take_all, take-append-le, take-append-drop, take-take, drop-take, drop-drop, drop-append-le, drop_more, drop-map, get_or-set_same, get_or-set_other, get_or-replicate, get_or_past, length-set, length-drop, length-replicate}
use Rattle.std.proofs.lemmas.List.Elements.{filter-append}
use Rattle.nll_cut.specs.Partition.{Cut, reads}
use Rattle.nll_cut.specs.Readers.{is_read}
use Rattle.nll_mail.specs.declared.growth.Growth.{Growth}
use Rattle.nll_problem.specs.Problem.{Problem}
use Rattle.nll_owner.specs.Logs.{part}
use Rattle.nll_owner.specs.Owner.{Owner, given_to, part_for, first_owner}
use Rattle.nll_owner.specs.Keeping.{OwnerGrows}
use Rattle.nll_problem.specs.Limits.{most_owners}
use Rattle.nll_owner.specs.Outboxes.{Outboxes, outboxes_of, queue_of, AreQueues, AreQueued, AreAllQueued, GotPlaces, TellsAs}
use Rattle.nll_owner.proofs.OwnerLemmas.{get_at}

-- ---- places of a list

no_some : {X : Type 0} (x : X) → None ≡ Some x → ⊥
no_some x h = false≢true (ap is_some h)

-- what stands at a place stands there in a longer list
pub get_still : {X : Type 0} (xs ys : List X) (k : ℕ) (x : X) → slice_get xs k ≡ Some x
    → slice_get (xs ++ ys) k ≡ Some x
get_still [] ys k x h = absurd (no_some x h)
get_still (y ∷ xs) ys zero x h = h
get_still (y ∷ xs) ys (suc k) x h = get_still xs ys k x h

pub get_within : {X : Type 0} (xs : List X) (k : ℕ) (x : X) → slice_get xs k ≡ Some x → k < length xs
get_within [] k x h = absurd (no_some x h)
get_within (y ∷ xs) zero x h = omega arith
get_within (y ∷ xs) (suc k) x h = (let l = get_within xs k x h in omega arith)

pub get_dropped : {X : Type 0} (n k : ℕ) (xs : List X) → slice_get (drop n xs) k ≡ slice_get xs (n + k)
get_dropped zero k xs = (let same : k ≡ 0 + k = omega arith in ap (slice_get xs) same)
get_dropped (suc n) k [] = refl
get_dropped (suc n) k (x ∷ xs) =
    (let same : suc (n + k) ≡ suc n + k = omega arith in get_dropped n k xs ∙ ap (slice_get (x ∷ xs)) same)

-- the lists that places and what stands at them make up
pub some_still : {X : Type 0} (xs ys : List X) (ks : List ℕ) (zs : List X) → map (slice_get xs) ks ≡ map Some zs
    → map (slice_get (xs ++ ys)) ks ≡ map Some zs
some_still xs ys [] [] h = refl
some_still xs ys [] (z ∷ zs) h = absurd (omega (arith, ap length h))
some_still xs ys (k ∷ ks) [] h = absurd (omega (arith, ap length h))
some_still {X} xs ys (k ∷ ks) (z ∷ zs) h = λ i. get_still xs ys k z first i ∷ some_still xs ys ks zs rest i
  where
    first : slice_get xs k ≡ Some z
    first = ap (λ os. get_or os 0 None) h

    rest : map (slice_get xs) ks ≡ map Some zs
    rest = ap (drop 1) h

-- what stands at the first place comes first
pub first_is : {X : Type 0} (xs : List X) (ks : List ℕ) (zs : List X) → map (slice_get xs) ks ≡ map Some zs → (k : ℕ)
    → slice_get ks 0 ≡ Some k → (z : X) × (slice_get xs k ≡ Some z) × (slice_get zs 0 ≡ Some z)
first_is xs [] zs h k at = absurd (no_some k at)
first_is xs (j ∷ ks) [] h k at = absurd (omega (arith, ap length h))
first_is {X} xs (j ∷ ks) (z ∷ zs) h k at =
    (z, subst (λ i. slice_get xs i ≡ Some z) same (ap (λ os. get_or os 0 None) h), refl)
  where
    number : Option ℕ → ℕ
    number None = 0
    number (Some i) = i

    same : j ≡ k
    same = ap number at

-- the places from one on, and what stands at them
pub picked : (log : List Growth) (place n : ℕ) → place + n ≤ length log
    → map (slice_get log) (range_with_len place n) ≡ map Some (take n (drop place log))
picked log place zero within = refl
picked log place (suc n) within =
    let none : Growth = record { region = 0; element = 0; rank = 0 } in
    let here : slice_get log place ≡ Some (get_or log place none) =
    get_at log place (get_or log place none) (omega arith) (get_or-get_or log place none) in
    (λ i. here i ∷ picked log (place + 1) n (omega arith) i)
    ∙ sym (ap (λ xs. map Some (take (suc n) xs)) (drop_more log place none (omega arith)))
  where
    get_or-get_or : (xs : List Growth) (k : ℕ) (d : Growth) → get_or xs k (get_or xs k d) ≡ get_or xs k d
    get_or-get_or [] k d = refl
    get_or-get_or (x ∷ xs) zero d = refl
    get_or-get_or (x ∷ xs) (suc k) d = get_or-get_or xs k d

pub filter_all : {X : Type 0} (p : X → Bool) (xs : List X) → ((x : X) → Contains xs x → p x ≡ true) → filter p xs ≡ xs
filter_all p [] all = refl
filter_all {X} p (x ∷ xs) all =
    subst (λ (b : Bool). (if b then x ∷ filter p xs else filter p xs) ≡ x ∷ xs) (sym (all x (0, omega arith, refl)))
    (ap (λ ys. x ∷ ys) (filter_all p xs (λ y h. all y (suc h.0, (let l = h.1 in omega arith), h.2))))

pub filter_none : {X : Type 0} (p : X → Bool) (xs : List X) → ((x : X) → Contains xs x → p x ≡ false) → filter p xs ≡ []
filter_none p [] all = refl
filter_none {X} p (x ∷ xs) all =
    subst (λ (b : Bool). (if b then x ∷ filter p xs else filter p xs) ≡ []) (sym (all x (0, omega arith, refl)))
    (filter_none p xs (λ y h. all y (suc h.0, (let l = h.1 in omega arith), h.2)))

-- ---- the log grows

module _ (q : Problem) (c : Cut) (log rest : List Growth) (place : ℕ) (within : place ≤ length log) where
  front_still : (j : ℕ) → part q c j (take place (log ++ rest)) ≡ part q c j (take place log)
  front_still j = ap (part q c j) (take-append-le place log rest within)

  queue_still : (j given : ℕ) (queue : List ℕ)
      → map (slice_get log) queue ≡ map Some (drop given (part q c j (take place log)))
      → map (slice_get (log ++ rest)) queue ≡ map Some (drop given (part q c j (take place (log ++ rest))))
  queue_still j given queue h = some_still log rest queue (drop given (part q c j (take place log))) h
      ∙ ap (λ xs. map Some (drop given xs)) (sym (front_still j))

pub queued_longer : (o : Owner) (rest : List Growth) (b : Outboxes) → AreQueued o b
    → AreQueued (record o { log = o.log ++ rest }) b
queued_longer o rest b queued = record {
  owners = queued.owners;
  within = omega (arith, queued.within, length-append o.log rest);
  enough =
      λ j. subst (λ xs. given_to o j ≤ length xs) (sym (front_still o.problem o.cut o.log rest b.place queued.within j))
      (queued.enough j);
  each = λ j h. queue_still o.problem o.cut o.log rest b.place queued.within j (given_to o j) (queue_of b j)
      (queued.each j h);
}

-- what is told of an owner holds of each other with the same log, which gave out the same
module _ (o n : Owner) (b : Outboxes) (problem : n.problem ≡ o.problem) (cut : n.cut ≡ o.cut)
    (given : n.given ≡ o.given) (log : n.log ≡ o.log) where
  same_queued : AreQueued o b → AreQueued n b
  same_queued queued = grind (arith, get_or)

-- ... or a longer one
pub queued_begins : (o n : Owner) (b : Outboxes) → n.problem ≡ o.problem → n.cut ≡ o.cut → n.given ≡ o.given
    → (rest : List Growth) → n.log ≡ o.log ++ rest → AreQueued o b → AreQueued n b
queued_begins o n b problem cut given rest log queued =
    same_queued (record o { log = o.log ++ rest }) n b problem cut given log (queued_longer o rest b queued)

pub all_queued_same : (o n : Owner) (b : Outboxes) → n.problem ≡ o.problem → n.cut ≡ o.cut → n.given ≡ o.given
    → n.log ≡ o.log → AreAllQueued o b → AreAllQueued n b
all_queued_same o n b problem cut given log queued =
    (same_queued o n b problem cut given log queued.0, queued.1 ∙ ap length (sym log))

pub queued_grows : (old new : Owner) (b : Outboxes) → OwnerGrows old new → AreQueued old b → AreQueued new b
queued_grows old new b grows queued =
    queued_begins old new b (ap (λ (o : Owner). o.problem) grows.others) (ap (λ (o : Owner). o.cut) grows.others)
    (ap (λ (o : Owner). o.given) grows.others) grows.begins.0 grows.begins.1 queued

pub queued_marked : (old new : Owner) (b : Outboxes) → new ≡ record old { loaded = new.loaded; broken = new.broken }
    → AreAllQueued old b → AreAllQueued new b
queued_marked old new b same queued =
    all_queued_same old new b (ap (λ (o : Owner). o.problem) same) (ap (λ (o : Owner). o.cut) same)
    (ap (λ (o : Owner). o.given) same) (ap (λ (o : Owner). o.log) same) queued

-- ---- the log is looked through

module _ (o : Owner) (readers : List (List Bool)) (tells : TellsAs o readers) (old new : Outboxes)
    (queued : AreQueued o old) (end region : ℕ) (above : old.place < end) (within : end ≤ length o.log)
    (same : (k : ℕ) (g : Growth) → old.place ≤ k → k < end → slice_get o.log k ≡ Some g → g.region ≡ region)
    (count : length new.queues ≡ length old.queues) (place : new.place ≡ end)
    (got : GotPlaces (λ j. is_read readers j region) (range_with_len old.place (end - old.place))
    (length old.queues) old new) where
  abbrev n : ℕ
  n = end - old.place

  abbrev middle : List Growth
  middle = take n (drop old.place o.log)

  -- the growths between are of the region
  of_region : (g : Growth) → Contains middle g → g.region ≡ region
  of_region g h =
      grind (arith, length-take-le, length-drop, get_or, get_or-drop, get_or-take, same, get_at)

  front : take end o.log ≡ take old.place o.log ++ middle
  front =
      let sum : old.place + n ≡ end = omega arith in
      sym (take-append-drop old.place (take end o.log))
      ∙ ((λ i. take-take old.place end o.log (omega arith) i ++ drop old.place (take (sym sum i) o.log))
      ∙ ap (λ xs. take old.place o.log ++ xs) (drop-take old.place n o.log))

  part_front : (j : ℕ) → part o.problem o.cut j (take end o.log)
      ≡ part o.problem o.cut j (take old.place o.log) ++ part o.problem o.cut j middle
  part_front j = ap (part o.problem o.cut j) front
      ∙ filter-append (λ (g : Growth). reads o.problem o.cut j g.region) (take old.place o.log) middle

  read_middle : (j : ℕ) (b : Bool) → is_read readers j region ≡ b → (g : Growth) → Contains middle g
      → reads o.problem o.cut j g.region ≡ b
  read_middle j b is g h = ap (reads o.problem o.cut j) (of_region g h) ∙ (sym (tells j region) ∙ is)

  -- a reader of the region
  told : (j : ℕ) → j < length old.queues → is_read readers j region ≡ true
      → map (slice_get o.log) (queue_of new j)
      ≡ map Some (drop (given_to o j) (part o.problem o.cut j (take end o.log)))
  told j in_queues is =
      let all = filter_all (λ (g : Growth). reads o.problem o.cut j g.region) middle (read_middle j true is) in
      let parts =
      ap (drop (given_to o j)) (part_front j ∙ ap (λ xs. part o.problem o.cut j (take old.place o.log) ++ xs) all)
      ∙ drop-append-le (given_to o j) (part o.problem o.cut j (take old.place o.log)) middle (queued.enough j) in
      ap (map (slice_get o.log)) (got.got j in_queues is)
      ∙ (map-append (slice_get o.log) (queue_of old j) (range_with_len old.place n)
      ∙ ((λ i. queued.each j (omega (arith, in_queues, queued.owners)) i ++ picked o.log old.place n (omega arith) i)
      ∙ (sym (map-append Some (drop (given_to o j) (part o.problem o.cut j (take old.place o.log))) middle)
      ∙ ap (map Some) (sym parts))))

  -- an owner that doesn't read it
  part_same : (j : ℕ) → is_read readers j region ≡ false
      → part o.problem o.cut j (take end o.log) ≡ part o.problem o.cut j (take old.place o.log)
  part_same j is =
      part_front j ∙ (ap (λ xs. part o.problem o.cut j (take old.place o.log) ++ xs)
      (filter_none (λ (g : Growth). reads o.problem o.cut j g.region) middle (read_middle j false is)) ∙ append-nil _)

  passed_by : (j : ℕ) → j < length old.queues → is_read readers j region ≡ false
      → map (slice_get o.log) (queue_of new j)
      ≡ map Some (drop (given_to o j) (part o.problem o.cut j (take end o.log)))
  passed_by j in_queues is = ap (map (slice_get o.log)) (got.passed j is)
      ∙ (queued.each j (omega (arith, in_queues, queued.owners))
      ∙ ap (λ xs. map Some (drop (given_to o j) xs)) (sym (part_same j is)))

  each_new : (j : ℕ) → j < length old.queues
      → map (slice_get o.log) (queue_of new j)
      ≡ map Some (drop (given_to o j) (part o.problem o.cut j (take end o.log)))
  each_new j in_queues = go (is_read readers j region) refl
    where
      go : (b : Bool) → is_read readers j region ≡ b
          → map (slice_get o.log) (queue_of new j)
          ≡ map Some (drop (given_to o j) (part o.problem o.cut j (take end o.log)))
      go true is = told j in_queues is
      go false is = passed_by j in_queues is

  pub looked_through : AreQueued o new
  looked_through = grind (arith, part_front, length-append, each_new)

-- ---- the log is given out

module _ (o : Owner) (b : Outboxes) (all : AreAllQueued o b) where
  whole : (j : ℕ) → part o.problem o.cut j (take b.place o.log) ≡ part_for o j
  whole j = ap (part o.problem o.cut j) (take_all b.place o.log (omega (arith, all.1)))

  pub queue_says : (j : ℕ) → j < o.cut.owners
      → map (slice_get o.log) (queue_of b j) ≡ map Some (drop (given_to o j) (part_for o j))
  queue_says j h = all.0.each j h ∙ ap (λ xs. map Some (drop (given_to o j) xs)) (whole j)

  pub given_enough : (j : ℕ) → given_to o j ≤ length (part_for o j)
  given_enough j = subst (λ xs. given_to o j ≤ length xs) (whole j) (all.0.enough j)

  pub none_past : (j : ℕ) → o.cut.owners ≤ j → queue_of b j ≡ []
  none_past j h = get_or_past b.queues j [] (omega (arith, all.0.owners))

  module _ (to place : ℕ) (first : slice_get (queue_of b to) 0 ≡ Some place) where
    pub to_within : to < o.cut.owners
    to_within =
        ⊎_elim (λ l. l) (λ past. absurd (no_some place (sym (ap (λ xs. slice_get xs 0) (none_past to past)) ∙ first)))
        (cases_lt to o.cut.owners)

    found : (g : Growth) × (slice_get o.log place ≡ Some g)
        × (slice_get (drop (given_to o to) (part_for o to)) 0 ≡ Some g)
    found = first_is o.log (queue_of b to) (drop (given_to o to) (part_for o to)) (queue_says to to_within) place first

    pub place_within : place < length o.log
    place_within = get_within o.log place found.0 found.1

    pub more_left : given_to o to < length (part_for o to)
    more_left =
        (let l = get_within (drop (given_to o to) (part_for o to)) 0 found.0 found.2 in
        omega (arith, length-drop (given_to o to) (part_for o to)))

    -- the growth at that place is the next one
    pub next_is : slice_get (part_for o to) (given_to o to) ≡ slice_get o.log place
    next_is =
        let zero_more : given_to o to + 0 ≡ given_to o to = omega arith in
        sym (ap (slice_get (part_for o to)) zero_more)
        ∙ (sym (get_dropped (given_to o to) 0 (part_for o to)) ∙ (found.2 ∙ sym found.1))

    -- once it is given, the rest of the queue is left
    abbrev given : List ℕ
    given = set o.given to (given_to o to + 1)

    abbrev rest : Outboxes
    rest = record b { queues = set b.queues to (drop 1 (queue_of b to)) }

    module _ (receivers : length o.given ≡ o.cut.owners) where
      given_here : get_or given to 0 ≡ given_to o to + 1
      given_here = get_or-set_same o.given to (given_to o to + 1) 0 (omega (arith, receivers, to_within))

      queue_here : queue_of rest to ≡ drop 1 (queue_of b to)
      queue_here = get_or-set_same b.queues to (drop 1 (queue_of b to)) [] (omega (arith, all.0.owners, to_within))

      says_here : map (slice_get o.log) (queue_of rest to) ≡ map Some (drop (get_or given to 0) (part_for o to))
      says_here =
          ap (map (slice_get o.log)) queue_here
          ∙ (sym (drop-map (slice_get o.log) 1 (queue_of b to))
          ∙ (ap (drop 1) (queue_says to to_within)
          ∙ (drop-map Some 1 (drop (given_to o to) (part_for o to))
          ∙ (ap (map Some) (drop-drop 1 (given_to o to) (part_for o to))
          ∙ ap (λ k. map Some (drop k (part_for o to))) (sym given_here)))))

      pub queued_given : AreAllQueued (record o { given = given }) rest
      queued_given = (
        record {
          owners = length-set b.queues to (drop 1 (queue_of b to)) ∙ all.0.owners;
          within = all.0.within;
          enough = λ j. subst (λ xs. get_or given j 0 ≤ length xs) (sym (whole j)) (⊎_elim
              (λ same. subst (λ i. get_or given i 0 ≤ length (part_for o i)) (sym same)
              (omega (arith, given_here, more_left)))
              (λ differs. omega (arith, given_enough j, get_or-set_other o.given to j (given_to o to + 1) 0 differs))
              (cases_eq j to));
          each = λ j h. ⊎_elim
              (λ same. subst (λ i. map (slice_get o.log) (queue_of rest i)
              ≡ map Some (drop (get_or given i 0) (part o.problem o.cut i (take b.place o.log)))) (sym same)
              (says_here ∙ ap (λ xs. map Some (drop (get_or given to 0) xs)) (sym (whole to))))
              (λ differs. ap (map (slice_get o.log))
              (get_or-set_other b.queues to j (drop 1 (queue_of b to)) [] differs)
              ∙ (all.0.each j h ∙ ap (λ k. map Some (drop k (part o.problem o.cut j (take b.place o.log))))
              (sym (get_or-set_other o.given to j (given_to o to + 1) 0 differs))))
              (cases_eq j to);
        },
        all.1,
      )

-- ---- an owner that has done nothing yet

pub queued_first : (q : Problem) (c : Cut) (i : ℕ)
    → AreAllQueued (first_owner q c i) (outboxes_of (replicate c.owners []) 0)
queued_first q c i = grind (arith, length-replicate, none_given, get_or-replicate, nothing)
  where
    none_given : (j : ℕ) → ◌≡◌ {A = ℕ} (get_or (replicate c.owners 0) j 0) 0
    none_given j = grind (arith, get_or-replicate, get_or_past, length-replicate, cases_lt)

    nothing : (n : ℕ) → drop {A = Growth} n [] ≡ []
    nothing zero = refl
    nothing (suc n) = refl

-- ---- queues that get places

pub none_queues : (n : ℕ) → n ≤ most_owners → AreQueues (outboxes_of (replicate n []) 0)
none_queues n few = grind (arith, length-replicate, nothing)
  where
    nothing : (j : ℕ) → get_or (replicate {A = List ℕ} n []) j [] ≡ []
    nothing j = grind (arith, get_or-replicate, get_or_past, length-replicate, cases_lt)

module _ (reads : ℕ → Bool) (places : List ℕ) (old : Outboxes) where
  -- the next one that reads got them
  module _ (below reader : ℕ) (new : Outboxes) (g : GotPlaces reads places below old new) (from : below ≤ reader)
      (is : reads reader ≡ true) (least : (j : ℕ) → below ≤ j → j < reader → reads j ≡ false)
      (within : reader < length new.queues) where
    abbrev more : Outboxes
    more = record new { queues = set new.queues reader (queue_of new reader ++ places) }

    here : queue_of more reader ≡ queue_of old reader ++ places
    here = get_or-set_same new.queues reader (queue_of new reader ++ places) [] within
        ∙ ap (λ xs. xs ++ places) (g.left reader from)

  -- no queue has more places than were looked through
  pub got_short : (below : ℕ) (new : Outboxes) → GotPlaces reads places below old new → AreQueues old
      → length new.queues ≡ length old.queues → old.place + length places ≤ new.place → AreQueues new
  got_short below new g old_queues count place =
      record { few = omega (arith, count, old_queues.few); short = λ j. go j (reads j) refl }
    where
      go : (j : ℕ) (b : Bool) → reads j ≡ b → length (queue_of new j) ≤ new.place
      go j false skipped = omega (arith, ap length (g.passed j skipped), old_queues.short j, place)
      go j true is = grind (arith, length-append, cases_lt)
