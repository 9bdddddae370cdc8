-- What links lack as the owner grows.
use Rattle.std.proofs.Common.{◌≡◌, ◌⊎◌, ⊎_elim, ℕ, ◌+◌, ◌<◌, ◌≤◌, List, [], ◌∷◌, ◌++◌, length, map, set, get_or, drop, Contains, refl, sym, ap, ◌∙◌, subst, inl, inr, arith}
use Rattle.std.proofs.lemmas.Bool.{cases_eq, cases_lt}
use Rattle.std.proofs.Math.Seq.{map-set_same}
use Rattle.std.proofs.lemmas.List.{drop-append-le, get_or-set_other, get_or-set_same, length-map, length-set}
use Rattle.std.proofs.lemmas.List.Elements.{Contains-append_cases, Contains-append_left, Contains-append_right}
use Rattle.nll_problem.specs.Graph.{Graph, element_count, IsStep}
use Rattle.nll_problem.specs.Problem.{Problem}
use Rattle.nll_problem.specs.declared.at.At.{At}
use Rattle.nll_problem.specs.declared.at.At.TheVariants.{All, Point}
use Rattle.nll_problem.specs.declared.constraint.Constraint.{Constraint}
use Rattle.nll_problem.proofs.AskLemmas.{asked_weaker}
use Rattle.nll_problem.proofs.WalkLemmas.{reaches_carries, reaches_first, reaches_more, reaches_starts}
use Rattle.nll_core.specs.Frontiers.{Frontier, IsAskedFrom, IsThere, HasOnlyAsked, LacksOnlyDue}
use Rattle.nll_core.specs.Search.{IsIn}
use Rattle.nll_core.proofs.FrontierLemmas.{reached_inside}
use Rattle.nll_cut.specs.Partition.{Cut, owner_of}
use Rattle.nll_mail.specs.declared.growth.Growth.{Growth}
use Rattle.nll_owner.specs.Logs.{IsTold, list_of}
use Rattle.nll_owner.specs.Owner.{Owner, Has, received_from}
use Rattle.nll_owner.specs.Keeping.{OwnerGrows, IsSlot, held_regions}
use Rattle.nll_owner.specs.Following.{IsLinkOf, AreLinksOf, link_shape, constraint_of, Following, links_of_slot, IsLeft, IsLinkFollowed, IsFollowing, IsLinkBehind}
use Rattle.nll_owner.specs.RegionRuns.{IsToldByRuns}
use Rattle.nll_owner.specs.declared.link.Due.{Due}
use Rattle.nll_owner.specs.declared.link.Link.{Link}
use Rattle.nll_owner.proofs.LogLemmas.{list_own, list_other}
use Rattle.fixpoint.proofs.ListLemmas.{contains_head, contains_tail, contains_cases}
use Rattle.nll_owner.proofs.OwnerLemmas.{has_grows, grows_le}

-- ---- lists

-- what stands behind a place stands behind it in a longer list too, and so does what is new
drop_longer : {X : Type 0} (n : ℕ) (xs rest : List X) → n ≤ length xs → (y : X)
    → Contains (drop n xs) y ⊎ Contains rest y → Contains (drop n (xs ++ rest)) y
drop_longer n xs rest low y h = subst (λ zs. Contains zs y) (sym (drop-append-le n xs rest low))
    (⊎_elim (λ early. Contains-append_left (drop n xs) rest y early)
    (λ late. Contains-append_right (drop n xs) rest y late) h)

contains_mapped : {X Y : Type 0} (f : X → Y) (xs : List X) (y : Y) → Contains (map f xs) y
    → (x : X) × Contains xs x × (f x ≡ y)
contains_mapped f [] y h = absurd (let l = h.1 in omega arith)
contains_mapped f (x ∷ xs) y h = ⊎_elim
    (λ (is : f x ≡ y). (x, contains_head x xs, is))
    (λ (w : Contains (map f xs) y). let r = contains_mapped f xs y w in (r.0, contains_tail x xs r.0 r.1, r.2))
    (contains_cases (f x) (map f xs) y h)

contains_map : {X Y : Type 0} (f : X → Y) (xs : List X) (x : X) → Contains xs x → Contains (map f xs) (f x)
contains_map f [] x h = absurd (let l = h.1 in omega arith)
contains_map f (z ∷ xs) x h = ⊎_elim
    (λ (same : z ≡ x). subst (λ y. Contains (f z ∷ map f xs) (f y)) same (contains_head (f z) (map f xs)))
    (λ (w : Contains xs x). contains_tail (f z) (map f xs) (f x) (contains_map f xs x w))
    (contains_cases z xs x h)

-- ---- links of the same shapes

same_link : (c : Cut) (me r : ℕ) (ks : List Constraint) (m l : Link) → link_shape m ≡ link_shape l
    → IsLinkOf c me r ks m → IsLinkOf c me r ks l
same_link c me r ks m l same w =
    let sup : m.sup ≡ l.sup = ap (λ (p : ℕ × List At). p.0) same in
    let starts : m.frontier.starts ≡ l.frontier.starts = ap (λ (p : ℕ × List At). p.1) same in
    record {
      own = subst (λ x. owner_of c x ≡ me) sup w.own;
      other = λ is. w.other (sup ∙ is);
      points =
          λ p h. subst (λ x. Contains ks (constraint_of r x p)) sup
          (w.points p (subst (λ ps. Contains ps p) (sym starts) h));
    }

-- a link of the one list has its like in the other
like_in : (xs ys : List Link) → map link_shape xs ≡ map link_shape ys → (x : Link) → Contains xs x
    → (y : Link) × Contains ys y × (link_shape y ≡ link_shape x)
like_in xs ys same x h =
    contains_mapped link_shape ys (link_shape x)
    (subst (λ zs. Contains zs (link_shape x)) same (contains_map link_shape xs x h))

pub same_links : (c : Cut) (me r : ℕ) (ks : List Constraint) (old new : List Link)
    → map link_shape new ≡ map link_shape old → AreLinksOf c me r ks old → AreLinksOf c me r ks new
same_links c me r ks old new same w = record {
  each = λ l h. let m = like_in new old same l h in same_link c me r ks m.0 l m.2 (w.each m.0 m.1);
  all = λ k h sub other own.
      let t = w.all k h sub other own in
      let m = like_in old new (sym same) t.0 t.1 in (
        m.0,
        m.1,
        ap (λ (p : ℕ × List At). p.0) m.2 ∙ t.2,
        subst (λ ps. Contains ps k.at) (sym (ap (λ (p : ℕ × List At). p.1) m.2)) t.3,
      );
}

-- ---- one link of a row is another one of the same shape

pub shapes_kept : (old row : List Link) (n : ℕ) (l m : Link) → map link_shape row ≡ map link_shape old
    → l ≡ get_or row n l → link_shape m ≡ link_shape l → map link_shape (set row n m) ≡ map link_shape old
shapes_kept old row n l m same is shape = map-set_same link_shape row n m l (shape ∙ ap link_shape is) ∙ same

pub same_count : (old row : List Link) → map link_shape row ≡ map link_shape old → length row ≡ length old
same_count old row same = omega (arith, ap length same, length-map row link_shape, length-map old link_shape)

module _ (P : Link → Type 0) (row : List Link) (n : ℕ) (m : Link) (within : n < length row) where
  pub before_next : ((k : ℕ) (x : Link) → k < n → get_or row k x ≡ x → P x) → P m → (k : ℕ) (x : Link) → k < n + 1
      → get_or (set row n m) k x ≡ x → P x
  before_next before here k x low is = grind (arith, get_or-set_other, get_or-set_same, get_or, cases_lt)

  pub behind_next : ((k : ℕ) (x : Link) → n ≤ k → k < length row → get_or row k x ≡ x → P x) → (k : ℕ) (x : Link)
      → n + 1 ≤ k → k < length (set row n m) → get_or (set row n m) k x ≡ x → P x
  behind_next before k x low high is =
      before k x (omega arith) (omega (arith, high, length-set row n m))
      (sym (get_or-set_other row n k m x (λ same. (let l = low in omega arith))) ∙ is)

-- ---- a frontier that lacks only what is due

-- it does so inside a larger set, if what came is due too
module _ (g : Graph) (f : Frontier) (inside more due later : ℕ → Type 0)
    (had : (x : ℕ) → IsIn f.reached x → inside x) (cause : (x : ℕ) → more x → inside x ⊎ later x)
    (still : (x : ℕ) → inside x → due x → later x) (w : LacksOnlyDue g inside due f) where
  abbrev pub there : ℕ → Type 0
  there = IsThere more later f.reached

  abbrev there_before : ℕ → Type 0
  there_before = IsThere inside due f.reached

  was_there : (x : ℕ) → there x → inside x → there_before x
  was_there x t i = (i, λ d. t.1 (still x i d))

  one_step : (x y : ℕ) → IsIn f.reached x → IsStep g x y → there y → IsIn f.reached y
  one_step x y h step t = ⊎_elim
      (λ i. w.onward x y h (reaches_more g there_before x x y
      (reaches_first g there_before x (had x h, λ _. h)) step (was_there y t i)))
      t.1
      (cause y t.0)

  begun : (p : ℕ) → Contains f.starts (Point p) → there p → IsIn f.reached p
  begun p start t = grind (arith, reaches_first, was_there)

  asked : (x : ℕ) → IsAskedFrom g there f.starts x → IsIn f.reached x
  asked x (All, every, t) = ⊎_elim (λ i. w.asked x (All, every, was_there x t i)) t.1 (cause x t.0)
  asked x (Point p, start, way) =
      reaches_carries g there p (IsIn f.reached) one_step x (begun p start (reaches_starts g there p x way)) way

  pub lacks_more : LacksOnlyDue g more later f
  lacks_more = record {
    asked = asked;
    onward = λ x y h way. reaches_carries g there x (IsIn f.reached) one_step y h way;
  }

-- ---- the owner grows

module _ (old new : Owner) (g : OwnerGrows old new) where
  pub same_problem : new.problem ≡ old.problem
  same_problem = ap (λ (o : Owner). o.problem) g.others

  -- what it has it had, or it stands in what the log got
  pub has_grown : (r e : ℕ) → Has new r e → Has old r e ⊎ IsTold g.begins.0 r e
  has_grown r e h =
      let at : IsTold (list_of old.cut old.me new.log (received_from old) r) r e =
      subst (λ (o : Owner). Has o r e) g.others h in
      ⊎_elim
      (λ own.
      let in_log =
      subst (λ xs. Contains xs at.0) (list_own old.cut old.me new.log (received_from old) r own ∙ g.begins.1) at.1
      in
      ⊎_elim
      (λ (early : Contains old.log at.0). inl (
        at.0,
        subst (λ xs. Contains xs at.0) (sym (list_own old.cut old.me old.log (received_from old) r own)) early,
        at.2,
        at.3,
      ))
      (λ (late : Contains g.begins.0 at.0). inr (at.0, late, at.2, at.3))
      (Contains-append_cases old.log g.begins.0 at.0 in_log))
      (λ other. inl (
        at.0,
        subst (λ xs. Contains xs at.0)
            (list_other old.cut old.me new.log (received_from old) r other
            ∙ sym (list_other old.cut old.me old.log (received_from old) r other)) at.1,
        at.2,
        at.3,
      ))
      (cases_eq (owner_of old.cut r) old.me)

  -- what stands behind a place, or is new, stands behind it then
  behind : (place : ℕ) → place ≤ length old.log → (y : Growth) → Contains (drop place old.log) y ⊎ Contains g.begins.0 y
      → Contains (drop place new.log) y
  behind place l y h =
      subst (λ xs. Contains (drop place xs) y) (sym g.begins.1) (drop_longer place old.log g.begins.0 l y h)

  pub links_grow : (r : ℕ) (row : List Link) → AreLinksOf old.cut old.me r old.problem.constraints row
      → AreLinksOf new.cut new.me r new.problem.constraints row
  links_grow r row w = subst (λ (o : Owner). AreLinksOf o.cut o.me r o.problem.constraints row) (sym g.others) w

  pub link_grows : (r : ℕ) (m l : Link) → link_shape m ≡ link_shape l
      → IsLinkOf old.cut old.me r old.problem.constraints m → IsLinkOf new.cut new.me r new.problem.constraints l
  link_grows r m l same w = subst (λ (o : Owner). IsLinkOf o.cut o.me r o.problem.constraints l) (sym g.others)
      (same_link old.cut old.me r old.problem.constraints m l same w)

  -- slots are as they were
  pub slot_before : (s r : ℕ) → IsSlot new s r → IsSlot old s r
  slot_before s r at = subst (λ (o : Owner). IsSlot o s r) g.others at

  -- what is left of a region is left then, and so is what is new
  pub left_grows : (place : ℕ) (due : ℕ → ℕ → Type 0) (r e : ℕ) → place ≤ length old.log → IsLeft old place due r e
      → IsLeft new place due r e
  left_grows place due r e low (inl k) = inl (k.0, behind place low k.0 (inl k.1), k.2, k.3)
  left_grows place due r e low (inr d) = inr d

  pub left_new : (place : ℕ) (due : ℕ → ℕ → Type 0) (r e : ℕ) → place ≤ length old.log → IsTold g.begins.0 r e
      → IsLeft new place due r e
  left_new place due r e low k = inl (k.0, behind place low k.0 (inr k.1), k.2, k.3)

  pursued_grows : (place : ℕ) (due : ℕ → ℕ → Type 0) (r : ℕ) (l : Link) → place ≤ length old.log
      → HasOnlyAsked old.problem.graph (Has old r) l.frontier
      → LacksOnlyDue old.problem.graph (Has old r) (IsLeft old place due r) l.frontier
      → LacksOnlyDue new.problem.graph (Has new r) (IsLeft new place due r) l.frontier
  pursued_grows place due r l low sound w =
      subst (λ (q : Problem). LacksOnlyDue q.graph (Has new r) (IsLeft new place due r) l.frontier) (sym same_problem)
      (lacks_more old.problem.graph l.frontier (Has old r) (Has new r) (IsLeft old place due r) (IsLeft new place due r)
      (reached_inside old.problem.graph (Has old r) l.frontier sound)
      (λ x h. ⊎_elim inl (λ k. inr (left_new place due r x low k)) (has_grown r x h))
      (λ x _ later. left_grows place due r x low later) w)

  pub followed_grows : (place : ℕ) (due : ℕ → ℕ → Type 0) (r : ℕ) (l : Link) → place ≤ length old.log
      → IsLinkFollowed old r (IsLeft old place due r) l → IsLinkFollowed new r (IsLeft new place due r) l
  followed_grows place due r l low w = record {
    whole = w.whole;
    fits = subst (λ (q : Problem). length l.frontier.reached ≤ element_count q.graph) (sym same_problem) w.fits;
    sound = λ x h. subst (λ (q : Problem). IsAskedFrom q.graph (Has new r) l.frontier.starts x) (sym same_problem)
        (let t = w.sound x h in (
          t.0,
          t.1,
          asked_weaker old.problem.graph (Has old r) t.0 (Has new r)
              (λ y. has_grows old new g r y) x t.2,
        ));
    filled = λ x h. has_grows old new g l.sup x (w.filled x h);
    resting = λ still x h. ⊎_elim
        (λ before. ⊎_elim (λ own. inl (has_grows old new g l.sup x own))
        (λ later. inr (left_grows place due r x low later)) (w.resting still x before))
        (λ k. inr (left_new place due r x low k))
        (has_grown r x h);
    pursued = λ awake. pursued_grows place due r l low w.sound (w.pursued awake);
  }

  pub behind_grows : (d : Due) (l : Link) → d.place ≤ length old.log → IsLinkBehind old d l → IsLinkBehind new d l
  behind_grows d l low w = record {
    link = link_grows d.region l l refl w.link;
    followed = followed_grows d.place (IsToldByRuns d.runs.now) d.region l low w.followed;
  }

  pub following_grows : (due : ℕ → ℕ → Type 0) (f : Following) → IsFollowing due old f → IsFollowing due new f
  following_grows due f w = record {
    count = w.count ∙ ap (λ (o : Owner). length (held_regions o)) (sym g.others);
    within = omega (arith, w.within, grows_le old new g);
    links = λ s r at. links_grow r (links_of_slot f s) (w.links s r (slot_before s r at));
    followed = λ s r l at h. followed_grows f.place due r l w.within (w.followed s r l (slot_before s r at) h);
  }
