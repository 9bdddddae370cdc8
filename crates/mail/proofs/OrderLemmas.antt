-- Each step of a mailbox's queue keeps its rule.
use Rattle.std.proofs.Common.{◌≡◌, ◌≢◌, ℕ, zero, suc, true, false, true≢false, List, [], ◌∷◌, ◌++◌, length, set, sym, refl, ap, ◌∙◌, subst, ⊎_elim, append_assoc, length-append, arith, ◌<◌}
use mathlib.Core.Option.{some, some-ne-none}
use lib.ListN.{get_elem?}
use Rattle.crossbeam_queue.specs.Fifo.{Pushes, Pops, Forks, Merges, Learns}
use Rattle.crossbeam_queue.proofs.Lists.{at_set, at_snoc}
use Rattle.mail.specs.Limits.{most_posts}
use Rattle.mail.specs.declared.queue_mail.Known.{Known}
use Rattle.mail.specs.Order.{known, IsPosterOrTaker, IsInOrder}

module _ {T : Type 0} where
  -- ---- lists of ends

  -- what is found in a list only since one was put at its end is found at its end
  at_end : (ends : List (Known T)) (a b : Known T) (j : ℕ) → get_elem? ends j ≢ some b
      → get_elem? (ends ++ a ∷ []) j ≡ some b → j ≡ length ends
  at_end [] a b zero n e = refl
  at_end [] a b (suc j) n e = absurd (some-ne-none b (sym e))
  at_end (x ∷ xs) a b zero n e = absurd (n e)
  at_end (x ∷ xs) a b (suc j) n e = ap suc (at_end xs a b j n e)

  -- each end is as F says of its number
  abbrev EachIs : (ℕ → Known T → Type 0) → List (Known T) → Type 0
  EachIs F ends = (number : ℕ) (end : Known T) → get_elem? ends number ≡ some end → F number end

  each_set : (F : ℕ → Known T → Type 0) (ends : List (Known T)) (number : ℕ) (end : Known T) → F number end
      → ((j : ℕ) (u : Known T) → j ≢ number → get_elem? ends j ≡ some u → F j u) → EachIs F (set ends number end)
  each_set F ends number end mine others j u e = ⊎_elim
      (λ (x : (j ≡ number) × (end ≡ u)). subst (λ (y : ℕ × Known T). F y.0 y.1) (λ i. (sym x.0 i, x.1 i)) mine)
      (λ (x : (j ≢ number) × (get_elem? ends j ≡ some u)). others j u x.0 x.1)
      (at_set ends number j end u e)

  -- an end that may do nothing
  idle_fits : (poster taker : ℕ) (sent received : List T) (number : ℕ)
      → IsPosterOrTaker poster taker sent received number (known false false [] [])
  idle_fits poster taker sent received number = record {
    posting = λ p. absurd (true≢false (sym p));
    taking = λ p. absurd (true≢false (sym p));
  }

  -- an end that posts alone knows what was sent, and one that takes alone what was received
  pub poster_knows : (end : Known T) (sent : List T) → end ≡ known true false sent []
      → end ≡ known true false end.sent []
  poster_knows end sent is = is ∙ ap (λ (l : List T). known true false l []) (sym (ap (λ (v : Known T). v.sent) is))

  pub taker_knows : (end : Known T) (received : List T) → end ≡ known false true [] received
      → end ≡ known false true [] end.received
  taker_knows end received is =
      is ∙ ap (λ (l : List T). known false true [] l) (sym (ap (λ (v : Known T). v.received) is))

  -- so does one that takes and has received more
  pub taker_goes_on : (old new : Known T) (received : List T) → old ≡ known false true [] old.received
      → new ≡ known old.posts old.takes old.sent received → new ≡ known false true [] new.received
  taker_goes_on old new received is step =
      taker_knows new received (step ∙ ap (λ (v : Known T). known v.posts v.takes v.sent received) is)

  -- ---- the steps, each by itself

  -- the rule holds of a new queue and its one pass
  pub begins : IsInOrder {T = T} [] (known true true [] [] ∷ [])
  begins = record {
    poster = 0;
    taker = 0;
    sent = [];
    received = [];
    order = refl;
    few = omega arith;
    each = each_set (IsPosterOrTaker 0 0 [] []) (known true true [] [] ∷ []) 0 (known true true [] [])
        (record { posting = λ _. (refl, refl); taking = λ _. (refl, refl) })
        (λ j u other e. absurd (other (at_end [] _ u j (λ x. some-ne-none u (sym x)) e)));
  }

  -- a push
  pub posts : (n number : ℕ) (v : Known T) (x : T) → v.posts ≡ true → length v.sent < most_posts
      → Pushes IsInOrder n number v x (λ w. w ≡ known v.posts v.takes (v.sent ++ x ∷ []) v.received)
  posts n number v x may few items ends _ h at =
      let w : Known T = known v.posts v.takes (v.sent ++ x ∷ []) v.received in
      let mine = h.each number v at in
      let more = h.sent ++ x ∷ [] in (
        w,
        record {
          poster = h.poster;
          taker = h.taker;
          sent = more;
          received = h.received;
          order = ap (λ l. l ++ x ∷ []) h.order ∙ append_assoc h.received items (x ∷ []);
          few = let l = ap length (mine.posting may).1 in omega (arith, length-append h.sent (x ∷ []));
          each = each_set (IsPosterOrTaker h.poster h.taker more h.received) ends number w
              (record {
                posting = λ _. ((mine.posting may).0, ap (λ l. l ++ x ∷ []) (mine.posting may).1);
                taking = mine.taking;
              })
              (λ j u other e. record {
                posting = λ p. absurd (other (((h.each j u e).posting p).0 ∙ sym (mine.posting may).0));
                taking = (h.each j u e).taking;
              });
        },
        refl,
      )

  -- a pop
  pub takes : (number : ℕ) (v : Known T) → v.takes ≡ true
      → Pops IsInOrder number v (λ x w. (w ≡ known v.posts v.takes v.sent (v.received ++ x ∷ []))
      × (length v.received < most_posts))
  takes number v may x items ends h at =
      let w : Known T = known v.posts v.takes v.sent (v.received ++ x ∷ []) in
      let mine = h.each number v at in
      let more = h.received ++ x ∷ [] in (
        w,
        record {
          poster = h.poster;
          taker = h.taker;
          sent = h.sent;
          received = more;
          order = h.order ∙ sym (append_assoc h.received (x ∷ []) items);
          few = h.few;
          each = each_set (IsPosterOrTaker h.poster h.taker h.sent more) ends number w
              (record {
                posting = mine.posting;
                taking = λ _.
                    ((mine.taking may).0, ap (λ l. l ++ x ∷ []) (mine.taking may).1);
              })
              (λ j u other e. record {
                posting = (h.each j u e).posting;
                taking = λ p. absurd (other (((h.each j u e).taking p).0 ∙ sym (mine.taking may).0));
              });
        },
        (
          refl,
          (let l = ap length (mine.taking may).1 in let m = ap length h.order in let f = h.few in
              omega (arith, length-append h.received (x ∷ items))),
        ),
      )

  -- the one pass becomes a poster's and a taker's
  pub splits : (number : ℕ) (v : Known T) → v.posts ≡ true → v.takes ≡ true
      → Forks IsInOrder number v (known true false v.sent []) (known false true [] v.received)
  splits number v a b items ends h at =
      let l : Known T = known true false v.sent [] in
      let r : Known T = known false true [] v.received in
      let mine = h.each number v at in
      let rest : List (Known T) = set ends number l in
      let Old : ℕ → Known T → Type 0
      = λ j u. (u.posts ≡ true → (j ≡ h.poster) × (u.sent ≡ h.sent)) × (u.takes ≢ true) in
      let old : EachIs Old rest = each_set Old ends number l ((λ _. mine.posting a), λ p. true≢false (sym p))
      (λ j u other e. ((h.each j u e).posting, λ p. other (((h.each j u e).taking p).0 ∙ sym (mine.taking b).0))) in
      record {
        poster = h.poster;
        taker = length rest;
        sent = h.sent;
        received = h.received;
        order = h.order;
        few = h.few;
        each = λ j u e. ⊎_elim
            (λ x. record { posting = (old j u x).0; taking = λ p. absurd ((old j u x).1 p) })
            (λ (is : r ≡ u). record {
              posting = λ p. absurd (true≢false (sym (ap (λ (y : Known T). y.posts) is ∙ p)));
              taking =
                  λ p. (
                    at_end rest r u j (λ x. (old j u x).1 p) e,
                    ap (λ (y : Known T). y.received) (sym is)
                        ∙ (mine.taking b).1,
                  );
            })
            (at_snoc rest r u j e);
      }

  -- a poster's pass and a taker's become one
  pub joins : (number : ℕ) (v : Known T) (other : ℕ) (u : Known T) → v.posts ≡ true → u.takes ≡ true
      → Merges IsInOrder number v other u (known true true v.sent u.received) (known false false [] [])
  joins number v other u a b items ends h at two at' =
      let both : Known T = known true true v.sent u.received in
      let mine = h.each number v at in
      let rest : List (Known T) = set ends number both in
      let was : get_elem? ends other ≡ some u =
      ⊎_elim (λ x. absurd (two x.0)) (λ x. x.1) (at_set ends number other both u at') in
      let theirs = (h.each other u was).taking b in
      let Now : ℕ → Known T → Type 0 = λ j y. j ≢ other → IsPosterOrTaker h.poster number h.sent h.received j y in
      let now : EachIs Now rest =
      each_set Now ends number both (λ _. record { posting = λ _. mine.posting a; taking = λ _. (refl, theirs.1) })
      (λ j y _ e apart. record {
        posting = (h.each j y e).posting;
        taking = λ p. absurd (apart (((h.each j y e).taking p).0 ∙ sym theirs.0));
      }) in
      record {
        poster = h.poster;
        taker = number;
        sent = h.sent;
        received = h.received;
        order = h.order;
        few = h.few;
        each = each_set (IsPosterOrTaker h.poster number h.sent h.received) rest other (known false false [] [])
            (idle_fits h.poster number h.sent h.received other)
            (λ j y apart e. now j y e apart);
      }

  -- a look by both ends together
  pub totals : (number : ℕ) (v : Known T) → v.posts ≡ true → v.takes ≡ true
      → Learns IsInOrder number v (λ items. v.sent ≡ v.received ++ items)
  totals number v a b items ends h at =
      let mine = h.each number v at in
      (mine.posting a).1 ∙ h.order ∙ ap (λ l. l ++ items) (sym (mine.taking b).1)

-- all of them
pub ruleset steps = (begins, posts, takes, splits, joins, totals)
