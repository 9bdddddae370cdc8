-- What sound and settled owners say.
use Rattle.std.proofs.Common.{◌≡◌, ◌↔◌, ℕ, zero, suc, ◌<◌, ◌≤◌, Bool, true, List, [], Contains, IsTrue, refl, sym, ap, ◌∙◌, subst, ⊎_elim, arith}
use Rattle.std.proofs.lemmas.Bool.{cases_eq, cases_lt}
use Rattle.std.proofs.lemmas.List.{get_or_past}
use Rattle.fixpoint.specs.Rules.{Rules, Sees, AreLawful, IsClosed, IsLeast}
use Rattle.fixpoint.specs.Logs.{IsTold, list_of, tells, tells_before, log_of, AreSound, AreSettled}
use Rattle.fixpoint.proofs.ListLemmas.{filter_to}
use Rattle.fixpoint.proofs.LogLemmas.{list_own, list_other, tells_from, tells_to, before_from}

module _ {A F G : Type 0} (rules : Rules A F G) (lawful : AreLawful rules) (a : A)
    (ok : rules.valid a) (logs : List (List G)) (received : ℕ → ℕ → List G)
    (sound : AreSound rules a logs received) where
  abbrev list : ℕ → F → List G
  list i f = list_of rules a i (log_of logs i) (received i) f

  -- the owner of a fact that owner i sees is an owner
  seen_owned : (i : ℕ) (f : F) → i < rules.parts a → Sees rules a i f → rules.owner a f < rules.parts a
  seen_owned i f li s = ⊎_elim (λ (own : rules.owner a f ≡ i). subst (λ n. n < rules.parts a) (sym own) li)
      (λ (read : rules.reads a i f ≡ true). (lawful.others a ok i f read).0) s

  -- what an owner's list has of a fact that it sees stands in the log of the fact's owner
  from_list : (i : ℕ) (f : F) (g : G) → i < rules.parts a → Sees rules a i f → Contains (list i f) g
      → Contains (log_of logs (rules.owner a f)) g
  from_list i f g li s at = ⊎_elim
      (λ same. subst (λ xs. Contains xs g)
      (list_own rules a i (log_of logs i) (received i) f same ∙ ap (log_of logs) (sym same)) at)
      (λ other. sound.heard i (rules.owner a f) li (seen_owned i f li s) (λ x. other (sym x)) g
      (subst (λ xs. Contains xs g) (list_other rules a i (log_of logs i) (received i) f other) at))
      (cases_eq (rules.owner a f) i)

  -- P holds of what follows from facts of which it holds
  abbrev pub IsKept : (F → Type 0) → Type 0
  IsKept P =
      (known : F → Bool) (f : F) → rules.derives a known f
      → ((g : F) → Sees rules a (rules.owner a f) g → IsTrue (known g) → P g) → P f

  -- P holds of each growth with a rank below n
  below : (P : F → Type 0) → IsKept P → (n i : ℕ) (g : G) → i < rules.parts a
      → Contains (log_of logs i) g → rules.rank g < n → P (rules.fact g)
  below P kept zero i g li at lt = absurd (omega arith)
  below P kept (suc n) i g li at lt =
      kept (λ f. tells_before rules (rules.rank g) (list i f) f) (rules.fact g) (sound.supported i li g at)
      (λ f sees t.
      let mine : Sees rules a i f = subst (λ k. Sees rules a k f) ((sound.well_formed i li).own g at) sees in
      let u = before_from rules lawful.same_tells (rules.rank g) (list i f) f t in
      let lower : (rules.rank u.0) < n = (let x = u.3 in omega (arith, x, lt)) in
      subst P u.2
      (below P kept n (rules.owner a f) u.0 (seen_owned i f li mine) (from_list i f u.0 li mine u.1) lower))

  -- what is kept by each step holds of each growth
  pub each_holds : (P : F → Type 0) → IsKept P → (i : ℕ) (g : G) → i < rules.parts a
      → Contains (log_of logs i) g → P (rules.fact g)
  each_holds P kept i g li at = below P kept (suc (rules.rank g)) i g li at (omega arith)

  pub each_least : (i : ℕ) (g : G) → i < rules.parts a → Contains (log_of logs i) g → IsLeast rules a (rules.fact g)
  each_least i g li at more closed = each_holds (λ f. IsTrue (more f))
      (λ known f follows each. closed f (lawful.local a ok known more f each follows)) i g li at

  pub in_range : (f : F) → IsTold rules (log_of logs (rules.owner a f)) f → rules.owner a f < rules.parts a
  in_range f h = ⊎_elim
      (λ below. below)
      (λ past.
      let none : log_of logs (rules.owner a f) ≡ [] =
      get_or_past logs (rules.owner a f) [] (subst (λ n. n ≤ rules.owner a f) (sym sound.counted) past) in
      absurd (let l = (subst (λ xs. IsTold rules xs f) none h).1.1 in omega arith))
      (cases_lt (rules.owner a f) (rules.parts a))

  module _ (settled : AreSettled rules a logs received) where
    abbrev value : F → Bool
    value f = tells rules (log_of logs (rules.owner a f)) f

    -- what the log of a fact's owner tells, the list of each owner that sees the fact tells
    to_list : (i : ℕ) (f : F) → i < rules.parts a → Sees rules a i f
        → IsTold rules (log_of logs (rules.owner a f)) f → IsTold rules (list i f) f
    to_list i f li s h = ⊎_elim
        (λ same. subst (λ xs. IsTold rules xs f)
        (ap (log_of logs) same ∙ sym (list_own rules a i (log_of logs i) (received i) f same)) h)
        (λ other.
        let read : rules.reads a i f ≡ true = ⊎_elim (λ (own : rules.owner a f ≡ i). absurd (other own)) (λ r. r) s in
        let told = settled.told i (rules.owner a f) li (seen_owned i f li s) (λ x. other (sym x)) in
        let there = filter_to (λ (g : G). rules.reads a i (rules.fact g)) (log_of logs (rules.owner a f)) h.0 h.1
        (subst (λ x. rules.reads a i x ≡ true) (sym h.2) read) in
        subst (λ xs. IsTold rules xs f) (sym (list_other rules a i (log_of logs i) (received i) f other ∙ told))
        (h.0, there, h.2))
        (cases_eq (rules.owner a f) i)

    closed : IsClosed rules a value
    closed f h =
        let i = rules.owner a f in
        let li = lawful.owned a ok value f h in
        let mine = lawful.local a ok value (λ g. tells rules (list i g) g) f
        (λ g sees t. tells_to rules lawful.same_tells (list i g) g
        (to_list i g li sees (tells_from rules lawful.same_tells (log_of logs (rules.owner a g)) g t))) h in
        tells_to rules lawful.same_tells (log_of logs i) f
        (subst (λ xs. IsTold rules xs f) (list_own rules a i (log_of logs i) (received i) f refl)
        ((settled.saturated i li) f refl mine))

    pub least_exact : (f : F) → IsTold rules (log_of logs (rules.owner a f)) f ↔ IsLeast rules a f
    least_exact f = (
      λ h. subst (λ x. IsLeast rules a x) h.2 (each_least (rules.owner a f) h.0 (in_range f h) h.1),
      λ l. tells_from rules lawful.same_tells (log_of logs (rules.owner a f)) f (l value closed),
    )
