-- Owners as parts of the analysis of regions, and what logs say in its words.
use Rattle.std.proofs.Common.{◌≡◌, ◌↔◌, ℕ, Bool, List, Contains, IsTrue, Result, Ok, Err, OnOk, refl, ap, ◌∙◌, subst, inl, inr, ⊎_elim, arith}
use Rattle.fixpoint.specs.Rules as generic
use Rattle.fixpoint.specs.Logs as logs
use Rattle.fixpoint.specs.State as state
use Rattle.fixpoint.proofs.LogLemmas.{tells_from, before_from, before_to}
use Rattle.nll_problem.specs.Problem.{Problem}
use Rattle.nll_problem.specs.Solution.{IsAskedIn, Least}
use Rattle.nll_problem.specs.declared.constraint.Constraint.{Constraint}
use Rattle.nll_problem.proofs.AskLemmas.{asked_weaker}
use Rattle.nll_cut.specs.Partition.{Cut, owner_of}
use Rattle.nll_mail.specs.declared.growth.Growth.{Growth}
use Rattle.nll_owner.specs.Logs.{IsTold, IsToldBefore, IsCalledFor, IsWellFormedLog, IsWellSupported, IsSaturated, list_of, log_of, AreSoundLogs, AreSettled}
use Rattle.nll_owner.specs.Owner.{Owner, IsSoundOwner, IsDone, Passes, list_in}
use Rattle.nll_owner.specs.Regions.{System, system_of, fact_of, rules, part_of, IsValid}
use Rattle.nll_owner.specs.RegionsLawful.{one, read_region, regions_lawful}
use Rattle.nll_owner.specs.declared.fact.Fact.{Fact}
use Rattle.nll_owner.proofs.FollowingLemmas.{own_region}
use Rattle.nll_owner.proofs.OwnerLemmas.{pair_small}

-- ---- the least solution

pub same_least : (a : System) (r e : ℕ) → generic.IsLeast rules a (fact_of r e) ↔ Least a.problem r e
same_least a r e = (
  λ l assignment s. l (λ (f : Fact). assignment f.region f.element) (λ f h. ⊎_elim
      (λ b. s.base f.region f.element b)
      (λ (w : (k : Constraint) × Contains a.problem.constraints k × (k.sup ≡ f.region)
      × IsAskedIn a.problem.graph (λ x. IsTrue (assignment k.sub x)) k.at f.element).
      subst (λ x. IsTrue (assignment x f.element)) w.2 (s.each w.0 w.1 f.element w.3))
      h),
  λ l known closed. l (λ s f. known (fact_of s f)) (record {
    base = λ s f b. closed (fact_of s f) (inl b);
    each = λ k there f asks. closed (fact_of k.sup f) (inr (k, there, refl, asks));
  }),
)

-- ---- what lists tell

pub told_to : (list : List Growth) (r e : ℕ) → IsTold list r e → logs.IsTold rules list (fact_of r e)
told_to list r e t = (t.0, t.1, one (fact_of t.0.region t.0.element) (fact_of r e) t.2 t.3)

pub told_from : (list : List Growth) (r e : ℕ) → logs.IsTold rules list (fact_of r e) → IsTold list r e
told_from list r e t = (t.0, t.1, ap (λ (x : Fact). x.region) t.2, ap (λ (x : Fact). x.element) t.2)

sooner_to : (rank : ℕ) (list : List Growth) (r e : ℕ) → IsToldBefore rank list r e
    → IsTrue (logs.tells_before rules rank list (fact_of r e))
sooner_to rank list r e t =
    before_to rules regions_lawful.same_tells rank list (fact_of r e) t.0 t.1
    (one (fact_of t.0.region t.0.element) (fact_of r e) t.2 t.3) t.4

sooner_from : (rank : ℕ) (list : List Growth) (r e : ℕ) → IsTrue (logs.tells_before rules rank list (fact_of r e))
    → IsToldBefore rank list r e
sooner_from rank list r e h =
    let t = before_from rules regions_lawful.same_tells rank list (fact_of r e) h in
    (t.0, t.1, ap (λ (x : Fact). x.region) t.2, ap (λ (x : Fact). x.element) t.2, t.3)

-- ---- what is called for

module _ (q : Problem) (c : Cut) where
  abbrev a : System
  a = system_of q c

  pub called_to : (known : ℕ → ℕ → Type 0) (more : Fact → Bool)
      → ((r e : ℕ) → known r e → IsTrue (more (fact_of r e))) → (r e : ℕ) → IsCalledFor q known r e
      → rules.derives a more (fact_of r e)
  called_to known more each r e h = grind (arith, asked_weaker)

  pub called_from : (known : Fact → Bool) (more : ℕ → ℕ → Type 0)
      → ((r e : ℕ) → IsTrue (known (fact_of r e)) → more r e) → (r e : ℕ) → rules.derives a known (fact_of r e)
      → IsCalledFor q more r e
  called_from known more each r e h = grind (arith, asked_weaker)

  -- ---- one log

  pub formed_to : (i : ℕ) (log : List Growth) → IsWellFormedLog c i log → logs.IsLogOf rules a i log
  formed_to i log h = grind arith

  pub formed_from : (i : ℕ) (log : List Growth) → logs.IsLogOf rules a i log → IsWellFormedLog c i log
  formed_from i log h = grind arith

  pub supported_to : (list : ℕ → List Growth) (log : List Growth) → IsWellSupported q list log
      → logs.IsWellSupported rules a (λ f. list f.region) log
  supported_to list log h g at =
      called_to _ (λ f. logs.tells_before rules g.rank (list f.region) f)
      (λ r e t. sooner_to g.rank (list r) r e t) g.region g.element (h g at)

  pub supported_from : (list : ℕ → List Growth) (log : List Growth)
      → logs.IsWellSupported rules a (λ f. list f.region) log → IsWellSupported q list log
  supported_from list log h g at =
      called_from (λ f. logs.tells_before rules g.rank (list f.region) f) _
      (λ r e t. sooner_from g.rank (list r) r e t) g.region g.element (h g at)

  pub saturated_to : (i : ℕ) (list : ℕ → List Growth) → IsSaturated q c i list
      → logs.IsSaturated rules a i (λ f. list f.region)
  saturated_to i list h f own follows = told_to (list f.region) f.region f.element (⊎_elim
      (λ b. h.base f.region f.element own b)
      (λ (w : (k : Constraint) × Contains q.constraints k × (k.sup ≡ f.region)
      × IsAskedIn q.graph (IsTold (list k.sub) k.sub) k.at f.element).
      subst (λ r. IsTold (list r) r f.element) w.2
      (h.each w.0 w.1 (ap (owner_of c) w.2 ∙ own) f.element w.3))
      (called_from (λ g. logs.tells rules (list g.region) g) (λ r e. IsTold (list r) r e)
      (λ r e t. told_from (list r) r e (tells_from rules regions_lawful.same_tells (list r) (fact_of r e) t))
      f.region f.element follows))

  -- ---- all logs

  pub sound_to : (all : List (List Growth)) (received : ℕ → ℕ → List Growth) → AreSoundLogs q c all received
      → logs.AreSound rules a all received
  sound_to all received h = record {
    counted = h.counted;
    well_formed = λ i l. formed_to i (log_of all i) (h.well_formed i l);
    supported =
        λ i l. supported_to (list_of c i (log_of all i) (received i)) (log_of all i) (h.supported i l);
    heard = h.heard;
  }

  pub sound_from : (all : List (List Growth)) (received : ℕ → ℕ → List Growth) → logs.AreSound rules a all received
      → AreSoundLogs q c all received
  sound_from all received h = record {
    counted = h.counted;
    well_formed = λ i l. formed_from i (log_of all i) (h.well_formed i l);
    supported =
        λ i l. supported_from (list_of c i (log_of all i) (received i)) (log_of all i) (h.supported i l);
    heard = h.heard;
  }

  pub settled_to : (all : List (List Growth)) (received : ℕ → ℕ → List Growth) → AreSettled q c all received
      → logs.AreSettled rules a all received
  settled_to all received h = record {
    saturated = λ i l. saturated_to i (list_of c i (log_of all i) (received i)) (h.saturated i l);
    told = h.told;
  }

  -- ---- what is received

  pub passes_to : IsValid a → (i j : ℕ) (g : Growth) → Passes q c i j g → state.Passes rules a i j g
  passes_to ok i j g h = record {
    sender = h.sender;
    read = h.read;
    proper = (read_region a ok i 0 (fact_of g.region g.element) h.read, h.element);
    rank = h.rank;
  }

  pub passes_from : (i j : ℕ) (g : Growth) → state.Passes rules a i j g → Passes q c i j g
  passes_from i j g h = record { sender = h.sender; read = h.read; element = h.proper.1; rank = h.rank }

-- ---- an owner

pub part_sound : (o : Owner) → IsSoundOwner o → state.IsSoundPart rules (part_of o)
part_sound o s = record {
  valid = (s.problem, s.cut);
  me = s.me;
  well_formed = formed_to o.problem o.cut o.me o.log s.well_formed;
  supported = supported_to o.problem o.cut (list_in o) o.log s.supported;
  proper = λ g at. (own_region o s g.region (s.well_formed.own g at), s.elements g at);
  few = omega (arith, s.few, pair_small o.problem s.problem);
  senders = s.senders;
  heard = s.heard;
  steps = s.steps;
  receivers = s.receivers;
  given = s.given;
}

pub part_done : (o : Owner) → IsDone o → state.IsDone rules (part_of o)
part_done o h = saturated_to o.problem o.cut o.me (list_in o) h

-- what holds where a call was Ok goes over to what follows from it
pub on_ok : {T E : Type 0} {P Q : Type 0} (r : Result T E) → (P → Q) → OnOk r P → OnOk r Q
on_ok (Ok x) f h = f h
on_ok (Err e) f h = h
