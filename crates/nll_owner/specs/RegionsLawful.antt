-- The rules of regions keep the laws: a proof, in which nothing has to be believed. It stands here
-- since `ghost lawful` takes nothing from the `proofs/` of its own crate.
use Rattle.std.proofs.Common.{◌≡◌, ◌≢◌, ℕ, ◌+◌, ◌*◌, ◌<◌, ◌≤◌, true, eqb, List, length, map, Contains, AllPairs, IsTrue, get_or, refl, sym, ap, ◌∙◌, subst, inl, inr, ⊎_elim, arith}
use Rattle.std.proofs.lemmas.Bool.{eqb-true, eq-eqb, cases_eq}
use Rattle.std.proofs.lemmas.List.{get_or-map, length-map}
use Rattle.std.proofs.lemmas.List.Elements.{Contains-get_or}
use Rattle.std.proofs.lemmas.Map.Made.{IsDistinct-from_AllPairs}
use Rattle.std.proofs.lemmas.Map.Steps.{length-le_from_distinct_below}
use Rattle.std.proofs.lemmas.Map.Views.{Contains-from_any}
use Rattle.fixpoint.specs.Rules.{Sees, AreLawful, AreDifferent}
use Rattle.fixpoint.proofs.ListLemmas.{both, and_both}
use Rattle.nll_problem.specs.Problem.{IsBase}
use Rattle.nll_problem.specs.Solution.{IsAskedIn}
use Rattle.nll_problem.specs.declared.constraint.Constraint.{Constraint}
use Rattle.nll_problem.proofs.AskLemmas.{asked_weaker}
use Rattle.nll_cut.specs.Partition.{owner_of}
use Rattle.nll_cut.proofs.ReadLemmas.{reads_tells}
use Rattle.nll_owner.specs.Regions.{System, IsValid, fact_of, rules}
use Rattle.nll_owner.specs.declared.fact.Fact.{Fact}

-- facts of the same region and element are equal
pub one : (f g : Fact) → f.region ≡ g.region → f.element ≡ g.element → f ≡ g
one f g p q i = record { region = p i; element = q i }

-- the owner of a region that a constraint fills sees the region that it reads
sees : (a : System) (k : Constraint) (e : ℕ) → Contains a.problem.constraints k
    → Sees rules a (owner_of a.cut k.sup) (fact_of k.sub e)
sees a k e there = ⊎_elim
    inl
    (λ other. inr ((reads_tells a.problem a.cut (owner_of a.cut k.sup) k.sub).1
    (other, (k, there, refl, refl))))
    (cases_eq (owner_of a.cut k.sub) (owner_of a.cut k.sup))

owned_region : (a : System) → IsValid a → (r : ℕ) → r < a.problem.regions
    → owner_of a.cut r < a.cut.owners
owned_region a ok r low = ok.1.cut.owned r (subst (λ n. r < n) (sym ok.1.regions) low)

base_region : (a : System) → IsValid a → (r e : ℕ) → IsBase a.problem r e → r < a.problem.regions
base_region a ok r e b = ⊎_elim
    (λ h. (ok.0.bases_in_range r e h).0)
    (λ h. (let u = ok.0.universals_are_regions in let v = h.0 in omega (arith, u, v)))
    b

-- a region that an owner reads is one of the problem
pub read_region : (a : System) → IsValid a → (i r : ℕ) (f : Fact) → rules.reads a i f ≡ true
    → f.region < a.problem.regions
read_region a ok i r f read =
    let t = (reads_tells a.problem a.cut i f.region).0 read in
    subst (λ r. r < a.problem.regions) t.1.3 (ok.0.constraint_regions t.1.0 t.1.1).1

-- ---- there are not too many facts

-- the number of a fact
abbrev number : Fact → ℕ
number f = f.region * 1048832 + f.element

abbrev number_count : ℕ
number_count = 68736253952

proper_low : (a : System) → IsValid a → (f : Fact) → rules.proper a f
    → (f.region < 65536) × (f.element < 1048832)
proper_low a ok f proper = (
  omega (arith, proper.0, ok.0.region_limit),
  omega (arith, proper.1, ok.0.graph.point_limit, ok.0.graph.universal_limit),
)

number_tells : (f g : Fact) → f.element < 1048832 → g.element < 1048832
    → number f ≡ number g → f ≡ g
number_tells f g low low' same =
    let region : f.region ≡ g.region = omega (arith, low, low', same) in
    one f g region (omega (arith, region, same))

few_facts : (a : System) → IsValid a → (facts : List Fact) → AreDifferent rules a facts
    → length facts ≤ number_count
few_facts a ok facts different =
    subst (λ n. n ≤ number_count) (length-map facts number)
    (length-le_from_distinct_below (map number facts) number_count
    (IsDistinct-from_AllPairs (λ m n. (eqb-true m n, eq-eqb m n)) (map number facts) differ)
    (λ n h. each n (Contains-from_any eqb-true n (map number facts) h)))
  where
    first : Fact
    first = fact_of 0 0

    low_at : (k : ℕ) → k < length facts
        → ((get_or facts k first).region < 65536) × ((get_or facts k first).element < 1048832)
    low_at k l = proper_low a ok (get_or facts k first)
        (different.each (get_or facts k first) (Contains-get_or facts k first l))

    differ : AllPairs (λ m n. m ≢ n) (map number facts)
    differ i j d before inside same =
        let lj : j < length facts = omega (arith, inside, length-map facts number) in
        let li : i < length facts = omega (arith, before, lj) in
        different.once i j first before lj
        (number_tells (get_or facts i first) (get_or facts j first) (low_at i li).1 (low_at j lj).1
        (sym (get_or-map number facts i first d li)
        ∙ (same ∙ get_or-map number facts j first d lj)))

    each : (n : ℕ) → Contains (map number facts) n → n < number_count
    each n (k, inside, is) =
        let l : k < length facts = omega (arith, inside, length-map facts number) in
        let low = low_at k l in
        let at : number (get_or facts k first) < number_count = omega (arith, low.0, low.1) in
        subst (λ m. m < number_count) (sym (get_or-map number facts k first n l) ∙ is) at

pub regions_lawful : AreLawful rules
regions_lawful = record {
  local = λ a ok known more f each h. ⊎_elim
      inl
      (λ (w : (k : Constraint) × Contains a.problem.constraints k × (k.sup ≡ f.region)
      × IsAskedIn a.problem.graph (λ e. IsTrue (known (fact_of k.sub e))) k.at f.element).
      inr (
        w.0,
        w.1,
        w.2,
        asked_weaker a.problem.graph _ w.0.at (λ e. IsTrue (more (fact_of w.0.sub e)))
            (λ e t. each (fact_of w.0.sub e)
            (subst (λ r. Sees rules a (owner_of a.cut r) (fact_of w.0.sub e)) w.2
            (sees a w.0 e w.1)) t)
            f.element w.3,
      ))
      h;
  owned = λ a ok known f h. ⊎_elim
      (λ b. owned_region a ok f.region (base_region a ok f.region f.element b))
      (λ (w : (k : Constraint) × Contains a.problem.constraints k × (k.sup ≡ f.region)
      × IsAskedIn a.problem.graph (λ e. IsTrue (known (fact_of k.sub e))) k.at f.element).
      owned_region a ok f.region
      (subst (λ r. r < a.problem.regions) w.2 (ok.0.constraint_regions w.0 w.1).0))
      h;
  others = λ a ok i f read.
      let t = (reads_tells a.problem a.cut i f.region).0 read in
      (owned_region a ok f.region (read_region a ok i 0 f read), t.0);
  few = λ a ok. (ok.1.cut.some_owner, ok.1.cut.owner_limit);
  few_facts = λ a ok facts different. (let l = few_facts a ok facts different in omega (arith, l));
  same_tells = λ f g. (
    (λ h. let b = both (eqb f.region g.region) (eqb f.element g.element) h in
        one f g (eqb-true _ _ b.0) (eqb-true _ _ b.1)),
    (λ is. and_both _ _ (eq-eqb _ _ (ap (λ (x : Fact). x.region) is))
        (eq-eqb _ _ (ap (λ (x : Fact). x.element) is))),
  );
}
