-- What the reports print: the elements of a set as a list, and lines one after another.
use Rattle.std.proofs.Common.{◌≡◌, ◌⊎◌, ◌↔◌, ℕ, zero, suc, ◌+◌, ◌-◌, ◌<◌, ◌≤◌, Bool, true, false, List, [], ◌∷◌, ◌++◌, All, AllPairs, Contains, drop, get_or, length, length-drop, take, inl, inr, ⊎_elim, refl, sym, ap, ◌∙◌, subst, arith}
use Rattle.std.specs.List.{flat_map, range_with_len}
use Rattle.std.proofs.lemmas.Bool.{false≢true}
use Rattle.std.proofs.lemmas.Grind.{flat_map-append}
use Rattle.std.proofs.lemmas.List.{append-nil, append_assoc, drop_more, flat_map_more, get_or-take, take_more}
use Rattle.std.proofs.lemmas.List.Elements.{Contains-append_cases, Contains-append_right, Contains-get_or, Contains-push_cases}
use Rattle.std.proofs.lemmas.List.Kept.{AllPairs-cons}
use Rattle.nll_sets.specs.ElementSet.{flag, elements, elements_from}
use Rattle.nll_sets.specs.Runs.{no_run, numbers_in, numbers_of}
use Rattle.nll_sets.specs.declared.run.Run.{Run}
use Rattle.nll_core.specs.Values.{set_of, IsHeld}
use Rattle.nll_problem.specs.Problem.{Problem, IsSound, end_of}
use Rattle.nll_problem.specs.Faults.{AreFaults}
use Rattle.nll_problem.specs.Solution.{Least}
use Rattle.nll_format.specs.Labels.{Labels}
use Rattle.nll_answer.specs.Report.{IsElementList, IsValuesReport, value_lines}

cons_cases : (x : ℕ) (xs : List ℕ) (y : ℕ) → Contains (x ∷ xs) y → (x ≡ y) ⊎ Contains xs y
cons_cases x xs y h = ⊎_elim
    (λ here. inl (⊎_elim (λ none. absurd (omega (arith, none.1))) (λ is. is) (Contains-push_cases [] x y here)))
    inr
    (Contains-append_cases (x ∷ []) xs y h)

-- each number that is listed is the place of a flag that is set
listed_is_set : (place : ℕ) (flags : List Bool) (e : ℕ) → Contains (elements_from place flags) e
    → (i : ℕ) × (place + i ≡ e) × (get_or flags i false ≡ true)
listed_is_set place [] e h = absurd (omega (arith, h.1))
listed_is_set place (true ∷ flags) e h = ⊎_elim
    (λ is. (zero, omega (arith, is), refl))
    (λ later. let w = listed_is_set (place + 1) flags e later in (suc w.0, omega (arith, w.1), w.2))
    (cons_cases place (elements_from (place + 1) flags) e h)
listed_is_set place (false ∷ flags) e h =
    let w = listed_is_set (place + 1) flags e h in (suc w.0, omega (arith, w.1), w.2)

-- each flag that is set is listed
set_is_listed : (place : ℕ) (flags : List Bool) (i e : ℕ) → get_or flags i false ≡ true → place + i ≡ e
    → Contains (elements_from place flags) e
set_is_listed place [] i e set at = absurd (false≢true set)
set_is_listed place (true ∷ flags) zero e set at = let same : place ≡ e = omega (arith, at) in (zero, omega arith, same)
set_is_listed place (true ∷ flags) (suc i) e set at =
    Contains-append_right (place ∷ []) (elements_from (place + 1) flags) e
    (set_is_listed (place + 1) flags i e set (omega (arith, at)))
set_is_listed place (false ∷ flags) zero e set at = absurd (false≢true set)
set_is_listed place (false ∷ flags) (suc i) e set at = set_is_listed (place + 1) flags i e set (omega (arith, at))

ascend : (place : ℕ) (flags : List Bool) → AllPairs (λ d e. d < e) (elements_from place flags)
ascend place [] = λ i j d lt within. absurd (omega (arith, within))
ascend place (true ∷ flags) =
    AllPairs-cons (λ d e. d < e) place (elements_from (place + 1) flags) above (ascend (place + 1) flags)
  where
    above : All (λ e. place < e) (elements_from (place + 1) flags)
    above k d lt =
        let w = listed_is_set (place + 1) flags (get_or (elements_from (place + 1) flags) k d)
        (Contains-get_or (elements_from (place + 1) flags) k d lt) in
        omega (arith, w.1)
ascend place (false ∷ flags) = ascend (place + 1) flags

-- an element that is listed is in the set
pub element_is_held : (flags : List Bool) (e : ℕ) → Contains (elements flags) e → flag flags e ≡ true
element_is_held flags e h =
    let w = listed_is_set 0 flags e h in let at : w.0 ≡ e = omega (arith, w.1) in
    subst (λ i. flag flags i ≡ true) at w.2

-- the elements of a region's set list what the region holds
pub elements_are_listed : (values : List (List Bool)) (r : ℕ)
    → IsElementList (IsHeld values r) (elements (set_of values r))
elements_are_listed values r = record {
  each = λ e. (element_is_held (set_of values r) e, λ held. set_is_listed 0 (set_of values r) e e held (omega arith));
  ascending = ascend 0 (set_of values r);
}

range_more : (a n : ℕ) → range_with_len a (suc n) ≡ range_with_len a n ++ (a + n) ∷ []
range_more a zero = let same : a ≡ a + 0 = omega arith in ap (λ (x : ℕ). x ∷ []) same
range_more a (suc n) = let same : a + 1 + n ≡ a + suc n = omega arith in
    ap (λ xs. a ∷ xs) (range_more (a + 1) n ∙ ap (λ (x : ℕ). range_with_len (a + 1) n ++ x ∷ []) same)

-- the parts of the line of a region, one behind another
pub line_put : (out name elements a b c d e : List ℕ) → a ≡ out ++ 39 ∷ [] → b ≡ a ++ name → c ≡ b ++ 58 ∷ []
    → d ≡ c ++ elements → e ≡ d ++ 10 ∷ []
    → e ≡ out ++ ((39 ∷ name) ++ 58 ∷ [] ++ elements ++ 10 ∷ [])
line_put out name elements a b c d e quote named colon printed ended =
    simp (append_assoc, ended, printed, colon, named, quote)

-- a sign in front of digits that end a row of the same signs
pub signed : (sign start : ℕ) (row new digits : List ℕ) → 0 < start → 0 < length digits
    → get_or row (start - 1) 0 ≡ sign
    → take start new ≡ take start row → drop start new ≡ digits → drop (start - 1) new ≡ sign ∷ digits
signed sign start row new digits some long is front back =
    let next : start - 1 + 1 ≡ start = omega (arith, some) in
    let before : start - 1 < start = omega (arith, some) in
    let within : start - 1 < length new = omega (arith, long, some, ap length back, length-drop start new) in
    drop_more new (start - 1) 0 within
    ∙ ap (λ (x : ℕ). x ∷ drop (start - 1 + 1) new)
    (sym (get_or-take start new (start - 1) 0 before) ∙ ap (λ xs. get_or xs (start - 1) 0) front
    ∙ get_or-take start row (start - 1) 0 before ∙ is)
    ∙ ap (λ (xs : List ℕ). sign ∷ xs) (ap (λ n. drop n new) next ∙ back)

-- what is printed of a run, with one number more
pub run_more : (print : ℕ → List ℕ) (first number : ℕ) (old now new : List ℕ) → first ≤ number
    → now ≡ old ++ flat_map print (range_with_len first (number - first)) → new ≡ now ++ print number
    → new ≡ old ++ flat_map print (range_with_len first (number + 1 - first))
run_more print first number old now new low printed more =
    let n : ℕ = number - first in
    let on : suc n ≡ number + 1 - first = omega (arith, low) in
    let last : first + n ≡ number = omega (arith, low) in
    more ∙ ap (λ xs. xs ++ print number) printed ∙ flat_map_more print old (range_with_len first n) number
    ∙ ap (λ (xs : List ℕ). old ++ flat_map print xs)
    (ap (λ (k : ℕ). range_with_len first n ++ k ∷ []) (sym last) ∙ sym (range_more first n)
    ∙ ap (range_with_len first) on)

-- what is printed of runs, with one run more
pub runs_more : (print : ℕ → List ℕ) (runs : List Run) (k : ℕ) (old now new : List ℕ) → k < length runs
    → now ≡ old ++ flat_map print (numbers_in (take k runs))
    → new ≡ now ++ flat_map print (numbers_of (get_or runs k no_run))
    → new ≡ old ++ flat_map print (numbers_in (take (k + 1) runs))
runs_more print runs k old now new within printed more =
    let run = get_or runs k no_run in
    let front = numbers_in (take k runs) in
    let all : numbers_in (take (k + 1) runs) ≡ front ++ numbers_of run = ap numbers_in (take_more runs k no_run within)
    ∙ flat_map-append numbers_of (take k runs) (run ∷ [])
    ∙ ap (λ (xs : List ℕ). front ++ xs) (append-nil (numbers_of run)) in
    more ∙ ap (λ (xs : List ℕ). xs ++ flat_map print (numbers_of run)) printed
    ∙ append_assoc old (flat_map print front) (flat_map print (numbers_of run))
    ∙ ap (λ (xs : List ℕ). old ++ xs) (sym (flat_map-append print front (numbers_of run))
    ∙ ap (flat_map print) (sym all))

-- one line more
pub lines_more : (line : ℕ → List ℕ) (n : ℕ)
    → flat_map line (range_with_len 0 (n + 1)) ≡ flat_map line (range_with_len 0 n) ++ line n
lines_more line n =
    let on : n + 1 ≡ suc n = omega arith in
    let here : 0 + n ≡ n = omega arith in
    ap (λ k. flat_map line (range_with_len 0 k)) on
    ∙ ap (flat_map line) (range_more 0 n ∙ ap (λ (k : ℕ). range_with_len 0 n ++ k ∷ []) here)
    ∙ flat_map-append line (range_with_len 0 n) (n ∷ [])
    ∙ ap (λ last. flat_map line (range_with_len 0 n) ++ last) (append-nil (line n))

-- a report of values is one of any values that hold the same
pub report_carries : (q : Problem) (labels : Labels) (old new : ℕ → ℕ → Type 0) → ((r e : ℕ) → old r e ↔ new r e)
    → (text : List ℕ) → IsValuesReport q labels old text → IsValuesReport q labels new text
report_carries q labels old new same text report = record {
  elements = report.elements;
  listed = λ r within. record {
    each = λ e. (
      λ h. (same r e).0 (((report.listed r within).each e).0 h),
      λ h. ((report.listed r within).each e).1 ((same r e).1 h),
    );
    ascending = (report.listed r within).ascending;
  };
  printed = report.printed;
}

-- faults of values are those of any values that hold the same
pub faults_carry : (q : Problem) (old new : ℕ → ℕ → Type 0) → ((r e : ℕ) → old r e ↔ new r e) → (faults : List (ℕ × ℕ))
    → AreFaults q old faults → AreFaults q new faults
faults_carry q old new same faults are = record {
  each = λ a b. (
    λ h. let f = (are.each a b).0 h in (f.0, f.1, (same a (end_of q b)).0 f.2, f.3),
    λ f. (are.each a b).1 (f.0, f.1, (same a (end_of q b)).1 f.2, f.3),
  );
  ordered = are.ordered;
}

-- the regions of a fault are regions of the problem
pub faults_within : (q : Problem) → IsSound q → (values : ℕ → ℕ → Type 0) (faults : List (ℕ × ℕ))
    → AreFaults q values faults
    → (k : ℕ) (d : ℕ × ℕ) → k < length faults
    → ((get_or faults k d).0 < q.regions) × ((get_or faults k d).1 < q.regions)
faults_within q sound values faults are k d lt =
    let fault = get_or faults k d in
    let f = (are.each fault.0 fault.1).0 (Contains-get_or faults k d lt) in
    (omega (arith, f.0, sound.universals_are_regions), omega (arith, f.1, sound.universals_are_regions))

-- so they have names
pub faults_named : (q : Problem) (names : ℕ) (faults : List (ℕ × ℕ)) → q.regions ≡ names → IsSound q
    → AreFaults q (Least q) faults → All (λ fault. (fault.0 < names) × (fault.1 < names)) faults
faults_named q names faults named sound are =
    subst (λ n. All (λ fault. (fault.0 < n) × (fault.1 < n)) faults) named (faults_within q sound _ faults are)

-- the lines of the values that are handed in are their report
pub lines_report : (q : Problem) (labels : Labels) (values : List (List Bool)) (points regions : ℕ)
    → points ≡ q.graph.points → regions ≡ q.regions
    → (text : List ℕ) → text ≡ value_lines points regions labels (λ r. elements (set_of values r))
    → IsValuesReport q labels (IsHeld values) text
lines_report q labels values points regions of_points of_regions text printed = record {
  elements = λ r. elements (set_of values r);
  listed = λ r within. elements_are_listed values r;
  printed = printed
      ∙ ap (λ n. value_lines n regions labels (λ r. elements (set_of values r))) of_points
      ∙ ap (λ n. value_lines q.graph.points n labels (λ r. elements (set_of values r))) of_regions;
}
