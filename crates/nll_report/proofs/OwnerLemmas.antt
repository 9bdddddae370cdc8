-- Which cut is asked for, and what is told where there is none.
use Rattle.std.proofs.Common.{◌≡◌, ◌⊎◌, ℕ, ◌<◌, ◌≤◌, Bool, true, false, not, eqb, leb, ltb, List, Option, None, Some, Result, Ok, Err, IfOk, IfErr, IfSome, length, inl, inr, ⊎_elim, refl, sym, ap, ◌∙◌, subst}
use Rattle.std.specs.Prelude.{IsErrAnd, nat_le, if◌then◌else◌}
use Rattle.std.specs.List.{position}
use Rattle.std.proofs.lemmas.Bool.{eqb-true, lt-ltb, le-leb, and_from}
use Rattle.std.proofs.lemmas.Option.{none-some}
use Rattle.nll_problem.specs.Limits.{most_owners}
use Rattle.nll_problem.specs.Problem.{Problem}
use Rattle.nll_format.specs.Labels.{Labels}
use Rattle.nll_cut.specs.Partition.{AnswersCut, Cut, cut_of, list_error, may_be_count, stranger_error}
use Rattle.nll_cut.specs.declared.error.CutError.{CutError}
use Rattle.nll_cut.specs.declared.error.CutError.TheVariants as due
use Rattle.run.specs.declared.error.RunError.TheVariants as run
use Rattle.nll_answer.specs.Running.{IsRunAnswer, IsRunError}
use Rattle.nll_answer.specs.declared.answers.Command.{Command}
use Rattle.nll_answer.specs.declared.error.AnswerError.{AnswerError}
use Rattle.nll_answer.specs.declared.error.AnswerError.TheVariants as answer
use Rattle.nll_command_line.specs.Options.{SaidOptions}
use Rattle.nll_command_line.specs.declared.options.Deal.{Deal}
use Rattle.nll_report.specs.Owners.{AsksForOwners, IsAskedCut, IsFileTold, IsOwnersRefused, IsWorkRefused, count_of, deal_of}
use Rattle.nll_report.specs.Run.{AreOwnersRefused, IsAskedAnswer, IsFileRefused}
use Rattle.nll_report.specs.Refusal.{IsCutRefusal, refusal_of}
use Rattle.nll_report.specs.Texts.{HoldsAt, Lacks}
use Rattle.nll_report.specs.declared.messages.Refusal.{Refusal}
use Rattle.nll_report.specs.declared.messages.Refusal.TheVariants.{Memory}

-- ---- so many owners as there may be

pub may_be : (count : ℕ) → 0 < count → count ≤ most_owners → may_be_count count ≡ true
may_be count some few =
    and_from (ltb 0 count) (leb count most_owners) (lt-ltb 0 count some) (le-leb count most_owners few)

by_list : (regions count : ℕ) (list : List ℕ) → may_be_count count ≡ true
    → list_error regions count list ≡ (if not (eqb (length list) regions) then Some due.Length else stranger_error
    (position (nat_le count) list))
by_list regions count list may =
    ap (λ b. if not b then Some due.Owners else if not (eqb (length list) regions) then Some due.Length
    else stranger_error (position (nat_le count) list)) may

size_by : (same : Bool) (found : Option ℕ) → (if not same then Some due.Length else stranger_error found) ≡ None
    → same ≡ true
size_by true found e = refl
size_by false found e = absurd (none-some due.Length (sym e))

-- a list that is taken has an owner for each region
pub listed_ok : (regions count : ℕ) (list : List ℕ) (r : Result Cut CutError) → may_be_count count ≡ true
    → AnswersCut (list_error regions count list) r
    → IfOk r (λ c. c ≡ cut_of count list)
    → IfOk r (λ c. (list_error regions count list ≡ None) × (c ≡ cut_of count list) × (length c.list ≡ regions))
listed_ok regions count list (Ok c) may none is = (
  none,
  is,
  ap (λ (x : Cut). length x.list) is ∙ eqb-true (length list) regions
      (size_by (eqb (length list) regions) (position (nat_le count) list)
      (sym (by_list regions count list may) ∙ none)),
)
listed_ok regions count list (Err e) may none is = tt

-- ---- what is made of a cut, and of why there is none

module _ {T : Type 0} (made : Result T CutError) (r : Result T Refusal) (ok : IfOk made (λ value. r ≡ Ok value))
    (err : IfErr made (λ e. IsErrAnd r (IsCutRefusal e))) where
  pub taken_ok : (P : T → Type 0) → IfOk made P → IfOk r P
  taken_ok P h = at made r ok err h
    where
      at : (made : Result T CutError) (r : Result T Refusal) → IfOk made (λ value. r ≡ Ok value)
          → IfErr made (λ e. IsErrAnd r (IsCutRefusal e)) → IfOk made P → IfOk r P
      at (Ok value) r ok err h = subst (λ x. IfOk x P) (sym ok) h
      at (Err e) (Ok value) ok err h = absurd err
      at (Err e) (Err f) ok err h = tt

-- ---- the file of a cut

abbrev pub is_wanting : Refusal → Bool
is_wanting Memory = true
is_wanting other = false

-- ---- owners at work

-- and so is why a run by the cut that is asked for is refused
module _ (holds : HoldsAt) (lacks : Lacks) (q : Problem) (count : ℕ) (how : Deal) (path : Option (List ℕ)) (c : Cut)
    (asked : IsAskedCut holds q.regions count how path c) where
  told_as_run : (e : AnswerError) → IsRunError e → IsWorkRefused holds lacks q count how path (refusal_of e)
  told_as_run (answer.Text error) h = absurd h
  told_as_run (answer.Rule error) h = absurd h
  told_as_run (answer.Run run.Thread) h = (c, asked)
  told_as_run (answer.Run run.Memory) h = absurd h
  told_as_run answer.Memory h = tt

  pub run_told : (e : AnswerError) (refusal : Refusal) → refusal ≡ refusal_of e → IsRunError e
      → IsWorkRefused holds lacks q count how path refusal
  run_told e refusal is h = subst (IsWorkRefused holds lacks q count how path) (sym is) (told_as_run e h)

-- ---- what a line asks for

pub may_be_asked : (count : Option ℕ) (n : ℕ) → IfSome count (λ n. (0 < n) × (n ≤ most_owners)) → n ≡ count_of count
    → may_be_count n ≡ true
may_be_asked None n lawful is = ap may_be_count is
may_be_asked (Some count) n lawful is = ap may_be_count is ∙ may_be count lawful.0 lawful.1

pub owners_told : (holds : HoldsAt) (lacks : Lacks) (file : List ℕ) (said : SaidOptions) (n : ℕ) (deal : Deal)
    (path : Option (List ℕ)) (e : Refusal)
    → n ≡ count_of said.owners → deal ≡ deal_of said.deal → path ≡ said.cut → AsksForOwners said.owners said.cut
    → IsFileRefused holds lacks file e ⊎ IsOwnersRefused holds lacks file n deal path e
    → IsFileRefused holds lacks file e ⊎ AreOwnersRefused holds lacks file said e
owners_told holds lacks file said n deal path e is_count is_deal is_path asks = ⊎_elim
    inl
    (λ h. inr (
      asks,
      subst (λ m. IsOwnersRefused holds lacks file m (deal_of said.deal) said.cut e) is_count
          (subst (λ d. IsOwnersRefused holds lacks file n d said.cut e) is_deal
          (subst (λ p. IsOwnersRefused holds lacks file n deal p e) is_path h)),
    ))

-- ---- what a line's owners answer

module _ (holds : HoldsAt) (file : List ℕ) (command : Command) (said : SaidOptions) (report : List ℕ) (status : ℕ) where
  abbrev pub Answered : Problem → Labels → Cut → Type 0
  Answered q labels c = IsRunAnswer command q labels c report status

  -- the owners of the cut that is asked for
  pub owners_answer : (n : ℕ) (deal : Deal) (path : Option (List ℕ))
      → n ≡ count_of said.owners → deal ≡ deal_of said.deal → path ≡ said.cut
      → IsFileTold holds file n deal path Answered
      → IsAskedAnswer holds command file said report status
  owners_answer n deal path is_count is_deal is_path h = (
    record {
      text = h.meaning.text;
      held = h.meaning.held;
      answer = record {
        problem = h.problem;
        labels = h.labels;
        meaning = h.meaning.meaning;
        answer = h.by.told.answer;
      };
    },
    λ asks. subst (λ m. IsFileTold holds file m (deal_of said.deal) said.cut Answered) is_count
        (subst (λ d. IsFileTold holds file n d said.cut Answered) is_deal
        (subst (λ p. IsFileTold holds file n deal p Answered) is_path h)),
  )
