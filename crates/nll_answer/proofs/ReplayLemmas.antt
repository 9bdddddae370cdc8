-- What a replay prints, part by part.
use Rattle.std.proofs.Common.{◌≡◌, ◌↔◌, ℕ, ◌+◌, List, ◌++◌, sym, ap, ◌∙◌}
use Rattle.std.specs.List.{flat_map, range_with_len}
use Rattle.std.proofs.lemmas.List.{append_assoc}
use Rattle.nll_problem.specs.Problem.{Problem}
use Rattle.nll_problem.specs.Solution.{Least}
use Rattle.nll_core.specs.Values.{IsHeld}
use Rattle.nll_cut.specs.Partition.{Cut}
use Rattle.nll_model.specs.declared.event.Event.{Event}
use Rattle.nll_format.specs.Labels.{Labels}
use Rattle.nll_answer.specs.Report.{IsValuesReport}
use Rattle.nll_answer.proofs.ReportLemmas.{lines_more, report_carries}
use Rattle.nll_answer.specs.ReplayReport.{IsReplayReport}

-- one event more
pub answers_more : (line : ℕ → List ℕ) (n : ℕ) (old now new : List ℕ) → now ≡ old ++ flat_map line (range_with_len 0 n)
    → new ≡ now ++ line n
    → new ≡ old ++ flat_map line (range_with_len 0 (n + 1))
answers_more line n old now new printed more =
    more ∙ ap (λ (xs : List ℕ). xs ++ line n) printed ∙ append_assoc old (flat_map line (range_with_len 0 n)) (line n)
    ∙ ap (λ (xs : List ℕ). old ++ xs) (sym (lines_more line n))

-- a replay says only what the least values have
pub only_least : (q : Problem) (labels : Labels) (c : Cut) (events : List Event) (text : List ℕ)
    (report : IsReplayReport q labels c events text)
    → (r e : ℕ) → IsHeld report.values r e → Least q r e
only_least q labels c events text report r e held =
    report.replay.lawful.only_least r e ((report.replay.says r e).0 held)

-- and at the balance 0 it says all of it
pub at_0_least : (q : Problem) (labels : Labels) (c : Cut) (events : List Event) (text : List ℕ)
    (report : IsReplayReport q labels c events text)
    → report.balance ≡ 0 → IsValuesReport q labels (Least q) report.printed.lines
at_0_least q labels c events text report quiet =
    report_carries q labels (IsHeld report.values) (Least q) same report.printed.lines report.printed.told
  where
    least : (r e : ℕ) → (IsHeld report.values r e → Least q r e) × (Least q r e → IsHeld report.values r e)
    least r e =
        let says = report.replay.says r e in
        let agree = report.replay.lawful.least (sym report.replay.ends ∙ quiet) r e in
        (λ held. agree.0 (says.0 held), λ is. says.1 (agree.1 is))

    same : (r e : ℕ) → IsHeld report.values r e ↔ Least q r e
    same = least
