-- The report of a replay, as bytes: what each event answered, the balance, and the values. Source:
-- project's choice; docs/FORMATS.md says the same in prose.
use Rattle.std.specs.Prelude.{◌≡◌, ℕ, ◌+◌, Bool, List, [], ◌∷◌, ◌++◌, codes, length}
use Rattle.std.specs.Prelude.{slice_index_or, Option, None, Some}
use Rattle.std.specs.Fmt.{decimal}
use Rattle.std.specs.List.{flat_map, range_with_len}
use Rattle.nll_problem.specs.Problem.{Problem}
use Rattle.nll_core.specs.Values.{IsHeld}
use Rattle.nll_cut.specs.Partition.{Cut}
use Rattle.nll_model.specs.declared.event.Event.{Event}
use Rattle.nll_model.specs.declared.outcome.Step.{Step}
use Rattle.nll_model.specs.declared.outcome.Step.TheVariants.{Done, Quiet, Open}
use Rattle.nll_model.specs.Replaying.{IsReplay}
use Rattle.nll_format.specs.Labels.{Labels}
use Rattle.nll_answer.specs.Report.{IsValuesReport}

-- the words for what an event answers; there is no answer where it wasn't possible
abbrev pub answer_text : Option Step → List ℕ
answer_text (Some Done) = codes "done"
answer_text (Some Quiet) = codes "quiet"
answer_text (Some Open) = codes "open"
answer_text None = codes "not now"

-- the line of an event: its number, the words for its answer after one space, and a line feed
abbrev pub answer_line : ℕ → Option Step → List ℕ
answer_line number answer = decimal number ++ 32 ∷ answer_text answer ++ 10 ∷ []

-- the lines of the events, in order, with their numbers from 1
abbrev pub answer_lines : List (Option Step) → List ℕ
answer_lines answers =
    flat_map (λ k. answer_line (k + 1) (slice_index_or answers k None))
    (range_with_len 0 (length answers))

-- the line of the balance
abbrev pub balance_line : ℕ → List ℕ
balance_line balance = codes "balance " ++ decimal balance ++ 10 ∷ []

-- The text is the report of these answers, this balance and these values: the lines of the events,
-- the line of the balance, and the report of the values.
pub record IsReplayPrinted (q : Problem) (labels : Labels) (answers : List (Option Step))
    (balance : ℕ)
    (values : List (List Bool)) (text : List ℕ) : Type 0 where
  pub lines : List ℕ
  pub told : IsValuesReport q labels (IsHeld values) lines
  pub printed : text ≡ answer_lines answers ++ balance_line balance ++ lines

-- The text is the report of a replay of the events: of its answers, its balance and its values.
pub record IsReplayReport (q : Problem) (labels : Labels) (c : Cut) (events : List Event)
    (text : List ℕ) : Type 0 where
  pub answers : List (Option Step)
  pub balance : ℕ
  pub values : List (List Bool)
  pub replay : IsReplay q c events answers balance values
  pub printed : IsReplayPrinted q labels answers balance values text
