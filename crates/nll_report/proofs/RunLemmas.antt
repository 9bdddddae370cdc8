-- What the program tells where it gives no report.
use Rattle.std.proofs.Common.{◌≡◌, ◌⊎◌, ◌∙◌, ℕ, List, [], ◌∷◌, ◌++◌, Option, None, Some, length, take, inl, inr, ⊎_elim, refl, ap, sym, subst, arith}
use Rattle.std.proofs.lemmas.Bool.{true≢false}
use Rattle.std.proofs.lemmas.List.{length-append}
use Rattle.std.specs.Io.KnownBytes.{Appends}
use Rattle.nll_format.specs.declared.error.TextKind.{TextKind}
use Rattle.nll_format.specs.declared.error.TextKind.TheVariants as kind
use Rattle.nll_rules.specs.declared.error.RuleError.TheVariants as rule
use Rattle.nll_answer.specs.Texts.{IsTextFault, IsAnswerError}
use Rattle.nll_answer.specs.declared.error.AnswerError.{AnswerError}
use Rattle.nll_answer.specs.declared.error.AnswerError.TheVariants as answer
use Rattle.nll_report.specs.Refusal.{refusal_at, refusal_of}
use Rattle.nll_report.specs.declared.messages.Refusal.{Refusal}
use Rattle.nll_report.specs.declared.messages.Refusal.TheVariants.{Usage, CannotRead, Text, Limit, CutText, CutLength, NoSuchOwner, ScheduleText, Thread, Memory, CannotWrite}
use Rattle.nll_command_line.specs.CommandLine.{AsksPlainlyForHelp, IsNoPlainLine, IsPlainLine}
use Rattle.nll_command_line.specs.declared.task.Task.{Task}
use Rattle.nll_command_line.specs.declared.task.Task.TheVariants.{Values, Check, Replay}
use Rattle.nll_command_line.specs.Options.{ArePlaced, Given, SaidOptions, behind, no_words, unread}
use Rattle.nll_command_line.specs.declared.options.Deal.{Deal}
use Rattle.nll_report.specs.Owners.{IsCutFileRefused, IsCutRefused, count_of, deal_of}
use Rattle.nll_report.specs.Replays.{IsReplayRefused, IsScheduleRefused}
use Rattle.nll_report.specs.Run.{Words, AreOwnersRefused, AreRefused, IsTaskAsked, IsPrintBegun, IsFileFault, IsFileRefused, IsLineRefused, IsRunRefused, IsRefusedBehindFile, IsRun, IsTaskRefused}
use Rattle.nll_report.specs.Texts.{HoldsAt, Lacks}
use Rattle.nll_report.proofs.OwnerLemmas.{is_wanting}
use Rattle.nll_report.specs.Sink.{IsCutShort, MayRefuse}

-- no words at all are no plain line
no_plain : IsNoPlainLine []
no_plain task file line = ⊎_elim
    (λ plain. let none : 0 ≡ 2 = ap length plain.0 in absurd (omega (arith, none)))
    (⊎_elim
    (λ plain. let none : 0 ≡ 3 = ap length plain in absurd (omega (arith, none)))
    (λ plain. let none : 0 ≡ 3 = ap length plain.0 in absurd (omega (arith, none))))
    line

-- and they ask for nothing
no_help : AsksPlainlyForHelp [] → ⊥
no_help h =
    let long : 0 ≡ length (h.front ++ h.word ∷ h.rest) = ap length h.are in
    absurd (omega (arith, long, length-append h.front (h.word ∷ h.rest)))

nothing_else : (given : List Given) (others words : Words) → ArePlaced given others words → words ≡ [] → others ≡ []
nothing_else _ _ _ no_words e = refl
nothing_else _ _ _ (unread first rest begins) e = cc
nothing_else _ _ _ (behind given first others rest plain h) e = cc

no_line : AreRefused []
no_line others said read =
    let none = nothing_else read.given others [] read.placed refl in (
      λ task file plain suits. no_plain task file (subst (IsPlainLine task file) none plain),
      λ h. no_help (subst AsksPlainlyForHelp none h),
    )

-- words that are lost, or refused memory, are refused as no words are
pub lost_words : (holds : HoldsAt) (lacks : Lacks) (refusal : Refusal) → (refusal ≡ Usage) ⊎ (refusal ≡ Memory)
    → IsRunRefused holds lacks [] refusal
lost_words holds lacks refusal = ⊎_elim
    (λ is. subst (IsRunRefused holds lacks []) (sym is) no_line)
    (λ is. subst (IsRunRefused holds lacks []) (sym is) tt)

-- bytes of a run of which a sink took some only
pub begun_by : (holds : HoldsAt) (words : Words) (status : ℕ) (room : Option ℕ) (old new : Option (List ℕ))
    (bytes slice : List ℕ) (written : ℕ) → IsRun holds words bytes status → slice ≡ bytes
    → Appends old new (take written slice) → MayRefuse room (length slice) → IsPrintBegun holds words room old new
begun_by holds words status room old new bytes slice written run is begun refused = record {
  bytes = bytes;
  status = status;
  run = run;
  cut = subst (IsCutShort room old new) is cut_slice;
}
  where
    cut_slice : IsCutShort room old new slice
    cut_slice = record { count = written; begun = begun; refused = refused }

-- neither a cut nor a schedule is why words are refused, or why standard output failed
module _ (holds : HoldsAt) (lacks : Lacks) (count : ℕ) (how : Deal) (refusal : Refusal)
    (is : (refusal ≡ Usage) ⊎ (refusal ≡ CannotWrite)) where
  unwanted : (regions : ℕ) (path : Option (List ℕ)) → IsCutRefused holds lacks regions count path refusal → ⊥
  unwanted regions None h = ⊎_elim
      (λ usage. true≢false (sym (ap is_wanting (sym usage ∙ h))))
      (λ write. true≢false (sym (ap is_wanting (sym write ∙ h))))
      is
  unwanted regions (Some path) h = ⊎_elim
      (λ usage.
      let at : IsCutFileRefused holds lacks regions count path Usage =
      subst (λ r. IsCutFileRefused holds lacks regions count path r) usage h in
      true≢false (sym (ap is_wanting at.2)))
      (λ write.
      let at : IsCutFileRefused holds lacks regions count path CannotWrite =
      subst (λ r. IsCutFileRefused holds lacks regions count path r) write h in
      true≢false (sym (ap is_wanting at.2)))
      is

  unscheduled : (schedule : List ℕ) → IsScheduleRefused holds lacks count schedule refusal → ⊥
  unscheduled schedule h = ⊎_elim
      (λ usage.
      let at : IsScheduleRefused holds lacks count schedule Usage =
      subst (λ r. IsScheduleRefused holds lacks count schedule r) usage h in
      true≢false (sym (ap is_wanting at.2)))
      (λ write.
      let at : IsScheduleRefused holds lacks count schedule CannotWrite =
      subst (λ r. IsScheduleRefused holds lacks count schedule r) write h in
      true≢false (sym (ap is_wanting at.2)))
      is

  unreplayed : (regions : ℕ) (path : Option (List ℕ)) (schedule : List ℕ)
      → IsReplayRefused holds lacks regions count how path schedule refusal → ⊥
  unreplayed regions path schedule = ⊎_elim (unwanted regions path) (λ h. unscheduled schedule h.2)

-- the refusal of what a line asks for
module _ (holds : HoldsAt) (lacks : Lacks) (words : Words) (file : List ℕ) (said : SaidOptions) where
  line_refused : (task : Task) (asked : IsTaskAsked words task file said) (refusal : Refusal)
      → IsTaskRefused holds lacks task file said refusal
      → IsLineRefused holds lacks words refusal
  line_refused task asked refusal h = record { task = task; file = file; said = said; asked = asked; refused = h }

  -- nothing of words or of standard output is told behind the file
  owners_silent : (refusal : Refusal) → (refusal ≡ Usage) ⊎ (refusal ≡ CannotWrite)
      → AreOwnersRefused holds lacks file said refusal → ⊥
  owners_silent refusal is h = ⊎_elim
      (λ usage.
      let at : AreOwnersRefused holds lacks file said Usage = subst (AreOwnersRefused holds lacks file said) usage h in
      unwanted holds lacks (count_of said.owners) (deal_of said.deal) Usage
      (inl refl) at.1.problem.regions said.cut at.1.refused)
      (λ write.
      let at : AreOwnersRefused holds lacks file said CannotWrite =
      subst (AreOwnersRefused holds lacks file said) write h in
      unwanted holds lacks (count_of said.owners) (deal_of said.deal) CannotWrite
      (inr refl) at.1.problem.regions said.cut at.1.refused)
      is

  silent : (task : Task) (refusal : Refusal) → (refusal ≡ Usage) ⊎ (refusal ≡ CannotWrite)
      → IsRefusedBehindFile holds lacks task file said refusal → ⊥
  silent Values refusal is h = owners_silent refusal is h
  silent Check refusal is h = owners_silent refusal is h
  silent Replay refusal is h =
      unreplayed holds lacks (count_of said.owners)
      (deal_of said.deal) refusal is h.2.problem.regions said.cut h.0 h.2.refused

  pub line_told : (task : Task) (asked : IsTaskAsked words task file said) (refusal : Refusal)
      → IsTaskRefused holds lacks task file said refusal
      → IsRunRefused holds lacks words refusal
  line_told task asked Usage h = absurd (⊎_elim (λ none. none) (silent task Usage (inl refl)) h)
  line_told task asked (CannotRead other) h = line_refused task asked (CannotRead other) h
  line_told task asked (Text line kind) h = line_refused task asked (Text line kind) h
  line_told task asked (Limit counted) h = line_refused task asked (Limit counted) h
  line_told task asked (CutText line kind) h = line_refused task asked (CutText line kind) h
  line_told task asked CutLength h = line_refused task asked CutLength h
  line_told task asked (NoSuchOwner index) h = line_refused task asked (NoSuchOwner index) h
  line_told task asked (ScheduleText line kind) h = line_refused task asked (ScheduleText line kind) h
  line_told task asked Thread h = line_refused task asked Thread h
  line_told task asked Memory h = tt
  line_told task asked CannotWrite h = absurd (⊎_elim (λ none. none) (silent task CannotWrite (inr refl)) h)

-- ---- a text that has no answer

module _ (holds : HoldsAt) (lacks : Lacks) (file text : List ℕ) (held : holds file text) where
  a_fault : (line : ℕ) (k : TextKind) → IsTextFault text line k → IsFileFault holds file line k
  a_fault line k found = record { text = text; held = held; fault = found }

  -- the refusal of a text for its fault
  fault_told : (line : ℕ) (k : TextKind) → IsTextFault text line k → IsFileRefused holds lacks file (refusal_at line k)
  fault_told line kind.NotUtf8 found = a_fault line kind.NotUtf8 found
  fault_told line kind.Header found = a_fault line kind.Header found
  fault_told line kind.Syntax found = a_fault line kind.Syntax found
  fault_told line kind.Unknown found = a_fault line kind.Unknown found
  fault_told line kind.Duplicate found = a_fault line kind.Duplicate found
  fault_told line kind.Range found = a_fault line kind.Range found
  fault_told line kind.Shape found = a_fault line kind.Shape found
  fault_told line kind.TypeSize found = a_fault line kind.TypeSize found
  fault_told line (kind.Limit counted) found = a_fault line (kind.Limit counted) found
  fault_told line kind.End found = a_fault line kind.End found
  fault_told line kind.Memory found = tt

  -- the refusal of a text for its error
  error_told : (e : AnswerError) → IsAnswerError text e → IsFileRefused holds lacks file (refusal_of e)
  error_told (answer.Text error) h = fault_told error.line error.kind h
  error_told (answer.Rule (rule.Limit counted)) h = record { text = text; held = held; over = h }
  error_told (answer.Rule rule.Memory) h = tt
  error_told (answer.Run error) h = absurd h
  error_told answer.Memory h = tt

-- the same, of a text by its path and its bytes
pub answer_told : (holds : HoldsAt) (lacks : Lacks) (path file slice text : List ℕ) (e : AnswerError)
    (refusal : Refusal)
    → path ≡ file → slice ≡ text → refusal ≡ refusal_of e → holds path text → IsAnswerError slice e
    → IsFileRefused holds lacks file refusal
answer_told holds lacks path file slice text e refusal at bytes is held h =
    subst (IsFileRefused holds lacks file) (sym is)
    (error_told holds lacks file text (subst (λ (p : List ℕ). holds p text) at held) e
    (subst (λ (t : List ℕ). IsAnswerError t e) bytes h))
