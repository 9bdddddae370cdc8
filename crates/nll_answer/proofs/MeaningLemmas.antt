-- Texts of either format, and why they have no answer.
use Rattle.std.proofs.Common.{◌≡◌, ℕ, Bool, true, false, List, ◌∷◌, Result, Ok, Err, IfErr, IfOk, length, inl, inr, ⊎_elim, refl, sym, ap, ◌∙◌, subst}
use Rattle.std.specs.Prelude.{IsOkAnd}
use Rattle.std.proofs.lemmas.Bool.{false≢true}
use Rattle.nll_problem.specs.Problem.{Problem}
use Rattle.nll_text.specs.Lines.{lines_of}
use Rattle.nll_format.specs.Labels.{Labels}
use Rattle.nll_format.specs.Text.{IsRefusal}
use Rattle.nll_format.specs.declared.error.TextError.{TextError}
use Rattle.nll_format.specs.declared.error.TextKind.{TextKind}
use Rattle.nll_format.specs.declared.error.TextKind.TheVariants as kind
use Rattle.nll_facts.specs.FactsText.{IsFactsFault}
use Rattle.nll_body.specs.Bodies.{BodyText, labels_of}
use Rattle.nll_mir_text.specs.MirText.{IsMirHeader, IsMirFault, Means as IsBodyOf}
use Rattle.nll_answer.specs.declared.error.AnswerError.{AnswerError}
use Rattle.nll_answer.specs.declared.error.AnswerError.TheVariants.{Text, Rule, Run, Memory}
use Rattle.nll_rules.specs.BodyProblem.{HasTooMany, IsProblemOf, IsRuleError}
use Rattle.nll_rules.specs.declared.error.RuleError.{RuleError}
use Rattle.nll_rules.specs.declared.error.RuleError.TheVariants as rule
use Rattle.nll_answer.specs.Texts.{IsMir, HasProblem, told_as, error_of_text, error_of_body, IsErrorOf, IsBodyError, IsAnswerError}

-- lists that are the same begin alike
pub same_head : (x y : List ℕ) (xs ys : List (List ℕ)) → x ∷ xs ≡ y ∷ ys → x ≡ y
same_head x y xs ys e = cc

-- a text has one first line
pub header_of : (text header : List ℕ) (body : List (List ℕ)) → lines_of text ≡ header ∷ body → IsMir text
    → IsMirHeader header
header_of text header body cut of = subst IsMirHeader (same_head of.0 header of.1 body (sym of.2 ∙ cut)) of.3

-- errors as those of a facts text, of a MIR text and of its body
pub as_facts : (text : List ℕ) (e : AnswerError) → (IsMir text → ⊥) → IsErrorOf (IsFactsFault text) e
    → IsAnswerError text e
as_facts text (Text error) other h = inr (other, h)
as_facts text (Rule error) other h = absurd h
as_facts text (Run error) other h = absurd h
as_facts text Memory other h = tt

pub as_mir : (text : List ℕ) (e : AnswerError) → IsMir text → IsErrorOf (IsMirFault text) e → IsAnswerError text e
as_mir text (Text error) of h = inl (of, h)
as_mir text (Rule error) of h = absurd h
as_mir text (Run error) of h = absurd h
as_mir text Memory of h = tt

pub as_body : (text : List ℕ) (body : BodyText) (e : AnswerError) → IsBodyOf text body → IsBodyError body e
    → IsAnswerError text e
as_body text body (Text error) means h = absurd h
as_body text body (Rule error) means h = (body, means, h)
as_body text body (Run error) means h = absurd h
as_body text body Memory means h = tt

-- whether the kind is that of refused memory
abbrev is_memory : TextKind → Bool
is_memory kind.Memory = true
is_memory other = false

-- the error of a text with such faults, as an answer tells it
module _ (IsFaultAt : ℕ → TextKind → Type 0) (error : TextError) (refusal : IsRefusal IsFaultAt error) where
  -- the fault, where memory wasn't wanted
  fault : (error.kind ≡ kind.Memory → ⊥) → IsFaultAt error.line error.kind
  fault other = ⊎_elim (λ wanting. absurd (other (ap (λ (e : TextError). e.kind) wanting))) (λ found. found) refusal

  told_in : (k : TextKind) → error.kind ≡ k → IsErrorOf IsFaultAt (told_as error k)
  told_in kind.NotUtf8 is = fault (λ memory. false≢true (ap is_memory (sym is ∙ memory)))
  told_in kind.Header is = fault (λ memory. false≢true (ap is_memory (sym is ∙ memory)))
  told_in kind.Syntax is = fault (λ memory. false≢true (ap is_memory (sym is ∙ memory)))
  told_in kind.Unknown is = fault (λ memory. false≢true (ap is_memory (sym is ∙ memory)))
  told_in kind.Duplicate is = fault (λ memory. false≢true (ap is_memory (sym is ∙ memory)))
  told_in kind.Range is = fault (λ memory. false≢true (ap is_memory (sym is ∙ memory)))
  told_in kind.Shape is = fault (λ memory. false≢true (ap is_memory (sym is ∙ memory)))
  told_in kind.TypeSize is = fault (λ memory. false≢true (ap is_memory (sym is ∙ memory)))
  told_in (kind.Limit counted) is = fault (λ memory. false≢true (ap is_memory (sym is ∙ memory)))
  told_in kind.End is = fault (λ memory. false≢true (ap is_memory (sym is ∙ memory)))
  told_in kind.Memory is = tt

  pub text_error : (told : AnswerError) → told ≡ error_of_text error → IsErrorOf IsFaultAt told
  text_error told is = subst (IsErrorOf IsFaultAt) (sym is) (told_in error.kind refl)

-- what was read and its error, as they are handed on
pub told_ok : {T : Type 0} (P : T → Type 0) (read : Result T TextError) (r : Result T AnswerError)
    → IfOk read (λ value. r ≡ Ok value) → IfErr read (λ error. r ≡ Err (error_of_text error)) → IfOk read P → IfOk r P
told_ok P (Ok value) r ok err h = subst (λ x. IfOk x P) (sym ok) h
told_ok P (Err error) r ok err h = subst (λ x. IfOk x P) (sym err) tt

pub told_err : {T : Type 0} (IsFaultAt : ℕ → TextKind → Type 0) (read : Result T TextError) (r : Result T AnswerError)
    → IfOk read (λ value. r ≡ Ok value) → IfErr read (λ error. r ≡ Err (error_of_text error))
    → IfErr read (IsRefusal IsFaultAt) → IfErr r (IsErrorOf IsFaultAt)
told_err IsFaultAt (Ok value) r ok err h = subst (λ x. IfErr x (IsErrorOf IsFaultAt)) (sym ok) tt
told_err IsFaultAt (Err error) r ok err h =
    subst (λ x. IfErr x (IsErrorOf IsFaultAt)) (sym err) (text_error IsFaultAt error h (error_of_text error) refl)

-- the error of a body, as an answer tells it
pub body_error : (body : BodyText) (error : RuleError) (told : AnswerError) → told ≡ error_of_body error
    → IsRuleError body error → IsBodyError body told
body_error body error told is h = subst (IsBodyError body) (sym is) (as_told error h)
  where
    as_told : (e : RuleError) → IsRuleError body e → IsBodyError body (error_of_body e)
    as_told (rule.Limit kind) k = k
    as_told rule.Memory k = tt

-- a problem with the labels of its body, and why there is none, as they are handed on
module _ {F : Type 0} (problem_in : F → Problem) (labels_in : F → Labels) (body : BodyText) where
  abbrev IsLabelled : Result Problem RuleError → Result F AnswerError → Type 0
  IsLabelled made r = IfOk made (λ q. IsOkAnd r (λ f. (problem_in f ≡ q) × (labels_in f ≡ labels_of body)))

  abbrev IsUnlabelled : Result Problem RuleError → Result F AnswerError → Type 0
  IsUnlabelled made r = IfErr made (λ e. r ≡ Err (error_of_body e))

  pub labelled_ok : (made : Result Problem RuleError) (r : Result F AnswerError) → IsLabelled made r
      → IsUnlabelled made r
      → IfOk made (IsProblemOf body) → IfOk made (λ _. HasTooMany body → ⊥)
      → IfOk r (λ f. HasProblem body (problem_in f) (labels_in f))
  labelled_ok (Ok q) (Ok f) ok err is few =
      record { problem = subst (IsProblemOf body) (sym ok.0) is; few = few; labels = ok.1 }
  labelled_ok (Ok q) (Err e) ok err is few = tt
  labelled_ok (Err e) r ok err is few =
      subst (λ x. IfOk x (λ f. HasProblem body (problem_in f) (labels_in f))) (sym err) tt

  pub labelled_err : (made : Result Problem RuleError) (r : Result F AnswerError) → IsLabelled made r
      → IsUnlabelled made r
      → IfErr made (IsRuleError body) → IfErr r (IsBodyError body)
  labelled_err (Ok q) (Ok f) ok err h = tt
  labelled_err (Ok q) (Err e) ok err h = absurd ok
  labelled_err (Err e) r ok err h =
      subst (λ x. IfErr x (IsBodyError body)) (sym err) (body_error body e (error_of_body e) refl h)

-- the labels of a body name each region of its problem
pub named : (body : BodyText) (q : Problem) (labels : Labels) → HasProblem body q labels
    → length labels.names ≡ q.regions
named body q labels h = ap (λ (l : Labels). length l.names) h.labels ∙ sym h.problem.regions
