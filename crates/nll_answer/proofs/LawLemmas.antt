-- A text of either format has at most one meaning, at most one fault, and never both.
use Rattle.std.proofs.Common.{◌≡◌, ◌≢◌, ◌↔◌, ℕ, List, inl, inr, refl, sym, ap, ◌∙◌, subst, length, arith}
use Rattle.std.specs.Prelude.{codes}
use Rattle.nll_problem.specs.Problem.{Problem, SameProblem}
use Rattle.nll_problem.proofs.SameLemmas.{same_set_back, same_set_chain}
use Rattle.nll_format.specs.Labels.{Labels}
use Rattle.nll_format.specs.Text.{IsFormatHeader}
use Rattle.nll_format.specs.declared.error.TextKind.{TextKind}
use Rattle.nll_facts.specs.FactsText.{facts, MeansFacts as IsFactsOf}
use Rattle.nll_facts.specs.declared.version.Version.{Version}
use Rattle.nll_facts.proofs.LawLemmas as facts_laws
use Rattle.nll_body.specs.Bodies.{BodyText}
use Rattle.nll_mir_text.specs.MirText.{IsMirHeader, Means as IsBodyOf}
use Rattle.nll_mir_text.proofs.LawLemmas as mir_laws
use Rattle.nll_rules.specs.BodyProblem.{IsProblemOf, HasTooMany}
use Rattle.nll_rules.specs.declared.error.RuleError.TheVariants as rule
use Rattle.nll_answer.specs.declared.error.AnswerError.{AnswerError}
use Rattle.nll_answer.specs.declared.error.AnswerError.TheVariants.{Text, Rule, Run, Memory}
use Rattle.nll_answer.specs.Texts.{IsMir, IsTextFault, HasProblem, IsMeaning, IsAnswerError}
use Rattle.nll_answer.proofs.MeaningLemmas.{same_head, header_of}

-- ---- a text is of one format

-- no line is the header of both formats
two_headers : (version : Version) (line : List ℕ) → IsFormatHeader (facts version) line → IsMirHeader line → ⊥
two_headers version line f m =
    let kinds : codes "nll-facts" ≡ codes "nll-mir" =
    same_head (codes "nll-facts") (codes "nll-mir") _ _ (sym f ∙ m.1) in
    let lengths : 9 ≡ 7 = ap length kinds in
    absurd (omega (arith, lengths))

-- a text that means a problem as a facts text is no MIR text
two_formats : (text : List ℕ) (q : Problem) (labels : Labels) → IsFactsOf text q labels → IsMir text → ⊥
two_formats text q labels h m =
    let headed = h.fits.headed in
    two_headers h.version headed.header headed.is_header (header_of text headed.header h.fits.body headed.cut.cut m)

of_body : (text : List ℕ) (body : BodyText) → IsBodyOf text body → IsMir text
of_body text body h =
    (let headed = h.fits.headed in (headed.header, h.fits.body, headed.cut.cut, (h.version, headed.is_header)))

-- ---- one fault

pub one_fault_lem : (text : List ℕ) (l m : ℕ) (j k : TextKind) → IsTextFault text l j → IsTextFault text m k
    → (l ≡ m) × (j ≡ k)
one_fault_lem text l m j k (inl g) (inl h) = mir_laws.one_fault_lem text l m j k g.1 h.1
one_fault_lem text l m j k (inl g) (inr h) = absurd (h.0 g.0)
one_fault_lem text l m j k (inr g) (inl h) = absurd (g.0 h.0)
one_fault_lem text l m j k (inr g) (inr h) = facts_laws.one_fault_lem text l m j k g.1 h.1

-- ---- one meaning

either : {A B C : Type 0} → (A ↔ B) → (C ↔ B) → (A ↔ C)
either f g = (λ a. g.1 (f.0 a), λ c. f.1 (g.0 c))

-- a body has one problem
one_problem : (body : BodyText) (p q : Problem) → IsProblemOf body p → IsProblemOf body q → SameProblem p q
one_problem body p q g h = record {
  points = g.graph.points ∙ sym h.graph.points;
  universals = g.graph.universals ∙ sym h.graph.universals;
  regions = g.regions ∙ sym h.regions;
  edges = λ x. either (g.graph.next x.0 x.1) (h.graph.next x.0 x.1);
  returns = λ x. either (g.graph.returns x) (h.graph.returns x);
  bases = λ x. either (g.bases x.0 x.1) (h.bases x.0 x.1);
  constraints = λ c. either (g.constraints c) (h.constraints c);
  outlives =
      same_set_chain p.outlives body.outlives q.outlives g.outlives (same_set_back q.outlives body.outlives h.outlives);
}

one_meaning_of_body : (body other : BodyText) (p q : Problem) (ls ms : Labels) → body ≡ other → HasProblem body p ls
    → HasProblem other q ms → SameProblem p q × (ls ≡ ms)
one_meaning_of_body body other p q ls ms same g h =
    let here : HasProblem body q ms = subst (λ (b : BodyText). HasProblem b q ms) (sym same) h in
    (one_problem body p q g.problem here.problem, g.labels ∙ sym here.labels)

pub one_meaning_lem : (text : List ℕ) (p q : Problem) (ls ms : Labels) → IsMeaning text p ls → IsMeaning text q ms
    → SameProblem p q × (ls ≡ ms)
one_meaning_lem text p q ls ms (inl g) (inl h) = facts_laws.one_meaning_lem text p q ls ms g h
one_meaning_lem text p q ls ms (inl g) (inr h) = absurd (two_formats text p ls g (of_body text h.0 h.1))
one_meaning_lem text p q ls ms (inr g) (inl h) = absurd (two_formats text q ms h (of_body text g.0 g.1))
one_meaning_lem text p q ls ms (inr g) (inr h) =
    one_meaning_of_body g.0 h.0 p q ls ms (mir_laws.one_meaning_lem text g.0 h.0 g.1 h.1) g.2 h.2

-- ---- never both

no_fault : (text : List ℕ) (q : Problem) (labels : Labels) (l : ℕ) (k : TextKind) → IsMeaning text q labels
    → IsTextFault text l k → ⊥
no_fault text q labels l k (inl g) (inl h) = two_formats text q labels g h.0
no_fault text q labels l k (inl g) (inr h) = facts_laws.not_both_lem text q labels l k g h.1
no_fault text q labels l k (inr g) (inl h) = mir_laws.not_both_lem text g.0 l k g.1 h.1
no_fault text q labels l k (inr g) (inr h) = h.0 (of_body text g.0 g.1)

-- a text that means a problem means no body with too many constraints
not_over : (text : List ℕ) (q : Problem) (labels : Labels) (body : BodyText) → IsMeaning text q labels
    → IsBodyOf text body → HasTooMany body → ⊥
not_over text q labels body (inl g) means over = two_formats text q labels g (of_body text body means)
not_over text q labels body (inr g) means over =
    g.2.few (subst HasTooMany (mir_laws.one_meaning_lem text body g.0 means g.1) over)

pub no_both_lem : (text : List ℕ) (q : Problem) (labels : Labels) (e : AnswerError) → IsMeaning text q labels
    → e ≢ Memory → IsAnswerError text e → ⊥
no_both_lem text q labels (Text error) means other h = no_fault text q labels error.line error.kind means h
no_both_lem text q labels (Rule (rule.Limit kind)) means other h = not_over text q labels h.0 means h.1 h.2.1
no_both_lem text q labels (Rule rule.Memory) means other h = absurd h.2
no_both_lem text q labels (Run error) means other h = absurd h
no_both_lem text q labels Memory means other h = other refl
