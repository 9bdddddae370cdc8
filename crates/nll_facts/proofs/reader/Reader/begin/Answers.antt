use Rattle.std.proofs.Common.{refl, ap, ◌∙◌, arith}
use Rattle.nll_problem.specs.Problem.{Problem}
use Rattle.nll_facts.specs.FactsReading.{bare}
use Rattle.nll_facts.proofs.ReaderLemmas.{made_for_none, some_is_not_none}
use Rattle.nll_facts.proofs.reader.Reader.begin.Goals as goal

pub returns-clause-said : goal.returns-clause-said
returns-clause-said c = rw c.replace.ensures.after
    (ap (λ (q : Problem). record { reached = c.args.self.now.reached; names = c.args.self.now.names; problem = q })
    (made_for_none c.args.self.now.builder _ _ (c.requires.ready.early c.requires.early)
    (c.in_ok-builder.ensures.ok ∙ ap (bare c.args.self.now.points) c.len-universals.ensures)))

pub returns-clause-kept : goal.returns-clause-kept
returns-clause-kept c = rw c.replace.ensures.after (λ n later. record {
  some_name = c.requires.ready.some_name;
  few = c.requires.ready.few;
  regions = ap (λ (q : Problem). q.regions) c.in_ok-builder.ensures.ok ∙ c.len-universals.ensures;
  universals =
      omega (arith, ap (λ (q : Problem). q.graph.universals) c.in_ok-builder.ensures.ok, c.len-universals.ensures);
  waiting = λ none. absurd (some_is_not_none none);
  numbered = λ none. absurd (some_is_not_none none);
  early = λ before. absurd (omega arith);
  late = λ _. refl;
})
