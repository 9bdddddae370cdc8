use Rattle.nll_format.specs.Parts as parts
use Rattle.nll_format.specs.Parts.{keyword}
use Rattle.nll_format.proofs.PartLemmas.{no_region_first, spells_more, spells_rest}
use Rattle.nll_facts.proofs.FormLemmas.{behind_all, no_place}
use Rattle.nll_facts.proofs.line.two_regions_place.Goals as goal

pub returns-in_err-first : goal.returns-in_err-first
returns-in_err-first c = rw c.from_residual.ensures (λ n h. no_region_first _ n.0 _ c.in_err-first.ensures.begins h)

pub returns-in_err-second : goal.returns-in_err-second
returns-in_err-second c = rw c.from_residual-in_err-second.ensures (λ n h. no_region_first _ n.1 _
    c.in_err-second.ensures.begins
    (spells_rest _ c.in_ok-first.rest.now _ _ _ c.in_ok-first.ensures.begins.joined h).1)

pub returns-in-Some : goal.returns-in-Some
returns-in-Some c = spells_more _ _ (parts.region _) _ c.in_ok-first.ensures.begins.joined tt
    (spells_more c.in_ok-first.rest.now _ (parts.region _) _ c.in_ok-second.ensures.begins.joined tt c.in-Some.ensures)

pub returns-in_err-rest : goal.returns-in_err-rest
returns-in_err-rest c = rw c.from_residual-in_err-rest.ensures
    (λ n h. no_place c.in_ok-second.rest.now n.2 c.in_err-rest.ensures.begins c.in_default.ensures
    (spells_rest c.in_ok-first.rest.now _ _ _ _ c.in_ok-second.ensures.begins.joined
    (spells_rest _ c.in_ok-first.rest.now _ _ _ c.in_ok-first.ensures.begins.joined h).1).1)

pub returns-in_err-nothing : goal.returns-in_err-nothing
returns-in_err-nothing c = rw c.from_residual-in_err-nothing.ensures
    (λ n h. c.in_err-nothing.ensures tt
    (behind_all c.in_ok-second.rest.now _ n.2 c.in_ok-rest.ensures.begins c.in_default.ensures
    (spells_rest c.in_ok-first.rest.now _ _ _ _ c.in_ok-second.ensures.begins.joined
    (spells_rest _ c.in_ok-first.rest.now _ _ _ c.in_ok-first.ensures.begins.joined h).1).1))

pub returns : goal.returns
returns c = spells_more _ _ (parts.region _) _ c.in_ok-first.ensures.begins.joined tt
    (spells_more c.in_ok-first.rest.now _ (parts.region _) _ c.in_ok-second.ensures.begins.joined tt
    (spells_more c.in_ok-second.rest.now _ (keyword _) _ c.in_ok-rest.ensures.begins tt c.in_ok-nothing.ensures))
