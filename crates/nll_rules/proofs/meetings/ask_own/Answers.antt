use Rattle.std.proofs.Common.{◌≡◌, ℕ, ◌-◌, List, [], ◌∷◌, ◌++◌, length, length-append, refl, ap, ◌∙◌, arith, subst, Some}
use Rattle.std.specs.Prelude.{slice_get}
use Rattle.std.proofs.lemmas.Result.{on_ok_weaker}
use Rattle.nll_rules.specs.Pairs.{AddsPairs}
use Rattle.nll_rules.proofs.SubtypeLemmas.{some_is}
use Rattle.nll_rules.proofs.meetings.ask_own.Goals as goal

last_of : (before : List ℕ) (last : ℕ) → slice_get (before ++ last ∷ []) (length before) ≡ Some last
last_of [] last = refl
last_of (x ∷ before) last = last_of before last

at_end : (row before : List ℕ) (last : ℕ) → row ≡ before ++ last ∷ [] → slice_get row (length row - 1) ≡ Some last
at_end row before last e =
    let n : length row - 1 ≡ length before = omega (arith, ap length e, length-append before (last ∷ [])) in
    ap (slice_get row) n ∙ ap (λ (xs : List ℕ). slice_get xs (length before)) e ∙ last_of before last

pub returns-in-Some : goal.returns-in-Some
returns-in-Some c = on_ok_weaker c.push_new.result
    (λ h before last e.
    let own : c.in-Some.last ≡ last = some_is _ _ (c.in-Some.ensures ∙ c.last.ensures.value
    ∙ at_end c.args.row.now before last e) in
    subst (λ (z : ℕ). AddsPairs (λ x. (c.args.region, z) ≡ x) c.args.pairs.now.items c.push_new.new.asked.items) own h)
    c.push_new.ensures
