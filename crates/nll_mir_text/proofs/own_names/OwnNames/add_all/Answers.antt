use Rattle.std.proofs.Common.{◌≡◌, ℕ, ◌+◌, ◌<◌, [], ◌∷◌, ◌++◌, List, get_or, length, map, refl, take}
use Rattle.std.proofs.lemmas.List.{map_more}
use Rattle.nll_mir_grammar.specs.Lines.{parameter_of}
use Rattle.nll_mir_grammar.specs.declared.line.ParameterText.{ParameterText}
use Rattle.nll_mir_text.specs.StructLines.{AreOwn}
use Rattle.nll_mir_text.specs.declared.own_names.OwnNames.{OwnNames}
use Rattle.nll_mir_text.proofs.OwnLemmas.{own_region, own_type}
use Rattle.nll_mir_text.proofs.own_names.OwnNames.add_all.Goals as goal
use Rattle.nll_mir_text.proofs.own_names.OwnNames.add_all.Goals.{in-Region+in_ok-new-in-Region, in-Type+in_ok-new-in-Type}

-- the names with those of the next parameter
more : (ps : List ParameterText) (i : ℕ) (d p : ParameterText) (own : OwnNames) → i < length ps → get_or ps i d ≡ p
    → AreOwn (map parameter_of (take i ps) ++ parameter_of p ∷ []) own → AreOwn (map parameter_of (take (i + 1) ps)) own
more ps i d p own l is h = rw (map_more parameter_of ps i d l, is) h

pub loop-parameter-preserved : goal.loop-parameter-preserved
loop-parameter-preserved c =
    elim c.match-parameter.branch [
      | in-Region+in_ok-new-in-Region w ↦ more c.args.parameters.now c.loop-parameter.parameter-index _ _ _
          c.loop-parameter-test.true w.in-Region.is (rw (w.self-is, w.new-is)
          (own_region _ _ _ _ _ _ c.loop-parameter.invariant w.in_ok-new-in-Region.ensures.new
          w.in_ok-new-in-Region.ensures.names refl refl))
      | in-Type+in_ok-new-in-Type w ↦ more c.args.parameters.now c.loop-parameter.parameter-index _ _ _
          c.loop-parameter-test.true w.in-Type.is (rw (w.self-is, w.new-is)
          (own_type _ _ _ _ _ _ c.loop-parameter.invariant w.in_ok-new-in-Type.ensures.new
          w.in_ok-new-in-Type.ensures.names refl refl))
    ]
