use Rattle.std.proofs.Common.{Bool, [], take, ap, refl, sym, ◌∙◌}
use Rattle.std.specs.Prelude.{◌&&◌}
use Rattle.std.specs.List.{list_all}
use Rattle.std.proofs.Math.Bool.{and-true, and_assoc}
use Rattle.std.proofs.lemmas.List.{take_all}
use Rattle.std.proofs.lemmas.List.Folds.{list_all_at, list_all_more}
use Rattle.nll_types.specs.declared.operand.Operand.{Operand}
use Rattle.nll_body.proofs.FlatLemmas.{grows_further}
use Rattle.nll_mir_grammar.specs.TypeTexts.{written}
use Rattle.nll_mir_text.specs.Naming.{is_known, has_arguments}
use Rattle.nll_mir_text.specs.Resolution.{scope_of}
use Rattle.nll_mir_text.proofs.CallLemmas.{added_more, added_slice, arguments_more, no_arguments, none_added}
use Rattle.nll_mir_text.proofs.ResolvedLemmas.{adds_same, adds_then, grows_same}
use Rattle.nll_mir_text.proofs.resolution.resolve_arguments.Goals as goal

pub loop-argument-init : goal.loop-argument-init
loop-argument-init c = record {
  adds = adds_same c.args.types.now;
  grows = grows_same c.args.statements.now;
  made = ([], no_arguments (scope_of c.args.scope.now) c.args.types.now, none_added c.args.statements.now);
  fits = sym (and-true c.args.fits.now);
}

pub loop-argument-preserved : goal.loop-argument-preserved
loop-argument-preserved c =
    let i = c.loop-argument.invariant in
    let e = c.in_ok-ty.ensures in
    let a = c.argument-item in
    let p : Operand × _ → Bool = λ x. has_arguments (scope_of c.args.scope.now) (written x.1) in
    record {
      adds = adds_then _ _ _ i.adds e.adds;
      grows = grows_further _ _ _ i.grows c.in_ok-add_argument-in-Some.ensures.grows;
      made = (
        _,
        arguments_more _ _ e.adds (scope_of c.args.scope.now) c.args.arguments.now c.loop-argument.argument-index
            i.made.0 a.result c.in-Some.ty c.loop-argument-test.true a.is (rw c.in-Some.is at e.resolved) i.made.1,
        added_more c.args.statements.now c.loop-argument.statements c.add_argument.new.self i.made.0 _ i.made.2
            c.in_ok-add_argument-in-Some.ensures.added,
      );
      fits = (rw c.in-Some.is at e.fits)
          ∙ (ap (λ b. b && p a.result) i.fits
          ∙ (and_assoc c.args.fits.now _ (p a.result)
          ∙ ap (λ b. c.args.fits.now && b)
          (ap (λ x. list_all p (take c.loop-argument.argument-index c.args.arguments.now) && p x) a.is
          ∙ sym (list_all_more p c.args.arguments.now c.loop-argument.argument-index a.result
          c.loop-argument-test.true))));
    }

pub returns-in-None-clause-made : goal.returns-in-None-clause-made
returns-in-None-clause-made c =
    let known : Operand × _ → Bool = λ x. is_known (scope_of c.args.scope.now) (written x.1) in
    list_all_at known c.args.arguments.now c.loop-argument.argument-index c.argument-item.result
    c.loop-argument-test.true
    (ap known (sym c.argument-item.is) ∙ (rw c.in-None.is at c.in_ok-ty.ensures.resolved))

pub returns-clause-made : goal.returns-clause-made
returns-clause-made c =
    let s = scope_of c.args.scope.now in
    let i = c.loop-argument.invariant in
    let texts = c.args.arguments.now in
    let all = take_all c.loop-argument.argument-index texts c.loop-argument-test.false in
    let of = rw all at i.made.1 in (
      i.made.0,
      of,
      added_slice s texts _ c.args.statements.now c.loop-argument.statements i.made.0 _ of i.made.2
          c.call_counts.ensures.arguments refl,
      rw all at i.fits,
    )
