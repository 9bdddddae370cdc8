use Rattle.std.proofs.Common.{ap, refl}
use Rattle.nll_body.specs.Statements.{read}
use Rattle.nll_body.proofs.FlatLemmas.{places_grow}
use Rattle.nll_mir_text.specs.Resolution.{scope_of}
use Rattle.nll_mir_grammar.specs.Lines.{statement_of}
use Rattle.nll_mir_text.proofs.ResolvedLemmas.{adds_same, flat_of, grows_same, made_resolved, put, IsPut}
use Rattle.nll_mir_text.proofs.resolution.resolve_statement.Goals as goal
use Rattle.nll_mir_text.proofs.resolution.resolve_statement.Goals.{in-Assign+in_ok-made-in-Assign, in-Borrow+in-Some+in_ok-made-in-Borrow, in-Read+in_ok-add_place-in-Read, in-Live, in-Dead, in-Nop, in-Goto, in-Switch+in_ok-made-in-Switch, in-Drop-default-default-None, in-Drop-default-default-Some, in-Return, in-Stop}

is_put : (c : goal.Joined-statement) → IsPut (scope_of c.args.scope.now) (statement_of c.args.statement.now)
    c.args.types.now c.args.statements.now c.match-statement.statements c.match-statement.made
is_put c =
    let s = scope_of c.args.scope.now in
    let types = c.args.types.now in
    elim c.match-statement.branch [
      | in-Assign+in_ok-made-in-Assign w ↦
          rw (w.statements-is, w.made-is, w.in-Assign.is)
          (put s _ types _ _ _ _ w.in_ok-made-in-Assign.ensures.grows w.in_ok-made-in-Assign.ensures.flat refl refl refl
          refl)
      | in-Borrow+in-Some+in_ok-made-in-Borrow w ↦
          rw (w.statements-is, w.made-is, w.in-Borrow.is)
          (put s _ types _ _ _ _ w.in_ok-made-in-Borrow.ensures.grows w.in_ok-made-in-Borrow.ensures.flat
          (rw w.in-Some.ensures.0 refl) refl refl (rw w.in-Some.ensures.1 refl))
      | in-Read+in_ok-add_place-in-Read w ↦
          rw (w.statements-is, w.made-is, w.in-Read.is)
          (put s _ types _ _ _ _ (places_grow _ _ w.in_ok-add_place-in-Read.ensures.places)
          (w.in_ok-add_place-in-Read.ensures.number.0, ap read w.in_ok-add_place-in-Read.ensures.number.1) refl
          refl refl refl)
      | in-Live w ↦
          rw (w.statements-is, w.made-is, w.in-Live.is)
          (put s _ types _ _ _ _ (grows_same _) (tt, refl) refl refl refl refl)
      | in-Dead w ↦
          rw (w.statements-is, w.made-is, w.in-Dead.is)
          (put s _ types _ _ _ _ (grows_same _) (tt, refl) refl refl refl refl)
      | in-Nop w ↦
          rw (w.statements-is, w.made-is, w.in-Nop.is)
          (put s _ types _ _ _ _ (grows_same _) (tt, refl) refl refl refl refl)
      | in-Goto w ↦
          rw (w.statements-is, w.made-is, w.in-Goto.is)
          (put s _ types _ _ _ _ (grows_same _) (tt, refl) refl refl refl refl)
      | in-Switch+in_ok-made-in-Switch w ↦
          rw (w.statements-is, w.made-is, w.in-Switch.is)
          (put s _ types _ _ _ _ w.in_ok-made-in-Switch.ensures.grows
          (rw w.as_slice.ensures.value at w.in_ok-made-in-Switch.ensures.flat) refl refl refl refl)
      | in-Drop-default-default-None w ↦
          let unwind = rw w.in-Drop-default-default-None.is at w.in-Drop-default-default-None.field-2-is in
          rw (w.statements-is, w.made-is, w.in-Drop-default-default-None.is, unwind)
          (put s _ types _ _ _ _ (grows_same _) (tt, refl) refl refl refl refl)
      | in-Drop-default-default-Some w ↦
          let unwind = rw w.in-Drop-default-default-Some.is at w.in-Drop-default-default-Some.field-2-is in
          rw (w.statements-is, w.made-is, w.in-Drop-default-default-Some.is, unwind)
          (put s _ types _ _ _ _ (grows_same _) (tt, refl) refl refl refl refl)
      | in-Return w ↦
          rw (w.statements-is, w.made-is, w.in-Return.is)
          (put s _ types _ _ _ _ (grows_same _) (tt, refl) refl refl refl refl)
      | in-Stop w ↦
          rw (w.statements-is, w.made-is, w.in-Stop.is)
          (put s _ types _ _ _ _ (grows_same _) (tt, refl) refl refl refl refl)
    ]

pub returns-clause-adds : goal.returns-clause-adds
returns-clause-adds c = adds_same c.args.types.now

pub returns-clause-grows : goal.returns-clause-grows
returns-clause-grows c = (is_put c).grows

pub returns-clause-made : goal.returns-clause-made
returns-clause-made c = (is_put c).of

pub returns-clause-fits : goal.returns-clause-fits
returns-clause-fits c = (is_put c).fits c.args.fits.now

pub returns-in-Make-clause-made : goal.returns-in-Make-clause-made
returns-in-Make-clause-made c =
    rw c.in-Make.is (flat_of (scope_of c.args.scope.now) _ _ _ _ _
    (made_resolved (scope_of c.args.scope.now) _ c.in-Make.make.value c.in-Some-2.ty
    (rw c.deref.ensures at (rw c.in-Some-2.is at c.in_ok-ty-in-Make.ensures.resolved)))
    (rw c.deref-in-Make-2.ensures at (rw c.deref-in-Make.ensures at (rw c.as_slice-operands.ensures.value at
    c.in_ok-add_make-in-Make.ensures.flat))))
