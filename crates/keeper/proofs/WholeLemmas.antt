-- What a keeper has between two calls.
use Rattle.std.proofs.Common.{◌≡◌, ℕ, Bool, true, false, List, refl, sym, ap, ◌∙◌, subst}
use Rattle.std.specs.Prelude.{Result, Ok, Err, OnOk, is_ok, is_err}
use Rattle.std.proofs.lemmas.Bool.{false≢true}
use Rattle.fixpoint.specs.Rules.{Rules}
use Rattle.fixpoint.specs.State.{State, IsDone}
use Rattle.keeper.specs.Keeping.{IsQuiet, IsWholePart}

module _ {A F G : Type 0} (rules : Rules A F G) (stored : F → Bool) (due : List F) (looked : ℕ)
    (lists : List (List G)) where
  -- how much was given changes nothing
  given_whole : (o : State A G) (gave : List ℕ) → IsWholePart rules o stored due looked lists
      → IsWholePart rules (record o { given = gave }) stored due looked lists
  given_whole o gave w = record {
    quiet = record {
      store = w.quiet.store;
      none_due = w.quiet.none_due;
      whole_log = w.quiet.whole_log;
      parts = w.quiet.parts;
    };
    done = w.done;
    fresh = w.fresh;
  }

  pub whole_given : (o n : State A G) (gave : List ℕ) → n ≡ record o { given = gave }
      → (o.broken ≡ false → IsWholePart rules o stored due looked lists) → n.broken ≡ false
      → IsWholePart rules n stored due looked lists
  whole_given o n gave is whole fine =
      subst (λ (x : State A G). IsWholePart rules x stored due looked lists) (sym is)
      (given_whole o gave (whole (sym (ap (λ (x : State A G). x.broken) is) ∙ fine)))

  marked_whole : (o : State A G) (b : Bool) → IsQuiet rules o stored due looked lists → IsDone rules o
      → IsWholePart rules (record o { loaded = true; broken = b }) stored due looked lists
  marked_whole o b q d = record {
    quiet = record {
      store = q.store;
      none_due = q.none_due;
      whole_log = q.whole_log;
      parts = q.parts;
    };
    done = λ _. d;
    fresh = λ h. absurd (false≢true (sym h));
  }

  -- a call that wasn't refused left nothing to do
  pub whole_after : {T E : Type 0} (o n : State A G) (r : Result T E) (l b : Bool) → (is_ok r ≡ true → l ≡ true)
      → b ≡ is_err r → n ≡ record o { loaded = l; broken = b } → OnOk r (IsQuiet rules o stored due looked lists)
      → OnOk r (IsDone rules o) → n.broken ≡ false → IsWholePart rules n stored due looked lists
  whole_after o n (Ok x) l b loads broken is q d fine =
      subst (λ (x : State A G). IsWholePart rules x stored due looked lists)
      (sym (is ∙ ap (λ t. record o { loaded = t; broken = b }) (loads refl))) (marked_whole o b q d)
  whole_after o n (Err e) l b loads broken is q d fine =
      absurd (false≢true (sym fine ∙ (ap (λ (x : State A G). x.broken) is ∙ broken)))

-- nothing is left to do after the marks either
pub done_after : {A F G T E U D : Type 0} (rules : Rules A F G) (a : Result T E) (r : Result U D) (o n : State A G)
    (l b : Bool) → is_ok a ≡ is_ok r → n ≡ record o { loaded = l; broken = b } → OnOk r (IsDone rules o)
    → OnOk a (IsDone rules n)
done_after {A} {F} {G} rules (Ok x) (Ok y) o n l b same is d = subst (λ (x : State A G). IsDone rules x) (sym is) d
done_after rules (Ok x) (Err e) o n l b same is d = absurd (false≢true (sym same))
done_after rules (Err e) r o n l b same is d = tt
