-- What writes in a row do to the known bytes of a writer.
use Rattle.std.proofs.Common.{arith, ◌≡◌, ℕ, ◌+◌, ◌-◌, List, ◌++◌, Option, Result, Ok, Err, OnOk, IfErr, length, take, take_all, drop, sym, ap, ◌∙◌, subst}
use Rattle.std.proofs.Math.Seq.{take-add}
use Rattle.std.proofs.lemmas.List.{take_rest}
use Rattle.std.proofs.KnownBytes.{Appends-kept, Appends-trans}
use Rattle.std.specs.Io.KnownBytes.{Appends, Keeps}
use Rattle.nll_report.specs.declared.error.Unwritten.{Unwritten}

-- the first i bytes and then the first n of the rest are the first i + n
pub Appends-take : (old mid new : Option (List ℕ)) (bytes : List ℕ) (i n : ℕ)
    → Appends old mid (take i bytes) → Appends mid new (take n (take (length bytes - i) (drop i bytes)))
    → Appends old new (take (i + n) bytes)
Appends-take old mid new bytes i n first next =
    let joined : take (i + n) bytes ≡ take i bytes ++ take n (take (length bytes - i) (drop i bytes)) =
    take-add i n bytes ∙ ap (λ rest. take i bytes ++ take n rest) (sym (take_rest bytes i)) in
    subst (Appends old new) (sym joined) (Appends-trans old mid new _ _ first next)

-- bytes that were written, or begun, are begun
pub begins : (old mid new : Option (List ℕ)) (bytes : List ℕ) (r : Result (Unit {0}) Unwritten)
    → OnOk r (Appends old mid bytes) → IfErr r (λ e. Appends old mid (take e.written bytes)) → Keeps mid new
    → (count : ℕ) × Appends old new (take count bytes)
begins old mid new bytes (Ok done) all first kept = (
  length bytes,
  Appends-kept old mid new _
      (subst (Appends old mid) (sym (take_all (length bytes) bytes (omega arith))) all) kept,
)
begins old mid new bytes (Err e) all first kept = (e.written, Appends-kept old mid new _ first kept)
