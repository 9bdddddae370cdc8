-- What a call hands on where another failed.
use Rattle.std.proofs.Common.{Result, Ok, Err}
use Rattle.std.specs.Prelude.{IfOk, IsErrAnd}

-- an error says nothing of a value
pub failed : {T E : Type 0} (r : Result T E) (P : T → Type 0) (Q : E → Type 0) → IsErrAnd r Q → IfOk r P
failed (Ok x) P Q h = absurd h
failed (Err e) P Q h = tt
