-- Workers without a part.
use Rattle.worker.specs.Finishing.{IsError, WasMade}
use Rattle.fixpoint.specs.declared.ending.Ending.{Ending}
use Rattle.fixpoint.specs.declared.ending.Ending.TheVariants.{Quiet, Stopped, Memory, Forbidden, Unstarted, NoOwner, Stray}

-- a worker without a part is an error
pub unmade_error : (e : Ending) → (WasMade e → ⊥) → IsError e
unmade_error Quiet off = absurd (off tt)
unmade_error Stopped off = absurd (off tt)
unmade_error Memory off = tt
unmade_error NoOwner off = tt
unmade_error Stray off = tt
unmade_error Forbidden off = tt
unmade_error Unstarted off = tt
