-- What a refused post answers.
-- Source: project's choice.
use Rattle.std.specs.Prelude.{Bool, true, false}
use Rattle.mail.specs.declared.mail.PostError.{PostError}
use Rattle.mail.specs.declared.mail.PostError.TheVariants.{Full, Memory}

-- the message comes back: from a mailbox of bounded room, since it is full; from one that grows,
-- for refused memory
abbrev pub refusal : {T : Type 0} → Bool → T → PostError T
refusal true message = Full message
refusal false message = Memory message
