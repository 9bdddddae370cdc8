use Rattle.std.proofs.Common.{arith}
use Rattle.std.proofs.lemmas.Bool.{false≢true}
use Rattle.nll_text_tests.proofs.LiveRoundLemmas.{flag_within}
use Rattle.nll_text_tests.proofs.live_rounds.is_flagged.Goals as goal

pub returns : goal.returns
returns c = (
  λ h. absurd (false≢true h),
  λ h. absurd (omega (arith, flag_within c.args.flags.now c.args.point h, c.if-point-flags.false)),
)
