use Rattle.std.proofs.lemmas.List.{append_assoc}
use Rattle.nll_answer.proofs.faults_report.push_fault.Goals as goal

pub returns : goal.returns
returns c =
    simp (
      append_assoc,
      c.in_ok-push_str.ensures.bytes,
      c.in_ok-write-2.ensures.bytes,
      c.in_ok-write.ensures.bytes,
      c.region-longer.ensures,
      c.region-shorter.ensures,
    )
