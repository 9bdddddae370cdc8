-- An owner may go to another thread, and threads may share the analysis of regions.
use Rattle.std.proofs.Crossing.{crosses}
use denote.Ref.{NamedLft}
use denote.Struct.Declared.{shape}
use denote.Param.Send.{IsSend, IsSync, sendable, recorded_send, struct_send, view_send}
use Rattle.nll_core.specs.contracts.frontiers.steps.Steps as steps
use Rattle.nll_problem.proofs.problem.Problem.TheSendSync as problem
use Rattle.nll_cut.proofs.cut.Cut.TheSendSync as cut
use Rattle.nll_owner.specs.contracts.regions.Regions as regions
use Rattle.nll_owner.specs.contracts.tables.Tables as tables
use Rattle.nll_owner.specs.contracts.owner.Owner as owner
use Rattle.nll_owner.specs.contracts.owner.Owner.TheInside as inside
use Rattle.nll_owner.proofs.knowledge.Knowledge.TheSendSync as knowledge
use Rattle.nll_owner.proofs.follow_up.Following.TheSendSync as following
use Rattle.nll_owner.proofs.outboxes.Outboxes.TheSendSync as outboxes

pub steps_send : IsSend steps.the_row
steps_send = search (crosses, sendable) depth 30

pub steps_sync : IsSync steps.the_row
steps_sync = search (crosses, sendable) depth 30

pub tables_send : IsSend tables.the_row
tables_send = search (crosses, sendable, steps_send) depth 30

pub tables_sync : IsSync tables.the_row
tables_sync = search (crosses, sendable, steps_sync) depth 30

inside_send : (α : NamedLft) → IsSend (inside.the_row α)
inside_send α =
    recorded_send (inside.the_field α).row _ _ (inside.the_type α).to_one (struct_send (shape (inside.the_type α)) (
      search (crosses, sendable, tables_send, tables_sync) depth 9,
      (knowledge.the_send α, (following.the_send, (outboxes.the_send, tt))),
    ))

pub owner_send : (α : NamedLft) → IsSend (owner.the_row α)
owner_send α = view_send (inside.the_row α) _ _ _ _ (inside_send α)

pub regions_sync : (α : NamedLft) → IsSync (regions.the_row α)
regions_sync α = search (crosses, sendable, tables_sync, problem.the_sync, cut.the_sync) depth 12
