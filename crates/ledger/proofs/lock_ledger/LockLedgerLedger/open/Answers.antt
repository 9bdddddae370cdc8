use Rattle.ledger.proofs.LockLemmas.{begins}
use Rattle.ledger.proofs.lock_ledger.LockLedgerLedger.open.Goals as goal

pub ruled-requires-clause-rule : goal.ruled-requires-clause-rule
ruled-requires-clause-rule g c = begins
