use Rattle.std.proofs.Common.{◌+◌, refl}
use Rattle.ledger.proofs.WordLemmas.{opens}
use Rattle.ledger.proofs.word_ledger.WordLedgerLedger.open.Goals as goal

pub of_words-requires : goal.of_words-requires
of_words-requires c = opens c.args.owners (4611686018427387904 + c.args.owners) c.requires.1 refl
