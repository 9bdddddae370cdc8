use Rattle.std.proofs.Common.{arith}
use Rattle.ledger.proofs.WordLemmas.{stops}
use Rattle.ledger.proofs.word_ledger.WordLedgerLedger.stop.Goals as goal

pub fetch_or-requires : goal.fetch_or-requires
fetch_or-requires c =
    let s = c.args.share.now in (
      c.requires.0,
      omega (arith, c.args.book.now.two.0),
      stops c.args.book.now.table.shared.table_id.slots s.seat.id s.seat.me.0 s.seat.me.1 s.some,
    )
