use Rattle.std.proofs.Common.{arith}
use Rattle.ledger.proofs.WordLemmas.{looks}
use Rattle.ledger.proofs.word_ledger.look.Goals as goal

pub load-found-requires : goal.load-found-requires
load-found-requires c =
    let s = c.args.share.now in (
      c.requires.share.0,
      omega (arith, c.args.book.now.two.0),
      looks c.args.book.now.table.shared.table_id.slots s.seat.id s.seat.me.0 s.seat.me.1 s.some,
    )
