use Rattle.std.proofs.Common.{arith}
use Rattle.ledger.proofs.WordLemmas.{leaves}
use Rattle.ledger.proofs.word_ledger.weigh.Goals as goal

pub load-requires : goal.load-requires
load-requires c =
    let s = c.args.seat.now in (
      c.requires,
      omega (arith, c.args.book.now.two.0),
      leaves c.args.book.now.table.shared.table_id.slots s.id s.me.0 s.me.1,
    )
