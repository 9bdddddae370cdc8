use Rattle.std.proofs.Common.{◌+◌, ◌≤◌, ap, arith}
use Rattle.atomic_table.specs.Table.{Me}
use Rattle.ledger.specs.Amounts.{total_bound}
use Rattle.ledger.specs.declared.figures.Figures.{Figures}
use Rattle.ledger.proofs.WordLemmas.{clears}
use Rattle.ledger.proofs.word_ledger.WordLedgerLedger.clear.Goals as goal

pub fetch_sub-requires : goal.fetch_sub-requires
fetch_sub-requires c =
    let s = c.args.share.now in let v = s.seat.me.0 in
    let few : v.cleared + c.args.amount ≤ total_bound =
    (let is = ap (λ (m : Me (Unit {0}) Figures). m.0.cleared) s.knows in omega (arith, is, c.requires.few.1)) in (
      c.requires.book.0,
      omega (arith, c.args.book.now.two.0),
      clears c.args.book.now.table.shared.table_id.slots s.seat.id v s.seat.me.1 c.args.amount s.some
          (ap (λ (m : Me (Unit {0}) Figures). m.0.quiets) s.knows) few,
    )
