use Rattle.std.proofs.Common.{take}
use Rattle.nll_owner.specs.Following.{AreLinksOf, AreFresh}
use Rattle.nll_owner.proofs.link_table.list_links.Given as goal

abbrev pub invariant-loop-k : goal.invariant-loop-k
invariant-loop-k l = record {
  links : AreLinksOf l.cut l.me l.sub (take l.k-index l.constraints) l.row.items;
  fresh : AreFresh l.row.items;
}
