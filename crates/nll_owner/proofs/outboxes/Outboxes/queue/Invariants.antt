use Rattle.std.proofs.Common.{◌≡◌, ◌-◌, length}
use Rattle.std.specs.List.{range_with_len}
use Rattle.nll_cut.specs.Readers.{is_read}
use Rattle.nll_owner.specs.Outboxes.{outboxes_of, GotPlaces}
use Rattle.nll_owner.proofs.outboxes.Outboxes.queue.Given as goal

abbrev pub invariant-loop-reader : goal.invariant-loop-reader
invariant-loop-reader l = record {
  first : l.places.first ≡ l.fn.self.place;
  end : l.places.end ≡ l.end;
  place : l.self-inside.place ≡ l.end;
  count : length l.self-inside.queues.items ≡ length l.fn.self.queues;
  got : GotPlaces (λ j. is_read l.readers j l.region)
      (range_with_len l.fn.self.place (l.end - l.fn.self.place)) l.from l.fn.self
      (outboxes_of l.self-inside.queues.items l.self-inside.place);
}

abbrev pub decreases-loop-reader : goal.decreases-loop-reader
decreases-loop-reader l = length l.fn.self.queues - l.from
