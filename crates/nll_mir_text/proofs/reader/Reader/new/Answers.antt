use Rattle.std.proofs.Common.{refl, ap, length, arith}
use Rattle.nll_mir_text.proofs.reader.Reader.new.Goals as goal

pub returns-clause-ready : goal.returns-clause-ready
returns-clause-ready c =
    record {
      static = omega arith;
      universals = omega (arith, ap length c.in_ok-names.ensures);
      few_universals = omega arith;
      few_regions = omega (arith, ap length c.in_ok-names.ensures);
      no_parameter = c.empty-2.ensures;
      named_structs = rw (c.empty.ensures, c.new-5.ensures.structs) refl;
      counted_kinds = rw (c.new-4.ensures.items, c.new-5.ensures.structs) refl;
      kinds = rw (c.new-4.ensures.items, c.new-5.ensures.structs)
          record { regions = λ n l. absurd (omega (arith, l)); types = λ n l. absurd (omega (arith, l)) };
      few_structs = omega (arith, ap length c.new-5.ensures.structs);
      few_variables = omega (arith, ap length c.new-6.ensures.items);
      rows = record {
        variables = rw c.new-6.ensures.items (λ k d l. absurd (omega (arith, l)));
        points = rw c.new-8.ensures (λ k d l. absurd (omega (arith, l)));
      };
      few_blocks = omega arith;
      no_start = λ h. ap length c.new-7.ensures.items;
      starts = omega (arith, ap length c.new-7.ensures.items);
      few_points = omega (arith, ap length c.new-8.ensures);
      edges = rw c.new-8.ensures refl;
      few_edges = omega arith;
    }
