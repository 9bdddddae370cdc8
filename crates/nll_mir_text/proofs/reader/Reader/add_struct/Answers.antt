use Rattle.std.proofs.lemmas.List.Elements.{All-from_recursion}
use Rattle.nll_mir_grammar.specs.Lines.{parameter_of}
use Rattle.nll_mir_text.specs.MirReading.{IsNamed}
use Rattle.nll_mir_text.proofs.OwnLemmas.{named_each}
use Rattle.nll_mir_text.proofs.reader.Reader.add_struct.Goals as goal

pub gather_names-requires : goal.gather_names-requires
gather_names-requires c =
    rw c.as_slice.ensures.value (All-from_recursion (λ p. IsNamed (parameter_of p)) _ (named_each _ c.requires.texts.1))
