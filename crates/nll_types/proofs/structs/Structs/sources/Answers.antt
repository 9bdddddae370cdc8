use Rattle.std.proofs.Common.{◌<◌, ◌≤◌, refl, length, map, [], arith, subst}
use Rattle.std.proofs.lemmas.List.{length-map}
use Rattle.std.proofs.lemmas.Option.{slice_get_read}
use Rattle.nll_types.specs.Sources.{AreSourcesOf}
use Rattle.nll_types.proofs.DeclareLemmas.{get_mapped}
use Rattle.nll_types.proofs.structs.Structs.sources.Goals as goal

pub returns : goal.returns
returns c =
    let entries = c.self.inside.entries.items in
    let read = rw c.deref.ensures.value at c.in_ok-entry.ensures.lookup in
    let item = slice_get_read entries _ c.args.number c.in_ok-entry.entry.now refl read.3.0 read.1 in
    let n : c.args.number < length (map (λ entry. entry.declaration) entries) =
    omega (arith, read.3.0, length-map entries (λ entry. entry.declaration)) in
    let k = c.self.invariant.known c.args.number n in
    rw (← c.self.view_is) (subst (AreSourcesOf _ c.args.number)
    (get_mapped (λ entry. entry.sources.keys) entries c.args.number c.in_ok-entry.entry.now [] item) k)

pub returns-in_err-entry : goal.returns-in_err-entry
returns-in_err-entry c =
    let entries = c.self.inside.entries.items in
    let read = rw c.deref.ensures.value at c.in_err-entry.ensures.lookup in
    let past : length (map (λ entry. entry.declaration) entries) ≤ c.args.number =
    omega (arith, read.3, length-map entries (λ entry. entry.declaration)) in
    rw (c.from_residual.ensures, ← c.self.view_is) past
