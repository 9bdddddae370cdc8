use Rattle.std.proofs.Common.{[], ◌∷◌, inr, refl}
use Rattle.std.proofs.lemmas.List.{map-append}
use Rattle.std.proofs.lemmas.Result.{err_from_is_err_and, on_ok_weaker, IfErr-weaker}
use Rattle.nll_format.specs.Listing.{format_of}
use Rattle.nll_format.specs.Reading.{skips}
use Rattle.nll_format.proofs.ListingLemmas.{passes, formless, entry_read, entry_faulty, entries_taken, entries_refused}
use Rattle.nll_lists.proofs.list.ItemsLineReader.read_line.Goals as goal

pub returns-in_err-item-clause-refused : goal.returns-in_err-item-clause-refused
returns-in_err-item-clause-refused g c =
    let p = err_from_is_err_and c.from_residual.result c.from_residual.ensures.1 in
    let e = c.in_err-item.ensures in
    let listing = g.F.ListFormat.listing c.args.format.now in
    let part = g.met.F.ListFormat.some_part c.args.format.now e.0 in
    rw (p.1, p.2) (entries_refused listing _ _ _ (inr (entry_faulty listing _ _ part.0 part.1 e.0 _ part.2 e.1 e.2)))

pub returns-in_ok-push-in-Some-clause-taken : goal.returns-in_ok-push-in-Some-clause-taken
returns-in_ok-push-in-Some-clause-taken g c =
    let listing = g.F.ListFormat.listing c.args.format.now in
    let entry = g.F.ListFormat.entry c.args.format.now in
    let e = rw c.in-Some.is at c.in_ok-item.ensures in
    let part = g.met.F.ListFormat.some_part c.args.format.now (entry c.in-Some.item) in
    rw (c.in_ok-push-in-Some.ensures.items, map-append entry c.args.self.now.list.items (c.in-Some.item ∷ []))
    (entries_taken listing _ _ _ (entry_read listing _ _ part.0 part.1 _ part.2 e.0 e.1))

pub returns-in-None-clause-taken : goal.returns-in-None-clause-taken
returns-in-None-clause-taken g c =
    let listing = g.F.ListFormat.listing c.args.format.now in
    on_ok_weaker c.pass_over.result (λ h. entries_taken listing _ _ _ (skips (passes (format_of listing) _ _ h) refl))
    c.pass_over.ensures.ok

pub returns-in-None-clause-refused : goal.returns-in-None-clause-refused
returns-in-None-clause-refused g c =
    let listing = g.F.ListFormat.listing c.args.format.now in
    IfErr-weaker c.pass_over.result _ _
    (λ kind wrong. entries_refused listing _ _ _
    (inr (formless (format_of listing) _ _ kind (rw c.in-None.is at c.in_ok-item.ensures) wrong)))
    c.pass_over.ensures.fault
