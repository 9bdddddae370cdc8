use Rattle.std.proofs.Common.{ℕ, List, refl, inl, inr, ⊎_elim}
use Rattle.std.proofs.lemmas.Result.{on_ok_weaker, IfErr-weaker}
use Rattle.nll_format.specs.Lines.{TakesIn, TurnsDown}
use Rattle.nll_format.specs.Text.{of_form, at_form}
use Rattle.nll_format.specs.Reading.{skips, reads}
use Rattle.nll_format.specs.declared.error.TextKind.{TextKind}
use Rattle.nll_format.proofs.ListingLemmas.{passes, formless}
use Rattle.nll_mir_grammar.specs.MirForms.{Form}
use Rattle.nll_mir_grammar.specs.Versions.{HasFormIn}
use Rattle.nll_mir_grammar.specs.declared.version.Version.{Version}
use Rattle.nll_mir_text.specs.MirReading.{said_by, HoldsForms, IsTaken, IsRefused}
use Rattle.nll_mir_text.specs.MirText.{mir}
use Rattle.nll_mir_text.specs.declared.reader.Reader.{Reader}
use Rattle.nll_mir_text.proofs.FormLemmas.{form_utf8, form_kept, texts_in, few_parameters_in}
use Rattle.nll_mir_text.proofs.TextLemmas.{takes_in, turns_down}
use Rattle.nll_mir_text.proofs.reader.ReaderLineReaderVersion.read_line.Goals as goal

-- what is said of a line's form is said of the line
module _ (v : Version) (line : List ℕ) (f : Form) (form : HasFormIn v line f) (r : Reader) where
  taken_in : (t : Reader) → IsTaken (said_by r) f t → TakesIn (mir v) (HoldsForms r) (HoldsForms t) line
  taken_in t told = takes_in v _ _ line
      (reads f (of_form f (form_utf8 _ _ form.0) (form_kept _ _ form.0) form told.fine) told.says)

  turned_down : (kind : TextKind) → IsRefused (said_by r) f kind → TurnsDown (mir v) (HoldsForms r) line kind
  turned_down kind refused = turns_down v _ line kind
      (⊎_elim inl (λ fault. inr (at_form f kind (form_utf8 _ _ form.0) (form_kept _ _ form.0) form fault)) refused)

pub returns-in-Some-clause-ready : goal.returns-in-Some-clause-ready
returns-in-Some-clause-ready c = on_ok_weaker c.add_light.result (λ told. told.ready) c.add_light.ensures.taken

pub returns-in-Some-clause-taken : goal.returns-in-Some-clause-taken
returns-in-Some-clause-taken c =
    let form = rw c.in-Some.is at c.light_line.ensures in
    on_ok_weaker c.add_light.result (taken_in _ _ _ (form c.args.version.now) c.args.self.now c.add_light.new.self)
    c.add_light.ensures.taken

pub returns-in-Some-clause-refused : goal.returns-in-Some-clause-refused
returns-in-Some-clause-refused c =
    let form = rw c.in-Some.is at c.light_line.ensures in
    IfErr-weaker c.add_light.result _ _ (turned_down _ _ _ (form c.args.version.now) c.args.self.now)
    c.add_light.ensures.refused

pub returns-in-Some-light_block-clause-ready : goal.returns-in-Some-light_block-clause-ready
returns-in-Some-light_block-clause-ready c =
    on_ok_weaker c.begin_block.result (λ told. told.ready) c.begin_block.ensures.taken

pub returns-in-Some-light_block-clause-taken : goal.returns-in-Some-light_block-clause-taken
returns-in-Some-light_block-clause-taken c =
    let form = rw c.in-Some-light_block.is at c.light_block.ensures in
    on_ok_weaker c.begin_block.result (taken_in _ _ _ (form c.args.version.now) c.args.self.now c.begin_block.new.self)
    c.begin_block.ensures.taken

pub returns-in-Some-light_block-clause-refused : goal.returns-in-Some-light_block-clause-refused
returns-in-Some-light_block-clause-refused c =
    let form = rw c.in-Some-light_block.is at c.light_block.ensures in
    IfErr-weaker c.begin_block.result _ _ (turned_down _ _ _ (form c.args.version.now) c.args.self.now)
    c.begin_block.ensures.refused

pub accept-taken-requires-clause-texts : goal.accept-taken-requires-clause-texts
accept-taken-requires-clause-texts c = let form = rw c.in-Some-2.is at c.in_ok-form.ensures in texts_in _ _ form.0

pub accept-taken-requires-clause-few : goal.accept-taken-requires-clause-few
accept-taken-requires-clause-few c =
    let form = rw c.in-Some-2.is at c.in_ok-form.ensures in few_parameters_in _ _ c.requires.short form.0

pub returns-in-Some-2-clause-ready : goal.returns-in-Some-2-clause-ready
returns-in-Some-2-clause-ready c = on_ok_weaker c.accept-taken.result (λ told. told.ready) c.accept-taken.ensures.taken

pub returns-in-Some-2-clause-taken : goal.returns-in-Some-2-clause-taken
returns-in-Some-2-clause-taken c =
    let form = rw c.in-Some-2.is at c.in_ok-form.ensures in
    on_ok_weaker c.accept-taken.result (taken_in _ _ _ form c.args.self.now c.accept-taken.new.self)
    c.accept-taken.ensures.taken

pub returns-in-Some-2-clause-refused : goal.returns-in-Some-2-clause-refused
returns-in-Some-2-clause-refused c =
    let form = rw c.in-Some-2.is at c.in_ok-form.ensures in
    IfErr-weaker c.accept-taken.result _ _ (turned_down _ _ _ form c.args.self.now) c.accept-taken.ensures.refused

pub returns-in-None-clause-taken : goal.returns-in-None-clause-taken
returns-in-None-clause-taken c =
    let format = mir c.args.version.now in
    on_ok_weaker c.pass_over.result
    (λ h. takes_in c.args.version.now _ _ _ (skips (passes format _ _ h) refl)) c.pass_over.ensures.ok

pub returns-in-None-clause-refused : goal.returns-in-None-clause-refused
returns-in-None-clause-refused c =
    let format = mir c.args.version.now in
    let none = rw c.in-None.is at c.in_ok-form.ensures in
    IfErr-weaker c.pass_over.result _ _
    (λ kind wrong. turns_down c.args.version.now _ _ kind (inr (formless format _ _ kind none wrong)))
    c.pass_over.ensures.fault
