use Rattle.std.proofs.Common.{subst, ap, sym, ◌∙◌}
use Rattle.nll_body.specs.Sound.{IsSoundBody}
use Rattle.nll_mir_text.specs.MirText.{body_said}
use Rattle.nll_mir_text.proofs.SoundLemmas.{sound_text}
use Rattle.nll_mir_text.proofs.mir.read_mir.Goals as goal

pub new-requires-clause-sound : goal.new-requires-clause-sound
new-requires-clause-sound c =
    let h = c.in_ok-reader.ensures.ok in
    subst IsSoundBody (sym c.finish.ensures.body) (subst IsSoundBody (ap body_said h.3) (sound_text h.0 _ h.1 h.2))

pub new-requires-clause-typed : goal.new-requires-clause-typed
new-requires-clause-typed c = c.finish.ensures.typed

pub returns-in-Ok-new-clause-ok : goal.returns-in-Ok-new-clause-ok
returns-in-Ok-new-clause-ok c =
    let h = c.in_ok-reader.ensures.ok in
    record {
      version = h.0;
      forms = h.1;
      fits = h.2;
      same = c.in-Ok-new.ensures.ok ∙ (c.finish.ensures.body ∙ sym (ap body_said h.3));
    }
