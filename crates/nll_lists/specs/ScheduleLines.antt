-- The code's lines as the events that they are, and that a line of an event has a part.
-- Source: project's choice. Only private contracts cite this file.
use Rattle.std.specs.Prelude.{◌≡◌, List, [], ◌∷◌, codes, refl}
use Rattle.nll_model.specs.declared.event.Event.{Event}
use Rattle.nll_model.specs.declared.event.Event.TheVariants.{Load, Take, Owe, Clear, Push, Leave}
use Rattle.nll_format.specs.Parts.{Part, keyword, number}
use Rattle.nll_lists.specs.ScheduleText.{event_parts}
use Rattle.nll_lists.specs.declared.event_line.Line.{Line}
use Rattle.nll_lists.specs.declared.event_line.Line.TheVariants as lines

-- the event of a line, whether or not its numbers are owners'
abbrev pub event_view : Line → Event
event_view (lines.Load i) = Load i
event_view (lines.Take i j) = Take i j
event_view (lines.Owe i) = Owe i
event_view (lines.Clear i) = Clear i
event_view (lines.Push i j) = Push i j
event_view (lines.Leave i) = Leave i

-- the line of an event has a part
pub first_part : (e : Event)
    → (first : Part) × (rest : List Part) × (event_parts e ≡ first ∷ rest)
first_part (Load i) = (keyword (codes "load"), number i ∷ [], refl)
first_part (Take i j) = (keyword (codes "take"), number i ∷ number j ∷ [], refl)
first_part (Owe i) = (keyword (codes "owe"), number i ∷ [], refl)
first_part (Clear i) = (keyword (codes "clear"), number i ∷ [], refl)
first_part (Push i j) = (keyword (codes "push"), number i ∷ number j ∷ [], refl)
first_part (Leave i) = (keyword (codes "leave"), number i ∷ [], refl)
