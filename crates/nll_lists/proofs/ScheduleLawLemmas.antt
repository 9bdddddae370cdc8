-- A schedule has one meaning or one fault.
use Rattle.std.proofs.Common.{◌≡◌, ◌≢◌, ◌⊎◌, inl, ℕ, Bool, List, [], ◌∷◌, map, Some, None, if◌then◌else◌, true, false, ap, ◌∙◌}
use Rattle.std.specs.Prelude.{codes}
use Rattle.std.specs.Fmt.{decimal}
use Rattle.std.specs.List.{AllByRecursion}
use Rattle.std.specs.Str.{bytes_eq}
use Rattle.std.specs.Str.Parse.{digits_value}
use Rattle.nll_model.specs.declared.event.Event.{Event}
use Rattle.nll_model.specs.declared.event.Event.TheVariants.{Load, Take, Owe, Clear, Push, Leave}
use Rattle.nll_text.specs.Tokens.{Token, word}
use Rattle.nll_format.specs.Parts.{IsSmall, Spells, token_of}
use Rattle.nll_format.specs.Text.{IsFaultOfText}
use Rattle.nll_format.specs.declared.error.TextKind.{TextKind}
use Rattle.nll_format.specs.declared.error.TextKind.TheVariants.{Range, End}
use Rattle.nll_format.proofs.ListingLemmas as listing
use Rattle.nll_format.proofs.PartLemmas as lemmas
use Rattle.nll_format.proofs.PartLemmas.{printed}
use Rattle.nll_format.proofs.TextLaws as laws
use Rattle.nll_lists.specs.ScheduleText.{schedule, events, event_fault, names_owners, event_parts, MeansSchedule}

-- the event of the word and one number
abbrev one_of : List ℕ → ℕ → Event
one_of w i =
    if bytes_eq w (codes "load") then Load i
    else (if bytes_eq w (codes "owe") then Owe i else (if bytes_eq w (codes "clear") then Clear i else Leave i))

-- the event of the word and two numbers
abbrev two_of : List ℕ → ℕ → ℕ → Event
two_of w i j = if bytes_eq w (codes "take") then Take i j else Push i j

-- the event that tokens spell
unspelled : List Token → Event
unspelled (word w ∷ word n ∷ []) = one_of w (digits_value 10 n)
unspelled (word w ∷ word n ∷ word m ∷ ts) = two_of w (digits_value 10 n) (digits_value 10 m)
unspelled _ = Load 0

unspelled_spelled : (e : Event) → AllByRecursion IsSmall (event_parts e) → unspelled (map token_of (event_parts e)) ≡ e
unfolding unspelled
unspelled_spelled (Load i) small = ap Load (printed i small.1.0)
unspelled_spelled (Take i j) small = ap (λ n. Take n (digits_value 10 (decimal j))) (printed i small.1.0)
    ∙ ap (Take i) (printed j small.1.1.0)
unspelled_spelled (Owe i) small = ap Owe (printed i small.1.0)
unspelled_spelled (Clear i) small = ap Clear (printed i small.1.0)
unspelled_spelled (Push i j) small = ap (λ n. Push n (digits_value 10 (decimal j))) (printed i small.1.0)
    ∙ ap (Push i) (printed j small.1.1.0)
unspelled_spelled (Leave i) small = ap Leave (printed i small.1.0)

one_form : (line : List ℕ) (d e : Event) → Spells line (event_parts d) → Spells line (event_parts e) → d ≡ e
one_form = lemmas.one_form Event event_parts unspelled unspelled_spelled

form_or_none : (line : List ℕ) → ((e : Event) × Spells line (event_parts e)) ⊎ ((e : Event)
    → Spells line (event_parts e) → ⊥)
form_or_none = lemmas.form_or_none Event event_parts unspelled unspelled_spelled

pub one_fault_lem : (owners : ℕ) (text : List ℕ) (l m : ℕ) (j k : TextKind) → IsFaultOfText (schedule owners) text l j
    → IsFaultOfText (schedule owners) text m k → (l ≡ m) × (j ≡ k)
one_fault_lem owners = laws.one_fault_lem (schedule owners) one_form

pub not_both_lem : (owners : ℕ) (text : List ℕ) (list : List Event) (l : ℕ) (k : TextKind)
    → MeansSchedule owners text list
    → IsFaultOfText (schedule owners) text l k → ⊥
not_both_lem owners = laws.not_both_lem (schedule owners) one_form

pub one_meaning_lem : (owners : ℕ) (text : List ℕ) (list other : List Event) → MeansSchedule owners text list
    → MeansSchedule owners text other → list ≡ other
one_meaning_lem owners = laws.one_forms_lem (schedule owners) one_form

pub some_meaning_or_fault_lem : (owners : ℕ) (text : List ℕ)
    → ((list : List Event) × MeansSchedule owners text list)
    ⊎ ((line : ℕ) × (kind : TextKind) × IsFaultOfText (schedule owners) text line kind)
some_meaning_or_fault_lem owners = laws.text_or_fault_lem (schedule owners) form_or_none (λ entries. inl tt)

-- no event has a fault at the end
never_end : (owners : ℕ) (e : Event) → event_fault owners e ≡ Some End → ⊥
never_end owners e = go (names_owners owners e)
  where
    go : (b : Bool) → (if b then None else Some Range) ≡ Some End → ⊥
    go true e = cc
    go false e = cc

pub never_at_end_lem : (owners : ℕ) (text : List ℕ) (line : ℕ) (kind : TextKind)
    → IsFaultOfText (schedule owners) text line kind → kind ≢ End
never_at_end_lem owners = listing.no_end_fault (events owners) (never_end owners)
