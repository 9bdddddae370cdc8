-- What a command that takes its words reads as its file.
use Rattle.std.proofs.Common.{◌≡◌, ◌∙◌, ◌⊎◌, ℕ, Bool, true, false, nat_eq, List, [], ◌∷◌, Option, None, Some, inl, inr, codes, refl, sym, ap, true≢false}
use Rattle.std.specs.Prelude.{slice_get}
use Rattle.std.specs.Str.{bytes_eq, chars}
use Rattle.clap.specs.Lexer.{long_of, short_of}
use Rattle.clap.specs.Kinds.{Kinds}
use Rattle.clap.specs.Walk.{Held, Step, Text, Walk, after_step, arg_by_long, bundle_met, finished, first_of, idle, nothing_held, rows_after, value, walk_from, walked, word_met}
use Rattle.clap.specs.Simple.{Shape, built}
use Rattle.clap.specs.Faults.{flags_fault, level_fault, long_fault, step_fault, turn_fault, walk_fault, word_fault}
use Rattle.clap.proofs.OnLiterals.{clap_on_literals}
use Rattle.nll_command_line.specs.CommandLine.{NamesFile}
use Rattle.nll_command_line.specs.Grammar.{program}
use Rattle.nll_command_line.proofs.TaskWordLemmas.{bytes_are, first_shape, is_none, or_else-left, or_else-right, rules_for}

-- a command as built, by its name
abbrev pub shape_for : Text → Shape
shape_for name = record (first_shape (built program).subs) { name = name }

-- the walk before the file, and after it
abbrev at : Option Text → Walk
at None = walk_from nothing_held
at (Some file) = record {
  held = record { rows = []; pending = Some (codes "FILE", file ∷ []); skip = 0 };
  waiting = idle;
  position = 2;
  is_trailing = false;
  stopped = None;
}

abbrev IsPlain : Text → Walk → Text → Type 0
IsPlain name walk word = (word_fault (shape_for name) [] false idle word walk.held ≡ [])
    × (word_met (shape_for name).rules [] false idle walk.position word walk.held ≡ (walk.held, value))

abbrev is_refused : Text → Walk → Text → Bool
is_refused name walk word = is_none (word_fault (shape_for name) [] false idle word walk.held)

module _ (name : Text) where
  long_is_refused : (o : Option Text) (long : Text) (x : Bool) → bytes_eq (codes "help") long ≡ x → (v : Option Text)
      → is_none (long_fault (shape_for name).rules false (arg_by_long (shape_for name).rules long) v (at o).held)
      ≡ false
  long_is_refused o long false e v = simp e
  long_is_refused o long true e (Some v) = simp e
  long_is_refused None long true e None = simp e
  long_is_refused (Some file) long true e None = simp e

  module _ (w : Text) (dashes : bytes_eq w (codes "--") ≡ false) where
    by_letter : (o : Option Text) (flags : Text) (x : ℕ) (is_h : Bool) → long_of w ≡ None → short_of w ≡ Some flags
        → slice_get (chars flags) 0 ≡ Some x
        → nat_eq 104 x ≡ is_h → (is_refused name (at o) w ≡ false) ⊎ IsPlain name (at o) w
    unfolding flags_fault bundle_met
    by_letter None [] x is_h l s first e = inr (simp (dashes, l, s), simp (dashes, l, s))
    by_letter None (f ∷ fs) x true l s first e = inl (simp (dashes, l, s, first, e))
    by_letter None (f ∷ fs) x false l s first e = inl (simp (dashes, l, s, first, e))
    by_letter (Some file) [] x is_h l s first e = inr (simp (dashes, l, s), simp (dashes, l, s))
    by_letter (Some file) (f ∷ fs) x true l s first e = inl (simp (dashes, l, s, first, e))
    by_letter (Some file) (f ∷ fs) x false l s first e = inl (simp (dashes, l, s, first, e))

    no_letter : (o : Option Text) (flags : Text) → long_of w ≡ None → short_of w ≡ Some flags
        → slice_get (chars flags) 0 ≡ None → IsPlain name (at o) w
    unfolding flags_fault bundle_met
    no_letter None [] l s first = (simp (dashes, l, s), simp (dashes, l, s))
    no_letter None (f ∷ fs) l s first = (simp (dashes, l, s, first), simp (dashes, l, s, first))
    no_letter (Some file) [] l s first = (simp (dashes, l, s), simp (dashes, l, s))
    no_letter (Some file) (f ∷ fs) l s first = (simp (dashes, l, s, first), simp (dashes, l, s, first))

    by_first : (o : Option Text) (flags : Text) (first : Option ℕ) → slice_get (chars flags) 0 ≡ first
        → long_of w ≡ None → short_of w ≡ Some flags
        → (is_refused name (at o) w ≡ false) ⊎ IsPlain name (at o) w
    by_first o flags None first l s = inr (no_letter o flags l s first)
    by_first o flags (Some x) first l s = by_letter o flags x (nat_eq 104 x) l s first refl

    by_short : (o : Option Text) (short : Option Text) → short_of w ≡ short → long_of w ≡ None
        → (is_refused name (at o) w ≡ false) ⊎ IsPlain name (at o) w
    by_short None None s l = inr (simp (dashes, l, s), simp (dashes, l, s))
    by_short (Some file) None s l = inr (simp (dashes, l, s), simp (dashes, l, s))
    by_short o (Some flags) s l = by_first o flags (slice_get (chars flags) 0) refl l s

    by_long : (o : Option Text) (long : Option (Text × Option Text)) → long_of w ≡ long
        → (is_refused name (at o) w ≡ false) ⊎ IsPlain name (at o) w
    by_long o None l = by_short o (short_of w) refl l
    by_long o (Some p) l = inl (simp (dashes, l) (long_is_refused o p.0 (bytes_eq (codes "help") p.0) refl p.1))

    -- a word that is not `--` is refused or is a plain one
    word_kinds : (o : Option Text) → (is_refused name (at o) w ≡ false) ⊎ IsPlain name (at o) w
    word_kinds o = by_long o (long_of w) refl

-- behind the file each word but `--` is refused
second_is_refused : (name file w : Text) → bytes_eq w (codes "--") ≡ false
    → is_none (turn_fault (shape_for name) [] (at (Some file)) w) ≡ false
second_is_refused name file w dashes = elim (word_kinds name w dashes (Some file)) [
  | inl refused ↦ or_else-left (word_fault (shape_for name) [] false idle w (at (Some file)).held) _ refused
  | inr plain ↦ or_else-right (word_fault (shape_for name) [] false idle w (at (Some file)).held) _
      (let stray : Held × Step → Bool = λ m. is_none (step_fault (shape_for name) 2 m.0 m.1) in ap stray plain.1)
]

-- a plain first word is the file
file_walked : (name file : Text) → IsPlain name (walk_from nothing_held) file
    → walked (shape_for name).rules [] (walk_from nothing_held) file ≡ at (Some file)
unfolding walked
file_walked name file plain =
    ap (λ (m : Held × Step). after_step (shape_for name).rules file (walk_from nothing_held) m.0 m.1) plain.1

abbrev pub level : Text → List Text → Kinds
level name rest = level_fault (shape_for name) [] nothing_held rest false []

no_file : (name : Text) → is_none (level name []) ≡ false
unfolding clap_on_literals
no_file name = refl

only_dashes : (name : Text) → is_none (level name (codes "--" ∷ [])) ≡ false
unfolding clap_on_literals
only_dashes name = refl

two_after_dashes : (name f g : Text) (more : List Text) → is_none (level name (codes "--" ∷ f ∷ g ∷ more)) ≡ false
unfolding clap_on_literals
two_after_dashes name f g more = refl

first_refused : (name w : Text) (more : List Text) → is_refused name (walk_from nothing_held) w ≡ false
    → is_none (level name (w ∷ more)) ≡ false
unfolding walk_fault
first_refused name w more h =
    or_else-left _ _ (or_else-left (turn_fault (shape_for name) [] (walk_from nothing_held) w) _
    (or_else-left (word_fault (shape_for name) [] false idle w nothing_held) _ h))

-- what is refused behind a plain first word
behind_file : (name file : Text) (more : List Text) → IsPlain name (walk_from nothing_held) file
    → is_none (walk_fault (shape_for name) [] (at (Some file)) more) ≡ false
    → is_none (level name (file ∷ more)) ≡ false
unfolding walk_fault
behind_file name file more plain h =
    or_else-left _ _ (or_else-right (turn_fault (shape_for name) [] (walk_from nothing_held) file) _
    (ap (λ w. is_none (walk_fault (shape_for name) [] w more)) (file_walked name file plain) ∙ h))

second_refused : (name file w : Text) (more : List Text) → bytes_eq w (codes "--") ≡ false
    → is_none (walk_fault (shape_for name) [] (at (Some file)) (w ∷ more)) ≡ false
unfolding walk_fault
second_refused name file w more dashes =
    or_else-left (turn_fault (shape_for name) [] (at (Some file)) w) _ (second_is_refused name file w dashes)

third_refused : (name file w : Text) (more : List Text)
    → is_none (walk_fault (shape_for name) [] (at (Some file)) (codes "--" ∷ w ∷ more)) ≡ false
unfolding walk_fault walked
third_refused name file w more = refl

-- the file that was found
abbrev pub file_in : List Text → Option Text
file_in rest = first_of (codes "FILE") (rows_after rules_for [] rest)

found_alone : (name file : Text) → IsPlain name (walk_from nothing_held) file → file_in (file ∷ []) ≡ Some file
found_alone name file plain =
    ap (λ (w : Walk). first_of (codes "FILE") (finished rules_for w.held)) (file_walked name file plain)

found_before : (name file : Text) → IsPlain name (walk_from nothing_held) file
    → file_in (file ∷ codes "--" ∷ []) ≡ Some file
unfolding walked
found_before name file plain =
    ap (λ (w : Walk). first_of (codes "FILE") (finished rules_for (walked rules_for [] w (codes "--")).held))
    (file_walked name file plain)

found_after : (file : Text) → file_in (codes "--" ∷ file ∷ []) ≡ Some file
unfolding clap_on_literals
found_after file = refl

-- words that a command takes name a file, and that is what it finds
pub takes_file : (name : Text) (rest : List Text) → is_none (level name rest) ≡ true
    → (file : Text) × NamesFile file rest × (file_in rest ≡ Some file)
takes_file name [] h = absurd (true≢false (sym h ∙ no_file name))
takes_file name (w ∷ more) h = by_dashes (bytes_eq w (codes "--")) refl more h
  where
    behind : (d : Bool) (plain : IsPlain name (walk_from nothing_held) w) (v : Text) (others : List Text)
        → bytes_eq v (codes "--") ≡ d
        → is_none (level name (w ∷ v ∷ others)) ≡ true
        → (file : Text) × NamesFile file (w ∷ v ∷ others) × (file_in (w ∷ v ∷ others) ≡ Some file)
    behind true plain v [] dashes h =
        let is : w ∷ v ∷ [] ≡ w ∷ codes "--" ∷ [] = ap (λ x. w ∷ x ∷ []) (bytes_are _ _ dashes) in
        (w, inr (inr is), ap file_in is ∙ found_before name w plain)
    behind true plain v (u ∷ others) dashes h =
        absurd (true≢false (sym h ∙ ap (λ x. is_none (level name (w ∷ x ∷ u ∷ others))) (bytes_are _ _ dashes)
        ∙ behind_file name w _ plain (third_refused name w u others)))
    behind false plain v others dashes h =
        absurd (true≢false (sym h ∙ behind_file name w _ plain (second_refused name w v others dashes)))

    plain_first : (rest : List Text) → is_none (level name (w ∷ rest)) ≡ true → IsPlain name (walk_from nothing_held) w
        → (file : Text) × NamesFile file (w ∷ rest) × (file_in (w ∷ rest) ≡ Some file)
    plain_first [] h plain = (w, inl refl, found_alone name w plain)
    plain_first (v ∷ others) h plain = behind (bytes_eq v (codes "--")) plain v others refl h

    dashes_first : (rest : List Text) → bytes_eq w (codes "--") ≡ true → is_none (level name (w ∷ rest)) ≡ true
        → (file : Text) × NamesFile file (w ∷ rest) × (file_in (w ∷ rest) ≡ Some file)
    dashes_first [] dashes h =
        absurd (true≢false (sym h ∙ ap (λ x. is_none (level name (x ∷ []))) (bytes_are _ _ dashes) ∙ only_dashes name))
    dashes_first (f ∷ []) dashes h =
        let is : w ∷ f ∷ [] ≡ codes "--" ∷ f ∷ [] = ap (λ x. x ∷ f ∷ []) (bytes_are _ _ dashes) in
        (f, inr (inl is), ap file_in is ∙ found_after f)
    dashes_first (f ∷ g ∷ others) dashes h =
        absurd (true≢false (sym h ∙ ap (λ x. is_none (level name (x ∷ f ∷ g ∷ others))) (bytes_are _ _ dashes)
        ∙ two_after_dashes name f g others))

    by_dashes : (d : Bool) → bytes_eq w (codes "--") ≡ d → (rest : List Text) → is_none (level name (w ∷ rest)) ≡ true
        → (file : Text) × NamesFile file (w ∷ rest) × (file_in (w ∷ rest) ≡ Some file)
    by_dashes true dashes rest h = dashes_first rest dashes h
    by_dashes false dashes rest h = elim (word_kinds name w dashes None) [
      | inl refused ↦ absurd (true≢false (sym h ∙ first_refused name w rest refused))
      | inr plain ↦ plain_first rest h plain
    ]
