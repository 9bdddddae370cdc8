-- The first word of a line that is taken names its task, and the command reads the words after it.
use Rattle.std.proofs.Common.{◌≡◌, ◌∙◌, ℕ, Bool, true, false, nat_eq, List, [], ◌∷◌, Option, None, Some, codes, refl, sym, ap, true≢false}
use Rattle.std.specs.Prelude.{slice_get}
use Rattle.std.specs.Str.{bytes_eq, chars}
use Rattle.std.proofs.lemmas.Slice.Eq.{bytes_eq-Decides}
use Rattle.clap.specs.Lexer.{long_of, short_of}
use Rattle.clap.specs.Kinds.{Kinds, or_else}
use Rattle.clap.specs.Walk.{Names, Rule, Text, Walk, arg_by_long, bundle_met, idle, nothing_held, rows_after, stop_after, walk_from, walked}
use Rattle.clap.specs.Simple.{Shape, built, entered, names_of, subcommand_of}
use Rattle.clap.specs.Faults.{fault_of, flags_fault, long_fault, turn_fault, walk_fault, word_fault}
use Rattle.clap.proofs.WalkLemmas.{walk_stopped}
use Rattle.clap.proofs.OnLiterals.{clap_on_literals}
use Rattle.nll_command_line.specs.declared.task.Task.{Task}
use Rattle.nll_command_line.specs.declared.task.Task.TheVariants.{Check, Replay, Values}
use Rattle.nll_command_line.specs.CommandLine.{name_of}
use Rattle.nll_command_line.specs.Grammar.{program}

abbrev pub is_none : Kinds → Bool
is_none [] = true
is_none (k ∷ ks) = false

-- the program's own level, and where its walk begins
abbrev pub top : Shape
top = (built program).top

abbrev pub names : Names
names = names_of (built program)

abbrev pub start : Walk
start = walk_from nothing_held

pub or_else-left : (a b : Kinds) → is_none a ≡ false → is_none (or_else a b) ≡ false
or_else-left [] b h = absurd (true≢false h)
or_else-left (k ∷ ks) b h = refl

pub or_else-right : (a b : Kinds) → is_none b ≡ false → is_none (or_else a b) ≡ false
or_else-right [] b h = h
or_else-right (k ∷ ks) b h = refl

-- `--help` asks for help, and no other long name is known
long_is_refused : (name : Text) (x : Bool) → bytes_eq (codes "help") name ≡ x → (v : Option Text)
    → is_none (long_fault top.rules false (arg_by_long top.rules name) v nothing_held) ≡ false
long_is_refused name false e v = simp e
long_is_refused name true e None = simp e
long_is_refused name true e (Some v) = simp e

module _ (w : Text) (values : bytes_eq (codes "values") w ≡ false) (check : bytes_eq (codes "check") w ≡ false)
    (replay : bytes_eq (codes "replay") w ≡ false) (dashes : bytes_eq w (codes "--") ≡ false) where
  by_short_name : (flags : Text) (x : ℕ) (is_h : Bool) → long_of w ≡ None → short_of w ≡ Some flags
      → slice_get (chars flags) 0 ≡ Some x → nat_eq 104 x ≡ is_h
      → is_none (turn_fault top names start w) ≡ false
  unfolding flags_fault bundle_met
  by_short_name [] x is_h l s first e = simp (values, check, replay, dashes, l, s)
  by_short_name (f ∷ fs) x true l s first e = simp (values, check, replay, dashes, l, s, first, e)
  by_short_name (f ∷ fs) x false l s first e = simp (values, check, replay, dashes, l, s, first, e)

  no_short_name : (flags : Text) → long_of w ≡ None → short_of w ≡ Some flags → slice_get (chars flags) 0 ≡ None
      → is_none (turn_fault top names start w) ≡ false
  unfolding flags_fault bundle_met
  no_short_name [] l s first = simp (values, check, replay, dashes, l, s)
  no_short_name (f ∷ fs) l s first = simp (values, check, replay, dashes, l, s, first)

  by_first : (flags : Text) (o : Option ℕ) → slice_get (chars flags) 0 ≡ o → long_of w ≡ None → short_of w ≡ Some flags
      → is_none (turn_fault top names start w) ≡ false
  by_first flags None first l s = no_short_name flags l s first
  by_first flags (Some x) first l s = by_short_name flags x (nat_eq 104 x) l s first refl

  by_short : (o : Option Text) → short_of w ≡ o → long_of w ≡ None → is_none (turn_fault top names start w) ≡ false
  by_short None s l = simp (values, check, replay, dashes, l, s)
  by_short (Some flags) s l = by_first flags (slice_get (chars flags) 0) refl l s

  by_long : (o : Option (Text × Option Text)) → long_of w ≡ o → is_none (turn_fault top names start w) ≡ false
  by_long None l = by_short (short_of w) refl l
  by_long (Some p) l =
      let refused : is_none (word_fault top names false idle w nothing_held) ≡ false =
      simp (values, check, replay, dashes, l) (long_is_refused p.0 (bytes_eq (codes "help") p.0) refl p.1) in
      or_else-left (word_fault top names false idle w nothing_held) _ refused

  -- a word that is no command and not `--` is refused
  turn_is_refused : is_none (turn_fault top names start w) ≡ false
  turn_is_refused = by_long (long_of w) refl

-- nothing follows `--`
after_dashes : (rest : List Text) → is_none (fault_of program (codes "--" ∷ rest)) ≡ false
unfolding clap_on_literals
after_dashes [] = refl
after_dashes (r ∷ more) = refl

no_words : is_none (fault_of program []) ≡ false
unfolding clap_on_literals
no_words = refl

refused_first : (w : Text) (rest : List Text) → is_none (turn_fault top names start w) ≡ false
    → is_none (fault_of program (w ∷ rest)) ≡ false
unfolding walk_fault
refused_first w rest h = or_else-left _ _ (or_else-left (turn_fault top names start w) _ h)

pub bytes_are : (a b : Text) → bytes_eq a b ≡ true → a ≡ b
bytes_are a b e = (bytes_eq-Decides a b).0 e

pub task_first : (words : List Text) → is_none (fault_of program words) ≡ true
    → (task : Task) × (rest : List Text) × (words ≡ name_of task ∷ rest)
task_first [] h = absurd (true≢false (sym h ∙ no_words))
task_first (w ∷ rest) h =
    by_name (bytes_eq (codes "values") w) (bytes_eq (codes "check") w) (bytes_eq (codes "replay") w)
    (bytes_eq w (codes "--")) refl refl refl refl
  where
    by_name : (v k r d : Bool) → bytes_eq (codes "values") w ≡ v → bytes_eq (codes "check") w ≡ k
        → bytes_eq (codes "replay") w ≡ r → bytes_eq w (codes "--") ≡ d
        → (task : Task) × (others : List Text) × (w ∷ rest ≡ name_of task ∷ others)
    by_name true k r d values check replay dashes = (Values, rest, ap (λ x. x ∷ rest) (sym (bytes_are _ _ values)))
    by_name false true r d values check replay dashes = (Check, rest, ap (λ x. x ∷ rest) (sym (bytes_are _ _ check)))
    by_name false false true d values check replay dashes =
        (Replay, rest, ap (λ x. x ∷ rest) (sym (bytes_are _ _ replay)))
    by_name false false false true values check replay dashes =
        absurd (true≢false (sym h ∙ ap (λ x. is_none (fault_of program (x ∷ rest))) (bytes_are _ _ dashes)
        ∙ after_dashes rest))
    by_name false false false false values check replay dashes =
        absurd (true≢false (sym h ∙ refused_first w rest (turn_is_refused w values check replay dashes)))

-- the arguments of a command, as built
abbrev pub first_shape : List Shape → Shape
first_shape [] = top
first_shape (s ∷ rest) = s

abbrev pub rules_for : List Rule
rules_for = (first_shape (built program).subs).rules

pub stops : (task : Task) (rest : List Text)
    → stop_after top.rules names (name_of task ∷ rest) ≡ Some (name_of task, rest)
unfolding walked
stops Values rest = ap (λ (w : Walk). w.stopped) (sym (walk_stopped top.rules names start (codes "values") [] rest))
stops Check rest = ap (λ (w : Walk). w.stopped) (sym (walk_stopped top.rules names start (codes "check") [] rest))
stops Replay rest = ap (λ (w : Walk). w.stopped) (sym (walk_stopped top.rules names start (codes "replay") [] rest))

enters : (task : Task) (rest : List Text)
    → entered (built program) (Some (name_of task, rest)) ≡ Some (name_of task, rows_after rules_for [] rest)
enters Values rest = refl
enters _ rest = refl

pub subcommand_of-named : (task : Task) (rest : List Text)
    → subcommand_of program (name_of task ∷ rest) ≡ Some (name_of task, rows_after rules_for [] rest)
subcommand_of-named task rest = ap (entered (built program)) (stops task rest) ∙ enters task rest
