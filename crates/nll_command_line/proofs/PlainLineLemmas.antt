-- What the parser makes of the name of a task and its file.
use Rattle.std.proofs.Common.{◌≡◌, ℕ, Bool, true, false, nat_eq, List, [], ◌∷◌, Some, codes, inl, inr, refl, ap, ◌∙◌}
use Rattle.clap.specs.Words.{Text, takes}
use Rattle.clap.proofs.OnLiterals.{clap_on_literals}
use Rattle.nll_command_line.specs.declared.task.Task.{Task}
use Rattle.nll_command_line.specs.declared.task.Task.TheVariants.{Values, Check, Replay}
use Rattle.nll_command_line.specs.CommandLine.{IsPlainLine, begins_as_option, name_of}
use Rattle.nll_command_line.specs.Grammar.{line_by_grammar, program}

-- a file of one byte, a hyphen or not
takes-byte : (task : Task) (b : ℕ) (x : Bool) → nat_eq b 45 ≡ x → takes program (name_of task ∷ (b ∷ []) ∷ []) ≡ true
unfolding clap_on_literals
takes-byte Values b true e = simp e
takes-byte Values b false e = simp e
takes-byte Check b true e = simp e
takes-byte Replay b true e = simp e
takes-byte Check b false e = simp e
takes-byte Replay b false e = simp e

-- a file alone, whose first byte is a hyphen only where it is the last
takes-alone : (task : Task) (file : Text) → begins_as_option file ≡ false
    → takes program (name_of task ∷ file ∷ []) ≡ true
unfolding clap_on_literals
takes-alone Values [] h = refl
takes-alone _ [] h = refl
takes-alone task (b ∷ []) h = takes-byte task b (nat_eq b 45) refl
takes-alone Values (b ∷ c ∷ rest) h = simp h
takes-alone Check (b ∷ c ∷ rest) h = simp h
takes-alone Replay (b ∷ c ∷ rest) h = simp h

-- a file before the end of the options
takes-before-byte : (task : Task) (b : ℕ) (x : Bool) → nat_eq b 45 ≡ x
    → takes program (name_of task ∷ (b ∷ []) ∷ codes "--" ∷ []) ≡ true
unfolding clap_on_literals
takes-before-byte Values b true e = simp e
takes-before-byte Values b false e = simp e
takes-before-byte Check b true e = simp e
takes-before-byte Replay b true e = simp e
takes-before-byte Check b false e = simp e
takes-before-byte Replay b false e = simp e

takes-before : (task : Task) (file : Text) → begins_as_option file ≡ false
    → takes program (name_of task ∷ file ∷ codes "--" ∷ []) ≡ true
unfolding clap_on_literals
takes-before Values [] h = refl
takes-before _ [] h = refl
takes-before task (b ∷ []) h = takes-before-byte task b (nat_eq b 45) refl
takes-before Values (b ∷ c ∷ rest) h = simp h
takes-before Check (b ∷ c ∷ rest) h = simp h
takes-before Replay (b ∷ c ∷ rest) h = simp h

-- a file behind the end of the options
takes-after : (task : Task) (file : Text) → takes program (name_of task ∷ codes "--" ∷ file ∷ []) ≡ true
unfolding clap_on_literals
takes-after Values file = refl
takes-after _ file = refl

line-byte : (task : Task) (b : ℕ) (x : Bool) → nat_eq b 45 ≡ x
    → line_by_grammar (name_of task ∷ (b ∷ []) ∷ []) ≡ Some (task, b ∷ [])
unfolding clap_on_literals
line-byte Values b true e = simp e
line-byte Values b false e = simp e
line-byte Check b true e = simp e
line-byte Replay b true e = simp e
line-byte Check b false e = simp e
line-byte Replay b false e = simp e

line-alone : (task : Task) (file : Text) → begins_as_option file ≡ false
    → line_by_grammar (name_of task ∷ file ∷ []) ≡ Some (task, file)
unfolding clap_on_literals
line-alone Values [] h = refl
line-alone _ [] h = refl
line-alone task (b ∷ []) h = line-byte task b (nat_eq b 45) refl
line-alone Values (b ∷ c ∷ rest) h = simp h
line-alone Check (b ∷ c ∷ rest) h = simp h
line-alone Replay (b ∷ c ∷ rest) h = simp h

line-before-byte : (task : Task) (b : ℕ) (x : Bool) → nat_eq b 45 ≡ x
    → line_by_grammar (name_of task ∷ (b ∷ []) ∷ codes "--" ∷ []) ≡ Some (task, b ∷ [])
unfolding clap_on_literals
line-before-byte Values b true e = simp e
line-before-byte Values b false e = simp e
line-before-byte Check b true e = simp e
line-before-byte Replay b true e = simp e
line-before-byte Check b false e = simp e
line-before-byte Replay b false e = simp e

line-before : (task : Task) (file : Text) → begins_as_option file ≡ false
    → line_by_grammar (name_of task ∷ file ∷ codes "--" ∷ []) ≡ Some (task, file)
unfolding clap_on_literals
line-before Values [] h = refl
line-before _ [] h = refl
line-before task (b ∷ []) h = line-before-byte task b (nat_eq b 45) refl
line-before Values (b ∷ c ∷ rest) h = simp h
line-before Check (b ∷ c ∷ rest) h = simp h
line-before Replay (b ∷ c ∷ rest) h = simp h

line-after : (task : Task) (file : Text) → line_by_grammar (name_of task ∷ codes "--" ∷ file ∷ []) ≡ Some (task, file)
unfolding clap_on_literals
line-after Values file = refl
line-after _ file = refl

pub takes-plain : (task : Task) (file : Text) (words : List Text) → IsPlainLine task file words
    → takes program words ≡ true
takes-plain task file words h = elim h [
  | inl alone ↦ ap (takes program) alone.0 ∙ takes-alone task file alone.1
  | inr behind ↦ elim behind [
    | inl after ↦ ap (takes program) after ∙ takes-after task file
    | inr before ↦ ap (takes program) before.0 ∙ takes-before task file before.1
  ]
]

pub line_by_grammar-plain : (task : Task) (file : Text) (words : List Text) → IsPlainLine task file words
    → line_by_grammar words ≡ Some (task, file)
line_by_grammar-plain task file words h = elim h [
  | inl alone ↦ ap line_by_grammar alone.0 ∙ line-alone task file alone.1
  | inr behind ↦ elim behind [
    | inl after ↦ ap line_by_grammar after ∙ line-after task file
    | inr before ↦ ap line_by_grammar before.0 ∙ line-before task file before.1
  ]
]
