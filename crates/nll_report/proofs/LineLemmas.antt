-- What the words are that a line is made of, and what is told of words that are no line.
use Rattle.std.proofs.Common.{◌≡◌, ◌∙◌, ℕ, ◌<◌, ◌≤◌, List, [], ◌∷◌, Option, None, Some, IfSome, sym, subst}
use Rattle.std.specs.List.{filter_map}
use Rattle.std.specs.Option.{option_to_list}
use Rattle.nll_problem.specs.Limits.{most_owners}
use Rattle.nll_command_line.specs.CommandLine.{AsksPlainlyForHelp, IsTaskLine}
use Rattle.nll_command_line.specs.Grammar.{IsHelpFor, IsWordsError}
use Rattle.nll_command_line.specs.Options.{Given, owners, deal, cut, mail, schedule, HasOptions, none, ends, other as plain_word, option, ArePlaced, no_words, unread, behind, AreOptionsRead, SaidOptions, Suits, owners_in}
use Rattle.nll_command_line.specs.declared.error.LineError.{LineError}
use Rattle.nll_command_line.specs.declared.error.LineError.TheVariants as line
use Rattle.nll_command_line.specs.declared.task.Task.{Task}
use Rattle.nll_report.specs.Run.{Words, IsTaskAsked, IsHelp, IsHelpOf, IsRefusalOf, IsRunRefused}
use Rattle.nll_report.specs.Texts.{HoldsAt, Lacks}
use Rattle.nll_report.specs.declared.messages.Refusal.{Refusal}

-- ---- the number of owners

abbrev IsLawfulCount : ℕ → Type 0
IsLawfulCount n = (0 < n) × (n ≤ most_owners)

first : (m n : ℕ) (ms ns : List ℕ) → m ∷ ms ≡ n ∷ ns → m ≡ n
first m n ms ns e = cc

-- a number that is given is lawful
lawful_in : (given : List Given) (others words : Words) → HasOptions given others words → (n : ℕ) (ns : List ℕ)
    → filter_map owners_in given ≡ n ∷ ns → IsLawfulCount n
lawful_in _ _ _ none n ns e = cc
lawful_in _ _ _ (ends word rest h) n ns e = cc
lawful_in _ _ _ (plain_word given word others words plain h) n ns e = lawful_in given others words h n ns e
lawful_in _ _ _ (option (owners m) given front others words written lawful h) n ns e =
    subst IsLawfulCount (first m n _ ns e) lawful
lawful_in _ _ _ (option (deal how) given front others words written lawful h) n ns e =
    lawful_in given others words h n ns e
lawful_in _ _ _ (option (cut file) given front others words written lawful h) n ns e =
    lawful_in given others words h n ns e
lawful_in _ _ _ (option (mail kind) given front others words written lawful h) n ns e =
    lawful_in given others words h n ns e
lawful_in _ _ _ (option (schedule file) given front others words written lawful h) n ns e =
    lawful_in given others words h n ns e

lawful_placed : (given : List Given) (others words : Words) → ArePlaced given others words → (n : ℕ) (ns : List ℕ)
    → filter_map owners_in given ≡ n ∷ ns → IsLawfulCount n
lawful_placed _ _ _ no_words n ns e = cc
lawful_placed _ _ _ (unread word rest begins) n ns e = cc
lawful_placed _ _ _ (behind given word others rest plain h) n ns e = lawful_in given others rest h n ns e

pub lawful_count : (words others : Words) (said : SaidOptions) → AreOptionsRead words others said
    → IfSome said.owners IsLawfulCount
lawful_count words others said read = at said.owners read.says.owners
  where
    at : (count : Option ℕ) → filter_map owners_in read.given ≡ option_to_list count → IfSome count IsLawfulCount
    at None e = tt
    at (Some n) e = lawful_placed read.given others words read.placed n [] e

-- ---- words that are no line

pub help_told : (words : Words) (e : LineError) (bytes : List ℕ) (status : ℕ) → IsWordsError words e
    → IsHelpOf e bytes status → IsHelp words bytes status
help_told words (line.Help text) bytes status h is = record {
  others = h.0;
  said = h.1;
  read = h.2;
  plain = h.3.1;
  asked = h.3.0;
  is = is.0 ∙ h.3.2;
  told = is.1;
}
help_told words line.Usage bytes status h is = absurd is
help_told words line.Memory bytes status h is = absurd is

pub words_told : (holds : HoldsAt) (lacks : Lacks) (words : Words) (e : LineError) (refusal : Refusal)
    → IsWordsError words e
    → ((others : Words) (said : SaidOptions) → AreOptionsRead words others said → AsksPlainlyForHelp others
    → IsHelpFor others e)
    → IsRefusalOf e refusal → IsRunRefused holds lacks words refusal
words_told holds lacks words (line.Help text) refusal h help is = absurd is
words_told holds lacks words line.Usage refusal h help is =
    subst (IsRunRefused holds lacks words) (sym is) (λ others said read.
    ((h others said read).0, help others said read))
words_told holds lacks words line.Memory refusal h help is = subst (IsRunRefused holds lacks words) (sym is) tt

-- ---- words that are a line

pub asked_line : (words : Words) (task : Task) (file : List ℕ) (said : SaidOptions)
    → ((others : Words) × AreOptionsRead words others said × IsTaskLine task file others × Suits task said)
    → ((others : Words) (s : SaidOptions) → AreOptionsRead words others s → AsksPlainlyForHelp others → ⊥)
    → IsTaskAsked words task file said
asked_line words task file said ok other =
    record { others = ok.0; read = ok.1; line = ok.2; suits = ok.3; other = other ok.0 said ok.1 }
