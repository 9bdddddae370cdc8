-- What options say: one more of them, one that is there already, and that it is pinned.
use Rattle.std.proofs.Common.{◌≡◌, ◌∙◌, ℕ, ◌<◌, ◌≤◌, true, false, List, [], ◌∷◌, ◌++◌, Option, Some, None, is_some, arith, refl, sym, ap, subst, true≢false}
use Rattle.std.specs.List.{filter_map}
use Rattle.std.specs.Option.{option_to_list}
use Rattle.std.specs.Prelude.{MatchOption}
use Rattle.std.specs.Fmt.{decimal}
use Rattle.nll_problem.specs.Limits.{most_owners}
use Rattle.std.proofs.lemmas.Fmt.{decimal_injective}
use Rattle.std.proofs.lemmas.List.{append-nil}
use Rattle.std.proofs.lemmas.List.Elements.{filter_map-append}
use Rattle.nll_command_line.specs.Options.{Given, owners, deal, cut, mail, schedule, IsLawfulOption, SaidOptions, SaysOptions, key_of, value_of, owners_in, deal_in, cut_in, mail_in, schedule_in}
use Rattle.nll_command_line.specs.Taking.{IsUnfit}
use Rattle.nll_command_line.specs.declared.options.Deal.{Deal}
use Rattle.nll_command_line.specs.declared.options.Deal.TheVariants.{Round, Blocks}
use Rattle.nll_command_line.specs.declared.options.MailKind.{MailKind}
use Rattle.nll_command_line.specs.declared.options.MailKind.TheVariants.{Queue, Ring}
use Rattle.nll_command_line.specs.declared.options.Key.TheVariants as key

pub none_of : {X : Type 0} (o : Option X) → is_some o ≡ false → o ≡ None
none_of None h = refl
none_of (Some x) h = absurd (true≢false h)

pub some_of : {X : Type 0} (o : Option X) → is_some o ≡ true → (x : X) × (o ≡ Some x)
some_of None h = absurd (true≢false (sym h))
some_of (Some x) h = (x, refl)

-- what is given is there already, or nothing is given
pub there_or_none : {X : Type 0} (given place : Option X) (Is : X → Type 0)
    → MatchOption given ((x : X) → Is x → ⊥) Is → ((x : X) → given ≡ Some x → (y : X) × (place ≡ Some y))
    → (x : X) → Is x → (y : X) × (place ≡ Some y)
there_or_none None place Is none there x is = absurd (none x is)
there_or_none (Some z) place Is one there x is = there z refl

pub given_is : {X : Type 0} (given : Option X) (Is : X → Type 0) (x : X)
    → MatchOption given ((x : X) → Is x → ⊥) Is → given ≡ Some x → Is x
given_is None Is x h is = cc
given_is (Some z) Is x h is = let same : z ≡ x = cc in subst Is same h

-- ---- one more option

-- an option of another kind gives nothing
same : {Y : Type 0} (h : Given → Option Y) (given : List Given) (g : Given) (ys : List Y) → h g ≡ None
    → filter_map h given ≡ ys → filter_map h (given ++ g ∷ []) ≡ ys
same {Y = Y} h given g ys nothing e =
    filter_map-append h given (g ∷ []) ∙
    (ap (λ xs. filter_map h given ++ xs) one ∙ (append-nil (filter_map h given) ∙ e))
  where
    one : filter_map h (g ∷ []) ≡ []
    one = rw nothing refl

-- one of the kind gives its value
more : {Y : Type 0} (h : Given → Option Y) (given : List Given) (g : Given) (y : Y) (o : Option Y) → h g ≡ Some y
    → o ≡ None → filter_map h given ≡ option_to_list o → filter_map h (given ++ g ∷ []) ≡ y ∷ []
more h given g y o gives empty e = grind (arith, filter_map-append)

-- two options of one kind give two values
two : {Y : Type 0} (h : Given → Option Y) (given : List Given) (g : Given) (later : List Given) (y z : Y)
    (o all : Option Y) → h g ≡ Some z → o ≡ Some y → filter_map h given ≡ option_to_list o
    → filter_map h (given ++ g ∷ later) ≡ option_to_list all → ⊥
two {Y = Y} h given g later y z o all gives there e f = at_most all (sym two_values ∙ f)
  where
    two_values : filter_map h (given ++ g ∷ later) ≡ y ∷ z ∷ filter_map h later
    two_values = grind (arith, filter_map-append)

    at_most : (o : Option Y) → y ∷ z ∷ filter_map h later ≡ option_to_list o → ⊥
    at_most None e = cc
    at_most (Some x) e = cc

module _ (given : List Given) (said : SaidOptions) (s : SaysOptions given said) where
  pub more_owners : (n : ℕ) → said.owners ≡ None → SaysOptions (given ++ owners n
      ∷ []) (record said { owners = Some n })
  more_owners n empty = grind (arith, more, same)

  pub more_deal : (how : Deal) → said.deal ≡ None → SaysOptions (given ++ deal how
      ∷ []) (record said { deal = Some how })
  more_deal how empty = grind (arith, same, more)

  pub more_cut : (file : List ℕ) → said.cut ≡ None → SaysOptions (given ++ cut file
      ∷ []) (record said { cut = Some file })
  more_cut file empty = grind (arith, same, more)

  pub more_mail : (kind : MailKind) → said.mail ≡ None
      → SaysOptions (given ++ mail kind ∷ []) (record said { mail = Some kind })
  more_mail kind empty = grind (arith, same, more)

  pub more_schedule : (file : List ℕ) → said.schedule ≡ None
      → SaysOptions (given ++ schedule file ∷ []) (record said { schedule = Some file })
  more_schedule file empty = grind (arith, same, more)

  -- ---- an option that is there already, or of a value that is none

  pub no_more_owners : (value : List ℕ)
      → ((n : ℕ) → (0 < n) × (n ≤ most_owners) × (value ≡ decimal n) → (m : ℕ) × (said.owners ≡ Some m))
      → IsUnfit given key.Owners value
  no_more_owners value there (owners n) later all is_key is_value lawful says =
      let m = there n (lawful.0, lawful.1, sym is_value) in
      two owners_in given (owners n) later m.0 n said.owners all.owners refl m.1 s.owners says.owners
  no_more_owners value there g later all is_key is_value lawful says = cc

  pub no_more_deal : (value : List ℕ) → ((how : Deal) → value ≡ value_of (deal how) → (d : Deal) × (said.deal ≡ Some d))
      → IsUnfit given key.Deal value
  no_more_deal value there (deal how) later all is_key is_value lawful says =
      let m = there how (sym is_value) in
      two deal_in given (deal how) later m.0 how said.deal all.deal refl m.1 s.deal says.deal
  no_more_deal value there g later all is_key is_value lawful says = cc

  pub no_more_cut : (value file : List ℕ) → said.cut ≡ Some file → IsUnfit given key.Cut value
  no_more_cut value there is (cut file) later all is_key is_value lawful says =
      two cut_in given (cut file) later there file said.cut all.cut refl is s.cut says.cut
  no_more_cut value there is g later all is_key is_value lawful says = cc

  pub no_more_mail : (value : List ℕ)
      → ((kind : MailKind) → value ≡ value_of (mail kind) → (k : MailKind) × (said.mail ≡ Some k))
      → IsUnfit given key.Mail value
  no_more_mail value there (mail kind) later all is_key is_value lawful says =
      let m = there kind (sym is_value) in
      two mail_in given (mail kind) later m.0 kind said.mail all.mail refl m.1 s.mail says.mail
  no_more_mail value there g later all is_key is_value lawful says = cc

  pub no_more_schedule : (value file : List ℕ) → said.schedule ≡ Some file → IsUnfit given key.Schedule value
  no_more_schedule value there is (schedule file) later all is_key is_value lawful says =
      two schedule_in given (schedule file) later there file said.schedule all.schedule refl is s.schedule says.schedule
  no_more_schedule value there is g later all is_key is_value lawful says = cc

-- ---- what is pinned

-- an option is pinned by its word and its value
pub same_option : (g h : Given) → IsLawfulOption g → IsLawfulOption h → key_of g ≡ key_of h → value_of g ≡ value_of h
    → g ≡ h
same_option (owners m) (owners n) a b k v =
    ap owners (decimal_injective m n (omega (arith, a.1)) (omega (arith, b.1)) v)
same_option (deal Round) (deal Round) a b k v = refl
same_option (deal Blocks) (deal Blocks) a b k v = refl
same_option (cut file) (cut other) a b k v = ap cut v
same_option (mail Queue) (mail Queue) a b k v = refl
same_option (mail Ring) (mail Ring) a b k v = refl
same_option (schedule file) (schedule other) a b k v = ap schedule v
same_option g h a b k v = cc

one_list : {X : Type 0} (o p : Option X) → option_to_list o ≡ option_to_list p → o ≡ p
one_list None None e = refl
one_list None (Some y) e = cc
one_list (Some x) None e = cc
one_list (Some x) (Some y) e = cc

abbrev said_with : Option ℕ → Option Deal → Option (List ℕ) → Option MailKind → Option (List ℕ) → SaidOptions
said_with o d c m s = record { owners = o; deal = d; cut = c; mail = m; schedule = s }

-- what options give is pinned
pub same_said : (given : List Given) (a b : SaidOptions) → SaysOptions given a → SaysOptions given b → a ≡ b
same_said given a b s t = grind (arith, one_list)
