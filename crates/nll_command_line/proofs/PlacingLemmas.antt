-- Words of which the first begins as no option, those of which it does, and words without options.
use Rattle.std.proofs.Common.{◌≡◌, ◌≢◌, ◌⊎◌, inl, inr, ⊎_elim, true, false, List, [], ◌∷◌, ◌++◌, ◌∙◌, Option, Some, None, ℕ, codes, refl, sym, ap, subst, true≢false}
use Rattle.std.specs.Str.{bytes_eq}
use Rattle.std.proofs.lemmas.Slice.Eq.{bytes_eq-Decides}
use Rattle.nll_command_line.specs.declared.task.Task.{Task}
use Rattle.nll_command_line.specs.declared.task.Task.TheVariants.{Values}
use Rattle.nll_command_line.specs.declared.options.Key.{Key}
use Rattle.nll_command_line.specs.declared.options.Key.TheVariants as key
use Rattle.nll_command_line.specs.CommandLine.{IsPlainLine, name_of, begins_as_option, AsksPlainlyForHelp, IsHelpWord, MayStandBeforeHelp}
use Rattle.std.specs.Option.{option_to_list}
use Rattle.nll_command_line.specs.Options.{ArePlaced, AreOptionsRead, Given, HasOptions, SaidOptions, SaysOptions, no_options, no_words, behind, unread, none, ends, other, EndsOptions, word_of}
use Rattle.nll_command_line.specs.Taking.{AreReadJust, AreUnreadable, HasJust, HasNoOption}
use Rattle.nll_command_line.proofs.OptionLemmas.{same_said}
use Rattle.nll_command_line.proofs.WordLemmas.{one_way}

abbrev Text : Type 0
Text = List ℕ

-- ---- the first word

head : {x y : Text} {xs ys : List Text} → x ∷ xs ≡ y ∷ ys → x ≡ y
head e = cc

tail : {x y : Text} {xs ys : List Text} → x ∷ xs ≡ y ∷ ys → xs ≡ ys
tail e = cc

placed_none : (gs : List Given) (os ws : List Text) → ArePlaced gs os ws → ws ≡ [] → (gs ≡ []) × (os ≡ [])
placed_none _ _ _ no_words e = (refl, refl)
placed_none _ _ _ (unread first rest begins) e = cc
placed_none _ _ _ (behind given first others rest plain h) e = cc

placed_unread : (gs : List Given) (os ws : List Text) → ArePlaced gs os ws → (first : Text) (rest : List Text)
    → ws ≡ first ∷ rest → begins_as_option first ≡ true → (gs ≡ []) × (os ≡ first ∷ rest)
placed_unread _ _ _ no_words first rest e begins = cc
placed_unread _ _ _ (unread word words h) first rest e begins = (refl, e)
placed_unread _ _ _ (behind given word others words plain h) first rest e begins =
    absurd (true≢false (sym begins ∙ (ap begins_as_option (sym (head e)) ∙ plain)))

placed_behind : (gs : List Given) (os ws : List Text) → ArePlaced gs os ws → (first : Text) (rest : List Text)
    → ws ≡ first ∷ rest → begins_as_option first ≡ false
    → (more : List Text) × (os ≡ first ∷ more) × HasOptions gs more rest
placed_behind _ _ _ no_words first rest e plain = cc
placed_behind _ _ _ (unread word words begins) first rest e plain =
    absurd (true≢false (sym begins ∙ (ap begins_as_option (head e) ∙ plain)))
placed_behind _ _ _ (behind given word others words p h) first rest e plain =
    (others, ap (λ (x : Text). x ∷ others) (head e), subst (λ (xs : List Text). HasOptions given others xs) (tail e) h)

-- where all options are among those behind the first word, so is what they give
just_said : (given : List Given) (said : SaidOptions) (words others : List Text) → SaysOptions given said
    → ((gs : List Given) (os : List Text) → ArePlaced gs os words → (gs ≡ given) × (os ≡ others))
    → AreReadJust words others said
just_said given said words others says just os s r =
    let h = just r.given os r.placed in
    (h.1, same_said given s said (subst (λ (gs : List Given). SaysOptions gs s) h.0 r.says) says)

empty_list : {X : Type 0} (o : Option X) → option_to_list o ≡ [] → o ≡ None
empty_list None e = refl
empty_list (Some x) e = cc

module _ (words : List Text) (said : SaidOptions) (says : SaysOptions [] said) where
  nothing_cut : (said.deal ≡ None) ⊎ (said.cut ≡ None)
  nothing_cut = inl (empty_list said.deal (sym says.deal))

  -- ---- no words

  pub none_read : words ≡ [] → AreOptionsRead words [] said
  none_read e = record { given = []; placed = rw e no_words; says = says; one_cut = nothing_cut }

  pub none_read_just : words ≡ [] → AreReadJust words [] said
  none_read_just e = just_said [] said words [] says (λ gs os h. placed_none gs os words h e)

  -- ---- a first word that begins as an option

  module _ (first : Text) (rest : List Text) (e : words ≡ first ∷ rest) (begins : begins_as_option first ≡ true) where
    pub unread_read : AreOptionsRead words words said
    unread_read = record { given = []; placed = rw e (unread first rest begins); says = says; one_cut = nothing_cut }

    pub unread_read_just : AreReadJust words words said
    unread_read_just =
        just_said [] said words words says (λ gs os h. let t = placed_unread gs os words h first rest e begins in
        (t.0, t.1 ∙ sym e))

-- ---- a first word that does not

module _ (words : List Text) (first : Text) (rest : List Text) (e : words ≡ first ∷ rest)
    (plain : begins_as_option first ≡ false) where
  module _ (given : List Given) (others : List Text) (said : SaidOptions) (says : SaysOptions given said) where
    pub behind_read : HasOptions given others rest → (said.deal ≡ None) ⊎ (said.cut ≡ None)
        → AreOptionsRead words (first ∷ others) said
    behind_read h one =
        record { given = given; placed = rw e (behind given first others rest plain h); says = says; one_cut = one }

    pub behind_read_just : HasJust given others rest → AreReadJust words (first ∷ others) said
    behind_read_just just = just_said given said words (first ∷ others) says (λ gs os h.
        let t = placed_behind gs os words h first rest e plain in
        let j = just gs t.0 t.2 in
        (j.0, t.1 ∙ ap (λ xs. first ∷ xs) j.1))

    pub behind_two_cuts : HasJust given others rest → said.deal ≢ None → said.cut ≢ None → AreUnreadable words
    behind_two_cuts just dealt cut os s r =
        let same : s ≡ said = (behind_read_just just os s r).1 in
        ⊎_elim (λ h. dealt (sym (ap (λ (x : SaidOptions). x.deal) same) ∙ h))
        (λ h. cut (sym (ap (λ (x : SaidOptions). x.cut) same) ∙ h)) r.one_cut

  pub behind_none : HasNoOption rest → AreUnreadable words
  behind_none nothing os s r = let t = placed_behind r.given os words r.placed first rest e plain in
      nothing r.given t.0 s t.2 r.says

-- ---- there is one reading

pub read_in_one_way : (words others : List Text) (said : SaidOptions) → AreOptionsRead words others said
    → AreReadJust words others said
read_in_one_way words others said read = at read.given others words read.placed read.says
  where
    at : (gs : List Given) (os ws : List Text) → ArePlaced gs os ws → SaysOptions gs said → AreReadJust ws os said
    at _ _ _ no_words says = none_read_just [] said says refl
    at _ _ _ (unread first rest begins) says = unread_read_just (first ∷ rest) said says first rest refl begins
    at _ _ _ (behind given first others rest plain h) says =
        behind_read_just (first ∷ rest) first rest refl plain given others said says (one_way given others rest h)

-- ---- words without options

differ : (a b : Text) → bytes_eq a b ≡ false → a ≡ b → ⊥
differ a b e same = true≢false (sym ((bytes_eq-Decides a b).1 same) ∙ e)

named : (task : Task) → begins_as_option (name_of task) ≡ false
named Values = refl
named _ = refl

no_key : (k : Key) → codes "--" ≡ word_of k → ⊥
no_key key.Owners e = cc
no_key _ e = cc

no_joined : (k : Key) (v : Text) → codes "--" ≡ word_of k ++ 61 ∷ v → ⊥
no_joined key.Owners v e = cc
no_joined _ v e = cc

dashes : EndsOptions (codes "--")
dashes = record { begins = refl; alone = no_key; joined = no_joined }

plain_placed : (task : Task) (file : Text) (words : List Text) → IsPlainLine task file words → ArePlaced [] words words
plain_placed task file words (inl h) = rw h.0 (behind [] _ _ _ (named task) (other [] file [] [] h.1 none))
plain_placed task file words (inr (inl h)) = rw h (behind [] _ _ _ (named task) (ends _ _ dashes))
plain_placed task file words (inr (inr h)) =
    rw h.0 (behind [] _ _ _ (named task) (other [] file _ _ h.1 (ends _ _ dashes)))

help_key : (w : Text) → IsHelpWord w → (k : Key) → w ≡ word_of k → ⊥
help_key w (inl h) key.Owners e = differ (codes "--help") (word_of key.Owners) refl (sym h ∙ e)
help_key w (inl h) key.Deal e = differ (codes "--help") (word_of key.Deal) refl (sym h ∙ e)
help_key w (inl h) key.Cut e = differ (codes "--help") (word_of key.Cut) refl (sym h ∙ e)
help_key w (inl h) key.Mail e = differ (codes "--help") (word_of key.Mail) refl (sym h ∙ e)
help_key w (inl h) key.Schedule e = differ (codes "--help") (word_of key.Schedule) refl (sym h ∙ e)
help_key w (inr h) key.Owners e = differ (codes "-h") (word_of key.Owners) refl (sym h ∙ e)
help_key w (inr h) key.Deal e = differ (codes "-h") (word_of key.Deal) refl (sym h ∙ e)
help_key w (inr h) key.Cut e = differ (codes "-h") (word_of key.Cut) refl (sym h ∙ e)
help_key w (inr h) key.Mail e = differ (codes "-h") (word_of key.Mail) refl (sym h ∙ e)
help_key w (inr h) key.Schedule e = differ (codes "-h") (word_of key.Schedule) refl (sym h ∙ e)

help_joined : (w : Text) → IsHelpWord w → (k : Key) (v : Text) → w ≡ word_of k ++ 61 ∷ v → ⊥
help_joined w (inl h) key.Owners v e = differ (codes "--help") (word_of key.Owners ++ 61 ∷ v) refl (sym h ∙ e)
help_joined w (inl h) key.Deal v e = differ (codes "--help") (word_of key.Deal ++ 61 ∷ v) refl (sym h ∙ e)
help_joined w (inl h) key.Cut v e = differ (codes "--help") (word_of key.Cut ++ 61 ∷ v) refl (sym h ∙ e)
help_joined w (inl h) key.Mail v e = differ (codes "--help") (word_of key.Mail ++ 61 ∷ v) refl (sym h ∙ e)
help_joined w (inl h) key.Schedule v e = differ (codes "--help") (word_of key.Schedule ++ 61 ∷ v) refl (sym h ∙ e)
help_joined w (inr h) key.Owners v e = differ (codes "-h") (word_of key.Owners ++ 61 ∷ v) refl (sym h ∙ e)
help_joined w (inr h) key.Deal v e = differ (codes "-h") (word_of key.Deal ++ 61 ∷ v) refl (sym h ∙ e)
help_joined w (inr h) key.Cut v e = differ (codes "-h") (word_of key.Cut ++ 61 ∷ v) refl (sym h ∙ e)
help_joined w (inr h) key.Mail v e = differ (codes "-h") (word_of key.Mail ++ 61 ∷ v) refl (sym h ∙ e)
help_joined w (inr h) key.Schedule v e = differ (codes "-h") (word_of key.Schedule ++ 61 ∷ v) refl (sym h ∙ e)

help_begins : (w : Text) → IsHelpWord w → begins_as_option w ≡ true
help_begins w (inl h) = rw h refl
help_begins w (inr h) = rw h refl

help_ends : (w : Text) → IsHelpWord w → EndsOptions w
help_ends w h = record { begins = help_begins w h; alone = help_key w h; joined = help_joined w h }

by_front : (front : List Text) (w : Text) (rest : List Text) → MayStandBeforeHelp front → IsHelpWord w
    → ArePlaced [] (front ++ w ∷ rest) (front ++ w ∷ rest)
by_front [] w rest before h = unread w rest (help_begins w h)
by_front (name ∷ []) w rest before h = behind [] name _ _ (rw before.1 (named before.0)) (ends w rest (help_ends w h))
by_front (name ∷ file ∷ []) w rest before h =
    behind [] name _ _ (rw before.0.1 (named before.0.0)) (other [] file _ _ before.1 (ends w rest (help_ends w h)))
by_front (name ∷ file ∷ more ∷ others) w rest before h = absurd before

help_placed : (words : List Text) → AsksPlainlyForHelp words → ArePlaced [] words words
help_placed words h = rw h.are (by_front h.front h.word h.rest h.before h.asks)

nothing_said : SaysOptions [] no_options
nothing_said = record { owners = refl; deal = refl; cut = refl; mail = refl; schedule = refl }

pub plain_read : (task : Task) (file : Text) (words : List Text) → IsPlainLine task file words
    → AreOptionsRead words words no_options
plain_read task file words h =
    record { given = []; placed = plain_placed task file words h; says = nothing_said; one_cut = inl refl }

pub help_read : (words : List Text) → AsksPlainlyForHelp words → AreOptionsRead words words no_options
help_read words h = record { given = []; placed = help_placed words h; says = nothing_said; one_cut = inl refl }
