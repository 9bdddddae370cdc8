-- Words with options among them: what the first word is, and what was read so far.
use Rattle.std.proofs.Common.{◌≡◌, inl, inr, ◌∙◌, ℕ, true, false, ◌==◌, if◌then◌else◌, List, [], ◌∷◌, ◌++◌, length, arith, refl, sym, ap, subst, append_assoc, true≢false}
use Rattle.std.proofs.lemmas.List.{append-nil, append_cancel_left, length-append}
use Rattle.nll_command_line.specs.CommandLine.{begins_as_option}
use Rattle.nll_command_line.specs.Options.{Given, EndsOptions, HasOptions, none, ends, other, option, IsLawfulOption, IsWritten, key_of, value_of, word_of}
use Rattle.nll_command_line.specs.Taking.{HasJust, HasNoOption, IsUnfit, IsUnfitBefore}
use Rattle.nll_command_line.specs.declared.options.Key.{Key}
use Rattle.nll_command_line.specs.declared.options.Key.TheVariants as key
use Rattle.nll_command_line.proofs.OptionLemmas.{same_option}

abbrev Text : Type 0
Text = List ℕ

head : {X : Type 0} {x y : X} {xs ys : List X} → x ∷ xs ≡ y ∷ ys → x ≡ y
head e = cc

tail : {X : Type 0} {x y : X} {xs ys : List X} → x ∷ xs ≡ y ∷ ys → xs ≡ ys
tail e = cc

pub no_words : {X : Type 0} (xs : List X) → length xs ≡ 0 → xs ≡ []
no_words [] h = refl
no_words (x ∷ xs) h = absurd (omega (arith, h))

-- ---- the word of an option

begins_alone : (k : Key) → begins_as_option (word_of k) ≡ true
begins_alone key.Owners = refl
begins_alone _ = refl

begins_joined : (k : Key) (value : Text) → begins_as_option (word_of k ++ 61 ∷ value) ≡ true
begins_joined key.Owners value = refl
begins_joined _ value = refl

abbrev third : Text → ℕ
third [] = 0
third (a ∷ []) = 0
third (a ∷ b ∷ []) = 0
third (a ∷ b ∷ c ∷ rest) = c

-- the option that has this third character
abbrev key_at : ℕ → Key
key_at c =
    if c == 111 then key.Owners else (if c == 100 then key.Deal
    else (if c == 99 then key.Cut else (if c == 109 then key.Mail else key.Schedule)))

read_alone : (k : Key) → key_at (third (word_of k)) ≡ k
read_alone key.Owners = refl
read_alone _ = refl

read_joined : (k : Key) (value : Text) → key_at (third (word_of k ++ 61 ∷ value)) ≡ k
read_joined key.Owners value = refl
read_joined _ value = refl

key_alone : (w : Text) (k l : Key) → w ≡ word_of k → w ≡ word_of l → k ≡ l
key_alone w k l a b = sym (read_alone k) ∙ (ap (λ (x : Text). key_at (third x)) (sym a ∙ b) ∙ read_alone l)

key_joined : (w : Text) (k l : Key) (u v : Text) → w ≡ word_of k ++ 61 ∷ u → w ≡ word_of l ++ 61 ∷ v → k ≡ l
key_joined w k l u v a b = sym (read_joined k u) ∙ (ap (λ (x : Text). key_at (third x)) (sym a ∙ b) ∙ read_joined l v)

value_joined : (w : Text) (k l : Key) (u v : Text) → w ≡ word_of k ++ 61 ∷ u → w ≡ word_of l ++ 61 ∷ v → u ≡ v
value_joined w k l u v a b = grind (arith, key_joined, tail, append_cancel_left)

not_both : (w : Text) (k l : Key) (v : Text) → w ≡ word_of k → w ≡ word_of l ++ 61 ∷ v → ⊥
not_both w k l v a b = grind (arith, read_alone, read_joined, length-append)

-- ---- what the first word is

data First (gs : List Given) (os : List Text) (w : Text) (behind : List Text) : Type 0 where
  at_end : EndsOptions w → gs ≡ [] → os ≡ w ∷ behind → First gs os w behind
  at_other : (more : List Text) → begins_as_option w ≡ false → os ≡ w ∷ more → HasOptions gs more behind
      → First gs os w behind
  at_apart : (g : Given) (later : List Given) (rest : List Text) → w ≡ word_of (key_of g)
      → begins_as_option (value_of g) ≡ false → behind ≡ value_of g ∷ rest → IsLawfulOption g → gs ≡ g ∷ later
      → HasOptions later os rest → First gs os w behind
  at_joined : (g : Given) (later : List Given) → w ≡ word_of (key_of g) ++ 61 ∷ value_of g → IsLawfulOption g
      → gs ≡ g ∷ later
      → HasOptions later os behind → First gs os w behind

first_of : (gs : List Given) (os ws : List Text) → HasOptions gs os ws → (w : Text) (behind : List Text)
    → ws ≡ w ∷ behind → First gs os w behind
first_of _ _ _ none w behind e = cc
first_of _ _ _ (ends word rest h) w behind e = at_end (subst EndsOptions (head e) h) refl e
first_of _ _ _ (other given word others words plain h) w behind e =
    at_other others (subst (λ (x : Text). begins_as_option x ≡ false) (head e) plain)
    (ap (λ (x : Text). x ∷ others) (head e)) (subst (λ (xs : List Text). HasOptions given others xs) (tail e) h)
first_of _ _ _ (option g given front others words written lawful h) w behind e = elim written [
  | inl k ↦ let same : word_of (key_of g) ∷ value_of g ∷ words ≡ w ∷ behind =
      sym (ap (λ (xs : List Text). xs ++ words) k.0) ∙ e in
      at_apart g given words (sym (head same)) k.1 (sym (tail same)) lawful refl h
  | inr k ↦ let same : (word_of (key_of g) ++ 61 ∷ value_of g) ∷ words ≡ w ∷ behind =
      sym (ap (λ (xs : List Text). xs ++ words) k) ∙ e in
      at_joined g given (sym (head same)) lawful refl
      (subst (λ (xs : List Text). HasOptions given others xs) (tail same) h)
]

module _ (gs : List Given) (os : List Text) (w : Text) (behind : List Text) where
  only_other : begins_as_option w ≡ false → First gs os w behind
      → (more : List Text) × (os ≡ w ∷ more) × HasOptions gs more behind
  only_other plain (at_end h nothing same) = absurd (true≢false (sym h.begins ∙ plain))
  only_other plain (at_other more p e h) = (more, e, h)
  only_other plain (at_apart g later rest is p value lawful e h) =
      absurd (true≢false (sym (begins_alone (key_of g)) ∙ (ap begins_as_option (sym is) ∙ plain)))
  only_other plain (at_joined g later is lawful e h) =
      absurd (true≢false (sym (begins_joined (key_of g) (value_of g)) ∙ (ap begins_as_option (sym is) ∙ plain)))

  only_end : EndsOptions w → First gs os w behind → (gs ≡ []) × (os ≡ w ∷ behind)
  only_end end (at_end h nothing same) = (nothing, same)
  only_end end (at_other more p e h) = absurd (true≢false (sym end.begins ∙ p))
  only_end end (at_apart g later rest is p value lawful e h) = absurd (end.alone (key_of g) is)
  only_end end (at_joined g later is lawful e h) = absurd (end.joined (key_of g) (value_of g) is)

  only_apart : (k : Key) → w ≡ word_of k → First gs os w behind
      → (g : Given) × (later : List Given) × (rest : List Text) × (key_of g ≡ k)
      × (begins_as_option (value_of g) ≡ false) × (behind ≡ value_of g ∷ rest) × IsLawfulOption g × (gs ≡ g ∷ later)
      × HasOptions later os rest
  only_apart k here (at_end h nothing same) = absurd (h.alone k here)
  only_apart k here (at_other more p e h) =
      absurd (true≢false (sym (begins_alone k) ∙ (ap begins_as_option (sym here) ∙ p)))
  only_apart k here (at_apart g later rest is p value lawful e h) =
      (g, later, rest, key_alone w (key_of g) k is here, p, value, lawful, e, h)
  only_apart k here (at_joined g later is lawful e h) = absurd (not_both w k (key_of g) (value_of g) here is)

  only_joined : (k : Key) (v : Text) → w ≡ word_of k ++ 61 ∷ v → First gs os w behind
      → (g : Given) × (later : List Given) × (key_of g ≡ k) × (value_of g ≡ v) × IsLawfulOption g × (gs ≡ g ∷ later)
      × HasOptions later os behind
  only_joined k v here (at_end h nothing same) = absurd (h.joined k v here)
  only_joined k v here (at_other more p e h) =
      absurd (true≢false (sym (begins_joined k v) ∙ (ap begins_as_option (sym here) ∙ p)))
  only_joined k v here (at_apart g later rest is p value lawful e h) = absurd (not_both w (key_of g) k v is here)
  only_joined k v here (at_joined g later is lawful e h) = (
    g,
    later,
    key_joined w (key_of g) k (value_of g) v is here,
    value_joined w (key_of g) k (value_of g) v is here,
    lawful,
    e,
    h,
  )

none_left : (gs : List Given) (os ws : List Text) → HasOptions gs os ws → ws ≡ [] → (gs ≡ []) × (os ≡ [])
none_left _ _ _ none e = (refl, refl)
none_left _ _ _ (ends word rest h) e = cc
none_left _ _ _ (other given word others words plain h) e = cc
none_left _ _ _ (option g given front others words written lawful h) e = elim written [
  | inl k ↦ let bad : word_of (key_of g) ∷ value_of g ∷ words ≡ [] = sym (ap (λ (xs : List Text). xs ++ words) k.0)
      ∙ e in cc
  | inr k ↦ let bad : (word_of (key_of g) ++ 61 ∷ value_of g) ∷ words ≡ [] =
      sym (ap (λ (xs : List Text). xs ++ words) k) ∙ e in cc
]

-- ---- there is one reading

pub one_way : (gs : List Given) (os ws : List Text) → HasOptions gs os ws → HasJust gs os ws
one_way _ _ _ none gs os h = none_left gs os [] h refl
one_way _ _ _ (ends word rest end) gs os h =
    only_end gs os word rest end (first_of gs os (word ∷ rest) h word rest refl)
one_way _ _ _ (other given word others words plain h) gs os k =
    let f = only_other gs os word words plain (first_of gs os (word ∷ words) k word words refl) in
    let r = one_way given others words h gs f.0 f.2 in
    (r.0, f.1 ∙ ap (λ xs. word ∷ xs) r.1)
one_way _ _ _ (option g given front others words written lawful h) gs os k = elim written [
  | inl w ↦
      let word = word_of (key_of g) in
      let f = only_apart gs os word (value_of g ∷ words) (key_of g) refl
      (first_of gs os (front ++ words) k word (value_of g ∷ words) (ap (λ (xs : List Text). xs ++ words) w.0)) in
      let both : value_of f.0 ∷ f.2 ≡ value_of g ∷ words = sym f.5 in
      let r = one_way given others words h f.1 os (subst (λ (xs : List Text). HasOptions f.1 os xs) (tail both) f.8) in
      (f.7 ∙ (ap (λ x. x ∷ f.1) (same_option f.0 g f.6 lawful f.3 (head both)) ∙ ap (λ xs. g ∷ xs) r.0), r.1)
  | inr w ↦
      let word = word_of (key_of g) ++ 61 ∷ value_of g in
      let f = only_joined gs os word words (key_of g) (value_of g) refl
      (first_of gs os (front ++ words) k word words (ap (λ (xs : List Text). xs ++ words) w)) in
      let r = one_way given others words h f.1 os f.6 in
      (f.5 ∙ (ap (λ x. x ∷ f.1) (same_option f.0 g f.4 lawful f.2 f.3) ∙ ap (λ xs. g ∷ xs) r.0), r.1)
]

-- ---- the words read so far

-- what the words left have among them comes behind what was read, and nothing else does
pub record IsReadTo (given : List Given) (others left words : List Text) : Type 0 where
  pub leads : (gs : List Given) (os : List Text) → HasOptions gs os left → HasOptions (given ++ gs) (others ++ os) words
  pub follows : (gs : List Given) (os : List Text) → HasOptions gs os words
      → (later : List Given) × (more : List Text) × HasOptions later more left × (gs ≡ given ++ later)
      × (os ≡ others ++ more)

module _ (given : List Given) (others left words : List Text) (so : IsReadTo given others left words) where
  -- ---- all words are read

  module _ (done : left ≡ []) where
    pub has_read : HasOptions given others words
    has_read =
        let h : HasOptions (given ++ []) (others ++ []) words =
        so.leads [] [] (subst (HasOptions [] []) (sym done) none) in
        subst (λ (gs : List Given). HasOptions gs others words) (append-nil given)
        (subst (λ (os : List Text). HasOptions (given ++ []) os words) (append-nil others) h)

    pub has_read_just : HasJust given others words
    has_read_just gs os h = grind (arith, none_left, append-nil)

  module _ (w : Text) (behind : List Text) (next : left ≡ w ∷ behind) where
    first : (gs : List Given) (os : List Text) → HasOptions gs os left → First gs os w behind
    first gs os h = first_of gs os left h w behind next

    -- ---- the options end

    pub has_end : EndsOptions w → HasOptions given (others ++ left) words
    has_end end =
        let h : HasOptions (given ++ []) (others ++ left) words = so.leads [] left (rw next (ends w behind end)) in
        subst (λ (gs : List Given). HasOptions gs (others ++ left) words) (append-nil given) h

    pub has_end_just : EndsOptions w → HasJust given (others ++ left) words
    has_end_just end gs os h = grind (arith, only_end, first, append-nil)

    -- ---- one more word

    pub read_other : begins_as_option w ≡ false → IsReadTo given (others ++ w ∷ []) behind words
    read_other plain = record {
      leads = λ gs os h.
          subst (λ (xs : List Text). HasOptions (given ++ gs) xs words) (sym (append_assoc others (w ∷ []) os))
          (so.leads gs (w ∷ os) (rw next (other gs w os behind plain h)));
      follows = λ gs os h.
          let t = so.follows gs os h in
          let f = only_other t.0 t.1 w behind plain (first t.0 t.1 t.2) in
          (t.0, f.0, f.2, t.3, t.4 ∙ (ap (λ xs. others ++ xs) f.1 ∙ sym (append_assoc others (w ∷ []) f.0)));
    }

    option_at : (g : Given) (front rest : List Text) → IsWritten g front → IsLawfulOption g → left ≡ front ++ rest
        → (gs : List Given) (os : List Text) → HasOptions gs os rest
        → HasOptions ((given ++ g ∷ []) ++ gs) (others ++ os) words
    option_at g front rest written lawful is gs os h =
        subst (λ (xs : List Given). HasOptions xs (others ++ os) words) (sym (append_assoc given (g ∷ []) gs))
        (so.leads (g ∷ gs) os (rw is (option g gs front os rest written lawful h)))

    behind_it : (gs later : List Given) (g h : Given) (rest : List Given) → gs ≡ given ++ later → later ≡ h ∷ rest
        → h ≡ g → gs ≡ (given ++ g ∷ []) ++ rest
    behind_it gs later g h rest a b c = a
        ∙ (ap (λ xs. given ++ xs) (b ∙ ap (λ x. x ∷ rest) c) ∙ sym (append_assoc given (g ∷ []) rest))

    pub read_joined_with : (g : Given) → w ≡ word_of (key_of g) ++ 61 ∷ value_of g → IsLawfulOption g
        → IsReadTo (given ++ g ∷ []) others behind words
    read_joined_with g is lawful = record {
      leads = option_at g (w ∷ []) behind (inr (ap (λ (x : Text). x ∷ []) is)) lawful next;
      follows = λ gs os h.
          let t = so.follows gs os h in
          let f = only_joined t.0 t.1 w behind (key_of g) (value_of g) is (first t.0 t.1 t.2) in
          (f.1, t.1, f.6, behind_it gs t.0 g f.0 f.1 t.3 f.5 (same_option f.0 g f.4 lawful f.2 f.3), t.4);
    }

    pub read_apart : (g : Given) (rest : List Text) → w ≡ word_of (key_of g) → begins_as_option (value_of g) ≡ false
        → behind ≡ value_of g ∷ rest → IsLawfulOption g → IsReadTo (given ++ g ∷ []) others rest words
    read_apart g rest is plain value lawful = record {
      leads = option_at g (w ∷ value_of g ∷ []) rest (inl (ap (λ (x : Text). x ∷ value_of g ∷ []) is, plain)) lawful
          (next ∙ ap (λ (xs : List Text). w ∷ xs) value);
      follows = λ gs os h.
          let t = so.follows gs os h in
          let f = only_apart t.0 t.1 w behind (key_of g) is (first t.0 t.1 t.2) in
          let both : value_of f.0 ∷ f.2 ≡ value_of g ∷ rest = sym f.5 ∙ value in (
            f.1,
            t.1,
            subst (λ (xs : List Text). HasOptions f.1 t.1 xs) (tail both) f.8,
            behind_it gs t.0 g f.0 f.1 t.3 f.7 (same_option f.0 g f.6 lawful f.3 (head both)),
            t.4,
          );
    }

    -- ---- an option that can't be

    pub none_joined : (k : Key) (v : Text) → w ≡ word_of k ++ 61 ∷ v → IsUnfit given k v → HasNoOption words
    none_joined k v is unfit gs os said h says = grind (arith, only_joined, first)

    pub none_apart : (k : Key) → w ≡ word_of k → IsUnfitBefore given k behind → HasNoOption words
    none_apart k is unfit gs os said h says = grind (arith, only_apart, first)
