use Rattle.std.proofs.Common.{◌≡◌, inl, inr, refl, option_map, ◌++◌, [], ◌∷◌, List, ℕ, map, string_bytes, sym, ap, ◌∙◌, true, false}
use Rattle.std.proofs.lemmas.Option.{none-some}
use Rattle.std.proofs.lemmas.Result.{on_ok_weaker}
use Rattle.nll_command_line.specs.CommandLine.{begins_as_option}
use Rattle.nll_command_line.proofs.OptionLemmas.{none_of, some_of}
use Rattle.nll_command_line.proofs.WordLemmas.{no_words}
use Rattle.nll_command_line.proofs.PlacingLemmas.{none_read, none_read_just, unread_read, unread_read_just, behind_read, behind_read_just, behind_two_cuts}
use Rattle.nll_command_line.proofs.options.part_words.Goals as goal
use Rattle.nll_command_line.proofs.options.part_words.Goals.{else-is_some-via-then-is_some+else-is_some-2, else-is_some-via-else-is_some}

pub returns-in_default-clause-ok : goal.returns-in_default-clause-ok
returns-in_default-clause-ok c =
    let none = ap (map string_bytes) (no_words c.args.words.now c.in_default.ensures.cases) in
    rw c.requires.empty (none_read _ _ c.requires.none none)

pub returns-in_default-clause-just : goal.returns-in_default-clause-just
returns-in_default-clause-just c =
    let none = ap (map string_bytes) (no_words c.args.words.now c.in_default.ensures.cases) in
    rw c.requires.empty (none_read_just _ _ c.requires.none none)

pub returns-then-begins_as_option-clause-ok : goal.returns-then-begins_as_option-clause-ok
returns-then-begins_as_option-clause-ok c =
    let next = ap (map string_bytes) c.in-Some.ensures.cases.0 in
    let begins : begins_as_option (string_bytes c.in-Some.first.now) ≡ true =
    ap begins_as_option (sym c.as_str.ensures.value)
    ∙ (sym c.begins_as_option.ensures ∙ c.if-begins_as_option.true) in
    on_ok_weaker c.push_all.result
    (λ h. rw (rw c.requires.empty at h) (unread_read _ _ c.requires.none _ _ next begins))
    c.push_all.ensures.ok

pub returns-then-begins_as_option-clause-just : goal.returns-then-begins_as_option-clause-just
returns-then-begins_as_option-clause-just c =
    let next = ap (map string_bytes) c.in-Some.ensures.cases.0 in
    let begins : begins_as_option (string_bytes c.in-Some.first.now) ≡ true =
    ap begins_as_option (sym c.as_str.ensures.value)
    ∙ (sym c.begins_as_option.ensures ∙ c.if-begins_as_option.true) in
    on_ok_weaker c.push_all.result
    (λ h. rw (rw c.requires.empty at h) (unread_read_just _ _ c.requires.none _ _ next begins))
    c.push_all.ensures.ok

pub returns-clause-ok : goal.returns-clause-ok
returns-clause-ok c =
    let next = ap (map string_bytes) c.in-Some.ensures.cases.0 in
    let plain : begins_as_option (string_bytes c.in-Some.first.now) ≡ false =
    ap begins_as_option (sym c.as_str.ensures.value)
    ∙ (sym c.begins_as_option.ensures ∙ c.if-begins_as_option.false) in
    let told = c.in_ok-take_options.ensures.ok in
    let one : map (λ word. word.now) c.push.new.self.items ≡ string_bytes c.in-Some.first.now ∷ [] =
    rw (c.in_ok-push.ensures.items, c.requires.empty, c.as_str-2.ensures.value) refl in
    let others : map (λ word. word.now) c.take_options.new.others.items ≡ string_bytes c.in-Some.first.now ∷ told.1 =
    told.5 ∙ ap (λ (os : List (List ℕ)). os ++ told.1) one in
    rw others (behind_read _ _ _ next plain told.0 told.1 _ told.4 told.2 (elim c.else-is_some.branch [
      | else-is_some-via-then-is_some+else-is_some-2 w ↦ inr
          (ap (option_map (λ file. file.now))
          (none_of c.take_options.new.options.cut (sym w.is_some-then-is_some.ensures ∙ w.if-is_some-2.false)))
      | else-is_some-via-else-is_some w ↦ inl
          (none_of c.take_options.new.options.deal (sym c.is_some.ensures ∙ w.if-is_some.false))
    ]))

pub returns-clause-just : goal.returns-clause-just
returns-clause-just c =
    let next = ap (map string_bytes) c.in-Some.ensures.cases.0 in
    let plain : begins_as_option (string_bytes c.in-Some.first.now) ≡ false =
    ap begins_as_option (sym c.as_str.ensures.value)
    ∙ (sym c.begins_as_option.ensures ∙ c.if-begins_as_option.false) in
    let told = c.in_ok-take_options.ensures.ok in
    let one : map (λ word. word.now) c.push.new.self.items ≡ string_bytes c.in-Some.first.now ∷ [] =
    rw (c.in_ok-push.ensures.items, c.requires.empty, c.as_str-2.ensures.value) refl in
    let others : map (λ word. word.now) c.take_options.new.others.items ≡ string_bytes c.in-Some.first.now ∷ told.1 =
    told.5 ∙ ap (λ (os : List (List ℕ)). os ++ told.1) one in
    rw others (behind_read_just _ _ _ next plain told.0 told.1 _ told.4 told.3)

pub returns-then-is_some-2-clause-err : goal.returns-then-is_some-2-clause-err
returns-then-is_some-2-clause-err c =
    let next = ap (map string_bytes) c.in-Some.ensures.cases.0 in
    let plain : begins_as_option (string_bytes c.in-Some.first.now) ≡ false =
    ap begins_as_option (sym c.as_str.ensures.value)
    ∙ (sym c.begins_as_option.ensures ∙ c.if-begins_as_option.false) in
    let told = c.in_ok-take_options.ensures.ok in
    let deal = some_of c.take_options.new.options.deal (sym c.is_some.ensures ∙ c.if-is_some.true) in
    let cut = some_of c.take_options.new.options.cut (sym c.is_some-then-is_some.ensures ∙ c.if-is_some-2.true) in
    inr (
      refl,
      behind_two_cuts _ _ _ next plain told.0 told.1 _ told.4 told.3
          (λ none. none-some deal.0 (sym none ∙ deal.1))
          (λ none. none-some cut.0.now (sym none ∙ ap (option_map (λ file. file.now)) cut.1)),
    )
