use Rattle.std.proofs.Common.{◌≡◌, inr, ◌++◌, [], ◌∷◌, List, ℕ, map, string_bytes, sym, ap, ◌∙◌, append_assoc}
use Rattle.std.proofs.lemmas.List.{map-append}
use Rattle.std.proofs.lemmas.Result.{on_ok_weaker, err_from_is_err_and}
use Rattle.nll_command_line.specs.Options.{EndsOptions, key_of, word_of}
use Rattle.nll_command_line.specs.declared.options.Key.{Key}
use Rattle.nll_command_line.proofs.WordLemmas.{no_words, read_other, read_joined_with, read_apart, has_read, has_read_just, has_end, has_end_just, none_apart, none_joined}
use Rattle.nll_command_line.proofs.options.take_options.Goals as goal

pub returns-clause-ok : goal.returns-clause-ok
returns-clause-ok c =
    let t = c.loop-word.invariant in
    let done = no_words c.loop-word.left.now c.in_default.ensures.cases in (
      t.0,
      t.1,
      has_read t.0 t.1 _ _ t.4 (ap (map string_bytes) done),
      has_read_just t.0 t.1 _ _ t.4 (ap (map string_bytes) done),
      t.2,
      t.3,
    )

pub returns-in-Last-clause-ok : goal.returns-in-Last-clause-ok
returns-in-Last-clause-ok c =
    let t = c.loop-word.invariant in
    let left : List (List ℕ) = map string_bytes c.loop-word.left.now in
    let next = ap (map string_bytes) c.in-Some.ensures.cases.0 in
    let end : EndsOptions (string_bytes c.in-Some.word.now) = rw c.as_str.ensures.value at c.in-Last.ensures in
    on_ok_weaker c.push_all.result
    (λ h. (
      t.0,
      t.1 ++ left,
      has_end t.0 t.1 _ _ t.4 _ _ next end,
      has_end_just t.0 t.1 _ _ t.4 _ _ next end,
      t.2,
      h ∙ (ap (λ (os : List (List ℕ)). os ++ left) t.3 ∙ append_assoc _ t.1 left),
    ))
    c.push_all.ensures.ok

pub loop-word-preserved-in_ok-left-in-Alone : goal.loop-word-preserved-in_ok-left-in-Alone
loop-word-preserved-in_ok-left-in-Alone c =
    let t = c.loop-word.invariant in
    let one = c.in_ok-left-in-Alone.ensures.ok t.0 t.2 in
    let next = ap (map string_bytes) c.in-Some.ensures.cases.0 in
    let is : string_bytes c.in-Some.word.now ≡ word_of c.in-Alone.key = sym c.as_str.ensures.value
    ∙ c.in-Alone.ensures in (
      t.0 ++ one.0 ∷ [],
      t.1,
      one.5,
      t.3,
      read_apart t.0 t.1 _ _ t.4 _ _ next one.0 _ (is ∙ ap word_of (sym one.1)) one.2 one.4 one.3,
    )

pub loop-word-preserved-in_ok-give-in-Joined : goal.loop-word-preserved-in_ok-give-in-Joined
loop-word-preserved-in_ok-give-in-Joined c =
    let t = c.loop-word.invariant in
    let one = c.in_ok-give-in-Joined.ensures.ok t.0 t.2 in
    let next = ap (map string_bytes) c.in-Some.ensures.cases.0 in
    let is : string_bytes c.in-Some.word.now ≡ word_of c.in-Joined.key ++ 61 ∷ c.in-Joined.value.now =
    sym c.as_str.ensures.value ∙ c.in-Joined.ensures in (
      t.0 ++ one.0 ∷ [],
      t.1,
      one.4,
      t.3,
      read_joined_with t.0 t.1 _ _ t.4 _ _ next one.0
          (is ∙ (ap (λ (k : Key). word_of k ++ 61 ∷ c.in-Joined.value.now) (sym one.1)
          ∙ ap (λ (v : List ℕ). word_of (key_of one.0) ++ 61 ∷ v) (sym one.2))) one.3,
    )

pub loop-word-preserved : goal.loop-word-preserved
loop-word-preserved c =
    let t = c.loop-word.invariant in
    let next = ap (map string_bytes) c.in-Some.ensures.cases.0 in
    let plain = rw c.as_str.ensures.value at c.in-Plain.ensures in
    let told =
    rw c.as_str-in-Plain.ensures.value at
    (ap (map (λ word. word.now)) c.in_ok-push-in-Plain.ensures.items
    ∙ map-append (λ word. word.now) c.loop-word.others.items _) in (
      t.0,
      t.1 ++ string_bytes c.in-Some.word.now ∷ [],
      t.2,
      told ∙ (ap (λ (os : List (List ℕ)). os ++ string_bytes c.in-Some.word.now ∷ []) t.3
          ∙ append_assoc _ t.1 (string_bytes c.in-Some.word.now ∷ [])),
      read_other t.0 t.1 _ _ t.4 _ _ next plain,
    )

pub returns-in_err-left-in-Alone-clause-err : goal.returns-in_err-left-in-Alone-clause-err
returns-in_err-left-in-Alone-clause-err c =
    let t = c.loop-word.invariant in
    let p = err_from_is_err_and c.from_residual.result c.from_residual.ensures.1 in
    let e = c.in_err-left-in-Alone.ensures.err in
    let next = ap (map string_bytes) c.in-Some.ensures.cases.0 in
    let is : string_bytes c.in-Some.word.now ≡ word_of c.in-Alone.key = sym c.as_str.ensures.value
    ∙ c.in-Alone.ensures in
    rw p.1 (inr (p.2 ∙ e.0, none_apart t.0 t.1 _ _ t.4 _ _ next c.in-Alone.key is (e.1 t.0 t.2)))

pub returns-in_err-give-in-Joined-clause-err : goal.returns-in_err-give-in-Joined-clause-err
returns-in_err-give-in-Joined-clause-err c =
    let t = c.loop-word.invariant in
    let p = err_from_is_err_and c.from_residual-in_err-give-in-Joined.result
    c.from_residual-in_err-give-in-Joined.ensures.1 in
    let e = c.in_err-give-in-Joined.ensures.err in
    let next = ap (map string_bytes) c.in-Some.ensures.cases.0 in
    let is : string_bytes c.in-Some.word.now ≡ word_of c.in-Joined.key ++ 61 ∷ c.in-Joined.value.now =
    sym c.as_str.ensures.value ∙ c.in-Joined.ensures in
    rw p.1 (inr (
      p.2 ∙ e.0,
      none_joined t.0 t.1 _ _ t.4 _ _ next c.in-Joined.key c.in-Joined.value.now is
          (e.1 t.0 t.2),
    ))
