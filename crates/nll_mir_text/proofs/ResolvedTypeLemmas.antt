-- Running over the pieces of a written type resolves it.
use Rattle.std.proofs.Common.{◌≡◌, ℕ, ◌+◌, ◌-◌, ◌<◌, get_or, Bool, true, false, ◌&&◌, List, [], ◌∷◌, ◌++◌, length, map, reverse, drop, refl, sym, ap, ◌∙◌, append_assoc, arith, subst}
use Rattle.std.proofs.Math.Seq.{drop-append_seam, get_or-append_seam, take-append_seam}
use Rattle.std.proofs.lemmas.List.{append-nil, at_drop_more, length-append, reverse-append}
use Rattle.std.specs.Prelude.{take, ◌||◌, if◌then◌else◌, slice_index_or}
use Rattle.nll_format.specs.Names.{number_of}
use Rattle.nll_sets.specs.Prefix.{IsPrefix}
use Rattle.nll_sets.proofs.PrefixLemmas.{prefix_further}
use Rattle.nll_types.specs.Rows.{region_row, region_rows}
use Rattle.nll_types.specs.Types.{TypeTree, TypeTrees}
use Rattle.nll_types.specs.Types as types
use Rattle.nll_types.specs.Views.{row_of_trees}
use Rattle.nll_mir_grammar.specs.WrittenTypes.{WrittenName, WrittenType, WrittenTypes, Arguments, int, reference, tuple, named, function, none, more, no_argument, region_argument, type_argument}
use Rattle.nll_mir_grammar.specs.TypeTexts as texts
use Rattle.nll_mir_grammar.specs.TypeTexts.{IsType, plain, written, begin_row, begin_reference, add_region, add_type, make_int, make_tuple, make_named, make_function}
use Rattle.nll_mir_grammar.specs.declared.type_text.TypePiece.{TypePiece}
use Rattle.nll_mir_text.specs.Naming.{Scope, is_name_among, is_known, has_arguments, meant, all_meant, regions_meant, types_meant, kinds_of, same_kinds}
use Rattle.nll_mir_text.specs.ToldTypes.{are_known, have_arguments, arguments_are_known, arguments_have_arguments}
use Rattle.nll_mir_text.specs.Resolving.{KeepsRegions, NoneWaits, ResolvingState, after_resolved, newest_arguments, is_region_entry, newest, no_regions_after, all_but_last, others, regions_around, regions_in, run_pieces, starts, type_completed, types_before, types_inside}
use Rattle.nll_mir_text.specs.declared.rows.Mark.{Mark}
use Rattle.nll_mir_text.specs.declared.rows.Mark.TheVariants as marks

-- what is resolved, of its parts
abbrev pub state : List TypeTree → List ℕ → List Mark → Bool → Bool → ResolvingState
state ts rs ms k f = record { made = ts; regions = rs; rows = ms; known = k; fits = f }

-- it is the same where its parts are
same_state : {ts us : List TypeTree} {rs qs : List ℕ} {ms ns : List Mark} {k l f g : Bool} → ts ≡ us → rs ≡ qs
    → ms ≡ ns → k ≡ l → f ≡ g → state ts rs ms k f ≡ state us qs ns l g
same_state a b c d e = cc

same_completed : {t u : TypeTree} {a b : ResolvingState} → t ≡ u → a ≡ b → type_completed t a ≡ type_completed u b
same_completed {t} {u} {a} {b} d e = ap (λ v. type_completed v a) d ∙ ap (type_completed u) e

-- a type for which no reference waits
complete_alone : (u : TypeTree) (ts : List TypeTree) (rs : List ℕ) (ms : List Mark) (k f : Bool) → NoneWaits ms
    → type_completed u (state ts rs ms k f) ≡ state (ts ++ u ∷ []) rs ms k f
complete_alone u ts rs ms k f n =
    same_state (ap (λ v. ts ++ v ∷ []) (n.2 u)) (ap (λ qs. rs ++ qs) n.1 ∙ append-nil rs) n.0 refl refl

-- tests in a row
pub and_true : (a : Bool) → a && true ≡ a
and_true true = refl
and_true false = refl

and_first : (a b c : Bool) → (a && b) && c ≡ a && (b && c)
and_first true b c = refl
and_first false b c = refl

and_last : (a b c : Bool) → (a && b) && c ≡ a && (c && b)
and_last true true true = refl
and_last true true false = refl
and_last true false true = refl
and_last true false false = refl
and_last false b c = refl

-- the regions of a reference, and of those around it
around_regions : (rs row : List ℕ) (q : ℕ) (qs : List ℕ)
    → (rs ++ row) ++ q ∷ qs ≡ (rs ++ (row ++ q ∷ [])) ++ qs
around_regions rs row q qs = simp append_assoc

-- lists in a row, before another
three : {X : Type 0} (a b c d : List X) → (a ++ b ++ c) ++ d ≡ a ++ (b ++ (c ++ d))
three a b c d = append_assoc (a ++ b) c d ∙ append_assoc a b (c ++ d)

-- what stands last in a list, and the others
last_at : {X : Type 0} (xs : List X) (x d : X) → slice_index_or (xs ++ x ∷ []) (length (xs ++ x ∷ []) - 1) d ≡ x
last_at xs x d =
    let e : length (xs ++ x ∷ []) - 1 ≡ length xs = omega (arith, length-append xs (x ∷ [])) in
    rw e (get_or-append_seam xs x [] d)

before_last : {X : Type 0} (xs : List X) (x : X) → all_but_last (xs ++ x ∷ []) ≡ xs
before_last xs x =
    let e : length (xs ++ x ∷ []) - 1 ≡ length xs = omega (arith, length-append xs (x ∷ [])) in
    rw e (take-append_seam xs (x ∷ []))

-- the types of a row as a list, and as a row again
abbrev listed : TypeTrees → List TypeTree
listed types.none = []
listed (types.more t ts) = t ∷ listed ts

row_back : (ts : TypeTrees) → row_of_trees (listed ts) ≡ ts
row_back types.none = refl
row_back (types.more t ts) = ap (λ us. types.more t us) (row_back ts)

nothing_more : (ts : List TypeTree) (rs : List ℕ) (ms : List Mark) (k f : Bool)
    → state ts rs ms k f ≡ state (ts ++ []) (rs ++ []) ms (k && true) (f && true)
nothing_more ts rs ms k f =
    same_state (sym (append-nil ts)) (sym (append-nil rs)) refl (sym (and_true k)) (sym (and_true f))

-- ---- what types and arguments leave in the newest row

-- the rows after types in a row
abbrev part_marks : WrittenTypes → List Mark → List Mark
part_marks none ms = ms
part_marks (more t ts) ms = part_marks ts (marks.Part ∷ ms)

behind_parts : (ts : WrittenTypes) (ms : List Mark)
    → (starts (part_marks ts ms) ≡ starts ms) × (others (part_marks ts ms) ≡ others ms)
behind_parts none ms = (refl, refl)
behind_parts (more t ts) ms = behind_parts ts (marks.Part ∷ ms)

parts_alone : (ts : WrittenTypes) (ms : List Mark) → NoneWaits ms → NoneWaits (part_marks ts ms)
parts_alone none ms n = n
parts_alone (more t ts) ms n = parts_alone ts (marks.Part ∷ ms) (refl, refl, λ u. refl)

-- the types in front of a row that is complete, and those in it
in_front : (us : TypeTrees) (ts : List TypeTree) (n : ℕ) (p : ℕ × ℕ) → p ≡ (length ts, n)
    → take p.0 (ts ++ listed us) ≡ ts
in_front us ts n p e = rw (e, take-append_seam ts (listed us)) refl

in_it : (us : TypeTrees) (ts : List TypeTree) (n : ℕ) (p : ℕ × ℕ) → p ≡ (length ts, n)
    → row_of_trees (drop p.0 (ts ++ listed us)) ≡ us
in_it us ts n p e = rw (e, drop-append_seam ts (listed us), row_back us) refl

module _ (s : Scope) where
  -- the rows after arguments
  abbrev argument_marks : Arguments → List Mark → List Mark
  argument_marks no_argument ms = ms
  argument_marks (region_argument r args) ms = argument_marks args (marks.Region (number_of s.regions r) ∷ ms)
  argument_marks (type_argument t args) ms = argument_marks args (marks.Part ∷ ms)

  -- the marks of arguments, in order
  abbrev marks_of : Arguments → List Mark
  marks_of no_argument = []
  marks_of (region_argument r args) = marks.Region (number_of s.regions r) ∷ marks_of args
  marks_of (type_argument t args) = marks.Part ∷ marks_of args

  behind : (args : Arguments) (ms : List Mark)
      → (starts (argument_marks args ms) ≡ starts ms) × (others (argument_marks args ms) ≡ others ms)
  behind no_argument ms = (refl, refl)
  behind (region_argument r args) ms = behind args (marks.Region (number_of s.regions r) ∷ ms)
  behind (type_argument t args) ms = behind args (marks.Part ∷ ms)

  one_in_order : (m : Mark) (ms ns : List Mark) → reverse (m ∷ ms) ++ ns ≡ reverse ms ++ m ∷ ns
  one_in_order m ms ns = ap (λ xs. xs ++ ns) (reverse-append (m ∷ []) ms) ∙ append_assoc (reverse ms) (m ∷ []) ns

  in_order : (args : Arguments) (ms : List Mark)
      → reverse (newest (argument_marks args ms)) ≡ reverse (newest ms) ++ marks_of args
  in_order no_argument ms = sym (append-nil (reverse (newest ms)))
  in_order (region_argument r args) ms =
      in_order args (marks.Region (number_of s.regions r) ∷ ms)
      ∙ one_in_order (marks.Region (number_of s.regions r)) (newest ms) (marks_of args)
  in_order (type_argument t args) ms =
      in_order args (marks.Part ∷ ms) ∙ one_in_order marks.Part (newest ms) (marks_of args)

  -- the regions among arguments, and their kinds
  regions_of_marks : (args : Arguments) → regions_in (marks_of args) ≡ regions_meant s args
  regions_of_marks no_argument = refl
  regions_of_marks (region_argument r args) = ap (λ rs. number_of s.regions r ∷ rs) (regions_of_marks args)
  regions_of_marks (type_argument t args) = regions_of_marks args

  kinds_of_marks : (args : Arguments) → map is_region_entry (marks_of args) ≡ kinds_of args
  kinds_of_marks no_argument = refl
  kinds_of_marks (region_argument r args) = ap (λ ks. true ∷ ks) (kinds_of_marks args)
  kinds_of_marks (type_argument t args) = ap (λ ks. false ∷ ks) (kinds_of_marks args)

  -- ---- what pieces make

  -- what is resolved after a name, behind its arguments
  module _ (n : WrittenName) (args : Arguments) (ts : List TypeTree) (rs : List ℕ) (ms : List Mark) (k f : Bool) where
    abbrev row : List Mark
    row = marks.Row (length ts) (length rs) ∷ ms

    abbrev before_name : ResolvingState
    before_name =
        state (ts ++ listed (types_meant s args)) (rs ++ region_rows (types_meant s args)) (argument_marks args row)
        (k && arguments_are_known s args) (f && arguments_have_arguments s args)

    in_row : newest_arguments before_name ≡ marks_of args
    in_row = in_order args row

    -- the regions, and the start of the row
    regions_here : regions_in (newest_arguments before_name) ≡ regions_meant s args
    regions_here = ap regions_in in_row ∙ regions_of_marks args

    abbrev name_type : Bool → List ℕ → TypeTrees → TypeTree
    name_type b qs us =
        if b then types.parameter (number_of s.parameters n) else types.named (number_of s.structs n) qs us

    abbrev name_done_at : Bool → ResolvingState
    name_done_at b =
        type_completed (name_type b (regions_in (newest_arguments before_name)) (types_inside before_name))
        (state (types_before before_name)
        (if b then take (starts before_name.rows).1 before_name.regions
        else before_name.regions ++ regions_in (newest_arguments before_name)) (others before_name.rows)
        (before_name.known && (b || is_name_among s.structs n))
        (before_name.fits && same_kinds (map is_region_entry (newest_arguments before_name))
        (if b then [] else slice_index_or s.kinds (number_of s.structs n) [])))

    abbrev name_meant : Bool → ResolvingState
    name_meant b =
        let t : TypeTree = name_type b (regions_meant s args) (types_meant s args) in
        type_completed t (state ts (rs ++ region_row t) ms
        (k && ((b || is_name_among s.structs n) && arguments_are_known s args))
        (f && (same_kinds (kinds_of args) (if b then [] else slice_index_or s.kinds (number_of s.structs n) [])
        && arguments_have_arguments s args)))

    name_fits : (ks : List Bool)
        → (f && arguments_have_arguments s args) && same_kinds (map is_region_entry (newest_arguments before_name)) ks
        ≡ f && (same_kinds (kinds_of args) ks && arguments_have_arguments s args)
    name_fits ks = grind (arith, in_row, kinds_of_marks, and_last)

    front_here : types_before before_name ≡ ts
    front_here = in_front (types_meant s args) ts (length rs) _ (behind args row).0

    inside_here : types_inside before_name ≡ types_meant s args
    inside_here = in_it (types_meant s args) ts (length rs) _ (behind args row).0

    name_done : (b : Bool) → name_done_at b ≡ name_meant b
    name_done true =
        grind (
          arith,
          same_completed,
          same_state,
          front_here,
          behind,
          take-append_seam,
          append-nil,
          and_last,
          name_fits,
        )
    name_done false =
        grind (
          arith,
          same_completed,
          inside_here,
          regions_here,
          same_state,
          front_here,
          append_assoc,
          behind,
          and_last,
          name_fits,
        )

  -- what is resolved after a type, after types in a row, and after arguments
  abbrev after_type : WrittenType → List TypeTree → List ℕ → List Mark → Bool → Bool → ResolvingState
  after_type t ts rs ms k f =
      type_completed (meant s t)
      (state ts (rs ++ region_row (meant s t)) ms (k && is_known s t) (f && has_arguments s t))

  abbrev after_parts : WrittenTypes → List TypeTree → List ℕ → List Mark → Bool → Bool → ResolvingState
  after_parts us ts rs ms k f =
      state (ts ++ listed (all_meant s us)) (rs ++ region_rows (all_meant s us)) (part_marks us ms)
      (k && are_known s us) (f && have_arguments s us)

  abbrev after_arguments : Arguments → List TypeTree → List ℕ → List Mark → Bool → Bool → ResolvingState
  after_arguments args ts rs ms k f =
      state (ts ++ listed (types_meant s args)) (rs ++ region_rows (types_meant s args)) (argument_marks args ms)
      (k && arguments_are_known s args) (f && arguments_have_arguments s args)

  -- What holds of the pieces behind a piece, and of what it makes, holds with the piece before it too, where some
  -- regions come first.
  module _ (base : List ℕ) (P : List texts.Piece → ResolvingState → Type 0)
      (step : (p : texts.Piece) (ps : List texts.Piece) (st : ResolvingState) → IsPrefix base st.regions
      → P ps (after_resolved s p st) → P (p ∷ ps) st) where
    back : (ps : List texts.Piece) {a b : ResolvingState} → a ≡ b → P ps b → P ps a
    back ps e h = subst (P ps) (sym e) h

    grouped : {ps qs : List texts.Piece} (st : ResolvingState) → ps ≡ qs → P qs st → P ps st
    grouped st e h = subst (λ os. P os st) (sym e) h

    further : (rs qs : List ℕ) → IsPrefix base rs → IsPrefix base (rs ++ qs)
    further rs qs i = prefix_further base rs (rs ++ qs) i (qs, refl)

    mutual
      -- so it holds with the pieces of a type before it
      type_run : (t : WrittenType) (rest : List texts.Piece) (ts : List TypeTree) (rs : List ℕ) (ms : List Mark)
          (k f : Bool) → IsPrefix base rs → P rest (after_type t ts rs ms k f)
          → P (texts.piece_steps t ++ rest) (state ts rs ms k f)
      type_run int rest ts rs ms k f i h =
          grind (arith, back, same_completed, same_state, append-nil, and_true)
      type_run (reference r m t) rest ts rs ms k f i h =
          let q = number_of s.regions r in
          step (begin_reference m r) (texts.piece_steps t ++ rest) (state ts rs ms k f) i
          (type_run t rest ts rs (marks.Behind m q ∷ ms) (k && is_name_among s.regions r) f i
          (back rest (same_state refl (around_regions rs (region_row (meant s t)) q (regions_around ms)) refl
          (and_first k (is_name_among s.regions r) (is_known s t)) refl) h))
      type_run (tuple us) rest ts rs ms k f i h =
          let row : List Mark = marks.Row (length ts) (length rs) ∷ ms in
          let vs = all_meant s us in
          step begin_row _ (state ts rs ms k f) i
          (grouped (state ts rs row k f) (append_assoc (texts.part_steps us) (make_tuple ∷ []) rest)
          (parts_run us (make_tuple ∷ rest) ts rs row k f (refl, refl, λ u. refl) i
          (step make_tuple rest _ (further rs (region_rows vs) i)
          (back rest (same_completed
          (ap (λ ws. types.tuple ws) (in_it vs ts (length rs) _ (behind_parts us row).0))
          (same_state (in_front vs ts (length rs) _ (behind_parts us row).0) refl (behind_parts us row).1
          refl refl)) h))))
      type_run (named n args) rest ts rs ms k f i h =
          let row : List Mark = marks.Row (length ts) (length rs) ∷ ms in
          step begin_row _ (state ts rs ms k f) i
          (grouped (state ts rs row k f) (append_assoc (texts.argument_steps args) (make_named n ∷ []) rest)
          (arguments_run args (make_named n ∷ rest) ts rs row k f (refl, refl, λ u. refl) i
          (step (make_named n) rest _ (further rs (region_rows (types_meant s args)) i)
          (back rest (name_done n args ts rs ms k f (is_name_among s.parameters n)) h))))
      type_run (function us t) rest ts rs ms k f i h =
          let row : List Mark = marks.Row (length ts) (length rs) ∷ ms in
          let vs = all_meant s us in
          let all : List TypeTree = ts ++ listed vs in
          let rows = region_rows vs in
          let l = k && are_known s us in
          let g = f && have_arguments s us in
          step begin_row _ (state ts rs ms k f) i
          (grouped (state ts rs row k f) (three (texts.part_steps us) (texts.piece_steps t) (make_function ∷ []) rest)
          (parts_run us (texts.piece_steps t ++ make_function ∷ rest) ts rs row k f (refl, refl, λ u. refl) i
          (type_run t (make_function ∷ rest) all (rs ++ rows) (part_marks us row) l g (further rs rows i)
          (back (make_function ∷ rest) (complete_alone (meant s t) all ((rs ++ rows) ++ region_row (meant s t))
          (part_marks us row) (l && is_known s t) (g && has_arguments s t)
          (parts_alone us row (refl, refl, λ u. refl)))
          (step make_function rest _ (further (rs ++ rows) (region_row (meant s t)) (further rs rows i))
          (back rest (same_completed
          (rw (last_at all (meant s t) types.int, before_last all (meant s t))
          (ap (λ ws. types.function ws (meant s t)) (in_it vs ts (length rs) _ (behind_parts us row).0)))
          (same_state (rw (before_last all (meant s t)) (in_front vs ts (length rs) _ (behind_parts us row).0))
          (append_assoc rs rows (region_row (meant s t))) (behind_parts us row).1
          (and_first k (are_known s us) (is_known s t)) (and_first f (have_arguments s us) (has_arguments s t)))) h
          ))))))

      -- with those of types in a row
      parts_run : (us : WrittenTypes) (rest : List texts.Piece) (ts : List TypeTree) (rs : List ℕ) (ms : List Mark)
          (k f : Bool) → NoneWaits ms → IsPrefix base rs → P rest (after_parts us ts rs ms k f)
          → P (texts.part_steps us ++ rest) (state ts rs ms k f)
      parts_run none rest ts rs ms k f n i h = back rest (nothing_more ts rs ms k f) h
      parts_run (more t us) rest ts rs ms k f n i h =
          let u = meant s t in
          let longer = further rs (region_row u) i in
          grouped (state ts rs ms k f) (append_assoc (texts.piece_steps t) (add_type ∷ texts.part_steps us) rest)
          (type_run t (add_type ∷ (texts.part_steps us ++ rest)) ts rs ms k f i
          (back _ (complete_alone u ts (rs ++ region_row u) ms (k && is_known s t) (f && has_arguments s t) n)
          (step add_type _ _ longer
          (parts_run us rest (ts ++ u ∷ []) (rs ++ region_row u) (marks.Part ∷ ms)
          (k && is_known s t) (f && has_arguments s t) (refl, refl, λ v. refl) longer
          (back rest (same_state
          (append_assoc ts (u ∷ []) (listed (all_meant s us)))
          (append_assoc rs (region_row u) (region_rows (all_meant s us))) refl
          (and_first k (is_known s t) (are_known s us)) (and_first f (has_arguments s t) (have_arguments s us)))
          h)))))

      -- and with those of arguments
      arguments_run : (args : Arguments) (rest : List texts.Piece) (ts : List TypeTree) (rs : List ℕ) (ms : List Mark)
          (k f : Bool) → NoneWaits ms → IsPrefix base rs → P rest (after_arguments args ts rs ms k f)
          → P (texts.argument_steps args ++ rest) (state ts rs ms k f)
      arguments_run no_argument rest ts rs ms k f n i h = back rest (nothing_more ts rs ms k f) h
      arguments_run (region_argument r args) rest ts rs ms k f n i h =
          step (add_region r) _ (state ts rs ms k f) i
          (arguments_run args rest ts rs (marks.Region (number_of s.regions r) ∷ ms) (k && is_name_among s.regions r) f
          (refl, refl, λ v. refl) i
          (back rest (same_state refl refl refl (and_first k (is_name_among s.regions r)
          (arguments_are_known s args)) refl)
          h))
      arguments_run (type_argument t args) rest ts rs ms k f n i h =
          let u = meant s t in
          let longer = further rs (region_row u) i in
          grouped (state ts rs ms k f) (append_assoc (texts.piece_steps t) (add_type ∷ texts.argument_steps args) rest)
          (type_run t (add_type ∷ (texts.argument_steps args ++ rest)) ts rs ms k f i
          (back _ (complete_alone u ts (rs ++ region_row u) ms (k && is_known s t) (f && has_arguments s t) n)
          (step add_type _ _ longer
          (arguments_run args rest (ts ++ u ∷ []) (rs ++ region_row u) (marks.Part ∷ ms)
          (k && is_known s t) (f && has_arguments s t) (refl, refl, λ v. refl) longer
          (back rest (same_state
          (append_assoc ts (u ∷ []) (listed (types_meant s args)))
          (append_assoc rs (region_row u) (region_rows (types_meant s args))) refl
          (and_first k (is_known s t) (arguments_are_known s args))
          (and_first f (has_arguments s t) (arguments_have_arguments s args)))
          h)))))

  still : (p : texts.Piece) (st : ResolvingState) → st.known ≡ false → (after_resolved s p st).known ≡ false
  still make_int st e = e
  still (begin_reference m r) st e = rw e refl
  still begin_row st e = e
  still (add_region r) st e = rw e refl
  still add_type st e = e
  still make_tuple st e = e
  still (make_named n) st e = rw e refl
  still make_function st e = e

  -- The pieces of the text of a type alone make it, and keep the regions in front.
  pub type_done : (kept ps : List TypePiece) (rs : List ℕ) → kept ≡ ps → IsType ps
      → (run_pieces s (map plain kept) (no_regions_after rs)
      ≡ state (meant s (written ps) ∷ []) (rs ++ region_row (meant s (written ps))) [] (is_known s (written ps))
      (has_arguments s (written ps))) × KeepsRegions s rs (map plain kept) (no_regions_after rs)
  type_done kept ps rs same sound =
      let t = written ps in
      let done : ResolvingState = state (meant s t ∷ []) (rs ++ region_row (meant s t)) [] (is_known s t)
      (has_arguments s t) in
      let P : List texts.Piece → ResolvingState → Type 0 = λ qs st. (run_pieces s qs st ≡ done)
      × KeepsRegions s rs qs st in
      let all : map plain kept ≡ texts.piece_steps t ++ [] =
      ap (map plain) same ∙ (sound ∙ sym (append-nil (texts.piece_steps t))) in
      let alone = complete_alone (meant s t) [] (rs ++ region_row (meant s t)) [] (is_known s t) (has_arguments s t)
      (refl, refl, λ u. refl) in
      subst (λ qs. P qs (no_regions_after rs)) (sym all)
      (type_run rs P (λ p qs st i h. (h.0, (i, h.1))) t [] [] rs [] true true ([], sym (append-nil rs))
      (alone, (region_row (meant s t), ap (λ (st : ResolvingState). st.regions) alone)))

  -- a name that isn't known stays so
  pub stays_unknown : (ps : List texts.Piece) (st : ResolvingState) → st.known ≡ false
      → (run_pieces s ps st).known ≡ false
  stays_unknown [] st e = e
  stays_unknown (p ∷ ps) st e = stays_unknown ps (after_resolved s p st) (still p st e)

  -- where the name in the next piece isn't known
  pub unknown_from : (ps : List TypePiece) (i : ℕ) (d : TypePiece) (st : ResolvingState) → i < length ps
      → (after_resolved s (plain (get_or ps i d)) st).known ≡ false
      → (run_pieces s (map plain (drop i ps)) st).known ≡ false
  unknown_from ps i d st within e =
      ap (λ (end : ResolvingState). end.known) (at_drop_more (λ qs. run_pieces s (map plain qs) st) ps i d within)
      ∙ stays_unknown (map plain (drop (i + 1) ps)) (after_resolved s (plain (get_or ps i d)) st) e
