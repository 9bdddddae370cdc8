-- The pieces of a type make it, and say whether a function is written in it.
use Rattle.std.proofs.Common.{◌≡◌, Bool, true, false, List, [], ◌∷◌, ◌++◌, map, refl, sym, ap, ◌∙◌, append_assoc}
use Rattle.std.specs.Prelude.{◌||◌}
use Rattle.std.specs.List.{list_any}
use Rattle.std.proofs.lemmas.List.{append-nil}
use Rattle.std.proofs.lemmas.List.Folds.{list_any-append}
use Rattle.nll_mir_grammar.specs.WrittenTypes.{WrittenType, WrittenTypes, Arguments, int, reference, tuple, named, function, none, more, no_argument, region_argument, type_argument}
use Rattle.nll_mir_grammar.specs.TypeTexts.{Piece, Begun, row, waiting, with_type, add_region, add_type, make_tuple, make_named, make_function, plain, piece_steps, part_steps, argument_steps, joined_arguments, types_among, type_on_top, made, written, type_made, IsType}
use Rattle.nll_mir_grammar.specs.OpenTypes.{joined_types}
use Rattle.nll_mir_grammar.specs.Functions.{has_function, have_function, arguments_have_function, is_function}
use Rattle.nll_mir_grammar.specs.declared.type_text.TypePiece.{TypePiece}
use Rattle.nll_mir_grammar.specs.declared.type_text.TypePiece.TheVariants as pieces
use Rattle.nll_mir_grammar.proofs.StepLemmas.{joined_type, joined_region}

-- ---- one thing more in a row

-- the pieces of types, and of one more behind them
pub part_steps_more : (done : WrittenTypes) (t : WrittenType)
    → part_steps (joined_types done (more t none)) ≡ part_steps done ++ (piece_steps t ++ add_type ∷ [])
part_steps_more none t = refl
part_steps_more (more u done) t =
    ap (λ (ps : List Piece). piece_steps u ++ add_type ∷ ps) (part_steps_more done t)
    ∙ sym (append_assoc (piece_steps u) (add_type ∷ part_steps done) (piece_steps t ++ add_type ∷ []))

-- the pieces of arguments, and of others behind them
pub argument_steps_more : (done us : Arguments)
    → argument_steps (joined_arguments done us) ≡ argument_steps done ++ argument_steps us
argument_steps_more no_argument us = refl
argument_steps_more (region_argument r done) us =
    ap (λ (ps : List Piece). add_region r ∷ ps) (argument_steps_more done us)
argument_steps_more (type_argument t done) us =
    ap (λ (ps : List Piece). piece_steps t ++ add_type ∷ ps) (argument_steps_more done us)
    ∙ sym (append_assoc (piece_steps t) (add_type ∷ argument_steps done) (argument_steps us))

-- ---- pieces make the type that they are of

-- types in a row, as arguments
arguments_of : WrittenTypes → Arguments
arguments_of none = no_argument
arguments_of (more t ts) = type_argument t (arguments_of ts)

-- Read as arguments, they are the same types.
among_arguments : (ts : WrittenTypes) → types_among (arguments_of ts) ≡ ts
unfolding arguments_of
among_arguments none = refl
among_arguments (more t ts) = ap (more t) (among_arguments ts)

-- arguments, and nothing more
joined_no_argument : (args : Arguments) → joined_arguments args no_argument ≡ args
joined_no_argument no_argument = refl
joined_no_argument (region_argument r args) = ap (region_argument r) (joined_no_argument args)
joined_no_argument (type_argument t args) = ap (type_argument t) (joined_no_argument args)

mutual
  unfolding arguments_of

  -- The pieces of a type make it, and the references around it that wait for it.
  pieces_make : (t : WrittenType) (rest : List Piece) (xs : List WrittenType) (ys : List Begun)
      → made (xs, ys) (piece_steps t ++ rest) ≡ made (with_type t (xs, ys)) rest
  pieces_make int rest xs ys = refl
  pieces_make (reference r m t) rest xs ys = pieces_make t rest xs (waiting m r ∷ ys)
  pieces_make (tuple ts) rest xs ys =
      ap (made (xs, row no_argument ∷ ys)) (append_assoc (part_steps ts) (make_tuple ∷ []) rest)
      ∙ (parts_make ts (make_tuple ∷ rest) xs no_argument ys
      ∙ ap (λ (us : WrittenTypes). made (with_type (tuple us) (xs, ys)) rest) (among_arguments ts))
  pieces_make (named n args) rest xs ys =
      ap (made (xs, row no_argument ∷ ys)) (append_assoc (argument_steps args) (make_named n ∷ []) rest)
      ∙ arguments_make args (make_named n ∷ rest) xs no_argument ys
  pieces_make (function ts t) rest xs ys =
      ap (made (xs, row no_argument ∷ ys)) (append_assoc (part_steps ts ++ piece_steps t) (make_function ∷ []) rest
      ∙ append_assoc (part_steps ts) (piece_steps t) (make_function ∷ rest))
      ∙ (parts_make ts (piece_steps t ++ make_function ∷ rest) xs no_argument ys
      ∙ (pieces_make t (make_function ∷ rest) xs (row (arguments_of ts) ∷ ys)
      ∙ ap (λ (us : WrittenTypes). made (with_type (function us t) (xs, ys)) rest) (among_arguments ts)))

  -- the pieces of types in a row put them behind those of the row
  parts_make : (ts : WrittenTypes) (rest : List Piece) (xs : List WrittenType) (args : Arguments)
      (ys : List Begun) → made (xs, row args ∷ ys) (part_steps ts ++ rest)
      ≡ made (xs, row (joined_arguments args (arguments_of ts)) ∷ ys) rest
  parts_make none rest xs args ys =
      ap (λ (us : Arguments). made (xs, row us ∷ ys) rest) (sym (joined_no_argument args))
  parts_make (more t ts) rest xs args ys =
      ap (made (xs, row args ∷ ys)) (append_assoc (piece_steps t) (add_type ∷ part_steps ts) rest)
      ∙ (pieces_make t (add_type ∷ (part_steps ts ++ rest)) xs (row args ∷ ys)
      ∙ (parts_make ts rest xs (joined_arguments args (type_argument t no_argument)) ys
      ∙ ap (λ (us : Arguments). made (xs, row us ∷ ys) rest) (joined_type args t (arguments_of ts))))

  -- the pieces of arguments put them behind those of the row
  arguments_make : (us : Arguments) (rest : List Piece) (xs : List WrittenType) (args : Arguments)
      (ys : List Begun) → made (xs, row args ∷ ys) (argument_steps us ++ rest)
      ≡ made (xs, row (joined_arguments args us) ∷ ys) rest
  arguments_make no_argument rest xs args ys =
      ap (λ (vs : Arguments). made (xs, row vs ∷ ys) rest) (sym (joined_no_argument args))
  arguments_make (region_argument r us) rest xs args ys =
      arguments_make us rest xs (joined_arguments args (region_argument r no_argument)) ys
      ∙ ap (λ (vs : Arguments). made (xs, row vs ∷ ys) rest) (joined_region args r us)
  arguments_make (type_argument t us) rest xs args ys =
      ap (made (xs, row args ∷ ys)) (append_assoc (piece_steps t) (add_type ∷ argument_steps us) rest)
      ∙ (pieces_make t (add_type ∷ (argument_steps us ++ rest)) xs (row args ∷ ys)
      ∙ (arguments_make us rest xs (joined_arguments args (type_argument t no_argument)) ys
      ∙ ap (λ (vs : Arguments). made (xs, row vs ∷ ys) rest) (joined_type args t us)))

-- What the pieces of a type make is that type.
steps_make : (t : WrittenType) → type_made (piece_steps t) ≡ t
steps_make t =
    ap (λ (ps : List Piece). type_made ps) (sym (append-nil (piece_steps t))) ∙ ap (λ m. type_on_top m.0)
    (pieces_make t [] [] [])

-- Pieces of the program that are those of a type say that type, and no other.
pub written_is : (ps : List TypePiece) (t : WrittenType) → map plain ps ≡ piece_steps t → written ps ≡ t
written_is ps t e = ap type_made e ∙ steps_make t

pub is_type : (ps : List TypePiece) (t : WrittenType) → map plain ps ≡ piece_steps t → IsType ps
is_type ps t e = e ∙ ap piece_steps (sym (written_is ps t e))

-- ---- whether a function is written

-- the piece makes a function
makes_function : Piece → Bool
makes_function make_function = true
makes_function _ = false

-- the test of pieces, and of others behind them
any_then : (ps qs : List Piece) (a b : Bool) → list_any makes_function ps ≡ a → list_any makes_function qs ≡ b
    → list_any makes_function (ps ++ qs) ≡ (a || b)
any_then ps qs a b e f = list_any-append makes_function ps qs ∙ (ap (λ x. x || list_any makes_function qs) e
    ∙ ap (λ x. a || x) f)

or_false : (a : Bool) → (a || false) ≡ a
or_false true = refl
or_false false = refl

or_true : (a : Bool) → (a || true) ≡ true
or_true true = refl
or_true false = refl

mutual
  unfolding makes_function

  -- A piece of the type makes a function where one is written in it.
  function_steps : (t : WrittenType) → list_any makes_function (piece_steps t) ≡ has_function t
  function_steps int = refl
  function_steps (reference r m t) = function_steps t
  function_steps (tuple ts) =
      any_then (part_steps ts) (make_tuple ∷ []) _ false (function_part_steps ts) refl ∙ or_false (have_function ts)
  function_steps (named n args) =
      any_then (argument_steps args) (make_named n ∷ []) _ false (function_argument_steps args) refl
      ∙ or_false (arguments_have_function args)
  function_steps (function ts t) =
      any_then (part_steps ts ++ piece_steps t) (make_function ∷ []) _ true refl refl
      ∙ or_true (list_any makes_function (part_steps ts ++ piece_steps t))

  function_part_steps : (ts : WrittenTypes) → list_any makes_function (part_steps ts) ≡ have_function ts
  function_part_steps none = refl
  function_part_steps (more t ts) =
      any_then (piece_steps t) (add_type ∷ part_steps ts) _ _ (function_steps t) (function_part_steps ts)

  function_argument_steps : (args : Arguments)
      → list_any makes_function (argument_steps args) ≡ arguments_have_function args
  function_argument_steps no_argument = refl
  function_argument_steps (region_argument r args) = function_argument_steps args
  function_argument_steps (type_argument t args) =
      any_then (piece_steps t) (add_type ∷ argument_steps args) _ _ (function_steps t) (function_argument_steps args)

-- The test of a piece asks nothing of where its name lies in memory.
plain_function : (p : TypePiece) → is_function p ≡ makes_function (plain p)
unfolding makes_function
plain_function pieces.Int = refl
plain_function (pieces.Reference m r) = refl
plain_function pieces.Row = refl
plain_function (pieces.Region r) = refl
plain_function pieces.Part = refl
plain_function pieces.Tuple = refl
plain_function (pieces.Named n) = refl
plain_function pieces.Function = refl

plain_functions : (ps : List TypePiece) → list_any is_function ps ≡ list_any makes_function (map plain ps)
plain_functions [] = refl
plain_functions (p ∷ ps) =
    ap (λ x. x || list_any is_function ps) (plain_function p)
    ∙ ap (λ x. makes_function (plain p) || x) (plain_functions ps)

-- A function is written in a type where one of its pieces makes one.
pub any_function : (ps : List TypePiece) → IsType ps → list_any is_function ps ≡ has_function (written ps)
any_function ps is = plain_functions ps ∙ (ap (list_any makes_function) is ∙ function_steps (written ps))
