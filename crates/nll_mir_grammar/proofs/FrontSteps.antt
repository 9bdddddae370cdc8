-- Steps from how a type begins.
use Rattle.std.proofs.Common.{◌≡◌, ℕ, Bool, true, false, List, [], ◌∷◌, ◌++◌, refl, sym, ap, ◌∙◌, subst, append_assoc, arith}
use Rattle.std.specs.Prelude.{codes}
use Rattle.std.specs.Borrow.{Bor}
use Rattle.nll_text.specs.Tokens.{Token, word, region, arrow, sign}
use Rattle.nll_mir_grammar.specs.WrittenTypes.{WrittenName, WrittenType, WrittenTypes, Arguments, int, reference, tuple, named, function, none, more, no_argument, region_argument, type_argument, is_capital, spelled, spelled_more_parts, spelled_more_arguments, IsFree}
use Rattle.nll_mir_grammar.specs.OpenTypes.{Frame, behind, parts, arguments, inputs, output, Closes, ReadsType, FramesGoOn, FinishesType, Steps, BeginsType}
use Rattle.nll_mir_grammar.specs.declared.opens.State.TheVariants.{Want, WantArgument, Have, WantArrow}
use Rattle.nll_mir_grammar.specs.declared.fronts.Front.TheVariants as fronts
use Rattle.nll_mir_grammar.proofs.FrontLemmas.{int_no_name, fn_no_name, fn_no_int, apart, no_mut, no_closing}

-- ---- the beginning of a type

-- `int`
step_int : (fs : List Frame) (t' : WrittenType) (after : List Token)
    → Steps Want fs t' (word (codes "int") ∷ after) Have fs int after
step_int fs t' after = grind (arith, there)
  where
    there : (whole : WrittenType) (rest : List Token) (t : WrittenType) (mid : List Token)
        → ReadsType (word (codes "int") ∷ after) t mid → Closes fs t mid whole rest → Closes fs int after whole rest
    there whole rest int mid r c =
        subst (λ m. Closes fs int m whole rest) (let j = r.joins in let e : mid ≡ after = cc in e) c
    there whole rest (named s args) mid r c =
        absurd (let j = r.joins in let e : codes "int" ≡ s = cc in
        int_no_name (subst (λ z. is_capital z ≡ true) (sym e) r.names.0))
    there whole rest (function ts t) mid r c =
        absurd (let j = r.joins in let e : codes "fn" ≡ codes "int" = cc in fn_no_int e)
    there whole rest t mid r c = absurd (let j = r.joins in cc)

-- `()`
step_unit : (fs : List Frame) (t' : WrittenType) (after : List Token)
    → Steps Want fs t' (sign 40 ∷ sign 41 ∷ after) Have fs (tuple none) after
step_unit fs t' after = grind (arith, there)
  where
    there : (whole : WrittenType) (rest : List Token) (t : WrittenType) (mid : List Token)
        → ReadsType (sign 40 ∷ sign 41 ∷ after) t mid → Closes fs t mid whole rest
        → Closes fs (tuple none) after whole rest
    there whole rest (reference q m t) mid r c =
        absurd (let j = r.joins in let e : sign 40 ≡ sign 38 = cc in apart 40 38 refl e)
    there whole rest (tuple none) mid r c =
        subst (λ m. Closes fs (tuple none) m whole rest) (let j = r.joins in let e : mid ≡ after = cc in e) c
    there whole rest (tuple (more t ts)) mid r c = grind (arith, no_closing, append_assoc)
    there whole rest t mid r c = absurd (let j = r.joins in cc)

-- `(` of a tuple that has parts
step_tuple : (fs : List Frame) (t' u' : WrittenType) (after : List Token)
    → ((others : List Token) → after ≡ sign 41 ∷ others → ⊥)
    → Steps Want fs t' (sign 40 ∷ after) Want (parts none ∷ fs) u' after
step_tuple fs t' u' after some = record {
  there = λ whole rest f. there whole rest f.0 f.1 f.2 f.3;
  back = λ whole rest f. (let c = f.3 in (
    tuple (more f.0 c.0),
    c.1,
    record {
      joins =
          (let j = f.2.joins in let k = c.2 in
          ap (λ l. sign 40 ∷ l) (j ∙ ap (λ l. spelled f.0 ++ l) k
          ∙ sym (append_assoc (spelled f.0) (spelled_more_parts c.0) c.1)));
      names = (f.2.names, c.3);
    },
    c.4,
  ));
}
  where
    there : (whole : WrittenType) (rest : List Token) (t : WrittenType) (mid : List Token)
        → ReadsType (sign 40 ∷ after) t mid → Closes fs t mid whole rest → FramesGoOn (parts none ∷ fs) after whole rest
    there whole rest (reference q m t) mid r c =
        absurd (let j = r.joins in let e : sign 40 ≡ sign 38 = cc in apart 40 38 refl e)
    there whole rest (tuple none) mid r c = absurd (some mid (let j = r.joins in cc))
    there whole rest (tuple (more t ts)) mid r c = grind (arith, append_assoc)
    there whole rest t mid r c = absurd (let j = r.joins in cc)

-- `&`, a region and `mut`
step_mut : (fs : List Frame) (t' u' : WrittenType) (q : WrittenName) (after : List Token)
    → Steps Want fs t' (sign 38 ∷ region q ∷ word (codes "mut") ∷ after) Want (behind q true ∷ fs) u' after
step_mut fs t' u' q after = record {
  there = λ whole rest f. there whole rest f.0 f.1 f.2 f.3;
  back = grind arith;
}
  where
    there : (whole : WrittenType) (rest : List Token) (t : WrittenType) (mid : List Token)
        → ReadsType (sign 38 ∷ region q ∷ word (codes "mut") ∷ after) t mid → Closes fs t mid whole rest
        → FramesGoOn (behind q true ∷ fs) after whole rest
    there whole rest (reference p true t) mid r c = grind arith
    there whole rest (reference p false t) mid r c =
        absurd (no_mut t mid after r.names (let j = r.joins in
        let e : spelled t ++ mid ≡ word (codes "mut") ∷ after = cc in e))
    there whole rest (tuple ts) mid r c =
        absurd (let j = r.joins in let e : sign 38 ≡ sign 40 = cc in apart 38 40 refl e)
    there whole rest t mid r c = absurd (let j = r.joins in cc)

-- `&` and a region, and no `mut`
step_shared : (fs : List Frame) (t' u' : WrittenType) (q : WrittenName) (after : List Token)
    → ((others : List Token) → after ≡ word (codes "mut") ∷ others → ⊥)
    → Steps Want fs t' (sign 38 ∷ region q ∷ after) Want (behind q false ∷ fs) u' after
step_shared fs t' u' q after plain = record {
  there = λ whole rest f. there whole rest f.0 f.1 f.2 f.3;
  back = grind arith;
}
  where
    there : (whole : WrittenType) (rest : List Token) (t : WrittenType) (mid : List Token)
        → ReadsType (sign 38 ∷ region q ∷ after) t mid → Closes fs t mid whole rest
        → FramesGoOn (behind q false ∷ fs) after whole rest
    there whole rest (reference p true t) mid r c = absurd (plain (spelled t ++ mid) (let j = r.joins in cc))
    there whole rest (reference p false t) mid r c = grind arith
    there whole rest (tuple ts) mid r c =
        absurd (let j = r.joins in let e : sign 38 ≡ sign 40 = cc in apart 38 40 refl e)
    there whole rest t mid r c = absurd (let j = r.joins in cc)

no_types_free : (after : List Token) (us : WrittenTypes) (mid : List Token)
    → sign 60 ∷ after ≡ spelled_more_parts us ++ mid → ⊥
no_types_free after none mid e = (let h : sign 60 ≡ sign 41 = cc in apart 60 41 refl h)
no_types_free after (more t ts) mid e = (let h : sign 60 ≡ sign 44 = cc in apart 60 44 refl h)

-- no `<` stands behind a whole type
closes_free : (fs : List Frame) (t : WrittenType) (after : List Token) (whole : WrittenType) (rest : List Token)
    → Closes fs t (sign 60 ∷ after) whole rest → ⊥
closes_free [] t after whole rest c = c.2 after (sym c.1)
closes_free (behind r m ∷ fs) t after whole rest c = closes_free fs (reference r m t) after whole rest c
closes_free (parts before ∷ fs) t after whole rest c = no_types_free after c.0 c.1 c.2
closes_free (arguments n done ∷ fs) t after whole rest c = by c.0 c.1 c.2
  where
    by : (us : Arguments) (mid : List Token) → sign 60 ∷ after ≡ spelled_more_arguments us ++ mid → ⊥
    by no_argument mid e = (let h : sign 60 ≡ sign 62 = cc in apart 60 62 refl h)
    by (region_argument q us) mid e = (let h : sign 60 ≡ sign 44 = cc in apart 60 44 refl h)
    by (type_argument t us) mid e = (let h : sign 60 ≡ sign 44 = cc in apart 60 44 refl h)
closes_free (inputs before ∷ fs) t after whole rest c = no_types_free after c.0 c.1 c.2
closes_free (output done ∷ fs) t after whole rest c = closes_free fs (function done t) after whole rest c

-- a name and `<`
step_generic : (fs : List Frame) (t' u' : WrittenType) (s : WrittenName) (after : List Token) → is_capital s ≡ true
    → Steps Want fs t' (word s ∷ sign 60 ∷ after) WantArgument (arguments s no_argument ∷ fs) u' after
step_generic fs t' u' s after name = record {
  there = λ whole rest f. there whole rest f.0 f.1 f.2 f.3;
  back = grind (arith, append_assoc);
}
  where
    there : (whole : WrittenType) (rest : List Token) (t : WrittenType) (mid : List Token)
        → ReadsType (word s ∷ sign 60 ∷ after) t mid → Closes fs t mid whole rest
        → FinishesType WantArgument (arguments s no_argument ∷ fs) u' after whole rest
    there whole rest int mid r c =
        absurd (let j = r.joins in let e : mid ≡ sign 60 ∷ after = cc in
        closes_free fs int after whole rest (subst (λ m. Closes fs int m whole rest) e c))
    there whole rest (function ts t) mid r c =
        absurd (let j = r.joins in let e : codes "fn" ≡ s = cc in
        fn_no_name (subst (λ z. is_capital z ≡ true) (sym e) name))
    there whole rest (named n no_argument) mid r c = grind (arith, closes_free)
    there whole rest (named n (region_argument q us)) mid r c = grind arith
    there whole rest (named n (type_argument t us)) mid r c = grind (arith, append_assoc)
    there whole rest t mid r c = absurd (let j = r.joins in cc)

-- a name without arguments
step_name : (fs : List Frame) (t' : WrittenType) (s : WrittenName) (after : List Token) → is_capital s ≡ true
    → IsFree after
    → Steps Want fs t' (word s ∷ after) Have fs (named s no_argument) after
step_name fs t' s after name plain = grind (arith, there)
  where
    there : (whole : WrittenType) (rest : List Token) (t : WrittenType) (mid : List Token)
        → ReadsType (word s ∷ after) t mid → Closes fs t mid whole rest
        → Closes fs (named s no_argument) after whole rest
    there whole rest int mid r c =
        absurd (let j = r.joins in let e : codes "int" ≡ s = cc in
        int_no_name (subst (λ z. is_capital z ≡ true) (sym e) name))
    there whole rest (function ts t) mid r c =
        absurd (let j = r.joins in let e : codes "fn" ≡ s = cc in
        fn_no_name (subst (λ z. is_capital z ≡ true) (sym e) name))
    there whole rest (named n no_argument) mid r c = grind arith
    there whole rest (named n (region_argument q us)) mid r c =
        absurd (plain (region q ∷ (spelled_more_arguments us ++ mid)) (let j = r.joins in cc))
    there whole rest (named n (type_argument t us)) mid r c =
        absurd (plain ((spelled t ++ spelled_more_arguments us) ++ mid) (let j = r.joins in cc))
    there whole rest t mid r c = absurd (let j = r.joins in cc)

-- the tokens of a function that has arguments, one piece after another
function_pieces : (x : WrittenType) (us : WrittenTypes) (u : WrittenType) (other : List Token)
    → ((spelled x ++ spelled_more_parts us) ++ arrow ∷ spelled u) ++ other
    ≡ spelled x ++ (spelled_more_parts us ++ arrow ∷ (spelled u ++ other))
function_pieces x us u other =
    append_assoc (spelled x ++ spelled_more_parts us) (arrow ∷ spelled u) other
    ∙ append_assoc (spelled x) (spelled_more_parts us) (arrow ∷ (spelled u ++ other))

-- `fn ()` of a function without arguments
step_thunk : (fs : List Frame) (t' u' : WrittenType) (after : List Token)
    → Steps Want fs t' (word (codes "fn") ∷ sign 40 ∷ sign 41 ∷ after) WantArrow (output none ∷ fs) u' after
step_thunk fs t' u' after = record {
  there = λ whole rest f. there whole rest f.0 f.1 f.2 f.3;
  back = λ whole rest f. (let g = f.2 in (
    function none g.0,
    g.1,
    record {
      joins = ap (λ l. word (codes "fn") ∷ sign 40 ∷ sign 41 ∷ l)
          (f.1 ∙ ap (λ l. arrow ∷ l) g.2.joins);
      names = (tt, g.2.names);
    },
    g.3,
  ));
}
  where
    there : (whole : WrittenType) (rest : List Token) (t : WrittenType) (mid : List Token)
        → ReadsType (word (codes "fn") ∷ sign 40 ∷ sign 41 ∷ after) t mid → Closes fs t mid whole rest
        → FinishesType WantArrow (output none ∷ fs) u' after whole rest
    there whole rest int mid r c = absurd (let j = r.joins in let e : codes "fn" ≡ codes "int" = cc in fn_no_int e)
    there whole rest (named s args) mid r c =
        absurd (let j = r.joins in let e : codes "fn" ≡ s = cc in
        fn_no_name (subst (λ z. is_capital z ≡ true) (sym e) r.names.0))
    there whole rest (function none t) mid r c =
        (spelled t ++ mid, (let j = r.joins in cc), (t, mid, record { joins = refl; names = r.names.1 }, c))
    there whole rest (function (more x xs) t) mid r c = grind (arith, no_closing, function_pieces)
    there whole rest t mid r c = absurd (let j = r.joins in cc)

-- `fn (` of a function that has arguments
step_function : (fs : List Frame) (t' u' : WrittenType) (after : List Token)
    → ((others : List Token) → after ≡ sign 41 ∷ others → ⊥)
    → Steps Want fs t' (word (codes "fn") ∷ sign 40 ∷ after) Want (inputs none ∷ fs) u' after
step_function fs t' u' after some = record {
  there = λ whole rest f. there whole rest f.0 f.1 f.2 f.3;
  back = λ whole rest f. (let c = f.3 in let g = c.4 in let h = g.2 in (
    function (more f.0 c.0) h.0,
    h.1,
    record {
      joins = ap (λ l. word (codes "fn") ∷ sign 40 ∷ l)
          (f.2.joins ∙ ap (λ l. spelled f.0 ++ l) (c.2 ∙ ap (λ l. spelled_more_parts c.0 ++ l)
          (g.1 ∙ ap (λ l. arrow ∷ l) h.2.joins))
          ∙ sym (function_pieces f.0 c.0 h.0 h.1));
      names = ((f.2.names, c.3), h.2.names);
    },
    h.3,
  ));
}
  where
    there : (whole : WrittenType) (rest : List Token) (t : WrittenType) (mid : List Token)
        → ReadsType (word (codes "fn") ∷ sign 40 ∷ after) t mid → Closes fs t mid whole rest
        → FramesGoOn (inputs none ∷ fs) after whole rest
    there whole rest int mid r c = absurd (let j = r.joins in let e : codes "fn" ≡ codes "int" = cc in fn_no_int e)
    there whole rest (named s args) mid r c =
        absurd (let j = r.joins in let e : codes "fn" ≡ s = cc in
        fn_no_name (subst (λ z. is_capital z ≡ true) (sym e) r.names.0))
    there whole rest (function none t) mid r c = absurd (some (arrow ∷ (spelled t ++ mid)) (let j = r.joins in cc))
    there whole rest (function (more x xs) t) mid r c = grind (arith, function_pieces)
    there whole rest t mid r c = absurd (let j = r.joins in cc)

-- the beginnings
pub front_int : (fs : List Frame) (t' : WrittenType) (ts rest : List Token) → BeginsType fronts.Int ts rest
    → Steps Want fs t' ts Have fs int rest
front_int fs t' ts rest b = subst (λ z. Steps Want fs t' z Have fs int rest) (sym b) (step_int fs t' rest)

pub front_unit : (fs : List Frame) (t' : WrittenType) (ts rest : List Token) → BeginsType fronts.Unit ts rest
    → Steps Want fs t' ts Have fs (tuple none) rest
front_unit fs t' ts rest b = subst (λ z. Steps Want fs t' z Have fs (tuple none) rest) (sym b) (step_unit fs t' rest)

pub front_tuple : (fs : List Frame) (t' u' : WrittenType) (ts rest : List Token) → BeginsType fronts.Tuple ts rest
    → Steps Want fs t' ts Want (parts none ∷ fs) u' rest
front_tuple fs t' u' ts rest b =
    subst (λ z. Steps Want fs t' z Want (parts none ∷ fs) u' rest) (sym b.0) (step_tuple fs t' u' rest b.1)

pub front_reference : (r : Bor (List ℕ)) (m : Bool) (fs : List Frame) (t' u' : WrittenType) (ts rest : List Token)
    → BeginsType (fronts.Reference r m) ts rest → Steps Want fs t' ts Want (behind r.now m ∷ fs) u' rest
front_reference r true fs t' u' ts rest b =
    subst (λ z. Steps Want fs t' z Want (behind r.now true ∷ fs) u' rest) (sym b) (step_mut fs t' u' r.now rest)
front_reference r false fs t' u' ts rest b =
    subst (λ z. Steps Want fs t' z Want (behind r.now false ∷ fs) u' rest) (sym b.0)
    (step_shared fs t' u' r.now rest b.1)

pub front_generic : (n : Bor (List ℕ)) (fs : List Frame) (t' u' : WrittenType) (ts rest : List Token)
    → BeginsType (fronts.Generic n) ts rest → Steps Want fs t' ts WantArgument (arguments n.now no_argument
    ∷ fs) u' rest
front_generic n fs t' u' ts rest b =
    subst (λ z. Steps Want fs t' z WantArgument (arguments n.now no_argument ∷ fs) u' rest) (sym b.1)
    (step_generic fs t' u' n.now rest b.0)

pub front_name : (n : Bor (List ℕ)) (fs : List Frame) (t' : WrittenType) (ts rest : List Token)
    → BeginsType (fronts.Name n) ts rest → Steps Want fs t' ts Have fs (named n.now no_argument) rest
front_name n fs t' ts rest b =
    subst (λ z. Steps Want fs t' z Have fs (named n.now no_argument) rest) (sym b.1)
    (step_name fs t' n.now rest b.0 b.2)

pub front_thunk : (fs : List Frame) (t' u' : WrittenType) (ts rest : List Token) → BeginsType fronts.Thunk ts rest
    → Steps Want fs t' ts WantArrow (output none ∷ fs) u' rest
front_thunk fs t' u' ts rest b =
    subst (λ z. Steps Want fs t' z WantArrow (output none ∷ fs) u' rest) (sym b) (step_thunk fs t' u' rest)

pub front_function : (fs : List Frame) (t' u' : WrittenType) (ts rest : List Token) → BeginsType fronts.Function ts rest
    → Steps Want fs t' ts Want (inputs none ∷ fs) u' rest
front_function fs t' u' ts rest b =
    subst (λ z. Steps Want fs t' z Want (inputs none ∷ fs) u' rest) (sym b.0) (step_function fs t' u' rest b.1)
