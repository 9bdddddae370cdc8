-- Steps through a type.
use Rattle.std.proofs.Common.{◌≡◌, List, [], ◌∷◌, ◌++◌, refl, sym, ap, ◌∙◌, subst, append_assoc, ⊎_elim, inr, arith}
use Rattle.nll_text.specs.Tokens.{Token, region, arrow, sign}
use Rattle.nll_mir_grammar.specs.WrittenTypes.{WrittenName, WrittenType, WrittenTypes, Arguments, int, reference, tuple, named, function, none, more, no_argument, region_argument, type_argument, mutability, spelled, spelled_parts, spelled_more_parts, spelled_arguments, spelled_more_arguments, HaveNames, ArgumentsHaveNames, IsFree, BeginsWithType}
use Rattle.nll_mir_grammar.specs.Reading.{HasNoType, IsTypeIn}
use Rattle.nll_mir_grammar.specs.TypeTexts.{joined_arguments}
use Rattle.nll_mir_grammar.specs.OpenTypes.{Frame, parts, arguments, inputs, output, joined_types, Closes, GoesInside, ReadsType, FramesGoOn, GoesOnWithRegion, FinishesType, Steps, TypesGoOn, ResultGoesOn, IsStuck, IsNoFront}
use Rattle.nll_mir_grammar.specs.declared.opens.State.{State}
use Rattle.nll_mir_grammar.specs.declared.opens.State.TheVariants.{Want, WantArgument, Have, Inside, WantArrow}
use Rattle.nll_mir_grammar.proofs.FrontLemmas.{apart, no_name_of}

-- ---- one thing more behind others

pub joined_more : (done : WrittenTypes) (t : WrittenType) (us : WrittenTypes)
    → joined_types (joined_types done (more t none)) us ≡ joined_types done (more t us)
joined_more none t us = refl
joined_more (more u done) t us = ap (more u) (joined_more done t us)

pub joined_type : (done : Arguments) (t : WrittenType) (us : Arguments)
    → joined_arguments (joined_arguments done (type_argument t no_argument)) us
    ≡ joined_arguments done (type_argument t us)
joined_type no_argument t us = refl
joined_type (region_argument r done) t us = ap (region_argument r) (joined_type done t us)
joined_type (type_argument u done) t us = ap (type_argument u) (joined_type done t us)

pub joined_region : (done : Arguments) (q : WrittenName) (us : Arguments)
    → joined_arguments (joined_arguments done (region_argument q no_argument)) us
    ≡ joined_arguments done (region_argument q us)
joined_region no_argument q us = refl
joined_region (region_argument r done) q us = ap (region_argument r) (joined_region done q us)
joined_region (type_argument u done) q us = ap (type_argument u) (joined_region done q us)

-- ---- behind a whole type

-- a function is complete
pub step_output : (fs : List Frame) (done : WrittenTypes) (t : WrittenType) (ts : List Token)
    → Steps Have (output done ∷ fs) t ts Have fs (function done t) ts
step_output fs _ t ts = record { there = λ whole rest f. f; back = λ whole rest f. f }

pub step_input : (fs : List Frame) (done : WrittenTypes) (t u' : WrittenType) (ts : List Token)
    → Steps Have (inputs done ∷ fs) t ts Inside (inputs (joined_types done (more t none)) ∷ fs) u' ts
step_input fs done t u' ts = record { there = λ whole rest f. f; back = λ whole rest f. f }

pub step_part : (fs : List Frame) (done : WrittenTypes) (t u' : WrittenType) (ts : List Token)
    → Steps Have (parts done ∷ fs) t ts Inside (parts (joined_types done (more t none)) ∷ fs) u' ts
step_part fs done t u' ts = record { there = λ whole rest f. f; back = λ whole rest f. f }

pub step_type_argument : (fs : List Frame) (n : WrittenName) (done : Arguments) (t u' : WrittenType) (ts : List Token)
    → Steps Have (arguments n done ∷ fs) t ts Inside
    (arguments n (joined_arguments done (type_argument t no_argument)) ∷ fs) u' ts
step_type_argument fs n done t u' ts = record { there = λ whole rest f. f; back = λ whole rest f. f }

-- ---- an argument

no_region : (q : WrittenName) (after : List Token) (t : WrittenType) (mid : List Token)
    → ReadsType (region q ∷ after) t mid → ⊥
no_region q after t mid r = no_name_of t mid after q (sym r.joins)

pub step_region : (fs : List Frame) (n : WrittenName) (done : Arguments) (t' u' : WrittenType) (q : WrittenName)
    (after : List Token)
    → Steps WantArgument (arguments n done ∷ fs) t' (region q ∷ after) Inside
    (arguments n (joined_arguments done (region_argument q no_argument)) ∷ fs) u' after
step_region fs n done t' u' q after = grind (arith, there, no_region)
  where
    row : WrittenName → List Frame
    row p = arguments n (joined_arguments done (region_argument p no_argument)) ∷ fs

    there : (whole : WrittenType) (rest : List Token) (p : WrittenName) (mid : List Token)
        → region q ∷ after ≡ region p ∷ mid
        → GoesInside (row p) mid whole rest → GoesInside (row q) after whole rest
    there whole rest p mid e g = grind (arith, row)

pub step_no_region : (fs : List Frame) (t' u' : WrittenType) (ts : List Token)
    → ((q : WrittenName) (others : List Token) → ts ≡ region q ∷ others → ⊥) → Steps WantArgument fs t' ts Want fs u' ts
step_no_region fs t' u' ts other =
    record { there = λ whole rest. ⊎_elim (by whole rest fs) (λ f. f); back = λ whole rest f. inr f }
  where
    by : (whole : WrittenType) (rest : List Token) (gs : List Frame) → GoesOnWithRegion gs ts whole rest
        → FramesGoOn gs ts whole rest
    by whole rest (arguments n done ∷ gs) f = absurd (other f.0 f.1 f.2)
    by whole rest _ f = absurd f

-- ---- behind a part or an argument

-- nothing more behind others
joined_nothing : (done : WrittenTypes) → joined_types done none ≡ done
joined_nothing none = refl
joined_nothing (more t ts) = ap (more t) (joined_nothing ts)

-- A row of types of which these are read, and behind which this comes.
module _ (done : WrittenTypes) (Then : WrittenTypes → List Token → Type 0) where
  comma_there : (after : List Token) (us : WrittenTypes) (mid : List Token)
      → sign 44 ∷ after ≡ spelled_more_parts us ++ mid → HaveNames us → Then (joined_types done us) mid
      → (t : WrittenType) × (other : List Token) × ReadsType after t other
      × TypesGoOn (joined_types done (more t none)) other Then
  comma_there after none mid e n c = absurd (let h : sign 44 ≡ sign 41 = cc in apart 44 41 refl h)
  comma_there after (more t us) mid e n c = grind (arith, append_assoc, joined_more)

  comma_back : (after : List Token) (t : WrittenType) (other : List Token) → ReadsType after t other
      → TypesGoOn (joined_types done (more t none)) other Then → TypesGoOn done (sign 44 ∷ after) Then
  comma_back after t other r c = grind (arith, append_assoc, joined_more)

  close_there : (after : List Token) (us : WrittenTypes) (mid : List Token)
      → sign 41 ∷ after ≡ spelled_more_parts us ++ mid → Then (joined_types done us) mid → Then done after
  close_there after none mid e c =
      (let h : mid ≡ after = cc in
      subst (λ z. Then z after) (joined_nothing done) (subst (λ m. Then (joined_types done none) m) h c))
  close_there after (more t us) mid e c = absurd (let h : sign 41 ≡ sign 44 = cc in apart 41 44 refl h)

  close_back : (after : List Token) → Then done after → TypesGoOn done (sign 41 ∷ after) Then
  close_back after c = (none, after, refl, tt, subst (λ z. Then z after) (sym (joined_nothing done)) c)

-- behind a type of a row comes `,` or `)`
no_types : (ts : List Token) → ((rest : List Token) → ts ≡ sign 44 ∷ rest → ⊥)
    → ((rest : List Token) → ts ≡ sign 41 ∷ rest → ⊥) → (us : WrittenTypes) (mid : List Token)
    → ts ≡ spelled_more_parts us ++ mid → ⊥
no_types ts comma close none mid e = close mid e
no_types ts comma close (more t us) mid e = comma ((spelled t ++ spelled_more_parts us) ++ mid) e

-- what comes behind the types of a tuple, and behind those of a function's arguments
abbrev TupleThen : List Frame → WrittenType → List Token → WrittenTypes → List Token → Type 0
TupleThen fs whole rest us mid = Closes fs (tuple us) mid whole rest

abbrev InputsThen : List Frame → WrittenType → List Token → WrittenTypes → List Token → Type 0
InputsThen fs whole rest = ResultGoesOn (λ u us. Closes fs u us whole rest)

pub step_comma_part : (fs : List Frame) (done : WrittenTypes) (t' u' : WrittenType) (after : List Token)
    → Steps Inside (parts done ∷ fs) t' (sign 44 ∷ after) Want (parts done ∷ fs) u' after
step_comma_part fs done t' u' after = record {
  there = λ whole rest f. comma_there done (TupleThen fs whole rest) after f.0 f.1 f.2 f.3 f.4;
  back = λ whole rest f. comma_back done (TupleThen fs whole rest) after f.0 f.1 f.2 f.3;
}

pub step_close_part : (fs : List Frame) (done : WrittenTypes) (t' : WrittenType) (after : List Token)
    → Steps Inside (parts done ∷ fs) t' (sign 41 ∷ after) Have fs (tuple done) after
step_close_part fs done t' after = record {
  there = λ whole rest f. close_there done (TupleThen fs whole rest) after f.0 f.1 f.2 f.4;
  back = λ whole rest f. close_back done (TupleThen fs whole rest) after f;
}

pub step_comma_input : (fs : List Frame) (done : WrittenTypes) (t' u' : WrittenType) (after : List Token)
    → Steps Inside (inputs done ∷ fs) t' (sign 44 ∷ after) Want (inputs done ∷ fs) u' after
step_comma_input fs done t' u' after = record {
  there = λ whole rest f. comma_there done (InputsThen fs whole rest) after f.0 f.1 f.2 f.3 f.4;
  back = λ whole rest f. comma_back done (InputsThen fs whole rest) after f.0 f.1 f.2 f.3;
}

-- all arguments of a function are read
pub step_close_input : (fs : List Frame) (done : WrittenTypes) (t' u' : WrittenType) (after : List Token)
    → Steps Inside (inputs done ∷ fs) t' (sign 41 ∷ after) WantArrow (output done ∷ fs) u' after
step_close_input fs done t' u' after = record {
  there = λ whole rest f. close_there done (InputsThen fs whole rest) after f.0 f.1 f.2 f.4;
  back = λ whole rest f. close_back done (InputsThen fs whole rest) after f;
}

-- `->` of a function
pub step_arrow : (fs : List Frame) (t' u' : WrittenType) (after : List Token)
    → Steps WantArrow fs t' (arrow ∷ after) Want fs u' after
step_arrow fs t' u' after = record {
  there = λ whole rest f. subst (λ z. FramesGoOn fs z whole rest) (let e = f.1 in let h : f.0 ≡ after = cc in h) f.2;
  back = λ whole rest f. (after, refl, f);
}

pub step_comma_argument : (fs : List Frame) (n : WrittenName) (done : Arguments) (t' u' : WrittenType)
    (after : List Token)
    → Steps Inside (arguments n done ∷ fs) t' (sign 44 ∷ after) WantArgument (arguments n done ∷ fs) u' after
step_comma_argument fs n done t' u' after = record {
  there = λ whole rest f. there whole rest f.0 f.1 f.2 f.3 f.4;
  back = grind (arith, joined_region, append_assoc, joined_type);
}
  where
    there : (whole : WrittenType) (rest : List Token) (us : Arguments) (mid : List Token)
        → sign 44 ∷ after ≡ spelled_more_arguments us ++ mid → ArgumentsHaveNames us
        → Closes fs (named n (joined_arguments done us)) mid whole rest
        → FinishesType WantArgument (arguments n done ∷ fs) u' after whole rest
    there whole rest no_argument mid e h c = absurd (let h : sign 44 ≡ sign 62 = cc in apart 44 62 refl h)
    there whole rest (region_argument q us) mid e h c = grind (arith, joined_region)
    there whole rest (type_argument t us) mid e h c = grind (arith, append_assoc, joined_type)

pub step_close_argument : (fs : List Frame) (n : WrittenName) (done : Arguments) (t' : WrittenType) (after : List Token)
    → Steps Inside (arguments n done ∷ fs) t' (sign 62 ∷ after) Have fs (named n done) after
step_close_argument fs n done t' after = grind (arith, there, joined_none)
  where
    joined_none : (done : Arguments) → joined_arguments done no_argument ≡ done
    joined_none no_argument = refl
    joined_none (region_argument q ts) = ap (region_argument q) (joined_none ts)
    joined_none (type_argument t ts) = ap (type_argument t) (joined_none ts)

    there : (whole : WrittenType) (rest : List Token) (us : Arguments) (mid : List Token)
        → sign 62 ∷ after ≡ spelled_more_arguments us ++ mid
        → Closes fs (named n (joined_arguments done us)) mid whole rest → Closes fs (named n done) after whole rest
    there whole rest no_argument mid e c =
        (let h : mid ≡ after = cc in subst (λ z. Closes fs (named n z) after whole rest) (joined_none done)
        (subst (λ m. Closes fs (named n (joined_arguments done no_argument)) m whole rest) h c))
    there whole rest (region_argument q us) mid e c = absurd (let h : sign 62 ≡ sign 44 = cc in apart 62 44 refl h)
    there whole rest (type_argument t us) mid e c = absurd (let h : sign 62 ≡ sign 44 = cc in apart 62 44 refl h)

-- ---- where nothing comes out

pub stuck_want : (fs : List Frame) (t' : WrittenType) (ts : List Token) → IsNoFront ts → IsStuck Want fs t' ts
stuck_want fs t' ts front whole rest f = by f.0 f.1 f.2
  where
    by : (t : WrittenType) (mid : List Token) → ReadsType ts t mid → ⊥
    by int mid r = front.int mid r.joins
    by (reference q m t) mid r = front.reference q ((mutability m ++ spelled t) ++ mid) r.joins
    by (tuple ts) mid r = front.bracket (spelled_parts ts ++ mid) r.joins
    by (named s us) mid r = front.name s (spelled_arguments us ++ mid) r.names.0 r.joins
    by (function ts t) mid r = front.function ((spelled_parts ts ++ arrow ∷ spelled t) ++ mid) r.joins

pub stuck_part : (fs : List Frame) (done : WrittenTypes) (t' : WrittenType) (ts : List Token)
    → ((rest : List Token) → ts ≡ sign 44 ∷ rest → ⊥) → ((rest : List Token) → ts ≡ sign 41 ∷ rest → ⊥)
    → IsStuck Inside (parts done ∷ fs) t' ts
stuck_part fs before t' ts comma close whole rest f = no_types ts comma close f.0 f.1 f.2

pub stuck_input : (fs : List Frame) (done : WrittenTypes) (t' : WrittenType) (ts : List Token)
    → ((rest : List Token) → ts ≡ sign 44 ∷ rest → ⊥) → ((rest : List Token) → ts ≡ sign 41 ∷ rest → ⊥)
    → IsStuck Inside (inputs done ∷ fs) t' ts
stuck_input fs before t' ts comma close whole rest f = no_types ts comma close f.0 f.1 f.2

pub stuck_argument : (fs : List Frame) (n : WrittenName) (done : Arguments) (t' : WrittenType) (ts : List Token)
    → ((rest : List Token) → ts ≡ sign 44 ∷ rest → ⊥) → ((rest : List Token) → ts ≡ sign 62 ∷ rest → ⊥)
    → IsStuck Inside (arguments n done ∷ fs) t' ts
stuck_argument fs n done t' ts comma close whole rest f = by f.0 f.1 f.2
  where
    by : (us : Arguments) (mid : List Token) → ts ≡ spelled_more_arguments us ++ mid → ⊥
    by no_argument mid e = close mid e
    by (region_argument q us) mid e = comma (region q ∷ (spelled_more_arguments us ++ mid)) e
    by (type_argument t us) mid e = comma ((spelled t ++ spelled_more_arguments us) ++ mid) e

-- a region, where no arguments are open
pub stuck_region : (fs : List Frame) (t' : WrittenType) (q : WrittenName) (after : List Token)
    → ((n : WrittenName) (done : Arguments) (gs : List Frame) → fs ≡ arguments n done ∷ gs → ⊥)
    → IsStuck WantArgument fs t' (region q ∷ after)
stuck_region fs t' q after other whole rest = ⊎_elim (by fs refl) (λ f. no_region q after f.0 f.1 f.2)
  where
    by : (gs : List Frame) → fs ≡ gs → GoesOnWithRegion gs (region q ∷ after) whole rest → ⊥
    by (arguments n done ∷ gs) e f = other n done gs e
    by _ e f = f

-- ---- the end

pub reads_of : (ts rest : List Token) (t : WrittenType) → BeginsWithType ts t rest → FinishesType Want [] int ts t rest
reads_of ts rest t b = (t, rest, record { joins = b.joined; names = b.names }, (refl, refl, b.free))

pub none_here : (s : State) (fs : List Frame) (ts at_ts : List Token) (t' : WrittenType)
    → Steps Want [] int ts s fs t' at_ts → IsStuck s fs t' at_ts → HasNoType ts
none_here s fs ts at_ts t' same stuck t rest b = stuck t rest (same.there t rest (reads_of ts rest t b))

pub none_before : (ts at_ts others : List Token) (t' : WrittenType) → Steps Want [] int ts Have [] t' at_ts
    → at_ts ≡ sign 60 ∷ others → HasNoType ts
none_before ts at_ts others t' same e t rest b =
    (let c = same.there t rest (reads_of ts rest t b) in c.2 others (sym c.1 ∙ e))

pub type_here : (ts at_ts : List Token) (t' : WrittenType) → Steps Want [] int ts Have [] t' at_ts → IsFree at_ts
    → IsTypeIn ts t' at_ts
type_here ts at_ts t' same free =
    let f = same.back t' at_ts (refl, refl, free) in
    record {
      found = grind arith;
      only = λ u other b. (let c = same.there u other (reads_of ts other u b) in (sym c.0, sym c.1));
    }
