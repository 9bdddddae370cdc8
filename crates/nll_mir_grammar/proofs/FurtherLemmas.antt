-- Steps that the code takes: tokens, pieces and frames together.
use Rattle.std.proofs.Common.{◌≡◌, ℕ, ◌+◌, ◌-◌, ◌<◌, ◌≤◌, List, [], ◌∷◌, ◌++◌, map, length, take, refl, sym, ap, ◌∙◌, subst, append_assoc, arith, get_or, true, false, Bool, ⊎_elim}
use Rattle.std.specs.Prelude.{reverse, ◌⊎◌}
use Rattle.std.specs.Borrow.{Bor}
use Rattle.std.proofs.lemmas.List.{append-nil, length-append, map-append, reverse-append, take_more}
use Rattle.std.proofs.Math.Seq.{take-length}
use Rattle.nll_text.specs.Tokens.{Token, sign}
use Rattle.nll_mir_grammar.specs.WrittenTypes.{WrittenName, WrittenType, WrittenTypes, Arguments, int, reference, tuple, named, function, none, more, no_argument, type_argument}
use Rattle.nll_mir_grammar.specs.TypeTexts.{Piece, plain, piece_steps, part_steps, argument_steps, add_type, begin_reference, make_tuple, make_named, make_function, begin_row, joined_arguments}
use Rattle.nll_mir_grammar.specs.OpenTypes.{Frame, behind, parts, arguments, inputs, output, joined_types, Steps, begun, complete, IsOpen, AreOpen, IsFitting, AreRead, ReachesFrames, GoesFurther, pending, BeginsType, IsBegun, IsCompleted, IsInnermostClosed, EndsWith}
use Rattle.nll_mir_grammar.specs.declared.opens.State.{State}
use Rattle.nll_mir_grammar.specs.declared.opens.State.TheVariants.{Want, WantArgument, Have, Inside, WantArrow}
use Rattle.nll_mir_grammar.specs.declared.fronts.Front.{Front}
use Rattle.nll_mir_grammar.specs.declared.fronts.Front.TheVariants as fronts
use Rattle.nll_mir_grammar.specs.declared.opens.Open.{Open}
use Rattle.nll_mir_grammar.specs.declared.opens.Open.TheVariants as opens
use Rattle.nll_mir_grammar.specs.declared.type_text.TypePiece.{TypePiece}
use Rattle.nll_mir_grammar.specs.declared.type_text.TypePiece.TheVariants as kept
use Rattle.nll_mir_grammar.proofs.PieceLemmas.{part_steps_more, argument_steps_more}
use Rattle.nll_mir_grammar.proofs.StepLemmas.{step_output, step_input, step_close_input, step_part, step_type_argument, step_close_part, step_close_argument}
use Rattle.nll_mir_grammar.proofs.FrontSteps.{front_thunk, front_function, front_int, front_unit, front_tuple, front_reference, front_generic, front_name}

-- ---- tokens that are left

-- One token less is left behind a token.
pub one_less : (t : Token) (ts rest : List Token) → ts ≡ t ∷ rest → length rest + 1 ≤ length ts
one_less t ts rest e = (let l : length ts ≡ length (t ∷ rest) = ap length e in omega (arith, l))

-- two less
two_less : (t u : Token) (ts rest : List Token) → ts ≡ t ∷ u ∷ rest → length rest + 1 ≤ length ts
two_less t u ts rest e = grind (arith, one_less)

-- three less
three_less : (t u v : Token) (ts rest : List Token) → ts ≡ t ∷ u ∷ v ∷ rest → length rest + 1 ≤ length ts
three_less t u v ts rest e = grind (arith, one_less, two_less)

-- A beginning of a type takes a token at least.
begins_less : (front : Front) (ts rest : List Token) → BeginsType front ts rest → length rest + 1 ≤ length ts
begins_less fronts.Int ts rest b = one_less _ ts rest b
begins_less fronts.Unit ts rest b = two_less _ _ ts rest b
begins_less fronts.Tuple ts rest b = one_less _ ts rest b.0
begins_less (fronts.Reference r true) ts rest b = three_less _ _ _ ts rest b
begins_less (fronts.Reference r false) ts rest b = two_less _ _ ts rest b.0
begins_less (fronts.Generic n) ts rest b = two_less _ _ ts rest b.1
begins_less (fronts.Name n) ts rest b = one_less _ ts rest b.1
begins_less fronts.Thunk ts rest b = three_less _ _ _ ts rest b
begins_less fronts.Function ts rest b = two_less _ _ ts rest b.0

-- ---- pieces and what is open, one thing more or less

-- Something that is open stands in front of what is open.
open_first : (o : Open) (f : Frame) (os : List Open) (frames : List Frame) → IsOpen o f → AreOpen os frames
    → AreOpen (o ∷ os) (f ∷ frames)
open_first opens.Tuple f os frames is r =
    subst (λ z. AreOpen (opens.Tuple ∷ os) (z ∷ frames)) (sym is.1) ((is.0, refl), r)
open_first (opens.Arguments n) f os frames is r =
    subst (λ z. AreOpen (opens.Arguments n ∷ os) (z ∷ frames)) (sym is.1) ((is.0, refl), r)
open_first opens.Inputs f os frames is r =
    subst (λ z. AreOpen (opens.Inputs ∷ os) (z ∷ frames)) (sym is.1) ((is.0, refl), r)
open_first opens.Output f os frames is r =
    subst (λ z. AreOpen (opens.Output ∷ os) (z ∷ frames)) (sym is.1) ((is.0, refl), r)

-- one thing more is open, and one less
opened_more : (os os' : List Open) (o : Open) (f : Frame) (frames : List Frame) → os' ≡ os ++ o ∷ []
    → IsOpen o f → AreOpen (reverse os) frames → AreOpen (reverse os') (f ∷ frames)
opened_more os os' o f frames e is r =
    subst (λ (z : List Open). AreOpen z (f ∷ frames)) (sym (ap reverse e ∙ reverse-append os (o ∷ [])))
    (open_first o f (reverse os) frames is r)

opened_less : (os outer : List Open) (o : Open) (frames : List Frame) → os ≡ outer ++ o ∷ []
    → AreOpen (reverse os) frames → AreOpen (o ∷ reverse outer) frames
opened_less os outer o frames e r =
    subst (λ (z : List Open). AreOpen z frames) (ap reverse e ∙ reverse-append outer (o ∷ [])) r

-- what is open, counted
length_more : (os os' : List Open) (o : Open) → os' ≡ os ++ o ∷ [] → length os' ≡ length os + 1
length_more os os' o e = ap length e ∙ length-append os (o ∷ [])

-- a row has one type more
row_more : (front row row' : List Piece) (t : WrittenType) → row' ≡ row ++ (piece_steps t ++ add_type ∷ [])
    → ((front ++ begin_row ∷ row) ++ piece_steps t) ++ add_type ∷ [] ≡ (front ++ begin_row ∷ row') ++ []
row_more front row row' t e = grind (arith, append_assoc, append-nil)

-- The code came to other frames and to another type: it appended pieces, and the same
-- types come out.
pub comes_so : (s s' : State) (frames frames' : List Frame) (t t' : WrittenType) (ts ts' : List Token)
    (ps ps' row : List TypePiece) (os os' : List Open) → AreRead s frames t ps os → ps' ≡ ps ++ row
    → (begun frames ++ complete s t) ++ map plain row ≡ begun frames' ++ complete s' t'
    → AreOpen (reverse os') frames' → IsFitting s' frames' → Steps s frames t ts s' frames' t' ts'
    → ReachesFrames s frames t ts s' ps' os' ts'
comes_so s s' frames frames' t t' ts ts' ps ps' row os os' r put made are fits step = grind (arith, map-append)

-- ---- the beginning of a type

-- a type is complete
begun_type : (front : Front) (frames : List Frame) (t u : WrittenType) (ps ps' row : List TypePiece) (os : List Open)
    (s : State) → map plain row ≡ piece_steps u
    → ((ts rest : List Token) → BeginsType front ts rest → Steps Want frames t ts Have frames u rest)
    → (s ≡ Have) × (ps' ≡ ps ++ row) → AreRead Want frames t ps os → IsBegun front frames t os s ps' os
begun_type front frames t u ps ps' row os s made step h r =
    subst (λ (z : State). IsBegun front frames t os z ps' os) (sym h.0) (record {
      comes = λ ts rest b. comes_so Want Have frames frames t u ts rest ps ps' row os os r h.1
          (append_assoc (begun frames) [] (map plain row) ∙ ap (λ (qs : List Piece). begun frames ++ qs) made)
          r.are_open tt (step ts rest b);
      few = omega arith;
    })

-- something is open
begun_frame : (front : Front) (f : Frame) (frames : List Frame) (t : WrittenType) (ps ps' row : List TypePiece)
    (os os' : List Open) (o : Open) (s s' : State) → IsOpen o f → begun (f ∷ frames) ≡ begun frames ++ map plain row
    → complete s' t ≡ [] → pending s' ≤ 1 → IsFitting s' (f ∷ frames)
    → ((ts rest : List Token) → BeginsType front ts rest → Steps Want frames t ts s' (f ∷ frames) t rest)
    → (s ≡ s') × (ps' ≡ ps ++ row) × (os' ≡ os ++ o ∷ []) → AreRead Want frames t ps os
    → IsBegun front frames t os s ps' os'
begun_frame front f frames t ps ps' row os os' o s s' is made none_made few fits step h r =
    let l = length_more os os' o h.2 in
    subst (λ (z : State). IsBegun front frames t os z ps' os') (sym h.0) (record {
      comes = λ ts rest b. comes_so Want s' frames (f ∷ frames) t t ts rest ps ps' row os os' r h.1
          (append_assoc (begun frames) [] (map plain row) ∙ sym made
          ∙ sym (ap (λ (qs : List Piece). begun (f ∷ frames) ++ qs) none_made ∙ append-nil (begun (f ∷ frames))))
          (opened_more os os' o f frames h.2 is r.are_open) fits (step ts rest b);
      few = omega arith;
    })

-- each beginning, in the order of `Front`, where those that complete a type come first

pub begun_int : (front : Front) (ps ps' : List TypePiece) (os : List Open) (s : State) → front ≡ fronts.Int
    → (s ≡ Have) × (ps' ≡ ps ++ kept.Int ∷ []) → (frames : List Frame) (t : WrittenType) → AreRead Want frames t ps os
    → IsBegun front frames t os s ps' os
begun_int front ps ps' os s is h frames t r =
    begun_type front frames t int ps ps' (kept.Int ∷ []) os s refl
    (λ ts rest b. front_int frames t ts rest (subst (λ z. BeginsType z ts rest) is b)) h r

pub begun_unit : (front : Front) (ps ps' : List TypePiece) (os : List Open) (s : State) → front ≡ fronts.Unit
    → (s ≡ Have) × (ps' ≡ ps ++ kept.Row ∷ kept.Tuple ∷ []) → (frames : List Frame) (t : WrittenType)
    → AreRead Want frames t ps os → IsBegun front frames t os s ps' os
begun_unit front ps ps' os s is h frames t r =
    begun_type front frames t (tuple none) ps ps' (kept.Row ∷ kept.Tuple ∷ []) os s refl
    (λ ts rest b. front_unit frames t ts rest (subst (λ z. BeginsType z ts rest) is b)) h r

pub begun_name : (front : Front) (n : Bor (List ℕ)) (ps ps' : List TypePiece) (os : List Open) (s : State)
    → front ≡ fronts.Name n → (s ≡ Have) × (ps' ≡ ps ++ kept.Row ∷ kept.Named n ∷ []) → (frames : List Frame)
    (t : WrittenType) → AreRead Want frames t ps os → IsBegun front frames t os s ps' os
begun_name front n ps ps' os s is h frames t r =
    begun_type front frames t (named n.now no_argument) ps ps' (kept.Row ∷ kept.Named n ∷ []) os s refl
    (λ ts rest b. front_name n frames t ts rest (subst (λ z. BeginsType z ts rest) is b)) h r

pub begun_tuple : (front : Front) (ps ps' : List TypePiece) (os os' : List Open) (s : State) → front ≡ fronts.Tuple
    → (s ≡ Want) × (ps' ≡ ps ++ kept.Row ∷ []) × (os' ≡ os ++ opens.Tuple ∷ []) → (frames : List Frame)
    (t : WrittenType) → AreRead Want frames t ps os → IsBegun front frames t os s ps' os'
begun_tuple front ps ps' os os' s is h frames t r =
    begun_frame front (parts none) frames t ps ps' (kept.Row ∷ []) os os' opens.Tuple s Want (none, refl) refl refl
    (omega arith) tt (λ ts rest b. front_tuple frames t t ts rest (subst (λ z. BeginsType z ts rest) is b)) h r

pub begun_reference : (front : Front) (q : Bor (List ℕ)) (m : Bool) (ps ps' : List TypePiece) (os : List Open)
    (s : State) → front ≡ fronts.Reference q m → (s ≡ Want) × (ps' ≡ ps ++ kept.Reference m q ∷ [])
    → (frames : List Frame) (t : WrittenType) → AreRead Want frames t ps os → IsBegun front frames t os s ps' os
begun_reference front q m ps ps' os s is h frames t r =
    subst (λ (z : State). IsBegun front frames t os z ps' os) (sym h.0) (record {
      comes = λ ts rest b. comes_so Want Want frames (behind q.now m ∷ frames) t t ts rest ps ps'
          (kept.Reference m q ∷ []) os os r h.1
          (append_assoc (begun frames) [] (begin_reference m q.now ∷ [])
          ∙ sym (append-nil (begun frames ++ begin_reference m q.now ∷ [])))
          r.are_open tt (front_reference q m frames t t ts rest (subst (λ z. BeginsType z ts rest) is b));
      few = omega arith;
    })

pub begun_generic : (front : Front) (n : Bor (List ℕ)) (ps ps' : List TypePiece) (os os' : List Open) (s : State)
    → front ≡ fronts.Generic n
    → (s ≡ WantArgument) × (ps' ≡ ps ++ kept.Row ∷ []) × (os' ≡ os ++ opens.Arguments n ∷ []) → (frames : List Frame)
    (t : WrittenType) → AreRead Want frames t ps os → IsBegun front frames t os s ps' os'
begun_generic front n ps ps' os os' s is h frames t r =
    begun_frame front (arguments n.now no_argument) frames t ps ps' (kept.Row ∷ []) os os' (opens.Arguments n) s
    WantArgument (no_argument, refl) refl refl (omega arith) tt
    (λ ts rest b. front_generic n frames t t ts rest (subst (λ z. BeginsType z ts rest) is b)) h r

pub begun_thunk : (front : Front) (ps ps' : List TypePiece) (os os' : List Open) (s : State) → front ≡ fronts.Thunk
    → (s ≡ WantArrow) × (ps' ≡ ps ++ kept.Row ∷ []) × (os' ≡ os ++ opens.Output ∷ []) → (frames : List Frame)
    (t : WrittenType) → AreRead Want frames t ps os → IsBegun front frames t os s ps' os'
begun_thunk front ps ps' os os' s is h frames t r =
    begun_frame front (output none) frames t ps ps' (kept.Row ∷ []) os os' opens.Output s WantArrow (none, refl) refl
    refl (omega arith) tt (λ ts rest b. front_thunk frames t t ts rest (subst (λ z. BeginsType z ts rest) is b)) h r

pub begun_function : (front : Front) (ps ps' : List TypePiece) (os os' : List Open) (s : State)
    → front ≡ fronts.Function → (s ≡ Want) × (ps' ≡ ps ++ kept.Row ∷ []) × (os' ≡ os ++ opens.Inputs ∷ [])
    → (frames : List Frame) (t : WrittenType) → AreRead Want frames t ps os → IsBegun front frames t os s ps' os'
begun_function front ps ps' os os' s is h frames t r =
    begun_frame front (inputs none) frames t ps ps' (kept.Row ∷ []) os os' opens.Inputs s Want (none, refl) refl refl
    (omega arith) tt (λ ts rest b. front_function frames t t ts rest (subst (λ z. BeginsType z ts rest) is b)) h r

-- the step of a beginning, with the tokens that it takes
pub further_begin : (front : Front) (ts rest : List Token) (frames : List Frame) (t : WrittenType)
    (os os' : List Open) (ps' : List TypePiece) (s' : State) → BeginsType front ts rest
    → IsBegun front frames t os s' ps' os' → GoesFurther Want frames t os ts s' ps' os' rest
further_begin front ts rest frames t os os' ps' s' b h = grind (arith, begins_less)

-- ---- what is innermost

-- the last of what is open
pub last_is : (xs os : List Open) (n : ℕ) (o p : Open) → xs ≡ os → n ≡ length os → 0 < length os
    → get_or xs (n - 1) p ≡ o → os ≡ take (length os - 1) os ++ o ∷ []
last_is xs os n o p e f some is = grind (arith, get_or, f, take-length, take_more)

-- What is so wherever the innermost frame is what is open last, and with each reference more, is so of all frames
-- that are what is open.
by_frame : (os outer : List Open) (o : Open) (P : List Frame → Type 0) → os ≡ outer ++ o ∷ []
    → ((q : WrittenName) (m : Bool) (frames : List Frame) → P frames → P (behind q m ∷ frames))
    → ((f : Frame) (frames : List Frame) → IsOpen o f → AreOpen (reverse outer) frames → P (f ∷ frames))
    → (frames : List Frame) → AreOpen (reverse os) frames → P frames
by_frame os outer o P e waits each frames r = by frames (opened_less os outer o frames e r)
  where
    by : (frames : List Frame) → AreOpen (o ∷ reverse outer) frames → P frames
    by [] h = absurd h
    by (behind q m ∷ frames) h = waits q m frames (by frames h)
    by (parts done ∷ frames) h = each (parts done) frames h.0 h.1
    by (arguments n done ∷ frames) h = each (arguments n done) frames h.0 h.1
    by (inputs done ∷ frames) h = each (inputs done) frames h.0 h.1
    by (output done ∷ frames) h = each (output done) frames h.0 h.1

-- ---- a complete type

-- A reference to the complete type is complete, too.
pub read_behind : (q : WrittenName) (m : Bool) (frames : List Frame) (t : WrittenType) (ps : List TypePiece)
    (os : List Open) → AreRead Have (behind q m ∷ frames) t ps os → AreRead Have frames (reference q m t) ps os
read_behind q m frames t ps os r = grind (arith, append_assoc)

-- Each type that is complete in these frames becomes a part of the innermost thing that was open, or completes it.
abbrev Completes : (ps ps' : List TypePiece) (os os' : List Open) (s : State) → List Frame → Type 0
Completes ps ps' os os' s frames = (t : WrittenType) → AreRead Have frames t ps os → IsCompleted frames t os s ps' os'

-- what a reference points to
completes_behind : (ps ps' : List TypePiece) (os os' : List Open) (s : State) (q : WrittenName) (m : Bool)
    (frames : List Frame) → Completes ps ps' os os' s frames → Completes ps ps' os os' s (behind q m ∷ frames)
completes_behind ps ps' os os' s q m frames each t r =
    let h = each (reference q m t) (read_behind q m frames t ps os r) in
    record {
      comes = λ ts. let c = h.comes ts in record {
        frames' = c.frames';
        t' = c.t';
        same = record {
          there = λ whole rest f. c.same.there whole rest f;
          back = λ whole rest f. c.same.back whole rest f;
        };
        read = c.read;
      };
      few = h.few;
    }

-- it is the result of a function
pub completed_output : (ps ps' : List TypePiece) (os os' : List Open) (s : State)
    → os ≡ take (length os - 1) os ++ opens.Output ∷ []
    → (s ≡ Have) × (ps' ≡ ps ++ kept.Function ∷ []) × (os' ≡ take (length os - 1) os) → (frames : List Frame)
    (t : WrittenType) → AreRead Have frames t ps os → IsCompleted frames t os s ps' os'
completed_output ps ps' os os' s e h frames t r =
    subst (λ (z : State). IsCompleted frames t os z ps' os') (sym h.0)
    (by_frame os os' opens.Output (Completes ps ps' os os' Have) f (completes_behind ps ps' os os' Have)
    (λ g frames is are. subst (λ z. Completes ps ps' os os' Have (z ∷ frames)) (sym is.1) (λ t r. record {
      comes = λ ts. comes_so Have Have (output is.0 ∷ frames) frames t (function is.0 t) ts ts ps ps'
          (kept.Function ∷ []) os os' r h.1
          (ap (λ (qs : List Piece). qs ++ make_function ∷ [])
          (append_assoc (begun frames) (begin_row ∷ part_steps is.0) (piece_steps t))
          ∙ append_assoc (begun frames) (begin_row ∷ (part_steps is.0 ++ piece_steps t)) (make_function ∷ []))
          are tt (step_output frames is.0 t ts);
      few = (let l = length_more os' os opens.Output f in omega arith);
    })) frames r.are_open t r)
  where
    f : os ≡ os' ++ opens.Output ∷ []
    f = e ∙ ap (λ (z : List Open). z ++ opens.Output ∷ []) (sym h.2)

-- it goes to the end of the row of what is innermost
more_in_row : (f g : Frame) (frames : List Frame) (t : WrittenType) (ps ps' : List TypePiece) (os outer : List Open)
    (o : Open) → os ≡ outer ++ o ∷ [] → IsOpen o g → AreOpen (reverse outer) frames
    → (begun (f ∷ frames) ++ piece_steps t) ++ add_type ∷ [] ≡ begun (g ∷ frames) ++ []
    → IsFitting Inside (g ∷ frames)
    → ((ts : List Token) → Steps Have (f ∷ frames) t ts Inside (g ∷ frames) t ts) → ps' ≡ ps ++ kept.Part ∷ []
    → AreRead Have (f ∷ frames) t ps os → IsCompleted (f ∷ frames) t os Inside ps' os
more_in_row f g frames t ps ps' os outer o e is are made fits step put r = record {
  comes = λ ts. comes_so Have Inside (f ∷ frames) (g ∷ frames) t t ts ts ps ps' (kept.Part ∷ []) os os r put made
      (opened_more outer os o g frames e is are) fits (step ts);
  few = omega arith;
}

-- What has a row is a tuple, a name or a function.
abbrev pub HasRow : Open → Type 0
HasRow o = (o ≡ opens.Tuple) ⊎ (((n : Bor (List ℕ)) × (o ≡ opens.Arguments n)) ⊎ (o ≡ opens.Inputs))

-- it is a part of a tuple, an argument of a name, or an argument of a function
pub completed_part : (ps ps' : List TypePiece) (os : List Open) (o : Open) (s : State)
    → os ≡ take (length os - 1) os ++ o ∷ [] → HasRow o → (s ≡ Inside) × (ps' ≡ ps ++ kept.Part ∷ [])
    → (frames : List Frame) (t : WrittenType) → AreRead Have frames t ps os → IsCompleted frames t os s ps' os
completed_part ps ps' os o s e row h frames t r =
    subst (λ (z : State). IsCompleted frames t os z ps' os) (sym h.0)
    (by_frame os outer o (Completes ps ps' os os Inside) e (completes_behind ps ps' os os Inside)
    (λ g frames is are. ⊎_elim
    (λ k. a_part g frames are k (subst (λ z. IsOpen z g) k is))
    (⊎_elim (λ k. an_argument g frames are k.0 k.1 (subst (λ z. IsOpen z g) k.1 is))
    (λ k. an_input g frames are k (subst (λ z. IsOpen z g) k is))) row) frames r.are_open t r)
  where
    outer : List Open
    outer = take (length os - 1) os

    a_part : (g : Frame) (frames : List Frame) → AreOpen (reverse outer) frames → o ≡ opens.Tuple
        → (done : WrittenTypes) × (g ≡ parts done) → Completes ps ps' os os Inside (g ∷ frames)
    a_part g frames are k is =
        subst (λ z. Completes ps ps' os os Inside (z ∷ frames)) (sym is.1)
        (λ t. let done = joined_types is.0 (more t none) in
        more_in_row (parts is.0) (parts done) frames t ps ps' os outer o e
        (subst (λ z. IsOpen z (parts done)) (sym k) (done, refl)) are
        (row_more (begun frames) (part_steps is.0) (part_steps done) t (part_steps_more is.0 t))
        tt (step_part frames is.0 t t) h.1)

    an_argument : (g : Frame) (frames : List Frame) → AreOpen (reverse outer) frames → (n : Bor (List ℕ))
        → o ≡ opens.Arguments n → (done : Arguments) × (g ≡ arguments n.now done)
        → Completes ps ps' os os Inside (g ∷ frames)
    an_argument g frames are n k is =
        subst (λ z. Completes ps ps' os os Inside (z ∷ frames)) (sym is.1)
        (λ t. let done = joined_arguments is.0 (type_argument t no_argument) in
        more_in_row (arguments n.now is.0) (arguments n.now done) frames t ps ps' os outer o e
        (subst (λ z. IsOpen z (arguments n.now done)) (sym k) (done, refl)) are
        (row_more (begun frames) (argument_steps is.0) (argument_steps done) t
        (argument_steps_more is.0 (type_argument t no_argument)))
        tt (step_type_argument frames n.now is.0 t t) h.1)

    an_input : (g : Frame) (frames : List Frame) → AreOpen (reverse outer) frames → o ≡ opens.Inputs
        → (done : WrittenTypes) × (g ≡ inputs done) → Completes ps ps' os os Inside (g ∷ frames)
    an_input g frames are k is =
        subst (λ z. Completes ps ps' os os Inside (z ∷ frames)) (sym is.1)
        (λ t. let done = joined_types is.0 (more t none) in
        more_in_row (inputs is.0) (inputs done) frames t ps ps' os outer o e
        (subst (λ z. IsOpen z (inputs done)) (sym k) (done, refl)) are
        (row_more (begun frames) (part_steps is.0) (part_steps done) t (part_steps_more is.0 t))
        tt (step_input frames is.0 t t) h.1)

-- ---- the end of a row

-- a row ends, and its type is complete
pub row_ends : (front row : List Piece) (last : Piece)
    → ((front ++ begin_row ∷ row) ++ []) ++ last ∷ [] ≡ front ++ begin_row ∷ (row ++ last ∷ [])
row_ends front row last =
    append_assoc (front ++ begin_row ∷ row) [] (last ∷ []) ∙ append_assoc front (begin_row ∷ row) (last ∷ [])

-- a tuple is complete
pub closed_tuple : (ps ps' : List TypePiece) (os os' : List Open) (s : State)
    → os ≡ take (length os - 1) os ++ opens.Tuple ∷ []
    → (s ≡ Have) × (ps' ≡ ps ++ kept.Tuple ∷ []) × (os' ≡ take (length os - 1) os) → (frames : List Frame)
    (t : WrittenType) (c : ℕ) (next : State) → AreRead Inside frames t ps os → EndsWith frames c next
    → IsInnermostClosed frames t c os s ps' os'
closed_tuple ps ps' os os' s e h frames t c next r ends =
    subst (λ (z : State). IsInnermostClosed frames t c os z ps' os') (sym h.0)
    (by_frame os os' opens.Tuple Closed f (λ q m frames closed r ends. absurd ends)
    (λ g frames is are. subst (λ z. Closed (z ∷ frames)) (sym is.1) (λ r ends. record {
      comes = λ ts. subst (λ z. ReachesFrames Inside (parts is.0 ∷ frames) t (sign z ∷ ts) Have ps' os' ts) (sym ends.0)
          (comes_so Inside Have (parts is.0 ∷ frames) frames t (tuple is.0) (sign 41 ∷ ts) ts ps ps'
          (kept.Tuple ∷ []) os os' r h.1 (row_ends (begun frames) (part_steps is.0) make_tuple) are tt
          (step_close_part frames is.0 t ts));
      few = (let l = length_more os' os opens.Tuple f in omega arith);
    })) frames r.are_open r ends)
  where
    f : os ≡ os' ++ opens.Tuple ∷ []
    f = e ∙ ap (λ (z : List Open). z ++ opens.Tuple ∷ []) (sym h.2)

    Closed : List Frame → Type 0
    Closed fs = AreRead Inside fs t ps os → EndsWith fs c next → IsInnermostClosed fs t c os Have ps' os'

-- a name with its arguments is complete
pub closed_name : (n : Bor (List ℕ)) (ps ps' : List TypePiece) (os os' : List Open) (s : State)
    → os ≡ take (length os - 1) os ++ opens.Arguments n ∷ []
    → (s ≡ Have) × (ps' ≡ ps ++ kept.Named n ∷ []) × (os' ≡ take (length os - 1) os) → (frames : List Frame)
    (t : WrittenType) (c : ℕ) (next : State) → AreRead Inside frames t ps os → EndsWith frames c next
    → IsInnermostClosed frames t c os s ps' os'
closed_name n ps ps' os os' s e h frames t c next r ends =
    subst (λ (z : State). IsInnermostClosed frames t c os z ps' os') (sym h.0)
    (by_frame os os' (opens.Arguments n) Closed f (λ q m frames closed r ends. absurd ends)
    (λ g frames is are. subst (λ z. Closed (z ∷ frames)) (sym is.1) (λ r ends. record {
      comes = λ ts. subst (λ z. ReachesFrames Inside (arguments n.now is.0 ∷ frames) t (sign z ∷ ts) Have ps' os' ts)
          (sym ends.0)
          (comes_so Inside Have (arguments n.now is.0 ∷ frames) frames t (named n.now is.0) (sign 62 ∷ ts) ts ps ps'
          (kept.Named n ∷ []) os os' r h.1 (row_ends (begun frames) (argument_steps is.0) (make_named n.now)) are tt
          (step_close_argument frames n.now is.0 t ts));
      few = (let l = length_more os' os (opens.Arguments n) f in omega arith);
    })) frames r.are_open r ends)
  where
    f : os ≡ os' ++ opens.Arguments n ∷ []
    f = e ∙ ap (λ (z : List Open). z ++ opens.Arguments n ∷ []) (sym h.2)

    Closed : List Frame → Type 0
    Closed fs = AreRead Inside fs t ps os → EndsWith fs c next → IsInnermostClosed fs t c os Have ps' os'

-- What is no type when its row ends: a function, whose result comes next. A function's result has no row.
abbrev pub IsNoType : Open → Type 0
IsNoType o = (o ≡ opens.Inputs) ⊎ (o ≡ opens.Output)

-- the arguments of a function are complete
pub closed_inputs : (ps : List TypePiece) (os os' : List Open) (o : Open) (s : State)
    → os ≡ take (length os - 1) os ++ o ∷ [] → IsNoType o
    → (s ≡ WantArrow) × (os' ≡ take (length os - 1) os ++ opens.Output ∷ []) → (frames : List Frame)
    (t : WrittenType) (c : ℕ) (next : State) → AreRead Inside frames t ps os → EndsWith frames c next
    → IsInnermostClosed frames t c os s ps os'
closed_inputs ps os os' o s e which h frames t c next r ends =
    subst (λ (z : State). IsInnermostClosed frames t c os z ps os') (sym h.0)
    (by_frame os outer o Closed e (λ q m frames closed r ends. absurd ends)
    (λ g frames is are. ⊎_elim (λ k. awaited g frames are (subst (λ z. IsOpen z g) k is))
    (λ k. let out : (done : WrittenTypes) × (g ≡ output done) = subst (λ z. IsOpen z g) k is in
    subst (λ z. Closed (z ∷ frames)) (sym out.1) (λ r ends. absurd ends)) which)
    frames r.are_open r ends)
  where
    outer : List Open
    outer = take (length os - 1) os

    Closed : List Frame → Type 0
    Closed fs = AreRead Inside fs t ps os → EndsWith fs c next → IsInnermostClosed fs t c os WantArrow ps os'

    awaited : (g : Frame) (frames : List Frame) → AreOpen (reverse outer) frames
        → (done : WrittenTypes) × (g ≡ inputs done) → Closed (g ∷ frames)
    awaited g frames are is = subst (λ z. Closed (z ∷ frames)) (sym is.1) (λ r ends. record {
      comes = λ ts. subst (λ z. ReachesFrames Inside (inputs is.0 ∷ frames) t (sign z ∷ ts) WantArrow ps os' ts)
          (sym ends.0)
          (comes_so Inside WantArrow (inputs is.0 ∷ frames) (output is.0 ∷ frames) t t (sign 41 ∷ ts) ts ps ps
          [] os os' r (sym (append-nil ps)) (append-nil (begun (inputs is.0 ∷ frames) ++ []))
          (opened_more outer os' opens.Output (output is.0) frames h.1 (is.0, refl) are) tt
          (step_close_input frames is.0 t t ts));
      few = (let l = length_more outer os o e in let k = length_more outer os' opens.Output h.1 in omega arith);
    })

-- the closing sign comes
pub further_end : (ts rest : List Token) (frames : List Frame) (t : WrittenType) (c : ℕ) (ps' : List TypePiece)
    (os os' : List Open) (s' : State) → ts ≡ sign c ∷ rest
    → IsInnermostClosed frames t c os s' ps' os' → GoesFurther Inside frames t os ts s' ps' os' rest
further_end ts rest frames t c ps' os os' s' is h = grind (arith, one_less)
