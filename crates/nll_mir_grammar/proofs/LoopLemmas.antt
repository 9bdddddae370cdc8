-- Steps that change neither the pieces nor what is open, and the loop over steps.
use Rattle.std.proofs.Common.{◌≡◌, ℕ, ◌+◌, ◌*◌, ◌<◌, ◌≤◌, List, [], ◌∷◌, ◌++◌, map, length, refl, sym, ap, ◌∙◌, subst, arith, true, false}
use Rattle.std.specs.Prelude.{reverse, Option, Some, None, MatchOption, is_some, ◌==◌}
use Rattle.std.specs.Borrow.{Bor}
use Rattle.std.proofs.lemmas.Bool.{eqb-true, false≢true}
use Rattle.std.proofs.lemmas.List.{append-nil, nil_from_length}
use Rattle.nll_text.specs.Tokens.{Token, region, arrow, sign}
use Rattle.nll_mir_grammar.specs.WrittenTypes.{WrittenName, WrittenType, Arguments, int, reference, no_argument, region_argument}
use Rattle.nll_mir_grammar.specs.Reading.{HasNoType, IsTypeIn}
use Rattle.nll_text.specs.Grammars.{HasNone, IsNotNext, regions, Begins as Starts}
use Rattle.nll_mir_grammar.specs.TypeTexts.{Piece, plain, piece_steps, argument_steps, add_region, begin_row, joined_arguments, written, IsType}
use Rattle.nll_mir_grammar.specs.OpenTypes.{Frame, behind, parts, arguments, inputs, output, Steps, IsStuck, begun, complete, AreOpen, IsFitting, AreRead, ReachesFrames, GoesFurther, pending, EndsWith, takes_region}
use Rattle.nll_mir_grammar.specs.declared.opens.State.{State}
use Rattle.nll_mir_grammar.specs.declared.opens.State.TheVariants.{Want, WantArgument, Have, Inside, WantArrow}
use Rattle.nll_mir_grammar.specs.declared.opens.Open.{Open}
use Rattle.nll_mir_grammar.specs.declared.opens.Open.TheVariants as opens
use Rattle.nll_mir_grammar.specs.declared.type_text.TypePiece.{TypePiece}
use Rattle.nll_mir_grammar.specs.declared.type_text.TypePiece.TheVariants as kept
use Rattle.nll_mir_grammar.proofs.PieceLemmas.{argument_steps_more, is_type, written_is}
use Rattle.nll_mir_grammar.proofs.StepLemmas.{step_comma_input, step_arrow, stuck_input, step_region, step_no_region, stuck_region, step_comma_part, stuck_part, step_comma_argument, stuck_argument, none_before, type_here}
use Rattle.nll_mir_grammar.proofs.FurtherLemmas.{one_less, comes_so, row_ends, read_behind}

-- ---- steps that change neither the pieces nor what is open

-- a comma comes, or `->`, or no region
unchanged : (ts rest : List Token) (s s' : State) (frames : List Frame) (t : WrittenType) (ps : List TypePiece)
    (os : List Open) → pending s' + 4 * length rest < pending s + 4 * length ts
    → complete s t ≡ [] → complete s' t ≡ [] → IsFitting s' frames
    → Steps s frames t ts s' frames t rest → AreRead s frames t ps os
    → GoesFurther s frames t os ts s' ps os rest
unchanged ts rest s s' frames t ps os falls e f fits step r = grind (arith, comes_so, append-nil)

-- behind a comma comes the next thing of the row
comma_so : (ts rest : List Token) (s' next : State) (frames : List Frame) (t : WrittenType) (ps : List TypePiece)
    (os : List Open) → ts ≡ sign 44 ∷ rest → pending next ≤ 1 → complete next t ≡ [] → IsFitting next frames
    → Steps Inside frames t (sign 44 ∷ rest) next frames t rest
    → s' ≡ next → AreRead Inside frames t ps os → GoesFurther Inside frames t os ts s' ps os rest
comma_so ts rest s' next frames t ps os is few f fits step state r = grind (arith, one_less, unchanged)

pub further_comma : (ts rest : List Token) (frames : List Frame) (t : WrittenType) (c : ℕ) (s' : State)
    (ps : List TypePiece) (os : List Open) → EndsWith frames c s' → ts ≡ sign 44 ∷ rest
    → AreRead Inside frames t ps os → GoesFurther Inside frames t os ts s' ps os rest
further_comma ts rest (parts done ∷ frames) t c s' ps os ends is r =
    comma_so ts rest s' Want (parts done ∷ frames) t ps os is (omega arith) refl tt
    (step_comma_part frames done t t rest) ends.1 r
further_comma ts rest (arguments n done ∷ frames) t c s' ps os ends is r =
    comma_so ts rest s' WantArgument (arguments n done ∷ frames) t ps os is (omega arith) refl tt
    (step_comma_argument frames n done t t rest) ends.1 r
further_comma ts rest (inputs done ∷ frames) t c s' ps os ends is r =
    comma_so ts rest s' Want (inputs done ∷ frames) t ps os is (omega arith) refl tt
    (step_comma_input frames done t t rest) ends.1 r
further_comma ts rest _ t c s' ps os ends is r = absurd ends

-- neither a comma nor the closing sign
pub stuck_inside : (ts : List Token) (frames : List Frame) (t : WrittenType) (c : ℕ) (s : State)
    → EndsWith frames c s → ((rest : List Token) → ts ≡ sign 44 ∷ rest → ⊥)
    → ((rest : List Token) → ts ≡ sign c ∷ rest → ⊥) → IsStuck Inside frames t ts
stuck_inside ts (parts done ∷ frames) t c s ends comma close =
    stuck_part frames done t ts comma (subst (λ (z : ℕ). (rest : List Token) → ts ≡ sign z ∷ rest → ⊥) ends.0 close)
stuck_inside ts (arguments n done ∷ frames) t c s ends comma close =
    stuck_argument frames n done t ts comma
    (subst (λ (z : ℕ). (rest : List Token) → ts ≡ sign z ∷ rest → ⊥) ends.0 close)
stuck_inside ts (inputs done ∷ frames) t c s ends comma close =
    stuck_input frames done t ts comma (subst (λ (z : ℕ). (rest : List Token) → ts ≡ sign z ∷ rest → ⊥) ends.0 close)
stuck_inside ts _ t c s ends comma close = absurd ends

-- `->` comes, or it doesn't
pub further_arrow : (ts rest : List Token) (frames : List Frame) (t : WrittenType) (ps : List TypePiece)
    (os : List Open) → ts ≡ arrow ∷ rest → AreRead WantArrow frames t ps os
    → GoesFurther WantArrow frames t os ts Want ps os rest
further_arrow ts rest frames t ps os e r = grind (arith, one_less, unchanged, step_arrow)

-- ---- an argument comes

pub further_no_region : (ts : List Token) (frames : List Frame) (t : WrittenType) (ps : List TypePiece)
    (os : List Open) → HasNone regions ts → AreRead WantArgument frames t ps os
    → GoesFurther WantArgument frames t os ts Want ps os ts
further_no_region ts frames t ps os other r =
    unchanged ts ts WantArgument Want frames t ps os (omega arith) refl refl tt
    (step_no_region frames t t ts
    (λ q rest e. other q rest (record { joined = e; allowed = tt; follows = tt }))) r

-- no arguments are open
pub stuck_no_name : (ts rest : List Token) (frames : List Frame) (t : WrittenType) (q : WrittenName)
    → takes_region frames ≡ false → Starts regions ts q rest → IsStuck WantArgument frames t ts
stuck_no_name ts rest frames t q none_takes is =
    subst (λ (z : List Token). IsStuck WantArgument frames t z) (sym is.joined)
    (stuck_region frames t q rest
    (λ n done gs e. false≢true (sym none_takes ∙ ap takes_region e)))

-- a region goes to the end of the row of arguments
pub further_region : (ts rest : List Token) (frames : List Frame) (t : WrittenType) (ps ps' : List TypePiece)
    (os : List Open) (q : Bor (List ℕ)) (s : State) → takes_region frames ≡ true
    → Starts regions ts q.now rest → (s ≡ Inside) × (ps' ≡ ps ++ kept.Region q ∷ [])
    → AreRead WantArgument frames t ps os → GoesFurther WantArgument frames t os ts s ps' os rest
further_region ts rest (arguments n done ∷ frames) t ps ps' os q s takes is h r =
    let more_done = joined_arguments done (region_argument q.now no_argument) in
    let less = one_less (region q.now) ts rest is.joined in
    subst (λ z. GoesFurther WantArgument (arguments n done ∷ frames) t os ts z ps' os rest) (sym h.0) (record {
      falls = omega (arith, less);
      comes = comes_so WantArgument Inside (arguments n done ∷ frames) (arguments n more_done ∷ frames) t t
          ts rest ps ps' (kept.Region q ∷ []) os os r h.1
          (row_ends (begun frames) (argument_steps done) (add_region q.now)
          ∙ ap (λ (qs : List Piece). begun frames ++ begin_row ∷ qs)
          (sym (argument_steps_more done (region_argument q.now no_argument)))
          ∙ sym (append-nil (begun frames ++ begin_row ∷ argument_steps more_done)))
          (same_open more_done (reverse os) r.are_open) tt
          (subst (λ (z : List Token). Steps WantArgument (arguments n done ∷ frames) t z Inside
          (arguments n more_done ∷ frames) t rest) (sym is.joined)
          (step_region frames n done t t q.now rest));
    })
  where
    same_open : (done' : Arguments) (rev : List Open) → AreOpen rev (arguments n done ∷ frames)
        → AreOpen rev (arguments n done' ∷ frames)
    same_open done' [] h = absurd h
    same_open done' (opens.Tuple ∷ rev) h = (let e = h.0.1 in absurd cc)
    same_open done' (opens.Arguments p ∷ rev) h =
        ((done', (let e = h.0.1 in let k : n ≡ p.now = cc in ap (λ z. arguments z done') k)), h.1)
    same_open done' (opens.Inputs ∷ rev) h = (let e = h.0.1 in absurd cc)
    same_open done' (opens.Output ∷ rev) h = (let e = h.0.1 in absurd cc)
further_region ts rest _ t ps ps' os q s takes is h r = absurd (false≢true takes)

-- ---- the loop

-- nothing is read yet
pub first_comes : (t : WrittenType) (ts : List Token) (ps : List TypePiece) (os : List Open) → ps ≡ [] → os ≡ []
    → ReachesFrames Want [] t ts Want ps os ts
first_comes t ts ps os e f = rw (e, f) (record {
  frames' = [];
  t' = t;
  same = record { there = λ whole rest f. f; back = λ whole rest f. f };
  read = record { pieces = refl; are_open = tt; fits = tt };
})

-- A type is complete, and nothing is open.
pub record IsWhole (ts at_ts : List Token) (ps : List TypePiece) : Type 0 where
  pub whole : WrittenType
  pub same : Steps Want [] int ts Have [] whole at_ts
  pub pieces : map plain ps ≡ piece_steps whole

-- This is so where a type is complete in frames that are all references.
whole_in : (ts at_ts : List Token) (ps : List TypePiece) (frames : List Frame) (t : WrittenType)
    → Steps Want [] int ts Have frames t at_ts → AreRead Have frames t ps [] → IsWhole ts at_ts ps
whole_in ts at_ts ps [] t same r = record { whole = t; same = same; pieces = r.pieces }
whole_in ts at_ts ps (behind q m ∷ frames) t same r =
    whole_in ts at_ts ps frames (reference q m t) (record {
      there = λ whole rest f. same.there whole rest f;
      back = λ whole rest f. same.back whole rest f;
    }) (read_behind q m frames t ps [] r)
whole_in ts at_ts ps (parts _ ∷ frames) t same r = absurd r.are_open
whole_in ts at_ts ps (arguments _ _ ∷ frames) t same r = absurd r.are_open
whole_in ts at_ts ps (inputs _ ∷ frames) t same r = absurd r.are_open
whole_in ts at_ts ps (output _ ∷ frames) t same r = absurd r.are_open

-- This is so where the loop ends.
pub at_end : (s : State) (ts at_ts : List Token) (ps : List TypePiece) (os : List Open) → s ≡ Have
    → (length os == 0) ≡ true → ReachesFrames Want [] int ts s ps os at_ts → IsWhole ts at_ts ps
at_end s ts at_ts ps os e none_open c = grind (arith, whole_in, nil_from_length, eqb-true)

-- Then the pieces are those of a type, which stands in front where no `<` follows; `o` has what is behind a `<`.
pub whole_pieces : (ts at_ts : List Token) (ps : List TypePiece) → IsWhole ts at_ts ps → IsType ps
whole_pieces ts at_ts ps w = is_type ps w.whole w.pieces

pub whole_stuck : {R : Type 0} (o : Option R) (after : R → List Token) (ts at_ts : List Token) (ps : List TypePiece)
    → IsWhole ts at_ts ps → MatchOption o (IsNotNext (sign 60) at_ts) (λ r. at_ts ≡ sign 60 ∷ after r)
    → is_some o ≡ true → HasNoType ts
whole_stuck None after ts at_ts ps w h some = absurd (false≢true some)
whole_stuck (Some r) after ts at_ts ps w h some = none_before ts at_ts (after r) w.whole w.same h

pub whole_read : {R : Type 0} (o : Option R) (after : R → List Token) (ts at_ts : List Token) (ps : List TypePiece)
    → IsWhole ts at_ts ps → MatchOption o (IsNotNext (sign 60) at_ts) (λ r. at_ts ≡ sign 60 ∷ after r)
    → is_some o ≡ false → IsTypeIn ts (written ps) at_ts
whole_read None after ts at_ts ps w free some =
    subst (λ z. IsTypeIn ts z at_ts) (sym (written_is ps w.whole w.pieces)) (type_here ts at_ts w.whole w.same free)
whole_read (Some r) after ts at_ts ps w h some = absurd (false≢true (sym some))
