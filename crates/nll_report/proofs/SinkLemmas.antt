-- Pieces that are put into a sink, one after another.
use Rattle.std.proofs.Common.{arith, ◌≡◌, ℕ, suc, ◌+◌, ◌<◌, ◌≤◌, List, [], ◌∷◌, ◌++◌, Option, Some, None, Result, Ok, Err, OnErr, OnOk, get_or, length, take, drop, sym, ap, ◌∙◌, subst}
use Rattle.std.proofs.Math.Seq.{take-append-add, take-suc}
use Rattle.std.proofs.lemmas.Grind.{flat_map-append}
use Rattle.std.proofs.lemmas.List.{append-nil, take-append-drop, take-append-le, length-append}
use Rattle.std.proofs.KnownBytes.{Appends-trans}
use Rattle.std.specs.Io.KnownBytes.{Appends}
use Rattle.std.specs.List.{flat_map}
use Rattle.nll_report.specs.Sink.{IsCutShort, LeavesRoom, MayRefuse}

-- what stands before a piece, the piece, and what stands behind it
around : {X : Type 0} (f : X → List ℕ) (pieces : List X) (i : ℕ) (d : X) → i < length pieces
    → flat_map f pieces ≡ (flat_map f (take i pieces) ++ f (get_or pieces i d)) ++ flat_map f (drop (suc i) pieces)
around f pieces i d within =
    ap (flat_map f) (sym (take-append-drop (suc i) pieces))
    ∙ flat_map-append f (take (suc i) pieces) (drop (suc i) pieces)
    ∙ ap (λ front. front ++ flat_map f (drop (suc i) pieces))
    (ap (flat_map f) (take-suc pieces i d within) ∙ flat_map-append f (take i pieces) (get_or pieces i d ∷ [])
    ∙ ap (λ last. flat_map f (take i pieces) ++ last) (append-nil (f (get_or pieces i d))))

-- what may be refused of a part may be refused of the whole
may_refuse_more : (room left : Option ℕ) (before part more : ℕ) → LeavesRoom room left before
    → MayRefuse left part → MayRefuse room ((before + part) + more)
may_refuse_more None left before part more leaves refused = tt
may_refuse_more (Some room) None before part more leaves refused = absurd leaves
may_refuse_more (Some room) (Some left) before part more leaves refused = omega (arith, leaves, refused)

-- the first bytes of a piece are the first bytes of what ends with it
first_behind : (done piece rest : List ℕ) (count : ℕ) → count ≤ length piece
    → take (length done + count) ((done ++ piece) ++ rest) ≡ done ++ take count piece
first_behind done piece rest count within =
    let inside : length done + count ≤ length (done ++ piece) = omega (arith, within, length-append done piece) in
    take-append-le (length done + count) (done ++ piece) rest inside ∙ take-append-add done piece count

-- a piece that is cut, behind what was put, cuts the whole
cut_behind : (room left : Option ℕ) (old mid new : Option (List ℕ)) (done piece rest : List ℕ) (count : ℕ)
    → LeavesRoom room left (length done) → Appends old mid done
    → count ≤ length piece → Appends mid new (take count piece) → MayRefuse left (length piece)
    → IsCutShort room old new ((done ++ piece) ++ rest)
cut_behind room left old mid new done piece rest count leaves before within begun refused = record {
  count = length done + count;
  begun = subst (Appends old new) (sym (first_behind done piece rest count within))
      (Appends-trans old mid new done (take count piece) before begun);
  refused = subst (MayRefuse room) (sym measured)
      (may_refuse_more room left (length done) (length piece) (length rest) leaves refused);
}
  where
    measured : length ((done ++ piece) ++ rest) ≡ (length done + length piece) + length rest
    measured = length-append (done ++ piece) rest ∙ ap (λ n. n + length rest) (length-append done piece)

on_err : {A E P : Type 0} (r : Result A E) → P → OnErr r P
on_err (Ok x) h = tt
on_err (Err e) h = h

-- the piece at i is cut, behind those that were put
pub cut_at : {X A E : Type 0} (r : Result A E) (f : X → List ℕ) (pieces : List X) (i : ℕ) (d : X) (piece : List ℕ)
    (room left : Option ℕ) (old mid new : Option (List ℕ)) (count : ℕ)
    → i < length pieces → piece ≡ f (get_or pieces i d)
    → Appends old mid (flat_map f (take i pieces)) × LeavesRoom room left (length (flat_map f (take i pieces)))
    → count ≤ length piece → Appends mid new (take count piece) → MayRefuse left (length piece)
    → OnErr r (IsCutShort room old new (flat_map f pieces))
cut_at r f pieces i d piece room left old mid new count inside is before within begun refused =
    let done = flat_map f (take i pieces) in
    let rest = flat_map f (drop (suc i) pieces) in
    let whole : flat_map f pieces ≡ (done ++ piece) ++ rest =
    around f pieces i d inside ∙ ap (λ part. (done ++ part) ++ rest) (sym is) in
    on_err r (subst (IsCutShort room old new) (sym whole)
    (cut_behind room left old mid new done piece rest count before.1 before.0 within begun refused))

-- what was put, or cut, under another name of the bytes
pub put_as : {E : Type 0} (r : Result (Unit {0}) E) (old new : Option (List ℕ)) (bytes line : List ℕ)
    → line ≡ bytes → OnOk r (Appends old new bytes) → OnOk r (Appends old new line)
put_as r old new bytes line is told = subst (λ b. OnOk r (Appends old new b)) (sym is) told

pub cut_as : {E : Type 0} (r : Result (Unit {0}) E) (room : Option ℕ) (old new : Option (List ℕ)) (bytes line : List ℕ)
    → line ≡ bytes → OnErr r (IsCutShort room old new bytes) → OnErr r (IsCutShort room old new line)
cut_as r room old new bytes line is told = subst (λ b. OnErr r (IsCutShort room old new b)) (sym is) told
