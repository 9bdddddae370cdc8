-- The longest front that passes a test.
use Rattle.std.proofs.Common.{◌≡◌, ℕ, ◌<◌, Bool, true, false, eqb, List, [], ◌∷◌, length, take, drop, refl, sym, arith, one-add}
use Rattle.std.specs.List.{prefix_len, AllByRecursion}
use Rattle.std.proofs.lemmas.List.{take-append-drop}
use Rattle.std.proofs.lemmas.Bool.{eqb-false}
use Rattle.nll_text.specs.Tokens.{first_passes}
use Rattle.nll_text.specs.Lexing.{SplitsWhile}

-- each element passes the test
abbrev pub Passes : (ℕ → Bool) → List ℕ → Type 0
Passes p xs = AllByRecursion (λ b. p b ≡ true) xs

abbrev IsFront : (ℕ → Bool) → List ℕ → Type 0
IsFront p xs =
    Passes p (take (prefix_len p xs) xs) × (first_passes p (drop (prefix_len p xs) xs) ≡ false)

front_step : (p : ℕ → Bool) (x : ℕ) (xs : List ℕ) (t : Bool)
    → p x ≡ t → IsFront p xs → IsFront p (x ∷ xs)
front_step p x xs true e h = rw (e, one-add) ((e, h.0), h.1)
front_step p x xs false e h = rw e (tt, e)

front : (p : ℕ → Bool) (xs : List ℕ) → IsFront p xs
front p [] = (tt, refl)
front p (x ∷ xs) = front_step p x xs (p x) refl (front p xs)

pub splits_while : (p : ℕ → Bool) (xs : List ℕ)
    → SplitsWhile p xs (take (prefix_len p xs) xs) (drop (prefix_len p xs) xs)
splits_while p xs = record {
  joined = sym (take-append-drop (prefix_len p xs) xs);
  each = (front p xs).0;
  stops = (front p xs).1;
}

-- an empty front is split off where the first element fails
pub first_fails : (p : ℕ → Bool) (bytes front rest : List ℕ)
    → SplitsWhile p bytes front rest → length front ≡ 0 → first_passes p bytes ≡ false
first_fails p bytes [] rest s e = rw s.joined s.stops
first_fails p bytes (x ∷ xs) rest s e = absurd (omega arith)

pub positive : (n : ℕ) → eqb n 0 ≡ false → 0 < n
positive n e = omega (arith, eqb-false n 0 e)
