-- Pairs that come into a list, kind by kind.
use Rattle.std.proofs.Common.{ℕ, ◌+◌, ◌<◌, List, arith, ⊎_elim, inl, inr, ◌↔◌, ◌⊎◌}
use Rattle.std.proofs.lemmas.Bool.{cases_lt}
use Rattle.nll_rules.specs.Pairs.{AddsPairs, AtOne}

-- what came in two steps, or by other words
pub came_both : {O M N P Q R : Type 0} → M ↔ (O ⊎ P) → N ↔ (M ⊎ Q) → R ↔ (P ⊎ Q) → N ↔ (O ⊎ R)
came_both h k r = grind arith

pub came_same : {O N P Q : Type 0} → N ↔ (O ⊎ P) → P ↔ Q → N ↔ (O ⊎ Q)
came_same h s = grind arith

pub adds_none : (kind : ℕ × ℕ → Type 0) (list : List (ℕ × ℕ)) → ((x : ℕ × ℕ) → kind x → ⊥) → AddsPairs kind list list
adds_none kind list nothing = record { each = λ x. (inl, ⊎_elim (λ h. h) (λ k. absurd (nothing x k))) }

pub adds_append : (p q : ℕ × ℕ → Type 0) (a b c : List (ℕ × ℕ)) → AddsPairs p a b → AddsPairs q b c
    → AddsPairs (λ x. p x ⊎ q x) a c
adds_append p q a b c h k = record { each = λ x. came_both (h.each x) (k.each x) (λ r. r, λ r. r) }

pub adds_same : (p q : ℕ × ℕ → Type 0) (a b : List (ℕ × ℕ)) → ((x : ℕ × ℕ) → p x ↔ q x) → AddsPairs p a b
    → AddsPairs q a b
adds_same p q a b s h = record { each = λ x. came_same (h.each x) (s x) }

-- what comes second, or what comes first
pub adds_swapped : (p q : ℕ × ℕ → Type 0) (a b c : List (ℕ × ℕ)) → AddsPairs p a b → AddsPairs q b c
    → AddsPairs (λ x. q x ⊎ p x) a c
adds_swapped p q a b c h k =
    adds_same _ _ a c (λ x. (⊎_elim inr inl, ⊎_elim inr inl)) (adds_append p q a b c h k)

-- the pair is asked at one of the places below this one
abbrev pub AtOneBelow : ℕ → (ℕ → ℕ × ℕ → Type 0) → ℕ × ℕ → Type 0
AtOneBelow n kind x = (k : ℕ) × (k < n) × kind k x

pub below_more : (kind : ℕ → ℕ × ℕ → Type 0) (here : ℕ × ℕ → Type 0) (n : ℕ) (a b c : List (ℕ × ℕ))
    → ((x : ℕ × ℕ) → here x ↔ kind n x)
    → AddsPairs (AtOneBelow n kind) a b → AddsPairs here b c → AddsPairs (AtOneBelow (n + 1) kind) a c
below_more kind here n a b c is h k =
    adds_same _ (AtOneBelow (n + 1) kind) a c (λ x. (⊎_elim (earlier x) (now x), later x)) (adds_append _ _ a b c h k)
  where
    earlier : (x : ℕ × ℕ) → AtOneBelow n kind x → AtOneBelow (n + 1) kind x
    earlier x p = (p.0, (let l = p.1 in omega arith), p.2)

    now : (x : ℕ × ℕ) → here x → AtOneBelow (n + 1) kind x
    now x p = (n, omega arith, (is x).0 p)

    later : (x : ℕ × ℕ) → AtOneBelow (n + 1) kind x → AtOneBelow n kind x ⊎ here x
    later x p = grind (arith, cases_lt)

pub below_all : (kind : ℕ → ℕ × ℕ → Type 0) (n : ℕ) (a b : List (ℕ × ℕ)) → ((k : ℕ) (x : ℕ × ℕ) → kind k x → k < n)
    → AddsPairs (AtOneBelow n kind) a b → AddsPairs (AtOne kind) a b
below_all kind n a b within h =
    adds_same (AtOneBelow n kind) (AtOne kind) a b (λ x. (λ p. (p.0, p.2), λ p. (p.0, within p.0 x p.1, p.1))) h
