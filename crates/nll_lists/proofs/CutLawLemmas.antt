-- A cut file has one meaning or one fault.
use Rattle.std.proofs.Common.{◌≡◌, ◌≢◌, ◌⊎◌, inl, ℕ, ◌<◌, Bool, List, ◌∷◌, map, Some, None, if◌then◌else◌, true, false, ap, arith}
use Rattle.std.specs.Prelude.{nat_lt}
use Rattle.std.specs.List.{AllByRecursion}
use Rattle.std.specs.Str.Parse.{digits_value}
use Rattle.std.proofs.lemmas.Bool.{lt-ltb, le-ltb}
use Rattle.nll_text.specs.Tokens.{Token, word}
use Rattle.nll_format.specs.Parts.{IsSmall, Spells, one_number, token_of}
use Rattle.nll_format.specs.Text.{IsFaultOfText}
use Rattle.nll_format.specs.declared.error.TextKind.{TextKind}
use Rattle.nll_format.specs.declared.error.TextKind.TheVariants.{Range, End}
use Rattle.nll_format.proofs.ListingLemmas as listing
use Rattle.nll_format.proofs.PartLemmas as parts
use Rattle.nll_format.proofs.PartLemmas.{printed}
use Rattle.nll_format.proofs.TextLaws as laws
use Rattle.nll_lists.specs.CutText.{cut, owners, owner_fault, MeansCut}

-- a number above 65,535 has a fault, the others have none
pub above : (n : ℕ) → 65535 < n → owner_fault n ≡ Some Range
above n h = ap (λ (b : Bool). if b then Some Range else None) (lt-ltb 65535 n h)

pub within : (n : ℕ) → n < 65536 → owner_fault n ≡ None
within n h = ap (λ (b : Bool). if b then Some Range else None) (le-ltb 65535 n (omega (arith, h)))

-- the number that tokens spell
unspelled : List Token → ℕ
unspelled (word w ∷ ts) = digits_value 10 w
unspelled _ = 0

unspelled_spelled : (n : ℕ) → AllByRecursion IsSmall (one_number n) → unspelled (map token_of (one_number n)) ≡ n
unfolding unspelled
unspelled_spelled n small = printed n small.0

one_form : (line : List ℕ) (n m : ℕ) → Spells line (one_number n) → Spells line (one_number m) → n ≡ m
one_form = parts.one_form ℕ one_number unspelled unspelled_spelled

form_or_none : (line : List ℕ) → ((n : ℕ) × Spells line (one_number n)) ⊎ ((n : ℕ) → Spells line (one_number n) → ⊥)
form_or_none = parts.form_or_none ℕ one_number unspelled unspelled_spelled

pub one_fault_lem : (text : List ℕ) (l m : ℕ) (j k : TextKind) → IsFaultOfText cut text l j → IsFaultOfText cut text m k
    → (l ≡ m) × (j ≡ k)
one_fault_lem = laws.one_fault_lem cut one_form

pub not_both_lem : (text list : List ℕ) (l : ℕ) (k : TextKind) → MeansCut text list → IsFaultOfText cut text l k → ⊥
not_both_lem = laws.not_both_lem cut one_form

pub one_meaning_lem : (text list other : List ℕ) → MeansCut text list → MeansCut text other → list ≡ other
one_meaning_lem = laws.one_forms_lem cut one_form

pub some_meaning_or_fault_lem : (text : List ℕ)
    → ((list : List ℕ) × MeansCut text list) ⊎ ((line : ℕ) × (kind : TextKind) × IsFaultOfText cut text line kind)
some_meaning_or_fault_lem = laws.text_or_fault_lem cut form_or_none (λ entries. inl tt)

-- no number has a fault at the end
never_end : (n : ℕ) → owner_fault n ≡ Some End → ⊥
never_end n = go (nat_lt 65535 n)
  where
    go : (b : Bool) → (if b then Some Range else None) ≡ Some End → ⊥
    go true e = cc
    go false e = cc

pub never_at_end_lem : (text : List ℕ) (line : ℕ) (kind : TextKind) → IsFaultOfText cut text line kind → kind ≢ End
never_at_end_lem = listing.no_end_fault owners never_end
