-- What is read of a file.
use Rattle.std.proofs.Common.{◌≡◌, ◌∙◌, ℕ, List, [], ◌++◌, Option, None, Some, IfSome, take, ap, subst, option_map}
use Rattle.std.specs.Io.Take.{take_inner, take_limit, take_remaining}
use Rattle.std.specs.declared.io.traits.Take.{Take}

known_up : (known : Option (List ℕ)) (limit : ℕ) (old new : List ℕ) → old ≡ []
    → IfSome (option_map (take limit) known) (λ xs. new ≡ old ++ xs) → IfSome known (λ bytes. new ≡ take limit bytes)
known_up None limit old new empty h = tt
known_up (Some bytes) limit old new empty h = h ∙ ap (λ xs. xs ++ take limit bytes) empty

-- what is read to the end through a limit
pub read_up : {R : Type 0} (remaining : R → Option (List ℕ)) (t : Take R) (file : R) (limit : ℕ) (old new : List ℕ)
    → take_limit t ≡ limit → take_inner t ≡ file → old ≡ []
    → IfSome (take_remaining remaining t) (λ xs. new ≡ old ++ xs)
    → IfSome (remaining file) (λ bytes. new ≡ take limit bytes)
read_up remaining t file limit old new limited inner empty h =
    known_up (remaining file) limit old new empty
    (subst (λ f. IfSome (option_map (take limit) (remaining f)) (λ xs. new ≡ old ++ xs)) inner
    (subst (λ n. IfSome (option_map (take n) (remaining (take_inner t))) (λ xs. new ≡ old ++ xs)) limited h))
