-- A world after a step, and its first seats.
use Rattle.std.proofs.Common.{◌≡◌, Bool, ℕ, zero, suc, ◌+◌, ◌<◌, false, List, [], ◌∷◌, ◌++◌, length, replicate, take, get_or, slice_get, Some, refl, sym, ap, ◌∙◌, subst, ◌⊎◌, inl, inr, ⊎_elim, arith}
use Rattle.std.specs.Prelude.{Option, Result, Ok, Err, IfOk, OnErr, is_err}
use Rattle.std.proofs.Math.Seq.{take-suc}
use Rattle.std.proofs.lemmas.Bool.{true≢false}
use Rattle.std.proofs.lemmas.Option.{slice_get_within}
use Rattle.nll_problem.specs.Problem.{Problem}
use Rattle.nll_cut.specs.Partition.{Cut}
use Rattle.nll_owner.specs.Owner.{Owner, first_owner}
use Rattle.fixpoint.specs.declared.error.PartError.{PartError}
use Rattle.nll_model.specs.declared.event.Event.{Event}
use Rattle.nll_model.specs.declared.outcome.Step.{Step}
use Rattle.nll_model.specs.declared.seat.Item.TheVariants.{Nothing}
use Rattle.nll_model.specs.State.{Seat, WorldState, empty_lane, first_seat}
use Rattle.nll_model.specs.Events.{Does, IsAnswerOf, AreSteps}
use Rattle.nll_model.specs.Soundness.{IsLawful, IsOrderly}
use Rattle.nll_model.proofs.StepsLemmas.{step_sound}
use Rattle.nll_model.proofs.OrderlyLemmas.{sound_is_orderly}
use Rattle.nll_model.proofs.LawfulLemmas.{lawful}

-- a step leads to an orderly state, and to a lawful one where it isn't refused
pub after_step : (q : Problem) (c : Cut) (w new : WorldState) (e : Event) (r : Result Step PartError) (broken : Bool)
    → IfOk r (λ answer. Does w e answer new) → OnErr r ((p : Problem) (d : Cut) → IsOrderly p d w → IsOrderly p d new)
    → IsLawful q c w → IsOrderly q c w
    → broken ≡ is_err r → IsOrderly q c new × (broken ≡ false → IsLawful q c new)
after_step q c w new e (Ok answer) broken does keeps old orderly is =
    let sound = step_sound q c w new e answer old.sound does in
    (sound_is_orderly q c new sound, λ good. lawful q c new sound old.problem old.cut)
after_step q c w new e (Err error) broken does keeps old orderly is =
    (keeps q c orderly, λ good. absurd (true≢false (sym is ∙ good)))

pub is_first : (q : Problem) (c : Cut) (i : ℕ) (s : Seat) (o : Owner) (n : ℕ)
    → s ≡ record { owner = o; item = Nothing; left = false; lanes = replicate n empty_lane } → o ≡ first_owner q c i
    → n ≡ c.owners → s ≡ first_seat q c i
is_first q c i s o n is owner count = is
    ∙ (ap (λ (p : Owner). record { owner = p; item = Nothing; left = false; lanes = replicate n empty_lane }) owner
    ∙ ap (λ (m : ℕ). record { owner = first_owner q c i; item = Nothing; left = false; lanes = replicate m empty_lane })
    count)

-- the seats are those of owners that have done nothing yet
abbrev pub AreFirst : Problem → Cut → List Seat → Type 0
AreFirst q c seats = (i : ℕ) (s : Seat) → slice_get seats i ≡ Some s → s ≡ first_seat q c i

get_push : {X : Type 0} (xs : List X) (x : X) (k : ℕ) (y : X) → slice_get (xs ++ x ∷ []) k ≡ Some y
    → (slice_get xs k ≡ Some y) ⊎ ((k ≡ length xs) × (x ≡ y))
get_push [] x zero y h = inr (refl, cc h)
get_push [] x (suc k) y h = absurd (let w = slice_get_within [] k y h in omega arith)
get_push (z ∷ zs) x zero y h = inl h
get_push (z ∷ zs) x (suc k) y h =
    ⊎_elim inl (λ (p : (k ≡ length zs) × (x ≡ y)). inr (ap suc p.0, p.1)) (get_push zs x k y h)

pub first_push : (q : Problem) (c : Cut) (seats : List Seat) (s : Seat) → AreFirst q c seats
    → s ≡ first_seat q c (length seats) → AreFirst q c (seats ++ s ∷ [])
first_push q c seats s first is k t h = ⊎_elim
    (λ old. first k t old)
    (λ (p : (k ≡ length seats) × (s ≡ t)). sym p.1 ∙ (is ∙ ap (first_seat q c) (sym p.0)))
    (get_push seats s k t h)

-- a run goes on by one event
pub steps_push : (w now next : WorldState) (events : List Event) (answers : List (Option Step)) (e : Event)
    (a : Option Step)
    → AreSteps w events answers now → IsAnswerOf now e a next → AreSteps w (events ++ e ∷ []) (answers ++ a ∷ []) next
steps_push w now next [] [] e a h step = (next, subst (λ x. IsAnswerOf x e a next) h step, refl)
steps_push w now next [] (b ∷ bs) e a h step = absurd h
steps_push w now next (f ∷ fs) [] e a h step = absurd h
steps_push w now next (f ∷ fs) (b ∷ bs) e a h step = (h.0, h.1, steps_push h.0 now next fs bs e a h.2 step)

pub take_next : {X : Type 0} (xs : List X) (n : ℕ) (x : X) → n < length xs → get_or xs n x ≡ x
    → take (n + 1) xs ≡ take n xs ++ x ∷ []
take_next xs n x l is = (let e : n + 1 ≡ suc n = omega arith in ap (λ k. take k xs) e)
    ∙ (take-suc xs n x l ∙ ap (λ y. take n xs ++ y ∷ []) is)
