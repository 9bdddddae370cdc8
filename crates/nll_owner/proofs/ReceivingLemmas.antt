-- What an owner has received after growths of another one, and what it has then.
use Rattle.std.proofs.Common.{◌≡◌, ⊎_elim, ℕ, ◌+◌, ◌-◌, ◌≤◌, List, ◌++◌, take, drop, Contains, sym, ap, ◌∙◌, subst, inl, inr, arith, append_assoc}
use Rattle.std.proofs.lemmas.Bool.{cases_lt}
use Rattle.std.proofs.lemmas.List.{get_or-set_same, length-set, set-set, set_past, take-append-drop, take-take, drop-take}
use Rattle.std.proofs.lemmas.List.Elements.{Contains-append_left, Contains-append_right, Contains-append_cases}
use Rattle.nll_mail.specs.declared.growth.Growth.{Growth}
use Rattle.nll_owner.specs.Logs.{IsTold}
use Rattle.nll_owner.specs.Owner.{Owner, Has, with_growths}
use Rattle.nll_owner.specs.Keeping.{HasAllBeside}
use Rattle.nll_owner.proofs.RegionRunLemmas.{contains_dropped}

-- ---- what the owner has

pub beside_some : (old mid new : Owner) (gs hs : List Growth) → HasAllBeside gs old mid → HasAllBeside hs mid new
    → HasAllBeside (gs ++ hs) old new
beside_some old mid new gs hs all some = record {
  here = λ r e k. ⊎_elim
      (λ (before : Contains gs k.0). some.kept r e (all.here r e (k.0, before, k.2, k.3)))
      (λ (then : Contains hs k.0). some.here r e (k.0, then, k.2, k.3))
      (Contains-append_cases gs hs k.0 k.1);
  kept = λ r e h. some.kept r e (all.kept r e h);
  cause = λ r e h. ⊎_elim
      (λ (before : Has mid r e). ⊎_elim inl
      (λ (k : IsTold gs r e). inr (k.0, Contains-append_left gs hs k.0 k.1, k.2, k.3))
      (all.cause r e before))
      (λ (k : IsTold hs r e). inr (k.0, Contains-append_right gs hs k.0 k.1, k.2, k.3))
      (some.cause r e h);
}

-- ---- growths up to a place, and some more

-- the growths from one place up to another
abbrev pub between : List Growth → ℕ → ℕ → List Growth
between gs place end = take (end - place) (drop place gs)

pub take_on : (gs : List Growth) (place end : ℕ) → place ≤ end → take end gs ≡ take place gs ++ between gs place end
take_on gs place end low =
    let is : place + (end - place) ≡ end = omega (arith, low) in
    sym (take-append-drop place (take end gs))
    ∙ (ap (λ xs. xs ++ drop place (take end gs)) (take-take place end gs low)
    ∙ ap (λ xs. take place gs ++ xs)
    (ap (λ n. drop place (take n gs)) (sym is) ∙ drop-take place (end - place) gs))

pub in_between : (gs : List Growth) (place end : ℕ) (g : Growth) → Contains (between gs place end) g → Contains gs g
in_between gs place end g h =
    contains_dropped place gs g
    (subst (λ xs. Contains xs g) (take-append-drop (end - place) (drop place gs))
    (Contains-append_left (between gs place end) (drop (end - place) (drop place gs)) g h))

pub with_some : (lists : List (List Growth)) (j : ℕ) (gs hs : List Growth)
    → with_growths (with_growths lists j gs) j hs ≡ with_growths lists j (gs ++ hs)
with_some lists j gs hs = grind (arith, cases_lt, append_assoc, get_or-set_same, length-set, set-set, set_past)

-- ---- what else changed

-- the owner has the lists and the clock of another one
abbrev like : Owner → Owner → Owner
like old new = record old { received = new.received; clock = new.clock }

-- the lists and the clock alone, in two steps
pub received_on : (old mid new : Owner) (lists : List (List Growth)) (time : ℕ) → mid ≡ like old mid
    → new ≡ record mid { received = lists; clock = time } → new ≡ like old new
received_on old mid new lists time first then =
    then ∙ (ap (λ (o : Owner). record o { received = lists; clock = time }) first ∙ ap (like old) (sym then))
