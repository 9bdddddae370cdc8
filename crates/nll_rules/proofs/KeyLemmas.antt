-- Equal keys of what is known, and what is there once an entry is inserted.
use Rattle.std.proofs.Common.{◌≡◌, ◌∷◌, ◌⊎◌, ℕ, List, [], Bool, Bor, true, false, refl, ap, sym, arith, inl, inr, ⊎_elim, Option, Some, None, Contains}
use Rattle.std.specs.Global.{Vec}
use Rattle.std.specs.Map.{lookup}
use Rattle.std.specs.Prelude.{◌==◌, ◌&&◌, nat_eq, if◌then◌else◌, IfSome, option_copied}
use Rattle.std.specs.Cmp.Lexicographic.{pointwise}
use Rattle.std.proofs.lemmas.Bool.{eqb-true}
use Rattle.std.proofs.lemmas.Bool.Decides.{Decides-eqb}
use Rattle.std.proofs.lemmas.List.Elements.{Contains-append_cases, Contains-append_left, Contains-append_right, Contains-push_cases}
use Rattle.std.proofs.lemmas.Map.Entries.{place_from_lookup}
use Rattle.std.proofs.lemmas.Map.Views.{Contains-from_lookup}
use Rattle.std.proofs.lemmas.Option.{get_or_from_slice_get, slice_get_within}
use Rattle.std.proofs.lemmas.Slice.Eq.{slice_eq-Decides}
use Rattle.indexmap.specs.IndexMap.{insert_entry}
use Rattle.nll_problem.proofs.FactLemmas.{and_true}
use Rattle.nll_rules.specs.Knowing.{IsAmongUses}
use Rattle.nll_rules.specs.contracts.fields.FieldUsePartialEq.TheImpl as derived_use
use Rattle.nll_rules.specs.contracts.meetings.MeetingPartialEq.TheImpl as derived_meeting
use Rattle.nll_rules.specs.contracts.type_row.TypeRowPartialEq.TheImpl as derived_row
use Rattle.nll_rules.specs.declared.fields.FieldUse.{FieldUse}
use Rattle.nll_rules.specs.declared.meetings.Meeting.{Meeting}
use Rattle.nll_rules.specs.declared.type_row.TypeRow.{TypeRow}

-- ---- uses of fields

-- equal uses have one shape, one place and one row
pub same_use : (x y : FieldUse) → (derived_use.eq-value).it x y ≡ true
    → (x.shape ≡ y.shape) × (x.place ≡ y.place) × (x.row.items ≡ y.row.items)
same_use x y h =
    let e = and_true (x.shape == y.shape) ((x.place == y.place) && pointwise nat_eq x.row.items y.row.items) h in
    let f = and_true (x.place == y.place) (pointwise nat_eq x.row.items y.row.items) e.1 in
    (eqb-true x.shape y.shape e.0, eqb-true x.place y.place f.0, items_from x.row.items y.row.items f.1)
  where
    items_from : (xs ys : List ℕ) → pointwise nat_eq xs ys ≡ true → xs ≡ ys
    items_from xs ys e =
        (slice_eq-Decides {E = nat_eq} (λ a b. Decides-eqb a b) xs ys (pointwise nat_eq xs ys) refl).0 e

pub among_uses : (es : List (FieldUse × TypeRow)) (x : FieldUse) (o : Option TypeRow)
    → o ≡ lookup ((derived_use.eq-value).it x) es → IfSome o (IsAmongUses es x)
among_uses es x None e = tt
among_uses es x (Some c) e =
    let p = place_from_lookup ((derived_use.eq-value).it x) es c (sym e) in
    let s = same_use x p.1 p.3 in (
      p.1,
      (p.0, slice_get_within es p.0 (p.1, c) p.2, get_or_from_slice_get es p.0 (p.1, c) (p.1, c) p.2),
      sym s.0,
      sym s.1,
      sym s.2,
    )

-- ---- meetings

abbrev row : ℕ → ℕ → ℕ → TypeRow
row s f n = record { shape = s; first = f; count = n }

abbrev same_row : TypeRow → TypeRow → Bool
same_row = (derived_row.eq-value).it

one_row : (x y : TypeRow) → same_row x y ≡ true → x ≡ y
one_row x y h = grind (arith, and_true, eqb-true)

abbrev meeting : TypeRow → TypeRow → Meeting
meeting a b = record { one = a; other = b }

-- equal meetings are one
pub same_meeting : (x y : Meeting) → (derived_meeting.eq-value).it x y ≡ true → x ≡ y
same_meeting x y h = grind (arith, and_true, one_row)

pub found_meeting : (es : List (Meeting × Vec (ℕ × ℕ))) (x : Meeting) (o : Option (Bor (Vec (ℕ × ℕ))))
    → option_copied o ≡ lookup ((derived_meeting.eq-value).it x) es → IfSome o (λ v. Contains es (x, v.now))
found_meeting es x None e = tt
found_meeting es x (Some v) e = Contains-from_lookup same_meeting x v.now es (sym e)

-- ---- entries that are inserted

module _ {K V : Type 0} (same : K → K → Bool) (k : K) (v : V) where
  -- the entry has this value and this key or an equal one
  abbrev pub IsInserted : K × V → Type 0
  IsInserted x = ((k ≡ x.0) ⊎ (same k x.0 ≡ true)) × (v ≡ x.1)

  -- what is there once an entry is inserted was there before, or is that entry
  pub inserted_entry : (es : List (K × V)) (x : K × V) → Contains (insert_entry same es k v) x
      → Contains es x ⊎ IsInserted x
  inserted_entry [] x h = ⊎_elim inl (λ s. inr (inl (ap (λ y. y.0) s), ap (λ y. y.1) s))
      (Contains-push_cases [] (k, v) x h)
  inserted_entry (e ∷ es) x h = by (same k e.0) refl (inserted_entry es x) h
    where
      by : (b : Bool) → same k e.0 ≡ b → (Contains (insert_entry same es k v) x → Contains es x ⊎ IsInserted x)
          → Contains (if b then (e.0, v) ∷ es else e ∷ insert_entry same es k v) x → Contains (e ∷ es) x ⊎ IsInserted x
      by true is later h = grind arith
      by false is later h = ⊎_elim
          (λ c. inl (Contains-append_left (e ∷ []) es x c))
          (λ c. ⊎_elim (λ d. inl (Contains-append_right (e ∷ []) es x d)) inr (later c))
          (Contains-append_cases (e ∷ []) (insert_entry same es k v) x h)
