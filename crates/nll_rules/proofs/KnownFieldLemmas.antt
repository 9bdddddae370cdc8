-- What is known of fields is right.
use Rattle.std.proofs.Common.{◌≡◌, ℕ, ◌<◌, Bool, Bor, true, List, [], ◌++◌, append-nil, length, Contains, refl, sym, ap, ◌∙◌, subst, arith, Option, Some, None, ⊎_elim}
use Rattle.std.specs.Prelude.{IfSome, option_copied}
use Rattle.std.specs.Global.{Vec}
use Rattle.std.specs.Map.{lookup}
use Rattle.std.proofs.lemmas.Bool.{eqb-true}
use Rattle.std.proofs.lemmas.Map.Views.{Contains-from_lookup}
use Rattle.indexmap.specs.IndexMap.{insert_entry}
use Rattle.nll_problem.proofs.FactLemmas.{and_true}
use Rattle.nll_types.specs.Structs.{Struct, field_type}
use Rattle.nll_types.specs.Table.{Extends}
use Rattle.nll_types.specs.Types.{TypeTree, named}
use Rattle.nll_types.specs.declared.node.Node.{Node}
use Rattle.nll_rules.specs.Knowing.{AreFields, AreMet, AreUses, IsFieldIn, IsRightMeeting, IsRightField, IsUsedField, KnownTypes, Learns}
use Rattle.nll_rules.specs.TypeRows.{IsRowIn}
use Rattle.nll_rules.specs.contracts.fields.FieldUsePartialEq.TheImpl as derived_use
use Rattle.nll_rules.specs.contracts.meetings.MeetingPartialEq.TheImpl as derived_meeting
use Rattle.nll_rules.specs.contracts.fields.FieldKeyPartialEq.TheImpl as derived
use Rattle.nll_rules.specs.declared.fields.FieldKey.{FieldKey}
use Rattle.nll_rules.specs.declared.fields.FieldRow.{FieldRow}
use Rattle.nll_rules.specs.declared.fields.FieldUse.{FieldUse}
use Rattle.nll_rules.specs.declared.meetings.Meeting.{Meeting}
use Rattle.nll_rules.specs.declared.type_row.TypeRow.{TypeRow}
use Rattle.nll_rules.proofs.KeyLemmas.{IsInserted, inserted_entry, same_meeting, same_use}
use Rattle.nll_rules.proofs.RowListLemmas.{row_grown}

abbrev same : FieldKey → FieldKey → Bool
same = (derived.eq-value).it

same_key : (x y : FieldKey) → same x y ≡ true → x ≡ y
same_key x y h = grind (arith, and_true, eqb-true)

pub found_entry : (es : List (FieldKey × FieldRow)) (x : FieldKey) (o : Option (Bor FieldRow))
    → option_copied o ≡ lookup (same x) es → IfSome o (λ f. Contains es (x, f.now))
found_entry es x None e = tt
found_entry es x (Some f) e = Contains-from_lookup same_key x f.now es (sym e)

-- ---- what is known

-- a field keeps its shape and its row where there are more shapes
field_later : (old new : List Node) (t : TypeTree) (o : Option TypeTree) (p : Option FieldRow) → Extends old new
    → IsFieldIn old t o p → IsFieldIn new t o p
field_later old new t None p x h = h
field_later old new t (Some u) None x h = absurd h
field_later old new t (Some u) (Some f) x h = grind arith

module _ (structs : List Struct) where
  pub no_fields : (ns : List Node) → AreFields structs ns []
  no_fields ns = record { each = λ x f c. absurd (let l = c.1 in omega arith) }

  pub fields_later : (old new : List Node) (fields : List (FieldKey × FieldRow)) → Extends old new
      → AreFields structs old fields → AreFields structs new fields
  fields_later old new fields e right = record {
    each = λ x f c.
        let h = right.each x f c in (
          (let longer = e.longer in let within = h.0 in omega arith),
          λ s rs ts is. field_later old new (named s rs ts) (field_type structs s rs ts x.place) (Some f) e
              (h.1 s rs ts (is ∙ e.kept x.shape h.0)),
        );
  }

-- a field that was made is known
pub fields_more : (structs : List Struct) (ns : List Node) (old new : List (FieldKey × FieldRow)) (k : FieldKey)
    (v : FieldRow) → AreFields structs ns old → new ≡ insert_entry same old k v → IsRightField structs ns k v
    → AreFields structs ns new
fields_more structs ns old new k v right e is = record {
  each = λ x f c. ⊎_elim (right.each x f)
      (λ (s : IsInserted same k v (x, f)).
      let key : k ≡ x = ⊎_elim (λ q. q) (same_key k x) s.0 in
      subst (λ (y : FieldKey). IsRightField structs ns y f) key
      (subst (λ (g : FieldRow). IsRightField structs ns k g) s.1 is))
      (inserted_entry same k v old (x, f) (subst (λ (es : List (FieldKey × FieldRow)). Contains es (x, f)) e c));
}

-- ---- uses of fields

-- a type at hand stays where there are more shapes and more rows
row_kept : (old new : List Node) (body made more : List ℕ) (o : Option TypeTree) (c : Option TypeRow) → Extends old new
    → IsRowIn old body made o c → IsRowIn new body (made ++ more) o c
row_kept old new body made more None c e h = h
row_kept old new body made more (Some t) None e h = absurd h
row_kept old new body made more (Some t) (Some c) e h = grind (arith, row_grown)

pub no_uses : (structs : List Struct) (ns : List Node) (body made : List ℕ) → AreUses structs ns body made []
no_uses structs ns body made = record { each = λ x f c. absurd (let l = c.1 in omega arith) }

uses_later : (structs : List Struct) (old new : List Node) (body made more : List ℕ)
    (uses : List (FieldUse × TypeRow)) → Extends old new → AreUses structs old body made uses
    → AreUses structs new body (made ++ more) uses
uses_later structs old new body made more uses e right = record {
  each = λ x c at.
      let h = right.each x c at in (
        (let longer = e.longer in let within = h.0 in omega arith),
        λ s rs ts is row. row_kept old new body made more _ (Some c) e
            (h.1 s rs ts (is ∙ e.kept x.shape h.0) row),
      );
}

abbrev is_use : FieldUse → FieldUse → Bool
is_use = (derived_use.eq-value).it

-- the type of a field of a use that was made is known
pub uses_more : (structs : List Struct) (ns : List Node) (body made : List ℕ) (old new : List (FieldUse × TypeRow))
    (k : FieldUse) (v : TypeRow) → AreUses structs ns body made old → new ≡ insert_entry is_use old k v
    → k.shape < length ns → IsUsedField structs ns body made k.shape k.place k.row.items (Some v)
    → AreUses structs ns body made new
uses_more structs ns body made old new k v right e within is = record {
  each = λ x c at. ⊎_elim (right.each x c)
      (λ (s : IsInserted is_use k v (x, c)).
      let like : (k.shape ≡ x.shape) × (k.place ≡ x.place) × (k.row.items ≡ x.row.items) =
      ⊎_elim (λ q. (
        ap (λ (y : FieldUse). y.shape) q,
        ap (λ (y : FieldUse). y.place) q,
        ap (λ (y : FieldUse). y.row.items) q,
      )) (same_use k x) s.0 in
      subst (λ (w : TypeRow). (x.shape < length ns)
      × IsUsedField structs ns body made x.shape x.place x.row.items (Some w)) s.1 (
        omega (arith, like.0),
        rw (sym like.0, sym like.1, sym like.2) is,
      ))
      (inserted_entry is_use k v old (x, c) (subst (λ (es : List (FieldUse × TypeRow)). Contains es (x, c)) e at));
}

-- ---- types that met

pub none_met : (structs : List Struct) (ns : List Node) (body made : List ℕ) → AreMet structs ns body made []
none_met structs ns body made = record { each = λ x f c. absurd (let l = c.1 in omega arith) }

met_later : (structs : List Struct) (old new : List Node) (body made more : List ℕ)
    (asked : List (Meeting × Vec (ℕ × ℕ))) → Extends old new → AreMet structs old body made asked
    → AreMet structs new body (made ++ more) asked
met_later structs old new body made more asked e right = record {
  each = λ m v at.
      let h = right.each m v at in
      let one = row_grown body made more m.one h.one in
      let other = row_grown body made more m.other h.other in record {
        within = (let longer = e.longer in let within = h.within in omega arith);
        one = ap length one ∙ h.one;
        other = ap length other ∙ h.other;
        asks = λ x. rw (e.kept m.other.shape h.within, one, other) (h.asks x);
      };
}

abbrev is_meeting : Meeting → Meeting → Bool
is_meeting = (derived_meeting.eq-value).it

-- what two types ask is known
pub met_more : (structs : List Struct) (ns : List Node) (body made : List ℕ)
    (old new : List (Meeting × Vec (ℕ × ℕ))) (k : Meeting) (v : Vec (ℕ × ℕ)) → AreMet structs ns body made old
    → new ≡ insert_entry is_meeting old k v → IsRightMeeting structs ns body made k v.items
    → AreMet structs ns body made new
met_more structs ns body made old new k v right e is = record {
  each = λ x w at. ⊎_elim (right.each x w)
      (λ (s : IsInserted is_meeting k v (x, w)).
      let key : k ≡ x = ⊎_elim (λ q. q) (same_meeting k x) s.0 in
      subst (λ (y : Meeting). IsRightMeeting structs ns body made y w.items) key
      (subst (λ (u : Vec (ℕ × ℕ)). IsRightMeeting structs ns body made k u.items) s.1 is))
      (inserted_entry is_meeting k v old (x, w) (subst (λ (es : List (Meeting × Vec (ℕ × ℕ))). Contains es (x, w)) e
      at));
}

-- what is known stays right where there are more shapes and more rows
pub kept_later : (structs : List Struct) (old new : List Node) (body made later : List ℕ)
    (uses : List (FieldUse × TypeRow)) (asked : List (Meeting × Vec (ℕ × ℕ))) → Extends old new
    → (more : List ℕ) × (later ≡ made ++ more) → AreUses structs old body made uses → AreMet structs old body made asked
    → AreUses structs new body later uses × AreMet structs new body later asked
kept_later structs old new body made later uses asked e grown are met =
    grind (arith, uses_later, met_later)

pub same_shapes : (ns : List Node) → Extends ns ns
same_shapes ns = record { longer = omega arith; kept = λ i l. refl }

-- what is known of the body is the same where rows were made
pub learns_rows : (k : KnownTypes) (made more : List ℕ) → made ≡ k.made ++ more
    → Learns k (record k { made = made })
learns_rows k made more e = grind (arith, same_shapes)

pub learns_none : (k : KnownTypes) → Learns k k
learns_none k = learns_rows k k.made [] (sym (append-nil k.made))

-- the fourth of seven facts, anew
pub fourth_is : {A B C D E F G H : Type 0} → A × B × C × D × E × F × G → H → A × B × C × H × E × F × G
fourth_is k h = (k.0, k.1, k.2, h, k.4, k.5, k.6)
