-- What is known of a body stays known, and is of the body.
use Rattle.std.proofs.Common.{◌≡◌, ℕ, true, List, append_assoc, map, get_or, sym, ap, ◌∙◌, subst, arith, Some, None, Option}
use Rattle.std.specs.Prelude.{All, IfSome, slice_get}
use Rattle.std.proofs.lemmas.Option.{get_or_from_slice_get, slice_get_within, slice_get-get_or}
use Rattle.nll_types.specs.Declarations.{structs_of}
use Rattle.nll_types.specs.Rows.{tree_at}
use Rattle.nll_types.specs.Types.{TypeTree}
use Rattle.nll_types.specs.declared.node.Node.{Node}
use Rattle.nll_types.specs.declared.typed.Typed.{Typed}
use Rattle.nll_types.proofs.ShapingLemmas.{extends_then}
use Rattle.nll_body.specs.Flat.{statement_in, statements_in}
use Rattle.nll_body.specs.Meant.{HasRows, meant_by}
use Rattle.nll_body.specs.Statements.{Statement}
use Rattle.nll_body.specs.Typing.{types_agree}
use Rattle.nll_body.specs.declared.flat.Stmt.{Stmt}
use Rattle.nll_body.specs.Bodies.{BodyText, StandsAt}
use Rattle.nll_body.specs.Sound.{IsSoundBody}
use Rattle.nll_body.specs.Typed.{IsTypedBody}
use Rattle.nll_body.specs.declared.typed.TypedBody.{TypedBody}
use Rattle.nll_rules.specs.Knowing.{IsAtHand, IsAvailable, IsOfBody, IsSameBody, IsTypeOfRow, KnownTypes, Learns, known_row}
use Rattle.nll_rules.specs.TypeRows.{IsWholeRow}
use Rattle.nll_rules.specs.declared.type_row.TypeRow.{TypeRow}
use Rattle.nll_rules.proofs.RowListLemmas.{row_grown}
use Rattle.nll_rules.proofs.StatementLemmas.{get_mapped}

-- ---- what stays

pub learns_then : (a b c : KnownTypes) → Learns a b → Learns b c → Learns a c
learns_then a b c x y = grind (arith, extends_then, append_assoc)

-- a row that is there stays
pub row_at_stays : (a b : KnownTypes) (c : TypeRow) → Learns a b → IsWholeRow (known_row a c) c
    → known_row b c ≡ known_row a c
row_at_stays a b c l whole = grind (arith, row_grown)

pub known_stays : (a b : KnownTypes) (c : TypeRow) → Learns a b → IsAvailable a c → IsAvailable b c
known_stays a b c l h = grind (arith, row_at_stays)

-- a type at hand keeps its shape and its row
pub row_stays : (a b : KnownTypes) (t : TypeTree) (c : TypeRow) → Learns a b → IsTypeOfRow a t c → IsTypeOfRow b t c
row_stays a b t c l h = grind (arith, row_at_stays)

pub row_in_stays : (a b : KnownTypes) (o : Option TypeTree) (c : Option TypeRow) → Learns a b → IsAtHand a o c
    → IsAtHand b o c
row_in_stays a b None c l h = h
row_in_stays a b (Some t) None l h = absurd h
row_in_stays a b (Some t) (Some c) l h = row_stays a b t c l h

-- the shape and the row of a type at hand are there
pub type_known : (k : KnownTypes) (t : TypeTree) (c : TypeRow) → IsTypeOfRow k t c → IsAvailable k c
type_known k t c h = grind arith

pub known_at_hand : (k : KnownTypes) (o : Option TypeTree) (c : TypeRow) → IsAtHand k o (Some c) → IsAvailable k c
known_at_hand k None c h = absurd (let e : Some c ≡ None = h in cc)
known_at_hand k (Some t) c h = type_known k t c h

-- where there is a row
pub known_later : (a b : KnownTypes) (o : Option TypeRow) → Learns a b → IfSome o (IsAvailable a)
    → IfSome o (IsAvailable b)
known_later a b None l h = h
known_later a b (Some c) l h = known_stays a b c l h

pub at_hand_known : (k : KnownTypes) (o : Option TypeTree) (c : Option TypeRow) → IsAtHand k o c
    → IfSome c (IsAvailable k)
at_hand_known k o None h = tt
at_hand_known k o (Some c) h = known_at_hand k o c h

-- ---- what is of a body

pub learns_same : (a b : KnownTypes) → Learns a b → IsSameBody a b
learns_same a b l = grind arith

pub of_body_later : (body : BodyText) (a b : KnownTypes) → IsSameBody a b → IsOfBody body a → IsOfBody body b
of_body_later body a b l h = record {
  structs = l.structs ∙ h.structs;
  variables = l.variables ∙ h.variables;
  points = rw (l.shapes, l.regions, l.lists) h.points;
  rows = rw (l.shapes, l.regions, l.lists) h.rows;
  agree = rw (l.structs, l.variables, l.shapes, l.regions, l.lists) h.agree;
}

-- what holds of each holds of the one at a place
pub at_place : {X : Type 0} (P : X → Type 0) (xs : List X) (k : ℕ) (x : X) → All P xs → slice_get xs k ≡ Some x → P x
at_place P xs k x h e = subst P (get_or_from_slice_get xs k x x e) (h k x (slice_get_within xs k x e))

module _ (body : BodyText) (k : KnownTypes) (h : IsOfBody body k) where
  abbrev meant : Statement ℕ Typed → Statement ℕ TypeTree
  meant i = meant_by k.shapes k.regions i

  there : (p : ℕ) (s : Stmt) → slice_get k.lists.points p ≡ Some s
      → slice_get (statements_in k.lists) p ≡ Some (statement_in k.lists s)
  there p s e = get_mapped (statement_in k.lists) k.lists.points p s e

  -- the statement that is known stands at the point
  pub stands : (p : ℕ) (s : Stmt) → slice_get k.lists.points p ≡ Some s
      → StandsAt body p (meant_by k.shapes k.regions (statement_in k.lists s))
  stands p s e = ap (λ (is : List (Statement ℕ TypeTree)). slice_get is p) (sym h.points)
      ∙ get_mapped meant (statements_in k.lists) p (statement_in k.lists s) (there p s e)

  -- each type that is written in it has its row
  pub stands_rows : (p : ℕ) (s : Stmt) → slice_get k.lists.points p ≡ Some s
      → HasRows k.shapes k.regions (statement_in k.lists s)
  stands_rows p s e =
      at_place (HasRows k.shapes k.regions) (statements_in k.lists) p (statement_in k.lists s) h.rows (there p s e)

  -- and its types agree
  pub stands_agree : (p : ℕ) (s : Stmt) → slice_get k.lists.points p ≡ Some s
      → types_agree k.structs k.variables (meant_by k.shapes k.regions (statement_in k.lists s)) ≡ true
  stands_agree p s e =
      at_place (λ i. types_agree k.structs k.variables (meant i) ≡ true) (statements_in k.lists) p
      (statement_in k.lists s) h.agree (there p s e)

-- ---- what is known at first

agree_each : (body : BodyText) (ns : List Node) (regions : List ℕ) (is : List (Statement ℕ Typed)) → IsSoundBody body
    → map (meant_by ns regions) is ≡ body.points
    → All (λ i. types_agree body.structs body.variables (meant_by ns regions i) ≡ true) is
agree_each body ns regions is sound e k d l =
    let here = get_mapped (meant_by ns regions) is k (get_or is k d) (slice_get-get_or is k d l) in
    sound.well_typed.agree k (meant_by ns regions (get_or is k d))
    (ap (λ (js : List (Statement ℕ TypeTree)). slice_get js k) (sym e) ∙ here)

pub known_first : (body : BodyText) (t : TypedBody) (k : KnownTypes) → IsSoundBody body → IsTypedBody body t
    → k.structs ≡ structs_of t.types.now.table.structs → k.shapes ≡ t.types.now.table.shapes
    → k.regions ≡ t.types.now.regions.items → k.lists ≡ t.points.now
    → k.variables ≡ map (tree_at t.types.now.table.shapes t.types.now.regions.items) t.variables.now
    → IsOfBody body k
known_first body t k sound typed structs shapes regions lists variables = record {
  structs = structs ∙ typed.structs;
  variables = variables ∙ typed.variables;
  points = rw (shapes, regions, lists) typed.points;
  rows = rw (shapes, regions, lists) typed.rows.points;
  agree = rw (structs, typed.structs, variables, typed.variables, shapes, regions, lists)
      (agree_each body t.types.now.table.shapes t.types.now.regions.items (statements_in t.points.now) sound
      typed.points);
}
