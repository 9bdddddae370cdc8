-- A struct line with which nothing is wrong is taken.
use Rattle.std.proofs.Common.{◌≡◌, ◌+◌, ◌<◌, ◌≤◌, ◌^◌, ◌-◌, Bool, None, List, [], ◌∷◌, ◌++◌, length, map, refl, sym, ap, ◌∙◌, subst, arith, length-append}
use Rattle.std.specs.Prelude.{All}
use Rattle.std.proofs.lemmas.List.{length-map, map_push}
use Rattle.nll_problem.specs.Limits.{most_bytes}
use Rattle.nll_types.specs.Structs.{Struct, HasGoodFields}
use Rattle.nll_types.specs.Tables.{Tables}
use Rattle.nll_types.specs.Types.{TypeTree, tuple}
use Rattle.nll_types.specs.Views.{trees}
use Rattle.nll_types.specs.Declarations.{structs_of}
use Rattle.nll_types.specs.Declarations as kept
use Rattle.nll_types.specs.Rows.{HasRow, tree_at}
use Rattle.nll_types.specs.declared.node.Node.{Node}
use Rattle.nll_body.specs.Flat.{statements_in}
use Rattle.nll_body.specs.Meant.{HasRows, meant_by}
use Rattle.nll_types.specs.declared.structs.Declaration.{Declaration}
use Rattle.nll_mir_grammar.specs.WrittenTypes.{WrittenName, WrittenType, WrittenTypes}
use Rattle.nll_mir_grammar.specs.TypeTexts.{written}
use Rattle.nll_mir_grammar.specs.Lines.{parameter_of}
use Rattle.nll_mir_grammar.specs.MirForms.{WrittenParameter}
use Rattle.nll_mir_grammar.specs.Tuples.{IsTuple, parts}
use Rattle.nll_mir_grammar.specs.declared.line.StructText.{StructText}
use Rattle.nll_mir_text.specs.Naming.{Scope, all_meant, meant}
use Rattle.nll_mir_text.specs.declared.groups.Group.TheVariants.{Structs}
use Rattle.nll_mir_text.specs.MirSaid.{Said, scope_inside}
use Rattle.nll_mir_text.specs.StructLines.{is_region_parameter, regions_in, types_in, AreOwn, own_scope}
use Rattle.nll_mir_text.specs.MirSteps.{says, declared_struct}
use Rattle.nll_mir_text.specs.MirFaults.{first_fault}
use Rattle.nll_mir_text.specs.MirReading.{said_by, AreKinds, IsDue, IsTaken, struct_form}
use Rattle.nll_mir_text.specs.declared.own_names.OwnNames.{OwnNames}
use Rattle.nll_mir_text.specs.declared.reader.Reader.{Reader}
use Rattle.nll_mir_text.specs.declared.tables.StructNames.{StructNames}
use Rattle.nll_mir_text.proofs.OwnLemmas.{few_regions, own_scope_is}
use Rattle.nll_mir_text.proofs.StructLemmas.{IsFine, struct_fine, kinds_pushed, regions_declared, types_declared, good_fields}

-- what is said with other structs and shapes
abbrev said_with : Reader → List WrittenName → List (List Bool) → List Struct → List Node → Said
said_with r names kinds structs ns = record (said_by r) {
  reached = 5;
  scope = record (said_by r).scope { structs = names; kinds = kinds };
  structs = structs;
  variables = map (tree_at ns r.variables.types.regions.items) r.variables.typed.items;
  points = map (meant_by ns r.variables.types.regions.items) (statements_in r.points.statements);
}

-- the tree of resolved fields is a tuple of what they mean
pub fields_are : (s : Scope) (t : WrittenType) (tree : TypeTree) → IsTuple t → tree ≡ meant s t
    → tree ≡ tuple (all_meant s (parts t))
fields_are s t tree is same = same ∙ ap (meant s) is

-- the numbers of the regions that fields may name have room in 32 bits
pub few_own : (r : Reader) (own : OwnNames) (text : StructText) → IsDue r (struct_form text)
    → AreOwn (map parameter_of text.parameters.items) own → length own.regions < 2 ^ 32
few_own r own text due h = omega (arith, due.few, h.few)

module _ (r : Reader) (own : OwnNames) (text : StructText) (due : IsDue r (struct_form text))
    (h : AreOwn (map parameter_of text.parameters.items) own)
    (fine : first_fault (said_by r) (struct_form text) ≡ None) where
  abbrev parameters : List WrittenParameter
  parameters = map parameter_of text.parameters.items

  abbrev fields : WrittenTypes
  fields = parts (written text.fields)

  is_fine : IsFine (said_by r) text.name.now parameters fields
  is_fine = struct_fine (said_by r) text.name.now parameters text.has_drop fields fine

  few_in : length (regions_in parameters) ≤ most_bytes
  few_in = omega (arith, due.few, few_regions parameters)

  module _ (d : Declaration) (regions : d.regions.items ≡ map (λ p. p.1) (regions_in parameters))
      (types : d.types.items ≡ map (λ p. p.1) (types_in parameters)) (has_drop : d.has_drop ≡ text.has_drop)
      (meant : trees d.fields.items ≡ all_meant (own_scope own r.structs) fields) where
    abbrev more : Struct
    more = declared_struct (said_by r) parameters text.has_drop fields

    fields_meant : trees d.fields.items ≡ all_meant (scope_inside (said_by r).scope parameters) fields
    fields_meant =
        meant ∙ ap (λ s. all_meant s fields)
        (own_scope_is (said_by r) parameters own r.structs h is_fine.regions is_fine.types refl refl)

    declares : kept.declared d ≡ more
    declares = rw (regions, types, has_drop, fields_meant) refl

    pub few_declared : length d.regions.items < 2 ^ 32 - 1
    few_declared = omega (arith, few_in, ap length regions, length-map (regions_in parameters) (λ p. p.1))

    counted_structs : length (structs_of r.variables.types.table.structs) ≡ length r.variables.types.table.structs
    counted_structs = length-map r.variables.types.table.structs kept.declared

    pub good_declared : HasGoodFields (structs_of r.variables.types.table.structs) (kept.declared d)
    good_declared = subst (HasGoodFields (structs_of r.variables.types.table.structs)) (sym declares)
        (good_fields (said_by r) parameters text.has_drop fields due.ready.kinds
        (due.ready.named_structs ∙ sym counted_structs) is_fine.known is_fine.has)

    module _ (t : Tables) (s : StructNames) (structs : t.structs ≡ r.variables.types.table.structs ++ d ∷ [])
        (shapes : t.shapes ≡ r.variables.types.table.shapes) (names : s.names ≡ r.structs.names ++ text.name.now ∷ [])
        (kinds : map (λ ks. ks.items) s.kinds.items
        ≡ map (λ ks. ks.items) r.structs.kinds.items ++ map is_region_parameter parameters ∷ [])
        (none : s.none ≡ r.structs.none) where
      abbrev after : Reader
      after = record r {
        reached = Structs;
        structs = s;
        variables = record r.variables { types = record r.variables.types { table = t } };
      }

      more_structs : structs_of t.structs ≡ structs_of r.variables.types.table.structs ++ more ∷ []
      more_structs = ap structs_of structs
          ∙ (map_push kept.declared r.variables.types.table.structs d
          ∙ ap (λ x. structs_of r.variables.types.table.structs ++ x ∷ []) declares)

      abbrev same : List Node
      same = r.variables.types.table.shapes

      more_said : said_by after ≡ says (said_by r) (struct_form text)
      more_said = grind (arith, more_structs)

      more_kinds : AreKinds (map (λ ks. ks.items) s.kinds.items) (structs_of t.structs)
      more_kinds =
          subst (λ xs. AreKinds xs (structs_of t.structs)) (sym kinds)
          (subst (AreKinds (map (λ ks. ks.items) r.structs.kinds.items ++ map is_region_parameter parameters ∷ []))
          (sym more_structs)
          (kinds_pushed _ _ (map is_region_parameter parameters) more
          (length-map r.structs.kinds.items (λ ks. ks.items) ∙ (due.ready.counted_kinds ∙ sym counted_structs))
          due.ready.kinds
          (regions_declared (said_by r) parameters text.has_drop fields)
          (types_declared (said_by r) parameters text.has_drop fields)))

      more_counted : length t.structs ≡ length r.variables.types.table.structs + 1
      more_counted = omega (arith, ap length structs, length-append r.variables.types.table.structs (d ∷ []))

      pub taken : IsTaken (said_by r) (struct_form text) after
      taken = record {
        fine = fine;
        says = more_said;
        ready = record {
          static = due.ready.static;
          universals = due.ready.universals;
          few_universals = due.ready.few_universals;
          few_regions = due.ready.few_regions;
          no_parameter = none ∙ due.ready.no_parameter;
          named_structs =
              omega (
                arith,
                more_counted,
                due.ready.named_structs,
                ap length names,
                length-append r.structs.names (text.name.now ∷ []),
              );
          counted_kinds =
              omega (
                arith,
                more_counted,
                due.ready.counted_kinds,
                ap length kinds,
                length-map s.kinds.items (λ ks. ks.items),
                length-map r.structs.kinds.items (λ ks. ks.items),
                length-append (map (λ ks. ks.items) r.structs.kinds.items) (map is_region_parameter parameters ∷ []),
              );
          kinds = more_kinds;
          few_structs = omega (arith, more_counted, is_fine.few, counted_structs);
          few_variables = due.ready.few_variables;
          rows = record {
            variables = subst
                (λ (ns : List Node). All (HasRow ns r.variables.types.regions.items) r.variables.typed.items)
                (sym shapes) due.ready.rows.variables;
            points = subst
                (λ (ns : List Node).
                All (HasRows ns r.variables.types.regions.items) (statements_in r.points.statements))
                (sym shapes) due.ready.rows.points;
          };
          few_blocks = due.ready.few_blocks;
          no_start = λ _. due.ready.no_start (omega (arith, due.follows));
          starts = due.ready.starts;
          few_points = due.ready.few_points;
          edges = due.ready.edges;
          few_edges = due.ready.few_edges;
        };
      }
