use Rattle.std.proofs.Common.{◌≡◌, ◌∙◌, Bool, false, true, List, [], ◌∷◌, ◌++◌, None, sym, refl, ap, inr, map, arith}
use Rattle.std.proofs.lemmas.List.{length-map}
use Rattle.nll_types.specs.Declarations as kept
use Rattle.nll_types.specs.Shapes.{shape_of, shapes_of, tuple_shape}
use Rattle.nll_types.specs.Table.{shape_in}
use Rattle.nll_types.specs.declared.typed.Typed.{Typed}
use Rattle.nll_mir_grammar.specs.TypeTexts.{written}
use Rattle.nll_mir_grammar.specs.Lines.{parameter_of}
use Rattle.nll_mir_grammar.specs.Tuples.{IsTuple, parts}
use Rattle.nll_mir_grammar.specs.declared.line.ParameterText.{ParameterText}
use Rattle.nll_mir_grammar.specs.declared.line.StructText.{StructText}
use Rattle.nll_mir_text.specs.Naming.{Scope, all_meant, has_arguments, is_known, meant}
use Rattle.nll_mir_text.specs.Resolution.{IsResolved}
use Rattle.nll_mir_text.specs.ToldTypes.{are_known, have_arguments}
use Rattle.nll_mir_text.specs.MirFaults.{first_fault, redeclares}
use Rattle.nll_mir_text.specs.MirSaid.{scope_inside}
use Rattle.nll_mir_text.specs.MirReading.{said_by, struct_form}
use Rattle.nll_mir_text.specs.StructLines.{AreOwn, is_region_parameter, own_scope}
use Rattle.nll_mir_text.specs.declared.own_names.OwnNames.{OwnNames}
use Rattle.nll_mir_text.specs.declared.reader.Reader.{Reader}
use Rattle.nll_mir_text.proofs.OwnLemmas.{own_known, own_scope_is}
use Rattle.nll_types.proofs.RowLemmas.{tree_is}
use Rattle.nll_mir_text.proofs.StructLineLemmas.{fields_are, few_declared, good_declared, taken}
use Rattle.nll_mir_text.proofs.StructLemmas.{struct_duplicate, struct_unfit, struct_too_large, no_struct_fault, once_each}
use Rattle.nll_mir_text.proofs.reader.Reader.add_resolved_struct.Goals as goal
use Rattle.nll_mir_text.proofs.reader.Reader.add_resolved_struct.Goals.{In_ok-declaration}

-- the names in the fields of a struct line are known
known : (r : Reader) (own : OwnNames) (text : StructText) (i : Typed)
    → AreOwn (map parameter_of text.parameters.items) own → IsTuple (written text.fields)
    → IsResolved (own_scope own r.structs) (written text.fields) r.variables.types i
    → are_known (scope_inside (said_by r).scope (map parameter_of text.parameters.items)) (parts (written text.fields))
    ≡ true
known r own text i h is of =
    let fields = parts (written text.fields) in
    sym (own_known (said_by r) (map parameter_of text.parameters.items) own r.structs fields h refl)
    ∙ (sym (ap (is_known (own_scope own r.structs)) is) ∙ of.known)

-- what is known of a struct line whose names are known and declare none again
record IsNew (r : Reader) (text : StructText) (i : Typed) (fitting : Bool) : Type 0 where
  known : are_known (scope_inside (said_by r).scope (map parameter_of text.parameters.items))
      (parts (written text.fields)) ≡ true
  once : redeclares (said_by r).scope text.name.now (map parameter_of text.parameters.items) ≡ false
  fits : have_arguments (scope_inside (said_by r).scope (map parameter_of text.parameters.items))
      (parts (written text.fields)) ≡ fitting
  shape : shape_in r.variables.types.table.shapes i.shape
      ≡ tuple_shape (shapes_of (all_meant (scope_inside (said_by r).scope (map parameter_of text.parameters.items))
      (parts (written text.fields))))

is_new : (r : Reader) (own : OwnNames) (text : StructText) (i : Typed) (fitting : Bool)
    → AreOwn (map parameter_of text.parameters.items) own → IsTuple (written text.fields)
    → IsResolved (own_scope own r.structs) (written text.fields) r.variables.types i
    → fitting ≡ has_arguments (own_scope own r.structs) (written text.fields)
    → redeclares (said_by r).scope text.name.now (map parameter_of text.parameters.items) ≡ false
    → IsNew r text i fitting
is_new r own text i fitting h is of fit once =
    let ps = map parameter_of text.parameters.items in
    let each = once_each (said_by r) text.name.now ps once in
    let same : own_scope own r.structs ≡ scope_inside (said_by r).scope ps =
    own_scope_is (said_by r) ps own r.structs h each.0 each.1 refl refl in
    record {
      known = known r own text i h is of;
      once = once;
      fits = sym (fit ∙ (ap (has_arguments (own_scope own r.structs)) is
          ∙ ap (λ (s : Scope). have_arguments s (parts (written text.fields))) same));
      shape = of.typed.shape ∙ (ap (λ t. shape_of (meant (own_scope own r.structs) t)) is
          ∙ ap (λ (s : Scope). tuple_shape (shapes_of (all_meant s (parts (written text.fields))))) same);
    }

pub returns-then-redeclares-clause-refused : goal.returns-then-redeclares-clause-refused
returns-then-redeclares-clause-refused c =
    let text = c.args.text.now in
    inr (struct_duplicate (said_by c.args.self.now) text.name.now (map parameter_of text.parameters.items) text.has_drop
    (parts (written text.fields)) c.requires.due.order
    (known c.args.self.now c.args.own.now text c.args.fields c.requires.own c.requires.tuple c.requires.fields)
    (sym (rw c.as_slice-parameters.ensures.value at c.redeclares.ensures) ∙ c.if-redeclares.true))

pub returns-then-not-fits-clause-refused : goal.returns-then-not-fits-clause-refused
returns-then-not-fits-clause-refused c =
    let text = c.args.text.now in
    let n = is_new c.args.self.now c.args.own.now text c.args.fields c.args.fits c.requires.own c.requires.tuple
    c.requires.fields c.requires.fits
    (sym (rw c.as_slice-parameters.ensures.value at c.redeclares.ensures) ∙ c.if-redeclares.false) in
    inr (struct_unfit (said_by c.args.self.now) text.name.now (map parameter_of text.parameters.items) text.has_drop
    (parts (written text.fields)) c.requires.due.order n.known n.once (n.fits ∙ c.if-not-fits.true))

pub returns-then-not-has_small_parts-clause-refused : goal.returns-then-not-has_small_parts-clause-refused
returns-then-not-has_small_parts-clause-refused c =
    let text = c.args.text.now in
    let n = is_new c.args.self.now c.args.own.now text c.args.fields c.args.fits c.requires.own c.requires.tuple
    c.requires.fields c.requires.fits
    (sym (rw c.as_slice-parameters.ensures.value at c.redeclares.ensures) ∙ c.if-redeclares.false) in
    inr (struct_too_large (said_by c.args.self.now) text.name.now (map parameter_of text.parameters.items) text.has_drop
    (parts (written text.fields)) c.requires.due.order n.known n.once (n.fits ∙ c.if-not-fits.false)
    (sym ((rw c.shapes.ensures at c.has_small_parts.ensures) _ n.shape) ∙ c.if-not-has_small_parts.true))

-- nothing is wrong with it
fine : (c : In_ok-declaration)
    → first_fault (said_by c.args.self.now) (struct_form c.args.text.now) ≡ None
fine c =
    let r = c.args.self.now in
    let text = c.args.text.now in
    let n = is_new r c.args.own.now text c.args.fields c.args.fits c.requires.own c.requires.tuple
    c.requires.fields c.requires.fits
    (sym (rw c.as_slice-parameters.ensures.value at c.redeclares.ensures) ∙ c.if-redeclares.false) in
    no_struct_fault (said_by r) text.name.now (map parameter_of text.parameters.items) text.has_drop
    (parts (written text.fields)) c.requires.due.order n.known n.once (n.fits ∙ c.if-not-fits.false)
    (sym ((rw c.shapes.ensures at c.has_small_parts.ensures) _ n.shape) ∙ c.if-not-has_small_parts.false)
    (omega (
      arith,
      c.if-len-ge-MAX_STRUCTS.false,
      c.len.ensures,
      c.requires.due.ready.named_structs,
      length-map r.variables.types.table.structs kept.declared,
    ))

pub declare-requires-clause-fields : goal.declare-requires-clause-fields
declare-requires-clause-fields c =
    let e = c.in_ok-declaration.ensures in
    good_declared c.args.self.now c.args.own.now c.args.text.now c.requires.due c.requires.own
    (fine (goal.at.declare-requires-clause-fields c).In_ok-declaration)
    c.in_ok-declaration.declaration e.regions e.types e.has_drop
    (e.fields _ (fields_are _ _ _ c.requires.tuple (tree_is _ _ c.args.fields _ c.requires.fields.typed)))

pub declare-requires-clause-few : goal.declare-requires-clause-few
declare-requires-clause-few c =
    let e = c.in_ok-declaration.ensures in
    few_declared c.args.self.now c.args.own.now c.args.text.now c.requires.due c.requires.own
    (fine (goal.at.declare-requires-clause-few c).In_ok-declaration)
    c.in_ok-declaration.declaration e.regions e.types e.has_drop
    (e.fields _ (fields_are _ _ _ c.requires.tuple (tree_is _ _ c.args.fields _ c.requires.fields.typed)))

pub returns-clause-taken : goal.returns-clause-taken
returns-clause-taken c =
    let e = c.in_ok-declaration.ensures in
    let d = c.in_ok-declare.ensures in
    let kinds =
    c.in_ok-kinds.ensures ∙ ap (λ (ps : List ParameterText). map is_region_parameter (map parameter_of ps))
    c.as_slice-parameters.ensures.value in
    taken c.args.self.now c.args.own.now c.args.text.now c.requires.due c.requires.own
    (fine (goal.at.returns-clause-taken c).In_ok-declaration)
    c.in_ok-declaration.declaration e.regions e.types e.has_drop
    (e.fields _ (fields_are _ _ _ c.requires.tuple (tree_is _ _ c.args.fields _ c.requires.fields.typed)))
    c.declare.new.self c.add.new.self d.ok d.shapes c.in_ok-add.ensures.names
    (c.in_ok-add.ensures.kinds ∙ ap (λ (ks : List Bool).
    map (λ xs. xs.items) c.args.self.now.structs.kinds.items ++ ks ∷ []) kinds)
    c.in_ok-add.ensures.none
