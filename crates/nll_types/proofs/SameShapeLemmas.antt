-- Types of one shape, as `same_shape` tells them.
use Rattle.std.proofs.Common.{◌≡◌, Bool, true, false, length, refl, ap, ◌↔◌}
use Rattle.std.specs.Prelude.{◌==◌, ◌&&◌, IsTrue}
use Rattle.std.specs.Bool.{beq}
use Rattle.std.specs.Cmp.Derive.{both_true}
use Rattle.std.proofs.lemmas.Bool.{eqb-true, eq-eqb}
use Rattle.nll_problem.proofs.FactLemmas.{and_true}
use Rattle.nll_types.specs.Types.{TypeTree, TypeTrees, int, parameter, reference, tuple, named, function, none, more}
use Rattle.nll_types.specs.Shapes.{tuple_shape, parameter_shape, shape_of, shapes_of, same_shape, same_shapes}

flags : (a b : Bool) → beq a b ≡ true → a ≡ b
flags true true h = refl
flags false false h = refl
flags true false h = absurd (let e : false ≡ true = h in cc)
flags false true h = absurd (let e : false ≡ true = h in cc)

flags_back : (a b : Bool) → a ≡ b → beq a b ≡ true
flags_back true true h = refl
flags_back false false h = refl
flags_back true false h = absurd cc
flags_back false true h = absurd cc

mutual
  to : (t u : TypeTree) → same_shape t u ≡ true → shape_of t ≡ shape_of u
  to int int h = refl
  to (parameter j) (parameter k) h = ap parameter_shape (eqb-true j k h)
  to (reference q m t) (reference r n u) h =
      let e = and_true (beq m n) (same_shape t u) h in
      let a = flags m n e.0 in
      let b = to t u e.1 in
      cc
  to (tuple ts) (tuple us) h = ap tuple_shape (all_to ts us h)
  to (named s qs ts) (named o rs us) h =
      let e = and_true (s == o) ((length qs == length rs) && same_shapes ts us) h in
      let f = and_true (length qs == length rs) (same_shapes ts us) e.1 in
      let a = eqb-true s o e.0 in
      let b = eqb-true (length qs) (length rs) f.0 in
      let c = all_to ts us f.1 in
      cc
  to (function ts t) (function us u) h =
      let e = and_true (same_shapes ts us) (same_shape t u) h in
      let a = all_to ts us e.0 in
      let b = to t u e.1 in
      cc
  to int (parameter k) h = absurd (let e : false ≡ true = h in cc)
  to int (reference r n u) h = absurd (let e : false ≡ true = h in cc)
  to int (tuple us) h = absurd (let e : false ≡ true = h in cc)
  to int (named o rs us) h = absurd (let e : false ≡ true = h in cc)
  to (parameter j) int h = absurd (let e : false ≡ true = h in cc)
  to (parameter j) (reference r n u) h = absurd (let e : false ≡ true = h in cc)
  to (parameter j) (tuple us) h = absurd (let e : false ≡ true = h in cc)
  to (parameter j) (named o rs us) h = absurd (let e : false ≡ true = h in cc)
  to (reference q m t) int h = absurd (let e : false ≡ true = h in cc)
  to (reference q m t) (parameter k) h = absurd (let e : false ≡ true = h in cc)
  to (reference q m t) (tuple us) h = absurd (let e : false ≡ true = h in cc)
  to (reference q m t) (named o rs us) h = absurd (let e : false ≡ true = h in cc)
  to (tuple ts) int h = absurd (let e : false ≡ true = h in cc)
  to (tuple ts) (parameter k) h = absurd (let e : false ≡ true = h in cc)
  to (tuple ts) (reference r n u) h = absurd (let e : false ≡ true = h in cc)
  to (tuple ts) (named o rs us) h = absurd (let e : false ≡ true = h in cc)
  to (named s qs ts) int h = absurd (let e : false ≡ true = h in cc)
  to (named s qs ts) (parameter k) h = absurd (let e : false ≡ true = h in cc)
  to (named s qs ts) (reference r n u) h = absurd (let e : false ≡ true = h in cc)
  to (named s qs ts) (tuple us) h = absurd (let e : false ≡ true = h in cc)
  to int (function us u) h = absurd (let e : false ≡ true = h in cc)
  to (parameter j) (function us u) h = absurd (let e : false ≡ true = h in cc)
  to (reference q m t) (function us u) h = absurd (let e : false ≡ true = h in cc)
  to (tuple ts) (function us u) h = absurd (let e : false ≡ true = h in cc)
  to (named s qs ts) (function us u) h = absurd (let e : false ≡ true = h in cc)
  to (function ts t) int h = absurd (let e : false ≡ true = h in cc)
  to (function ts t) (parameter k) h = absurd (let e : false ≡ true = h in cc)
  to (function ts t) (reference r n u) h = absurd (let e : false ≡ true = h in cc)
  to (function ts t) (tuple us) h = absurd (let e : false ≡ true = h in cc)
  to (function ts t) (named o rs us) h = absurd (let e : false ≡ true = h in cc)

  all_to : (ts us : TypeTrees) → same_shapes ts us ≡ true → shapes_of ts ≡ shapes_of us
  all_to none none h = refl
  all_to (more t ts) (more u us) h =
      let e = and_true (same_shape t u) (same_shapes ts us) h in
      let a = to t u e.0 in
      let b = all_to ts us e.1 in
      cc
  all_to none (more u us) h = absurd (let e : false ≡ true = h in cc)
  all_to (more t ts) none h = absurd (let e : false ≡ true = h in cc)

mutual
  from : (t u : TypeTree) → shape_of t ≡ shape_of u → same_shape t u ≡ true
  from int int h = refl
  from (parameter j) (parameter k) h = eq-eqb j k (let e : j ≡ k = cc in e)
  from (reference q m t) (reference r n u) h =
      let a : m ≡ n = cc in
      let b : shape_of t ≡ shape_of u = cc in
      both_true (flags_back m n a) (from t u b)
  from (tuple ts) (tuple us) h = all_from ts us (let e : shapes_of ts ≡ shapes_of us = cc in e)
  from (named s qs ts) (named o rs us) h =
      let a : s ≡ o = cc in
      let b : length qs ≡ length rs = cc in
      let c : shapes_of ts ≡ shapes_of us = cc in
      both_true (eq-eqb s o a) (both_true (eq-eqb (length qs) (length rs) b) (all_from ts us c))
  from (function ts t) (function us u) h =
      let a : shapes_of ts ≡ shapes_of us = cc in
      let b : shape_of t ≡ shape_of u = cc in
      both_true (all_from ts us a) (from t u b)
  from int (parameter k) h = absurd cc
  from int (reference r n u) h = absurd cc
  from int (tuple us) h = absurd cc
  from int (named o rs us) h = absurd cc
  from (parameter j) int h = absurd cc
  from (parameter j) (reference r n u) h = absurd cc
  from (parameter j) (tuple us) h = absurd cc
  from (parameter j) (named o rs us) h = absurd cc
  from (reference q m t) int h = absurd cc
  from (reference q m t) (parameter k) h = absurd cc
  from (reference q m t) (tuple us) h = absurd cc
  from (reference q m t) (named o rs us) h = absurd cc
  from (tuple ts) int h = absurd cc
  from (tuple ts) (parameter k) h = absurd cc
  from (tuple ts) (reference r n u) h = absurd cc
  from (tuple ts) (named o rs us) h = absurd cc
  from (named s qs ts) int h = absurd cc
  from (named s qs ts) (parameter k) h = absurd cc
  from (named s qs ts) (reference r n u) h = absurd cc
  from (named s qs ts) (tuple us) h = absurd cc
  from int (function us u) h = absurd cc
  from (parameter j) (function us u) h = absurd cc
  from (reference q m t) (function us u) h = absurd cc
  from (tuple ts) (function us u) h = absurd cc
  from (named s qs ts) (function us u) h = absurd cc
  from (function ts t) int h = absurd cc
  from (function ts t) (parameter k) h = absurd cc
  from (function ts t) (reference r n u) h = absurd cc
  from (function ts t) (tuple us) h = absurd cc
  from (function ts t) (named o rs us) h = absurd cc

  all_from : (ts us : TypeTrees) → shapes_of ts ≡ shapes_of us → same_shapes ts us ≡ true
  all_from none none h = refl
  all_from (more t ts) (more u us) h =
      let a : shape_of t ≡ shape_of u = cc in
      let b : shapes_of ts ≡ shapes_of us = cc in
      both_true (from t u a) (all_from ts us b)
  all_from none (more u us) h = absurd cc
  all_from (more t ts) none h = absurd cc

-- two types are told to have one shape exactly where their shapes are equal
pub same_shape_decides : (t u : TypeTree) → IsTrue (same_shape t u) ↔ (shape_of t ≡ shape_of u)
same_shape_decides t u = (to t u, from t u)
