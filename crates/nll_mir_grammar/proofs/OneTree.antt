-- Tokens begin with one type at most, where no `<` follows.
use Rattle.std.proofs.Common.{◌≡◌, true, false, List, ◌∷◌, ◌++◌, ◌<◌, length, refl, sym, ap, ◌∙◌, subst, append_assoc, arith}
use Rattle.std.specs.Prelude.{codes}
use Rattle.nll_text.specs.Tokens.{Token, word, region, arrow, sign}
use Rattle.nll_mir_grammar.specs.WrittenTypes.{WrittenType, WrittenTypes, Arguments, int, reference, tuple, named, function, none, more, no_argument, region_argument, type_argument, is_capital, spelled, spelled_parts, spelled_more_parts, spelled_arguments, spelled_more_arguments, HasNames, HaveNames, ArgumentsHaveNames, IsFree}
use Rattle.nll_mir_grammar.proofs.FrontLemmas.{apart, int_no_name, fn_no_name, fn_no_int, no_mut, no_closing, no_name_of}

free_parts : (ts : WrittenTypes) (a : List Token) → IsFree (spelled_more_parts ts ++ a)
free_parts none a others e = apart 41 60 refl (let h : sign 41 ≡ sign 60 = cc in h)
free_parts (more t ts) a others e = apart 44 60 refl (let h : sign 44 ≡ sign 60 = cc in h)

free_args : (us : Arguments) (a : List Token) → IsFree (spelled_more_arguments us ++ a)
free_args no_argument a others e = apart 62 60 refl (let h : sign 62 ≡ sign 60 = cc in h)
free_args (region_argument r us) a others e = apart 44 60 refl (let h : sign 44 ≡ sign 60 = cc in h)
free_args (type_argument t us) a others e = apart 44 60 refl (let h : sign 44 ≡ sign 60 = cc in h)

mutual
  pub one_tree : (t u : WrittenType) (a b : List Token) → HasNames t → HasNames u → IsFree a → IsFree b
      → spelled t ++ a ≡ spelled u ++ b → (t ≡ u) × (a ≡ b)
  one_tree int int a b n o f g e = (refl, cc)
  one_tree int (named s us) a b n o f g e =
      absurd (int_no_name (let h : s ≡ codes "int" = cc in subst (λ z. is_capital z ≡ true) h o.0))
  one_tree int (function us u) a b n o f g e = absurd (fn_no_int (let h : codes "fn" ≡ codes "int" = cc in h))
  one_tree (function ts t) int a b n o f g e = absurd (fn_no_int (let h : codes "fn" ≡ codes "int" = cc in h))
  one_tree (named s ts) (function us u) a b n o f g e =
      absurd (fn_no_name (let h : s ≡ codes "fn" = cc in subst (λ z. is_capital z ≡ true) h n.0))
  one_tree (function ts t) (named s us) a b n o f g e =
      absurd (fn_no_name (let h : s ≡ codes "fn" = cc in subst (λ z. is_capital z ≡ true) h o.0))
  one_tree (function ts t) (function us u) a b n o f g e =
      let r : (spelled_parts ts ++ arrow ∷ spelled t) ++ a ≡ (spelled_parts us ++ arrow ∷ spelled u) ++ b = cc in
      let x = one_list ts us (arrow ∷ (spelled t ++ a)) (arrow ∷ (spelled u ++ b)) n.0 o.0
      (sym (append_assoc (spelled_parts ts) (arrow ∷ spelled t) a) ∙ r
      ∙ append_assoc (spelled_parts us) (arrow ∷ spelled u) b) in
      let q : spelled t ++ a ≡ spelled u ++ b = (let y = x.1 in cc) in
      let z = one_tree t u a b n.1 o.1 f g q in
      let x0 = x.0 in let z0 = z.0 in (cc, z.1)
  one_tree (reference q true t) (reference p true u) a b n o f g e =
      (let h : q ≡ p = cc in let r : spelled t ++ a ≡ spelled u ++ b = cc in let x = one_tree t u a b n o f g r in
      let y = x.0 in (cc, x.1))
  one_tree (reference q false t) (reference p false u) a b n o f g e =
      (let h : q ≡ p = cc in let r : spelled t ++ a ≡ spelled u ++ b = cc in let x = one_tree t u a b n o f g r in
      let y = x.0 in (cc, x.1))
  one_tree (reference q true t) (reference p false u) a b n o f g e =
      absurd (no_mut u b (spelled t ++ a) o (let r : spelled u ++ b ≡ word (codes "mut") ∷ (spelled t ++ a) = cc in r))
  one_tree (reference q false t) (reference p true u) a b n o f g e =
      absurd (no_mut t a (spelled u ++ b) n (let r : spelled t ++ a ≡ word (codes "mut") ∷ (spelled u ++ b) = cc in r))
  one_tree (reference q m t) (tuple us) a b n o f g e = absurd (apart 38 40 refl (let h : sign 38 ≡ sign 40 = cc in h))
  one_tree (tuple ts) (reference q m u) a b n o f g e = absurd (apart 40 38 refl (let h : sign 40 ≡ sign 38 = cc in h))
  one_tree (tuple ts) (tuple us) a b n o f g e =
      (let r : spelled_parts ts ++ a ≡ spelled_parts us ++ b = cc in let x = one_list ts us a b n o r in
      (ap tuple x.0, x.1))
  one_tree (named s ts) int a b n o f g e =
      absurd (int_no_name (let h : s ≡ codes "int" = cc in subst (λ z. is_capital z ≡ true) h n.0))
  one_tree (named s ts) (named p us) a b n o f g e =
      (let h : s ≡ p = cc in let r : spelled_arguments ts ++ a ≡ spelled_arguments us ++ b = cc in
      let x = one_arguments ts us a b n.1 o.1 f g r in let y = x.0 in (cc, x.1))
  one_tree t u a b n o f g e = absurd cc

  one_list : (ts us : WrittenTypes) (a b : List Token) → HaveNames ts → HaveNames us
      → spelled_parts ts ++ a ≡ spelled_parts us ++ b → (ts ≡ us) × (a ≡ b)
  one_list none none a b n o e = (refl, cc)
  one_list none (more u us) a b n o e =
      absurd (no_closing u (spelled_more_parts us ++ b) a
      (sym (append_assoc (spelled u) (spelled_more_parts us) b) ∙ sym e))
  one_list (more t ts) none a b n o e =
      absurd (no_closing t (spelled_more_parts ts ++ a) b
      (sym (append_assoc (spelled t) (spelled_more_parts ts) a) ∙ e))
  one_list (more t ts) (more u us) a b n o e =
      let x = one_tree t u (spelled_more_parts ts ++ a) (spelled_more_parts us ++ b) n.0 o.0 (free_parts ts a)
      (free_parts us b) (sym (append_assoc (spelled t) (spelled_more_parts ts) a) ∙ e
      ∙ append_assoc (spelled u) (spelled_more_parts us) b) in
      let y = one_more ts us a b n.1 o.1 x.1 in
      let x0 = x.0 in let y0 = y.0 in (cc, y.1)

  one_more : (ts us : WrittenTypes) (a b : List Token) → HaveNames ts → HaveNames us
      → spelled_more_parts ts ++ a ≡ spelled_more_parts us ++ b → (ts ≡ us) × (a ≡ b)
  one_more none none a b n o e = (refl, cc)
  one_more none (more u us) a b n o e = absurd (apart 41 44 refl (let h : sign 41 ≡ sign 44 = cc in h))
  one_more (more t ts) none a b n o e = absurd (apart 44 41 refl (let h : sign 44 ≡ sign 41 = cc in h))
  one_more (more t ts) (more u us) a b n o e =
      let r : (spelled t ++ spelled_more_parts ts) ++ a ≡ (spelled u ++ spelled_more_parts us) ++ b = cc in
      let x = one_tree t u (spelled_more_parts ts ++ a) (spelled_more_parts us ++ b) n.0 o.0 (free_parts ts a)
      (free_parts us b) (sym (append_assoc (spelled t) (spelled_more_parts ts) a) ∙ r
      ∙ append_assoc (spelled u) (spelled_more_parts us) b) in
      let y = one_more ts us a b n.1 o.1 x.1 in
      let x0 = x.0 in let y0 = y.0 in (cc, y.1)

  one_arguments : (ts us : Arguments) (a b : List Token) → ArgumentsHaveNames ts → ArgumentsHaveNames us → IsFree a
      → IsFree b → spelled_arguments ts ++ a ≡ spelled_arguments us ++ b → (ts ≡ us) × (a ≡ b)
  one_arguments no_argument no_argument a b n o f g e = (refl, e)
  one_arguments no_argument (region_argument q us) a b n o f g e =
      absurd (f (region q ∷ (spelled_more_arguments us ++ b)) e)
  one_arguments no_argument (type_argument u us) a b n o f g e =
      absurd (f ((spelled u ++ spelled_more_arguments us) ++ b) e)
  one_arguments (region_argument q ts) no_argument a b n o f g e =
      absurd (g (region q ∷ (spelled_more_arguments ts ++ a)) (sym e))
  one_arguments (type_argument t ts) no_argument a b n o f g e =
      absurd (g ((spelled t ++ spelled_more_arguments ts) ++ a) (sym e))
  one_arguments (region_argument q ts) (region_argument p us) a b n o f g e =
      (let h : q ≡ p = cc in let r : spelled_more_arguments ts ++ a ≡ spelled_more_arguments us ++ b = cc in
      let y = one_more_arguments ts us a b n o r in let y0 = y.0 in (cc, y.1))
  one_arguments (region_argument q ts) (type_argument u us) a b n o f g e =
      grind (arith, no_name_of, append_assoc)
  one_arguments (type_argument t ts) (region_argument p us) a b n o f g e =
      grind (arith, no_name_of, append_assoc)
  one_arguments (type_argument t ts) (type_argument u us) a b n o f g e =
      let r : (spelled t ++ spelled_more_arguments ts) ++ a ≡ (spelled u ++ spelled_more_arguments us) ++ b = cc in
      let x = one_tree t u (spelled_more_arguments ts ++ a) (spelled_more_arguments us ++ b) n.0 o.0 (free_args ts a)
      (free_args us b) (sym (append_assoc (spelled t) (spelled_more_arguments ts) a) ∙ r
      ∙ append_assoc (spelled u) (spelled_more_arguments us) b) in
      let y = one_more_arguments ts us a b n.1 o.1 x.1 in
      let x0 = x.0 in let y0 = y.0 in (cc, y.1)

  one_more_arguments : (ts us : Arguments) (a b : List Token) → ArgumentsHaveNames ts → ArgumentsHaveNames us
      → spelled_more_arguments ts ++ a ≡ spelled_more_arguments us ++ b → (ts ≡ us) × (a ≡ b)
  one_more_arguments no_argument no_argument a b n o e = (refl, cc)
  one_more_arguments no_argument (region_argument q us) a b n o e =
      absurd (apart 62 44 refl (let h : sign 62 ≡ sign 44 = cc in h))
  one_more_arguments no_argument (type_argument u us) a b n o e =
      absurd (apart 62 44 refl (let h : sign 62 ≡ sign 44 = cc in h))
  one_more_arguments (region_argument q ts) no_argument a b n o e =
      absurd (apart 44 62 refl (let h : sign 44 ≡ sign 62 = cc in h))
  one_more_arguments (type_argument t ts) no_argument a b n o e =
      absurd (apart 44 62 refl (let h : sign 44 ≡ sign 62 = cc in h))
  one_more_arguments (region_argument q ts) (region_argument p us) a b n o e =
      (let h : q ≡ p = cc in let r : spelled_more_arguments ts ++ a ≡ spelled_more_arguments us ++ b = cc in
      let y = one_more_arguments ts us a b n o r in let y0 = y.0 in (cc, y.1))
  one_more_arguments (region_argument q ts) (type_argument u us) a b n o e =
      grind (arith, no_name_of, append_assoc)
  one_more_arguments (type_argument t ts) (region_argument p us) a b n o e =
      grind (arith, no_name_of, append_assoc)
  one_more_arguments (type_argument t ts) (type_argument u us) a b n o e =
      let r : (spelled t ++ spelled_more_arguments ts) ++ a ≡ (spelled u ++ spelled_more_arguments us) ++ b = cc in
      let x = one_tree t u (spelled_more_arguments ts ++ a) (spelled_more_arguments us ++ b) n.0 o.0 (free_args ts a)
      (free_args us b) (sym (append_assoc (spelled t) (spelled_more_arguments ts) a) ∙ r
      ∙ append_assoc (spelled u) (spelled_more_arguments us) b) in
      let y = one_more_arguments ts us a b n.1 o.1 x.1 in
      let x0 = x.0 in let y0 = y.0 in (cc, y.1)

-- a type has at least one token
pub some_tokens : (t : WrittenType) → 0 < length (spelled t)
some_tokens int = omega arith
some_tokens (reference q m t) = omega arith
some_tokens (tuple ts) = omega arith
some_tokens (named s us) = omega arith
some_tokens (function ts t) = omega arith
