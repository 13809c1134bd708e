-- Names and descriptors are texts of a pool.
use Rattle.std.proofs.Common.{◌≡◌, ℕ, ◌+◌, ◌*◌, ◌≤◌, true, List, [], ◌∷◌, ◌++◌, length}
use Rattle.std.proofs.Common.{map, Option, Some, None, refl, sym, subst, ◌∙◌, arith}
use Rattle.std.proofs.Common.{length-append}
use Rattle.std.specs.Prelude.{◌&&◌, nat_lt, codes, slice_get}
use Rattle.std.specs.List.{list_all}
use Rattle.std.specs.Option.{option_map}
use Rattle.std.proofs.lemmas.Bool.{and_parts, and_from}
use Rattle.std.proofs.lemmas.List.{length-map}
use Rattle.std.proofs.lemmas.List.Folds.{list_all-append}
use Rattle.std.proofs.lemmas.Option.{slice_get_within, get_or_from_slice_get, slice_get-map}
use Rattle.par_base.specs.Names.{IsName, is_letter, is_spelled, goes_on}
use Rattle.par_pool.specs.Spelling.{is_plain, IsText}
use Rattle.par_typed.specs.declared.ty.Ty.{Ty}
use Rattle.par_typed.specs.declared.ty.Ty.TheVariants as ty
use Rattle.par_typed.specs.declared.table.ParamInfo.{ParamInfo}
use Rattle.par_typed.specs.declared.table.MethodInfo.{MethodInfo}
use Rattle.par_code_form.specs.Named.{of_class, class_word, descriptor, descriptors}
use Rattle.par_code_form.specs.Named.{method_descriptor}
use Rattle.par_erase.specs.declared.program.PlainClass.{PlainClass}
use Rattle.par_erase.specs.declared.program.PlainMethod.{PlainMethod}
use Rattle.par_erase.specs.declared.program.Plain.{Plain}
use Rattle.par_erase.specs.Shown.{class_info, method_info, param_info, table_of}
use Rattle.par_compile.specs.Own.{AreNamed}

letter-plain : (b : ℕ) → is_letter b ≡ true → (nat_lt 0 b && nat_lt b 128) ≡ true
letter-plain b h = grind arith

goes-plain : (b : ℕ) → goes_on b ≡ true → (nat_lt 0 b && nat_lt b 128) ≡ true
goes-plain b h = grind arith

all-plain : (bs : List ℕ) → list_all goes_on bs ≡ true → is_plain bs ≡ true
all-plain [] h = refl
all-plain (b ∷ bs) h =
    let both = and_parts (goes_on b) (list_all goes_on bs) h in
    and_from _ _ (goes-plain b both.0) (all-plain bs both.1)

spelled-plain : (bs : List ℕ) → is_spelled bs ≡ true → is_plain bs ≡ true
spelled-plain [] h = refl
spelled-plain (b ∷ bs) h =
    let both = and_parts (is_letter b) (list_all goes_on bs) h in
    and_from _ _ (letter-plain b both.0) (all-plain bs both.1)

-- plain bytes, at most so many
record IsPlainUpTo (most : ℕ) (text : List ℕ) : Type 0 where
  plain : is_plain text ≡ true
  few : length text ≤ most

up-to : (most more : ℕ) (text : List ℕ) → most ≤ more → IsPlainUpTo most text
    → IsPlainUpTo more text
up-to most more text le h = record { plain = h.plain; few = omega (arith, h.few, le) }

joined : (most more : ℕ) (text other : List ℕ) → IsPlainUpTo most text → IsPlainUpTo more other
    → IsPlainUpTo (most + more) (text ++ other)
joined most more text other h k = record {
  plain =
      list_all-append (λ byte. nat_lt 0 byte && nat_lt byte 128) text other
      ∙ and_from _ _ h.plain k.plain;
  few = omega (arith, length-append text other, h.few, k.few);
}

text-of : (most : ℕ) (text : List ℕ) → most ≤ 65535 → IsPlainUpTo most text → IsText text
text-of most text le h = record { short = omega (arith, h.few, le); plain = h.plain }

named-up-to : (n : List ℕ) → IsName n → IsPlainUpTo 64 n
named-up-to n h = record { plain = spelled-plain n h.spelled; few = h.short }

-- a name is a text of a pool
pub name_text : (n : List ℕ) → IsName n → IsText n
name_text n h = text-of 64 n (omega arith) (named-up-to n h)

module _ (p : Plain) (named : AreNamed p) where
  word-of : (c : ℕ) (o : Option PlainClass) → slice_get p.classes c ≡ o
      → IsPlainUpTo 64 (of_class (option_map class_info o) (λ class. class.name))
  word-of c None e = record { plain = refl; few = omega arith }
  word-of c (Some k) e =
      named-up-to k.name
      (subst (λ (x : PlainClass). IsName x.name)
      (get_or_from_slice_get p.classes c k k e)
      (named c k (slice_get_within p.classes c k e)))

  word : (c : ℕ) → IsPlainUpTo 64 (class_word (table_of p) c)
  word c =
      subst (λ o. IsPlainUpTo 64 (of_class o (λ class. class.name)))
      (sym (slice_get-map class_info p.classes c))
      (word-of c (slice_get p.classes c) refl)

  type-up-to : (t : Ty) → IsPlainUpTo 66 (descriptor (table_of p) t)
  type-up-to ty.Int = record { plain = refl; few = omega arith }
  type-up-to ty.Boolean = record { plain = refl; few = omega arith }
  type-up-to (ty.Class c) =
      let head : IsPlainUpTo 1 (codes "L") = record { plain = refl; few = omega arith } in
      let end : IsPlainUpTo 1 (codes ";") = record { plain = refl; few = omega arith } in
      joined 65 1 (codes "L" ++ class_word (table_of p) c) (codes ";")
      (joined 1 64 (codes "L") (class_word (table_of p) c) head (word c)) end
  type-up-to ty.Null = record { plain = refl; few = omega arith }
  type-up-to ty.Void = record { plain = refl; few = omega arith }

  types-up-to : (ps : List ParamInfo)
      → IsPlainUpTo (66 * length ps) (descriptors (table_of p) ps)
  types-up-to [] = record { plain = refl; few = omega arith }
  types-up-to (q ∷ ps) =
      up-to (66 + 66 * length ps) (66 * length (q ∷ ps)) _ (omega arith)
      (joined 66 (66 * length ps) (descriptor (table_of p) q.ty) (descriptors (table_of p) ps)
      (type-up-to q.ty) (types-up-to ps))

  -- a descriptor of a field is one
  pub type_text : (t : Ty) → IsText (descriptor (table_of p) t)
  type_text t = text-of 66 (descriptor (table_of p) t) (omega arith) (type-up-to t)

  method-up-to : (m : MethodInfo)
      → IsPlainUpTo (68 + 66 * length m.params) (method_descriptor (table_of p) m)
  method-up-to m =
      let open_ : IsPlainUpTo 1 (codes "(") = record { plain = refl; few = omega arith } in
      let close : IsPlainUpTo 1 (codes ")") = record { plain = refl; few = omega arith } in
      let taken = descriptors (table_of p) m.params in
      let many = 66 * length m.params in
      up-to (((1 + many) + 1) + 66) (68 + many) _ (omega arith)
      (joined ((1 + many) + 1) 66 ((codes "(" ++ taken) ++ codes ")") _
      (joined (1 + many) 1 (codes "(" ++ taken) (codes ")")
      (joined 1 many (codes "(") taken open_ (types-up-to m.params)) close)
      (type-up-to m.result))

  -- and that of a method
  pub method_text : (m : PlainMethod) → length m.params ≤ 16
      → IsText (method_descriptor (table_of p) (method_info m))
  method_text m le =
      let same = length-map m.params param_info in
      text-of (68 + 66 * length (map param_info m.params)) _ (omega (arith, le, same))
      (method-up-to (method_info m))
