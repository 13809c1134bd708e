-- Names and descriptors of a table are texts of a constant pool.
use Rattle.std.proofs.Common.{◌≡◌, ℕ, ◌+◌, ◌*◌, ◌≤◌, Bool, true, false, List, [], ◌∷◌, ◌++◌, length}
use Rattle.std.proofs.Common.{map, codes, Option, Some, None, refl, subst, ◌∙◌, arith}
use Rattle.std.specs.Prelude.{◌&&◌, nat_lt, slice_get, if◌then◌else◌}
use Rattle.std.specs.List.{AllByRecursion, list_all}
use Rattle.std.proofs.lemmas.Bool.{and_parts, and_from}
use Rattle.std.proofs.lemmas.List.{length-append, length-map}
use Rattle.std.proofs.lemmas.List.Elements.{All-from_recursion}
use Rattle.std.proofs.lemmas.List.Folds.{list_all-append}
use Rattle.std.proofs.lemmas.Option.{slice_get_within, get_or_from_slice_get}
use Rattle.par_base.specs.Names.{IsName, is_letter, is_spelled, goes_on}
use Rattle.par_pool.specs.Spelling.{is_plain, IsText}
use Rattle.par_typed.specs.declared.ty.Ty.{Ty}
use Rattle.par_typed.specs.declared.ty.Ty.TheVariants as ty
use Rattle.par_typed.specs.declared.table.ChannelInfo.{ChannelInfo}
use Rattle.par_typed.specs.declared.table.ClassInfo.{ClassInfo}
use Rattle.par_typed.specs.declared.table.FieldInfo.{FieldInfo}
use Rattle.par_typed.specs.declared.table.MethodInfo.{MethodInfo}
use Rattle.par_typed.specs.declared.table.ParamInfo.{ParamInfo}
use Rattle.par_typed.specs.declared.table.Table.{Table}
use Rattle.par_erase.specs.Named.{IsNamed, AreNamed}
use Rattle.par_erase.specs.Erased.{erased_table, erased_class, erased_method, erased_param}
use Rattle.par_code_form.specs.Named.{of_class, of_field, of_channel, of_method}
use Rattle.par_code_form.specs.Named.{class_word}
use Rattle.par_code_form.specs.Named.{descriptor, descriptors, method_descriptor}
use Rattle.par_code_form.specs.Named.{words_of}
use Rattle.par_code_form.specs.PoolNames.{is_builtin, full_name}
use Rattle.par_typed_laws.specs.Limits.{TakesFew, HaveFewParams, HasFewParams}
use Rattle.par_source_code_laws.specs.Texts.{AreTexts}
use Rattle.par_source_code_laws.specs.PlaceableLaws.{WordsAreTexts}

-- ---- plain bytes

letter_plain : (b : ℕ) → is_letter b ≡ true → (nat_lt 0 b && nat_lt b 128) ≡ true
letter_plain b h = grind arith

goes_plain : (b : ℕ) → goes_on b ≡ true → (nat_lt 0 b && nat_lt b 128) ≡ true
goes_plain b h = grind arith

all_plain : (bs : List ℕ) → list_all goes_on bs ≡ true → is_plain bs ≡ true
all_plain [] h = refl
all_plain (b ∷ bs) h =
    let both = and_parts (goes_on b) (list_all goes_on bs) h in
    and_from _ _ (goes_plain b both.0) (all_plain bs both.1)

spelled_plain : (bs : List ℕ) → is_spelled bs ≡ true → is_plain bs ≡ true
spelled_plain [] h = refl
spelled_plain (b ∷ bs) h =
    let both = and_parts (is_letter b) (list_all goes_on bs) h in
    and_from _ _ (letter_plain b both.0) (all_plain bs both.1)

-- plain bytes, at most so many
record IsShort (most : ℕ) (text : List ℕ) : Type 0 where
  plain : is_plain text ≡ true
  few : length text ≤ most

weaker : (most more : ℕ) (text : List ℕ) → most ≤ more → IsShort most text → IsShort more text
weaker most more text le h = record { plain = h.plain; few = omega (arith, h.few, le) }

joined : (most more : ℕ) (text other : List ℕ) → IsShort most text → IsShort more other
    → IsShort (most + more) (text ++ other)
joined most more text other h k = record {
  plain =
      list_all-append (λ byte. nat_lt 0 byte && nat_lt byte 128) text other
      ∙ and_from _ _ h.plain k.plain;
  few = omega (arith, length-append text other, h.few, k.few);
}

text_of : (most : ℕ) (text : List ℕ) → most ≤ 65535 → IsShort most text → IsText text
text_of most text le h = record { short = omega (arith, h.few, le); plain = h.plain }

named : (n : List ℕ) → IsName n → IsShort 64 n
named n h = record { plain = spelled_plain n h.spelled; few = h.short }

empty : (most : ℕ) → IsShort most []
empty most = record { plain = refl; few = omega arith }

either : {A : Type 0} (P : A → Type 0) (b : Bool) (x y : A) → P x → P y
    → P (if b then x else y)
either P true x y p q = p
either P false x y p q = q

full : (n : List ℕ) → IsShort 64 n → IsText (full_name n)
full n h =
    let front : IsShort 10 (codes "java/lang/") = record { plain = refl; few = omega arith } in
    either IsText (is_builtin n) (codes "java/lang/" ++ n) n
    (text_of 74 (codes "java/lang/" ++ n) (omega arith)
    (joined 10 64 (codes "java/lang/") n front h))
    (text_of 64 n (omega arith) h)

-- what stands at a place
at : {X : Type 0} (P : X → Type 0) (xs : List X) (i : ℕ) (x : X) → AllByRecursion P xs
    → slice_get xs i ≡ Some x → P x
at P xs i x h e =
    subst P (get_or_from_slice_get xs i x x e)
    (All-from_recursion P xs h i x (slice_get_within xs i x e))

module _ (t : Table) (names : AreNamed t) where
  -- ---- descriptors

  word_at : (c : ℕ) (o : Option ClassInfo) → slice_get t.classes c ≡ o
      → IsShort 64 (of_class o (λ class. class.name))
  word_at c None e = empty 64
  word_at c (Some k) e = named k.name (at IsNamed t.classes c k names.classes e).name

  word : (c : ℕ) → IsShort 64 (class_word t c)
  word c = word_at c (slice_get t.classes c) refl

  type_short : (u : Ty) → IsShort 66 (descriptor t u)
  type_short ty.Int = record { plain = refl; few = omega arith }
  type_short ty.Boolean = record { plain = refl; few = omega arith }
  type_short (ty.Class c) =
      let head : IsShort 1 (codes "L") = record { plain = refl; few = omega arith } in
      let end : IsShort 1 (codes ";") = record { plain = refl; few = omega arith } in
      joined 65 1 (codes "L" ++ class_word t c) (codes ";")
      (joined 1 64 (codes "L") (class_word t c) head (word c)) end
  type_short ty.Null = empty 66
  type_short ty.Void = record { plain = refl; few = omega arith }

  types_short : (ps : List ParamInfo) → IsShort (66 * length ps) (descriptors t ps)
  types_short [] = empty (66 * length {A = ParamInfo} [])
  types_short (q ∷ ps) =
      weaker (66 + 66 * length ps) (66 * length (q ∷ ps)) _ (omega arith)
      (joined 66 (66 * length ps) (descriptor t q.ty) (descriptors t ps) (type_short q.ty)
      (types_short ps))

  method_short : (m : MethodInfo) → IsShort (68 + 66 * length m.params) (method_descriptor t m)
  method_short m =
      let front : IsShort 1 (codes "(") = record { plain = refl; few = omega arith } in
      let close : IsShort 1 (codes ")") = record { plain = refl; few = omega arith } in
      let taken = descriptors t m.params in
      let many = 66 * length m.params in
      weaker (((1 + many) + 1) + 66) (68 + many) _ (omega arith)
      (joined ((1 + many) + 1) 66 ((codes "(" ++ taken) ++ codes ")") (descriptor t m.result)
      (joined (1 + many) 1 (codes "(" ++ taken) (codes ")")
      (joined 1 many (codes "(") taken front (types_short m.params)) close)
      (type_short m.result))

  -- ---- members

  field_name : (k : ClassInfo) → IsNamed k → (f : ℕ) (o : Option FieldInfo)
      → slice_get k.fields f ≡ o → IsShort 64 (of_field o (λ field. field.name))
  field_name k n f None e = empty 64
  field_name k n f (Some i) e =
      named i.name (at (λ (field : FieldInfo). IsName field.name) k.fields f i n.fields e)

  field_type : (o : Option FieldInfo) → IsShort 66 (of_field o (λ field. descriptor t field.ty))
  field_type None = empty 66
  field_type (Some i) = type_short i.ty

  channel_name : (k : ClassInfo) → IsNamed k → (i : ℕ) (o : Option ChannelInfo)
      → slice_get k.channels i ≡ o → IsShort 64 (of_channel o (λ channel. channel.name))
  channel_name k n i None e = empty 64
  channel_name k n i (Some x) e =
      named x.name (at (λ (channel : ChannelInfo). IsName channel.name) k.channels i x n.channels e)

  method_name : (k : ClassInfo) → IsNamed k → (i : ℕ) (o : Option MethodInfo)
      → slice_get k.methods i ≡ o → IsShort 64 (of_method o (λ method. method.name))
  method_name k n i None e = empty 64
  method_name k n i (Some x) e =
      named x.name (at (λ (method : MethodInfo). IsName method.name) k.methods i x n.methods e)

  method_type : (k : ClassInfo) → HaveFewParams k → (i : ℕ) (o : Option MethodInfo)
      → slice_get k.methods i ≡ o → IsShort 1124 (of_method o (method_descriptor t))
  method_type k n i None e = empty 1124
  method_type k n i (Some x) e =
      let few = at TakesFew k.methods i x n e in
      weaker (68 + 66 * length x.params) 1124 (method_descriptor t x) (omega (arith, few))
      (method_short x)

  module _ (few : HasFewParams t) where
    in_class : (c most : ℕ) (says : ClassInfo → List ℕ) (o : Option ClassInfo)
        → slice_get t.classes c ≡ o
        → ((k : ClassInfo) → IsNamed k → HaveFewParams k → IsShort most (says k))
        → IsShort most (of_class o says)
    in_class c most says None e f = empty most
    in_class c most says (Some k) e f =
        f k (at IsNamed t.classes c k names.classes e) (at HaveFewParams t.classes c k few e)

    short_in : (c most : ℕ) (says : ClassInfo → List ℕ) → most ≤ 65535
        → ((k : ClassInfo) → IsNamed k → HaveFewParams k → IsShort most (says k))
        → IsText (of_class (slice_get t.classes c) says)
    short_in c most says le f =
        text_of most (of_class (slice_get t.classes c) says) le
        (in_class c most says (slice_get t.classes c) refl f)

    all_texts : AreTexts (words_of t)
    all_texts = record {
      class = λ c. full (class_word t c) (word c);
      field = λ c f.
          short_in c 64 _ (omega arith)
          (λ k n p. field_name k n f (slice_get k.fields f) refl);
      field_type = λ c f.
          short_in c 66 _ (omega arith) (λ k n p. field_type (slice_get k.fields f));
      channel = λ c i.
          short_in c 64 _ (omega arith)
          (λ k n p. channel_name k n i (slice_get k.channels i) refl);
      method = λ c i.
          short_in c 64 _ (omega arith)
          (λ k n p. method_name k n i (slice_get k.methods i) refl);
      method_type = λ c i.
          short_in c 1124 _ (omega arith)
          (λ k n p. method_type k p i (slice_get k.methods i) refl);
    }

-- ---- without policies

methods_kept : (ms : List MethodInfo) → AllByRecursion TakesFew ms
    → AllByRecursion TakesFew (map erased_method ms)
methods_kept [] h = tt
methods_kept (m ∷ ms) h =
    let same = length-map m.params erased_param in
    (omega (arith, h.0, same), methods_kept ms h.1)

classes_kept : (cs : List ClassInfo) → AllByRecursion HaveFewParams cs
    → AllByRecursion HaveFewParams (map erased_class cs)
classes_kept [] h = tt
classes_kept (c ∷ cs) h = (methods_kept c.methods h.0, classes_kept cs h.1)

pub words_are_texts : WordsAreTexts
words_are_texts t names few = all_texts (erased_table t) names (classes_kept t.classes few)
