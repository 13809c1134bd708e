-- Each item of a class file is read exactly.
use Rattle.std.proofs.Common.{◌≡◌, ℕ, ◌+◌, ◌^◌, ◌<◌, ◌≤◌, List, ◌++◌, length, length-drop, drop}
use Rattle.std.proofs.Common.{ltb, Ok, refl, sym, ap, subst, arith}
use Rattle.std.specs.Prelude.{IsTrue}
use Rattle.std.specs.List.{flat_map, AllByRecursion}
use Rattle.std.proofs.lemmas.Bool.{leb-true, ltb-false, and_parts}
use Rattle.byteorder.specs.Endian.{big_number}
use Rattle.par_pool.specs.declared.constant.Constant.{Constant}
use Rattle.par_pool.specs.declared.error.ClassError.{ClassError}
use Rattle.par_pool.specs.declared.error.ClassError.TheVariants.{Shape, Index}
use Rattle.par_pool.specs.Entries.{entry_at}
use Rattle.par_pool.specs.Spelling.{u2, u4, is_text, is_class}
use Rattle.par_pool.specs.Reading.{Reader, number_at, u2_at}
use Rattle.par_pool.proofs.Exact.{Exact, guard_ok, exact_u2, exact_u4, exact_bytes, exact_both}
use Rattle.par_pool.proofs.Exact.{exact_made, exact_tested, exact_keyed}
use Rattle.par_pool.proofs.Items.{exact_items}
use Rattle.par_pool.proofs.Spelled.{exact_same}
use Rattle.par_class.specs.declared.file.Attribute.{Attribute}
use Rattle.par_class.specs.declared.file.Catch.{Catch}
use Rattle.par_class.specs.declared.file.CodeAttr.{CodeAttr}
use Rattle.par_class.specs.Spelling.{counted, sized, attribute, catch, code, field, covers}
use Rattle.par_class.specs.Spelling.{catches_class, is_code_length, IsTextIndex, IsClassIndex}
use Rattle.par_class.specs.Spelling.{AllFit, FitsAttribute, FitsCatch, FitsCode, FitsField}
use Rattle.par_class.specs.Reading.{place, at, list_at, sized_at, text_index_at, class_index_at}
use Rattle.par_class.specs.Reading.{attribute_at, attributes_at, numbers_at, catch_at, catches_at}
use Rattle.par_class.specs.Reading.{code_length_at, instructions_at, handled_at, code_at, field_at}
use Rattle.par_class.specs.Reading.{fields_at}

pub exact_list : {A : Type 0} {F : A → Type 0} {p : A → List ℕ} {r : Reader A} (short : ClassError)
    → Exact F p r → Exact (AllFit F) (λ xs. counted p xs) (list_at short r)
exact_list {F = F} {p = p} short one =
    exact_keyed {G = λ xs. AllByRecursion F xs} {q = λ xs. flat_map p xs} (λ xs. length xs)
    (exact_u2 short) (λ n h. exact_items (λ _. one) n 0)

pub exact_sized : (short : ClassError)
    → Exact (λ bytes. length bytes < 2 ^ 32) sized (sized_at short)
exact_sized short =
    exact_same (λ bytes. length bytes < 2 ^ 32) sized (λ bytes h. h.0) (λ bytes h. ((h, tt), refl))
    (exact_keyed {G = λ _. Unit {0}} {q = λ bytes. bytes} (λ bytes. length bytes) (exact_u4 short)
    (λ n h. exact_same (λ bytes. (length bytes ≡ n) × Unit {0}) (λ bytes. bytes)
    (λ bytes e. (e, tt)) (λ bytes e. (e.0, refl)) (exact_bytes short n)))

module _ (entries : List Constant) (short : ClassError) (end : ℕ) where
  pub exact_text_index : Exact (IsTextIndex entries) u2 (text_index_at entries short end)
  unfolding text_index_at
  exact_text_index =
      exact_tested (λ index. is_text (entry_at entries index)) (at Index end) (exact_u2 short)

  pub exact_class_index : Exact (IsClassIndex entries) u2 (class_index_at entries short end)
  unfolding class_index_at
  exact_class_index =
      exact_tested (λ index. is_class (entry_at entries index)) (at Index end) (exact_u2 short)

  pub exact_attribute : Exact (FitsAttribute entries) attribute (attribute_at entries short end)
  unfolding attribute_at attribute
  exact_attribute =
      exact_made (FitsAttribute entries) (λ a. record { name = a.0; bytes = a.1 })
      (λ a. (a.name, a.bytes))
      (λ a h. (refl, record { name = h.0; size = h.1 })) (λ a h. (refl, (h.name, h.size)))
      (exact_both exact_text_index (exact_sized short))

  pub exact_attributes : Exact (AllFit (FitsAttribute entries)) (λ xs. counted attribute xs)
      (attributes_at entries short end)
  unfolding attributes_at
  exact_attributes = exact_list short exact_attribute

  exact-numbers : Exact (λ c. (c.start < 2 ^ 16)
      × ((c.end < 2 ^ 16) × ((c.handler < 2 ^ 16) × (c.class < 2 ^ 16)))) catch (numbers_at short)
  unfolding numbers_at catch
  exact-numbers =
      exact_made (λ c. (c.start < 2 ^ 16)
      × ((c.end < 2 ^ 16) × ((c.handler < 2 ^ 16) × (c.class < 2 ^ 16))))
      (λ c. record { start = c.0; end = c.1.0; handler = c.1.1.0; class = c.1.1.1 })
      (λ c. (c.start, (c.end, (c.handler, c.class))))
      (λ c h. (refl, h)) (λ c h. (refl, h))
      (exact_both (exact_u2 short)
      (exact_both (exact_u2 short) (exact_both (exact_u2 short) (exact_u2 short))))

  exact-catch : (len : ℕ) → Exact (FitsCatch entries len) catch (catch_at entries short end len)
  unfolding catch_at
  exact-catch len =
      exact_same (FitsCatch entries len) catch
      (λ c h. record {
        start = h.0.0.0;
        end = h.0.0.1.0;
        handler = h.0.0.1.1.0;
        class = (h.0.0.1.1.1, h.1);
        range = h.0.1;
      })
      (λ c h. ((((h.start, (h.end, (h.handler, h.class.0))), h.range), h.class.1), refl))
      (exact_tested (λ c. catches_class entries c.class) (λ _ bytes. Index (place end bytes + 6))
      (exact_tested (covers len) (at Shape end) exact-numbers))

  exact-catches : (len : ℕ) → Exact (AllFit (FitsCatch entries len)) (λ xs. counted catch xs)
      (catches_at entries short end len)
  unfolding catches_at
  exact-catches len = exact_list short (exact-catch len)

  exact-code_length : Exact (λ n. (n < 2 ^ 32) × IsTrue (is_code_length n)) u4
      (code_length_at short end)
  unfolding code_length_at
  exact-code_length = exact_tested is_code_length (at Shape end) (exact_u4 short)

  -- the limits and the code bytes
  abbrev Head : Type 0
  Head = ℕ × (ℕ × List ℕ)

  abbrev FitsHead : Head → Type 0
  FitsHead h =
      (h.0 < 2 ^ 16) × ((h.1.0 < 2 ^ 16)
      × (((length h.1.1 < 2 ^ 32) × IsTrue (is_code_length (length h.1.1))) × Unit {0}))

  abbrev head : Head → List ℕ
  head h = u2 h.0 ++ (u2 h.1.0 ++ sized h.1.1)

  exact-instructions : Exact FitsHead head (instructions_at short end)
  unfolding instructions_at
  exact-instructions =
      exact_both (exact_u2 short) (exact_both (exact_u2 short)
      (exact_keyed {G = λ _. Unit {0}} {q = λ bytes. bytes}
      (λ bytes. length bytes) exact-code_length
      (λ n h. exact_same (λ bytes. (length bytes ≡ n) × Unit {0}) (λ bytes. bytes)
      (λ bytes e. (e, tt)) (λ bytes e. (e.0, refl)) (exact_bytes short n))))

  abbrev head_of : CodeAttr → Head
  head_of c = (c.max_stack, (c.max_locals, c.code))

  abbrev FitsHandled : CodeAttr → Type 0
  FitsHandled c =
      AllFit (FitsCatch entries (length c.code)) c.catches
      × AllFit (FitsAttribute entries) c.attributes

  abbrev code_with : Head → List Catch × List Attribute → CodeAttr
  code_with h c =
      record { max_stack = h.0; max_locals = h.1.0; code = h.1.1; catches = c.0; attributes = c.1 }

  exact-handled : (h : Head) → Exact (λ c. (head_of c ≡ h) × FitsHandled c)
      (λ c. counted catch c.catches ++ counted attribute c.attributes)
      (handled_at entries short end h)
  unfolding handled_at
  exact-handled h =
      exact_made (λ c. (head_of c ≡ h) × FitsHandled c) (code_with h)
      (λ c. (c.catches, c.attributes))
      (λ c fits. (refl, (refl, fits)))
      (λ c fits. (
        ap (λ (k : Head). code_with k (c.catches, c.attributes)) (sym fits.0),
        subst (λ (k : Head). AllFit (FitsCatch entries (length k.1.1)) c.catches
            × AllFit (FitsAttribute entries) c.attributes) fits.0 fits.1,
      ))
      (exact_both (exact-catches (length h.1.1)) exact_attributes)

  below-32 : (n : ℕ) → IsTrue (is_code_length n) → n < 2 ^ 32
  below-32 n h = omega (arith, leb-true n 65535 (and_parts _ _ h).1)

  pub exact_code : Exact (FitsCode entries) code (code_at entries short end)
  unfolding code_at code
  exact_code =
      exact_same (FitsCode entries) code
      (λ c h. record {
        max_stack = h.0.0;
        max_locals = h.0.1.0;
        length_ = h.0.1.1.0.1;
        catches = h.1.0;
        attributes = h.1.1;
      })
      (λ c h. (
        (
          (h.max_stack, (h.max_locals, ((below-32 (length c.code) h.length_, h.length_), tt))),
          (h.catches, h.attributes),
        ),
        refl,
      ))
      (exact_keyed {G = FitsHandled}
      {q = λ c. counted catch c.catches ++ counted attribute c.attributes} head_of
      exact-instructions (λ h fits. exact-handled h))

  pub exact_field : Exact (FitsField entries) field (field_at entries short end)
  unfolding field_at field
  exact_field =
      exact_made (FitsField entries)
      (λ f. record { access = f.0; name = f.1.0; descriptor = f.1.1.0; attributes = f.1.1.1 })
      (λ f. (f.access, (f.name, (f.descriptor, f.attributes))))
      (λ f h. (
        refl,
        record { access = h.0; name = h.1.0; descriptor = h.1.1.0; attributes = h.1.1.1 },
      )) (λ f h. (refl, (h.access, (h.name, (h.descriptor, h.attributes)))))
      (exact_both (exact_u2 short)
      (exact_both exact_text_index (exact_both exact_text_index exact_attributes)))

  pub exact_fields : Exact (AllFit (FitsField entries)) (λ xs. counted field xs)
      (fields_at entries short end)
  unfolding fields_at
  exact_fields = exact_list short exact_field

-- a number of two bytes that was read stood before what is left
pub u2-long : (short : ClassError) (bytes : List ℕ) (x : ℕ × List ℕ) → u2_at short bytes ≡ Ok x
    → length bytes ≡ 2 + length x.1
unfolding number_at
u2-long short bytes x e =
    let g = guard_ok (ltb (length bytes) 2) short (big_number 2 bytes, drop 2 bytes) x e in
    let long : 2 ≤ length bytes = ltb-false _ _ g.0 in
    let rest : length x.1 ≡ length (drop 2 bytes) = ap (λ (y : ℕ × List ℕ). length y.1) (sym g.1) in
    omega (arith, rest, length-drop 2 bytes)
