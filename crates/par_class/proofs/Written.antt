-- What is written spells the file: code may come first, under the least index of its name.
use Rattle.std.proofs.Common.{◌≡◌, ℕ, zero, suc, ◌+◌, ◌^◌, ◌<◌, ◌≤◌, Bool, true, false, cond, eqb}
use Rattle.std.proofs.Common.{List, [], ◌∷◌, ◌++◌, length, map, get_or, Option, Some, None, refl}
use Rattle.std.proofs.Common.{sym, ap, subst, ◌∙◌, add-one, inl, inr, arith}
use Rattle.std.specs.Prelude.{IsTrue, IfSome, count_by, codes, slice_get}
use Rattle.std.specs.List.{flat_map, All, AllByRecursion, position_or_len}
use Rattle.par_pool.specs.declared.constant.Constant.{Constant}
use Rattle.par_pool.specs.declared.constant.Constant.TheVariants.{Utf8, Integer, Class, Text, Field}
use Rattle.par_pool.specs.declared.constant.Constant.TheVariants.{Method, NameType}
use Rattle.par_pool.specs.Entries.{entry_at}
use Rattle.par_pool.specs.Spelling.{u2, is_text}
use Rattle.par_class.specs.declared.file.Attribute.{Attribute}
use Rattle.par_class.specs.declared.file.CodeAttr.{CodeAttr}
use Rattle.par_class.specs.declared.file.FieldFile.{FieldFile}
use Rattle.par_class.specs.declared.file.MethodFile.{MethodFile}
use Rattle.par_class.specs.declared.file.ClassFile.{ClassFile}
use Rattle.par_class.specs.declared.file.Piece.{Piece}
use Rattle.par_class.specs.declared.file.Piece.TheVariants.{Plain, Code}
use Rattle.par_class.specs.Layout as laid
use Rattle.par_class.specs.Layout.{Layout, later, code_in, others_in, method_of, file_of}
use Rattle.par_class.specs.Spelling.{counted, attribute, piece, field, method, front, back, layout}
use Rattle.par_class.specs.Spelling.{is_named, names_code, is_code, is_native, IsTextIndex}
use Rattle.par_class.specs.Spelling.{FitsAttribute, FitsPiece, FitsField, FitsMethod, IsLayout}
use Rattle.par_class.specs.Spelling.{Spells}
use Rattle.par_class.specs.Writing.{least_code, code_piece, pieces_of, method_laid, layout_of}
use Rattle.par_class.specs.Writing.{parts, each_method, back_with, IsSized, SizedCode, SizedField}
use Rattle.par_class.specs.Writing.{SizedMethod, SizedFile}
use Rattle.std.proofs.lemmas.List.Concat.{flat_map-cons, flat_map-append}
use Rattle.std.proofs.lemmas.List.Sums.{sum_by-cons}
use Rattle.std.proofs.lemmas.List.Elements.{All-from_recursion, All-weaker}
use Rattle.std.proofs.lemmas.Bool.{cases_Bool, false≢true, eqb-true, leb-true, and_parts}
use Rattle.std.proofs.lemmas.Option.{none-some, same_Some, slice_get_within, slice_get-get_or}
use Rattle.std.proofs.lemmas.Option.{get_or_from_slice_get}

-- ---- spellings, part by part

plain-are : (xs : List Attribute) → flat_map piece (map (λ a. Plain a) xs) ≡ flat_map attribute xs
unfolding piece
plain-are [] = refl
plain-are (a ∷ xs) =
    flat_map-cons piece (Plain a) (map (λ a. Plain a) xs)
    ∙ ap (λ (text : List ℕ). attribute a ++ text) (plain-are xs)
    ∙ sym (flat_map-cons attribute a xs)

code-length : (m n : ℕ) (o : Option CodeAttr) (xs : List Piece)
    → length (code_piece m o ++ xs) ≡ length (code_piece n o ++ xs)
code-length m n None xs = refl
code-length m n (Some c) xs = refl

pub parts_are : (name : ℕ) (m : MethodFile) → parts name m ≡ counted piece (pieces_of name m)
parts_are name m =
    let others = map (λ a. Plain a) m.attributes in
    let spelled : flat_map piece (code_piece name m.code) ++ flat_map attribute m.attributes
    ≡ flat_map piece (pieces_of name m) =
    ap (λ (text : List ℕ). flat_map piece (code_piece name m.code) ++ text)
    (sym (plain-are m.attributes)) ∙ sym (flat_map-append piece (code_piece name m.code) others) in
    ap
    (λ (n : ℕ). u2 n ++ (flat_map piece (code_piece name m.code)
    ++ flat_map attribute m.attributes)) (code-length 0 name m.code others)
    ∙ ap (λ (text : List ℕ). u2 (length (pieces_of name m)) ++ text) spelled

methods-are : (name : ℕ) (ms : List MethodFile)
    → flat_map (λ m. method (method_laid name m)) ms ≡ flat_map method (map (method_laid name) ms)
methods-are name [] = refl
methods-are name (m ∷ ms) =
    flat_map-cons (λ m. method (method_laid name m)) m ms
    ∙ ap (λ (text : List ℕ). method (method_laid name m) ++ text) (methods-are name ms)
    ∙ sym (flat_map-cons method (method_laid name m) (map (method_laid name) ms))

map-length : {A B : Type 0} (f : A → B) (xs : List A) → length (map f xs) ≡ length xs
map-length f [] = refl
map-length f (x ∷ xs) = ap suc (map-length f xs)

each-are : (name : ℕ) (ms : List MethodFile)
    → each_method name ms ≡ counted method (map (method_laid name) ms)
each-are name ms =
    ap (λ (n : ℕ). u2 n ++ flat_map (λ m. method (method_laid name m)) ms)
    (sym (map-length (method_laid name) ms))
    ∙ ap (λ (text : List ℕ). u2 (length (map (method_laid name) ms)) ++ text) (methods-are name ms)

pub back_is : (f : ClassFile) → back_with (least_code f.pool.entries) f ≡ back (layout_of f)
unfolding back_with
back_is f =
    ap (λ (text : List ℕ). u2 f.access
    ++ (u2 f.this_class ++ (u2 f.super_class
    ++ (u2 0 ++ (counted field f.fields ++ (text ++ counted attribute f.attributes))))))
    (each-are (least_code f.pool.entries) f.methods)

pub laid_is : (f : ClassFile)
    → front (layout_of f) ++ back_with (least_code f.pool.entries) f ≡ layout (layout_of f)
unfolding layout
laid_is f = ap (λ (text : List ℕ). front (layout_of f) ++ text) (back_is f)

-- ---- the same method, its code first

others-again : (xs : List Attribute)
    → (code_in (map (λ a. Plain a) xs) ≡ None) × (others_in (map (λ a. Plain a) xs) ≡ xs)
unfolding code_in others_in
others-again [] = (refl, refl)
others-again (a ∷ xs) =
    ((others-again xs).0, ap (λ (rest : List Attribute). a ∷ rest) (others-again xs).1)

pieces-again : (name : ℕ) (o : Option CodeAttr) (xs : List Attribute)
    → (code_in (code_piece name o ++ map (λ a. Plain a) xs) ≡ o)
    × (others_in (code_piece name o ++ map (λ a. Plain a) xs) ≡ xs)
unfolding code_in others_in
pieces-again name None xs = others-again xs
pieces-again name (Some c) xs =
    (ap (λ (o : Option CodeAttr). Some (later o c)) (others-again xs).0, (others-again xs).1)

method-again : (name : ℕ) (m : MethodFile) → method_of (method_laid name m) ≡ m
method-again name m =
    let again = pieces-again name m.code m.attributes in
    ap (λ (o : Option CodeAttr). record m { code = o; attributes = others_in (pieces_of name m) })
    again.0
    ∙ ap (λ (xs : List Attribute). record m { attributes = xs }) again.1

methods-again : (name : ℕ) (ms : List MethodFile) → map method_of (map (method_laid name) ms) ≡ ms
methods-again name [] = refl
methods-again name (m ∷ ms) =
    ap (λ (x : MethodFile). x ∷ map method_of (map (method_laid name) ms)) (method-again name m)
    ∙ ap (λ (rest : List MethodFile). m ∷ rest) (methods-again name ms)

file-again : (f : ClassFile) → file_of (layout_of f) ≡ f
file-again f =
    ap (λ (ms : List MethodFile). record f { methods = ms })
    (methods-again (least_code f.pool.entries) f.methods)

-- ---- the least index of a text

module _ (p : Constant → Bool) where
  later-place : (x : Constant) (xs : List Constant) (i : ℕ) (d : Constant)
      → ((j : ℕ) → j < length xs → p (get_or xs j d) ≡ true
      → (position_or_len p xs < length xs) × (p (get_or xs (position_or_len p xs) d) ≡ true))
      → p x ≡ false → i < length (x ∷ xs) → p (get_or (x ∷ xs) i d) ≡ true
      → (position_or_len p xs < length xs) × (p (get_or xs (position_or_len p xs) d) ≡ true)
  later-place x xs zero d again e lt h = absurd (false≢true (sym e ∙ h))
  later-place x xs (suc i) d again e lt h = again i (omega (arith, lt)) h

  first-found : (xs : List Constant) (i : ℕ) (d : Constant) → i < length xs
      → p (get_or xs i d) ≡ true → (position_or_len p xs < length xs)
      × (p (get_or xs (position_or_len p xs) d) ≡ true)
  first-found [] i d lt h = absurd (omega (arith, lt))
  first-found (x ∷ xs) i d lt h =
      elim (cases_Bool (p x)) [
        | inl e ↦
            let k : position_or_len p (x ∷ xs) ≡ 0 = rw e refl in
            rw k (omega arith, e)
        | inr e ↦
            let k : position_or_len p (x ∷ xs) ≡ suc (position_or_len p xs) = rw e (omega arith) in
            let rest = later-place x xs i d (λ j. first-found xs j d) e lt h in
            rw k (omega (arith, rest.0), rest.1)
      ]

named-is_text : (text : List ℕ) (c : Constant) → is_named text (Some c) ≡ true
    → is_text (Some c) ≡ true
named-is_text text (Utf8 bytes) h = refl
named-is_text text (Integer n) h = absurd (false≢true h)
named-is_text text (Class n) h = absurd (false≢true h)
named-is_text text (Text n) h = absurd (false≢true h)
named-is_text text (Field m n) h = absurd (false≢true h)
named-is_text text (Method m n) h = absurd (false≢true h)
named-is_text text (NameType m n) h = absurd (false≢true h)

abbrev is_code_text : Constant → Bool
is_code_text c = is_named (codes "Code") (Some c)

-- where some index names `Code`, the least one names it too
pub least_named : (entries : List Constant) (n : ℕ) → length entries + 1 < 2 ^ 16
    → names_code entries n ≡ true → IsTextIndex entries (least_code entries)
    × IsTrue (names_code entries (least_code entries))
least_named entries zero few h = absurd (false≢true h)
least_named entries (suc i) few h =
    let at-place : (o : Option Constant) → slice_get entries i ≡ o
    → is_named (codes "Code") o ≡ true → IsTextIndex entries (least_code entries)
    × IsTrue (names_code entries (least_code entries)) = λ o.
    elim o as (λ o. slice_get entries i ≡ o → is_named (codes "Code") o ≡ true
    → IsTextIndex entries (least_code entries) × IsTrue (names_code entries (least_code entries))) [
      | None ↦ λ _ t. absurd (false≢true t)
      | Some c ↦ λ is t.
          let within : i < length entries = slice_get_within entries i c is in
          let found =
          first-found is_code_text entries i c within
          (ap is_code_text (get_or_from_slice_get entries i c c is) ∙ t) in
          let entry : entry_at entries (least_code entries)
          ≡ Some (get_or entries (position_or_len is_code_text entries) c) =
          rw add-one
          (slice_get-get_or entries (position_or_len is_code_text entries) c found.0) in (
            (
              omega (arith, found.0, few),
              ap is_text entry ∙ named-is_text (codes "Code")
                  (get_or entries (position_or_len is_code_text entries) c) found.1,
            ),
            ap (λ (o : Option Constant). is_named (codes "Code") o) entry ∙ found.1,
          )
    ] in
    at-place (slice_get entries i) refl h

-- ---- a method that fits still fits with its code first

module _ (entries : List Constant) where
  abbrev Fit : List Piece → Type 0
  Fit ps = AllByRecursion (FitsPiece entries) ps

  later-fits : (ps : List Piece) (n : ℕ) (d c : CodeAttr)
      → ((x : CodeAttr) → code_in ps ≡ Some x → (n : ℕ) × FitsPiece entries (Code n x))
      → FitsPiece entries (Code n d) → (o : Option CodeAttr) → code_in ps ≡ o → later o d ≡ c
      → (n : ℕ) × FitsPiece entries (Code n c)
  later-fits ps n d c again h None is e =
      (n, subst (λ (x : CodeAttr). FitsPiece entries (Code n x)) e h)
  later-fits ps n d c again h (Some x) is e = again c (is ∙ ap (λ (y : CodeAttr). Some y) e)

  code-fits : (ps : List Piece) (c : CodeAttr) → Fit ps → code_in ps ≡ Some c
      → (n : ℕ) × FitsPiece entries (Code n c)
  unfolding code_in
  code-fits [] c h e = absurd (none-some c e)
  code-fits (Plain a ∷ ps) c h e = code-fits ps c h.1 e
  code-fits (Code n d ∷ ps) c h e =
      later-fits ps n d c (λ x. code-fits ps x h.1) h.0 (code_in ps) refl
      (same_Some (later (code_in ps) d) c e)

  others-fit : (ps : List Piece) → Fit ps → Fit (map (λ a. Plain a) (others_in ps))
  unfolding others_in
  others-fit [] h = tt
  others-fit (Plain a ∷ ps) h = (h.0, others-fit ps h.1)
  others-fit (Code n c ∷ ps) h = others-fit ps h.1

  -- code counts once
  code-number : (n : ℕ) (c : CodeAttr) (ps : List Piece)
      → count_by is_code (Code n c ∷ ps) ≡ 1 + count_by is_code ps
  code-number n c ps = sum_by-cons (λ x. cond (is_code x) 1 0) (Code n c) ps

  others-number : (ps : List Piece)
      → length (map (λ a. Plain a) (others_in ps)) + count_by is_code ps ≡ length ps
  unfolding others_in
  others-number [] = omega arith
  others-number (Plain a ∷ ps) = omega (arith, others-number ps)
  others-number (Code n c ∷ ps) = omega (arith, others-number ps, code-number n c ps)

  plain-number : (xs : List Attribute) → count_by is_code (map (λ a. Plain a) xs) ≡ 0
  plain-number [] = refl
  plain-number (a ∷ xs) = omega (arith, plain-number xs)

  none-number : (ps : List Piece) → code_in ps ≡ None → count_by is_code ps ≡ 0
  unfolding code_in
  none-number [] e = refl
  none-number (Plain a ∷ ps) e = omega (arith, none-number ps e)
  none-number (Code n c ∷ ps) e = absurd (none-some (later (code_in ps) c) (sym e))

  some-number : (ps : List Piece) (c : CodeAttr) → code_in ps ≡ Some c → 0 < count_by is_code ps
  unfolding code_in
  some-number [] c e = absurd (none-some c e)
  some-number (Plain a ∷ ps) c e = omega (arith, some-number ps c e)
  some-number (Code n d ∷ ps) c e = omega (arith, code-number n d ps)

  -- the pieces as they are written
  abbrev Written : List Piece → List Piece → Type 0
  Written ps qs = (length qs ≤ length ps) × (Fit qs × (count_by is_code qs ≡ count_by is_code ps))

  pieces-written : (ps : List Piece) → length entries + 1 < 2 ^ 16 → Fit ps
      → count_by is_code ps ≤ 1 → (o : Option CodeAttr) → code_in ps ≡ o
      → Written ps (code_piece (least_code entries) o ++ map (λ a. Plain a) (others_in ps))
  pieces-written ps few h once None is = (
    omega (arith, others-number ps),
    (others-fit ps h, omega (arith, plain-number (others_in ps), none-number ps is)),
  )
  pieces-written ps few h once (Some c) is =
      let old = code-fits ps c h is in
      let name = least_named entries old.0 few old.1.2 in (
        omega (arith, others-number ps, some-number ps c is),
        (
          ((record { name = name.0; size = old.1.0.size }, old.1.1, name.1), others-fit ps h),
          omega (
            arith,
            code-number (least_code entries) c (map (λ a. Plain a) (others_in ps)),
            plain-number (others_in ps),
            some-number ps c is,
            once,
          ),
        ),
      )

  once : (native : Bool) (n : ℕ) → eqb n (cond native 0 1) ≡ true → n ≤ 1
  once true n h = omega (arith, eqb-true n 0 h)
  once false n h = omega (arith, eqb-true n 1 h)

  method-written : (m : laid.Method) → length entries + 1 < 2 ^ 16 → FitsMethod entries m
      → FitsMethod entries (method_laid (least_code entries) (method_of m))
  method-written m few h =
      let w =
      pieces-written m.pieces few h.pieces.1
      (once (is_native m.access) (count_by is_code m.pieces) h.coded) (code_in m.pieces) refl in
      record {
        access = h.access;
        name = h.name;
        descriptor = h.descriptor;
        pieces = (omega (arith, w.0, h.pieces.0), w.1.0);
        coded = ap (λ (n : ℕ). eqb n (cond (is_native m.access) 0 1)) w.1.1 ∙ h.coded;
      }

  methods-written : (ms : List laid.Method) → length entries + 1 < 2 ^ 16
      → AllByRecursion (FitsMethod entries) ms
      → AllByRecursion (FitsMethod entries)
      (map (method_laid (least_code entries)) (map method_of ms))
  methods-written [] few h = tt
  methods-written (m ∷ ms) few h = (method-written m few h.0, methods-written ms few h.1)

  -- ---- what fits is few enough to be written

  attribute-sized : (a : Attribute) → FitsAttribute entries a → IsSized a
  attribute-sized a h = h.size

  attributes-sized : (xs : List Attribute) → AllByRecursion (FitsAttribute entries) xs
      → All IsSized xs
  attributes-sized xs h =
      All-weaker (FitsAttribute entries) IsSized attribute-sized xs
      (All-from_recursion (FitsAttribute entries) xs h)

  code-sized : (n : ℕ) (c : CodeAttr) → FitsPiece entries (Code n c) → SizedCode c
  code-sized n c h = record {
    code_bytes = omega (arith, leb-true (length c.code) 65535 (and_parts _ _ h.1.length_).1);
    few_catches = h.1.catches.0;
    few = h.1.attributes.0;
    each = attributes-sized c.attributes h.1.attributes.1;
    whole = h.0.size;
  }

  field-sized : (f : FieldFile) → FitsField entries f → SizedField f
  field-sized f h =
      record { few = h.attributes.0; each = attributes-sized f.attributes h.attributes.1 }

  plain-sized : (xs : List Attribute) → Fit (map (λ a. Plain a) xs) → AllByRecursion IsSized xs
  plain-sized [] h = tt
  plain-sized (a ∷ xs) h = (h.0.0.size, plain-sized xs h.1)

  pieces-sized : (name : ℕ) (o : Option CodeAttr) (xs : List Attribute)
      → Fit (code_piece name o ++ map (λ a. Plain a) xs) → IfSome o SizedCode × All IsSized xs
  pieces-sized name None xs h = (tt, All-from_recursion IsSized xs (plain-sized xs h))
  pieces-sized name (Some c) xs h =
      (code-sized name c h.0, All-from_recursion IsSized xs (plain-sized xs h.1))

  method-sized : (name : ℕ) (m : MethodFile) → FitsMethod entries (method_laid name m)
      → SizedMethod m
  method-sized name m h =
      let parts-sized = pieces-sized name m.code m.attributes h.pieces.1 in
      record {
        code_sized = parts-sized.0;
        few =
            omega (arith, h.pieces.0, code-length 0 name m.code (map (λ a. Plain a) m.attributes));
        each = parts-sized.1;
      }

  methods-sized : (name : ℕ) (ms : List MethodFile)
      → AllByRecursion (FitsMethod entries) (map (method_laid name) ms)
      → AllByRecursion SizedMethod ms
  methods-sized name [] h = tt
  methods-sized name (m ∷ ms) h = (method-sized name m h.0, methods-sized name ms h.1)

-- ---- files

file-written : (l : Layout) → IsLayout l → IsLayout (layout_of (file_of l))
file-written l h = record {
  minor = h.minor;
  major = h.major;
  entries = h.entries;
  access = h.access;
  this_class = h.this_class;
  super_class = h.super_class;
  fields = h.fields;
  methods = (
    omega (
      arith,
      h.methods.0,
      map-length (method_laid (least_code l.entries)) (map method_of l.methods),
      map-length method_of l.methods,
    ),
    methods-written l.entries l.methods h.entries.few h.methods.1,
  );
  attributes = h.attributes;
}

fits-again : (bytes : List ℕ) (f : ClassFile) → Spells bytes f → IsLayout (layout_of f)
fits-again bytes f h =
    subst (λ (g : ClassFile). IsLayout (layout_of g)) h.is_file (file-written h.laid h.fits)

-- a file that some bytes spell is few enough to be written
pub file_sized : (bytes : List ℕ) (f : ClassFile) → Spells bytes f → SizedFile f
file_sized bytes f there =
    let h = fits-again bytes f there in
    let entries = f.pool.entries in
    record {
      is_pool = h.entries;
      few_fields = h.fields.0;
      fields =
          All-weaker (FitsField entries) SizedField (field-sized entries) f.fields
          (All-from_recursion (FitsField entries) f.fields h.fields.1);
      few_methods =
          omega (arith, h.methods.0, map-length (method_laid (least_code entries)) f.methods);
      methods =
          All-from_recursion SizedMethod f.methods
          (methods-sized entries (least_code entries) f.methods h.methods.1);
      few = h.attributes.0;
      each = attributes-sized entries f.attributes h.attributes.1;
    }

-- what is written spells the file
pub written_spells : (bytes : List ℕ) (f : ClassFile) (text : List ℕ) → Spells bytes f
    → text ≡ layout (layout_of f) → Spells text f
written_spells bytes f text there e =
    record {
      laid = layout_of f;
      is_file = file-again f;
      fits = fits-again bytes f there;
      spelled = e;
    }

-- a file whose layout fits has a spelling, as it is to be written
pub has_spelling : (f : ClassFile) → IsLayout (layout_of f) → (bytes : List ℕ) × Spells bytes f
has_spelling f h = (
  layout (layout_of f),
  record { laid = layout_of f; is_file = file-again f; fits = h; spelled = refl },
)
