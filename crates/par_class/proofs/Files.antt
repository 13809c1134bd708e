-- Methods and whole files are read exactly.
use Rattle.std.proofs.Common.{◌≡◌, ℕ, suc, ◌^◌, ◌<◌, Bool, true, false, cond, eqb, List, [], ◌++◌}
use Rattle.std.proofs.Common.{length, get_or, Result, Ok, Err, refl, sym, ap, subst, ◌∙◌, inl, inr}
use Rattle.std.proofs.Common.{arith}
use Rattle.std.specs.Prelude.{IsTrue, IfOk}
use Rattle.std.proofs.lemmas.Bool.{cases_Bool, cases_lt, eqb-true}
use Rattle.std.proofs.lemmas.List.{append-nil, nil_from_length, get_or_append_left, get_or_past}
use Rattle.par_pool.specs.declared.constant.Constant.{Constant}
use Rattle.par_pool.specs.declared.error.ClassError.{ClassError}
use Rattle.par_pool.specs.declared.error.ClassError.TheVariants.{Shape, Extra, Cut, Magic, Version}
use Rattle.par_pool.specs.Spelling.{u2, u4, IsPool}
use Rattle.par_pool.specs.Spelling as pools
use Rattle.par_pool.specs.Reading.{made, Gives}
use Rattle.par_pool.proofs.Exact.{IsBytes, Takes, Exact, bind_ok, ok_is, exact_u2, exact_u4}
use Rattle.par_pool.proofs.Exact.{exact_both, exact_made, exact_tested, exact_keyed}
use Rattle.par_pool.proofs.Pools.{exact_pool}
use Rattle.par_pool.proofs.Spelled.{exact_same}
use Rattle.par_class.specs.declared.file.Attribute.{Attribute}
use Rattle.par_class.specs.declared.file.CodeAttr.{CodeAttr}
use Rattle.par_class.specs.declared.file.FieldFile.{FieldFile}
use Rattle.par_class.specs.declared.file.ClassFile.{ClassFile}
use Rattle.par_class.specs.declared.file.Piece.{Piece}
use Rattle.par_class.specs.declared.file.Piece.TheVariants.{Plain, Code}
use Rattle.par_class.specs.Layout.{Method, Layout, file_of}
use Rattle.par_class.specs.Spelling.{counted, attribute, code, piece, field, method, layout}
use Rattle.par_class.specs.Spelling.{names_code, is_super, is_coded, is_version, IsTextIndex}
use Rattle.par_class.specs.Spelling.{IsClassIndex, AllFit, FitsAttribute, FitsCode, FitsPiece}
use Rattle.par_class.specs.Spelling.{FitsField, FitsMethod, IsLayout, Spells}
use Rattle.par_class.specs.Reading.{place, at, ended, inside, looked_into, code_at, attribute_at}
use Rattle.par_class.specs.Reading.{piece_at, pieces_at, method_at, methods_at, super_at}
use Rattle.par_class.specs.Reading.{interfaces_at, magic_at, major_at, front_at, back_at, laid_at}
use Rattle.par_class.specs.Reading.{file_at}
use Rattle.par_class.proofs.Members.{exact_list, exact_text_index, exact_class_index}
use Rattle.par_class.proofs.Members.{exact_attribute, exact_attributes, exact_code, exact_fields}

if-ok : {A : Type 0} (b : Bool) (d : ClassError) (x y : A) → cond b (Ok x) (Err d) ≡ Ok y
    → (b ≡ true) × (x ≡ y)
if-ok true d x y e = (refl, cc)
if-ok false d x y e = absurd cc

module _ (entries : List Constant) where
  inside-takes : (end : ℕ) (bytes : List ℕ) (c : CodeAttr) → IsBytes bytes
      → inside entries end bytes ≡ Ok c → (bytes ≡ code c) × FitsCode entries c
  inside-takes end bytes c fits e =
      let fault = Shape (place end bytes) in
      let a =
      bind_ok (code_at entries fault end bytes)
      (λ c. cond (eqb (length c.1) 0) (Ok c.0) (Err fault)) c e in
      let g = if-ok (eqb (length a.0.1) 0) fault a.0.0 c a.2 in
      let t = (exact_code entries fault end).takes bytes a.0 fits a.1 in
      let nothing : a.0.1 ≡ [] = nil_from_length a.0.1 (eqb-true _ _ g.0) in
      let whole : bytes ≡ code a.0.0 = t.0.parts
      ∙ ap (λ (rest : List ℕ). code a.0.0 ++ rest) nothing ∙ append-nil (code a.0.0) in
      subst (λ (d : CodeAttr). (bytes ≡ code d) × FitsCode entries d) g.1 (whole, t.1)

  inside-again : (end : ℕ) (c : CodeAttr) → FitsCode entries c → inside entries end (code c) ≡ Ok c
  inside-again end c fits =
      let fault = Shape (place end (code c)) in
      let read : code_at entries fault end (code c) ≡ Ok (c, []) =
      ap (code_at entries fault end) (sym (append-nil (code c)))
      ∙ (exact_code entries fault end).again c [] fits in
      ap (λ (r : Result (CodeAttr × List ℕ) ClassError). ended fault r) read

  module _ (short : ClassError) (end : ℕ) where
    abbrev Says : List ℕ → Piece × List ℕ → Type 0
    Says bytes x = Takes bytes (piece x.0) x.1 × FitsPiece entries x.0

    plain-says : (bytes : List ℕ) (a : Attribute × List ℕ) → Takes bytes (attribute a.0) a.1
        → FitsAttribute entries a.0 → names_code entries a.0.name ≡ false
        → Says bytes (Plain a.0, a.1)
    unfolding piece
    plain-says bytes a t fits differs = (t, (fits, differs))

    code-says : (bytes : List ℕ) (a : Attribute × List ℕ) (c : CodeAttr)
        → Takes bytes (attribute a.0) a.1 → FitsAttribute entries a.0
        → names_code entries a.0.name ≡ true → a.0.bytes ≡ code c → FitsCode entries c
        → Says bytes (Code a.0.name c, a.1)
    unfolding piece
    code-says bytes a c t fits is e code-fits =
        let named : List ℕ → Attribute = λ text. record { name = a.0.name; bytes = text } in (
          subst (λ (text : List ℕ). Takes bytes (attribute (named text)) a.1) e t,
          (subst (λ (text : List ℕ). FitsAttribute entries (named text)) e fits, code-fits, is),
        )

    -- the bytes of an attribute that is read are bytes
    inside-bytes : (bytes : List ℕ) (a : Attribute) (rest : List ℕ) → IsBytes bytes
        → bytes ≡ attribute a ++ rest → IsBytes a.bytes
    unfolding attribute
    inside-bytes bytes a rest fits e i =
        elim (cases_lt i (length a.bytes)) [
          | inl lt ↦
              let k : get_or (a.bytes ++ rest) i 0 < 256 =
              subst (λ (b : List ℕ). get_or b (suc (suc (suc (suc (suc (suc i)))))) 0 < 256) e
              (fits (suc (suc (suc (suc (suc (suc i))))))) in
              rw (← (get_or_append_left a.bytes rest 0 i lt)) k
          | inr le ↦ rw (get_or_past a.bytes i 0 le) (omega arith)
        ]

    looked-says : (bytes : List ℕ) (a : Attribute × List ℕ) (x : Piece × List ℕ) → IsBytes bytes
        → Takes bytes (attribute a.0) a.1 → FitsAttribute entries a.0
        → looked_into entries short end a ≡ Ok x → Says bytes x
    looked-says bytes a x fits t a-fits e =
        elim (cases_Bool (names_code entries a.0.name)) [
          | inl is ↦
              let read = rw is at e in
              let c =
              bind_ok (inside entries (place end a.1) a.0.bytes)
              (λ c. Ok (Code a.0.name c, a.1)) x read in
              let k =
              inside-takes (place end a.1) a.0.bytes c.0
              (inside-bytes bytes a.0 a.1 fits t.parts) c.1 in
              subst (λ (y : Piece × List ℕ). Says bytes y) (ok_is (Code a.0.name c.0, a.1) x c.2)
              (code-says bytes a c.0 t a-fits is k.0 k.1)
          | inr differs ↦
              let read = rw differs at e in
              subst (λ (y : Piece × List ℕ). Says bytes y) (ok_is (Plain a.0, a.1) x read)
              (plain-says bytes a t a-fits differs)
        ]

    piece-again : (x : Piece) (rest : List ℕ) → FitsPiece entries x
        → piece_at entries short end (piece x ++ rest) ≡ Ok (x, rest)
    unfolding piece_at piece
    piece-again (Plain a) rest fits =
        rw ((exact_attribute entries short end).again a rest fits.0, fits.1) refl
    piece-again (Code name c) rest fits =
        let a : Attribute = record { name = name; bytes = code c } in
        rw (
          (exact_attribute entries short end).again a rest fits.0,
          fits.2,
          inside-again (place end rest) c fits.1,
        ) refl

    pub exact_piece : Exact (FitsPiece entries) piece (piece_at entries short end)
    unfolding piece_at
    exact_piece = record {
      takes = λ bytes x fits e.
          let a =
          bind_ok (attribute_at entries short end bytes) (looked_into entries short end) x e in
          let t = (exact_attribute entries short end).takes bytes a.0 fits a.1 in
          looked-says bytes a.0 x fits t.0 t.1 a.2;
      again = piece-again;
    }

    exact-pieces : Exact (AllFit (FitsPiece entries)) (λ xs. counted piece xs)
        (pieces_at entries short end)
    unfolding pieces_at
    exact-pieces = exact_list short exact_piece

    pub exact_method : Exact (FitsMethod entries) method (method_at entries short end)
    unfolding method_at method
    exact_method =
        exact_same (FitsMethod entries) method
        (λ m h. record {
          access = h.0.0;
          name = h.0.1.0;
          descriptor = h.0.1.1.0;
          pieces = h.0.1.1.1;
          coded = h.1;
        })
        (λ m h. (((h.access, (h.name, (h.descriptor, h.pieces))), h.coded), refl))
        (exact_tested (λ m. is_coded m.access m.pieces) (at Shape end)
        (exact_made (λ m. (m.access < 2 ^ 16)
        × (IsTextIndex entries m.name
        × (IsTextIndex entries m.descriptor × AllFit (FitsPiece entries) m.pieces)))
        (λ m. record { access = m.0; name = m.1.0; descriptor = m.1.1.0; pieces = m.1.1.1 })
        (λ m. (m.access, (m.name, (m.descriptor, m.pieces))))
        (λ m h. (refl, h)) (λ m h. (refl, h))
        (exact_both (exact_u2 short)
        (exact_both (exact_text_index entries short end)
        (exact_both (exact_text_index entries short end) exact-pieces)))))

    exact-methods : Exact (AllFit (FitsMethod entries)) (λ xs. counted method xs)
        (methods_at entries short end)
    unfolding methods_at
    exact-methods = exact_list short exact_method

    exact-super : Exact (λ index. IsClassIndex entries index × IsTrue (is_super entries index)) u2
        (super_at entries short end)
    unfolding super_at
    exact-super =
        exact_tested (is_super entries) (at Shape end) (exact_class_index entries short end)

exact-interfaces : (short : ClassError) (end : ℕ)
    → Exact (λ n. (n < 2 ^ 16) × IsTrue (eqb n 0)) u2 (interfaces_at short end)
unfolding interfaces_at
exact-interfaces short end = exact_tested (λ n. eqb n 0) (at Shape end) (exact_u2 short)

exact-magic : (short : ClassError)
    → Exact (λ n. (n < 2 ^ 32) × IsTrue (eqb n 0xCAFEBABE)) u4 (magic_at short)
unfolding magic_at
exact-magic short = exact_tested (λ n. eqb n 0xCAFEBABE) (λ _ _. Magic) (exact_u4 short)

exact-major : (short : ClassError)
    → Exact (λ n. (n < 2 ^ 16) × IsTrue (is_version n)) u2 (major_at short)
unfolding major_at
exact-major short = exact_tested is_version (λ major _. Version major) (exact_u2 short)

-- what stands up to and with the constant pool
abbrev Front : Type 0
Front = ℕ × (ℕ × (ℕ × List Constant))

abbrev FitsFront : Front → Type 0
FitsFront h =
    ((h.0 < 2 ^ 32) × IsTrue (eqb h.0 0xCAFEBABE))
    × ((h.1.0 < 2 ^ 16) × (((h.1.1.0 < 2 ^ 16) × IsTrue (is_version h.1.1.0)) × IsPool h.1.1.1))

abbrev front : Front → List ℕ
front h = u4 h.0 ++ (u2 h.1.0 ++ (u2 h.1.1.0 ++ pools.pool h.1.1.1))

exact-front : (short : ClassError) → Exact FitsFront front (front_at short)
unfolding front_at
exact-front short =
    exact_both (exact-magic short)
    (exact_both (exact_u2 short) (exact_both (exact-major short) (exact_pool short)))

abbrev front_of : Layout → Front
front_of l = (0xCAFEBABE, (l.minor, (l.major, l.entries)))

-- what stands behind it
abbrev Back : Type 0
Back = ℕ × (ℕ × (ℕ × (ℕ × (List FieldFile × (List Method × List Attribute)))))

abbrev FitsBack : List Constant → Back → Type 0
FitsBack entries b =
    (b.0 < 2 ^ 16) × (IsClassIndex entries b.1.0
    × ((IsClassIndex entries b.1.1.0 × IsTrue (is_super entries b.1.1.0))
    × (((b.1.1.1.0 < 2 ^ 16) × IsTrue (eqb b.1.1.1.0 0))
    × (AllFit (FitsField entries) b.1.1.1.1.0
    × (AllFit (FitsMethod entries) b.1.1.1.1.1.0 × AllFit (FitsAttribute entries) b.1.1.1.1.1.1)))))

abbrev back : Back → List ℕ
back b =
    u2 b.0
    ++ (u2 b.1.0
    ++ (u2 b.1.1.0 ++ (u2 b.1.1.1.0
    ++ (counted field b.1.1.1.1.0
    ++ (counted method b.1.1.1.1.1.0 ++ counted attribute b.1.1.1.1.1.1)))))

abbrev back_of : Layout → Back
back_of l = (l.access, (l.this_class, (l.super_class, (0, (l.fields, (l.methods, l.attributes))))))

abbrev layout_with : Front → Back → Layout
layout_with h b = record {
  minor = h.1.0;
  major = h.1.1.0;
  entries = h.1.1.1;
  access = b.0;
  this_class = b.1.0;
  super_class = b.1.1.0;
  fields = b.1.1.1.1.0;
  methods = b.1.1.1.1.1.0;
  attributes = b.1.1.1.1.1.1;
}

abbrev FitsLaid : Layout → Type 0
FitsLaid l = FitsBack l.entries (back_of l)

-- there is one number of interfaces, and one magic number
back-is : (b : Back) → IsTrue (eqb b.1.1.1.0 0) → (b.0, (b.1.0, (b.1.1.0, (0, b.1.1.1.1)))) ≡ b
back-is b h =
    ap (λ (n : ℕ). (b.0, (b.1.0, (b.1.1.0, (n, b.1.1.1.1))))) (sym (eqb-true b.1.1.1.0 0 h))

front-is : (h : Front) → IsTrue (eqb h.0 0xCAFEBABE) → (0xCAFEBABE, h.1) ≡ h
front-is h e = ap (λ (n : ℕ). (n, h.1)) (sym (eqb-true h.0 0xCAFEBABE e))

exact-back : (short : ClassError) (end : ℕ) (h : Front) → FitsFront h
    → Exact (λ l. (front_of l ≡ h) × FitsLaid l) (λ l. back (back_of l)) (back_at short end h)
unfolding back_at
exact-back short end h fits-front =
    let entries = h.1.1.1 in
    exact_made (λ l. (front_of l ≡ h) × FitsLaid l) (layout_with h) back_of
    (λ b fits. (
      back-is b fits.1.1.1.0.1,
      (
        front-is h fits-front.0.1,
        subst (λ (c : Back). FitsBack entries c) (sym (back-is b fits.1.1.1.0.1)) fits,
      ),
    ))
    (λ l fits. (
      ap (λ (k : Front). layout_with k (back_of l)) (sym fits.0),
      subst (λ (k : Front). FitsBack k.1.1.1 (back_of l)) fits.0 fits.1,
    ))
    (exact_both (exact_u2 short)
    (exact_both (exact_class_index entries short end)
    (exact_both (exact-super entries short end) (exact_both (exact-interfaces short end)
    (exact_both (exact_fields entries short end)
    (exact_both (exact-methods entries short end) (exact_attributes entries short end)))))))

pub exact_laid : (short : ClassError) (end : ℕ) → Exact IsLayout layout (laid_at short end)
unfolding layout
exact_laid short end =
    exact_same IsLayout layout
    (λ l h. record {
      minor = h.0.1.0;
      major = h.0.1.1.0;
      entries = h.0.1.1.1;
      access = h.1.0;
      this_class = h.1.1.0;
      super_class = h.1.1.1.0;
      fields = h.1.1.1.1.1.0;
      methods = h.1.1.1.1.1.1.0;
      attributes = h.1.1.1.1.1.1.1;
    })
    (λ l h. (
      ((
        ((omega arith, refl), (h.minor, (h.major, h.entries))),
        (
          h.access,
          (
            h.this_class,
            (h.super_class, ((omega arith, refl), (h.fields, (h.methods, h.attributes)))),
          ),
        ),
      )),
      refl,
    ))
    (exact_keyed {G = FitsLaid} {q = λ l. back (back_of l)} front_of (exact-front short)
    (λ h fits. exact-back short end h fits))

-- ---- whole files

pub file_found : (bytes : List ℕ) (r : Result ClassFile ClassError) → IsBytes bytes
    → Gives (λ file. file) r (file_at bytes) → IfOk r (λ file. Spells bytes file)
unfolding file_at
file_found bytes (Err e) fits given = tt
file_found bytes (Ok file) fits given =
    let end = length bytes in
    let x =
    bind_ok (made file_of (laid_at (Cut end) end) bytes)
    (λ x. cond (eqb (length x.1) 0) (Ok x.0) (Err (Extra (place end x.1)))) file given in
    let g = if-ok (eqb (length x.0.1) 0) (Extra (place end x.0.1)) x.0.0 file x.2 in
    let l = bind_ok (laid_at (Cut end) end bytes) (λ l. Ok (file_of l.0, l.1)) x.0 x.1 in
    let t = (exact_laid (Cut end) end).takes bytes l.0 fits l.1 in
    let same = ok_is (file_of l.0.0, l.0.1) x.0 l.2 in
    let nothing : l.0.1 ≡ [] =
    ap (λ (y : ClassFile × List ℕ). y.1) same ∙ nil_from_length x.0.1 (eqb-true _ _ g.0) in
    record {
      laid = l.0.0;
      is_file = ap (λ (y : ClassFile × List ℕ). y.0) same ∙ g.1;
      fits = t.1;
      spelled =
          t.0.parts ∙ ap (λ (rest : List ℕ). layout l.0.0 ++ rest) nothing
          ∙ append-nil (layout l.0.0);
    }

pub file_only : (bytes : List ℕ) (file : ClassFile) → Spells bytes file → file_at bytes ≡ Ok file
unfolding file_at
file_only bytes file h =
    let end = length bytes in
    let read : laid_at (Cut end) end bytes ≡ Ok (h.laid, []) =
    ap (laid_at (Cut end) end) (h.spelled ∙ sym (append-nil (layout h.laid)))
    ∙ (exact_laid (Cut end) end).again h.laid [] h.fits in
    rw (read, h.is_file) refl

abbrev read-file : ClassFile → Result ClassFile ClassError
read-file f = Ok f

ok-file : (one other : ClassFile) → read-file one ≡ read-file other → one ≡ other
ok-file one other e = ok_is one other e

-- bytes spell at most one file
pub one_file : (bytes : List ℕ) (one other : ClassFile) → Spells bytes one → Spells bytes other
    → one ≡ other
one_file bytes one other p q =
    ok-file one other (sym (file_only bytes one p) ∙ file_only bytes other q)
