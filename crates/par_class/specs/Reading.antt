-- Reading the items of a class file from left to right, with a refusal.
use Rattle.std.specs.Prelude.{ℕ, ◌+◌, ◌-◌, ◌==◌, if◌then◌else◌, List, length, Result, Ok, Err}
use Rattle.par_pool.specs.declared.constant.Constant.{Constant}
use Rattle.par_pool.specs.declared.error.ClassError.{ClassError}
use Rattle.par_pool.specs.declared.error.ClassError.TheVariants.{Magic, Version, Cut, Index, Extra}
use Rattle.par_pool.specs.declared.error.ClassError.TheVariants.{Shape}
use Rattle.par_pool.specs.Entries.{entry_at}
use Rattle.par_pool.specs.Spelling.{is_text, is_class}
use Rattle.par_pool.specs.Reading.{Reader, Outcome, ◌>>=◌, both, made, tested, keyed, items, u2_at}
use Rattle.par_pool.specs.Reading.{u4_at, bytes_at}
use Rattle.par_pool.specs.Constants.{pool_at}
use Rattle.par_class.specs.declared.file.Attribute.{Attribute}
use Rattle.par_class.specs.declared.file.Catch.{Catch}
use Rattle.par_class.specs.declared.file.CodeAttr.{CodeAttr}
use Rattle.par_class.specs.declared.file.FieldFile.{FieldFile}
use Rattle.par_class.specs.declared.file.ClassFile.{ClassFile}
use Rattle.par_class.specs.declared.file.Piece.{Piece}
use Rattle.par_class.specs.declared.file.Piece.TheVariants.{Plain, Code}
use Rattle.par_class.specs.Layout.{Method, Layout, file_of}
use Rattle.par_class.specs.Spelling.{names_code, is_super, covers, catches_class, is_code_length}
use Rattle.par_class.specs.Spelling.{is_coded, is_version}

-- the offset of bytes that end at this one
abbrev pub place : ℕ → List ℕ → ℕ
place end bytes = end - length bytes

-- what of an item is refused at the offset where it stands
abbrev pub at : {A : Type 0} → (ℕ → ClassError) → ℕ → A → List ℕ → ClassError
at fault end _ bytes = fault (place end bytes)

-- so many items as a number says
abbrev pub list_at : {A : Type 0} → ClassError → Reader A → Reader (List A)
list_at short read = keyed (u2_at short) (λ n. items (λ _. read) n 0)

-- so many bytes as a number says
abbrev pub sized_at : ClassError → Reader (List ℕ)
sized_at short = keyed (u4_at short) (bytes_at short)

-- the number of code bytes
unfoldable pub code_length_at : ClassError → ℕ → Reader ℕ
code_length_at short end = tested is_code_length (at Shape end) (u4_at short)

-- the two limits, and the code itself
unfoldable pub instructions_at : ClassError → ℕ → Reader (ℕ × (ℕ × List ℕ))
instructions_at short end =
    both (u2_at short) (both (u2_at short) (keyed (code_length_at short end) (bytes_at short)))

-- the four numbers of a handler
unfoldable pub numbers_at : ClassError → Reader Catch
numbers_at short =
    made (λ c. record { start = c.0; end = c.1.0; handler = c.1.1.0; class = c.1.1.1 })
    (both (u2_at short) (both (u2_at short) (both (u2_at short) (u2_at short))))

-- What follows reads from bytes that end at an offset, where short is the refusal of bytes that end
-- too early.
module _ (entries : List Constant) (short : ClassError) (end : ℕ) where
  -- the index of a text
  unfoldable pub text_index_at : Reader ℕ
  text_index_at = tested (λ index. is_text (entry_at entries index)) (at Index end) (u2_at short)

  -- the index of a class
  unfoldable pub class_index_at : Reader ℕ
  class_index_at = tested (λ index. is_class (entry_at entries index)) (at Index end) (u2_at short)

  unfoldable pub attribute_at : Reader Attribute
  attribute_at =
      made (λ a. record { name = a.0; bytes = a.1 }) (both text_index_at (sized_at short))

  unfoldable pub attributes_at : Reader (List Attribute)
  attributes_at = list_at short attribute_at

  -- a handler of code of this length: first the range is looked at, then the class, six bytes on
  unfoldable pub catch_at : ℕ → Reader Catch
  catch_at len =
      tested (λ c. catches_class entries c.class) (λ _ bytes. Index (place end bytes + 6))
      (tested (covers len) (at Shape end) (numbers_at short))

  unfoldable pub catches_at : ℕ → Reader (List Catch)
  catches_at len = list_at short (catch_at len)

  -- code, behind its limits and its bytes
  unfoldable pub handled_at : ℕ × (ℕ × List ℕ) → Reader CodeAttr
  handled_at head =
      made (λ c. record {
        max_stack = head.0;
        max_locals = head.1.0;
        code = head.1.1;
        catches = c.0;
        attributes = c.1;
      })
      (both (catches_at (length head.1.1)) attributes_at)

  unfoldable pub code_at : Reader CodeAttr
  code_at = keyed (instructions_at short end) handled_at

-- code is all of the inside of its attribute, which ends at this offset
abbrev pub ended : ClassError → Result (CodeAttr × List ℕ) ClassError → Result CodeAttr ClassError
ended fault read = read >>= λ c. if length c.1 == 0 then Ok c.0 else Err fault

abbrev pub inside : List Constant → ℕ → List ℕ → Result CodeAttr ClassError
inside entries end bytes =
    ended (Shape (place end bytes)) (code_at entries (Shape (place end bytes)) end bytes)

module _ (entries : List Constant) (short : ClassError) (end : ℕ) where
  -- an attribute of a method, which is code where its name says so
  abbrev pub looked_into : Attribute × List ℕ → Outcome Piece
  looked_into a =
      if names_code entries a.0.name
      then (inside entries (place end a.1) a.0.bytes >>= (λ c. Ok (Code a.0.name c, a.1)))
      else Ok (Plain a.0, a.1)

  unfoldable pub piece_at : Reader Piece
  piece_at bytes = attribute_at entries short end bytes >>= looked_into

  unfoldable pub pieces_at : Reader (List Piece)
  pieces_at = list_at short piece_at

  unfoldable pub field_at : Reader FieldFile
  field_at =
      made (λ f. record { access = f.0; name = f.1.0; descriptor = f.1.1.0; attributes = f.1.1.1 })
      (both (u2_at short) (both (text_index_at entries short end)
      (both (text_index_at entries short end) (attributes_at entries short end))))

  unfoldable pub fields_at : Reader (List FieldFile)
  fields_at = list_at short field_at

  -- a method, which is looked at as a whole when all of its attributes are read
  unfoldable pub method_at : Reader Method
  method_at =
      tested (λ m. is_coded m.access m.pieces) (at Shape end)
      (made (λ m. record { access = m.0; name = m.1.0; descriptor = m.1.1.0; pieces = m.1.1.1 })
      (both (u2_at short) (both (text_index_at entries short end)
      (both (text_index_at entries short end) pieces_at))))

  unfoldable pub methods_at : Reader (List Method)
  methods_at = list_at short method_at

  -- the index of the superclass
  unfoldable pub super_at : Reader ℕ
  super_at = tested (is_super entries) (at Shape end) (class_index_at entries short end)

-- the number of interfaces, which is 0
unfoldable pub interfaces_at : ClassError → ℕ → Reader ℕ
interfaces_at short end = tested (λ n. n == 0) (at Shape end) (u2_at short)

-- the magic number of a class file
unfoldable pub magic_at : ClassError → Reader ℕ
magic_at short = tested (λ n. n == 0xCAFEBABE) (λ _ _. Magic) (u4_at short)

-- the major version
unfoldable pub major_at : ClassError → Reader ℕ
major_at short = tested is_version (λ major _. Version major) (u2_at short)

-- the magic number, the versions and the constant pool
unfoldable pub front_at : ClassError → Reader (ℕ × (ℕ × (ℕ × List Constant)))
front_at short = both (magic_at short) (both (u2_at short) (both (major_at short) (pool_at short)))

-- behind the constant pool
unfoldable pub back_at : ClassError → ℕ → (ℕ × (ℕ × (ℕ × List Constant))) → Reader Layout
back_at short end head =
    made (λ b. record {
      minor = head.1.0;
      major = head.1.1.0;
      entries = head.1.1.1;
      access = b.0;
      this_class = b.1.0;
      super_class = b.1.1.0;
      fields = b.1.1.1.1.0;
      methods = b.1.1.1.1.1.0;
      attributes = b.1.1.1.1.1.1;
    })
    (both (u2_at short) (both (class_index_at head.1.1.1 short end)
    (both (super_at head.1.1.1 short end) (both (interfaces_at short end)
    (both (fields_at head.1.1.1 short end)
    (both (methods_at head.1.1.1 short end) (attributes_at head.1.1.1 short end)))))))

-- a class file as it stands in its bytes
abbrev pub laid_at : ClassError → ℕ → Reader Layout
laid_at short end = keyed (front_at short) (back_at short end)

-- a value behind which nothing stands
abbrev pub alone : {A : Type 0} → ℕ → Outcome A → Result A ClassError
alone end read = read >>= λ x. if length x.1 == 0 then Ok x.0 else Err (Extra (place end x.1))

-- the whole file, without the order of its methods' attributes
unfoldable pub file_at : List ℕ → Result ClassFile ClassError
file_at bytes =
    alone (length bytes) (made file_of (laid_at (Cut (length bytes)) (length bytes)) bytes)
