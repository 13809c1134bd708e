-- What is known of the tables in which texts, classes and members are looked up.
use Rattle.std.specs.Prelude.{◌≡◌, ℕ, ◌==◌, Bool, ◌&&◌, List, [], ◌∷◌, length, map, Option, Some}
use Rattle.std.specs.Prelude.{is_some, slice_get, IsTrue}
use Rattle.std.specs.Borrow.{Bor}
use Rattle.std.specs.List.{flat_map, list_any, position}
use Rattle.std.specs.Option.{option_and_then, unwrap_or}
use Rattle.std.specs.Str.{bytes_eq}
use Rattle.std.specs.HashMap.{get}
use Rattle.par_single.specs.par_pool.declared.constant.Constant.{Constant}
use Rattle.par_single.specs.par_pool.declared.constant.Constant.TheVariants.{Utf8}
use Rattle.par_single.specs.par_class.declared.file.ClassFile.{ClassFile}
use Rattle.par_index.specs.declared.firsts.Firsts.{Firsts}
use Rattle.par_index.specs.Texts.{same_text}
use Rattle.par_single.specs.Descriptors.{Text, method_signature}
use Rattle.par_single.specs.Members.{Member, text_of, text_at}
use Rattle.par_references.specs.declared.keys.Key.{Key}
use Rattle.par_references.specs.declared.texts.TextFacts.{TextFacts}
use Rattle.par_references.specs.Named.{class_place}

-- ---- texts

-- each text has its first place among these
pub record ArePlaced (all : List Text) (firsts : Firsts (Bor Text)) : Type 0 where
  pub places : (text : Bor Text) →
      get same_text firsts.places text ≡ position (bytes_eq text.now) all

-- the texts of a constant pool by their indices, of which 0 has no bytes
abbrev pub pool_texts : List Constant → List Text
pool_texts entries = [] ∷ map (λ c. text_of (Some c)) entries

-- the text that a constant is, where it is one
abbrev pub text_in : Constant → List Text
text_in (Utf8 text) = text ∷ []
text_in _ = []

abbrev pub texts_in : List Constant → List Text
texts_in entries = flat_map text_in entries

-- the text without bytes, and those of the constant pools of files, one pool behind the other
abbrev pub all_texts : List ClassFile → List Text
all_texts files = [] ∷ flat_map (λ file. texts_in file.pool.entries) files

-- each text of the constant pool of a file is one of those of the files
abbrev pub AreAmong : List ClassFile → ClassFile → Type 0
AreAmong files file =
    (index : ℕ) →
    IsTrue (list_any (bytes_eq (text_at file.pool.entries index)) (all_texts files))

-- the number of a text: its first place among these, and their count where it is none of them
abbrev pub number_of : List Text → Text → ℕ
number_of texts text = unwrap_or (position (bytes_eq text) texts) (length texts)

-- what is known of a text among files
abbrev pub facts_of : List ClassFile → Text → TextFacts
facts_of files text =
    record {
      number = number_of (all_texts files) text;
      class = class_place files text;
      is_method = is_some (method_signature text);
    }

-- ---- members

-- what tells a member from others, by the numbers of its name and descriptor
abbrev pub key_of : List ClassFile → Member → Key
key_of files m =
    record {
      name = number_of (all_texts files) m.name;
      descriptor = number_of (all_texts files) m.descriptor;
    }

abbrev pub same_key : Key → Key → Bool
same_key k other = k.name == other.name && k.descriptor == other.descriptor

-- the keys of members of one of the files
abbrev pub keys_of : List ClassFile → List Member → List Key
keys_of files members = map (key_of files) members

-- the place of a key among those of the members of the file at a place
abbrev pub key_place : (ClassFile → List Member) → List ClassFile → ℕ → Key → Option ℕ
key_place members files class k =
    option_and_then (λ file. position (same_key k) (keys_of files (members file)))
    (slice_get files class)
