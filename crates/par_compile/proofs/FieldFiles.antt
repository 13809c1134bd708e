-- The fields of a file, one after another.
use Rattle.std.proofs.Common.{◌≡◌, ℕ, ◌+◌, ◌<◌, List, [], ◌∷◌, ◌++◌, length, map, take, get_or, inl}
use Rattle.std.proofs.Common.{inr}
use Rattle.std.proofs.Common.{sym, ap, subst, ◌∙◌}
use Rattle.std.specs.Prelude.{Contains}
use Rattle.std.specs.List.{AllZip}
use Rattle.par_pool.specs.declared.constant.Constant.{Constant}
use Rattle.par_pool.specs.declared.constant.Constant.TheVariants.{Utf8}
use Rattle.par_pool.specs.Entries.{IsUtf8At}
use Rattle.par_typed.specs.declared.table.FieldInfo.{FieldInfo}
use Rattle.par_typed.specs.declared.table.Table.{Table}
use Rattle.par_class.specs.declared.file.FieldFile.{FieldFile}
use Rattle.par_values.specs.Areas.{Name}
use Rattle.par_code_form.specs.Named.{descriptor}
use Rattle.par_compile_laws.specs.Members.{member_access}
use Rattle.par_compile_laws.specs.Files.{IsFieldOf}
use Rattle.par_compile.specs.Growing.{Stays, Grows, IsOneText, IsEither, IsOneField, IsOfFields}
use Rattle.par_compile.proofs.Growing.{extends, stays_later, grows_then}
use Rattle.par_compile.proofs.Lists.{zip_append, map_more, map_done}

-- two texts, one after the other
pub both_grow : (text other : Name) (a b c : List Constant) → Grows (IsOneText text) a b
    → Grows (IsOneText other) b c → Grows (IsEither text other) a c
both_grow text other a b c g h =
    grows_then (IsOneText text) (IsOneText other) (IsEither text other) a b c (λ q x e. inl e)
    (λ q x e. inr e) g h

pub field_grows : (table : Table) (d : FieldInfo) (text kind : Name) (a b c : List Constant)
    → text ≡ d.name → kind ≡ descriptor table d.ty → Grows (IsOneText text) a b
    → Grows (IsOneText kind) b c → Grows (IsOneField table d) a c
field_grows table d text kind a b c named described g h =
    grows_then (IsOneText text) (IsOneText kind) (IsOneField table d) a b c
    (λ q x e. inl (e ∙ ap (λ (t : Name). Utf8 t) named))
    (λ q x e. inr (e ∙ ap (λ (t : Name). Utf8 t) described)) g h

-- a field whose name and descriptor the pool has
pub field_is : (table : Table) (d : FieldInfo) (file : FieldFile) (text kind : Name)
    (b c : List Constant) → file.access ≡ member_access d.is_static → file.attributes ≡ []
    → text ≡ d.name → kind ≡ descriptor table d.ty
    → Stays b (λ q. IsUtf8At q file.name text) → Grows (IsOneText kind) b c
    → Stays c (λ q. IsUtf8At q file.descriptor kind) → Stays c (λ q. IsFieldOf table q d file)
field_is table d file text kind b c access attributes named described at g under = λ later e.
    record {
      access = access;
      name = subst (λ (t : Name). IsUtf8At later file.name t) named
          (stays_later b c (λ q. IsUtf8At q file.name text) (extends (IsOneText kind) b c g) at
          later e);
      descriptor_is =
          subst (λ (t : Name). IsUtf8At later file.descriptor t) described (under later e);
      attributes = attributes;
    }

of-one : (table : Table) (ds : List FieldInfo) (d : FieldInfo) → Contains ds d
    → (q : List Constant) (x : Constant) → IsOneField table d q x → IsOfFields table ds q x
of-one table ds d there q x e = (d, there, e)

pub fields_grow : (table : Table) (ds : List FieldInfo) (d : FieldInfo) (a b c : List Constant)
    → Contains ds d → Grows (IsOfFields table ds) a b → Grows (IsOneField table d) b c
    → Grows (IsOfFields table ds) a c
fields_grow table ds d a b c there g h =
    grows_then (IsOfFields table ds) (IsOneField table d) (IsOfFields table ds) a b c
    (λ q x e. e) (of-one table ds d there) g h

-- one field more
pub fields_more : {A : Type 0} (table : Table) (info : A → FieldInfo) (xs : List A) (i : ℕ) (x : A)
    (files : List FieldFile) (file : FieldFile) (a b : List Constant) → i < length xs
    → get_or xs i x ≡ x → Grows (IsOneField table (info x)) a b
    → Stays a (λ q. AllZip (IsFieldOf table q) (map info (take i xs)) files)
    → Stays b (λ q. IsFieldOf table q (info x) file)
    → Stays b (λ q. AllZip (IsFieldOf table q) (map info (take (i + 1) xs)) (files ++ file ∷ []))
fields_more table info xs i x files file a b lt is g s t = λ later e.
    subst (λ (ds : List FieldInfo). AllZip (IsFieldOf table later) ds (files ++ file ∷ []))
    (sym (map_more info xs i x lt is))
    (zip_append (IsFieldOf table later) (map info (take i xs)) (info x ∷ []) files (file ∷ [])
    (stays_later a b (λ q. AllZip (IsFieldOf table q) (map info (take i xs)) files)
    (extends (IsOneField table (info x)) a b g) s later e) (t later e, tt))

pub fields_done : {A : Type 0} (table : Table) (info : A → FieldInfo) (xs : List A) (i : ℕ)
    (files : List FieldFile) (a : List Constant) → i ≡ length xs
    → Stays a (λ q. AllZip (IsFieldOf table q) (map info (take i xs)) files)
    → Stays a (λ q. AllZip (IsFieldOf table q) (map info xs) files)
fields_done table info xs i files a e s = λ later f.
    subst (λ (ds : List FieldInfo). AllZip (IsFieldOf table later) ds files)
    (map_done info xs i e) (s later f)
