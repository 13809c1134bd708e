-- The classes that placed code names are read.
use Rattle.std.proofs.Common.{◌≡◌, ℕ, zero, suc, Bool, true, false, List, [], ◌∷◌, Some, slice_get}
use Rattle.std.proofs.Common.{refl, sym, ap, ◌∙◌}
use Rattle.std.specs.List.{AllZip, AllByRecursion}
use Rattle.par_pool.specs.declared.constant.Constant.{Constant}
use Rattle.par_pool.specs.declared.constant.Constant.TheVariants as constant
use Rattle.par_pool.specs.Entries.{entry_at, IsClassAt}
use Rattle.par_class.specs.declared.file.Catch.{Catch}
use Rattle.par_class.specs.declared.file.ClassFile.{ClassFile}
use Rattle.par_compile_laws.specs.par_single.Descriptors.{Text}
use Rattle.par_compile_laws.specs.par_single.Members.{text_at}
use Rattle.par_compile_laws.specs.par_code_form.declared.item.Item.{Item}
use Rattle.par_compile_laws.specs.par_code_form.declared.item.Item.TheVariants.{Label, Op, Const}
use Rattle.par_compile_laws.specs.par_code_form.declared.item.Item.TheVariants.{Jump}
use Rattle.par_compile_laws.specs.par_code_form.declared.item.Item.TheVariants.{Member}
use Rattle.par_compile_laws.specs.par_code_form.declared.item.Item.TheVariants.{ClassOp, LockOp}
use Rattle.par_compile_laws.specs.par_code_form.declared.labelled.Handler.{Handler}
use Rattle.par_compile_laws.specs.par_code_form.PoolNames.{full_name, Names}
use Rattle.par_compile_laws.specs.par_code_form.Placed.{IsCatch, offset_of}
use Rattle.par_loader.proofs.par_link.Passing.{any-at}
use Rattle.par_loader.specs.Mentions.{is_unread, names_unread}
use Rattle.par_link_laws.specs.Parts.{IsClosedIn}
use Rattle.par_link_laws.specs.Laws.{ItemIsRead, NamedClassesAreLoaded}
use Rattle.par_link_laws.proofs.Texts.{text-is}

module _ (files : List ClassFile) (file : ClassFile) (closed : IsClosedIn files file) where
  abbrev entries : List Constant
  entries = file.pool.entries

  pub none-unread : (i : ℕ) (c : Constant) → slice_get entries i ≡ Some c
      → names_unread files entries c ≡ false
  none-unread i c at = in_case (names_unread files entries c) refl where
    in_case : (b : Bool) → names_unread files entries c ≡ b → b ≡ false
    in_case false e = refl
    in_case true e =
        let never : true ≡ false =
        sym (any-at (names_unread files entries) entries i c at e) ∙ closed in
        absurd (cc never)

  -- the class of an index is read
  class-read : (index : ℕ) (name : Text) → IsClassAt entries index name
      → is_unread files name ≡ false
  unfolding names_unread
  class-read index name at =
      ap (is_unread files) (sym (text-is entries at.text name at.is_name)) ∙ by_index index at.entry
    where
      by_index : (n : ℕ) → entry_at entries n ≡ Some (constant.Class at.text)
          → is_unread files (text_at entries at.text) ≡ false
      by_index zero is = absurd (cc is)
      by_index (suc n) is = none-unread n (constant.Class at.text) is

  item-read : (i : Item) (index : ℕ) → Names entries i index → ItemIsRead files i
  item-read (Label l) index named = tt
  item-read (Op i) index named = tt
  item-read (Const v) index named = tt
  item-read (Jump opcode l) index named = tt
  item-read (Member opcode class name of_type) index named =
      class-read named.owner (full_name class) named.is_class
  item-read (ClassOp opcode class) index named = class-read index (full_name class) named
  item-read (LockOp opcode lock) index named = tt

  items-read : (items : List Item) (indices : List ℕ) → AllZip (Names entries) items indices
      → AllByRecursion (ItemIsRead files) items
  items-read [] indices all = tt
  items-read (i ∷ items) [] all = absurd all
  items-read (i ∷ items) (index ∷ indices) all =
      (item-read i index all.0, items-read items indices all.1)

  handlers-read : (offset : ℕ → ℕ) (hs : List Handler) (cs : List Catch)
      → AllZip (IsCatch entries offset) hs cs
      → AllByRecursion (λ (h : Handler). is_unread files (full_name h.class) ≡ false) hs
  handlers-read offset [] cs all = tt
  handlers-read offset (h ∷ hs) [] all = absurd all
  handlers-read offset (h ∷ hs) (c ∷ cs) all = (
    class-read c.class (full_name h.class) (all.0).class,
    handlers-read offset hs cs all.1,
  )

pub named_classes_are_loaded : NamedClassesAreLoaded
named_classes_are_loaded files file code attr closed placed = record {
  items = items-read files file closed code.items placed.indices placed.named;
  handlers =
      handlers-read files file closed (offset_of code.items placed.indices) code.handlers
      attr.catches placed.catches;
}
