-- The files of a program in another order are a part of them.
use Rattle.std.proofs.Common.{◌≡◌, ℕ, Bool, not, ◌||◌, ◌&&◌, List, [], ◌∷◌, Some, slice_get}
use Rattle.std.proofs.Common.{is_none, refl, sym, ap, ap₂, ◌∙◌}
use Rattle.std.specs.List.{Contains, list_any}
use Rattle.std.specs.List.Sorted.{IsPermutation}
use Rattle.std.specs.Str.{bytes_eq}
use Rattle.std.proofs.lemmas.List.Sorted.{IsPermutation-sym, IsPermutation-map}
use Rattle.std.proofs.lemmas.List.Sorted.{Contains-permutation, list_any-IsPermutation}
use Rattle.std.proofs.lemmas.Map.Keys.{IsDistinct-IsPermutation}
use Rattle.std.proofs.lemmas.Option.{slice_get_within, slice_get-get_or, get_or_from_slice_get}
use Rattle.par_typed.specs.declared.table.Table.{Table}
use Rattle.par_typed.specs.Plain.{Body}
use Rattle.par_pool.specs.declared.constant.Constant.{Constant}
use Rattle.par_pool.specs.declared.constant.Constant.TheVariants as constant
use Rattle.par_class.specs.declared.file.ClassFile.{ClassFile}
use Rattle.par_single.specs.Descriptors.{Text}
use Rattle.par_single.specs.Members.{text_at, own_name, own_names}
use Rattle.par_link.specs.Builtins.{builtin}
use Rattle.par_loader.specs.Mentions.{is_unread, names_unread}
use Rattle.par_framed_file_laws.specs.par_link_laws.Linkable.{IsLinkable}
use Rattle.par_framed_file_laws.specs.par_link_laws.Parts.{AreFilesOf, IsClosedIn, ArePart}
use Rattle.par_framed_file_laws.proofs.par_link_laws.Lists.{bytes_equiv}
use Rattle.par_framed_file_laws.proofs.par_link_laws.Whole.{whole-part}

-- an item of a list stands at some place of its other orders
pub stands_again : {A : Type 0} (xs ys : List A) → IsPermutation xs ys → (n : ℕ) (x : A)
    → slice_get xs n ≡ Some x → (at : ℕ) × (slice_get ys at ≡ Some x)
stands_again xs ys same n x at =
    let there : Contains xs x =
    (n, slice_get_within xs n x at, get_or_from_slice_get xs n x x at) in
    let again = Contains-permutation xs ys x same there in
    (again.0, slice_get-get_or ys again.0 x again.1 ∙ ap Some again.2)

-- tests that answer alike find alike
any_alike : {A : Type 0} (f g : A → Bool) → ((x : A) → f x ≡ g x) → (xs : List A)
    → list_any f xs ≡ list_any g xs
any_alike f g alike [] = refl
any_alike f g alike (x ∷ xs) =
    ap₂ (λ (a b : Bool). a || b) (alike x) (any_alike f g alike xs)

module _ (files order : List ClassFile) (same : IsPermutation files order) where
  names_same : IsPermutation (own_names files) (own_names order)
  names_same = IsPermutation-map own_name files order same

  -- their classes are the same
  unread_alike : (name : Text) → is_unread order name ≡ is_unread files name
  unread_alike name =
      ap (λ (b : Bool). is_none (builtin name) && not b)
      (sym (list_any-IsPermutation (bytes_eq name) (own_names files) (own_names order) names_same))

  names_alike : (entries : List Constant) (c : Constant)
      → names_unread order entries c ≡ names_unread files entries c
  unfolding names_unread
  names_alike entries (constant.Class name) = unread_alike (text_at entries name)
  names_alike entries (constant.Utf8 text) = refl
  names_alike entries (constant.Integer n) = refl
  names_alike entries (constant.Text text) = refl
  names_alike entries (constant.Field class member) = refl
  names_alike entries (constant.Method class member) = refl
  names_alike entries (constant.NameType name descriptor) = refl

  closed_again : (file : ClassFile) → IsClosedIn files file → IsClosedIn order file
  closed_again file closed =
      let entries = file.pool.entries in
      any_alike (names_unread order entries) (names_unread files entries) (names_alike entries)
      entries
      ∙ closed

pub order_is_part : (table : Table) (bodies : List Body) (files order : List ClassFile)
    → IsLinkable table bodies → AreFilesOf table bodies files → IsPermutation files order
    → ArePart files order
order_is_part table bodies files order l are same =
    let whole : ArePart files files = whole-part table bodies files l are in
    let among = stands_again order files (IsPermutation-sym files order same) in
    record {
      among = among;
      apart =
          IsDistinct-IsPermutation bytes_eq bytes_equiv.symm (own_names files) (own_names order)
          (names_same files order same) whole.apart;
      closed = λ place file at.
          let there = among place file at in
          closed_again files order same file (whole.closed there.0 file there.1);
    }
