-- What an index of a constant pool is to an instruction, by the texts that its entry spells.
use Rattle.std.proofs.Common.{◌≡◌, ℕ, zero, suc, ◌<◌, List, [], Option, Some, None}
use Rattle.std.proofs.Common.{ap, ◌∙◌}
use Rattle.std.specs.Prelude.{ℤ, slice_get}
use Rattle.std.specs.Option.{option_map_or}
use Rattle.par_pool.specs.declared.constant.Constant.{Constant}
use Rattle.par_pool.specs.declared.constant.Constant.TheVariants.{Integer}
use Rattle.par_pool.specs.Entries.{IsAt, IsClassAt, IsNameTypeAt, IsFieldAt, IsMethodAt}
use Rattle.par_class.specs.declared.file.ClassFile.{ClassFile}
use Rattle.par_values.specs.declared.link.Link.TheVariants as link
use Rattle.par_values.specs.Areas.{Name}
use Rattle.par_step_laws.specs.par_single.Members.{Member, text_of, text_at, class_name_of}
use Rattle.par_step_laws.specs.par_single.Members.{class_name_at}
use Rattle.par_step_laws.specs.par_single.Members.{member_of, member_at}
use Rattle.par_step_laws.specs.par_link.entry.Named.TheVariants as named
use Rattle.par_step_laws.specs.par_link.entry.Named.TheVariants.{Nothing}
use Rattle.par_step_laws.specs.par_link.Builtins.{lock_or_nothing, builtin_field}
use Rattle.par_step_laws.specs.par_link.Named.{class_named, field_of, field_declared}
use Rattle.par_step_laws.specs.par_link.Named.{method_declared, named_by}
use Rattle.par_step_laws.specs.par_link.Linked.{named_in, named_at}
use Rattle.par_step_laws.specs.Methods.{pool_of, class_pool}
use Rattle.par_step_laws.specs.Links.{link_of, lock_link, number_or, link_at}
use Rattle.par_place.specs.par_code_form.PoolNames.{LOCKS, LOCK_TYPE}
use Rattle.par_place.specs.par_code_form.PoolNames as placed
use Rattle.par_placed_run_laws.proofs.Locks.{lock_named}

abbrev pub member : (class name descriptor : Name) → Member
member class name descriptor = record { class = class; name = name; descriptor = descriptor }

-- ---- texts

class_text : (pool : List Constant) (index : ℕ) (name : Name) → IsClassAt pool index name
    → class_name_at pool index ≡ name
class_text pool index name h = ap (class_name_of pool) h.entry ∙ ap text_of h.is_name

member_text : (pool : List Constant) (owner index : ℕ) (class name kind : Name)
    → IsClassAt pool owner class → IsNameTypeAt pool index name kind
    → member_at pool owner index ≡ member class name kind
member_text pool owner index class name kind c h =
    ap (member_of pool owner) h.entry
    ∙ ap (λ (t : Name). member t (text_at pool h.first) (text_at pool h.second))
    (class_text pool owner class c)
    ∙ ap (λ (t : Name). member class t (text_at pool h.second)) (ap text_of h.is_name)
    ∙ ap (λ (t : Name). member class name t) (ap text_of h.is_descriptor)

-- ---- names

nothing_there : (index : ℕ) (c : Constant) → IsAt [] index c → ⊥
nothing_there zero c h = cc h
nothing_there (suc index) c h = cc h

module _ (files : List ClassFile) where
  names_class : (o : Option ClassFile) (index : ℕ) (class : Name)
      → IsClassAt (pool_of o) index class → named_in files o index ≡ class_named files class
  unfolding named_by
  names_class None index class h = absurd (nothing_there index _ h.entry)
  names_class (Some file) index class h =
      ap (λ e. option_map_or (named_by files file.pool.entries) e Nothing) h.entry
      ∙ ap (class_named files) (ap text_of h.is_name)

  names_field : (o : Option ClassFile) (index : ℕ) (class name kind : Name)
      → IsFieldAt (pool_of o) index class name kind
      → named_in files o index ≡ field_declared files (member class name kind)
  unfolding named_by
  names_field None index class name kind h = absurd (nothing_there index _ h.entry)
  names_field (Some file) index class name kind h =
      ap (λ e. option_map_or (named_by files file.pool.entries) e Nothing) h.entry
      ∙ ap (field_declared files)
      (member_text file.pool.entries h.owner h.member class name kind h.is_class h.is_member)

  names_method : (o : Option ClassFile) (index : ℕ) (class name kind : Name)
      → IsMethodAt (pool_of o) index class name kind
      → named_in files o index ≡ method_declared files (member class name kind)
  unfolding named_by
  names_method None index class name kind h = absurd (nothing_there index _ h.entry)
  names_method (Some file) index class name kind h =
      ap (λ e. option_map_or (named_by files file.pool.entries) e Nothing) h.entry
      ∙ ap (method_declared files)
      (member_text file.pool.entries h.owner h.member class name kind h.is_class h.is_member)

  module _ (c : ℕ) where
    abbrev pool : List Constant
    pool = class_pool files c

    -- ---- links

    pub class_at : (index : ℕ) (class : Name) → IsClassAt pool index class
        → named_at files c index ≡ class_named files class
    class_at index class h = names_class (slice_get files c) index class h

    pub class_link_at : (index : ℕ) (class : Name) → IsClassAt pool index class
        → link_at files c index ≡ link_of files (class_named files class)
    class_link_at index class h =
        ap (number_or (link_of files (named_at files c index))) h.entry
        ∙ ap (link_of files) (class_at index class h)

    pub field_link_at : (index : ℕ) (class name kind : Name)
        → IsFieldAt pool index class name kind
        → link_at files c index ≡ link_of files (field_declared files (member class name kind))
    field_link_at index class name kind h =
        ap (number_or (link_of files (named_at files c index))) h.entry
        ∙ ap (link_of files) (names_field (slice_get files c) index class name kind h)

    pub method_at : (index : ℕ) (class name kind : Name) → IsMethodAt pool index class name kind
        → named_at files c index ≡ method_declared files (member class name kind)
    method_at index class name kind h =
        names_method (slice_get files c) index class name kind h

    pub method_link_at : (index : ℕ) (class name kind : Name)
        → IsMethodAt pool index class name kind
        → link_at files c index ≡ link_of files (method_declared files (member class name kind))
    method_link_at index class name kind h =
        ap (number_or (link_of files (named_at files c index))) h.entry
        ∙ ap (link_of files) (method_at index class name kind h)

    pub number_at : (index : ℕ) (v : ℤ) → IsAt pool index (Integer v)
        → link_at files c index ≡ link.Number v
    number_at index v h = ap (number_or (link_of files (named_at files c index))) h

    lock_declared : (l : ℕ) → l < 256
        → field_declared files (member LOCKS (placed.lock_field l) LOCK_TYPE) ≡ named.Lock l
    unfolding field_of builtin_field
    lock_declared l less = ap lock_or_nothing (lock_named l less)

    pub lock_link_at : (index l : ℕ) → l < 256
        → IsFieldAt pool index LOCKS (placed.lock_field l) LOCK_TYPE
        → link_at files c index ≡ lock_link files l
    lock_link_at index l less h =
        field_link_at index LOCKS (placed.lock_field l) LOCK_TYPE h
        ∙ ap (link_of files) (lock_declared l less)
