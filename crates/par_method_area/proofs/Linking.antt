-- What an index of a constant pool is, by what its entry names.
use Rattle.std.proofs.Common.{◌≡◌, ℕ, List, Option, Some, None, slice_get, refl, sym, ap, ◌∙◌}
use Rattle.std.specs.Option.{option_map_or}
use Rattle.par_pool.specs.declared.constant.Constant.{Constant}
use Rattle.par_pool.specs.declared.constant.Constant.TheVariants as constant
use Rattle.par_pool.specs.Entries.{entry_at}
use Rattle.par_class.specs.declared.file.ClassFile.{ClassFile}
use Rattle.par_values.specs.declared.link.Link.{Link}
use Rattle.par_values.specs.Areas.{Name}
use Rattle.par_step_laws.specs.par_link.entry.Named.{Named}
use Rattle.par_step_laws.specs.par_link.entry.Named.TheVariants.{Nothing}
use Rattle.par_step_laws.specs.par_link.Linked.{named_in, named_at}
use Rattle.par_step_laws.specs.par_link.Named.{named_by}
use Rattle.par_step_laws.specs.Methods.{pool_of, class_pool}
use Rattle.par_step_laws.specs.Links.{link_of, link_at, number_or}
use Rattle.par_method_area.specs.Known.{KnowsClass}

module _ (files : List ClassFile) (index : ℕ) (l : Link) where
  of-entry : (entries : List Constant) (e : Option Constant)
      → (option_map_or (named_by files entries) e Nothing ≡ Nothing → ⊥) → number_or l e ≡ l
  unfolding named_by
  of-entry entries None some = absurd (some refl)
  of-entry entries (Some (constant.Integer n)) some = absurd (some refl)
  of-entry entries (Some _) some = refl

  of-file : (o : Option ClassFile) → (named_in files o index ≡ Nothing → ⊥)
      → number_or l (entry_at (pool_of o) index) ≡ l
  of-file None some = absurd (some refl)
  of-file (Some file) some = of-entry file.pool.entries (entry_at file.pool.entries index) some

-- an index that names something is what that is
pub linked : (files : List ClassFile) (class index : ℕ) (n : Named) → n ≡ named_at files class index
    → (n ≡ Nothing → ⊥)
    → link_of files n ≡ link_at files class index
linked files class index n is some =
    sym (of-file files index (link_of files n) (slice_get files class) (λ none. some (is ∙ none)))
    ∙ ap (λ m. number_or (link_of files m) (entry_at (class_pool files class) index)) is

-- ---- an index that names nothing of a kind is nothing of it

pub class-none : (classes : List Name) (l : Link) (e : Option Constant) → KnowsClass classes l None
    → KnowsClass classes (number_or l e) None
class-none classes l None known = known
class-none classes l (Some (constant.Integer n)) known = tt
class-none classes l (Some _) known = known
