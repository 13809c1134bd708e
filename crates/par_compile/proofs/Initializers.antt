-- The initializer of a class is put.
use Rattle.std.proofs.Common.{◌≡◌, ℕ, Bool, Some, refl, sym, subst, arith, [], ◌∷◌}
use Rattle.std.specs.Prelude.{codes}
use Rattle.std.specs.List.{AllByRecursion}
use Rattle.par_pool.specs.Entries.{IsMethodAt}
use Rattle.par_typed.specs.declared.table.ClassInfo.{ClassInfo}
use Rattle.par_class.specs.declared.file.CodeAttr.{CodeAttr}
use Rattle.par_code_form.specs.Placed.{IsWritable}
use Rattle.par_compile_laws.specs.Members.{above, initializer, initializer_of}
use Rattle.par_compile_laws.specs.Files.{IsCodeWith}
use Rattle.par_compile.specs.declared.draft.Draft.{Draft}
use Rattle.par_compile.specs.Growing.{Stays, Grows, IsSuperCall}
use Rattle.par_compile.specs.Initializers.{super_attr, super_call}
use Rattle.par_compile.specs.Drafts.{CodeFits, IsShort, Puts, PutsMember}
use Rattle.par_compile.proofs.Members.{puts_member}
use Rattle.par_compile.proofs.Placing.{super_code_grows, super_code_stays, super_fits}
use Rattle.par_compile.proofs.Placing.{super_short}

pub puts_initializer : (frames : Bool) (k : ClassInfo) (attr : CodeAttr) (index : ℕ)
    (start mid end : Draft)
    → attr ≡ super_attr index → mid.methods ≡ start.methods
    → Grows (IsSuperCall k.exception) start.pool mid.pool
    → AllByRecursion IsWritable (super_call index)
    → Stays mid.pool (λ q. IsMethodAt q index (above k.exception) (codes "<init>") (codes "()V"))
    → PutsMember 1 (codes "<init>") (codes "()V") (Some attr) mid end
    → Puts frames (initializer k ∷ []) start end
puts_initializer frames k attr index start mid end e same g w s p =
    puts_member frames (initializer k) (Some attr) start mid end same
    (super_code_grows k start.pool mid.pool g)
    (subst (λ (a : CodeAttr).
    Stays mid.pool (λ q. IsCodeWith frames q (Some (initializer_of k)) (Some a))) (sym e)
    (super_code_stays frames k mid.pool index w s))
    (subst (λ (a : CodeAttr). Stays mid.pool (λ q. CodeFits q (Some a))) (sym e)
    (super_fits mid.pool index))
    (subst (λ (a : CodeAttr). IsShort (Some a)) (sym e) (super_short index))
    (omega arith) refl p
