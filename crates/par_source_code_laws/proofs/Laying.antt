-- What a layout has to say of the things that a source names.
use Rattle.std.proofs.Common.{◌≡◌, ℕ, true, false, Some, map}
use Rattle.std.specs.Prelude.{slice_get, ◌+◌}
use Rattle.par_typed.specs.declared.table.FieldInfo.{FieldInfo}
use Rattle.par_typed.specs.declared.table.ChannelInfo.{ChannelInfo}
use Rattle.par_typed.specs.declared.table.MethodInfo.{MethodInfo}
use Rattle.par_typed.specs.declared.table.ClassInfo.{ClassInfo}
use Rattle.par_typed.specs.declared.table.Table.{Table}
use Rattle.par_typed.specs.Members.{field_at, channel_at, method_at}
use Rattle.par_erase.specs.Erased.{inputs_in, input_place, output_place}
use Rattle.par_evaluation_laws.specs.Laid.{Layout, Meth, HasMethod, HasOwn}
use Rattle.par_evaluation_laws.specs.Laid.{HasStatic}
use Rattle.par_evaluation_laws.specs.Laid.{IsInput, IsOutput}
use Rattle.par_evaluation_laws.specs.Laid.{IsLock, IsMade, IsThrown}
use Rattle.par_source_code_laws.specs.Named.{Named, Made, Raised, OfClass, OfObject, Reads, Writes}
use Rattle.par_source_code_laws.specs.Named.{Calls}
use Rattle.par_source_code_laws.specs.Named.{Uses}

-- a method as its callers see it
pub record IsMethod (me : Meth) (m : MethodInfo) : Type 0 where
  pub static : me.static ≡ m.is_static
  pub takes : me.takes ≡ map (λ p. p.ty) m.params
  pub result : me.result ≡ m.result

-- where this is known of a thing, and the table has it
pub record Lays (t : Table) (lay : Layout) (P : Named → Type 0) : Type 0 where
  pub made : (c : ℕ) (info : ClassInfo) → slice_get t.classes c ≡ Some info
      → info.exception ≡ false → P (Made c) → IsMade lay c
  pub raised : (c : ℕ) (info : ClassInfo) → slice_get t.classes c ≡ Some info
      → info.exception ≡ true → P (Raised c) → IsThrown lay c
  pub static : (c f : ℕ) (info : FieldInfo) → field_at t c f ≡ Some info
      → info.is_static ≡ true → P (OfClass c f) → HasStatic lay c f info.ty
  pub own : (c f : ℕ) (info : FieldInfo) → field_at t c f ≡ Some info
      → info.is_static ≡ false → P (OfObject c f) → HasOwn lay c f info.ty
  pub input : (c k : ℕ) (info : ChannelInfo) → channel_at t c k ≡ Some info
      → info.is_input ≡ true → P (Reads c (input_place t c k)) → IsInput lay c (input_place t c k)
  pub output : (c k : ℕ) (info : ChannelInfo) → channel_at t c k ≡ Some info
      → info.is_input ≡ false → P (Writes c (inputs_in t c + output_place t c k))
      → IsOutput lay c (inputs_in t c + output_place t c k)
  pub method : (c i : ℕ) (info : MethodInfo) → method_at t c i ≡ Some info → P (Calls c i)
      → (me : Meth) × HasMethod lay c i me × IsMethod me info
  pub lock : (l : ℕ) → P (Uses l) → IsLock lay l
