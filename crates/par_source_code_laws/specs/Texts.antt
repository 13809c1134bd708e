-- What a program's numbers are called has a place in a constant pool.
use Rattle.std.specs.Prelude.{ℕ}
use Rattle.par_pool.specs.Spelling.{IsText}
use Rattle.par_code_form.specs.Code.{Words}
use Rattle.par_code_form.specs.PoolNames.{full_name}

pub record AreTexts (w : Words) : Type 0 where
  pub class : (c : ℕ) → IsText (full_name (w.class c))
  pub field : (c f : ℕ) → IsText (w.field c f)
  pub field_type : (c f : ℕ) → IsText (w.field_type c f)
  pub channel : (c k : ℕ) → IsText (w.channel c k)
  pub method : (c i : ℕ) → IsText (w.method c i)
  pub method_type : (c i : ℕ) → IsText (w.method_type c i)
