-- What class files that are linked have: few items, as the numbers of their bytes tell.
use Rattle.std.specs.Prelude.{◌+◌, ◌<◌, ◌^◌, Bool, true, nat_le, length, Option, Some, None, IsTrue}
use Rattle.std.specs.List.{list_all}
use Rattle.par_single.specs.par_class.declared.file.CodeAttr.{CodeAttr}
use Rattle.par_single.specs.par_class.declared.file.ClassFile.{ClassFile}

-- code has at most 65,535 bytes
abbrev pub is_short : Option CodeAttr → Bool
is_short None = true
is_short (Some c) = nat_le (length c.code) 65535

-- a class file counts its constants and members by two bytes
pub record IsSmall (file : ClassFile) : Type 0 where
  pub entries : length file.pool.entries + 1 < 2 ^ 16
  pub fields : length file.fields < 2 ^ 16
  pub methods : length file.methods < 2 ^ 16
  pub code : IsTrue (list_all (λ m. is_short m.code) file.methods)
