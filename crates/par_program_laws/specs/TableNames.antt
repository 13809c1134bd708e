-- A name stands for one class of a table, and for one member of its kind.
use Rattle.std.specs.Prelude.{ℕ, ◌++◌, List, map}
use Rattle.std.specs.List.{AllByRecursion, IsDistinct}
use Rattle.std.specs.Str.{bytes_eq}
use Rattle.par_typed.specs.declared.table.ClassInfo.{ClassInfo}
use Rattle.par_typed.specs.declared.table.Table.{Table}

-- no two of these names are equal
abbrev pub AreApart : List (List ℕ) → Type 0
AreApart names = IsDistinct bytes_eq names

-- no two fields of the class have one name, and no two of its channels and methods
pub record HasOwnNames (c : ClassInfo) : Type 0 where
  pub fields : AreApart (map (λ f. f.name) c.fields)
  pub callees : AreApart (map (λ k. k.name) c.channels ++ map (λ m. m.name) c.methods)

-- no two classes have one name
pub record AreNamesApart (table : Table) : Type 0 where
  pub classes : AreApart (map (λ c. c.name) table.classes)
  pub members : AllByRecursion HasOwnNames table.classes
