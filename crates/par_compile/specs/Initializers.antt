-- The code of an initializer in its file.
use Rattle.std.specs.Prelude.{ℕ, List, [], ◌∷◌, ◌++◌, Option, Some}
use Rattle.par_instr.specs.declared.instr.Instr.{Instr}
use Rattle.par_instr.specs.declared.instr.Instr.TheVariants.{AloadShort, Invokespecial, Return}
use Rattle.par_instr.specs.Spelling.{spelling}
use Rattle.par_class.specs.declared.file.CodeAttr.{CodeAttr}

-- it calls the method of this index on the object itself, and returns
abbrev pub super_call : ℕ → List (Option Instr)
super_call index = Some (AloadShort 0) ∷ Some (Invokespecial index) ∷ Some Return ∷ []

abbrev pub super_attr : ℕ → CodeAttr
super_attr index = record {
  max_stack = 1;
  max_locals = 1;
  code = spelling (AloadShort 0) ++ (spelling (Invokespecial index) ++ spelling Return);
  catches = [];
  attributes = [];
}
