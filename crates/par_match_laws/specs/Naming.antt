-- Labelled code among linked class files: what names are to its instructions. A class stands under
-- its simple name there.
use Rattle.std.specs.Prelude.{ℕ, List}
use Rattle.par_code_form.specs.par_class.declared.file.ClassFile.{ClassFile}
use Rattle.par_values.specs.declared.link.Link.{Link}
use Rattle.par_values.specs.declared.link.Link.TheVariants as link
use Rattle.par_values.specs.Areas.{Name}
use Rattle.par_step_laws.specs.par_single.Links.{signature_said}
use Rattle.par_step_laws.specs.par_single.Members.{Member}
use Rattle.par_step_laws.specs.par_link.Named.{class_named, field_declared, method_declared}
use Rattle.par_step_laws.specs.Classes.{class_names, exceptions, exception_named}
use Rattle.par_step_laws.specs.Links.{link_of, lock_link}
use Rattle.par_step_laws.specs.Methods.{method_descriptor}
use Rattle.par_match_laws.specs.Files.{is_of_exceptions}
use Rattle.par_code_form.specs.declared.labelled.Labelled.{Labelled}
use Rattle.par_match_laws.specs.Labelled.{Naming}
use Rattle.par_match_laws.specs.Labelled as matching
use Rattle.par_code_form.specs.PoolNames.{full_name}

-- the number of a class; what is none has none of its own
abbrev pub number_of : Link → ℕ
number_of (link.Class c) = c.number
number_of _ = 0

-- a member, by the name of its class in programs
abbrev pub member : (class name descriptor : Name) → Member
member class name descriptor =
    record { class = full_name class; name = name; descriptor = descriptor }

module _ (files : List ClassFile) where
  abbrev pub class_of_name : Name → Link
  class_of_name class = link_of files (class_named files (full_name class))

  abbrev pub field_of_name : (class name descriptor : Name) → Link
  field_of_name class name descriptor =
      link_of files (field_declared files (member class name descriptor))

  abbrev pub method_of_name : (class name descriptor : Name) → Link
  method_of_name class name descriptor =
      link_of files (method_declared files (member class name descriptor))

  abbrev pub naming_of : Naming
  naming_of = record {
    names = class_names files;
    exceptions = exceptions files;
    exception_named = exception_named files;
    number = λ class. number_of (class_of_name class);
    class = class_of_name;
    field = field_of_name;
    method = method_of_name;
    lock = lock_link files;
    wants_exception = λ class name descriptor.
        is_of_exceptions (method_declared files (member class name descriptor));
  }

  -- the code of each method as a machine runs it, with what its descriptor says that it gives
  abbrev pub to_run : (ℕ → ℕ → Labelled) → ℕ → ℕ → matching.Labelled
  to_run code class method = record {
    items = (code class method).items;
    handlers = (code class method).handlers;
    max_stack = (code class method).max_stack;
    max_locals = (code class method).max_locals;
    gives = (signature_said (method_descriptor files class method)).gives;
  }
