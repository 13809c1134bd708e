use Rattle.std.proofs.Common.{◌≡◌, map, take, string_bytes}
use Rattle.par_loader.specs.Reads.{class_file}
use Rattle.par_class_writer.proofs.class_files.file_names.Given as goal

abbrev pub invariant-loop-class : goal.invariant-loop-class
invariant-loop-class l =
    map string_bytes l.names.items
    ≡ map (λ c. class_file c.name) (take l.class-index l.classes)
