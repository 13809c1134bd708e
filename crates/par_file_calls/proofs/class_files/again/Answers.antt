use Rattle.par_file_calls.proofs.class_files.again.Goals as goal

pub write_class-again-requires : goal.write_class-again-requires
write_class-again-requires c = (c.args.bytes.now, c.in_ok-file.ensures.found)
