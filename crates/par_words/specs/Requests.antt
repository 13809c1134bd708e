-- What a request that was read asks for.
use Rattle.par_words.specs.declared.words.Request.{Request}
use Rattle.par_words.specs.declared.words.Request.TheVariants as read
use Rattle.par_words.specs.Words.{Wanted, Check, Compile, Trace, Audit, Infer, Sample, Verify, Run}

abbrev pub wanted : Request → Wanted
wanted (read.Check file) = Check file.now
wanted (read.Compile file) = Compile file.now
wanted (read.Trace file inputs bound) = Trace file.now inputs.now bound
wanted (read.Audit actor file) = Audit actor.now file.now
wanted (read.Infer file) = Infer file.now
wanted (read.Sample number) = Sample number
wanted (read.Verify main) = Verify main.now
wanted (read.Run main inputs steps) = Run main.now inputs.now steps
