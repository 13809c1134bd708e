use Rattle.std.proofs.Common.{◌≡◌, take, None}
use Rattle.par_loader.specs.Mentions.{first_among}
use Rattle.par_loader.proofs.read_files.Loading.next.Given as goal

abbrev pub invariant-loop-place : goal.invariant-loop-place
invariant-loop-place l = first_among l.self.files (take l.place l.self.files) ≡ None
