use Rattle.std.proofs.Common.{ap, subst, ℕ, List, Err}
use Rattle.std.specs.Prelude.{IfOk}
use Rattle.par_class.specs.Reading.{file_at}
use Rattle.par_class.specs.Spelling.{Spells}
use Rattle.par_loader.specs.Found.{Finds, taken_as}
use Rattle.par_loader.proofs.Finding.{there, none_there, too_long, some_there, was_read, rise_none}
use Rattle.par_loader.proofs.found.class_file.Goals as goal

pub returns-in-Err-Failed-clause-found : goal.returns-in-Err-Failed-clause-found
unfolding Finds
returns-in-Err-Failed-clause-found g c =
    let some = some_there (g.F.Folder.files c.args.folder.now) c.args.class.now in
    (some.0, some.1, tt)

pub returns-in-Err-Memory-clause-found : goal.returns-in-Err-Memory-clause-found
unfolding Finds
returns-in-Err-Memory-clause-found g c =
    let some = some_there (g.F.Folder.files c.args.folder.now) c.args.class.now in
    (some.0, some.1, tt)

pub returns-in-Err-Absent-clause-found : goal.returns-in-Err-Absent-clause-found
unfolding Finds
returns-in-Err-Absent-clause-found g c =
    let told = c.in-Err-Absent.ensures.absent (ap Err c.in-Err-Absent.field-0-is) in
    none_there (g.F.Folder.files c.args.folder.now) c.args.class.now (rw c.requires at told)

pub returns-in-Err-TooLong-clause-found : goal.returns-in-Err-TooLong-clause-found
unfolding Finds
returns-in-Err-TooLong-clause-found g c =
    let told = c.in-Err-TooLong.ensures.long (ap Err c.in-Err-TooLong.field-0-is) in
    too_long (g.F.Folder.files c.args.folder.now) c.args.class.now (rw c.requires at told)

pub returns-in-Ok-clause-found : goal.returns-in-Ok-clause-found
returns-in-Ok-clause-found g c =
    let bytes : List ℕ = c.in-Ok.bytes.items in
    let taken =
    subst (λ (b : List ℕ). Finds c.taken.result (taken_as c.args.class.now (file_at b)))
    c.as_slice.ensures.value c.taken.ensures.taken in
    let told = rw c.requires at c.in-Ok.ensures.found in
    there (g.F.Folder.files c.args.folder.now) c.args.class.now bytes c.taken.result
    c.in-Ok.ensures.short told taken

pub returns-in-Ok-clause-read : goal.returns-in-Ok-clause-read
returns-in-Ok-clause-read g c =
    let bytes : List ℕ = c.in-Ok.bytes.items in
    let taken =
    subst (λ (b : List ℕ). Finds c.taken.result (taken_as c.args.class.now (file_at b)))
    c.as_slice.ensures.value c.taken.ensures.taken in
    let spells =
    subst (λ (b : List ℕ). IfOk c.taken.result (Spells b)) c.as_slice.ensures.value
    c.taken.ensures.spelled in
    let told = rw c.requires at c.in-Ok.ensures.found in
    was_read (g.F.Folder.files c.args.folder.now) c.args.class.now bytes c.taken.result
    c.in-Ok.ensures.short told taken spells c.taken.ensures.own

pub returns-in-Ok-clause-rose : goal.returns-in-Ok-clause-rose
returns-in-Ok-clause-rose g c = rise_none c.taken.result _ _ c.taken.ensures.told
