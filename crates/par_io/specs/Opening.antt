-- What comes of a file of the system that is read or written whole: how it is opened, and what then
-- is handed out, or is in it.
use Rattle.std.specs.Prelude.{◌≡◌, ℕ, ◌<◌, ◌↔◌, true, List, length, Vec, Option, IfSome, Result}
use Rattle.std.specs.Prelude.{IfOk, IsOkAnd, IfErr, IsErr, IsErrOf, IsErrAnd}
use Rattle.std.specs.Result.{result_ok}
use Rattle.std.specs.Fs.{new_options, with_read, with_write, with_create, with_truncate}
use Rattle.std.specs.Io.KnownBytes.{Appends}
use Rattle.std.specs.declared.fs.options.OpenOptions.{OpenOptions}
use Rattle.par_io.specs.declared.outside.ReadFail.{ReadFail}
use Rattle.par_io.specs.declared.outside.WriteFail.{WriteFail}

-- how a file is opened that is to be read
abbrev pub for_reading : OpenOptions
for_reading = with_read new_options true

-- and one that is to be written: it is made, or cut off where it is there
abbrev pub for_writing : OpenOptions
for_writing = with_truncate (with_create (with_write new_options true) true) true

-- A file was opened by a call that may give this, and read: all that it holds is handed out, where
-- it tells that, or it is told why not.
pub record IsRead {F E Z : Type 0} (gives : Option F → Type 0) (is_missing : E → Type 0)
    (holds : F → Option (List ℕ)) (limit : ℕ) (answer : Result (Vec ℕ Z) ReadFail) : Type 0 where
  pub opened : Result F E
  pub given : gives (result_ok opened)
  pub whole : IfOk opened (λ file. IfOk answer (λ bytes.
      IfSome (holds file) (λ told. bytes.items ≡ told)))
  pub long : IfOk opened (λ file. IsErrOf answer ReadFail.TooLong →
      IfSome (holds file) (λ told. limit < length told))
  pub absent : IsErrOf answer ReadFail.Absent ↔ IsErrAnd opened is_missing
  pub unopened : IfErr opened (λ _. IsErr answer)

-- A file was opened by a call that may give this, and written: all of these bytes are in it behind
-- what it held, where it tells that, or it is told why not.
pub record IsWritten {F E U : Type 0} (gives : Option F → Type 0) (lacks_memory : E → Type 0)
    (holds : F → Option (List ℕ)) (bytes : List ℕ) (answer : Result U WriteFail) : Type 0 where
  pub created : Result F E
  pub given : gives (result_ok created)
  pub written : IfOk answer (λ _. IsOkAnd created (λ file.
      (after : F) × Appends (holds file) (holds after) bytes))
  pub memory : IsErrOf answer WriteFail.Memory ↔ IsErrAnd created lacks_memory
