-- What carries security from a program to its files: nothing of them is looked at but their runs.
use Rattle.par_secrecy.specs.Subject.{Subject}
use Rattle.par_secrecy.specs.Target.{Target}
use Rattle.par_secrecy.specs.Secure.{Secure}
use Rattle.par_secrecy.specs.Shows.{Shows}
use Rattle.par_secrecy.specs.SecureFiles.{SecureFiles}

-- files whose runs show those of a secure program are secure
abbrev pub ShownFilesAreSecure : Type 0
ShownFilesAreSecure = (target : Target) (subject : Subject) → Shows target subject → Secure subject
    → SecureFiles target subject
