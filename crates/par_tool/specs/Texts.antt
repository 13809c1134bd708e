-- The status and the line of each answer.
use Rattle.std.specs.Prelude.{ℕ, Bool, true, false, nat_eq, if◌then◌else◌, List, ◌++◌, codes}
use Rattle.std.specs.Fmt.{decimal}
use Rattle.par_refusals.specs.declared.refusal.TheConstants.{LIMIT_RULE}
use Rattle.par_tool.specs.declared.answer.Answer.{Answer}
use Rattle.par_sample.specs.Summary.{summary_line}
use Rattle.par_tool.specs.declared.answer.Answer.TheVariants.{Accepted, Compiled, Sampled}
use Rattle.par_tool.specs.declared.answer.Answer.TheVariants.{Verified}
use Rattle.par_tool.specs.declared.answer.Answer.TheVariants.{Refused, Usage}
use Rattle.par_tool.specs.declared.answer.Answer.TheVariants.{Absent, ReadFault, WriteFault}
use Rattle.par_tool.specs.declared.answer.Answer.TheVariants.{TooLong, BadClass}
use Rattle.par_tool.specs.declared.answer.Answer.TheVariants.{BadInputs, NoActor}

abbrev pub status : Answer → ℕ
status Accepted = 0
status (Compiled files) = 0
status (Sampled summary) = 0
status (Verified files) = 0
status (Refused rule line column limit count) = 1
status Usage = 2
status Absent = 3
status ReadFault = 4
status WriteFault = 5
status TooLong = 8
status (BadClass class number value) = 12
status (BadInputs line) = 13
status NoActor = 15

-- the number of class files that are written
abbrev pub compiled_text : ℕ → List ℕ
compiled_text files = codes "accepted " ++ (decimal files ++ codes "\n")

-- the number of class files that are verified
abbrev pub verified_text : ℕ → List ℕ
verified_text files = codes "verified " ++ (decimal files ++ codes "\n")

-- the rule that is broken, and the line and the column of its place
abbrev pub refused_text : ℕ → ℕ → ℕ → List ℕ
refused_text rule line column =
    codes "refused " ++ (decimal rule
    ++ (codes " at " ++ (decimal line ++ (codes ":" ++ (decimal column ++ codes "\n")))))

-- the place at which a limit is exceeded, its number and the count
abbrev pub exceeded_text : ℕ → ℕ → ℕ → ℕ → List ℕ
exceeded_text line column limit count =
    codes "refused 106 at " ++ (decimal line ++ (codes ":" ++ (decimal column
    ++ (codes " limit " ++ (decimal limit ++ (codes " count " ++ (decimal count ++ codes "\n")))))))

-- the class file that is refused, the number of the refusal, and what it carries
abbrev pub class_text : List ℕ → ℕ → ℕ → List ℕ
class_text class number value =
    codes "bad class " ++ (class ++ (codes " " ++ (decimal number
    ++ (codes " " ++ (decimal value ++ codes "\n")))))

-- the line of an input file that is wrong
abbrev pub inputs_text : ℕ → List ℕ
inputs_text line = codes "bad inputs line " ++ (decimal line ++ codes "\n")

-- the line, which ends with byte 10
abbrev pub text : Answer → List ℕ
text Accepted = codes "accepted\n"
text (Compiled files) = compiled_text files
text (Sampled summary) = summary_line summary
text (Verified files) = verified_text files
text (Refused rule line column limit count) =
    if nat_eq rule LIMIT_RULE then exceeded_text line column limit count
    else refused_text rule line column
text Usage = codes "usage\n"
text Absent = codes "absent\n"
text ReadFault = codes "read fault\n"
text WriteFault = codes "write fault\n"
text TooLong = codes "too long\n"
text (BadClass class number value) = class_text class number value
text (BadInputs line) = inputs_text line
text NoActor = codes "no actor\n"

-- whether the answer tells of a fault that has happened
abbrev pub is_fault : Answer → Bool
is_fault ReadFault = true
is_fault WriteFault = true
is_fault _ = false
