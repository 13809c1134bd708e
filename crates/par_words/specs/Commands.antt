-- The programs' words, as those of one simple command each, and what such a command makes of them.
use Rattle.std.specs.Prelude.{◌≡◌, ℕ, Bool, true, false, List, [], ◌∷◌, Some, codes}
use Rattle.std.specs.Prelude.{unwrap_or, map, filter, fold, string_bytes}
use Rattle.std.specs.Option.{option_map_or}
use Rattle.std.specs.Str.{bytes_eq}
use Rattle.std.specs.declared.string.String.{String}
use Rattle.std.specs.declared.alloc.Global.{Global}
use Rattle.clap.specs.Words.{App, Row, Rule, all_of, fault_of, first_of, matches_of, new_app}
use Rattle.clap.specs.Words.{new_rule, with_rule}
use Rattle.clap.specs.Simple.{on_top}
use Rattle.clap.specs.declared.builder.action.ArgAction.TheVariants.{Append, SetTrue}
use Rattle.par_words.specs.declared.words.Which.{Which}
use Rattle.par_words.specs.declared.words.Which.TheVariants.{Compiler, Runner}
use Rattle.par_words.specs.declared.commands.Flag.{Flag}
use Rattle.par_words.specs.declared.commands.Flag.TheVariants.{Check, Trace, Audit, Infer, Sample}
use Rattle.par_words.specs.declared.commands.Flag.TheVariants.{Verify}

abbrev pub Text : Type 0
Text = List ℕ

-- ---- the commands

abbrev pub name_of : Flag → Text
name_of Check = codes "check"
name_of Trace = codes "trace"
name_of Audit = codes "audit"
name_of Infer = codes "infer"
name_of Sample = codes "sample"
name_of Verify = codes "verify"

-- the flags of a program
abbrev pub flags_of : Which → List Flag
flags_of Compiler = Check ∷ Trace ∷ Audit ∷ Infer ∷ Sample ∷ []
flags_of Runner = Verify ∷ []

abbrev pub program_of : Which → Text
program_of Compiler = codes "paragonc"
program_of Runner = codes "paragon"

-- the flag of a name, as `--check`
abbrev pub flag : Text → Rule
flag name =
    record (new_rule name) {
      long = Some name;
      action = Some SetTrue;
    }

-- the words that are no flags
abbrev pub values_rule : Rule
values_rule = record (new_rule (codes "values")) { action = Some Append }

-- a command without help and version, whose words do not begin with the program's name
abbrev pub bare : Text → App
bare name =
    on_top (λ s.
    record s {
      no_binary_name = true;
      disable_help_flag = true;
      disable_version_flag = true;
    })
    (new_app name)

-- a command that has these flags too
abbrev pub with_flags : App → List Flag → App
with_flags app flags = fold (λ (a : App) f. with_rule a (flag (name_of f))) app flags

abbrev pub command_of : Which → App
command_of which = with_rule (with_flags (bare (program_of which)) (flags_of which)) values_rule

-- ---- what they make of words

abbrev pub texts : List (String Global) → List Text
texts words = map string_bytes words

-- the command takes the words: a parse of them has no fault
abbrev pub IsTaken : Which → List Text → Type 0
IsTaken which words = fault_of (command_of which) words ≡ []

-- what a parse finds of the words of a command
abbrev pub rows : Which → List Text → List Row
rows which words = matches_of (command_of which) words

-- the words that are no flags, in their order
abbrev pub values : List Row → List Text
values found = unwrap_or (all_of (codes "values") found) []

-- whether a flag is among the words
abbrev pub has_flag : List Row → Flag → Bool
has_flag found flag =
    option_map_or (λ text. bytes_eq text (codes "true")) (first_of (name_of flag) found) false

-- the flags among the words
abbrev pub set_flags : Which → List Row → List Flag
set_flags which found = filter (has_flag found) (flags_of which)
