-- The test whether an observer can tell two inputs apart, a channel at a time.
use Rattle.std.specs.Prelude.{ℕ, Bool, true, ◌&&◌, if◌then◌else◌, List}
use Rattle.std.specs.Cmp.Lexicographic.{pointwise}
use Rattle.std.specs.List.{list_all}
use Rattle.std.specs.Ordering.{int_eq}
use Rattle.par_typed.specs.declared.table.ChannelInfo.{ChannelInfo}
use Rattle.par_typed.specs.declared.table.ClassInfo.{ClassInfo}
use Rattle.par_typed.specs.declared.table.Table.{Table}
use Rattle.par_values.specs.declared.inputs.Inputs.{Inputs}
use Rattle.par_run_laws.specs.par_secrecy.Subject.{Name, given}
use Rattle.par_run_laws.specs.par_secrecy.Shown.{Observer, sees}
use Rattle.par_alike.specs.Subject.{policy_at}

abbrev pub observer : ℕ → List ℕ → Observer
observer actor locks = record { actor = actor; locks = locks }

-- the channel is no input, or not seen, or both inputs give it the same
abbrev pub channel_test : Inputs → Inputs → Table → Observer → Name → ChannelInfo → Bool
channel_test a b table o class c =
    if c.is_input && sees o (policy_at table c.policy)
    then pointwise int_eq (given a.channels class c.name) (given b.channels class c.name)
    else true

abbrev pub class_tests : Inputs → Inputs → Table → Observer → ClassInfo → Bool
class_tests a b table o class = list_all (channel_test a b table o class.name) class.channels
