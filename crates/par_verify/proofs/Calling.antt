-- What is known of calls stands at the indices of their descriptors.
use Rattle.std.proofs.Common.{◌≡◌, ℕ, ◌<◌, Bool, true, false, List, [], ◌∷◌, Option, Some, None}
use Rattle.std.proofs.Common.{length, map, slice_get, refl, sym, ap, ◌∙◌, arith}
use Rattle.std.specs.Option.{option_map, unwrap_or}
use Rattle.std.proofs.lemmas.Option.{slice_get-map}
use Rattle.par_class.specs.par_pool.declared.constant.Constant.{Constant}
use Rattle.par_values.specs.Areas.{Name}
use Rattle.par_single.specs.Descriptors.{Text}
use Rattle.par_single.specs.Links.{signature_said}
use Rattle.par_single.specs.Members.{text_at}
use Rattle.par_link.specs.Placed.{pool_texts}
use Rattle.par_link.proofs.Keyed.{text-made}
use Rattle.par_kinds.specs.Kinds.{vkind}
use Rattle.par_kinds.specs.Linked.{given_to}
use Rattle.par_verify.specs.declared.first.Call.{Call}
use Rattle.par_verify.specs.Calls.{call_of, call_said, given_in, AreCalls}

-- there are those of index 0
pub some_calls : (class : Name) (pool : List Constant) (calls : List Call)
    → AreCalls class pool calls → 0 < length calls
some_calls class pool [] are = absurd (cc are)
some_calls class pool (c ∷ calls) are = omega arith

module _ (class : Name) (pool : List Constant) (calls : List Call) (index : ℕ)
    (are : AreCalls class pool calls) where
  -- what stands at an index, or else what no bytes say
  pub read : unwrap_or (slice_get (map call_of calls) index) (call_said class [])
      ≡ call_said class (text_at pool index)
  read =
      ap (λ cs. unwrap_or (slice_get cs index) (call_said class [])) are
      ∙ text-made (call_said class) pool index

  or-none : (o : Option Call) → slice_get calls index ≡ o
      → unwrap_or (option_map call_of o) (call_said class []) ≡ call_said class (text_at pool index)
  or-none o is =
      ap (λ (p : Option Call). unwrap_or (option_map call_of p) (call_said class [])) (sym is)
      ∙ ap (λ p. unwrap_or p (call_said class [])) (sym (slice_get-map call_of calls index)) ∙ read

  pub call_there : (call : Call) → slice_get calls index ≡ Some call
      → call_of call ≡ call_said class (text_at pool index)
  call_there call is = or-none (Some call) is

  -- behind the last index stand no bytes, as at index 0
  pub call_missing : (first : Call) → slice_get calls index ≡ None
      → call_of first ≡ call_said class []
      → call_of first ≡ call_said class (text_at pool index)
  call_missing first none is = is ∙ or-none None none

-- what a method is given
pub given-said : (static : Bool) (class : Name) (text : Text)
    → given_in static (call_said class text)
    ≡ map vkind (given_to static class (signature_said text).takes)
given-said true class text = refl
given-said false class text = refl
