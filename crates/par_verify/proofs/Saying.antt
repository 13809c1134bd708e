-- What types and forms say is what a verifier keeps of it.
use Rattle.std.proofs.Common.{◌≡◌, ℕ, ◌-◌, Bool, true, false, List, [], ◌∷◌, ◌++◌, length, map}
use Rattle.std.proofs.Common.{take, reverse, Option, Some, None, IfSome, refl, sym, ap, ◌∙◌}
use Rattle.std.specs.Prelude.{nat_le, if◌then◌else◌}
use Rattle.std.specs.Option.{option_map, unwrap_or}
use Rattle.std.proofs.lemmas.List.{length-map, take-map}
use Rattle.par_frame_forms.specs.par_pool.declared.constant.Constant.{Constant}
use Rattle.par_frame_forms.specs.declared.form.PlaceType.{PlaceType}
use Rattle.par_kinds.specs.declared.frame.VKind.{VKind}
use Rattle.par_kinds.specs.declared.frame.VKind.TheVariants.{Top}
use Rattle.par_kinds.specs.Kinds.{KFrame}
use Rattle.par_kinds.specs.Linked.{padded}
use Rattle.par_given_frames.specs.par_frames.Names.{kind_of}
use Rattle.par_given_frames.specs.par_frames.Given as given
use Rattle.par_given_frames.specs.par_frames.Given.{on_some}
use Rattle.par_frame_steps.specs.par_place_kinds.declared.kind.PlaceKind.{PlaceKind}
use Rattle.par_frame_steps.specs.Marks.{kinds_of}
use Rattle.par_frame_steps.specs.Marks.{kind_of as kind_mark}
use Rattle.par_verify.specs.Said.{kind_in}

module _ (pool : List Constant) where
  -- where all types say kinds, these are those
  kinds-in : (ts : List PlaceType) (ks : List VKind) → given.kinds_of pool ts ≡ Some ks
      → map (kind_in pool) ts ≡ ks
  kinds-in [] ks e = cc e
  kinds-in (t ∷ ts) ks e =
      by (kind_of pool t) refl (given.kinds_of pool ts) (λ more are. kinds-in ts more are) e
    where
      by : (o : Option VKind) → kind_of pool t ≡ o → (os : Option (List VKind))
          → ((more : List VKind) → os ≡ Some more → map (kind_in pool) ts ≡ more)
          → on_some o (λ k. option_map (λ ls. k ∷ ls) os) ≡ Some ks
          → kind_in pool t ∷ map (kind_in pool) ts ≡ ks
      by None is os rest e = absurd (cc e)
      by (Some k) is None rest e = absurd (cc e)
      by (Some k) is (Some more) rest e =
          let same : k ∷ more ≡ ks = cc e in
          ap (λ o. unwrap_or o Top ∷ map (kind_in pool) ts) is
          ∙ ap (λ ls. k ∷ ls) (rest more refl) ∙ same

  -- all that are listed are told
  pub all_said : (ts : List PlaceType) (all : List VKind) → all ≡ map (kind_in pool) ts
      → IfSome (given.kinds_of pool ts) (λ said. all ≡ said)
  all_said ts all is = by (given.kinds_of pool ts) refl where
    by : (o : Option (List VKind)) → given.kinds_of pool ts ≡ o → IfSome o (λ said. all ≡ said)
    by None e = tt
    by (Some ks) e = is ∙ kinds-in ts ks e

  -- behind others
  pub more_said : (listed : List VKind) (ts : List PlaceType) (all : List VKind)
      → all ≡ listed ++ map (kind_in pool) ts
      → IfSome (option_map (λ ks. listed ++ ks) (given.kinds_of pool ts)) (λ said. all ≡ said)
  more_said listed ts all is = by (given.kinds_of pool ts) refl where
    by : (o : Option (List VKind)) → given.kinds_of pool ts ≡ o
        → IfSome (option_map (λ ks. listed ++ ks) o) (λ said. all ≡ said)
    by None e = tt
    by (Some ks) e = is ∙ ap (λ ls. listed ++ ls) (kinds-in ts ks e)

-- those that are left of others
pub left_said : (many : ℕ) (listed left : List PlaceKind)
    → left ≡ take (length listed - many) listed
    → IfSome (if nat_le many (length (kinds_of listed))
    then Some (take (length (kinds_of listed) - many) (kinds_of listed)) else None)
    (λ said. kinds_of left ≡ said)
left_said many listed left is = by (nat_le many (length (kinds_of listed))) where
  by : (b : Bool)
      → IfSome (if b then Some (take (length (kinds_of listed) - many) (kinds_of listed))
      else None) (λ said. kinds_of left ≡ said)
  by false = tt
  by true =
      ap kinds_of is ∙ sym (take-map kind_mark (length listed - many) listed)
      ∙ ap (λ n. take (n - many) (kinds_of listed)) (sym (length-map listed kind_mark))

-- a frame of code with so many locals
abbrev pub framed : ℕ → List VKind → List VKind → KFrame
framed many locals stack = record { locals = padded many locals; stack = reverse stack }

-- a frame of what is told
pub frame_told : (many : ℕ) (o : Option (List VKind)) (locals stack : List VKind)
    → IfSome o (λ said. stack ≡ said)
    → IfSome o (λ said. framed many locals stack ≡ framed many locals said)
frame_told many None locals stack is = tt
frame_told many (Some said) locals stack is = ap (framed many locals) is
