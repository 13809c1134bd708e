-- Which member of a class a method of its file is.
use Rattle.std.proofs.Common.{◌≡◌, ℕ, zero, suc, ◌+◌, ◌⊎◌, inl, inr, true, List, [], ◌∷◌, ◌++◌}
use Rattle.std.proofs.Common.{length, map, Option, Some, None, slice_get, is_some, refl, sym}
use Rattle.std.proofs.Common.{ap, ◌∙◌, arith}
use Rattle.std.specs.List.{AllZip}
use Rattle.par_typed.specs.declared.table.ChannelInfo.{ChannelInfo}
use Rattle.par_typed.specs.declared.table.MethodInfo.{MethodInfo}
use Rattle.par_typed.specs.declared.table.Table.{Table}
use Rattle.par_typed.specs.Plain.{Body}
use Rattle.par_pool.specs.declared.constant.Constant.{Constant}
use Rattle.par_class.specs.declared.file.CodeAttr.{CodeAttr}
use Rattle.par_code_form.specs.declared.labelled.Labelled.{Labelled}
use Rattle.par_run_laws.specs.Names.{body_of}
use Rattle.par_file_run_laws.specs.par_compile_laws.Files.{IsCode}
use Rattle.par_file_run_laws.specs.par_compile_laws.Members.{Member, channel, method, methods_from}

-- a member is a channel, or one of those behind the channels
pub behind_channels : (cs : List ChannelInfo) (ms : List Member) (k : ℕ) (m : Member)
    → slice_get (map channel cs ++ ms) k ≡ Some m
    → ((ch : ChannelInfo) × (m ≡ channel ch))
    ⊎ ((j : ℕ) × (k ≡ length cs + j) × (slice_get ms j ≡ Some m))
behind_channels [] ms k m at = inr (k, omega arith, at)
behind_channels (ch ∷ cs) ms zero m at = let e : channel ch ≡ m = cc at in inl (ch, sym e)
behind_channels (ch ∷ cs) ms (suc k) m at = further (behind_channels cs ms k m at)
  where
    further : ((ch : ChannelInfo) × (m ≡ channel ch))
        ⊎ ((j : ℕ) × (k ≡ length cs + j) × (slice_get ms j ≡ Some m))
        → ((ch : ChannelInfo) × (m ≡ channel ch))
        ⊎ ((j : ℕ) × (suc k ≡ suc (length cs) + j) × (slice_get ms j ≡ Some m))
    further (inl is) = inl is
    further (inr (j, same, there)) = inr (j, omega (arith, same), there)

pub record MethodThere (table : Table) (bodies : List Body) (c i : ℕ) (ms : List MethodInfo)
    (k : ℕ) (m : Member) : Type 0 where
  pub info : MethodInfo
  pub has : slice_get ms k ≡ Some info
  pub is : m ≡ method table bodies info (body_of bodies c (i + k))

pub method_there : (table : Table) (bodies : List Body) (c i : ℕ) (ms : List MethodInfo) (k : ℕ)
    (m : Member) → slice_get (methods_from table bodies c i ms) k ≡ Some m
    → MethodThere table bodies c i ms k m
method_there table bodies c i [] k m at = absurd (cc at)
method_there table bodies c i (info ∷ ms) zero m at =
    let e : method table bodies info (body_of bodies c i) ≡ m = cc at in
    let first : i ≡ i + 0 = omega arith in
    record {
      info = info;
      has = refl;
      is = sym e ∙ ap (λ (n : ℕ). method table bodies info (body_of bodies c n)) first;
    }
method_there table bodies c i (info ∷ ms) (suc k) m at =
    let r = method_there table bodies c (suc i) ms k m at in
    let later : suc i + k ≡ i + suc k = omega arith in
    record {
      info = r.info;
      has = r.has;
      is = r.is ∙ ap (λ (n : ℕ). method table bodies r.info (body_of bodies c n)) later;
    }

-- what has no code in a file has none of its own
pub code_there : (pool : List Constant) (o : Option Labelled) (a : Option CodeAttr)
    → IsCode pool o a → is_some a ≡ true → is_some o ≡ true
code_there pool None None is some = some
code_there pool None (Some a) is some = absurd is
code_there pool (Some code) a is some = refl

pub none_beside : {A B : Type 0} (R : A → B → Type 0) (xs : List A) (ys : List B)
    → AllZip R xs ys → (n : ℕ) → slice_get xs n ≡ None → slice_get ys n ≡ None
none_beside R [] [] all n none = refl
none_beside R [] (y ∷ ys) all n none = absurd all
none_beside R (x ∷ xs) [] all n none = absurd all
none_beside R (x ∷ xs) (y ∷ ys) all zero none = absurd (cc none)
none_beside R (x ∷ xs) (y ∷ ys) all (suc n) none = none_beside R xs ys all.1 n none
