-- From what is said to the status of the call; and what a file that the folder tells of says of its
-- reads.
use Rattle.std.proofs.Common.{◌≡◌, ℕ, ◌<◌, ◌≤◌, List, length, Option, Some, None, refl, sym, ap}
use Rattle.std.proofs.Common.{subst, ◌∙◌, inl, inr, arith}
use Rattle.std.specs.Prelude.{◌⊎◌}
use Rattle.par_io.specs.Causes.{FolderCounts, SinkCounts, Files, Told}
use Rattle.par_io.specs.Saying.{Said, whole, cut, unsaid}
use Rattle.par_tool.specs.declared.answer.Answer.{Answer}
use Rattle.par_tool.specs.declared.answer.Answer.TheVariants.{Absent, ReadFault, TooLong}
use Rattle.par_tool.specs.declared.answer.Answer.TheVariants.{WriteFault}
use Rattle.par_tool.specs.Texts.{status}
use Rattle.par_tool.specs.Outside.{Text, WasRead, NotRead, IsThere, IsMissing, IsOverlong}
use Rattle.par_tool.specs.Exactly.{IsSaidBy, comes, put_fails, lacks_memory, IsStatus, said}
use Rattle.par_tool.specs.Exactly.{read_fails}

-- the answer has the status, or tells of a failed read
pub data IsNear (number : ℕ) (a : Answer) : Type 0 where
  same : status a ≡ number → IsNear number a
  reads : status a ≡ 4 → IsNear number a

-- what is said has its status, but for a failed put and want of memory
pub said_status : (number result : ℕ) (lines : List Text) (old new : Option Text) (f g : SinkCounts)
    → Said number lines result old new f g → IsSaidBy result number
said_status number result lines old new f g (whole is counts put) = comes is
said_status number result lines old new f g (cut is at) = put_fails is
said_status number result lines old new f g (unsaid is at) = lacks_memory is

renumbered : (one other result : ℕ) → one ≡ other → IsSaidBy result one → IsSaidBy result other
renumbered one other result e h = subst (IsSaidBy result) e h

as_read_fault : (number result : ℕ) → IsSaidBy result 4 → IsStatus result number
as_read_fault number result (comes is) = read_fails is
as_read_fault number result (put_fails is) = said (put_fails is)
as_read_fault number result (lacks_memory is) = said (lacks_memory is)

as_write_fault : (result : ℕ) → IsSaidBy result 5 → IsStatus result 0 ⊎ (result ≡ 5)
as_write_fault result (comes is) = inr is
as_write_fault result (put_fails is) = inl (said (put_fails is))
as_write_fault result (lacks_memory is) = inl (said (lacks_memory is))

-- what is said has the status that it is equal to
pub same_status : (one other result : ℕ) → one ≡ other → IsSaidBy result one → IsStatus result other
same_status one other result e h = said (renumbered one other result e h)

pub near_status : (number result : ℕ) (a : Answer) → IsNear number a → IsSaidBy result (status a)
    → IsStatus result number
near_status number result a (same e) h = same_status (status a) number result e h
near_status number result a (reads e) h =
    as_read_fault number result (renumbered (status a) 4 result e h)

-- an accepted source that is only checked, and one that is compiled
pub checks : (result : ℕ) (a : Answer) → (a ≡ WriteFault → ⊥) → IsSaidBy result (status a)
    → IsNear 0 a ⊎ (a ≡ WriteFault) → IsStatus result 0
checks result a never h (inl near) = near_status 0 result a near h
checks result a never h (inr is) = absurd (never is)

pub compiles : (result : ℕ) (a : Answer) → IsSaidBy result (status a)
    → IsNear 0 a ⊎ (a ≡ WriteFault) → IsStatus result 0 ⊎ (result ≡ 5)
compiles result a h (inl near) = inl (near_status 0 result a near h)
compiles result a h (inr is) =
    as_write_fault result (renumbered (status a) 5 result (ap status is) h)

-- ---- files that the folder tells of

pub read_there : (files : Option Files) (limit : ℕ) (file a b : Text) → IsThere files limit file a
    → WasRead files limit file b → a ≡ b
read_there None limit file a b there read = absurd there
read_there (Some m) limit file a b there read =
    let found = read.found in let is = there.0 in let e : Some a ≡ Some b = sym is ∙ found in cc

pub missing_read : (files : Option Files) (limit : ℕ) (file b : Text) → IsMissing files file
    → WasRead files limit file b → ⊥
missing_read None limit file b missing read = missing
missing_read (Some m) limit file b missing read =
    let found = read.found in let e : None ≡ Some b = sym missing ∙ found in cc

pub overlong_read : (files : Option Files) (limit : ℕ) (file b : Text) → IsOverlong files limit file
    → WasRead files limit file b → ⊥
overlong_read None limit file b long read = long
overlong_read (Some m) limit file b long read =
    let found = read.found in
    let e : Some long.0 ≡ Some b = sym long.1 ∙ found in
    let is : long.0 ≡ b = cc in
    let more : limit < length b = subst (λ (t : Text). limit < length t) is long.2 in
    let few : length b ≤ limit = read.short in
    omega arith

module _ (files : Option Files) (before after : FolderCounts) (limit : ℕ) (file : Text) where
  missing_long : (fs : Option Files) → IsMissing fs file
      → Told fs (λ m. (bytes : Text) × (m file ≡ Some bytes) × (limit < length bytes)) → ⊥
  missing_long None missing long = missing
  missing_long (Some m) missing long = let e : None ≡ Some long.0 = sym missing ∙ long.1 in cc

  pub missing_not_read : IsMissing files file → (a : Answer)
      → NotRead files before after limit file a → IsNear 3 a
  missing_not_read missing Absent h = same refl
  missing_not_read missing ReadFault h = reads refl
  missing_not_read missing TooLong h = absurd (missing_long files missing h.1)
  missing_not_read missing _ h = absurd h

  overlong_absent : (fs : Option Files) → IsOverlong fs limit file
      → Told fs (λ m. m file ≡ None) → ⊥
  overlong_absent None long absent = long
  overlong_absent (Some m) long absent = let e : None ≡ Some long.0 = sym absent ∙ long.1 in cc

  pub overlong_not_read : IsOverlong files limit file → (a : Answer)
      → NotRead files before after limit file a → IsNear 8 a
  overlong_not_read long Absent h = absurd (overlong_absent files long h.1)
  overlong_not_read long ReadFault h = reads refl
  overlong_not_read long TooLong h = same refl
  overlong_not_read long _ h = absurd h

  there_absent : (fs : Option Files) (b : Text) → IsThere fs limit file b
      → Told fs (λ m. m file ≡ None) → ⊥
  there_absent None b there absent = there
  there_absent (Some m) b there absent =
      let is = there.0 in let e : None ≡ Some b = sym absent ∙ is in cc

  there_long : (fs : Option Files) (b : Text) → IsThere fs limit file b
      → Told fs (λ m. (bytes : Text) × (m file ≡ Some bytes) × (limit < length bytes)) → ⊥
  there_long None b there long = there
  there_long (Some m) b there long =
      let is = there.0 in
      let e : Some long.0 ≡ Some b = sym long.1 ∙ is in
      let same : long.0 ≡ b = cc in
      let more : limit < length b = subst (λ (t : Text). limit < length t) same long.2 in
      let few : length b ≤ limit = there.1 in
      omega arith

  pub there_not_read : (number : ℕ) (b : Text) → IsThere files limit file b → (a : Answer)
      → NotRead files before after limit file a → IsNear number a
  there_not_read number b there Absent h = absurd (there_absent files b there h.1)
  there_not_read number b there ReadFault h = reads refl
  there_not_read number b there TooLong h = absurd (there_long files b there h.1)
  there_not_read number b there _ h = absurd h
