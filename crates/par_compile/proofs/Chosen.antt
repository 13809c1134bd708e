-- Which of two files a class has.
use Rattle.std.proofs.Common.{◌≡◌, ℕ, ◌<◌, ◌≤◌, Bool, true, false, List, length, Option, Some, None}
use Rattle.std.proofs.Common.{subst, sym}
use Rattle.std.specs.Prelude.{Result, Ok, Err, IfOk, MatchOption}
use Rattle.par_base.specs.declared.memory.NoMemory.{NoMemory}
use Rattle.par_typed.specs.declared.table.ClassInfo.{ClassInfo}
use Rattle.par_typed.specs.declared.table.Table.{Table}
use Rattle.par_pool.specs.declared.reader.TheConstants.{LONGEST_CLASS}
use Rattle.par_class.specs.declared.file.ClassFile.{ClassFile}
use Rattle.par_class.specs.Spelling.{Spells}
use Rattle.par_compile_laws.specs.Members.{Member}
use Rattle.par_compile_laws.specs.Files.{written}
use Rattle.par_compile.specs.Whole.{IsOwnFile, IsShortFile, IsLongFile, AreOwnBytes}
use Rattle.par_compile.specs.Whole.{IsFirstMade, Follows}

-- a file of a class whose bytes are few enough, or are not
pub long_or_short : (frames : Bool) (table : Table) (class : ClassInfo) (ms : List Member)
    (file : ClassFile) → IsOwnFile frames table class ms file
    → (made : Result (Option (List ℕ)) NoMemory)
    → IfOk made (λ found. MatchOption found (LONGEST_CLASS < length (written file))
    (λ bytes. Spells bytes file × (length bytes ≤ LONGEST_CLASS)))
    → IfOk made (λ found. MatchOption found (IsLongFile frames table class ms)
    (IsShortFile frames table class ms))
long_or_short frames table class ms file is (Err e) h = tt
long_or_short frames table class ms file is (Ok None) h =
    record { file = file; is = is; long = h }
long_or_short frames table class ms file is (Ok (Some bytes)) h =
    record { file = file; is = is; spells = h.0; short = h.1 }

module _ (table : Table) (class : ClassInfo) (ms : List Member)
    (makes : Bool → Result (Option (List ℕ)) NoMemory → Type 0)
    (tells : (frames : Bool) (made : Result (Option (List ℕ)) NoMemory) → makes frames made
    → IfOk made (λ found. MatchOption found (IsLongFile frames table class ms)
    (IsShortFile frames table class ms))) where
  -- behind a file with frames that is long
  unframed : IsLongFile true table class ms → (made : Result (Option (List ℕ)) NoMemory)
      → makes false made → IfOk made (AreOwnBytes table class ms)
  unframed long (Err e) makes = tt
  unframed long (Ok None) made = record {
    framed = long;
    unframed = tells false (Ok None) made;
  }
  unframed long (Ok (Some bytes)) made = record {
    frames = false;
    is = tells false (Ok (Some bytes)) made;
    unframed = λ unframed. long;
  }

  followed : (first made : Result (Option (List ℕ)) NoMemory) → makes true first
      → Follows makes first made → IfOk made (AreOwnBytes table class ms)
  followed (Err e) made framed follows =
      subst (λ (m : Result (Option (List ℕ)) NoMemory). IfOk m (AreOwnBytes table class ms))
      (sym follows) tt
  followed (Ok None) made framed follows = unframed (tells true (Ok None) framed) made follows
  followed (Ok (Some bytes)) made framed follows =
      subst (λ (m : Result (Option (List ℕ)) NoMemory). IfOk m (AreOwnBytes table class ms))
      (sym follows)
      (record {
        frames = true;
        is = tells true (Ok (Some bytes)) framed;
        unframed = λ (unframed : true ≡ false). absurd (cc unframed);
      })

  -- what is made first are the bytes of the class, or it has none
  pub own-bytes : (made : Result (Option (List ℕ)) NoMemory) → IsFirstMade makes made
      → IfOk made (AreOwnBytes table class ms)
  own-bytes made is = followed is.first made is.made is.follows
