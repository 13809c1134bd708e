-- What exact counts of the answers tell of the causes.
use Rattle.std.proofs.Common.{◌≡◌, ℕ, ◌≤◌, arith, Result, Ok, Err, IfOk, IsErrOf, OnOk, OnErr}
use Rattle.std.proofs.Common.{MatchResult, rules}
use Rattle.std.proofs.lemmas.Bool.Decides.{nat_tests}
use Rattle.par_io.specs.Causes.{Rose, ReadFaultsStand, WriteFaultsStand, FolderCounts, NoneFalls}
use Rattle.par_io.specs.Causes.{SameAnswers, CountsRead, CountsWrite, raised}
use Rattle.par_io.specs.declared.outside.ReadFail.{ReadFail}
use Rattle.par_io.specs.declared.outside.WriteFail.{WriteFail}

pub rose-raised : (n : ℕ) → Rose n (raised n)
rose-raised n = grind (arith, nat_tests)

pub never_falls-raised : (n : ℕ) → n ≤ raised n
never_falls-raised n = grind (arith, nat_tests)

-- no count falls, and the count of an answer's kind rose
pub record ReadCauses {T : Type 0} (answer : Result T ReadFail)
    (old new : FolderCounts) : Type 0 where
  pub none_falls : NoneFalls old new
  pub absent : IsErrOf answer ReadFail.Absent → Rose old.absents new.absents
  pub long : IsErrOf answer ReadFail.TooLong → Rose old.longs new.longs
  pub failed : IsErrOf answer ReadFail.Failed → Rose old.faults new.faults
  pub faults_stand : ReadFaultsStand answer old.faults new.faults

pub causes_of_read : {T : Type 0} (answer : Result T ReadFail) (old new : FolderCounts)
    → MatchResult answer (λ _. SameAnswers old new) (λ fail. CountsRead fail old new)
    → ReadCauses answer old new
causes_of_read (Ok value) old new same =
    record {
      none_falls = (omega arith, omega arith, omega arith);
      absent = λ no. cc;
      long = λ no. cc;
      failed = λ no. cc;
      faults_stand = same.0;
    }
causes_of_read (Err ReadFail.Absent) old new counts =
    record {
      none_falls = (omega arith, grind (arith, never_falls-raised), omega arith);
      absent = λ yes. rw counts.0 (rose-raised old.absents);
      long = λ no. cc;
      failed = λ no. cc;
      faults_stand = counts.1;
    }
causes_of_read (Err ReadFail.TooLong) old new counts =
    record {
      none_falls = (omega arith, omega arith, grind (arith, never_falls-raised));
      absent = λ no. cc;
      long = λ yes. rw counts.0 (rose-raised old.longs);
      failed = λ no. cc;
      faults_stand = counts.1;
    }
causes_of_read (Err ReadFail.Failed) old new counts =
    record {
      none_falls = (grind (arith, never_falls-raised), omega arith, omega arith);
      absent = λ no. cc;
      long = λ no. cc;
      failed = λ yes. rw counts.0 (rose-raised old.faults);
      faults_stand = tt;
    }
causes_of_read (Err ReadFail.Memory) old new same =
    record {
      none_falls = (omega arith, omega arith, omega arith);
      absent = λ no. cc;
      long = λ no. cc;
      failed = λ no. cc;
      faults_stand = same.0;
    }

-- no count falls, and the count of faults rose where the write failed
pub record WriteCauses {T : Type 0} (answer : Result T WriteFail)
    (old new : FolderCounts) : Type 0 where
  pub none_falls : NoneFalls old new
  pub failed : IsErrOf answer WriteFail.Failed → Rose old.faults new.faults
  pub faults_stand : WriteFaultsStand answer old.faults new.faults

pub causes_of_write : {T : Type 0} (answer : Result T WriteFail) (old new : FolderCounts)
    → MatchResult answer (λ _. SameAnswers old new) (λ fail. CountsWrite fail old new)
    → WriteCauses answer old new
causes_of_write (Ok value) old new same =
    record {
      none_falls = (omega arith, omega arith, omega arith);
      failed = λ no. cc;
      faults_stand = same.0;
    }
causes_of_write (Err WriteFail.Failed) old new counts =
    record {
      none_falls = (grind (arith, never_falls-raised), omega arith, omega arith);
      failed = λ yes. rw counts.0 (rose-raised old.faults);
      faults_stand = tt;
    }
causes_of_write (Err WriteFail.Memory) old new same =
    record {
      none_falls = (omega arith, omega arith, omega arith);
      failed = λ no. cc;
      faults_stand = same.0;
    }

-- the count of faults does not fall, and rose where the put failed
pub record PutCauses {T E : Type 0} (answer : Result T E) (old new : ℕ) : Type 0 where
  pub never_falls : old ≤ new
  pub failed : OnErr answer (Rose old new)

pub causes_of_put : {T E : Type 0} (answer : Result T E) (old new : ℕ) → OnOk answer (new ≡ old)
    → OnErr answer (new ≡ raised old) → PutCauses answer old new
causes_of_put (Ok value) old new same fault =
    record { never_falls = omega arith; failed = search rules }
causes_of_put (Err fail) old new same fault =
    record { never_falls = grind (arith, never_falls-raised); failed = rw fault (rose-raised old) }

-- a fact that holds whatever the answer holds of an Ok
pub always_on_ok : {T E P : Type 0} (answer : Result T E) → P → OnOk answer P
always_on_ok (Ok value) p = p
always_on_ok (Err fail) p = search rules

pub always_on_err : {T E P : Type 0} (answer : Result T E) → P → OnErr answer P
always_on_err (Ok value) p = search rules
always_on_err (Err fail) p = p

pub always_if_ok : {T E : Type 0} (P : T → Type 0) (answer : Result T E) → ((value : T) → P value)
    → IfOk answer P
always_if_ok P (Ok value) p = p value
always_if_ok P (Err fail) p = search rules
