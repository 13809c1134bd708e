-- The status of a check and of a compilation is the one that the source asks for.
use Rattle.std.proofs.Common.{◌≡◌, ℕ, List, Option, refl, sym, subst, inl, inr}
use Rattle.std.specs.Prelude.{◌⊎◌}
use Rattle.par_io.specs.Causes.{FolderCounts, Files}
use Rattle.par_compile.specs.declared.compiled.CompiledClass.{CompiledClass}
use Rattle.par_lexer.specs.declared.cut.TheConstants.{LONGEST_SOURCE}
use Rattle.par_observer.specs.Judgements.{IsAcceptedSource}
use Rattle.par_observer.proofs.Clashes.{accepted_or_broken}
use Rattle.par_tool.specs.declared.answer.Answer.{Answer}
use Rattle.par_tool.specs.declared.answer.Answer.TheVariants.{Accepted, Compiled, Refused}
use Rattle.par_tool.specs.declared.answer.Answer.TheVariants.{Absent, ReadFault, WriteFault}
use Rattle.par_tool.specs.declared.answer.Answer.TheVariants.{TooLong}
use Rattle.par_tool.specs.Texts.{status}
use Rattle.par_tool.specs.Outside.{Text, NotRead, IsThere, IsMissing, IsOverlong}
use Rattle.par_tool.specs.Sources.{IsBroken, IsSecureAs, IsSecureSource, ReadSource, ReadCompiled}
use Rattle.par_tool.specs.Sources.{Checked, CompiledSo}
use Rattle.par_tool.specs.Exactly.{IsSaidBy, Judges, TellsSource, Checks, Compiles}
use Rattle.par_tool.proofs.Statuses.{IsNear, same, near_status, compiles, read_there, missing_read}
use Rattle.par_tool.proofs.Statuses.{overlong_read, missing_not_read, overlong_not_read}
use Rattle.par_tool.proofs.Statuses.{there_not_read}

-- a source whose program is secure is accepted
pub secure_is_accepted : (source : Text) → IsSecureSource source → IsAcceptedSource source
secure_is_accepted source (typed, h) = record {
  tree = h.accepted.tree;
  short = h.accepted.short;
  is_tree = h.accepted.is_tree;
  accepted = h.accepted.keeps.0;
}

-- what a check says of a source
abbrev CheckVerdict : Text → Answer → Type 0
CheckVerdict source Accepted = IsSecureSource source
CheckVerdict source (Refused rule line column limit count) =
    IsBroken source rule line column limit count
CheckVerdict source _ = ⊥

-- what a compilation says of a source
abbrev CompileVerdict : Text → Answer → Type 0
CompileVerdict source (Compiled many) = IsAcceptedSource source
CompileVerdict source WriteFault = IsAcceptedSource source
CompileVerdict source (Refused rule line column limit count) =
    IsBroken source rule line column limit count
CompileVerdict source _ = ⊥

-- no read failed that this answer would tell of
abbrev pub IsAnyhow : Answer → Type 0
IsAnyhow a = (number : ℕ) → IsNear number a

pub clash : (source : Text) (rule line column limit count : ℕ) → IsAcceptedSource source
    → IsBroken source rule line column limit count → ⊥
clash source rule line column limit count is broken =
    accepted_or_broken source broken.refusal is broken.breaks

-- ---- the two verdicts

check_accepts : (source : Text) (a : Answer) → CheckVerdict source a → IsAcceptedSource source
    → IsNear 0 a
check_accepts source Accepted v h = same refl
check_accepts source (Refused rule line column limit count) v h =
    absurd (clash source rule line column limit count h v)
check_accepts source _ v h = absurd v

check_refuses : (source : Text) (a : Answer) → CheckVerdict source a
    → (rule line column limit count : ℕ) → IsBroken source rule line column limit count
    → IsNear 1 a
check_refuses source Accepted v rule line column limit count h =
    absurd (clash source rule line column limit count (secure_is_accepted source v) h)
check_refuses source (Refused r l c k n) v rule line column limit count h = same refl
check_refuses source _ v rule line column limit count h = absurd v

compile_accepts : (source : Text) (a : Answer) → CompileVerdict source a
    → IsAcceptedSource source → IsNear 0 a ⊎ (a ≡ WriteFault)
compile_accepts source (Compiled many) v h = inl (same refl)
compile_accepts source WriteFault v h = inr refl
compile_accepts source (Refused rule line column limit count) v h =
    absurd (clash source rule line column limit count h v)
compile_accepts source _ v h = absurd v

compile_refuses : (source : Text) (a : Answer) → CompileVerdict source a
    → (rule line column limit count : ℕ) → IsBroken source rule line column limit count
    → IsNear 1 a
compile_refuses source (Compiled many) v rule line column limit count h =
    absurd (clash source rule line column limit count v h)
compile_refuses source WriteFault v rule line column limit count h =
    absurd (clash source rule line column limit count v h)
compile_refuses source (Refused r l c k n) v rule line column limit count h = same refl
compile_refuses source _ v rule line column limit count h = absurd v

-- ---- files that the folder tells of

module _ (V : Text → Answer → Type 0) (files : Option Files) (before after : FolderCounts)
    (file : Text) where
  -- a source was read and has this verdict, or none was had
  abbrev pub Found : Answer → Type 0
  Found a =
      (ReadSource files file (λ source. V source a))
      ⊎ NotRead files before after LONGEST_SOURCE file a

  pub missing_near : IsMissing files file → (a : Answer) → Found a → IsNear 3 a
  missing_near missing a (inl h) =
      absurd (missing_read files LONGEST_SOURCE file h.0 missing h.1)
  missing_near missing a (inr h) =
      missing_not_read files before after LONGEST_SOURCE file missing a h

  pub overlong_near : IsOverlong files LONGEST_SOURCE file → (a : Answer) → Found a → IsNear 8 a
  overlong_near long a (inl h) = absurd (overlong_read files LONGEST_SOURCE file h.0 long h.1)
  overlong_near long a (inr h) =
      overlong_not_read files before after LONGEST_SOURCE file long a h

  -- of a source that is there: its verdict, or a read that failed
  pub there_found : (source : Text) → IsThere files LONGEST_SOURCE file source → (a : Answer)
      → Found a → V source a ⊎ IsAnyhow a
  there_found source there a (inl h) =
      let is : h.0 ≡ source = sym (read_there files LONGEST_SOURCE file source h.0 there h.1) in
      inl (subst (λ (s : Text). V s a) is h.2)
  there_found source there a (inr h) =
      inr (λ number. there_not_read files before after LONGEST_SOURCE file number source there a h)

  pub near_there : (number : ℕ) (source : Text) (a : Answer) → (V source a → IsNear number a)
      → V source a ⊎ IsAnyhow a → IsNear number a
  near_there number source a near (inl v) = near v
  near_there number source a near (inr reads) = reads number

  -- the answer's status is that of the source, in a call with this status
  pub tells_source : (Accepts : Text → ℕ → Type 0) (result : ℕ) (a : Answer) → Found a
      → ((source : Text) → V source a ⊎ IsAnyhow a → IsAcceptedSource source
      → Accepts source result)
      → ((source : Text) → V source a → (rule line column limit count : ℕ)
      → IsBroken source rule line column limit count → IsNear 1 a)
      → IsSaidBy result (status a) → TellsSource (Judges Accepts) files file result
  tells_source Accepts result a found accepts refuses said = record {
    missing = λ h. near_status 3 result a (missing_near h a found) said;
    overlong = λ h. near_status 8 result a (overlong_near h a found) said;
    there = λ source there. record {
      accepted = λ h. accepts source (there_found source there a found) h;
      refused = λ rule line column limit count h.
          near_status 1 result a
          (near_there 1 source a (λ v. refuses source v rule line column limit count h)
          (there_found source there a found)) said;
    };
  }

module _ (files : Option Files) (before after : FolderCounts) (file : Text) where
  checked_found : (a : Answer) → Checked files before after file a
      → Found CheckVerdict files before after file a
  checked_found Accepted h = inl h
  checked_found (Refused rule line column limit count) h = inl h
  checked_found Absent h = inr h
  checked_found ReadFault h = inr h
  checked_found TooLong h = inr h
  checked_found _ h = absurd h

  read_accepted : (P : List CompiledClass → Type 0) → ReadCompiled files file P
      → ReadSource files file IsAcceptedSource
  read_accepted P h =
      let at = h.4 in (at.0, at.1, secure_is_accepted at.0 (h.0, at.2))

  compiled_found : (later : Option Files) (a : Answer)
      → CompiledSo files later before after file a
      → Found CompileVerdict files before after file a
  compiled_found later (Compiled many) h =
      let done = h.1 in
      let is : IsSecureAs done.source done.typed =
      record { accepted = done.accepted; secure = done.secure } in
      inl (done.source, done.read, secure_is_accepted done.source (done.typed, is))
  compiled_found later WriteFault h = inl (read_accepted _ h.3)
  compiled_found later (Refused rule line column limit count) h = inl h.2
  compiled_found later Absent h = inr h.2
  compiled_found later ReadFault h = inr h.2
  compiled_found later TooLong h = inr h.2
  compiled_found later _ h = absurd h.2

  check_accepted : (result : ℕ) (a : Answer) → IsSaidBy result (status a) → (source : Text)
      → CheckVerdict source a ⊎ IsAnyhow a → IsAcceptedSource source → Checks source result
  check_accepted result a said source v h =
      near_status 0 result a
      (near_there CheckVerdict files before after file 0 source a
      (λ v. check_accepts source a v h) v) said

  pub tells_check : (result : ℕ) (a : Answer) → Checked files before after file a
      → IsSaidBy result (status a) → TellsSource (Judges Checks) files file result
  tells_check result a h said =
      tells_source CheckVerdict files before after file Checks result a (checked_found a h)
      (check_accepted result a said) (λ source. check_refuses source a) said

  compile_accepted : (result : ℕ) (a : Answer) → IsSaidBy result (status a) → (source : Text)
      → CompileVerdict source a ⊎ IsAnyhow a → IsAcceptedSource source
      → Compiles source result
  compile_accepted result a said source (inl v) h =
      compiles result a said (compile_accepts source a v h)
  compile_accepted result a said source (inr reads) h = compiles result a said (inl (reads 0))

  pub tells_compile : (later : Option Files) (result : ℕ) (a : Answer)
      → CompiledSo files later before after file a → IsSaidBy result (status a)
      → TellsSource (Judges Compiles) files file result
  tells_compile later result a h said =
      tells_source CompileVerdict files before after file Compiles result a
      (compiled_found later a h) (compile_accepted result a said)
      (λ source. compile_refuses source a) said
