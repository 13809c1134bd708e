-- How loading ends.
use Rattle.std.proofs.Common.{◌≡◌, ℕ, ◌+◌, ◌≤◌, true, false, cond, Option, Result, Ok, Err}
use Rattle.std.proofs.Common.{IsErrAnd, refl, sym, ap, subst, ◌∙◌, inl, inr, arith}
use Rattle.par_io.specs.Causes.{FolderCounts, Makes, NoneFalls, Rose, Files}
use Rattle.par_class.specs.declared.file.ClassFile.{ClassFile}
use Rattle.par_loader.specs.declared.error.Unloaded.{Unloaded}
use Rattle.par_loader.specs.declared.error.Unloaded.TheVariants.{Absent, TooLong, Failed, BadClass}
use Rattle.par_loader.specs.declared.error.Unloaded.TheVariants.{Memory}
use Rattle.par_loader.specs.declared.found.Unfound.{Unfound}
use Rattle.par_loader.specs.declared.found.Unfound.TheVariants as unfound
use Rattle.par_loader.specs.Reads.{Text, MakesAtMost, FailsWithin, WasFound}
use Rattle.par_loader.specs.Mentions.{Naming}
use Rattle.par_loader.specs.Found as found
use Rattle.par_loader.specs.Found.{Found, found_in, Finds, Rises}
use Rattle.par_base.specs.Names.{is_name}
use Rattle.par_loader.proofs.Finding.{some_there}
use Rattle.par_loader.specs.Loaded.{Loaded, whole, missing, overlong, refused, absent, Load, Step}
use Rattle.par_loader.specs.Loaded.{ends, asked, behind_first, step_of, step, main_naming}
use Rattle.par_loader.specs.Loaded.{main_step, main_step_of, loaded}
use Rattle.par_loader.specs.Ends.{IsRefusal, Reads, Unended, IsBadAs, AnswersFor, AnswersFirst}
use Rattle.par_loader.specs.Ends.{Steps, StepsFirst, FaultsStand, Loads, comes_to}
use Rattle.par_loader.specs.declared.read_files.Loading.{Loading}
use Rattle.par_loader.proofs.Seen.{seen, seen_of}
use Rattle.par_loader.proofs.Asked.{asks_one, asks_first}
use Rattle.par_loader.proofs.Counting.{rose_since, makes_both, at_most, most_both, fails_both}
use Rattle.par_loader.proofs.Counting.{more_fails, more_reads}

-- what is told of a class file that is refused
bad : (E : ℕ → Loaded → Type 0) (most : ℕ) (before after : FolderCounts) (class : Text)
    (number value : ℕ) (e : Unloaded) → IsBadAs class number value e
    → Reads E before after (λ is. IsRefusal is before after class number value)
    → MakesAtMost most 0 before after → Unended E most before after e
bad E most before after class number value (BadClass c n v) told h few =
    subst (λ (x : Text). Reads E before after (λ is. IsRefusal is before after x n v)) (sym told.0)
    (subst (λ (x : ℕ). Reads E before after (λ is. IsRefusal is before after class x v))
    (sym told.1)
    (subst (λ (x : ℕ). Reads E before after (λ is. IsRefusal is before after class number x))
    (sym told.2) h))
bad E most before after class number value Memory told h few = few
bad E most before after class number value Absent told h few = absurd told
bad E most before after class number value TooLong told h few = absurd told
bad E most before after class number value Failed told h few = absurd told

module _ (E : ℕ → Loaded → Type 0) (most : ℕ) (before after : FolderCounts) where
  as_told : (e f : Unloaded) → e ≡ f → Unended E most before after f → Unended E most before after e
  as_told e f same h = subst (Unended E most before after) (sym same) h

-- a name that no class can have
pub unnamed : (m : Naming) (E : ℕ → Loaded → Type 0) (most : ℕ) (counts : FolderCounts)
    (e : Unloaded) → E 0 (refused m.class 40 m.index) → IsBadAs m.class 40 m.index e
    → Unended E most counts counts e
unnamed m E most counts e is told =
    bad E most counts counts m.class 40 m.index e told (0, (refl, refl), inl is)
    (at_most 0 most counts counts (omega arith) (refl, refl))

-- the only read that is made fails
only_fails : (reads : ℕ) (before after : FolderCounts) → reads ≡ 1 → Makes 1 0 before after
    → Rose before.faults after.faults → FailsWithin reads before after
only_fails reads before after one makes rose =
    record { earlier = 0; within = omega (arith, one); makes = makes; rose = rose }

module _ (m : Naming) (f : Found) (before after : FolderCounts)
    (makes : Makes 1 0 before after) where
  abbrev one : ℕ
  one = asked (step_of m f)

  few : MakesAtMost one 0 before after
  few = let is = asks_one m f in at_most 1 one before after (omega (arith, is)) makes

  -- a class has no file that is taken
  pub untaken : (u : Unfound) (e : Unloaded) → AnswersFor m u e → Finds (Err u) f
      → Rises u before after
      → Unended (λ reads end. step_of m f ≡ ends reads end) one before after e
  unfolding Finds
  untaken unfound.Absent e told is rose =
      bad (λ reads end. step_of m f ≡ ends reads end) one before after m.class 40 m.index e told
      (1, makes, inr (ap (step_of m) is, refl, rose)) few
  untaken unfound.TooLong e told is rose =
      as_told (λ reads end. step_of m f ≡ ends reads end) one before after e TooLong told
      (1, makes, (ap (step_of m) is, rose))
  untaken unfound.Failed e told is rose =
      as_told (λ reads end. step_of m f ≡ ends reads end) one before after e Failed told
      (only_fails one before after (asks_one m f) makes rose)
  untaken unfound.Another e told is rose =
      bad (λ reads end. step_of m f ≡ ends reads end) one before after m.class 40 m.index e told
      (1, makes, inl (ap (step_of m) is)) few
  untaken (unfound.Broken number value) e told is rose =
      bad (λ reads end. step_of m f ≡ ends reads end) one before after m.name number value e told
      (1, makes, inl (ap (step_of m) is)) few
  untaken unfound.Memory e told is rose =
      as_told (λ reads end. step_of m f ≡ ends reads end) one before after e Memory told few

-- the same of the class that is asked for
module _ (main : Text) (f : Found) (before after : FolderCounts)
    (makes : Makes 1 0 before after) where
  abbrev made : ℕ
  made = asked (main_step_of main f)

  few_first : MakesAtMost made 0 before after
  few_first =
      let is = asks_first main f in at_most 1 made before after (omega (arith, is)) makes

  pub main_missing : Finds (Err unfound.Absent) f → Rose before.absents after.absents
      → Unended (λ reads end. main_step_of main f ≡ ends reads end) made before after Absent
  unfolding Finds
  main_missing is rose = (1, makes, (ap (main_step_of main) is, rose))

  pub main_untaken : (u : Unfound) (e : Unloaded) → (u ≡ unfound.Absent → ⊥)
      → AnswersFor (main_naming main) u e → Finds (Err u) f → Rises u before after
      → Unended (λ reads end. main_step_of main f ≡ ends reads end) made before after e
  unfolding Finds
  main_untaken unfound.Absent e other told is rose = absurd (other refl)
  main_untaken unfound.TooLong e other told is rose =
      as_told (λ reads end. main_step_of main f ≡ ends reads end) made before after e TooLong told
      (1, makes, (ap (main_step_of main) is, rose))
  main_untaken unfound.Failed e other told is rose =
      as_told (λ reads end. main_step_of main f ≡ ends reads end) made before after e Failed told
      (only_fails made before after (asks_first main f) makes rose)
  main_untaken unfound.Another e other told is rose =
      bad (λ reads end. main_step_of main f ≡ ends reads end) made before after main 40 0 e told
      (1, makes, inl (ap (main_step_of main) is)) few_first
  main_untaken (unfound.Broken number value) e other told is rose =
      bad (λ reads end. main_step_of main f ≡ ends reads end) made before after main number value e
      told (1, makes, inl (ap (main_step_of main) is)) few_first
  main_untaken unfound.Memory e other told is rose =
      as_told (λ reads end. main_step_of main f ≡ ends reads end) made before after e Memory
      told few_first

-- no files are loaded
abbrev pub IsStop : Loaded → Type 0
IsStop (whole files) = ⊥
IsStop _ = Unit {0}

-- other ends that follow from these
pub weaker : (E F : ℕ → Loaded → Type 0) (most : ℕ) (before after : FolderCounts)
    → ((reads : ℕ) (end : Loaded) → IsStop end → E reads end → F reads end)
    → (e : Unloaded) → Unended E most before after e → Unended F most before after e
weaker E F most before after to Absent h = (h.0, h.1, (to h.0 missing tt h.2.0, h.2.1))
weaker E F most before after to TooLong h = (h.0, h.1, (to h.0 overlong tt h.2.0, h.2.1))
weaker E F most before after to Failed h = h
weaker E F most before after to (BadClass c n v) (reads, makes, inl is) =
    (reads, makes, inl (to reads (refused c n v) tt is))
weaker E F most before after to (BadClass c n v) (reads, makes, inr is) =
    (reads, makes, inr (to reads (absent c v) tt is.0, is.1, is.2))
weaker E F most before after to Memory h = h

-- the same of more reads
pub longer : (E : ℕ → Loaded → Type 0) (some all : ℕ) (before after : FolderCounts) → some ≤ all
    → (e : Unloaded) → Unended E some before after e → Unended E all before after e
longer E some all before after less Absent h = h
longer E some all before after less TooLong h = h
longer E some all before after less Failed h = more_fails some all before after less h
longer E some all before after less (BadClass c n v) h = h
longer E some all before after less Memory h = more_reads some all before after less h

-- ---- one class, found or not

named_is : (m : Naming) (o : Option Text) → is_name m.name ≡ true
    → step m o ≡ step_of m (found_in m.name o)
named_is m o is =
    ap (λ b. cond b (step_of m (found_in m.name o)) (ends 0 (refused m.class 40 m.index))) is

unnamed_is : (m : Naming) (o : Option Text) → is_name m.name ≡ false
    → step m o ≡ ends 0 (refused m.class 40 m.index)
unnamed_is m o is =
    ap (λ b. cond b (step_of m (found_in m.name o)) (ends 0 (refused m.class 40 m.index))) is

module _ (files : Option Files) (m : Naming) (before after : FolderCounts) where
  pub step_unnamed : (e : Unloaded) → is_name m.name ≡ false → IsBadAs m.class 40 m.index e
      → (o : Option Text) × WasFound files m.name o × Steps (step m o) before before (Err e)
  step_unnamed e unnamed_ told =
      let some = some_there files m.name in (
        some.0,
        some.1,
        unnamed m (λ reads end. step m some.0 ≡ ends reads end) (asked (step m some.0)) before e
            (unnamed_is m some.0 unnamed_) told,
      )

  pub step_wants : (e : Unloaded) → e ≡ Memory
      → (o : Option Text) × WasFound files m.name o × Steps (step m o) before before (Err e)
  step_wants e is =
      let some = some_there files m.name in (
        some.0,
        some.1,
        subst (λ (x : Unloaded). Steps (step m some.0) before before (Err x)) (sym is)
            (at_most 0 (asked (step m some.0)) before before (omega arith) (refl, refl)),
      )

  pub step_lacks : (r : Result ClassFile Unloaded) → IsErrAnd r (λ e. e ≡ Memory)
      → (o : Option Text) × WasFound files m.name o × Steps (step m o) before before r
  step_lacks (Ok f) is = absurd is
  step_lacks (Err e) is = step_wants e is

  pub step_found : (f : ClassFile) → is_name m.name ≡ true → Makes 1 0 before after
      → (o : Option Text) × WasFound files m.name o × Finds (Ok f) (found_in m.name o)
      → (o : Option Text) × WasFound files m.name o × Steps (step m o) before after (Ok f)
  unfolding Finds
  step_found f yes_named makes h =
      (h.0, h.1, (named_is m h.0 yes_named ∙ ap (step_of m) h.2, makes))

  pub step_untaken : (u : Unfound) (e : Unloaded) → is_name m.name ≡ true → Makes 1 0 before after
      → AnswersFor m u e → Rises u before after
      → (o : Option Text) × WasFound files m.name o × Finds (Err u) (found_in m.name o)
      → (o : Option Text) × WasFound files m.name o × Steps (step m o) before after (Err e)
  step_untaken u e yes_named makes told rose h = (
    h.0,
    h.1,
    let named = named_is m h.0 yes_named in
        subst (λ (n : ℕ). Unended (λ reads end. step m h.0 ≡ ends reads end) n before after e)
        (sym (ap asked named))
        (weaker (λ reads end. step_of m (found_in m.name h.0) ≡ ends reads end)
        (λ reads end. step m h.0 ≡ ends reads end)
        (asked (step_of m (found_in m.name h.0))) before after
        (λ reads end stop is. named ∙ is) e
        (untaken m (found_in m.name h.0) before after makes u e told h.2 rose)),
  )

module _ (files : Option Files) (main : Text) (before after : FolderCounts) where
  pub first_wants : (e : Unloaded) → e ≡ Memory
      → (o : Option Text) × WasFound files main o × StepsFirst main o before before (Err e)
  first_wants e is =
      let some = some_there files main in (
        some.0,
        some.1,
        subst (λ (x : Unloaded). StepsFirst main some.0 before before (Err x)) (sym is)
            (at_most 0 (asked (main_step main some.0)) before before (omega arith) (refl, refl)),
      )

  pub first_lacks : (r : Result ClassFile Unloaded) → IsErrAnd r (λ e. e ≡ Memory)
      → (o : Option Text) × WasFound files main o × StepsFirst main o before before r
  first_lacks (Ok f) is = absurd is
  first_lacks (Err e) is = first_wants e is

  pub first_found : (f : ClassFile) → Makes 1 0 before after
      → (o : Option Text) × WasFound files main o × Finds (Ok f) (found_in main o)
      → (o : Option Text) × WasFound files main o × StepsFirst main o before after (Ok f)
  unfolding Finds
  first_found f makes h = (h.0, h.1, (ap (main_step_of main) h.2, makes))

  pub first_missing : Makes 1 0 before after → Rose before.absents after.absents
      → (o : Option Text) × WasFound files main o × Finds (Err unfound.Absent) (found_in main o)
      → (o : Option Text) × WasFound files main o × StepsFirst main o before after (Err Absent)
  first_missing makes rose h =
      (h.0, h.1, main_missing main (found_in main h.0) before after makes h.2 rose)

  pub first_untaken : (u : Unfound) (e : Unloaded) → (u ≡ unfound.Absent → ⊥)
      → Makes 1 0 before after → AnswersFor (main_naming main) u e → Rises u before after
      → (o : Option Text) × WasFound files main o × Finds (Err u) (found_in main o)
      → (o : Option Text) × WasFound files main o × StepsFirst main o before after (Err e)
  first_untaken u e other makes told rose h =
      (h.0, h.1, main_untaken main (found_in main h.0) before after makes u e other told h.2 rose)

  pub first_answered : (u : Unfound) (e : Unloaded) → Makes 1 0 before after → AnswersFirst main u e
      → Rises u before after
      → (o : Option Text) × WasFound files main o × Finds (Err u) (found_in main o)
      → (o : Option Text) × WasFound files main o × StepsFirst main o before after (Err e)
  first_answered unfound.Absent e makes told rose h =
      subst (λ (x : Unloaded). (o : Option Text) × WasFound files main o
      × StepsFirst main o before after (Err x)) (sym told) (first_missing makes rose h)
  first_answered unfound.TooLong e makes told rose h =
      first_untaken unfound.TooLong e (λ is. cc is) makes told rose h
  first_answered unfound.Failed e makes told rose h =
      first_untaken unfound.Failed e (λ is. cc is) makes told rose h
  first_answered unfound.Another e makes told rose h =
      first_untaken unfound.Another e (λ is. cc is) makes told rose h
  first_answered (unfound.Broken number value) e makes told rose h =
      first_untaken (unfound.Broken number value) e (λ is. cc is) makes told rose h
  first_answered unfound.Memory e makes told rose h =
      first_untaken unfound.Memory e (λ is. cc is) makes told rose h

-- ---- a step that ends behind some reads ends all

module _ (s : Step) (load : Load) (first most : ℕ) (before between after : FolderCounts)
    (ended : (reads : ℕ) (end : Loaded) → s ≡ ends reads end → comes_to load (reads + first) end)
    (few : first + asked s ≤ most) (makes : Makes first 0 before between)
    (none_falls : NoneFalls before between)
  where
    pub ended_all : (e : Unloaded)
        → Unended (λ reads end. s ≡ ends reads end) (asked s) between after e
        → Unended (comes_to load) most before after e
    ended_all Absent h = (
      h.0 + first,
      makes_both first h.0 before between after makes h.1,
      (ended h.0 missing h.2.0, rose_since _ _ _ none_falls.1 h.2.1),
    )
    ended_all TooLong h = (
      h.0 + first,
      makes_both first h.0 before between after makes h.1,
      (ended h.0 overlong h.2.0, rose_since _ _ _ none_falls.2 h.2.1),
    )
    ended_all Failed h = fails_both first (asked s) most before between after few makes none_falls h
    ended_all (BadClass c n v) (reads, more, inl is) = (
      reads + first,
      makes_both first reads before between after makes more,
      inl (ended reads (refused c n v) is),
    )
    ended_all (BadClass c n v) (reads, more, inr is) = (
      reads + first,
      makes_both first reads before between after makes more,
      inr (ended reads (absent c v) is.0, is.1, rose_since _ _ _ none_falls.1 is.2),
    )
    ended_all Memory h = most_both first (asked s) most before between after few makes h

stands : (e : Unloaded) (before after : ℕ) → after ≡ before
    → FaultsStand {A = ClassFile} (Err e) before after
stands Failed before after is = tt
stands Absent before after is = is
stands TooLong before after is = is
stands (BadClass class number value) before after is = is
stands Memory before after is = is

-- a fault of a read is told
pub told_stand : (m : Naming) (u : Unfound) (e : Unloaded) (before after : ℕ) → AnswersFor m u e
    → found.FaultsStand (Err u) before after → FaultsStand {A = ClassFile} (Err e) before after
told_stand m unfound.Failed e before after told stand =
    subst (λ (x : Unloaded). FaultsStand {A = ClassFile} (Err x) before after) (sym told) tt
told_stand m unfound.Absent e before after told stand = stands e before after stand
told_stand m unfound.TooLong e before after told stand = stands e before after stand
told_stand m unfound.Another e before after told stand = stands e before after stand
told_stand m (unfound.Broken number value) e before after told stand = stands e before after stand
told_stand m unfound.Memory e before after told stand = stands e before after stand

pub first_stand : (main : Text) (u : Unfound) (e : Unloaded) (before after : ℕ)
    → AnswersFirst main u e → found.FaultsStand (Err u) before after
    → FaultsStand {A = ClassFile} (Err e) before after
first_stand main unfound.Absent e before after told stand = stands e before after stand
first_stand main unfound.Failed e before after told stand =
    told_stand (main_naming main) unfound.Failed e before after told stand
first_stand main unfound.TooLong e before after told stand = stands e before after stand
first_stand main unfound.Another e before after told stand = stands e before after stand
first_stand main (unfound.Broken number value) e before after told stand =
    stands e before after stand
first_stand main unfound.Memory e before after told stand = stands e before after stand

-- ---- all classes

pub loads_lacks : (files : Option Files) (main : Text) (before : FolderCounts)
    (r : Result Loading Unloaded) → IsErrAnd r (λ e. e ≡ Memory) → Loads files main before before r
loads_lacks files main before (Ok loading) is = absurd is
loads_lacks files main before (Err e) is = (
  seen files,
  seen_of files,
  let load = loaded (seen files) main in
      subst (λ (x : Unloaded). Unended (comes_to load) (behind_first load) before before x)
      (sym is) (at_most 0 (behind_first load) before before (omega arith) (refl, refl)),
)
